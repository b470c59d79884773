-- What it costs to hide corners.
use Rattle.std.proofs.Common.{ℕ, List}
use Rattle.sdc_base.specs.CubeOrder.{price_of_hiding}
use Rattle.sdc_base.specs.declared.cube.Corner.{Corner}
use Rattle.hypercube.specs.Branches.{Setting}
use Rattle.hypercube.specs.LeastCubes.{is_marked, price_in}

-- the price of the corners that aren't hidden yet
abbrev pub price_of : Setting → List Corner → ℕ
price_of setting corners =
    price_of_hiding (is_marked setting.book) (price_in setting.book setting.cells setting.cost) corners
