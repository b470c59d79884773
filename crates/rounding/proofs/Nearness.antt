-- Numbers near the truths have forms near those of the truths.
use Rattle.std.proofs.Common.{ℕ, ◌+◌, ◌*◌, List, [], ◌∷◌, length, arith}
use Rattle.std.proofs.lemmas.Int.{ints}
use Rattle.sdc_base.specs.declared.relation.Relation.{Relation}
use Rattle.sdc_base.specs.Totals.{sum_of}
use Rattle.sdc_base.specs.Systems.{Numbers, form}
use Rattle.rounding.specs.Sums.{IsNear}
use Rattle.sdc_base.proofs.TotalLemmas.{sum_of-cons}

parts_near : (far : ℕ) (x t : Numbers) (cells : List ℕ) → ((c : ℕ) → IsNear far (x c) (t c)) → IsNear (length cells * far) (sum_of x cells) (sum_of t cells)
parts_near far x t [] near = record { low = omega (arith, ints); high = omega (arith, ints) }
parts_near far x t (cell ∷ cells) near =
    let here = near cell in
    let rest = parts_near far x t cells near in
    record {
      low = omega (arith, ints, sum_of-cons x cell cells, sum_of-cons t cell cells, here.low, rest.low);
      high = omega (arith, ints, sum_of-cons x cell cells, sum_of-cons t cell cells, here.high, rest.high);
    }

pub form_near : (far : ℕ) (x t : Numbers) (r : Relation) → ((c : ℕ) → IsNear far (x c) (t c)) → IsNear ((1 + length r.parts) * far) (form x r) (form t r)
form_near far x t r near =
    let here = near r.total in
    let rest = parts_near far x t r.parts near in
    record {
      low = omega (arith, ints, here.low, rest.high);
      high = omega (arith, ints, here.high, rest.low);
    }
