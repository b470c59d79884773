use Rattle.std.proofs.Common.{◌≡◌, take, map}
use Rattle.job_lang.specs.Binding.{spanning_place, depth_of}
use Rattle.job_lang.proofs.binding.table_dimensions.Given as goal

abbrev pub invariant-loop-name : goal.invariant-loop-name
invariant-loop-name l =
    l.dimensions.items ≡ map (λ name. record { variable = spanning_place l.spanning l.variables name; depth = depth_of l.depths l.place name }) (take l.name-index l.names)
