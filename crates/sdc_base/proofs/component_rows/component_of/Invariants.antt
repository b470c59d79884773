use Rattle.std.proofs.Common.{◌≡◌, ℕ, false, take}
use Rattle.std.specs.List.{list_any}
use Rattle.sdc_base.specs.Components.{component, is_of}
use Rattle.sdc_base.proofs.component_rows.component_of.Given as goal

abbrev pub invariant-parts : goal.invariant-parts
invariant-parts l = (number : ℕ) → list_any (λ part. is_of number (component l.of part)) (take l.part-index l.part-items) ≡ false
