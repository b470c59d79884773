use Rattle.std.proofs.Common.{◌≡◌, ◌==◌, true, false, ℕ, take}
use Rattle.std.specs.List.{list_any}
use Rattle.sdc_base.specs.HiddenSets.{is_hidden}
use Rattle.sdc_base.proofs.connected.first_hidden.Given as goal

abbrev pub invariant-parts : goal.invariant-parts
invariant-parts l = (cell : ℕ) → list_any (λ part. part == cell) (take l.part-index l.part-items) ≡ true → is_hidden l.flags cell ≡ false
