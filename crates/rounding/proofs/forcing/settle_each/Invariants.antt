use Rattle.std.proofs.Common.{◌≡◌, ◌<◌, ℕ, Some, slice_get, get_or, length, drop, true}
use Rattle.sdc_base.specs.declared.relation.Relation.{Relation}
use Rattle.rounding.specs.Fixes.{FixesNone, can_hold}
use Rattle.rounding.specs.FixedSteps.{IsForced}
use Rattle.rounding.proofs.forcing.settle_each.Given as goal

abbrev pub invariant-numbers : goal.invariant-numbers
invariant-numbers l = record {
  forced : IsForced l.fn.bounds l.bounds;
  hold : (place : ℕ) (r : Relation) → place < l.number-index → slice_get l.bounds.system.relations (get_or l.numbers place 0) ≡ Some r → FixesNone r (drop (length l.fn.bounds.fixes) l.bounds.fixes) → can_hold l.bounds r ≡ true;
}
