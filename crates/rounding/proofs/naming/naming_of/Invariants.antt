use Rattle.std.proofs.Common.{◌≡◌, ℕ, ◌<◌, [], Some, slice_get, length, get_or, pos}
use Rattle.sdc_base.specs.declared.relation.Relation.{Relation}
use Rattle.sdc_base.specs.Forms.{count_of}
use Rattle.rounding.specs.Namings.{IsNotIn, AreNoted}
use Rattle.rounding.proofs.naming.naming_of.Given as goal

abbrev pub invariant-relations : goal.invariant-relations
invariant-relations l = record {
  each : length l.naming.items ≡ l.system.cells;
  noted : AreNoted l.number l.naming.items;
  whole : (cell n : ℕ) (r : Relation) → n < l.number → slice_get l.relations n ≡ Some r → IsNotIn (get_or l.naming.items cell []) n → count_of r cell ≡ pos 0;
}
