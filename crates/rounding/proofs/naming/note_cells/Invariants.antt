use Rattle.std.proofs.Common.{ℕ, ◌<◌, [], get_or}
use Rattle.rounding.specs.Namings.{IsNotIn, IsNotedMore}
use Rattle.rounding.proofs.naming.note_cells.Given as goal

abbrev pub invariant-parts : goal.invariant-parts
invariant-parts l = record {
  more : IsNotedMore l.number l.fn.naming.items l.naming.items;
  total : IsNotIn (get_or l.naming.items l.relation.total []) l.number → ⊥;
  parts : (k : ℕ) → k < l.part-index → IsNotIn (get_or l.naming.items (get_or l.relation.parts k 0) []) l.number → ⊥;
}
