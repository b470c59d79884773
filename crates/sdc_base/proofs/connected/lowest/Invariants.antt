use Rattle.std.proofs.Common.{◌≡◌, ◌<◌, ◌≤◌, ℕ, Bool, List, length, slice_index}
use Rattle.sdc_base.specs.Forests.{IsForest, LeadsTo, Meet}
use Rattle.sdc_base.specs.declared.relation.Relation.{Relation}
use Rattle.sdc_base.proofs.connected.lowest.Given as goal

abbrev pub invariant-steps : goal.invariant-steps
invariant-steps l = record {
  forest : (relations : List Relation) (flags : List Bool) (cells : ℕ) → IsForest relations flags cells l.fn.lower.items → IsForest relations flags cells l.lower.items;
  kept : (one other : ℕ) → Meet l.fn.lower.items one other → Meet l.lower.items one other;
  ends : (root : ℕ) → slice_index l.fn.lower.items root ≡ root → slice_index l.lower.items root ≡ root;
  falls : (one : ℕ) → slice_index l.lower.items one ≤ one;
  long : length l.lower.items ≡ length l.fn.lower.items;
  leads : LeadsTo l.lower.items l.cell l.at;
  within : l.at < length l.lower.items;
}

abbrev pub decreases-steps : goal.decreases-steps
decreases-steps l = l.at
