use Rattle.std.proofs.Common.{◌≡◌, map, take}
use Rattle.sdc_base.specs.Forms.{coefficient}
use Rattle.tableau.proofs.first_table.numbers_at.Given as goal

abbrev pub invariant-loop-entries : goal.invariant-loop-entries
invariant-loop-entries l = l.numbers.items ≡ take l.entries-index (map (λ entries. coefficient entries l.place) l.lists)
