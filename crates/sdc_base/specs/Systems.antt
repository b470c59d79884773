-- Relations among cells, and the numbers of cells on which they hold (handbook, feasibility interval).
use Rattle.std.specs.Prelude.{◌≡◌, ℕ, ◌<◌, List, slice_index_or, All, ℤ, pos, ◌-ℤ◌}
use Rattle.sdc_base.specs.Totals.{sum_of}
use Rattle.sdc_base.specs.declared.relation.Relation.{Relation}

-- a whole number for each cell
abbrev pub Numbers : Type 0
Numbers = ℕ → ℤ

-- the numbers of a list with one for each; 0 beyond its end
abbrev pub number_at : List ℤ → Numbers
number_at numbers place = slice_index_or numbers place (pos 0)

-- the relation names cells below this number
pub record NamesCells (cells : ℕ) (r : Relation) : Type 0 where
  pub total_named : r.total < cells
  pub parts_named : All (λ part. part < cells) r.parts

-- a relation's form on the numbers of the cells: the total less the parts
abbrev pub form : Numbers → Relation → ℤ
form numbers r = numbers r.total -ℤ sum_of numbers r.parts

-- the relations hold on the numbers of the cells: every form is 0
abbrev pub HoldOn : Numbers → List Relation → Type 0
HoldOn numbers relations = All (λ r. form numbers r ≡ pos 0) relations
