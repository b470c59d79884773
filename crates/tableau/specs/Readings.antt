-- What is read off a table: the columns' values and the objective's numbers at the slacks, both over its den (own).
use Rattle.std.specs.Prelude.{ℕ, ◌+◌, List, length, map, zip, ℤ}
use Rattle.std.specs.List.{range_with_len}
use Rattle.sdc_base.specs.Forms.{coefficient}
use Rattle.tableau.specs.declared.problem.Problem.{Problem}
use Rattle.tableau.specs.Tables.{Table}
use Rattle.sdc_base.specs.Systems.{number_at}
use Rattle.tableau.specs.Problems.{rows_of, number_for}

-- the members' values, in the order of the rows
abbrev pub member_values : Table → List ℤ
member_values table = map (λ row. number_at row (length table.others)) table.rows

-- the value of a column or slack, 0 where it is no member
abbrev pub value_for : Table → ℕ → ℤ
value_for table v = coefficient (zip table.members (member_values table)) v

-- the value of each column
abbrev pub values_of : Problem → Table → List ℤ
values_of problem table = map (value_for table) (range_with_len 0 problem.columns)

-- the objective's number at each slack, the target's included
abbrev pub slacks_of : Problem → Table → List ℤ
slacks_of problem table =
    map (λ k. number_for table (problem.columns + k)) (range_with_len 0 (length (rows_of problem)))
