-- What the definitions give for small problems, by hand (own).
use Rattle.std.specs.Prelude.{◌≡◌, ◌^◌, false, [], ◌∷◌, pos, negsuc}
use Rattle.std.specs.List.{list_any}
use Rattle.tableau.specs.declared.problem.Problem.{Problem}
use Rattle.tableau.specs.Tables.{Table, exchanged_table}
use Rattle.tableau.specs.Problems.{first_table}
use Rattle.tableau.specs.Widths.{is_wide, products_at, IsWideAt, name_in}
use Rattle.tableau.specs.Readings.{values_of, slacks_of}

-- twice the column is at most 4, and the column is to come to 3
abbrev pub one_row : Problem
one_row = record {
  columns = 1;
  rows = record { entries = (0, pos 2) ∷ []; bound = pos 4 } ∷ [];
  objective = (0, pos 1) ∷ [];
  target = pos 3;
}

-- its second table: the column is 4 over 2, the target's row lacks 2 over 2
abbrev pub one_row_improved : Table
one_row_improved = record {
  den = pos 2;
  members = 0 ∷ 2 ∷ [];
  others = 1 ∷ [];
  rows = (pos 1 ∷ pos 4 ∷ []) ∷ (negsuc 0 ∷ pos 2 ∷ []) ∷ [];
  objective = pos 1 ∷ pos 4 ∷ [];
}

-- the exchange of the slack for the column makes it, and its values and slacks are read off
pub record OneRow : Type 0 where
  pub exchanged_is : exchanged_table (first_table one_row) 0 0 ≡ one_row_improved
  pub values_are : values_of one_row one_row_improved ≡ pos 4 ∷ []
  pub slacks_are : slacks_of one_row one_row_improved ≡ pos 1 ∷ pos 0 ∷ []

-- two columns in two rows, each with a number of 2^100
abbrev pub two_wide : Problem
two_wide = record {
  columns = 2;
  rows =
      record { entries = (0, pos (2 ^ 100)) ∷ (1, pos 1) ∷ []; bound = pos 1 }
      ∷ record { entries = (0, pos 1) ∷ (1, pos (2 ^ 100)) ∷ []; bound = pos 1 } ∷ [];
  objective = (0, pos 1) ∷ (1, pos 1) ∷ [];
  target = pos (2 ^ 100);
}

-- The exchange of the first slack for the first column is wide in the row of member 3 at column 1, and in that of
-- member 4 at the values' column, which is number 5; in the row of member 3 at the values' column it is not.
pub record TwoWide : Type 0 where
  pub wide : IsWideAt (first_table two_wide) 0 0 1 1
  pub wide_value : IsWideAt (first_table two_wide) 0 0 2 2
  pub narrow : list_any is_wide (products_at (first_table two_wide) 0 0 1 2) ≡ false
  pub row_name : name_in two_wide (first_table two_wide).members 1 ≡ 3
  pub value_name : name_in two_wide (first_table two_wide).others 2 ≡ 5
