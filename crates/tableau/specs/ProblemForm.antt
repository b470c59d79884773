-- What a problem must be to have tables (own).
use Rattle.std.specs.Prelude.{ℕ, suc, ◌+◌, ◌-◌, ◌^◌, ◌<◌, ◌≤◌, List, [], ◌∷◌, length, All, pos, neg_ℤ, ◌<ℤ◌, ◌≤ℤ◌}
use Rattle.sdc_base.specs.Forms.{Term}
use Rattle.tableau.specs.declared.problem.Problem.{Problem}

-- entries ascend by their columns, none of which is below a number
abbrev pub AscendFrom : ℕ → List Term → Type 0
AscendFrom from [] = Unit {0}
AscendFrom from (entry ∷ entries) = (from ≤ entry.0) × AscendFrom (suc entry.0) entries

-- entries name columns in ascending order, with numbers above -2^127
pub record AreEntries (columns : ℕ) (entries : List Term) : Type 0 where
  pub ascend : AscendFrom 0 entries
  pub named : All (λ entry. entry.0 < columns) entries
  pub narrow : All (λ entry. neg_ℤ (pos (2 ^ 127)) <ℤ entry.1) entries

-- A problem is well formed: the entries of rows and objective name columns, bounds and target are 0 or more, and
-- columns and rows, the target's included, are fewer than 2^32 - 1.
pub record IsWellFormed (problem : Problem) : Type 0 where
  pub rows : All (λ row. AreEntries problem.columns row.entries) problem.rows
  pub bounds : All (λ row. pos 0 ≤ℤ row.bound) problem.rows
  pub objective : AreEntries problem.columns problem.objective
  pub target : pos 0 ≤ℤ problem.target
  pub fewer_than_2_32 : problem.columns + length problem.rows + 1 < 2 ^ 32 - 1
