-- A well-formed problem, and what its walks keep.
use Rattle.std.proofs.Common.{◌≡◌, ℕ, suc, ◌^◌, ◌*ℤ◌, ◌+◌, ◌<◌, [], ◌∷◌, length, All, pos, ◌≤ℤ◌, arith, sym, subst, length-append}
use Rattle.std.proofs.lemmas.List.{get_or_append_left, get_or_at}
use Rattle.std.proofs.lemmas.List.Elements.{All-get_or}
use Rattle.tableau.specs.declared.problem.Problem.{Problem}
use Rattle.tableau.specs.declared.problem.LinRow.{LinRow}
use Rattle.tableau.specs.Tables.{Table}
use Rattle.tableau.specs.Problems.{NamesColumns, rows_of, row_at, no_row, target_row, variable_count}
use Rattle.tableau.specs.ProblemForm.{AreEntries, IsWellFormed}
use Rattle.tableau.specs.Walks.{IsWalk, IsTableOf}
use Rattle.tableau.proofs.Independent.{by_less}
use Rattle.tableau.specs.TableLaws.{value, CannotImprove}
use Rattle.tableau.specs.Problems.{number_for}
use Rattle.tableau.specs.Readings.{value_for, values_of, slacks_of}
use Rattle.tableau.specs.Steps.{Enters, IsStepOf, CanImprove, IsReached, IsBlocked}
use Rattle.std.proofs.lemmas.List.FromFn.{length-map-range_with_len}
use Rattle.std.proofs.lemmas.Int.{ints, by_lt_z}
use Rattle.tableau.proofs.WalkTables.{walk_keeps, walks_are_short}
use Rattle.tableau.proofs.Steps.{step_keeps}
use Rattle.tableau.proofs.Solved.{target_bounds}

-- what holds of each row and of the target's holds of all
each_row : (P : LinRow → Type 0) (problem : Problem) → All P problem.rows → P (target_row problem) → (k : ℕ) → k < length (rows_of problem) → P (row_at problem k)
each_row P problem rows target k within =
    by_less k (length problem.rows)
    (λ less. subst P (sym (get_or_append_left problem.rows (target_row problem ∷ []) no_row k less)) (All-get_or P problem.rows k no_row less rows))
    (λ more. subst P (sym (get_or_at problem.rows (target_row problem) [] no_row k (omega (arith, length-append problem.rows (target_row problem ∷ []))))) target)

pub well_formed_problem : (problem : Problem) → IsWellFormed problem → NamesColumns problem
well_formed_problem problem well_formed = record {
  rows = λ k within. (each_row (λ row. AreEntries problem.columns row.entries) problem well_formed.rows well_formed.objective k within).named;
  objective = well_formed.objective.named;
}

pub well_formed_bounds : (problem : Problem) → IsWellFormed problem → (k : ℕ) → k < length (rows_of problem) → pos 0 ≤ℤ (row_at problem k).bound
well_formed_bounds problem well_formed k within = each_row (λ row. pos 0 ≤ℤ row.bound) problem well_formed.bounds well_formed.target k within

pub well_formed_keeps : (problem : Problem) (n : ℕ) (table : Table) → IsWellFormed problem → IsWalk problem n table → IsTableOf problem table
well_formed_keeps problem n table well_formed walk = walk_keeps problem n table (well_formed_problem problem well_formed) (well_formed_bounds problem well_formed) walk

pub walk_more : (problem : Problem) (n : ℕ) (before after : Table) → IsWalk problem n before → IsStepOf problem before after → IsWalk problem (n + 1) after
walk_more problem n before after walk step = let next : suc n ≡ n + 1 = omega arith in subst (λ m. IsWalk problem m after) next (before, walk, step)

pub length-values : (problem : Problem) (table : Table) → length (values_of problem table) ≡ problem.columns
length-values problem table = length-map-range_with_len (value_for table) 0 problem.columns

pub length-slacks : (problem : Problem) (table : Table) → length (slacks_of problem table) ≡ length (rows_of problem)
length-slacks problem table = length-map-range_with_len (λ k. number_for table (problem.columns + k)) 0 (length (rows_of problem))

pub blocked_here : (problem : Problem) (table : Table) → IsWellFormed problem → IsTableOf problem table → (IsReached problem table → ⊥) → CannotImprove table → IsBlocked problem table
blocked_here problem table well_formed kept not_reached cannot =
    let most : value table ≤ℤ (table.den *ℤ problem.target) = target_bounds problem table (well_formed_problem problem well_formed) kept in
    record {
      below = by_lt_z (value table) (table.den *ℤ problem.target) (λ less. less) (λ more. absurd (not_reached (omega (arith, ints))));
      none_below = cannot;
    }

pub step_keeps_posed : (problem : Problem) (before after : Table) → IsWellFormed problem → IsTableOf problem before → IsStepOf problem before after → IsTableOf problem after
step_keeps_posed problem before after well_formed kept step = (step_keeps problem before after step.0 step.1 step.2 (well_formed_problem problem well_formed) kept step.3).0

pub can_improve : (problem : Problem) (table : Table) (column : ℕ) → IsWellFormed problem → IsTableOf problem table → (IsReached problem table → ⊥) → Enters table column → CanImprove problem table
can_improve problem table column well_formed kept not_reached enters =
    let most : value table ≤ℤ (table.den *ℤ problem.target) = target_bounds problem table (well_formed_problem problem well_formed) kept in
    (by_lt_z (value table) (table.den *ℤ problem.target) (λ less. less) (λ more. absurd (not_reached (omega (arith, ints)))), column, enters)

pub reached_stays : (problem : Problem) (table : Table) → IsReached problem table → CanImprove problem table → ⊥
reached_stays problem table reached can = absurd (omega (arith, ints, reached, can.0))

pub cannot_stays : (problem : Problem) (table : Table) → CannotImprove table → CanImprove problem table → ⊥
cannot_stays problem table cannot can = absurd (omega (arith, ints, can.2.below, cannot can.1 can.2.within))

pub well_formed_short : (problem : Problem) (n : ℕ) (table : Table) → IsWellFormed problem → IsWalk problem n table → n < 2 ^ variable_count problem
well_formed_short problem n table well_formed walk = walks_are_short problem n table (well_formed_problem problem well_formed) (well_formed_bounds problem well_formed) walk
