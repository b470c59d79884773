-- Every problem's walk comes to an end.
use Rattle.std.proofs.Common.{◌≡◌, ◌⊎◌, inl, inr, ℕ, zero, suc, ◌+◌, ◌≤◌, ◌^◌, Option, Some, None, length, slice_index, pos, ◌*ℤ◌, ◌≤ℤ◌, arith, refl, sym, subst, below_more}
use Rattle.std.proofs.lemmas.Int.{ints, by_lt_z}
use Rattle.sdc_base.specs.Systems.{number_at}
use Rattle.tableau.specs.Choices.{EntersAmong, IsEntering}
use Rattle.tableau.specs.declared.problem.Problem.{Problem}
use Rattle.tableau.specs.Problems.{NamesColumns, BoundsAreFromZero, variable_count, first_table}
use Rattle.tableau.specs.Steps.{CanImprove, Enters, IsBlocked, IsReached, IsStepOf}
use Rattle.tableau.specs.TableLaws.{CannotImprove, value}
use Rattle.tableau.specs.Tables.{Table}
use Rattle.tableau.specs.Walks.{IsTableOf, IsWalk, EndExists}
use Rattle.tableau.proofs.Independent.{by_less}
use Rattle.tableau.proofs.SomeStep.{step_exists}
use Rattle.tableau.proofs.WalkTables.{walk_keeps, walks_are_short}
use Rattle.tableau.proofs.Solved.{target_bounds}

-- ---- which column or slack comes in

entering_more : (table : Table) (k : ℕ) (best : Option ℕ) → IsEntering table k best → (more : Option ℕ) × IsEntering table (k + 1) more
entering_more table k None none =
    by_lt_z (number_at table.objective k) (pos 0)
    (λ down. (
      Some k,
      record {
        within = omega arith;
        below = down;
        least = below_more (λ j. number_at table.objective k ≤ℤ number_at table.objective j) k (λ j below. omega (arith, ints, none j below)) (omega (arith, ints));
        first = λ j below same. by_less j k (λ less. absurd (omega (arith, ints, none j less, same))) (λ more. let is : j ≡ k = omega arith in subst (λ i. slice_index table.others k ≤ slice_index table.others i) (sym is) (omega arith));
      },
    ))
    (λ up. (None, below_more (λ j. pos 0 ≤ℤ number_at table.objective j) k none up))
entering_more table k (Some column) best =
    let kept : (number_at table.objective column ≤ℤ number_at table.objective k) → (number_at table.objective k ≡ number_at table.objective column → slice_index table.others column ≤ slice_index table.others k) → EntersAmong table (k + 1) column =
    λ least first. record {
      within = omega (arith, best.within);
      below = best.below;
      least = below_more (λ j. number_at table.objective column ≤ℤ number_at table.objective j) k best.least least;
      first = below_more (λ j. number_at table.objective j ≡ number_at table.objective column → slice_index table.others column ≤ slice_index table.others j) k best.first first;
    } in
    let taken : (number_at table.objective k ≤ℤ number_at table.objective column) → (number_at table.objective k ≡ number_at table.objective column → slice_index table.others k ≤ slice_index table.others column) → EntersAmong table (k + 1) k =
    λ least first. record {
      within = omega arith;
      below = omega (arith, ints, best.below);
      least = below_more (λ j. number_at table.objective k ≤ℤ number_at table.objective j) k (λ j below. omega (arith, ints, best.least j below)) (omega (arith, ints));
      first = below_more (λ j. number_at table.objective j ≡ number_at table.objective k → slice_index table.others k ≤ slice_index table.others j) k
          (λ j below same.
          let tie : number_at table.objective k ≡ number_at table.objective column = omega (arith, ints, best.least j below, same) in
          omega (arith, first tie, best.first j below (omega (arith, ints, same, tie))))
          (λ same. omega arith);
    } in
    by_lt_z (number_at table.objective k) (number_at table.objective column)
    (λ less. (Some k, taken (omega (arith, ints)) (λ same. absurd (omega (arith, ints)))))
    (λ not_less.
    by_lt_z (number_at table.objective column) (number_at table.objective k)
    (λ more. (Some column, kept (omega (arith, ints)) (λ same. absurd (omega (arith, ints)))))
    (λ not_more.
    by_less (slice_index table.others k) (slice_index table.others column)
    (λ before. (Some k, taken (omega (arith, ints)) (λ same. omega arith)))
    (λ behind. (Some column, kept not_less (λ same. behind)))))

entering_upto : (table : Table) (k : ℕ) → (best : Option ℕ) × IsEntering table k best
entering_upto table zero = (None, λ j below. absurd (omega arith))
entering_upto table (suc k) =
    let before = entering_upto table k in
    let more = entering_more table k before.0 before.1 in
    let count : k + 1 ≡ suc k = omega arith in
    (more.0, subst (λ n. IsEntering table n more.0) count more.1)

enters_or_not : (table : Table) (best : Option ℕ) → IsEntering table (length table.others) best → ((column : ℕ) × Enters table column) ⊎ CannotImprove table
enters_or_not table None none = inr none
enters_or_not table (Some column) best = inl (column, record { within = best.within; below = best.below; least = best.least; first = best.first })

-- a table can be improved, or it is at its end
improves_or_ends : (problem : Problem) (table : Table) → NamesColumns problem → IsTableOf problem table → CanImprove problem table ⊎ (IsReached problem table ⊎ IsBlocked problem table)
improves_or_ends problem table formed kept =
    by_lt_z (value table) (table.den *ℤ problem.target)
    (λ below.
    let best = entering_upto table (length table.others) in
    elim (enters_or_not table best.0 best.1) as (λ _. CanImprove problem table ⊎ (IsReached problem table ⊎ IsBlocked problem table)) [
      | inl enters ↦ inl (below, enters.0, enters.1)
      | inr cannot ↦ inr (inr (record { below = below; none_below = cannot }))
    ])
    (λ not_below. inr (inl (omega (arith, ints, not_below, target_bounds problem table formed kept))))

-- ---- the end

end_from : (problem : Problem) (fuel n : ℕ) (table : Table) → NamesColumns problem → BoundsAreFromZero problem → IsWalk problem n table → n + fuel ≡ 2 ^ variable_count problem →
    (m : ℕ) × (last : Table) × IsWalk problem m last × (IsReached problem last ⊎ IsBlocked problem last)
end_from problem zero n table formed bounds walk count = absurd (omega (arith, walks_are_short problem n table formed bounds walk))
end_from problem (suc fuel) n table formed bounds walk count =
    let kept : IsTableOf problem table = walk_keeps problem n table formed bounds walk in
    elim (improves_or_ends problem table formed kept) as (λ _. (m : ℕ) × (last : Table) × IsWalk problem m last × (IsReached problem last ⊎ IsBlocked problem last)) [
      | inl can ↦
          let step : (after : Table) × IsStepOf problem table after = step_exists problem table formed kept can in
          end_from problem fuel (suc n) step.0 formed bounds (table, walk, step.1) (omega arith)
      | inr ends ↦ (n, table, walk, ends)
    ]

pub end_exists : EndExists
end_exists problem formed bounds = end_from problem (2 ^ variable_count problem) 0 (first_table problem) formed bounds refl (omega arith)
