-- Which member leaves, row by row.
use Rattle.std.proofs.Common.{◌≡◌, ◌≢◌, ◌⊎◌, inl, inr, ℕ, zero, suc, ◌+◌, ◌<◌, ◌≤◌, [], length, slice_index_or, Option, Some, None, IfNone, ℤ, pos, ◌+ℤ◌, ◌*ℤ◌, ◌≤ℤ◌, arith, ap, sym, subst, ◌∙◌, below_more}
use Rattle.std.proofs.lemmas.Int.{ints}
use Rattle.tableau.specs.declared.problem.Problem.{Problem}
use Rattle.tableau.specs.Tables.{Table}
use Rattle.sdc_base.specs.Systems.{number_at}
use Rattle.tableau.specs.RowLists.{IsLexPositive, AreZeros, list_of, list_size, lead}
use Rattle.tableau.specs.Choices.{LeavesAmong, IsLeaving, IsEntering}
use Rattle.tableau.specs.TableLaws.{CannotImprove}
use Rattle.tableau.proofs.Independent.{by_less}
use Rattle.tableau.proofs.Exchanges.{times_none, by_place}
use Rattle.tableau.proofs.Rising.{above_mixed, above_same, product_above}
use Rattle.tableau.proofs.Chains.{above_unscaled, linked}

plain : (from : ℕ) → from + 0 ≡ from
plain from = omega arith

next : (from i : ℕ) → from + suc i ≡ suc from + i
next from i = omega arith

above_with_none : (n from : ℕ) (a c : ℤ) (g h : ℕ → ℤ) → pos 1 ≤ℤ c → AreZeros n from g → IsLexPositive n from h → IsLexPositive n from (λ i. a *ℤ g i +ℤ c *ℤ h i)
above_with_none zero from a c g h up none one = one
above_with_none (suc n) from a c g h up none one =
    let here : g from ≡ pos 0 = sym (ap g (plain from)) ∙ none 0 (omega arith) in
    let gone : a *ℤ g from ≡ pos 0 = ap (λ t. a *ℤ t) here ∙ times_none a in
    elim one as (λ _. IsLexPositive (suc n) from (λ i. a *ℤ g i +ℤ c *ℤ h i)) [
      | inl more ↦ inl (omega (arith, ints, product_above c (h from) up more))
      | inr later ↦ inr (omega (arith, ints, ap (λ t. c *ℤ t) later.0, times_none c), above_with_none n (suc from) a c g h up (λ i below. sym (ap g (next from i)) ∙ none (suc i) (omega arith)) later.1)
    ]

-- a list that is less than the least is less than the others
less_than_least : (problem : Problem) (table : Table) (column row k j : ℕ) →
    pos 1 ≤ℤ number_at (slice_index_or table.rows k []) column → pos 1 ≤ℤ number_at (slice_index_or table.rows row []) column → pos 1 ≤ℤ number_at (slice_index_or table.rows j []) column →
    IsLexPositive (list_size problem) 0 (lead problem table column k row) →
    IsLexPositive (list_size problem) 0 (lead problem table column row j) ⊎ (AreZeros (list_size problem) 0 (lead problem table column row j) × (row < j)) →
    IsLexPositive (list_size problem) 0 (lead problem table column k j)
less_than_least problem table column row k j k_up row_up j_up less least =
    let size : ℕ = list_size problem in
    let a : ℤ = number_at (slice_index_or table.rows k []) column in
    let b : ℤ = number_at (slice_index_or table.rows row []) column in
    let c : ℤ = number_at (slice_index_or table.rows j []) column in
    let g : ℕ → ℤ = lead problem table column row j in
    let h : ℕ → ℤ = lead problem table column k row in
    let goal : ℕ → ℤ = lead problem table column k j in
    let mixed : IsLexPositive size 0 (λ i. a *ℤ g i +ℤ c *ℤ h i) = elim least as (λ _. IsLexPositive size 0 (λ i. a *ℤ g i +ℤ c *ℤ h i)) [
      | inl more ↦ above_mixed size 0 a c g h k_up (omega (arith, ints)) more less
      | inr none ↦ above_with_none size 0 a c g h j_up none.0 less
    ] in
    above_unscaled size 0 b goal row_up
    (above_same size 0 (λ i. a *ℤ g i +ℤ c *ℤ h i) (λ i. b *ℤ goal i) (λ i. linked a b c (list_of problem table k i) (list_of problem table row i) (list_of problem table j i)) mixed)

pub leaves_new : (problem : Problem) (table : Table) (column k row : ℕ) → LeavesAmong problem table column k row → pos 1 ≤ℤ number_at (slice_index_or table.rows k []) column →
    IsLexPositive (list_size problem) 0 (lead problem table column k row) → LeavesAmong problem table column (k + 1) k
leaves_new problem table column k row best up less =
    record {
      within = omega arith;
      above = up;
      least = λ j below apart j_up.
          by_place j row
          (λ same. inl (subst (λ i. IsLexPositive (list_size problem) 0 (lead problem table column k i)) (sym same) less))
          (λ other. inl (less_than_least problem table column row k j up best.above j_up less (best.least j (omega arith) other j_up)));
    }

pub leaves_tied : (problem : Problem) (table : Table) (column k row : ℕ) → LeavesAmong problem table column k row → AreZeros (list_size problem) 0 (lead problem table column row k) → LeavesAmong problem table column (k + 1) row
leaves_tied problem table column k row best none =
    record {
      within = omega (arith, best.within);
      above = best.above;
      least = below_more (λ j. j ≢ row → pos 1 ≤ℤ number_at (slice_index_or table.rows j []) column → IsLexPositive (list_size problem) 0 (lead problem table column row j) ⊎ (AreZeros (list_size problem) 0 (lead problem table column row j) × (row < j))) k best.least (λ _ _. inr (none, best.within));
    }

-- a row without a number above 0 is passed
pub leaves_passed : (problem : Problem) (table : Table) (column k : ℕ) (best : Option ℕ) → IsLeaving problem table column k best → number_at (slice_index_or table.rows k []) column ≤ℤ pos 0 → IsLeaving problem table column (k + 1) best
leaves_passed problem table column k None so_far down = λ j below.
    by_less j k (λ less. so_far j less) (λ more. let same : j ≡ k = omega arith in subst (λ i. number_at (slice_index_or table.rows i []) column ≤ℤ pos 0) (sym same) down)
leaves_passed problem table column k (Some row) so_far down = record {
  within = omega (arith, so_far.within);
  above = so_far.above;
  least = λ j below apart up.
      by_less j k (λ less. so_far.least j less apart up)
      (λ more. let same : j ≡ k = omega arith in absurd (omega (arith, ints, up, subst (λ i. number_at (slice_index_or table.rows i []) column ≤ℤ pos 0) (sym same) down)));
}

pub none_enters : (table : Table) (k : ℕ) (best : Option ℕ) → length table.others ≤ k → IsEntering table k best → IfNone best (CannotImprove table)
none_enters table k None all so_far = λ j below. so_far j (omega arith)
none_enters table k (Some column) all so_far = tt
