-- The values of choices are adjacent to the truths, and adjacent values are those of choices.
use Rattle.std.proofs.Common.{◌≡◌, ℕ, zero, suc, ◌+◌, ◌<◌, Bool, true, false, List, [], ◌∷◌, length, All, ℤ, pos, ◌≤ℤ◌, arith, refl, ap, sym, if◌then◌else◌}
use Rattle.std.proofs.lemmas.List.Elements.{All-head, All-tail}
use Rattle.sdc_base.specs.Roundings.{IsAdjacent}
use Rattle.sdc_base.specs.Systems.{number_at}
use Rattle.rounding.specs.Neighbours.{is_multiple, neighbour}
use Rattle.rounding.specs.Choices.{Choices, unrounded_cells, first_or, choices_behind, by_choices}
use Rattle.sdc_base.specs.Truths.{IsTruth}
use Rattle.rounding.proofs.Adjacency.{neighbour_is_adjacent, multiple_is_adjacent, adjacent_is_neighbour, multiple_stays}

pub by_choices_adjacent : (side : Bool) (base : ℤ) (truths : List ℤ) (choices : Choices) → pos 1 ≤ℤ base → All IsTruth truths → (k : ℕ) → k < length truths → IsAdjacent base (number_at truths k) (number_at (by_choices side base truths choices) k)
by_choices_adjacent side base [] choices positive all k below = absurd (omega arith)
by_choices_adjacent side base (truth ∷ truths) choices positive all zero below =
    elim (is_multiple base truth) as (λ b. is_multiple base truth ≡ b → IsAdjacent base truth (number_at (if b then truth ∷ by_choices side base truths choices else neighbour base truth (first_or side choices) ∷ by_choices side base truths (choices_behind choices)) 0)) [
      | true ↦ λ is. multiple_is_adjacent base truth positive is
      | false ↦ λ is. neighbour_is_adjacent base truth (first_or side choices) positive (All-head IsTruth truth truths all).from_zero is
    ] refl
by_choices_adjacent side base (truth ∷ truths) choices positive all (suc k) below =
    elim (is_multiple base truth) as (λ b. IsAdjacent base (number_at truths k) (number_at (if b then truth ∷ by_choices side base truths choices else neighbour base truth (first_or side choices) ∷ by_choices side base truths (choices_behind choices)) (suc k))) [
      | true ↦ by_choices_adjacent side base truths choices positive (All-tail IsTruth truth truths all) k (omega arith)
      | false ↦ by_choices_adjacent side base truths (choices_behind choices) positive (All-tail IsTruth truth truths all) k (omega arith)
    ]

-- choices that make these values
pub record AreMade (base : ℤ) (n : ℕ) (truths values : List ℤ) (list : Choices) : Type 0 where
  pub whole : length list ≡ length (unrounded_cells base n truths)
  pub made : by_choices false base truths list ≡ values

made_more : (base : ℤ) (n : ℕ) (truth : ℤ) (truths : List ℤ) (value : ℤ) (values : List ℤ) (list : Choices) (choice : Bool) → AreMade base (n + 1) truths values list → (is_multiple base truth ≡ true → value ≡ truth) → value ≡ neighbour base truth choice → (longer : Choices) × AreMade base n (truth ∷ truths) (value ∷ values) longer
made_more base n truth truths value values list choice made stays is =
    elim (is_multiple base truth) as (λ b. is_multiple base truth ≡ b → (longer : Choices) × AreMade base n (truth ∷ truths) (value ∷ values) longer) [
      | true ↦ λ test. (list, record { whole = rw test made.whole; made = rw test ((λ i. sym (stays test) i ∷ made.made i)) })
      | false ↦ λ test. (choice ∷ list, record { whole = rw test (ap suc made.whole); made = rw test ((λ i. sym is i ∷ made.made i)) })
    ] refl

pub adjacent_are_made : (base : ℤ) (n : ℕ) (truths values : List ℤ) → pos 1 ≤ℤ base → All IsTruth truths → length values ≡ length truths → ((k : ℕ) → k < length truths → IsAdjacent base (number_at truths k) (number_at values k)) → (list : Choices) × AreMade base n truths values list
adjacent_are_made base n [] [] positive all same adjacent = ([], record { whole = refl; made = refl })
adjacent_are_made base n [] (value ∷ values) positive all same adjacent = absurd (omega arith)
adjacent_are_made base n (truth ∷ truths) [] positive all same adjacent = absurd (omega arith)
adjacent_are_made base n (truth ∷ truths) (value ∷ values) positive all same adjacent =
    let later = adjacent_are_made base (n + 1) truths values positive (All-tail IsTruth truth truths all) (omega arith) (λ k below. adjacent (suc k) (omega arith)) in
    let from : pos 0 ≤ℤ truth = (All-head IsTruth truth truths all).from_zero in
    let here : IsAdjacent base truth value = adjacent 0 (omega arith) in
    let found = adjacent_is_neighbour base truth value positive from here in
    made_more base n truth truths value values later.0 found.0 later.1 (λ is. multiple_stays base truth value positive from is here) found.1
