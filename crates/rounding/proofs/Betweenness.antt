-- The choices left lie between the least and the greatest numbers.
use Rattle.std.proofs.Common.{ℕ, zero, suc, Bool, true, false, List, [], ◌∷◌, ◌++◌, ℤ, pos, ◌≤ℤ◌, arith, if◌then◌else◌}
use Rattle.std.proofs.lemmas.Int.{ints}
use Rattle.sdc_base.specs.Systems.{number_at}
use Rattle.rounding.specs.Neighbours.{is_multiple, neighbour}
use Rattle.rounding.specs.Choices.{Choices, first_or, choices_behind, by_choices}

-- a number from one to another
abbrev pub Lies : ℤ → ℤ → ℤ → Type 0
Lies lower number upper = (lower ≤ℤ number) × (number ≤ℤ upper)

lies_self : (z : ℤ) → Lies z z z
lies_self z = (omega (arith, ints), omega (arith, ints))

pub neighbour_lies : (base truth : ℤ) (choice : Bool) → pos 1 ≤ℤ base → Lies (neighbour base truth false) (neighbour base truth choice) (neighbour base truth true)
neighbour_lies base truth false positive = (omega (arith, ints), omega (arith, ints))
neighbour_lies base truth true positive = (omega (arith, ints), omega (arith, ints))

-- the numbers that a longer list leaves lie between those that its front leaves
pub longer_lies : (side : Bool) (base : ℤ) (truths : List ℤ) (choices rest : Choices) → pos 1 ≤ℤ base → (k : ℕ) → Lies (number_at (by_choices false base truths choices) k) (number_at (by_choices side base truths (choices ++ rest)) k) (number_at (by_choices true base truths choices) k)
longer_lies side base [] choices rest positive k = lies_self (pos 0)
longer_lies side base (truth ∷ truths) [] rest positive zero =
    elim (is_multiple base truth) as (λ b. Lies (number_at (if b then truth ∷ by_choices false base truths [] else neighbour base truth false ∷ by_choices false base truths []) 0) (number_at (if b then truth ∷ by_choices side base truths rest else neighbour base truth (first_or side rest) ∷ by_choices side base truths (choices_behind rest)) 0) (number_at (if b then truth ∷ by_choices true base truths [] else neighbour base truth true ∷ by_choices true base truths []) 0)) [
      | true ↦ lies_self truth
      | false ↦ neighbour_lies base truth (first_or side rest) positive
    ]
longer_lies side base (truth ∷ truths) [] rest positive (suc k) =
    elim (is_multiple base truth) as (λ b. Lies (number_at (if b then truth ∷ by_choices false base truths [] else neighbour base truth false ∷ by_choices false base truths []) (suc k)) (number_at (if b then truth ∷ by_choices side base truths rest else neighbour base truth (first_or side rest) ∷ by_choices side base truths (choices_behind rest)) (suc k)) (number_at (if b then truth ∷ by_choices true base truths [] else neighbour base truth true ∷ by_choices true base truths []) (suc k))) [
      | true ↦ longer_lies side base truths [] rest positive k
      | false ↦ longer_lies side base truths [] (choices_behind rest) positive k
    ]
longer_lies side base (truth ∷ truths) (one ∷ choices) rest positive zero =
    elim (is_multiple base truth) as (λ b. Lies (number_at (if b then truth ∷ by_choices false base truths (one ∷ choices) else neighbour base truth one ∷ by_choices false base truths choices) 0) (number_at (if b then truth ∷ by_choices side base truths ((one ∷ choices) ++ rest) else neighbour base truth one ∷ by_choices side base truths (choices ++ rest)) 0) (number_at (if b then truth ∷ by_choices true base truths (one ∷ choices) else neighbour base truth one ∷ by_choices true base truths choices) 0)) [
      | true ↦ lies_self truth
      | false ↦ lies_self (neighbour base truth one)
    ]
longer_lies side base (truth ∷ truths) (one ∷ choices) rest positive (suc k) =
    elim (is_multiple base truth) as (λ b. Lies (number_at (if b then truth ∷ by_choices false base truths (one ∷ choices) else neighbour base truth one ∷ by_choices false base truths choices) (suc k)) (number_at (if b then truth ∷ by_choices side base truths ((one ∷ choices) ++ rest) else neighbour base truth one ∷ by_choices side base truths (choices ++ rest)) (suc k)) (number_at (if b then truth ∷ by_choices true base truths (one ∷ choices) else neighbour base truth one ∷ by_choices true base truths choices) (suc k))) [
      | true ↦ longer_lies side base truths (one ∷ choices) rest positive k
      | false ↦ longer_lies side base truths choices rest positive k
    ]
