-- The numbers that choices leave.
use Rattle.std.proofs.Common.{◌≡◌, ℕ, zero, suc, ◌+◌, ◌-◌, ◌<◌, ◌≤◌, Bool, true, false, List, [], ◌∷◌, ◌++◌, length, get_or, ℤ, pos, arith, refl, ap, sym, subst, ◌∙◌, if◌then◌else◌}
use Rattle.std.proofs.Math.ListN.{set}
use Rattle.rounding.specs.Neighbours.{is_multiple, neighbour}
use Rattle.rounding.specs.Choices.{Choices, unrounded_cells, first_or, choices_behind, by_choices}

pub length-by_choices : (side : Bool) (base : ℤ) (truths : List ℤ) (choices : Choices) → length (by_choices side base truths choices) ≡ length truths
length-by_choices side base [] choices = refl
length-by_choices side base (truth ∷ truths) choices =
    elim (is_multiple base truth) as (λ b. length (if b then truth ∷ by_choices side base truths choices else neighbour base truth (first_or side choices) ∷ by_choices side base truths (choices_behind choices)) ≡ suc (length truths)) [
      | true ↦ ap suc (length-by_choices side base truths choices)
      | false ↦ ap suc (length-by_choices side base truths (choices_behind choices))
    ]

-- the numbers of the cells that aren't multiples lie from the first number on, below the last
first_within : (n m : ℕ) (later : List ℕ) → ((j : ℕ) → j < length later → (n + 1 ≤ get_or later j 0) × (get_or later j 0 < (n + 1) + m)) → (k : ℕ) → k < suc (length later) → (n ≤ get_or (n ∷ later) k 0) × (get_or (n ∷ later) k 0 < n + suc m)
first_within n m later each zero under = (omega arith, omega arith)
first_within n m later each (suc k) under = let one = each k (omega arith) in (omega (arith, one.0), omega (arith, one.1))

pub unrounded_within : (base : ℤ) (n : ℕ) (truths : List ℤ) (k : ℕ) → k < length (unrounded_cells base n truths) → (n ≤ get_or (unrounded_cells base n truths) k 0) × (get_or (unrounded_cells base n truths) k 0 < n + length truths)
unrounded_within base n [] k below = absurd (omega arith)
unrounded_within base n (truth ∷ truths) k below =
    elim (is_multiple base truth) as (λ b. k < length (if b then unrounded_cells base (n + 1) truths else n ∷ unrounded_cells base (n + 1) truths) → (n ≤ get_or (if b then unrounded_cells base (n + 1) truths else n ∷ unrounded_cells base (n + 1) truths) k 0) × (get_or (if b then unrounded_cells base (n + 1) truths else n ∷ unrounded_cells base (n + 1) truths) k 0 < n + suc (length truths))) [
      | true ↦ λ under. let later = unrounded_within base (n + 1) truths k under in (omega (arith, later.0), omega (arith, later.1))
      | false ↦ λ under. first_within n (length truths) (unrounded_cells base (n + 1) truths) (λ j inside. unrounded_within base (n + 1) truths j inside) k under
    ] below

-- where the numbers of the cells begin with this one: the number that one more choice is for, less it
abbrev turn : ℤ → ℕ → List ℤ → ℕ → ℕ
turn base n truths k = get_or (unrounded_cells base n truths) k 0 - n

-- the numbers with the one at a place set to a neighbour of the truth there
abbrev chosen : ℤ → List ℤ → Bool → List ℤ → ℕ → List ℤ
chosen base truths choice numbers place = set numbers place (neighbour base (get_or truths place (pos 0)) choice)

chosen_later : (base truth x : ℤ) (truths xs ys : List ℤ) (n g : ℕ) (choice : Bool) → n + 1 ≤ g → ys ≡ chosen base truths choice xs (g - (n + 1)) → x ∷ ys ≡ chosen base (truth ∷ truths) choice (x ∷ xs) (g - n)
chosen_later base truth x truths xs ys n g choice from is =
    let next : g - n ≡ suc (g - (n + 1)) = omega arith in
    ap (λ (zs : List ℤ). x ∷ zs) is ∙ ap (λ (t : ℕ). chosen base (truth ∷ truths) choice (x ∷ xs) t) (sym next)

chosen_here : (base truth x : ℤ) (truths xs : List ℤ) (n : ℕ) (choice : Bool) → neighbour base truth choice ∷ xs ≡ chosen base (truth ∷ truths) choice (x ∷ xs) (n - n)
chosen_here base truth x truths xs n choice =
    let none : n - n ≡ 0 = omega arith in
    ap (λ (t : ℕ). chosen base (truth ∷ truths) choice (x ∷ xs) t) (sym none)

-- one more choice sets the number of its cell
pub one_more_choice : (side choice : Bool) (base : ℤ) (n : ℕ) (truths : List ℤ) (choices : Choices) → length choices < length (unrounded_cells base n truths)
    → by_choices side base truths (choices ++ choice ∷ []) ≡ chosen base truths choice (by_choices side base truths choices) (turn base n truths (length choices))
one_more_choice side choice base n [] choices below = absurd (omega arith)
one_more_choice side choice base n (truth ∷ truths) [] below =
    elim (is_multiple base truth) as (λ b. 0 < length (if b then unrounded_cells base (n + 1) truths else n ∷ unrounded_cells base (n + 1) truths)
    → (if b then truth ∷ by_choices side base truths (choice ∷ []) else neighbour base truth choice ∷ by_choices side base truths [])
    ≡ chosen base (truth ∷ truths) choice (if b then truth ∷ by_choices side base truths [] else neighbour base truth side ∷ by_choices side base truths []) (get_or (if b then unrounded_cells base (n + 1) truths else n ∷ unrounded_cells base (n + 1) truths) 0 0 - n)) [
      | true ↦ λ under. chosen_later base truth truth truths (by_choices side base truths []) (by_choices side base truths (choice ∷ [])) n (get_or (unrounded_cells base (n + 1) truths) 0 0) choice (unrounded_within base (n + 1) truths 0 under).0 (one_more_choice side choice base (n + 1) truths [] under)
      | false ↦ λ under. chosen_here base truth (neighbour base truth side) truths (by_choices side base truths []) n choice
    ] below
one_more_choice side choice base n (truth ∷ truths) (one ∷ choices) below =
    elim (is_multiple base truth) as (λ b. suc (length choices) < length (if b then unrounded_cells base (n + 1) truths else n ∷ unrounded_cells base (n + 1) truths)
    → (if b then truth ∷ by_choices side base truths ((one ∷ choices) ++ choice ∷ []) else neighbour base truth one ∷ by_choices side base truths (choices ++ choice ∷ []))
    ≡ chosen base (truth ∷ truths) choice (if b then truth ∷ by_choices side base truths (one ∷ choices) else neighbour base truth one ∷ by_choices side base truths choices) (get_or (if b then unrounded_cells base (n + 1) truths else n ∷ unrounded_cells base (n + 1) truths) (suc (length choices)) 0 - n)) [
      | true ↦ λ under. chosen_later base truth truth truths (by_choices side base truths (one ∷ choices)) (by_choices side base truths ((one ∷ choices) ++ choice ∷ [])) n (get_or (unrounded_cells base (n + 1) truths) (suc (length choices)) 0) choice (unrounded_within base (n + 1) truths (suc (length choices)) under).0 (one_more_choice side choice base (n + 1) truths (one ∷ choices) under)
      | false ↦ λ under.
          let inside : length choices < length (unrounded_cells base (n + 1) truths) = omega arith in
          chosen_later base truth (neighbour base truth one) truths (by_choices side base truths choices) (by_choices side base truths (choices ++ choice ∷ [])) n (get_or (unrounded_cells base (n + 1) truths) (length choices) 0) choice (unrounded_within base (n + 1) truths (length choices) inside).0 (one_more_choice side choice base (n + 1) truths choices inside)
    ] below

-- before it, that number is to the one side
there_later : (base truth x : ℤ) (truths xs : List ℤ) (n g : ℕ) (side : Bool) → n + 1 ≤ g → get_or xs (g - (n + 1)) (pos 0) ≡ neighbour base (get_or truths (g - (n + 1)) (pos 0)) side → get_or (x ∷ xs) (g - n) (pos 0) ≡ neighbour base (get_or (truth ∷ truths) (g - n) (pos 0)) side
there_later base truth x truths xs n g side from is =
    let next : g - n ≡ suc (g - (n + 1)) = omega arith in
    subst (λ (t : ℕ). get_or (x ∷ xs) t (pos 0) ≡ neighbour base (get_or (truth ∷ truths) t (pos 0)) side) (sym next) is

there_here : (base truth : ℤ) (truths xs : List ℤ) (n : ℕ) (side : Bool) → get_or (neighbour base truth side ∷ xs) (n - n) (pos 0) ≡ neighbour base (get_or (truth ∷ truths) (n - n) (pos 0)) side
there_here base truth truths xs n side =
    let none : n - n ≡ 0 = omega arith in
    subst (λ (t : ℕ). get_or (neighbour base truth side ∷ xs) t (pos 0) ≡ neighbour base (get_or (truth ∷ truths) t (pos 0)) side) (sym none) refl

pub not_yet_chosen : (side : Bool) (base : ℤ) (n : ℕ) (truths : List ℤ) (choices : Choices) → length choices < length (unrounded_cells base n truths)
    → get_or (by_choices side base truths choices) (turn base n truths (length choices)) (pos 0) ≡ neighbour base (get_or truths (turn base n truths (length choices)) (pos 0)) side
not_yet_chosen side base n [] choices below = absurd (omega arith)
not_yet_chosen side base n (truth ∷ truths) [] below =
    elim (is_multiple base truth) as (λ b. 0 < length (if b then unrounded_cells base (n + 1) truths else n ∷ unrounded_cells base (n + 1) truths)
    → get_or (if b then truth ∷ by_choices side base truths [] else neighbour base truth side ∷ by_choices side base truths []) (get_or (if b then unrounded_cells base (n + 1) truths else n ∷ unrounded_cells base (n + 1) truths) 0 0 - n) (pos 0)
    ≡ neighbour base (get_or (truth ∷ truths) (get_or (if b then unrounded_cells base (n + 1) truths else n ∷ unrounded_cells base (n + 1) truths) 0 0 - n) (pos 0)) side) [
      | true ↦ λ under. there_later base truth truth truths (by_choices side base truths []) n (get_or (unrounded_cells base (n + 1) truths) 0 0) side (unrounded_within base (n + 1) truths 0 under).0 (not_yet_chosen side base (n + 1) truths [] under)
      | false ↦ λ under. there_here base truth truths (by_choices side base truths []) n side
    ] below
not_yet_chosen side base n (truth ∷ truths) (one ∷ choices) below =
    elim (is_multiple base truth) as (λ b. suc (length choices) < length (if b then unrounded_cells base (n + 1) truths else n ∷ unrounded_cells base (n + 1) truths)
    → get_or (if b then truth ∷ by_choices side base truths (one ∷ choices) else neighbour base truth one ∷ by_choices side base truths choices) (get_or (if b then unrounded_cells base (n + 1) truths else n ∷ unrounded_cells base (n + 1) truths) (suc (length choices)) 0 - n) (pos 0)
    ≡ neighbour base (get_or (truth ∷ truths) (get_or (if b then unrounded_cells base (n + 1) truths else n ∷ unrounded_cells base (n + 1) truths) (suc (length choices)) 0 - n) (pos 0)) side) [
      | true ↦ λ under. there_later base truth truth truths (by_choices side base truths (one ∷ choices)) n (get_or (unrounded_cells base (n + 1) truths) (suc (length choices)) 0) side (unrounded_within base (n + 1) truths (suc (length choices)) under).0 (not_yet_chosen side base (n + 1) truths (one ∷ choices) under)
      | false ↦ λ under.
          let inside : length choices < length (unrounded_cells base (n + 1) truths) = omega arith in
          there_later base truth (neighbour base truth one) truths (by_choices side base truths choices) n (get_or (unrounded_cells base (n + 1) truths) (length choices) 0) side (unrounded_within base (n + 1) truths (length choices) inside).0 (not_yet_chosen side base (n + 1) truths choices inside)
    ] below

-- a whole list leaves each cell one number
pub whole_leaves_one : (base : ℤ) (n : ℕ) (truths : List ℤ) (choices : Choices) → length (unrounded_cells base n truths) ≤ length choices → by_choices true base truths choices ≡ by_choices false base truths choices
whole_leaves_one base n [] choices whole = refl
whole_leaves_one base n (truth ∷ truths) [] whole =
    elim (is_multiple base truth) as (λ b. length (if b then unrounded_cells base (n + 1) truths else n ∷ unrounded_cells base (n + 1) truths) ≤ 0
    → (if b then truth ∷ by_choices true base truths [] else neighbour base truth true ∷ by_choices true base truths []) ≡ (if b then truth ∷ by_choices false base truths [] else neighbour base truth false ∷ by_choices false base truths [])) [
      | true ↦ λ under. ap (λ (xs : List ℤ). truth ∷ xs) (whole_leaves_one base (n + 1) truths [] under)
      | false ↦ λ under. absurd (omega arith)
    ] whole
whole_leaves_one base n (truth ∷ truths) (one ∷ choices) whole =
    elim (is_multiple base truth) as (λ b. length (if b then unrounded_cells base (n + 1) truths else n ∷ unrounded_cells base (n + 1) truths) ≤ suc (length choices)
    → (if b then truth ∷ by_choices true base truths (one ∷ choices) else neighbour base truth one ∷ by_choices true base truths choices) ≡ (if b then truth ∷ by_choices false base truths (one ∷ choices) else neighbour base truth one ∷ by_choices false base truths choices)) [
      | true ↦ λ under. ap (λ (xs : List ℤ). truth ∷ xs) (whole_leaves_one base (n + 1) truths (one ∷ choices) under)
      | false ↦ λ under. ap (λ (xs : List ℤ). neighbour base truth one ∷ xs) (whole_leaves_one base (n + 1) truths choices (omega arith))
    ] whole
