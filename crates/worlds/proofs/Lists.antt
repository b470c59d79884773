-- Lists as they are to be, and what they give for each number.
use Rattle.std.proofs.Common.{◌≡◌, ◌≢◌, ℕ, ◌+◌, ◌<◌, ◌≤◌, ◌==◌, true, false, not, ◌&&◌, nat_lt, List, [], ◌∷◌, fold, All, None, Some, ℤ, pos, arith, refl, if◌then◌else◌}
use Rattle.std.specs.Ordering.{int_eq}
use Rattle.std.proofs.lemmas.Bool.Decides.{Decides-int_eq, Decides-eqb, nat_tests}
use Rattle.std.proofs.lemmas.List.Elements.{All-nil, All-head, All-tail, All-cons}
use Rattle.sdc_base.specs.Forms.{Term}
use Rattle.sdc_base.specs.Systems.{Numbers}
use Rattle.worlds.specs.NumberLists.{Ascend, IsListed, is_next, first_misplaced, number_given}
use Rattle.worlds.proofs.TrueTests.{and_true, not_true}

-- ---- the first misplaced, and lists as they are to be

next_says : (size least : ℕ) (term : Term) → is_next size least term ≡ true → (least ≤ term.0) × (term.0 < size) × (term.1 ≢ pos 0)
next_says size least term is =
    let one : (not (nat_lt term.0 least) ≡ true) × ((nat_lt term.0 size && not (int_eq term.1 (pos 0))) ≡ true) = and_true (not (nat_lt term.0 least)) (nat_lt term.0 size && not (int_eq term.1 (pos 0))) is in
    let two : (nat_lt term.0 size ≡ true) × (not (int_eq term.1 (pos 0)) ≡ true) = and_true (nat_lt term.0 size) (not (int_eq term.1 (pos 0))) one.1 in
    let low : nat_lt term.0 least ≡ false = not_true (nat_lt term.0 least) one.0 in
    let other : int_eq term.1 (pos 0) ≡ false = not_true (int_eq term.1 (pos 0)) two.1 in
    (grind (arith, nat_tests, low), grind (arith, nat_tests, two.0), λ same. let yes : int_eq term.1 (pos 0) ≡ true = (Decides-int_eq term.1 (pos 0)).1 same in cc)

next_from : (size least : ℕ) (term : Term) → least ≤ term.0 → term.0 < size → term.1 ≢ pos 0 → is_next size least term ≡ true
next_from size least term low named counts =
    let a : nat_lt term.0 least ≡ false = grind (arith, nat_tests, low) in
    let b : nat_lt term.0 size ≡ true = grind (arith, nat_tests, named) in
    let c : int_eq term.1 (pos 0) ≡ false =
    elim (int_eq term.1 (pos 0)) as (λ t. int_eq term.1 (pos 0) ≡ t → t ≡ false) [ true ↦ λ is. absurd (counts ((Decides-int_eq term.1 (pos 0)).0 is)) | false ↦ λ _. refl ] refl in
    rw (a, b, c) refl

pub listed_from : (size least place : ℕ) (terms : List Term) → first_misplaced size least place terms ≡ None → Ascend least terms × All (λ (t : Term). t.0 < size) terms × All (λ (t : Term). t.1 ≢ pos 0) terms
listed_from size least place [] none = (tt, All-nil (λ (t : Term). t.0 < size), All-nil (λ (t : Term). t.1 ≢ pos 0))
listed_from size least place (term ∷ terms) none =
    elim (is_next size least term) as (λ b. is_next size least term ≡ b → (if b then first_misplaced size (term.0 + 1) (place + 1) terms else Some place) ≡ None → Ascend least (term ∷ terms) × All (λ (t : Term). t.0 < size) (term ∷ terms) × All (λ (t : Term). t.1 ≢ pos 0) (term ∷ terms)) [
      | true ↦ λ is later.
          let here : (least ≤ term.0) × (term.0 < size) × (term.1 ≢ pos 0) = next_says size least term is in
          let rest : Ascend (term.0 + 1) terms × All (λ (t : Term). t.0 < size) terms × All (λ (t : Term). t.1 ≢ pos 0) terms = listed_from size (term.0 + 1) (place + 1) terms later in
          ((here.0, rest.0), All-cons (λ (t : Term). t.0 < size) term terms here.1 rest.1, All-cons (λ (t : Term). t.1 ≢ pos 0) term terms here.2 rest.2)
      | false ↦ λ is later. absurd cc
    ] refl none

pub misplaced_none : (size least place : ℕ) (terms : List Term) → Ascend least terms → All (λ (t : Term). t.0 < size) terms → All (λ (t : Term). t.1 ≢ pos 0) terms → first_misplaced size least place terms ≡ None
misplaced_none size least place [] ascends named counts = refl
misplaced_none size least place (term ∷ terms) ascends named counts =
    let next : is_next size least term ≡ true = next_from size least term ascends.0 (All-head (λ (t : Term). t.0 < size) term terms named) (All-head (λ (t : Term). t.1 ≢ pos 0) term terms counts) in
    rw next (misplaced_none size (term.0 + 1) (place + 1) terms ascends.1 (All-tail (λ (t : Term). t.0 < size) term terms named) (All-tail (λ (t : Term). t.1 ≢ pos 0) term terms counts))

pub listed_where_none : (size : ℕ) (terms : List Term) → first_misplaced size 0 0 terms ≡ None → IsListed size terms
listed_where_none size terms none =
    let each : Ascend 0 terms × All (λ (t : Term). t.0 < size) terms × All (λ (t : Term). t.1 ≢ pos 0) terms = listed_from size 0 0 terms none in
    record { ascending = each.0; named = each.1; counting = each.2 }

pub none_where_listed : (size : ℕ) (terms : List Term) → IsListed size terms → first_misplaced size 0 0 terms ≡ None
none_where_listed size terms listed = misplaced_none size 0 0 terms listed.ascending listed.named listed.counting

-- ---- what is given for each number

-- one more is given
abbrev step : ℕ → ℤ → Term → ℤ
step cell number term = if term.0 == cell then term.1 else number

given_from : (Q : ℤ → Type 0) (cell : ℕ) (start : ℤ) (terms : List Term) → Q start → All (λ (t : Term). t.0 ≡ cell → Q t.1) terms → Q (fold (step cell) start terms)
given_from Q cell start [] first all = first
given_from Q cell start (term ∷ terms) first all =
    let rest : All (λ (t : Term). t.0 ≡ cell → Q t.1) terms = All-tail (λ (t : Term). t.0 ≡ cell → Q t.1) term terms all in
    let here : term.0 ≡ cell → Q term.1 = All-head (λ (t : Term). t.0 ≡ cell → Q t.1) term terms all in
    elim (term.0 == cell) as (λ b. (term.0 == cell) ≡ b → Q (fold (step cell) (if b then term.1 else start) terms)) [
      | true ↦ λ is. given_from Q cell term.1 terms (here ((Decides-eqb term.0 cell).0 is)) rest
      | false ↦ λ is. given_from Q cell start terms first rest
    ] refl

-- what holds of 0, and of each that is given for the cell, holds of what is given for it
pub of_given : (Q : ℤ → Type 0) (cell : ℕ) (terms : List Term) → Q (pos 0) → All (λ (t : Term). t.0 ≡ cell → Q t.1) terms → Q (number_given terms cell)
of_given Q cell terms first all = given_from Q cell (pos 0) terms first all

passed : (cell : ℕ) (start : ℤ) (least : ℕ) (terms : List Term) → Ascend least terms → cell < least → fold (step cell) start terms ≡ start
passed cell start least [] ascends below = refl
passed cell start least (term ∷ terms) ascends below =
    let other : (term.0 == cell) ≡ false = grind (arith, nat_tests, ascends.0, below) in
    rw other (passed cell start (term.0 + 1) terms ascends.1 (omega (arith, ascends.0, below)))

each_from : (starts : Numbers) (least : ℕ) (terms : List Term) → Ascend least terms → All (λ (t : Term). fold (step t.0) (starts t.0) terms ≡ t.1) terms
each_from starts least [] ascends = All-nil (λ (t : Term). fold (step t.0) (starts t.0) [] ≡ t.1)
each_from starts least (term ∷ terms) ascends =
    let same : (term.0 == term.0) ≡ true = (Decides-eqb term.0 term.0).1 refl in
    All-cons (λ (t : Term). fold (step t.0) (starts t.0) (term ∷ terms) ≡ t.1) term terms
    (rw same (passed term.0 term.1 (term.0 + 1) terms ascends.1 (omega arith)))
    (each_from (λ cell. step cell (starts cell) term) (term.0 + 1) terms ascends.1)

-- a list that ascends gives what it says
pub each_given : (least : ℕ) (terms : List Term) → Ascend least terms → All (λ (t : Term). number_given terms t.0 ≡ t.1) terms
each_given least terms ascends = each_from (λ cell. pos 0) least terms ascends
