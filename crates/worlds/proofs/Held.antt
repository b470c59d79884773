-- Numbers of 128 bits, and multiples added to them.
use Rattle.std.proofs.Common.{◌≡◌, ◌≢◌, ◌==◌, ℕ, ◌<◌, ◌^◌, true, false, List, [], ◌∷◌, ◌++◌, length, length-set, slice_set, All, Ok, Err, FitsSigned, ℤ, pos, neg_ℤ, ◌+ℤ◌, ◌≤ℤ◌, ◌<ℤ◌, int_lt, int_le, arith, refl, ap, sym, ◌∙◌, subst, if◌then◌else◌}
use Rattle.std.specs.Int.{w128}
use Rattle.std.proofs.lemmas.Int.{ints}
use Rattle.std.proofs.lemmas.Bool.Decides.{Decides-eqb, nat_tests}
use Rattle.std.proofs.lemmas.List.{get_or-set_same, get_or-set_other, append_assoc}
use Rattle.std.proofs.lemmas.List.Elements.{All-head, All-tail}
use Rattle.sdc_base.proofs.StepLemmas.{bind_ok}
use Rattle.sdc_base.proofs.TotalLemmas.{sum_of-cons, sum_of-append}
use Rattle.sdc_base.specs.Forms.{Term, coefficient}
use Rattle.worlds.specs.declared.faults.RefutationFault.TheVariants as fault
use Rattle.worlds.specs.BoundedNumbers.{fits_128_bits, within_128_bits, numbers_with_terms}
use Rattle.sdc_base.specs.Systems.{number_at}
use Rattle.worlds.proofs.Bounds.{decides_le}
use Rattle.worlds.proofs.TrueTests.{and_true, both_true}
use Rattle.worlds.proofs.WorldLaws.{then_ok}

-- ---- a number of 128 bits

pub fits_says : (n : ℤ) → fits_128_bits n ≡ true → FitsSigned w128 n
fits_says n is =
    let both : (int_le (neg_ℤ (pos (2 ^ 127))) n ≡ true) × (int_lt n (pos (2 ^ 127)) ≡ true) = and_true (int_le (neg_ℤ (pos (2 ^ 127))) n) (int_lt n (pos (2 ^ 127))) is in
    let low : neg_ℤ (pos (2 ^ 127)) ≤ℤ n = (decides_le (neg_ℤ (pos (2 ^ 127))) n).0 both.0 in
    let high : n <ℤ pos (2 ^ 127) = grind (arith, ints, both.1) in
    omega (arith, ints, low, high)

pub fits_test : (n : ℤ) → FitsSigned w128 n → fits_128_bits n ≡ true
fits_test n is =
    let low : neg_ℤ (pos (2 ^ 127)) ≤ℤ n = omega (arith, ints, is) in
    let high : n <ℤ pos (2 ^ 127) = omega (arith, ints, is) in
    both_true (int_le (neg_ℤ (pos (2 ^ 127))) n) (int_lt n (pos (2 ^ 127))) ((decides_le (neg_ℤ (pos (2 ^ 127))) n).1 low) (grind (arith, ints, high))

pub held_says : (cell : ℕ) (n x : ℤ) → within_128_bits cell n ≡ Ok x → (x ≡ n) × FitsSigned w128 n
held_says cell n x ok =
    elim (fits_128_bits n) as (λ b. fits_128_bits n ≡ b → (if b then Ok n else Err (fault.Wide cell)) ≡ Ok x → (x ≡ n) × FitsSigned w128 n) [
      | true ↦ λ is same. (cc, fits_says n is)
      | false ↦ λ is same. absurd cc
    ] refl ok

pub held_passes : (cell : ℕ) (n : ℤ) → FitsSigned w128 n → within_128_bits cell n ≡ Ok n
held_passes cell n is = rw (fits_test n is) refl

-- ---- coefficients as they grow

append_nil : (l : List Term) → l ++ [] ≡ l
append_nil [] = refl
append_nil (t ∷ l) = ap (λ (r : List Term). t ∷ r) (append_nil l)

-- an empty list has no parts
none_split : (first : List Term) (term : Term) (rest : List Term) → [] ≡ first ++ term ∷ rest → ⊥
none_split [] term rest is = cc
none_split (f ∷ first) term rest is = cc

pub coefficient-more : (done : List Term) (term : Term) (cell : ℕ) → coefficient (done ++ term ∷ []) cell ≡ coefficient done cell +ℤ (if term.0 == cell then term.1 else pos 0)
coefficient-more done term cell =
    sum_of-append (λ (t : Term). if t.0 == cell then t.1 else pos 0) done (term ∷ [])
    ∙ omega (arith, ints, sum_of-cons (λ (t : Term). if t.0 == cell then t.1 else pos 0) term [])

at_set : (numbers : List ℤ) (place : ℕ) (number : ℤ) (cell : ℕ) → place < length numbers → number_at (slice_set numbers place number) cell ≡ (if place == cell then number else number_at numbers cell)
at_set numbers place number cell within =
    elim (place == cell) as (λ b. (place == cell) ≡ b → number_at (slice_set numbers place number) cell ≡ (if b then number else number_at numbers cell)) [
      | true ↦ λ is.
          let same : cell ≡ place = sym ((Decides-eqb place cell).0 is) in
          ap (λ c. number_at (slice_set numbers place number) c) same ∙ get_or-set_same numbers place number (pos 0) within
      | false ↦ λ is.
          let other : cell ≢ place = grind (arith, nat_tests, is) in
          get_or-set_other numbers place cell number (pos 0) other
    ] refl

-- the numbers of the cells are the coefficients of what is done
abbrev pub AreSums : List ℤ → List Term → Type 0
AreSums numbers done = (cell : ℕ) → number_at numbers cell ≡ coefficient done cell

sums_more : (numbers : List ℤ) (done : List Term) (term : Term) → term.0 < length numbers → AreSums numbers done → AreSums (slice_set numbers term.0 (number_at numbers term.0 +ℤ term.1)) (done ++ term ∷ [])
sums_more numbers done term within are cell =
    at_set numbers term.0 (number_at numbers term.0 +ℤ term.1) cell within
    ∙ elim (term.0 == cell) as (λ b. (term.0 == cell) ≡ b → (if b then number_at numbers term.0 +ℤ term.1 else number_at numbers cell) ≡ coefficient done cell +ℤ (if b then term.1 else pos 0)) [
      | true ↦ λ is. ap (λ c. number_at numbers c +ℤ term.1) ((Decides-eqb term.0 cell).0 is) ∙ ap (λ n. n +ℤ term.1) (are cell)
      | false ↦ λ is. are cell ∙ omega (arith, ints)
    ] refl
    ∙ sym (coefficient-more done term cell)

own_sum : (numbers : List ℤ) (done : List Term) (term : Term) → AreSums numbers done → number_at numbers term.0 +ℤ term.1 ≡ coefficient (done ++ term ∷ []) term.0
own_sum numbers done term are =
    let same : (term.0 == term.0) ≡ true = (Decides-eqb term.0 term.0).1 refl in
    ap (λ n. n +ℤ term.1) (are term.0)
    ∙ ap (λ b. coefficient done term.0 +ℤ (if b then term.1 else pos 0)) (sym same)
    ∙ sym (coefficient-more done term term.0)

-- no coefficient is wider than 128 bits as it grows by these terms
abbrev pub AreHeld : List Term → List Term → Type 0
AreHeld done terms = (first : List Term) (term : Term) (rest : List Term) → terms ≡ first ++ term ∷ rest → FitsSigned w128 (coefficient (done ++ first ++ term ∷ []) term.0)

held_head : (done : List Term) (term : Term) (terms : List Term) → AreHeld done (term ∷ terms) → FitsSigned w128 (coefficient (done ++ term ∷ []) term.0)
held_head done term terms are = subst (λ (l : List Term). FitsSigned w128 (coefficient (l ++ term ∷ []) term.0)) (append_nil done) (are [] term terms refl)

held_tail : (done : List Term) (term : Term) (terms : List Term) → AreHeld done (term ∷ terms) → AreHeld (done ++ term ∷ []) terms
held_tail done term terms are first one rest is =
    subst (λ (l : List Term). FitsSigned w128 (coefficient (l ++ one ∷ []) one.0)) (sym (append_assoc done (term ∷ []) first)) (are (term ∷ first) one rest (ap (λ (l : List Term). term ∷ l) is))

held_both : (done : List Term) (term : Term) (terms : List Term) → FitsSigned w128 (coefficient (done ++ term ∷ []) term.0) → AreHeld (done ++ term ∷ []) terms → AreHeld done (term ∷ terms)
held_both done term terms here later [] one rest is =
    let same : term ≡ one = cc in
    subst (λ (l : List Term). FitsSigned w128 (coefficient (l ++ one ∷ []) one.0)) (sym (append_nil done)) (subst (λ (t : Term). FitsSigned w128 (coefficient (done ++ t ∷ []) t.0)) same here)
held_both done term terms here later (f ∷ first) one rest is =
    let same : term ≡ f = cc in
    let others : terms ≡ first ++ one ∷ rest = cc in
    let own : FitsSigned w128 (coefficient (done ++ term ∷ [] ++ first ++ one ∷ []) one.0) = later first one rest others in
    subst (λ (t : Term). FitsSigned w128 (coefficient (done ++ t ∷ first ++ one ∷ []) one.0)) same
    (subst (λ (l : List Term). FitsSigned w128 (coefficient (l ++ one ∷ []) one.0)) (append_assoc done (term ∷ []) first) own)

-- what adding comes to, where it comes to an end
pub record Gathering (done : List Term) (terms : List Term) (after : List ℤ) : Type 0 where
  pub sums : AreSums after (done ++ terms)
  pub are_held : AreHeld done terms

pub gathered_says : (numbers : List ℤ) (done terms : List Term) (after : List ℤ) → All (λ (t : Term). t.0 < length numbers) terms → AreSums numbers done → numbers_with_terms numbers terms ≡ Ok after → Gathering done terms after
gathered_says numbers done [] after inside are ok =
    let same : numbers ≡ after = cc in
    record { sums = λ cell. ap (λ n. number_at n cell) (sym same) ∙ are cell ∙ ap (λ (l : List Term). coefficient l cell) (sym (append_nil done)); are_held = λ first term rest is. absurd (none_split first term rest is) }
gathered_says numbers done (term ∷ terms) after inside are ok =
    let Inside : List ℤ → Term → Type 0 = λ n t. t.0 < length n in
    let sum : ℤ = number_at numbers term.0 +ℤ term.1 in
    let parts = bind_ok (within_128_bits term.0 sum) (λ x. numbers_with_terms (slice_set numbers term.0 x) terms) after ok in
    let own : (parts.0 ≡ sum) × FitsSigned w128 sum = held_says term.0 sum parts.0 parts.1 in
    let later : numbers_with_terms (slice_set numbers term.0 sum) terms ≡ Ok after = subst (λ x. numbers_with_terms (slice_set numbers term.0 x) terms ≡ Ok after) own.0 parts.2 in
    let within : term.0 < length numbers = All-head (Inside numbers) term terms inside in
    let next : List ℤ = slice_set numbers term.0 sum in
    let long : length next ≡ length numbers = length-set numbers term.0 sum in
    let rest : All (λ (t : Term). t.0 < length next) terms = subst (λ n. All (λ (t : Term). t.0 < n) terms) (sym long) (All-tail (Inside numbers) term terms inside) in
    let all : Gathering (done ++ term ∷ []) terms after = gathered_says next (done ++ term ∷ []) terms after rest (sums_more numbers done term within are) later in
    record {
      sums = λ cell. all.sums cell ∙ ap (λ (l : List Term). coefficient l cell) (append_assoc done (term ∷ []) terms);
      are_held = held_both done term terms (subst (FitsSigned w128) (own_sum numbers done term are) own.1) all.are_held;
    }

pub gathered_ends : (numbers : List ℤ) (done terms : List Term) → All (λ (t : Term). t.0 < length numbers) terms → AreSums numbers done → AreHeld done terms → (after : List ℤ) × (numbers_with_terms numbers terms ≡ Ok after)
gathered_ends numbers done [] inside are all = (numbers, refl)
gathered_ends numbers done (term ∷ terms) inside are all =
    let Inside : List ℤ → Term → Type 0 = λ n t. t.0 < length n in
    let sum : ℤ = number_at numbers term.0 +ℤ term.1 in
    let within : term.0 < length numbers = All-head (Inside numbers) term terms inside in
    let next : List ℤ = slice_set numbers term.0 sum in
    let long : length next ≡ length numbers = length-set numbers term.0 sum in
    let rest : All (λ (t : Term). t.0 < length next) terms = subst (λ n. All (λ (t : Term). t.0 < n) terms) (sym long) (All-tail (Inside numbers) term terms inside) in
    let own : FitsSigned w128 sum = subst (FitsSigned w128) (sym (own_sum numbers done term are)) (held_head done term terms all) in
    let later : (after : List ℤ) × (numbers_with_terms next terms ≡ Ok after) = gathered_ends next (done ++ term ∷ []) terms rest (sums_more numbers done term within are) (held_tail done term terms all) in
    (later.0, then_ok (within_128_bits term.0 sum) (λ x. numbers_with_terms (slice_set numbers term.0 x) terms) sum later.0 (held_passes term.0 sum own) later.1)
