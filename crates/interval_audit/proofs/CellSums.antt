-- Numbers of the cells, as multiples of cells are added to them and taken from them.
use Rattle.std.proofs.Common.{◌≡◌, ◌≢◌, ℕ, zero, suc, ◌+◌, ◌<◌, ◌≤◌, ◌==◌, true, false, List, length, map, take, drop, get_or, slice_set, All, ℤ, pos, neg_ℤ, ◌+ℤ◌, ◌-ℤ◌, ◌≤ℤ◌, arith, ap, sym, ◌∙◌, refl, subst, add-one, if◌then◌else◌}
use Rattle.std.proofs.lemmas.Int.{ints}
use Rattle.std.proofs.lemmas.Bool.Decides.{Decides-eqb, nat_tests}
use Rattle.std.proofs.lemmas.List.{get_or-set_same, get_or-set_other, drop_more, take_all}
use Rattle.std.proofs.lemmas.List.Elements.{All-cons, All-map}
use Rattle.sdc_base.specs.declared.relation.Relation.{Relation}
use Rattle.sdc_base.specs.Forms.{Term, form_times, coefficient}
use Rattle.sdc_base.specs.Systems.{NamesCells, number_at}
use Rattle.sdc_base.proofs.TotalLemmas.{sum_of-cons}
use Rattle.interval_audit.specs.CellNumbers.{AreCoefficients, AreWithin}
use Rattle.interval_audit.specs.FormSigns.{IsFormSign}
use Rattle.interval_audit.proofs.Counting.{counted_next, one_if}

number_set : (numbers : List ℤ) (place : ℕ) (number : ℤ) (cell : ℕ) → place < length numbers → number_at (slice_set numbers place number) cell ≡ (if place == cell then number else number_at numbers cell)
number_set numbers place number cell within =
    elim (place == cell) as (λ b. (place == cell) ≡ b → number_at (slice_set numbers place number) cell ≡ (if b then number else number_at numbers cell)) [
      | true ↦ λ is.
          let same : cell ≡ place = sym ((Decides-eqb place cell).0 is) in
          ap (λ c. number_at (slice_set numbers place number) c) same ∙ get_or-set_same numbers place number (pos 0) within
      | false ↦ λ is.
          let other : cell ≢ place = grind (arith, nat_tests, is) in
          get_or-set_other numbers place cell number (pos 0) other
    ] refl

-- what is added so far is at most as much as there are terms
pub few_taken : (terms : List Term) (cell i : ℕ) → i ≤ length terms → All (λ (t : Term). IsFormSign t.1) terms → (neg_ℤ (pos i) ≤ℤ coefficient (take i terms) cell) × (coefficient (take i terms) cell ≤ℤ pos i)
few_taken terms cell zero most signs = (omega (arith, ints), omega (arith, ints))
few_taken terms cell (suc i) most signs =
    let d : Term = (0, pos 0) in
    let t : Term = get_or terms i d in
    let inside : i < length terms = omega (arith, most) in
    let before = few_taken terms cell i (omega (arith, most)) signs in
    let sign : IsFormSign (if t.0 == cell then t.1 else pos 0) = one_if (t.0 == cell) t.1 (signs i d inside) in
    let next : coefficient (take (suc i) terms) cell ≡ coefficient (take i terms) cell +ℤ (if t.0 == cell then t.1 else pos 0) = ap (λ n. coefficient (take n terms) cell) (sym (add-one i)) ∙ counted_next terms i cell d inside in
    (omega (arith, ints, next, before.0, sign.low), omega (arith, ints, next, before.1, sign.high))

pub few_all : (terms : List Term) (cell : ℕ) → All (λ (t : Term). IsFormSign t.1) terms → (neg_ℤ (pos (length terms)) ≤ℤ coefficient terms cell) × (coefficient terms cell ≤ℤ pos (length terms))
few_all terms cell signs =
    subst (λ (ts : List Term). (neg_ℤ (pos (length terms)) ≤ℤ coefficient ts cell) × (coefficient ts cell ≤ℤ pos (length terms))) (take_all (length terms) terms (omega arith)) (few_taken terms cell (length terms) (omega arith) signs)

-- the numbers are within the number of terms
pub within_all : (numbers : List ℤ) (terms : List Term) (bound : ℕ) → length terms ≤ bound → All (λ (t : Term). IsFormSign t.1) terms → AreCoefficients numbers terms → AreWithin (pos bound) numbers
within_all numbers terms bound few signs are cell =
    let own = few_all terms cell signs in
    (omega (arith, ints, few, are cell, own.0), omega (arith, ints, few, are cell, own.1))

pub added : (numbers : List ℤ) (terms : List Term) (i : ℕ) (d : Term) (sum : ℤ) → i < length terms → (get_or terms i d).0 < length numbers → AreCoefficients numbers (take i terms) → sum ≡ number_at numbers (get_or terms i d).0 +ℤ (get_or terms i d).1
    → AreCoefficients (slice_set numbers (get_or terms i d).0 sum) (take (i + 1) terms)
added numbers terms i d sum inside within are is cell =
    let t : Term = get_or terms i d in
    number_set numbers t.0 sum cell within
    ∙ elim (t.0 == cell) as (λ b. (t.0 == cell) ≡ b → (if b then sum else number_at numbers cell) ≡ coefficient (take i terms) cell +ℤ (if b then t.1 else pos 0)) [
      | true ↦ λ same. is ∙ ap (λ c. number_at numbers c +ℤ t.1) ((Decides-eqb t.0 cell).0 same) ∙ ap (λ n. n +ℤ t.1) (are cell)
      | false ↦ λ same. are cell ∙ omega (arith, ints)
    ] refl
    ∙ sym (counted_next terms i cell d inside)

-- what is left, one term at a time
left_next : (terms : List Term) (i cell : ℕ) (d : Term) → i < length terms → coefficient (drop i terms) cell ≡ (if (get_or terms i d).0 == cell then (get_or terms i d).1 else pos 0) +ℤ coefficient (drop (i + 1) terms) cell
left_next terms i cell d inside =
    ap (λ ts. coefficient ts cell) (drop_more terms i d inside) ∙ sum_of-cons (λ (t : Term). if t.0 == cell then t.1 else pos 0) (get_or terms i d) (drop (i + 1) terms)

-- what is left is at most as much as there are terms
pub few_left : (terms : List Term) (cell i : ℕ) → i ≤ length terms → All (λ (t : Term). IsFormSign t.1) terms → (neg_ℤ (pos (length terms + i)) ≤ℤ coefficient (drop i terms) cell) × (coefficient (drop i terms) cell ≤ℤ pos (length terms + i))
few_left terms cell zero most signs =
    let own = few_all terms cell signs in
    (omega (arith, ints, own.0), omega (arith, ints, own.1))
few_left terms cell (suc i) most signs =
    let d : Term = (0, pos 0) in
    let t : Term = get_or terms i d in
    let inside : i < length terms = omega (arith, most) in
    let before = few_left terms cell i (omega (arith, most)) signs in
    let sign : IsFormSign (if t.0 == cell then t.1 else pos 0) = one_if (t.0 == cell) t.1 (signs i d inside) in
    let next : coefficient (drop i terms) cell ≡ (if t.0 == cell then t.1 else pos 0) +ℤ coefficient (drop (suc i) terms) cell = left_next terms i cell d inside ∙ ap (λ n. (if t.0 == cell then t.1 else pos 0) +ℤ coefficient (drop n terms) cell) (add-one i) in
    (omega (arith, ints, next, before.0, sign.high), omega (arith, ints, next, before.1, sign.low))

pub taken : (numbers : List ℤ) (terms : List Term) (i : ℕ) (d : Term) (rest : ℤ) → i < length terms → (get_or terms i d).0 < length numbers → AreCoefficients numbers (drop i terms) → rest ≡ number_at numbers (get_or terms i d).0 -ℤ (get_or terms i d).1
    → AreCoefficients (slice_set numbers (get_or terms i d).0 rest) (drop (i + 1) terms)
taken numbers terms i d rest inside within are is cell =
    let t : Term = get_or terms i d in
    number_set numbers t.0 rest cell within
    ∙ elim (t.0 == cell) as (λ b. (t.0 == cell) ≡ b → number_at numbers cell ≡ (if b then t.1 else pos 0) +ℤ coefficient (drop (i + 1) terms) cell → (if b then rest else number_at numbers cell) ≡ coefficient (drop (i + 1) terms) cell) [
      | true ↦ λ same left. let here : number_at numbers t.0 ≡ number_at numbers cell = ap (number_at numbers) ((Decides-eqb t.0 cell).0 same) in omega (arith, ints, is, here, left)
      | false ↦ λ same left. omega (arith, ints, left)
    ] refl (are cell ∙ left_next terms i cell d inside)

-- the terms of a relation's form are cells that it names
pub form_named : (times : ℤ) (r : Relation) (n : ℕ) → NamesCells n r → All (λ (t : Term). t.0 < n) (form_times times r)
form_named times r n named = All-cons (λ (t : Term). t.0 < n) (r.total, times) (map (λ part. (part, neg_ℤ times)) r.parts) named.total_named (All-map (λ (t : Term). t.0 < n) (λ (part : ℕ). (part, neg_ℤ times)) r.parts (λ k d inside. named.parts_named k d inside))
