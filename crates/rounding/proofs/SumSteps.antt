-- How the sums of the relations move with a cell's numbers.
use Rattle.std.proofs.Common.{◌≡◌, ℕ, zero, suc, ◌+◌, ◌^◌, ◌<◌, ◌≤◌, ◌==◌, Bool, true, false, List, length, get_or, All, Some, slice_get, ℤ, pos, neg_ℤ, ◌+ℤ◌, ◌-ℤ◌, ◌*ℤ◌, ◌≤ℤ◌, ◌⊎◌, int_lt, arith, refl, ap, sym, subst, ◌∙◌, if◌then◌else◌, inl, inr, get_or-set_other, get_or-set_same, ◌≢◌, take, [], ◌∷◌, ◌++◌, length-append}
use Rattle.std.proofs.Math.ListN.{set}
use Rattle.std.proofs.lemmas.Int.{ints, by_lt_z}
use Rattle.std.proofs.lemmas.Bool.{cases_lt}
use Rattle.std.proofs.lemmas.Bool.Decides.{Decides-eqb, nat_tests}
use Rattle.std.proofs.lemmas.Option.{slice_get_within, get_or_from_slice_get, same_Some}
use Rattle.std.proofs.lemmas.List.Elements.{All-get_or}
use Rattle.std.proofs.lemmas.List.Sums.{fold_more}
use Rattle.std.proofs.lemmas.List.{take_all, get_or_append_left}
use Rattle.sdc_base.specs.Totals.{sum_of}
use Rattle.sdc_base.specs.declared.relation.Relation.{Relation}
use Rattle.sdc_base.specs.Systems.{Numbers, NamesCells, number_at}
use Rattle.sdc_base.proofs.WholeNumbers.{times_up, times_down}
use Rattle.sdc_base.specs.Forms.{count_of}
use Rattle.rounding.specs.Extremes.{extreme_of_form, change}
use Rattle.rounding.specs.Sums.{AreExtremes}
use Rattle.rounding.specs.Namings.{IsNotIn, IsNamingOf}
use Rattle.rounding.proofs.FormLemmas.{Changed, extreme_changed}

-- ---- one product

pub change_is : (r : Relation) (cell : ℕ) (one other times by : ℤ) → times ≡ count_of r cell → by ≡ (if int_lt (pos 0) times then one else other) → times *ℤ by ≡ change r cell one other
change_is r cell one other times by same is =
    let by_is : by ≡ (if int_lt (pos 0) (count_of r cell) then one else other) = is ∙ ap (λ t. if int_lt (pos 0) t then one else other) same in
    (λ i. same i *ℤ by_is i)

-- within 2^74 to both sides
pub record IsModest (z : ℤ) : Type 0 where
  pub low : neg_ℤ (pos (2 ^ 74)) ≤ℤ z
  pub high : z ≤ℤ pos (2 ^ 74)

pub picked_modest : (b : Bool) (one other by : ℤ) → IsModest one → IsModest other → by ≡ (if b then one else other) → IsModest by
picked_modest true one other by first second is = subst IsModest (sym is) first
picked_modest false one other by first second is = subst IsModest (sym is) second

pub product_within : (t b : ℤ) → neg_ℤ (pos (2 ^ 32)) ≤ℤ t → t ≤ℤ pos 1 → IsModest b → (neg_ℤ (pos (2 ^ 110)) ≤ℤ (t *ℤ b)) × ((t *ℤ b) ≤ℤ pos (2 ^ 110))
product_within t b low high modest =
    by_lt_z t (pos 0)
    (λ below.
    let down = times_down t b (pos (2 ^ 74)) (omega (arith, ints)) modest.high in
    let up = times_down t (neg_ℤ (pos (2 ^ 74))) b (omega (arith, ints)) modest.low in
    (omega (arith, ints, down), omega (arith, ints, up)))
    (λ from.
    let up = times_up t b (pos (2 ^ 74)) from modest.high in
    let down = times_up t (neg_ℤ (pos (2 ^ 74))) b from modest.low in
    (omega (arith, ints, down), omega (arith, ints, up)))

-- ---- the sums of the first relations that name a cell have moved

-- a number is in a list, or isn't
pub find_number : (numbers : List ℕ) (n : ℕ) → ((j : ℕ) × ((j < length numbers) × (get_or numbers j 0 ≡ n))) ⊎ IsNotIn numbers n
find_number [] n = inr (λ place below. absurd (omega arith))
find_number (x ∷ numbers) n =
    elim (x == n) as (λ b. (x == n) ≡ b → ((j : ℕ) × ((j < suc (length numbers)) × (get_or (x ∷ numbers) j 0 ≡ n))) ⊎ IsNotIn (x ∷ numbers) n) [
      | true ↦ λ test. inl (0, (omega arith, (Decides-eqb x n).0 test))
      | false ↦ λ test. later x numbers n (grind (arith, nat_tests, test)) (find_number numbers n)
    ] refl
  where
    lacks_more : (x : ℕ) (numbers : List ℕ) (n : ℕ) → x ≢ n → IsNotIn numbers n → IsNotIn (x ∷ numbers) n
    lacks_more x numbers n apart lacks zero below = apart
    lacks_more x numbers n apart lacks (suc place) below = lacks place (omega arith)

    later : (x : ℕ) (numbers : List ℕ) (n : ℕ) → x ≢ n → ((j : ℕ) × ((j < length numbers) × (get_or numbers j 0 ≡ n))) ⊎ IsNotIn numbers n → ((j : ℕ) × ((j < suc (length numbers)) × (get_or (x ∷ numbers) j 0 ≡ n))) ⊎ IsNotIn (x ∷ numbers) n
    later x numbers n apart (inl found) = inl (suc found.0, (omega (arith, found.1.0), found.1.1))
    later x numbers n apart (inr lacks) = inr (lacks_more x numbers n apart lacks)

pub record AreMoved (relations : List Relation) (named : List ℕ) (old now : List ℤ) (cell : ℕ) (one other : ℤ) (passed : ℕ) : Type 0 where
  pub moved : (j : ℕ) (r : Relation) → j < passed → slice_get relations (get_or named j 0) ≡ Some r → number_at now (get_or named j 0) ≡ number_at old (get_or named j 0) +ℤ change r cell one other
  pub rest : (n : ℕ) → ((j : ℕ) → j < passed → get_or named j 0 ≢ n) → number_at now n ≡ number_at old n

pub none_moved : (relations : List Relation) (named : List ℕ) (sums : List ℤ) (cell : ℕ) (one other : ℤ) → AreMoved relations named sums sums cell one other 0
none_moved relations named sums cell one other = record { moved = λ j r below there. absurd (omega arith); rest = λ n past. refl }

-- where the sums before this place have moved, the one at it has not
pub not_yet : (relations : List Relation) (named : List ℕ) (old now : List ℤ) (cell : ℕ) (one other : ℤ) (k : ℕ) → k < length named → IsNamingOf relations cell named → AreMoved relations named old now cell one other k → number_at now (get_or named k 0) ≡ number_at old (get_or named k 0)
not_yet relations named old now cell one other k inside naming are = are.rest (get_or named k 0) (λ j below same. omega (arith, naming.ascends.ascending j k below inside, same))

pub one_more_moved : (relations : List Relation) (named : List ℕ) (old now : List ℤ) (cell : ℕ) (one other : ℤ) (k : ℕ) (item : Relation) (to : ℤ) → k < length named → IsNamingOf relations cell named → length now ≡ length relations → slice_get relations (get_or named k 0) ≡ Some item → to ≡ number_at now (get_or named k 0) +ℤ change item cell one other
    → AreMoved relations named old now cell one other k → AreMoved relations named old (set now (get_or named k 0) to) cell one other (k + 1)
one_more_moved relations named old now cell one other k item to inside naming each found is are =
    let here : ℕ = get_or named k 0 in
    record {
      moved = λ j r below there.
          elim (cases_lt j k) as (λ _. number_at (set now here to) (get_or named j 0) ≡ number_at old (get_or named j 0) +ℤ change r cell one other) [
            | inl less ↦
                let ascending = naming.ascends.ascending j k less inside in
                let apart : get_or named j 0 ≢ here = omega (arith, ascending) in
                get_or-set_other now here (get_or named j 0) to (pos 0) apart ∙ are.moved j r less there
            | inr not_less ↦
                let same : j ≡ k = omega arith in
                let place : get_or named j 0 ≡ here = ap (λ (i : ℕ). get_or named i 0) same in
                let within = naming.ascends.within k inside in
                let one_item : item ≡ r = same_Some item r (sym found ∙ ap (λ (i : ℕ). slice_get relations i) (sym place) ∙ there) in
                ap (λ (i : ℕ). number_at (set now here to) i) place ∙ get_or-set_same now here to (pos 0) (omega (arith, within, each)) ∙ is
                ∙ ap (λ z. z +ℤ change item cell one other) (not_yet relations named old now cell one other k inside naming are)
                ∙ ap (λ (i : ℕ). number_at old i +ℤ change item cell one other) (sym place)
                ∙ ap (λ (q : Relation). number_at old (get_or named j 0) +ℤ change q cell one other) one_item
          ];
      rest = λ n past.
          let apart : n ≢ here = λ same. past k (omega arith) (sym same) in
          get_or-set_other now here n to (pos 0) apart ∙ are.rest n (λ j below. past j (omega arith));
    }

no_change : (r : Relation) (cell : ℕ) (one other : ℤ) → count_of r cell ≡ pos 0 → change r cell one other ≡ pos 0
no_change r cell one other none = ap (λ k. k *ℤ (if int_lt (pos 0) k then one else other)) none ∙ omega (arith, ints)

-- all sums have moved: those of relations that don't name the cell by 0
pub all_moved : (relations : List Relation) (named : List ℕ) (old now : List ℤ) (cell : ℕ) (one other : ℤ) (k : ℕ) → length named ≤ k → k ≤ length named → IsNamingOf relations cell named → AreMoved relations named old now cell one other k → (n : ℕ) (r : Relation) → slice_get relations n ≡ Some r → number_at now n ≡ number_at old n +ℤ change r cell one other
all_moved relations named old now cell one other k past inside naming are n r there =
    elim (find_number named n) as (λ _. number_at now n ≡ number_at old n +ℤ change r cell one other) [
      | inl found ↦
          let place : get_or named found.0 0 ≡ n = found.1.1 in
          subst (λ (i : ℕ). number_at now i ≡ number_at old i +ℤ change r cell one other) place (are.moved found.0 r (omega (arith, found.1.0)) (ap (λ (i : ℕ). slice_get relations i) place ∙ there))
      | inr lacks ↦
          let none = no_change r cell one other (naming.each_counting n r there lacks) in
          are.rest n (λ j below. lacks j (omega arith)) ∙ omega (arith, ints, none)
    ]

-- ---- the extremes after a cell's number is set

pub changed_by_set : (numbers : List ℤ) (cell : ℕ) (to by : ℤ) → cell < length numbers → by ≡ to -ℤ number_at numbers cell → Changed cell by (number_at numbers) (number_at (set numbers cell to))
changed_by_set numbers cell to by inside is c =
    elim (cell == c) as (λ b. (cell == c) ≡ b → number_at (set numbers cell to) c ≡ number_at numbers c +ℤ (if b then by else pos 0)) [
      | true ↦ λ test.
          let same : cell ≡ c = (Decides-eqb cell c).0 test in
          ap (λ (j : ℕ). number_at (set numbers cell to) j) (sym same) ∙ get_or-set_same numbers cell to (pos 0) inside ∙ omega (arith, ints, is, ap (λ (j : ℕ). number_at numbers j) same)
      | false ↦ λ test.
          let apart : c ≢ cell = grind (arith, nat_tests, test) in
          get_or-set_other numbers cell c to (pos 0) apart ∙ omega (arith, ints)
    ] refl

unchanged : (numbers : Numbers) (cell : ℕ) → Changed cell (pos 0) numbers numbers
unchanged numbers cell c = same (cell == c) (numbers c)
  where
    same : (b : Bool) (z : ℤ) → z ≡ z +ℤ (if b then pos 0 else pos 0)
    same true z = omega (arith, ints)
    same false z = omega (arith, ints)

pub named_at : (n : ℕ) (relations : List Relation) (k : ℕ) (r : Relation) → All (NamesCells n) relations → slice_get relations k ≡ Some r → NamesCells n r
named_at n relations k r named there = subst (NamesCells n) (get_or_from_slice_get relations k r r there) (All-get_or (NamesCells n) relations k r (slice_get_within relations k r there) named)

pub first_set : (relations : List Relation) (numbers other : List ℤ) (cell : ℕ) (to by : ℤ) (sums sums' : List ℤ) → All (NamesCells (length numbers)) relations → cell < length numbers → by ≡ to -ℤ number_at numbers cell → length sums' ≡ length sums
    → ((n : ℕ) (r : Relation) → slice_get relations n ≡ Some r → number_at sums' n ≡ number_at sums n +ℤ change r cell by (pos 0)) → AreExtremes numbers other relations sums → AreExtremes (set numbers cell to) other relations sums'
first_set relations numbers other cell to by sums sums' named inside is long moved are = record {
  each = long ∙ are.each;
  extremes = λ n r there.
      moved n r there ∙ ap (λ z. z +ℤ change r cell by (pos 0)) (are.extremes n r there)
      ∙ sym (extreme_changed (length numbers) r cell by (pos 0) (number_at numbers) (number_at other) (number_at (set numbers cell to)) (number_at other) (named_at (length numbers) relations n r named there) inside (changed_by_set numbers cell to by inside is) (unchanged (number_at other) cell));
}

pub second_set : (relations : List Relation) (numbers other : List ℤ) (cell : ℕ) (to by : ℤ) (sums sums' : List ℤ) → All (NamesCells (length numbers)) relations → cell < length numbers → by ≡ to -ℤ number_at numbers cell → length sums' ≡ length sums
    → ((n : ℕ) (r : Relation) → slice_get relations n ≡ Some r → number_at sums' n ≡ number_at sums n +ℤ change r cell (pos 0) by) → AreExtremes other numbers relations sums → AreExtremes other (set numbers cell to) relations sums'
second_set relations numbers other cell to by sums sums' named inside is long moved are = record {
  each = long ∙ are.each;
  extremes = λ n r there.
      moved n r there ∙ ap (λ z. z +ℤ change r cell (pos 0) by) (are.extremes n r there)
      ∙ sym (extreme_changed (length numbers) r cell (pos 0) by (number_at other) (number_at numbers) (number_at other) (number_at (set numbers cell to)) (named_at (length numbers) relations n r named there) inside (unchanged (number_at other) cell) (changed_by_set numbers cell to by inside is));
}

-- ---- a sum over parts as far as a walk has come

pub sum_of_more : (f : ℕ → ℤ) (xs items : List ℕ) (k : ℕ) → items ≡ xs → k < length items → sum_of f (take (k + 1) xs) ≡ sum_of f (take k xs) +ℤ f (get_or items k 0)
sum_of_more f xs items k same inside = subst (λ (ys : List ℕ). sum_of f (take (k + 1) ys) ≡ sum_of f (take k ys) +ℤ f (get_or items k 0)) same (fold_more (λ sum x. sum +ℤ f x) (pos 0) items k 0 inside)

pub sum_of_all : (f : ℕ → ℤ) (xs items : List ℕ) (k : ℕ) → items ≡ xs → length items ≤ k → sum_of f (take k xs) ≡ sum_of f xs
sum_of_all f xs items k same past = ap (λ (ys : List ℕ). sum_of f ys) (take_all k xs (omega (arith, ap (λ (ys : List ℕ). length ys) same)))

-- ---- the extremes of the first relations

pub record AreFirstExtremes (one other : Numbers) (relations : List Relation) (sums : List ℤ) (passed : ℕ) : Type 0 where
  pub each : length sums ≡ passed
  pub extremes : (n : ℕ) (r : Relation) → n < passed → slice_get relations n ≡ Some r → number_at sums n ≡ extreme_of_form one other r

pub one_more_extreme : (one other : Numbers) (relations : List Relation) (sums : List ℤ) (k : ℕ) (item : Relation) (x : ℤ) → slice_get relations k ≡ Some item → x ≡ extreme_of_form one other item → AreFirstExtremes one other relations sums k → AreFirstExtremes one other relations (sums ++ x ∷ []) (k + 1)
one_more_extreme one other relations sums k item x found is are = record {
  each = length-append sums (x ∷ []) ∙ omega (arith, are.each);
  extremes = λ n r below there.
      elim (cases_lt n k) as (λ _. number_at (sums ++ x ∷ []) n ≡ extreme_of_form one other r) [
        | inl less ↦ get_or_append_left sums (x ∷ []) (pos 0) n (omega (arith, are.each)) ∙ are.extremes n r less there
        | inr not_less ↦
            let same : n ≡ k = omega arith in
            let place : n ≡ length sums = omega (arith, are.each) in
            let one_item : item ≡ r = same_Some item r (sym found ∙ ap (λ (j : ℕ). slice_get relations j) (sym same) ∙ there) in
            ap (λ (j : ℕ). number_at (sums ++ x ∷ []) j) place ∙ last_of sums x ∙ is ∙ ap (λ (q : Relation). extreme_of_form one other q) one_item
      ];
}
  where
    last_of : (xs : List ℤ) (x : ℤ) → get_or (xs ++ x ∷ []) (length xs) (pos 0) ≡ x
    last_of [] x = refl
    last_of (y ∷ xs) x = last_of xs x

pub all_extremes : (one other : List ℤ) (relations : List Relation) (sums : List ℤ) (k : ℕ) → length relations ≤ k → k ≤ length relations → AreFirstExtremes (number_at one) (number_at other) relations sums k → AreExtremes one other relations sums
all_extremes one other relations sums k past inside are = record { each = omega (arith, are.each); extremes = λ n r there. are.extremes n r (omega (arith, slice_get_within relations n r there)) there }

-- ---- reads

pub get_or_any : {X : Type 0} (xs : List X) (k : ℕ) (d e : X) → k < length xs → get_or xs k d ≡ get_or xs k e
get_or_any {X} [] k d e inside = absurd (omega arith)
get_or_any {X} (x ∷ xs) zero d e inside = refl
get_or_any {X} (x ∷ xs) (suc k) d e inside = get_or_any xs k d e (omega arith)

pub read_at : (xs : List ℤ) (k : ℕ) (x : ℤ) → k < length xs → x ≡ get_or xs k x → x ≡ number_at xs k
read_at xs k x inside is = is ∙ get_or_any xs k x (pos 0) inside
