-- Open cells tried as shown, one after another.
use Rattle.std.proofs.Common.{◌≡◌, ◌≢◌, ℕ, zero, suc, ◌+◌, ◌<◌, ◌≤◌, ◌==◌, inl, inr, ◌&&◌, Bool, true, false, List, [], ◌∷◌, ◌++◌, length, take, drop, map, filter, slice_set, All, refl, ap, sym, ◌∙◌, subst, arith, add-one, if◌then◌else◌}
use Rattle.std.specs.List.{range_with_len}
use Rattle.std.proofs.lemmas.List.{get_or-set_same, get_or-set_other, map-append, append-nil}
use Rattle.std.proofs.lemmas.List.Elements.{All-nil, All-head, All-tail, All-cons, All-append, All-weaker, filter-append}
use Rattle.std.proofs.lemmas.List.Sums.{fold_push}
use Rattle.sdc_base.specs.HiddenSets.{is_hidden, show}
use Rattle.worlds.proofs.TrueTests.{and_true, both_true}
use Rattle.repair.specs.HidingOrder.{show_all}
use Rattle.repair.specs.Needs.{set_when_tried}
use Rattle.repair.specs.TriedCells.{Ascend, is_open, open_cells, StopsTrying, IsNeedBelow, AreTried}
use Rattle.repair.proofs.Flags.{IsWithin, clash, same_or_other}
use Rattle.repair.proofs.Repairing.{none_is_more, last_same}

-- ---- lists of flags, cut and changed at a place

drop_more_one : {X : Type 0} (n : ℕ) (xs : List X) → drop (suc n) xs ≡ drop 1 (drop n xs)
drop_more_one zero xs = refl
drop_more_one (suc n) [] = refl
drop_more_one (suc n) (x ∷ xs) = drop_more_one n xs

drop-set_before : (xs : List Bool) (n : ℕ) (v : Bool) → drop (suc n) (slice_set xs n v) ≡ drop (suc n) xs
drop-set_before [] n v = refl
drop-set_before (x ∷ xs) zero v = refl
drop-set_before (x ∷ xs) (suc n) v = drop-set_before xs n v

take-set_behind : (xs : List Bool) (s n : ℕ) (v : Bool) → s ≤ n → take s (slice_set xs n v) ≡ take s xs
take-set_behind xs zero n v below = refl
take-set_behind [] (suc s) n v below = refl
take-set_behind (x ∷ xs) (suc s) zero v below = absurd (omega (arith, below))
take-set_behind (x ∷ xs) (suc s) (suc n) v below = ap (λ (l : List Bool). x ∷ l) (take-set_behind xs s n v (omega (arith, below)))

set_cut : (xs : List Bool) (s : ℕ) (v : Bool) → s < length xs → slice_set xs s v ≡ take s xs ++ v ∷ drop (suc s) xs
set_cut [] s v within = absurd (omega (arith, within))
set_cut (x ∷ xs) zero v within = refl
set_cut (x ∷ xs) (suc s) v within = ap (λ (l : List Bool). x ∷ l) (set_cut xs s v (omega (arith, within)))

tried_suc : (flags larger : List Bool) (s : ℕ) → set_when_tried flags larger s ≡ take s flags ++ false ∷ drop (suc s) larger
tried_suc flags larger s = ap (λ n. take s flags ++ false ∷ drop n larger) (add-one s)

-- what is hidden without the cell is hidden in the larger set without it
within_cut : (flags larger : List Bool) (s k : ℕ) → ((c : ℕ) → is_hidden flags c ≡ true → is_hidden larger c ≡ true) → is_hidden (slice_set flags s false) k ≡ true → is_hidden (take s flags ++ false ∷ drop (suc s) larger) k ≡ true
within_cut [] larger s k h is = absurd cc
within_cut (f ∷ flags) larger zero zero h is = absurd cc
within_cut (f ∷ flags) [] zero (suc k) h is = absurd (let bad : is_hidden [] (suc k) ≡ true = h (suc k) is in cc)
within_cut (f ∷ flags) (l ∷ larger) zero (suc k) h is = h (suc k) is
within_cut (f ∷ flags) larger (suc s) zero h is = is
within_cut (f ∷ flags) [] (suc s) (suc k) h is = within_cut flags [] s k (λ c own. h (suc c) own) is
within_cut (f ∷ flags) (l ∷ larger) (suc s) (suc k) h is = within_cut flags larger s k (λ c own. h (suc c) own) is

pub show_within : (flags larger : List Bool) (s : ℕ) → ((c : ℕ) → is_hidden flags c ≡ true → is_hidden larger c ≡ true) → IsWithin (show flags s) (set_when_tried flags larger s)
show_within flags larger s within = record {
  hides = λ k is. subst (λ (l : List Bool). is_hidden l k ≡ true) (sym (tried_suc flags larger s)) (within_cut flags larger s k within is);
}

-- while no higher cell has been tried, what is tried is the hidden set without the cell
pub tried_now : (flags larger : List Bool) (s : ℕ) → s < length flags → drop s flags ≡ drop s larger → set_when_tried flags larger s ≡ show flags s
tried_now flags larger s within rest =
    tried_suc flags larger s
    ∙ ap (λ (l : List Bool). take s flags ++ false ∷ l) (drop_more_one s larger ∙ ap (λ (l : List Bool). drop 1 l) (sym rest) ∙ sym (drop_more_one s flags))
    ∙ sym (set_cut flags s false within)

-- what was tried stays the same while higher cells change
pub tried_same : (flags larger : List Bool) (s n : ℕ) (v : Bool) → s ≤ n → set_when_tried (slice_set flags n v) larger s ≡ set_when_tried flags larger s
tried_same flags larger s n v below = ap (λ (l : List Bool). l ++ false ∷ drop (s + 1) larger) (take-set_behind flags s n v below)

pub rest_next : (n : ℕ) (flags larger : List Bool) → drop n flags ≡ drop n larger → drop (n + 1) flags ≡ drop (n + 1) larger
rest_next n flags larger same =
    ap (λ m. drop m flags) (add-one n) ∙ drop_more_one n flags ∙ ap (λ (l : List Bool). drop 1 l) same ∙ sym (drop_more_one n larger) ∙ ap (λ m. drop m larger) (sym (add-one n))

pub rest_set : (n : ℕ) (flags larger : List Bool) (v : Bool) → drop n flags ≡ drop n larger → drop (n + 1) (slice_set flags n v) ≡ drop (n + 1) larger
rest_set n flags larger v same =
    ap (λ m. drop m (slice_set flags n v)) (add-one n) ∙ drop-set_before flags n v ∙ ap (λ m. drop m flags) (sym (add-one n)) ∙ rest_next n flags larger same

pub without_more : (larger : List Bool) (shown : List ℕ) (n : ℕ) → show_all larger (shown ++ n ∷ []) ≡ show (show_all larger shown) n
without_more larger shown n = fold_push show larger shown n

-- ---- lists of numbers

pub ascend_more : (shown : List ℕ) (n : ℕ) → All (λ k. k < n) shown → Ascend shown → Ascend (shown ++ n ∷ [])
ascend_more [] n below is = (All-nil (λ k. n < k), tt)
ascend_more (one ∷ shown) n below is =
    (All-append (λ k. one < k) shown (n ∷ []) is.0 (All-cons (λ k. one < k) n [] (All-head (λ k. k < n) one shown below) (All-nil (λ k. one < k))), ascend_more shown n (All-tail (λ k. k < n) one shown below) is.1)

pub all_more : (P : ℕ → Type 0) (shown : List ℕ) (n : ℕ) → All P shown → P n → All P (shown ++ n ∷ [])
all_more P shown n all own = All-append P shown (n ∷ []) all (All-cons P n [] own (All-nil P))

pub front_same : (xs ys : List ℕ) (x y : ℕ) → xs ++ x ∷ [] ≡ ys ++ y ∷ [] → xs ≡ ys
front_same [] [] x y is = refl
front_same [] (b ∷ ys) x y is = absurd (none_is_more ys y (let own : [] ≡ ys ++ y ∷ [] = cc in own))
front_same (a ∷ xs) [] x y is = absurd (none_is_more xs x (let own : [] ≡ xs ++ x ∷ [] = cc in own))
front_same (a ∷ xs) (b ∷ ys) x y is =
    let first : a ≡ b = cc in
    let rest : xs ++ x ∷ [] ≡ ys ++ y ∷ [] = cc in
    ap (λ k. k ∷ xs) first ∙ ap (λ (l : List ℕ). b ∷ l) (front_same xs ys x y rest)

pub below_on : (n : ℕ) (shown : List ℕ) → All (λ k. k < n) shown → All (λ k. k < n + 1) shown
below_on n shown all = All-weaker (λ k. k < n) (λ k. k < n + 1) (λ k is. omega (arith, is)) shown all

pub shown_here : (flags : List Bool) (n : ℕ) → n < length flags → is_hidden (show flags n) n ≡ false
shown_here flags n inside = get_or-set_same flags n false false inside

-- ---- parts of lists

All-left : {X : Type 0} (P : X → Type 0) (xs ys : List X) → All P (xs ++ ys) → All P xs
All-left P [] ys all = All-nil P
All-left P (x ∷ xs) ys all = All-cons P x xs (All-head P x (xs ++ ys) all) (All-left P xs ys (All-tail P x (xs ++ ys) all))

All-right : {X : Type 0} (P : X → Type 0) (xs ys : List X) → All P (xs ++ ys) → All P ys
All-right P [] ys all = all
All-right P (x ∷ xs) ys all = All-right P xs ys (All-tail P x (xs ++ ys) all)

All-mapped : {X : Type 0} (Q : ℕ → Type 0) (f : X → ℕ) (xs : List X) → All (λ (x : X). Q (f x)) xs → All Q (map f xs)
All-mapped Q f [] all = All-nil Q
All-mapped {X = X} Q f (x ∷ xs) all = All-cons Q (f x) (map f xs) (All-head (λ (y : X). Q (f y)) x xs all) (All-mapped Q f xs (All-tail (λ (y : X). Q (f y)) x xs all))

range_more : (a n : ℕ) → range_with_len a (suc n) ≡ range_with_len a n ++ (a + n) ∷ []
range_more a zero = let same : a ≡ a + 0 = omega arith in ap (λ k. k ∷ []) same
range_more a (suc n) =
    let same : a + 1 + n ≡ a + suc n = omega arith in
    ap (λ (l : List ℕ). a ∷ l) (range_more (a + 1) n ∙ ap (λ k. range_with_len (a + 1) n ++ k ∷ []) same)

-- those below one number more that pass a test
pub members-more : (test : ℕ → Bool) (n : ℕ) → filter test (range_with_len 0 (suc n)) ≡ filter test (range_with_len 0 n) ++ (if test n then n ∷ [] else [])
members-more test n =
    let same : 0 + n ≡ n = omega arith in
    ap (filter test) (range_more 0 n ∙ ap (λ k. range_with_len 0 n ++ k ∷ []) same) ∙ filter-append test (range_with_len 0 n) (n ∷ [])

-- ---- open cells

open_more : (may : ℕ → Bool) (flags : List Bool) (n : ℕ) → open_cells may flags (n + 1) ≡ open_cells may flags n ++ (if is_open may flags n then n ∷ [] else [])
open_more may flags n = ap (λ m. open_cells may flags m) (add-one n) ∙ members-more (is_open may flags) n

open_same : (may : ℕ → Bool) (flags more : List Bool) (n : ℕ) → ((k : ℕ) → k < n → is_hidden flags k ≡ is_hidden more k) → open_cells may flags n ≡ open_cells may more n
open_same may flags more zero h = refl
open_same may flags more (suc n) h =
    members-more (is_open may flags) n
    ∙ ap (λ (l : List ℕ). l ++ (if is_open may flags n then n ∷ [] else [])) (open_same may flags more n (λ k below. h k (omega (arith, below))))
    ∙ ap (λ b. open_cells may more n ++ (if b && may n then n ∷ [] else [])) (h n (omega arith))
    ∙ sym (members-more (is_open may more) n)

-- those below a number stay the same while a higher flag changes
open_kept : (may : ℕ → Bool) (flags : List Bool) (n : ℕ) (v : Bool) → open_cells may (slice_set flags n v) n ≡ open_cells may flags n
open_kept may flags n v =
    open_same may (slice_set flags n v) flags n (λ k below. get_or-set_other flags n k v false (omega (arith, below)))

-- what holds of all of them holds of each
each_open : (Q : ℕ → Type 0) (may : ℕ → Bool) (flags : List Bool) (n k : ℕ) → k < n → is_open may flags k ≡ true → All Q (open_cells may flags n) → Q k
each_open Q may flags zero k below is all = absurd (omega (arith, below))
each_open Q may flags (suc n) k below is all =
    let split : All Q (open_cells may flags n ++ (if is_open may flags n then n ∷ [] else [])) = subst (All Q) (members-more (is_open may flags) n) all in
    elim (same_or_other k n) [
      | inl same ↦
          let own : is_open may flags n ≡ true = ap (is_open may flags) (sym same) ∙ is in
          let last : All Q (if is_open may flags n then n ∷ [] else []) = All-right Q (open_cells may flags n) (if is_open may flags n then n ∷ [] else []) split in
          let one : All Q (n ∷ []) = subst (λ b. All Q (if b then n ∷ [] else [])) own last in
          subst Q (sym same) (All-head Q n [] one)
      | inr other ↦ each_open Q may flags n k (omega (arith, below, other)) is (All-left Q (open_cells may flags n) (if is_open may flags n then n ∷ [] else []) split)
    ]

-- ---- one cell after another

-- before any cell is tried
pub none_tried : {N : Type 0} (subject : N → ℕ) (Refutes : List Bool → N → Type 0) (Holds : List Bool → Type 0) (may : ℕ → Bool) (flags : List Bool) → Holds flags → AreTried subject Refutes Holds may flags 0 flags [] []
none_tried subject Refutes Holds may flags holding = record {
  hidden_is = refl;
  within = λ cell is. is;
  rest = refl;
  holding = holding;
  each_needed = refl;
  are_needs = All-nil (IsNeedBelow subject Refutes flags flags 0);
  ascending = tt;
  below = All-nil (λ cell. cell < 0);
  are_open = All-nil (λ cell. is_open may flags cell ≡ true);
}

needs_on : {N : Type 0} (subject : N → ℕ) (Refutes : List Bool → N → Type 0) (flags larger : List Bool) (n : ℕ) (v : Bool) (needs : List N) → All (IsNeedBelow subject Refutes flags larger n) needs → All (IsNeedBelow subject Refutes (slice_set flags n v) larger (n + 1)) needs
needs_on subject Refutes flags larger n v needs all =
    All-weaker (IsNeedBelow subject Refutes flags larger n) (IsNeedBelow subject Refutes (slice_set flags n v) larger (n + 1)) (λ need is. record {
      below = omega (arith, is.below);
      refuted = subst (λ (f : List Bool). Refutes f need) (sym (tried_same flags larger (subject need) n v (omega (arith, is.below)))) is.refuted;
    }) needs all

needs_stay : {N : Type 0} (subject : N → ℕ) (Refutes : List Bool → N → Type 0) (flags larger : List Bool) (n : ℕ) (needs : List N) → All (IsNeedBelow subject Refutes flags larger n) needs → All (IsNeedBelow subject Refutes flags larger (n + 1)) needs
needs_stay subject Refutes flags larger n needs all =
    All-weaker (IsNeedBelow subject Refutes flags larger n) (IsNeedBelow subject Refutes flags larger (n + 1)) (λ need is. record { below = omega (arith, is.below); refuted = is.refuted }) needs all

-- a cell that isn't tried
pub one_passed : {N : Type 0} (subject : N → ℕ) (Refutes : List Bool → N → Type 0) (Holds : List Bool → Type 0) (may : ℕ → Bool) (larger : List Bool) (n : ℕ) (flags : List Bool) (needs : List N) (shown : List ℕ) → is_open may flags n ≡ false → AreTried subject Refutes Holds may larger n flags needs shown → AreTried subject Refutes Holds may larger (n + 1) flags needs shown
one_passed subject Refutes Holds may larger n flags needs shown other is = record {
  hidden_is = is.hidden_is;
  within = is.within;
  rest = rest_next n flags larger is.rest;
  holding = is.holding;
  each_needed =
      is.each_needed ∙ sym (append-nil (open_cells may flags n))
      ∙ ap (λ b. open_cells may flags n ++ (if b then n ∷ [] else [])) (sym other) ∙ sym (open_more may flags n);
  are_needs = needs_stay subject Refutes flags larger n needs is.are_needs;
  ascending = is.ascending;
  below = below_on n shown is.below;
  are_open = is.are_open;
}

-- an open cell is open in the larger set
open_larger : (may : ℕ → Bool) (flags larger : List Bool) (n : ℕ) → ((cell : ℕ) → is_hidden flags cell ≡ true → is_hidden larger cell ≡ true) → is_open may flags n ≡ true → is_open may larger n ≡ true
open_larger may flags larger n within is =
    let both = and_true (is_hidden flags n) (may n) is in
    both_true (is_hidden larger n) (may n) (within n both.0) both.1

-- a cell that is shown
pub one_shown : {N : Type 0} (subject : N → ℕ) (Refutes : List Bool → N → Type 0) (Holds : List Bool → Type 0) (may : ℕ → Bool) (larger : List Bool) (n : ℕ) (flags : List Bool) (needs : List N) (shown : List ℕ) → n < length flags → is_open may flags n ≡ true → Holds (show flags n) → AreTried subject Refutes Holds may larger n flags needs shown → AreTried subject Refutes Holds may larger (n + 1) (show flags n) needs (shown ++ n ∷ [])
one_shown subject Refutes Holds may larger n flags needs shown inside open_cell holding is = record {
  hidden_is = ap (λ (f : List Bool). show f n) is.hidden_is ∙ sym (without_more larger shown n);
  within = λ k own. elim (same_or_other k n) [
    | inl same ↦ clash (is_hidden (show flags n) n) (subst (λ m. is_hidden (show flags n) m ≡ true) same own) (shown_here flags n inside)
    | inr other ↦ is.within k (sym (get_or-set_other flags n k false false other) ∙ own)
  ];
  rest = rest_set n flags larger false is.rest;
  holding = holding;
  each_needed =
      let none : is_open may (show flags n) n ≡ false = ap (λ b. b && may n) (shown_here flags n inside) in
      is.each_needed ∙ sym (open_kept may flags n false) ∙ sym (append-nil (open_cells may (show flags n) n))
      ∙ ap (λ b. open_cells may (show flags n) n ++ (if b then n ∷ [] else [])) (sym none) ∙ sym (open_more may (show flags n) n);
  are_needs = needs_on subject Refutes flags larger n false needs is.are_needs;
  ascending = ascend_more shown n is.below is.ascending;
  below = all_more (λ k. k < n + 1) shown n (below_on n shown is.below) (omega arith);
  are_open = all_more (λ k. is_open may larger k ≡ true) shown n is.are_open (open_larger may flags larger n is.within open_cell);
}

-- a cell that is needed
pub one_needed : {N : Type 0} (subject : N → ℕ) (Refutes : List Bool → N → Type 0) (Holds : List Bool → Type 0) (may : ℕ → Bool) (larger : List Bool) (n : ℕ) (flags : List Bool) (needs : List N) (shown : List ℕ) (need : N) → n < length flags → is_open may flags n ≡ true → subject need ≡ n → Refutes (show flags n) need → AreTried subject Refutes Holds may larger n flags needs shown → AreTried subject Refutes Holds may larger (n + 1) flags (needs ++ need ∷ []) shown
one_needed subject Refutes Holds may larger n flags needs shown need inside open_cell same refuted is = record {
  hidden_is = is.hidden_is;
  within = is.within;
  rest = rest_next n flags larger is.rest;
  holding = is.holding;
  each_needed =
      map-append subject needs (need ∷ []) ∙ ap (λ (l : List ℕ). l ++ subject need ∷ []) is.each_needed
      ∙ ap (λ m. open_cells may flags n ++ m ∷ []) same
      ∙ ap (λ b. open_cells may flags n ++ (if b then n ∷ [] else [])) (sym open_cell) ∙ sym (open_more may flags n);
  are_needs =
      let now : Refutes (set_when_tried flags larger n) need = subst (λ (f : List Bool). Refutes f need) (sym (tried_now flags larger n inside is.rest)) refuted in
      All-append (IsNeedBelow subject Refutes flags larger (n + 1)) needs (need ∷ []) (needs_stay subject Refutes flags larger n needs is.are_needs)
      (All-cons (IsNeedBelow subject Refutes flags larger (n + 1)) need [] (record { below = omega (arith, same); refuted = subst (λ m. Refutes (set_when_tried flags larger m) need) (sym same) now }) (All-nil (IsNeedBelow subject Refutes flags larger (n + 1))));
  ascending = is.ascending;
  below = below_on n shown is.below;
  are_open = is.are_open;
}

-- ---- a stop while a cell is tried

-- each open cell below a number was needed when it was tried, for any set that is the same below the number
needed_below : {N : Type 0} (subject : N → ℕ) (Refutes : List Bool → N → Type 0) (Holds : List Bool → Type 0) (may : ℕ → Bool) (larger : List Bool) (n : ℕ) (flags set : List Bool) (needs : List N) (shown : List ℕ) → ((f : List Bool) (need : N) → Refutes f need → ¬ Holds f) → ((s : ℕ) → s < n → set_when_tried set larger s ≡ set_when_tried flags larger s) → AreTried subject Refutes Holds may larger n flags needs shown → All (λ s. ¬ Holds (set_when_tried set larger s)) (open_cells may flags n)
needed_below {N = N} subject Refutes Holds may larger n flags set needs shown refuting alike is =
    let Needed : ℕ → Type 0 = λ s. ¬ Holds (set_when_tried set larger s) in
    let each : All (λ (need : N). Needed (subject need)) needs =
    All-weaker (IsNeedBelow subject Refutes flags larger n) (λ (need : N). Needed (subject need)) (λ need own.
    refuting (set_when_tried set larger (subject need)) need (subst (λ (f : List Bool). Refutes f need) (sym (alike (subject need) own.below)) own.refuted)) needs is.are_needs in
    subst (All Needed) is.each_needed (All-mapped Needed subject needs each)

pub try_stop : {N : Type 0} (subject : N → ℕ) (Refutes : List Bool → N → Type 0) (Holds : List Bool → Type 0) (may : ℕ → Bool) (Stops : List Bool → Type 0) (larger : List Bool) (n : ℕ) (flags : List Bool) (needs : List N) (shown : List ℕ) → ((f : List Bool) (need : N) → Refutes f need → ¬ Holds f) → n < length flags → is_open may flags n ≡ true → Stops (show flags n) → AreTried subject Refutes Holds may larger n flags needs shown → StopsTrying Holds may Stops larger (shown ++ n ∷ [])
try_stop subject Refutes Holds may Stops larger n flags needs shown refuting inside open_cell stops is =
    let set : List Bool = show_all larger (shown ++ n ∷ []) in
    let set_is : set ≡ show flags n = without_more larger shown n ∙ ap (λ (f : List Bool). show f n) (sym is.hidden_is) in
    let others : All (λ s. ¬ Holds (set_when_tried set larger s)) (open_cells may flags n) =
    needed_below subject Refutes Holds may larger n flags set needs shown refuting
    (λ s below. ap (λ (f : List Bool). set_when_tried f larger s) set_is ∙ tried_same flags larger s n false (omega (arith, below))) is in
    record {
      are_shown = record {
        ascending = ascend_more shown n is.below is.ascending;
        are_open = all_more (λ k. is_open may larger k ≡ true) shown n is.are_open (open_larger may flags larger n is.within open_cell);
        held_before = λ earlier last same.
            let front : shown ≡ earlier = front_same shown earlier n last same in
            subst (λ (l : List ℕ). Holds (show_all larger l)) front (subst Holds is.hidden_is is.holding);
        others_needed = λ earlier last cell same below still.
            let own : n ≡ last = last_same shown earlier n last same in
            let less : cell < n = omega (arith, below, own) in
            let other : cell ≢ n = omega (arith, less) in
            let flag : is_hidden set cell ≡ is_hidden flags cell = ap (λ (f : List Bool). is_hidden f cell) set_is ∙ get_or-set_other flags n cell false false other in
            each_open (λ s. ¬ Holds (set_when_tried set larger s)) may flags n cell less (ap (λ b. b && may cell) (sym flag) ∙ still) others;
      };
      shows_a_cell = λ none. none_is_more shown n (sym none);
      stops = subst Stops (sym set_is) stops;
    }

-- what is hidden with a cell shown is hidden
within_shown : (xs : List Bool) (s k : ℕ) → is_hidden (show xs s) k ≡ true → is_hidden xs k ≡ true
within_shown [] s k is = is
within_shown (x ∷ xs) zero zero is = absurd cc
within_shown (x ∷ xs) zero (suc k) is = is
within_shown (x ∷ xs) (suc s) zero is = is
within_shown (x ∷ xs) (suc s) (suc k) is = within_shown xs s k is

-- ---- a stop once all cells have been tried

pub some_shown : (shown : List ℕ) → (length shown == 0) ≡ false → shown ≢ []
some_shown [] some none = cc
some_shown (one ∷ shown) some none = cc

pub end_stop : {N : Type 0} (subject : N → ℕ) (Refutes : List Bool → N → Type 0) (Holds : List Bool → Type 0) (may : ℕ → Bool) (Stops : List Bool → Type 0) (larger flags : List Bool) (needs : List N) (shown : List ℕ) → ((f : List Bool) (need : N) → Refutes f need → ¬ Holds f) → ((fewer more : List Bool) → IsWithin fewer more → Holds fewer → Holds more) → shown ≢ [] → Stops flags → (n : ℕ) → ((cell : ℕ) → is_open may flags cell ≡ true → cell < n) → AreTried subject Refutes Holds may larger n flags needs shown → StopsTrying Holds may Stops larger shown
end_stop subject Refutes Holds may Stops larger flags needs shown refuting more some stops n all_below is =
    let others : All (λ s. ¬ Holds (set_when_tried flags larger s)) (open_cells may flags n) =
    needed_below subject Refutes Holds may larger n flags flags needs shown refuting (λ s below. refl) is in
    record {
      are_shown = record {
        ascending = is.ascending;
        are_open = is.are_open;
        held_before = λ earlier last same.
            let before : List Bool = show_all larger earlier in
            let set_is : flags ≡ show before last = is.hidden_is ∙ ap (λ (l : List ℕ). show_all larger l) same ∙ without_more larger earlier last in
            more flags before (record { hides = λ k hidden. within_shown before last k (sym (ap (λ (f : List Bool). is_hidden f k) set_is) ∙ hidden) }) is.holding;
        others_needed = λ earlier last cell same below still.
            let here : is_open may flags cell ≡ true = ap (λ (f : List Bool). is_open may f cell) is.hidden_is ∙ still in
            subst (λ (f : List Bool). ¬ Holds (set_when_tried f larger cell)) is.hidden_is
            (each_open (λ s. ¬ Holds (set_when_tried flags larger s)) may flags n cell (all_below cell here) here others);
      };
      shows_a_cell = some;
      stops = subst Stops is.hidden_is stops;
    }
