-- Lists that grow one by one.
use Rattle.std.proofs.Common.{◌≡◌, ℕ, suc, ◌+◌, ◌-◌, ◌<◌, ◌≤◌, Bool, List, [], ◌∷◌, ◌++◌, ◌||◌, if◌then◌else◌, cond, true, filter, All, length, drop, slice_get, option_to_list, slice_index_or, false, Option, None, Some, arith, refl, ap, sym, ◌∙◌, append_assoc, length-append}
use Rattle.std.specs.List.{cons_option, list_any, range_with_len}
use Rattle.std.specs.Option.{option_map_or, unwrap_or}
use Rattle.std.proofs.lemmas.List.{append-nil, drop_more, get_or_default}
use Rattle.std.proofs.lemmas.Option.{slice_get_read, unwrap_or-slice_get}

-- the numbers from one on, one number on
pub range-next : (k n : ℕ) → k < n → range_with_len k (n - k) ≡ k ∷ range_with_len (k + 1) (n - (k + 1))
range-next k n h =
    let left : n - k ≡ suc (n - (k + 1)) = omega (arith, h) in
    ap (range_with_len k) left

pub range-end : (k n : ℕ) → n ≡ k → range_with_len k (n - k) ≡ []
range-end k n h =
    let none : n - k ≡ 0 = omega (arith, h) in
    ap (range_with_len k) none

-- one that may be there, and the rest
pub option-front : {X : Type 0} (done : List X) (here : Option X) (rest : List X) → (done ++ option_to_list here) ++ rest ≡ done ++ cons_option here rest
option-front done None rest = ap (λ xs. xs ++ rest) (append-nil done)
option-front done (Some x) rest = append_assoc done (x ∷ []) rest

-- nothing at a place
pub read-none : {X : Type 0} (xs : List X) (k : ℕ) (d : X) → None ≡ slice_get xs k → slice_index_or xs k d ≡ d
read-none xs k d h = sym (unwrap_or-slice_get xs k d) ∙ ap (λ found. unwrap_or found d) (sym h)

pub read-at : {X : Type 0} → (xs : List X) (k : ℕ) (d : X) → k < length xs → slice_get xs k ≡ Some (slice_index_or xs k d)
read-at xs k d h = slice_get_read xs (length xs) k (slice_index_or xs k d) refl h (get_or_default xs k d (slice_index_or xs k d) h)

-- whether any passes, one on
pub any-next : {X : Type 0} (test : X → Bool) (xs : List X) (k : ℕ) (d : X) → k < length xs → list_any test (drop k xs) ≡ (option_map_or test (slice_get xs k) false || list_any test (drop (k + 1) xs))
any-next test xs k d h =
    ap (list_any test) (drop_more xs k d h)
    ∙ ap (λ found. option_map_or test found false || list_any test (drop (k + 1) xs)) (sym (read-at xs k d h))

pub option-most : {X : Type 0} (done : List X) (here : Option X) → length (done ++ option_to_list here) ≤ length done + 1
option-most done None = omega (arith, length-append done [])
option-most done (Some x) = omega (arith, length-append done (x ∷ []))

pub all-nothing : {X : Type 0} (P : X → Type 0) → All P []
all-nothing P = λ k d h. absurd (omega (arith, h))

-- one that may pass, and those that do of the rest
pub filter-front : {X : Type 0} (test : X → Bool) (done : List X) (x : X) (xs : List X) → (if test x then done ++ x ∷ [] else done) ++ filter test xs ≡ done ++ filter test (x ∷ xs)
filter-front test done x xs =
    elim (test x) as (λ b. (if b then done ++ x ∷ [] else done) ++ filter test xs ≡ done ++ cond b (x ∷ filter test xs) (filter test xs)) [
      | true ↦ append_assoc done (x ∷ []) (filter test xs)
      | false ↦ refl
    ]

-- nothing is left
pub front-end : {X : Type 0} (done left all : List X) → left ≡ [] → done ++ left ≡ all → done ≡ all
front-end done left all none is = sym (append-nil done) ∙ ap (λ xs. done ++ xs) (sym none) ∙ is
