-- Two lists, read place by place, up to where they differ.
use Rattle.std.proofs.Common.{◌≡◌, ℕ, zero, suc, ◌+◌, ◌==◌, ◌<◌, ◌≤◌, Bool, true, false, List, [], ◌∷◌, length, drop, get_or, slice_get, None, Some, arith, refl, ap, sym, ◌∙◌, add-one, if◌then◌else◌}
use Rattle.std.specs.Option.{option_map_or}
use Rattle.cert_check.specs.FirstDifference.{first_difference}
use Rattle.cert_check.specs.ReleaseLines.{differing_line, line_after}

-- no item
abbrev pub none_of : (A : Type 0) → List A
none_of A = []

pub drop_none : {A : Type 0} (i : ℕ) → drop i [] ≡ none_of A
drop_none zero = refl
drop_none (suc i) = refl

-- nothing is left behind the last item
pub past : {A : Type 0} (xs : List A) (i : ℕ) → length xs ≤ i → drop i xs ≡ none_of A
past [] i most = drop_none i
past (x ∷ xs) zero most = absurd (omega (arith, most))
past (x ∷ xs) (suc i) most = past xs i (omega (arith, most))

on_suc : {A B : Type 0} (same : A → B → Bool) (k : ℕ) (xs : List A) (ys : List B) (i : ℕ) (x : A) → i < length xs → x ≡ get_or xs i x → option_map_or (same x) (slice_get ys i) false ≡ true → first_difference same k (drop i xs) (drop i ys) ≡ first_difference same (k + 1) (drop (suc i) xs) (drop (suc i) ys)
on_suc same k [] ys i x within is there = absurd (omega (arith, within))
on_suc same k (z ∷ xs) [] i x within is there = absurd cc
on_suc same k (z ∷ xs) (y ∷ ys) zero x within is there = let own : same z y ≡ true = ap (λ a. same a y) (sym is) ∙ there in rw own refl
on_suc same k (z ∷ xs) (y ∷ ys) (suc i) x within is there = on_suc same k xs ys i x (omega (arith, within)) is there

-- where a place has the same, the first difference is behind it
pub apart_on : {A B : Type 0} (same : A → B → Bool) (k : ℕ) (xs : List A) (ys : List B) (i : ℕ) (x : A) → i < length xs → x ≡ get_or xs i x → option_map_or (same x) (slice_get ys i) false ≡ true → first_difference same k (drop i xs) (drop i ys) ≡ first_difference same (k + 1) (drop (i + 1) xs) (drop (i + 1) ys)
apart_on same k xs ys i x within is there = on_suc same k xs ys i x within is there ∙ ap (λ m. first_difference same (k + 1) (drop m xs) (drop m ys)) (sym (add-one i))

-- where it hasn't, the first difference is there
pub apart_here : {A B : Type 0} (same : A → B → Bool) (k : ℕ) (xs : List A) (ys : List B) (i : ℕ) (x : A) → i < length xs → x ≡ get_or xs i x → option_map_or (same x) (slice_get ys i) false ≡ false → first_difference same k (drop i xs) (drop i ys) ≡ Some k
apart_here same k [] ys i x within is there = absurd (omega (arith, within))
apart_here same k (z ∷ xs) [] zero x within is there = refl
apart_here same k (z ∷ xs) [] (suc i) x within is there = ap (λ l. first_difference same k (drop i xs) l) (sym (drop_none i)) ∙ apart_here same k xs [] i x (omega (arith, within)) is refl
apart_here same k (z ∷ xs) (y ∷ ys) zero x within is there = let own : same z y ≡ false = ap (λ a. same a y) (sym is) ∙ there in rw own refl
apart_here same k (z ∷ xs) (y ∷ ys) (suc i) x within is there = apart_here same k xs ys i x (omega (arith, within)) is there

-- behind the last place of the first list, the second goes on
pub apart_over : {A B : Type 0} (same : A → B → Bool) (k : ℕ) (xs : List A) (ys : List B) → length xs < length ys → first_difference same k (drop (length xs) xs) (drop (length xs) ys) ≡ Some k
apart_over same k [] [] more = absurd (omega (arith, more))
apart_over same k [] (y ∷ ys) more = refl
apart_over same k (x ∷ xs) [] more = absurd (omega (arith, more))
apart_over same k (x ∷ xs) (y ∷ ys) more = apart_over same k xs ys (omega (arith, more))

-- or ends too
pub apart_done : {A B : Type 0} (same : A → B → Bool) (k : ℕ) (xs : List A) (ys : List B) → length ys ≤ length xs → first_difference same k (drop (length xs) xs) (drop (length xs) ys) ≡ None
apart_done same k [] [] more = refl
apart_done same k [] (y ∷ ys) more = absurd (omega (arith, more))
apart_done same k (x ∷ xs) [] more = ap (λ l. first_difference same k (drop (length xs) xs) l) (sym (drop_none (length xs))) ∙ apart_done same k xs [] (omega arith)
apart_done same k (x ∷ xs) (y ∷ ys) more = apart_done same k xs ys (omega (arith, more))

-- ---- lines of texts

line_suc : (line : ℕ) (xs ys : List ℕ) (i x : ℕ) → i < length xs → x ≡ get_or xs i 0 → option_map_or (λ y. x == y) (slice_get ys i) false ≡ true → differing_line line (drop i xs) (drop i ys) ≡ differing_line (line_after x line) (drop (suc i) xs) (drop (suc i) ys)
line_suc line [] ys i x within is there = absurd (omega (arith, within))
line_suc line (z ∷ xs) [] i x within is there = absurd cc
line_suc line (z ∷ xs) (y ∷ ys) zero x within is there =
    let own : (z == y) ≡ true = ap (λ a. a == y) (sym is) ∙ there in
    let behind : line_after z line ≡ line_after x line = ap (λ a. line_after a line) (sym is) in
    ap (λ b. if b then differing_line (line_after z line) xs ys else Some line) own ∙ ap (λ l. differing_line l xs ys) behind
line_suc line (z ∷ xs) (y ∷ ys) (suc i) x within is there = line_suc line xs ys i x (omega (arith, within)) is there

pub line_on : (line : ℕ) (xs ys : List ℕ) (i x : ℕ) → i < length xs → x ≡ get_or xs i 0 → option_map_or (λ y. x == y) (slice_get ys i) false ≡ true → differing_line line (drop i xs) (drop i ys) ≡ differing_line (line_after x line) (drop (i + 1) xs) (drop (i + 1) ys)
line_on line xs ys i x within is there = line_suc line xs ys i x within is there ∙ ap (λ m. differing_line (line_after x line) (drop m xs) (drop m ys)) (sym (add-one i))

pub line_here : (line : ℕ) (xs ys : List ℕ) (i x : ℕ) → i < length xs → x ≡ get_or xs i 0 → option_map_or (λ y. x == y) (slice_get ys i) false ≡ false → differing_line line (drop i xs) (drop i ys) ≡ Some line
line_here line [] ys i x within is there = absurd (omega (arith, within))
line_here line (z ∷ xs) [] zero x within is there = refl
line_here line (z ∷ xs) [] (suc i) x within is there = ap (λ l. differing_line line (drop i xs) l) (sym (drop_none i)) ∙ line_here line xs [] i x (omega (arith, within)) is refl
line_here line (z ∷ xs) (y ∷ ys) zero x within is there = let own : (z == y) ≡ false = ap (λ a. a == y) (sym is) ∙ there in ap (λ b. if b then differing_line (line_after z line) xs ys else Some line) own
line_here line (z ∷ xs) (y ∷ ys) (suc i) x within is there = line_here line xs ys i x (omega (arith, within)) is there

pub line_over : (line : ℕ) (xs ys : List ℕ) → length xs < length ys → differing_line line (drop (length xs) xs) (drop (length xs) ys) ≡ Some line
line_over line [] [] more = absurd (omega (arith, more))
line_over line [] (y ∷ ys) more = refl
line_over line (x ∷ xs) [] more = absurd (omega (arith, more))
line_over line (x ∷ xs) (y ∷ ys) more = line_over line xs ys (omega (arith, more))

pub line_done : (line : ℕ) (xs ys : List ℕ) → length ys ≤ length xs → differing_line line (drop (length xs) xs) (drop (length xs) ys) ≡ None
line_done line [] [] more = refl
line_done line [] (y ∷ ys) more = absurd (omega (arith, more))
line_done line (x ∷ xs) [] more = ap (λ l. differing_line line (drop (length xs) xs) l) (sym (drop_none (length xs))) ∙ line_done line xs [] (omega arith)
line_done line (x ∷ xs) (y ∷ ys) more = line_done line xs ys (omega (arith, more))

pub behind_most : (b line : ℕ) → line_after b line ≤ line + 1
behind_most b line = elim (b == 10) as (λ t. (if t then line + 1 else line) ≤ line + 1) [
  | true ↦ omega arith
  | false ↦ omega arith
]
