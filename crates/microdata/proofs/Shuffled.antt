-- Lists with the same elements: so are those of their elements that pass a test.
use Rattle.std.proofs.Common.{◌≡◌, ℕ, ◌+◌, ◌≤◌, Bool, true, false, cond, List, [], ◌∷◌, ◌++◌, filter, refl, ap, sym, ◌∙◌, subst, arith, IsPermutation, sum_by}
use Rattle.std.specs.List.{list_any}
use Rattle.std.specs.Str.{bytes_eq}
use Rattle.std.proofs.lemmas.List.Sorted.{IsPermutation-refl, IsPermutation-trans, IsPermutation-cons, IsPermutation-middle, sum_by-IsPermutation, list_any-IsPermutation}
use Rattle.std.proofs.lemmas.List.Sums.{sum_by-cons}
use Rattle.std.proofs.lemmas.Slice.Eq.{bytes_eq-Decides}
use Rattle.code_trees.specs.Among.{IsIn}
use Rattle.code_trees.proofs.Gathered.{in-any, any-in}

abbrev one_where : (List ℕ → Bool) → List ℕ → ℕ
one_where test line = cond (test line) 1 0

abbrev counted : (List ℕ → Bool) → List (List ℕ) → ℕ
counted test lines = sum_by (one_where test) lines

abbrev HaveSameCounts : List (List ℕ) → List (List ℕ) → Type 0
HaveSameCounts lines others = (test : List ℕ → Bool) → counted test lines ≡ counted test others

found-in : (line : List ℕ) (lines : List (List ℕ)) → 1 ≤ counted (bytes_eq line) lines → (before : List (List ℕ)) × (behind : List (List ℕ)) × (lines ≡ before ++ line ∷ behind)
found-in line [] h = absurd (omega (arith, h))
found-in line (first ∷ lines) h =
    let rest = found-in line lines in
    let count : counted (bytes_eq line) (first ∷ lines) ≡ one_where (bytes_eq line) first + counted (bytes_eq line) lines = sum_by-cons (one_where (bytes_eq line)) first lines in
    elim (bytes_eq line first) as (λ b. bytes_eq line first ≡ b → 1 ≤ cond b 1 0 + counted (bytes_eq line) lines → (before : List (List ℕ)) × (behind : List (List ℕ)) × (first ∷ lines ≡ before ++ line ∷ behind)) [
      | true ↦ λ is few. ([], lines, ap (λ (x : List ℕ). x ∷ lines) (sym ((bytes_eq-Decides line first).0 is)))
      | false ↦ λ is few. (let later = rest (omega (arith, few)) in (first ∷ later.0, later.1, ap (λ (all : List (List ℕ)). first ∷ all) later.2))
    ] refl (omega (arith, h, count))

count-moved : (test : List ℕ → Bool) (line : List ℕ) (before behind : List (List ℕ)) → counted test (before ++ line ∷ behind) ≡ one_where test line + counted test (before ++ behind)
count-moved test line [] behind = sum_by-cons (one_where test) line behind
count-moved test line (first ∷ before) behind =
    let rest = count-moved test line before behind in
    let whole = sum_by-cons (one_where test) first (before ++ line ∷ behind) in
    let less = sum_by-cons (one_where test) first (before ++ behind) in
    omega (arith, rest, whole, less)

counts-left : (line : List ℕ) (lines before behind : List (List ℕ)) → HaveSameCounts (line ∷ lines) (before ++ line ∷ behind) → HaveSameCounts lines (before ++ behind)
counts-left line lines before behind same test =
    let all = same test in
    let one = sum_by-cons (one_where test) line lines in
    let moved = count-moved test line before behind in
    omega (arith, all, one, moved)

kept-once : (test : List ℕ → Bool) (line : List ℕ) (lines others : List (List ℕ)) → IsPermutation (filter test lines) (filter test others) → IsPermutation (filter test (line ∷ lines)) (filter test (line ∷ others))
kept-once test line lines others h =
    elim (test line) as (λ b. IsPermutation (cond b (line ∷ filter test lines) (filter test lines)) (cond b (line ∷ filter test others) (filter test others))) [ true ↦ IsPermutation-cons line _ _ h | false ↦ h ]

two-turned : (test : List ℕ → Bool) (one other : List ℕ) (lines : List (List ℕ)) → IsPermutation (filter test (one ∷ other ∷ lines)) (filter test (other ∷ one ∷ lines))
two-turned test one other lines =
    elim (test one) as (λ b. IsPermutation (cond b (one ∷ cond (test other) (other ∷ filter test lines) (filter test lines)) (cond (test other) (other ∷ filter test lines) (filter test lines))) (cond (test other) (other ∷ cond b (one ∷ filter test lines) (filter test lines)) (cond b (one ∷ filter test lines) (filter test lines)))) [
      | true ↦ elim (test other) as (λ c. IsPermutation (one ∷ cond c (other ∷ filter test lines) (filter test lines)) (cond c (other ∷ one ∷ filter test lines) (one ∷ filter test lines))) [ true ↦ IsPermutation-middle (one ∷ []) other (filter test lines) | false ↦ IsPermutation-refl (one ∷ filter test lines) ]
      | false ↦ IsPermutation-refl (cond (test other) (other ∷ filter test lines) (filter test lines))
    ]

filter-moved : (test : List ℕ → Bool) (line : List ℕ) (before behind : List (List ℕ)) → IsPermutation (filter test (line ∷ (before ++ behind))) (filter test (before ++ line ∷ behind))
filter-moved test line [] behind = IsPermutation-refl (filter test (line ∷ behind))
filter-moved test line (first ∷ before) behind =
    IsPermutation-trans _ _ _ (two-turned test line first (before ++ behind)) (kept-once test first (line ∷ (before ++ behind)) (before ++ line ∷ behind) (filter-moved test line before behind))

filter-counts : (test : List ℕ → Bool) (lines others : List (List ℕ)) → HaveSameCounts lines others → IsPermutation (filter test lines) (filter test others)
filter-counts test [] [] same = IsPermutation-refl []
filter-counts test [] (other ∷ others) same =
    let none = same (λ line. true) in
    let some = sum_by-cons (one_where (λ line. true)) other others in
    absurd (omega (arith, none, some))
filter-counts test (line ∷ lines) others same =
    let one = sum_by-cons (one_where (bytes_eq line)) line lines in
    let itself : bytes_eq line line ≡ true = (bytes_eq-Decides line line).1 refl in
    let once : one_where (bytes_eq line) line ≡ 1 = ap (λ b. cond b 1 0) itself in
    let there = same (bytes_eq line) in
    let found = found-in line others (omega (arith, one, once, there)) in
    let left = counts-left line lines found.0 found.1 (subst (HaveSameCounts (line ∷ lines)) found.2 same) in
    subst (λ (all : List (List ℕ)). IsPermutation (filter test (line ∷ lines)) (filter test all)) (sym found.2)
    (IsPermutation-trans _ _ _ (kept-once test line lines (found.0 ++ found.1) (filter-counts test lines (found.0 ++ found.1) left)) (filter-moved test line found.0 found.1))

pub filter-shuffled : (test : List ℕ → Bool) (lines others : List (List ℕ)) → IsPermutation lines others → IsPermutation (filter test lines) (filter test others)
filter-shuffled test lines others h = filter-counts test lines others (λ test. sym (sum_by-IsPermutation (one_where test) lines others h))

pub in-shuffled : (lines others : List (List ℕ)) (line : List ℕ) → IsPermutation lines others → IsIn line lines → IsIn line others
in-shuffled lines others line h inside =
    let here : list_any (bytes_eq line) lines ≡ true = in-any (bytes_eq line) lines line inside ((bytes_eq-Decides line line).1 refl) in
    let found = any-in (bytes_eq line) others (sym (list_any-IsPermutation (bytes_eq line) lines others h) ∙ here) in
    subst (λ (x : List ℕ). IsIn x others) (sym ((bytes_eq-Decides line found.0).0 found.2)) found.1
