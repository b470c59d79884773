-- How often a relation's form counts a cell.
use Rattle.std.proofs.Common.{◌≡◌, ℕ, zero, suc, ◌+◌, ◌≤◌, ◌==◌, Bool, true, false, List, [], ◌∷◌, map, take, ℤ, pos, negsuc, neg_ℤ, ◌+ℤ◌, arith, refl, ap, sym, ◌∙◌, if◌then◌else◌}
use Rattle.std.specs.List.{count_by}
use Rattle.std.proofs.lemmas.Int.{ints}
use Rattle.std.proofs.lemmas.List.Sums.{sum_by-cons}
use Rattle.sdc_base.specs.declared.relation.Relation.{Relation}
use Rattle.sdc_base.specs.Totals.{sum_of}
use Rattle.sdc_base.specs.Forms.{Term, count_of}
use Rattle.sdc_base.proofs.TotalLemmas.{sum_of-cons}

abbrev taken : ℕ → Term → ℤ
taken cell term = if term.0 == cell then term.1 else pos 0

abbrev parts_of : List ℕ → List Term
parts_of parts = map (λ part. (part, neg_ℤ (pos 1))) parts

one_part : (b : Bool) (rest : ℕ) → (if b then negsuc 0 else pos 0) +ℤ neg_ℤ (pos rest) ≡ neg_ℤ (pos ((if b then 1 else 0) + rest))
one_part true rest = omega (arith, ints)
one_part false rest = omega (arith, ints)

parts_counted : (cell : ℕ) (parts : List ℕ) → sum_of (taken cell) (parts_of parts) ≡ neg_ℤ (pos (count_by (λ part. part == cell) parts))
parts_counted cell [] = refl
parts_counted cell (part ∷ parts) =
    sum_of-cons (taken cell) (part, neg_ℤ (pos 1)) (parts_of parts)
    ∙ ap (λ z. taken cell (part, neg_ℤ (pos 1)) +ℤ z) (parts_counted cell parts)
    ∙ one_part (part == cell) (count_by (λ part. part == cell) parts)
    ∙ ap (λ n. neg_ℤ (pos n)) (sym (sum_by-cons (λ one. if one == cell then 1 else 0) part parts))

-- once for the total, less once for each part
pub counted_is : (r : Relation) (cell : ℕ) → count_of r cell ≡ (if r.total == cell then pos 1 else pos 0) +ℤ neg_ℤ (pos (count_by (λ part. part == cell) r.parts))
counted_is r cell = sum_of-cons (taken cell) (r.total, pos 1) (parts_of r.parts) ∙ ap (λ z. (if r.total == cell then pos 1 else pos 0) +ℤ z) (parts_counted cell r.parts)

-- the first ones have no more that pass
pub count-front : {X : Type 0} (test : X → Bool) (xs : List X) (k : ℕ) → count_by test (take k xs) ≤ count_by test xs
count-front test xs zero = omega arith
count-front test [] (suc k) = omega arith
count-front test (x ∷ xs) (suc k) =
    omega (arith, count-front test xs k, sum_by-cons (λ y. if test y then 1 else 0) x xs, sum_by-cons (λ y. if test y then 1 else 0) x (take k xs))
