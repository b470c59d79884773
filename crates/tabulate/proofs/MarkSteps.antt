-- Records given to a mark.
use Rattle.std.proofs.Common.{◌≡◌, ℕ, ◌+◌, ◌-◌, ◌*◌, ◌^◌, min, nat_abs, sum_by, All, take, List, [], ◌∷◌, ◌++◌, length, fold, ap, sym, ◌∙◌, arith, ℤ, pos, negsuc, ◌+ℤ◌, ◌*ℤ◌, ◌≤ℤ◌, length-append}
use Rattle.std.specs.Prelude.{IsPermutation}
use Rattle.std.specs.Int.{saturate_signed, w128}
use Rattle.std.proofs.lemmas.Int.{ints}
use Rattle.std.proofs.lemmas.List.{map-append}
use Rattle.std.proofs.lemmas.List.Elements.{All-append, All-cons, All-nil, All-head, All-tail}
use Rattle.std.proofs.lemmas.List.Sums.{sum_by-append, sum_by-cons, sum_by_push}
use Rattle.std.proofs.lemmas.List.Sorted.{All-permutation, IsPermutation-map, IsPermutation-trans, IsPermutation-sym, length_permutation, sum_by-IsPermutation}
use Rattle.sdc_base.specs.Sums.{weighted_value}
use Rattle.sdc_base.specs.Largest.{contribution, ranking_of}
use Rattle.sdc_base.specs.LargestKept.{KeepsLargest}
use Rattle.sdc_base.specs.declared.rows.Row.{Row}
use Rattle.sdc_base.specs.declared.tops.Tops.{Tops}
use Rattle.sdc_base.specs.declared.tops.Unit.{Unit as Contribution}
use Rattle.linked_tables.specs.declared.mark.Mark.{Mark}
use Rattle.tabulate.specs.MarkRecords.{HoldsRecords, units_of, worth_of_record}

-- weight times value of records, added up
abbrev pub sum_of : List Row → ℤ
sum_of rows = fold (λ sum row. sum +ℤ weighted_value row) (pos 0) rows

pub worth-is : (row : Row) → pos 0 ≤ℤ row.value → weighted_value row ≡ pos (worth_of_record row)
worth-is row h = by row.weight row.value h
  where
    by : (weight : ℕ) (value : ℤ) → pos 0 ≤ℤ value → pos weight *ℤ value ≡ pos (weight * nat_abs value)
    by weight (pos v) h = omega (arith, ints)
    by weight (negsuc v) h = absurd (omega (arith, ints, h))

sum-from : (start : ℕ) (rows : List Row) → All (λ row. pos 0 ≤ℤ row.value) rows → fold (λ sum row. sum +ℤ weighted_value row) (pos start) rows ≡ pos (start + sum_by worth_of_record rows)
sum-from start [] all = omega (arith, ints)
sum-from start (row ∷ rows) all =
    let P : Row → Type 0 = λ (r : Row). pos 0 ≤ℤ r.value in
    let here = worth-is row (All-head P row rows all) in
    let added : pos start +ℤ weighted_value row ≡ pos (start + worth_of_record row) = ap (λ v. pos start +ℤ v) here ∙ omega (arith, ints) in
    let cons = sum_by-cons worth_of_record row rows in
    ap (λ s. fold (λ sum row. sum +ℤ weighted_value row) s rows) added ∙ sum-from (start + worth_of_record row) rows (All-tail P row rows all) ∙ ap pos (omega (arith, cons))

pub sum-is : (rows : List Row) → All (λ row. pos 0 ≤ℤ row.value) rows → sum_of rows ≡ pos (sum_by worth_of_record rows)
sum-is rows all = sum-from 0 rows all ∙ ap pos (omega arith)

room_more : (sum more most : ℕ) → min (min sum most + more) most ≡ min (sum + more) most
room_more sum more most = omega arith

room_both : (sum more most : ℕ) → min (min sum most + min more most) most ≡ min (sum + more) most
room_both sum more most = omega arith

pub holds-more : (old new : Mark) (rows : List Row) (row : Row) → HoldsRecords old rows → pos 0 ≤ℤ row.value
    → new.facts.truth ≡ saturate_signed w128 (old.facts.truth +ℤ weighted_value row) → new.facts.freq ≡ min (old.facts.freq + 1) (2 ^ 32 - 1) → KeepsLargest new.facts.tops (units_of rows ++ contribution row.value row.weight ∷ [])
    → HoldsRecords new (rows ++ row ∷ [])
holds-more old new rows row holds from_zero truth freq tells = record {
  from_zero = All-append (λ (r : Row). pos 0 ≤ℤ r.value) rows (row ∷ []) holds.from_zero (All-cons (λ (r : Row). pos 0 ≤ℤ r.value) row [] from_zero (All-nil (λ (r : Row). pos 0 ≤ℤ r.value)));
  truth =
      truth
      ∙ ap (λ s. saturate_signed w128 (s +ℤ weighted_value row)) holds.truth
      ∙ ap (λ v. saturate_signed w128 (pos (min (sum_by worth_of_record rows) (2 ^ 127 - 1)) +ℤ v)) (worth-is row from_zero)
      ∙ ap pos (room_more (sum_by worth_of_record rows) (worth_of_record row) (2 ^ 127 - 1))
      ∙ ap (λ n. pos (min n (2 ^ 127 - 1))) (sym (sum_by_push worth_of_record rows row));
  freq = freq ∙ ap (λ n. min (n + 1) (2 ^ 32 - 1)) holds.freq ∙ room_more (length rows) 1 (2 ^ 32 - 1) ∙ ap (λ n. min n (2 ^ 32 - 1)) (sym (length-append rows (row ∷ [])));
  largest = rw (map-append (λ (r : Row). contribution r.value r.weight) rows (row ∷ [])) tells;
}

pub holds-joined : (old other new : Mark) (rows more : List Row) → HoldsRecords old rows → HoldsRecords other more
    → new.facts.truth ≡ saturate_signed w128 (old.facts.truth +ℤ other.facts.truth) → new.facts.freq ≡ min (old.facts.freq + other.facts.freq) (2 ^ 32 - 1) → KeepsLargest new.facts.tops (units_of rows ++ units_of more)
    → HoldsRecords new (rows ++ more)
holds-joined old other new rows more holds held truth freq tells = record {
  from_zero = All-append (λ (r : Row). pos 0 ≤ℤ r.value) rows more holds.from_zero held.from_zero;
  truth =
      truth
      ∙ ap (λ s. saturate_signed w128 (s +ℤ other.facts.truth)) holds.truth
      ∙ ap (λ s. saturate_signed w128 (pos (min (sum_by worth_of_record rows) (2 ^ 127 - 1)) +ℤ s)) held.truth
      ∙ ap pos (room_both (sum_by worth_of_record rows) (sum_by worth_of_record more) (2 ^ 127 - 1))
      ∙ ap (λ n. pos (min n (2 ^ 127 - 1))) (sym (sum_by-append worth_of_record rows more));
  freq =
      freq
      ∙ ap (λ n. min (n + other.facts.freq) (2 ^ 32 - 1)) holds.freq
      ∙ ap (λ n. min (min (length rows) (2 ^ 32 - 1) + n) (2 ^ 32 - 1)) held.freq
      ∙ room_both (length rows) (length more) (2 ^ 32 - 1)
      ∙ ap (λ n. min n (2 ^ 32 - 1)) (sym (length-append rows more));
  largest = rw (map-append (λ (r : Row). contribution r.value r.weight) rows more) tells;
}

-- a list tells what one tells that has the same in it
pub tells-copied : (tops copy : Tops) (units : List Contribution) → copy.keep ≡ tops.keep → copy.list ≡ tops.list → KeepsLargest tops units → KeepsLargest copy units
tells-copied tops copy units keep list tells = record { order = tells.order; same = tells.same; kept = list ∙ tells.kept ∙ ap (λ k. take k (ranking_of tells.order)) (sym keep) }

-- the records in another order
pub holds-turned : (mark : Mark) (rows other : List Row) → IsPermutation rows other → HoldsRecords mark rows → HoldsRecords mark other
holds-turned mark rows other turned holds = record {
  from_zero = All-permutation (λ (r : Row). pos 0 ≤ℤ r.value) rows other turned holds.from_zero;
  truth = holds.truth ∙ ap (λ n. pos (min n (2 ^ 127 - 1))) (sym (sum_by-IsPermutation worth_of_record rows other turned));
  freq = holds.freq ∙ ap (λ n. min n (2 ^ 32 - 1)) (sym (length_permutation rows other turned));
  largest = record {
    order = holds.largest.order;
    same = IsPermutation-trans (units_of other) (units_of rows) holds.largest.order (IsPermutation-sym (units_of rows) (units_of other) (IsPermutation-map (λ (r : Row). contribution r.value r.weight) rows other turned)) holds.largest.same;
    kept = holds.largest.kept;
  };
}
