-- Lists of places with numbers, and the rows that they stand for.
use Rattle.std.proofs.Common.{◌≡◌, ◌≢◌, ◌==◌, true, false, ℕ, zero, suc, ◌+◌, ◌<◌, ◌≤◌, List, [], ◌∷◌, ◌++◌, length, drop, slice_index_or, ℤ, pos, negsuc, ◌*ℤ◌, arith, refl, ap, sym, subst, ◌∙◌, if◌then◌else◌}
use Rattle.std.proofs.Math.IntN.{*ℤ_comm}
use Rattle.std.proofs.lemmas.Int.{ints}
use Rattle.std.proofs.lemmas.Bool.Decides.{nat_tests}
use Rattle.std.proofs.lemmas.List.{drop_more, drop_all, get_or_past}
use Rattle.std.proofs.lemmas.List.FromFn.{length-map-range_with_len, get_or-map-range_with_len, fill_by_all}
use Rattle.sdc_base.proofs.TotalLemmas.{sum_of-cons, sum_of-append}
use Rattle.sdc_base.specs.Forms.{Term, coefficient}
use Rattle.tableau.specs.ProblemForm.{AscendFrom}
use Rattle.tableau.specs.Entries.{IsSparse, AreEntriesOf, AreEntriesFrom, AreEntriesBelow, row_of_entries, put_entry, crossed_at}
use Rattle.sdc_base.specs.Systems.{number_at}
use Rattle.tableau.proofs.Ascending.{none_below, not_first, first_entry, ascend_later}
use Rattle.tableau.proofs.Independent.{by_less}

pub ascend_of : (from limit : ℕ) (entries : List Term) → IsSparse from limit entries → AscendFrom from entries
ascend_of from limit [] sparse = tt
ascend_of from limit (entry ∷ entries) sparse = (sparse.0, ascend_of (suc entry.0) limit entries sparse.3)

pub sparse_weaker : (from limit more : ℕ) (entries : List Term) → limit ≤ more → IsSparse from limit entries → IsSparse from more entries
sparse_weaker from limit more [] up sparse = tt
sparse_weaker from limit more (entry ∷ entries) up sparse = (sparse.0, omega (arith, sparse.1), sparse.2, sparse_weaker (suc entry.0) limit more entries up sparse.3)

pub none_above : (from limit v : ℕ) (entries : List Term) → IsSparse from limit entries → limit ≤ v → coefficient entries v ≡ pos 0
none_above from limit v [] sparse up = refl
none_above from limit v (entry ∷ entries) sparse up =
    let apart : entry.0 ≢ v = omega (arith, sparse.1) in
    not_first entry entries v apart ∙ none_above (suc entry.0) limit v entries sparse.3 up

pub place_within : (from limit k : ℕ) (d : Term) (entries : List Term) → IsSparse from limit entries → k < length entries → (slice_index_or entries k d).0 < limit
place_within from limit k d [] sparse within = absurd (omega arith)
place_within from limit zero d (entry ∷ entries) sparse within = sparse.1
place_within from limit (suc k) d (entry ∷ entries) sparse within = place_within (suc entry.0) limit k d entries sparse.3 (omega arith)

-- ---- one entry more

sparse_append : (from limit place : ℕ) (number : ℤ) (entries : List Term) → IsSparse from limit entries → from ≤ place → limit ≤ place → number ≢ pos 0 → IsSparse from (suc place) (entries ++ (place, number) ∷ [])
sparse_append from limit place number [] sparse under up some = (under, omega arith, some, tt)
sparse_append from limit place number (entry ∷ entries) sparse under up some =
    (sparse.0, omega (arith, sparse.1), sparse.2, sparse_append (suc entry.0) limit place number entries sparse.3 (omega (arith, sparse.1)) up some)

coefficient_one : (place v : ℕ) (number : ℤ) → coefficient ((place, number) ∷ []) v ≡ (if place == v then number else pos 0)
coefficient_one place v number = omega (arith, ints, sum_of-cons (λ (t : Term). if t.0 == v then t.1 else pos 0) (place, number) [])

pub append_here : (place : ℕ) (number : ℤ) (entries : List Term) → coefficient entries place ≡ pos 0 → coefficient (entries ++ (place, number) ∷ []) place ≡ number
append_here place number entries none =
    let test : (place == place) ≡ true = grind (arith, nat_tests) in
    let head : (if place == place then number else pos 0) ≡ number = rw test refl in
    omega (arith, ints, head, none, coefficient_one place place number, sum_of-append (λ (t : Term). if t.0 == place then t.1 else pos 0) entries ((place, number) ∷ []))

pub append_before : (place v : ℕ) (number : ℤ) (entries : List Term) → v < place → coefficient (entries ++ (place, number) ∷ []) v ≡ coefficient entries v
append_before place v number entries below =
    let test : (place == v) ≡ false = let apart : place ≢ v = omega arith in grind (arith, nat_tests) in
    let head : (if place == v then number else pos 0) ≡ pos 0 = rw test refl in
    omega (arith, ints, head, coefficient_one place v number, sum_of-append (λ (t : Term). if t.0 == v then t.1 else pos 0) entries ((place, number) ∷ []))

-- ---- entries that are made in order

pub made_none : (numbers : ℕ → ℤ) → AreEntriesBelow 0 numbers []
made_none numbers = record { sparse = tt; same = λ v below. absurd (omega arith) }

pub made_on : (next place : ℕ) (numbers : ℕ → ℤ) (made : List Term) → AreEntriesBelow next numbers made → next ≤ place → ((v : ℕ) → next ≤ v → v < place → numbers v ≡ pos 0) → AreEntriesBelow place numbers made
made_on next place numbers made is up none = record {
  sparse = sparse_weaker 0 next place made up is.sparse;
  same = λ v below. by_less v next (λ less. is.same v less) (λ more. none_above 0 next v made is.sparse more ∙ sym (none v more below));
}

made_put : (place : ℕ) (numbers : ℕ → ℤ) (made : List Term) (number : ℤ) → AreEntriesBelow place numbers made → number ≢ pos 0 → number ≡ numbers place → AreEntriesBelow (suc place) numbers (made ++ (place, number) ∷ [])
made_put place numbers made number is some here = record {
  sparse = sparse_append 0 place place number made is.sparse (omega arith) (omega arith) some;
  same = λ v below.
      by_less v place
      (λ less. append_before place v number made less ∙ is.same v less)
      (λ more.
      let same : v ≡ place = omega arith in
      ap (coefficient (made ++ (place, number) ∷ [])) same ∙ append_here place number made (none_above 0 place place made is.sparse (omega arith)) ∙ here ∙ ap numbers (sym same));
}

made_here : (place : ℕ) (numbers : ℕ → ℤ) (made : List Term) (number : ℤ) → AreEntriesBelow place numbers made → number ≡ numbers place → AreEntriesBelow (suc place) numbers (put_entry made place number)
made_here place numbers made (pos zero) is here = made_on place (suc place) numbers made is (omega arith) (λ v from below. let same : v ≡ place = omega arith in ap numbers same ∙ sym here)
made_here place numbers made (pos (suc n)) is here = made_put place numbers made (pos (suc n)) is (omega (arith, ints)) here
made_here place numbers made (negsuc n) is here = made_put place numbers made (negsuc n) is (omega (arith, ints)) here

pub made_more : (next place : ℕ) (numbers : ℕ → ℤ) (made now : List Term) (number : ℤ) → AreEntriesBelow next numbers made → next ≤ place → ((v : ℕ) → next ≤ v → v < place → numbers v ≡ pos 0) → number ≡ numbers place → now ≡ put_entry made place number → AreEntriesBelow (place + 1) numbers now
made_more next place numbers made now number is up none here put =
    let on : suc place ≡ place + 1 = omega arith in
    subst (λ (t : List Term). AreEntriesBelow (place + 1) numbers t) (sym put) (subst (λ n. AreEntriesBelow n numbers (put_entry made place number)) on (made_here place numbers made number (made_on next place numbers made is up none) here))

-- ---- the row that entries stand for

pub number_spread : (width j : ℕ) (entries : List Term) → j < width → number_at (row_of_entries width entries) j ≡ coefficient entries j
number_spread width j entries within = get_or-map-range_with_len (coefficient entries) 0 width j j (pos 0) within (omega arith)

pub length-numbers_then_value : (width : ℕ) (entries : List Term) → length (row_of_entries width entries) ≡ width
length-numbers_then_value width entries = length-map-range_with_len (coefficient entries) 0 width

-- entries that are made for all places stand for the row of these numbers
pub made_row : (width : ℕ) (numbers : ℕ → ℤ) (row : List ℤ) (made : List Term) → AreEntriesBelow width numbers made → length row ≡ width → ((v : ℕ) → v < width → number_at row v ≡ numbers v) → AreEntriesOf width row made
made_row width numbers row made is long each = record {
  sparse = is.sparse;
  stands = sym (fill_by_all (coefficient made) row width (pos 0) long (λ k below. each k below ∙ sym (is.same k below)));
}

-- ---- entries that are gone through in order

pub from_start : (entries : List Term) → AscendFrom 0 entries → AreEntriesFrom 0 0 entries
from_start entries ascend = record { ascend = ascend; same = λ v up. refl }

pub from_place : (next i limit : ℕ) (entries : List Term) → AreEntriesFrom next i entries → next ≤ limit → next ≤ (slice_index_or entries i (limit, pos 0)).0
from_place next i limit entries from up =
    by_less i (length entries)
    (λ less. (subst (λ (t : List Term). AscendFrom next t) (drop_more entries i (limit, pos 0) less) from.ascend).0)
    (λ more. subst (λ (t : Term). next ≤ t.0) (sym (get_or_past entries i (limit, pos 0) more)) up)

pub from_none : (next i limit v : ℕ) (entries : List Term) → AreEntriesFrom next i entries → next ≤ v → v < (slice_index_or entries i (limit, pos 0)).0 → coefficient entries v ≡ pos 0
from_none next i limit v entries from up below =
    by_less i (length entries)
    (λ less.
    let entry : Term = slice_index_or entries i (limit, pos 0) in
    let more : drop i entries ≡ entry ∷ drop (i + 1) entries = drop_more entries i (limit, pos 0) less in
    let ascend : AscendFrom next (entry ∷ drop (i + 1) entries) = subst (λ (t : List Term). AscendFrom next t) more from.ascend in
    from.same v up ∙ ap (λ (t : List Term). coefficient t v) more ∙ none_below entry.0 v (entry ∷ drop (i + 1) entries) (omega arith, ascend.1) below)
    (λ more. from.same v up ∙ ap (λ (t : List Term). coefficient t v) (drop_all i entries more))

pub from_later : (next i limit place : ℕ) (entries : List Term) → AreEntriesFrom next i entries → next ≤ place → place ≤ (slice_index_or entries i (limit, pos 0)).0 → AreEntriesFrom place i entries
from_later next i limit place entries from up below =
    by_less i (length entries)
    (λ less.
    let entry : Term = slice_index_or entries i (limit, pos 0) in
    let more : drop i entries ≡ entry ∷ drop (i + 1) entries = drop_more entries i (limit, pos 0) less in
    let ascend : AscendFrom next (entry ∷ drop (i + 1) entries) = subst (λ (t : List Term). AscendFrom next t) more from.ascend in
    record { ascend = subst (λ (t : List Term). AscendFrom place t) (sym more) (below, ascend.1); same = λ v over. from.same v (omega arith) })
    (λ more. record { ascend = subst (λ (t : List Term). AscendFrom place t) (sym (drop_all i entries more)) tt; same = λ v over. from.same v (omega arith) })

pub from_here : (i place : ℕ) (d : Term) (entries : List Term) → AreEntriesFrom place i entries → i < length entries → (slice_index_or entries i d).0 ≡ place → (slice_index_or entries i d).1 ≡ coefficient entries place
from_here i place d entries from less is =
    let entry : Term = slice_index_or entries i d in
    let more : drop i entries ≡ entry ∷ drop (i + 1) entries = drop_more entries i d less in
    let ascend : AscendFrom place (entry ∷ drop (i + 1) entries) = subst (λ (t : List Term). AscendFrom place t) more from.ascend in
    sym (from.same place (omega arith) ∙ ap (λ (t : List Term). coefficient t place) more ∙ first_entry entry (drop (i + 1) entries) place (omega arith, ascend.1) is)

pub from_taken : (i place : ℕ) (d : Term) (entries : List Term) → AreEntriesFrom place i entries → i < length entries → (slice_index_or entries i d).0 ≡ place → AreEntriesFrom (place + 1) (i + 1) entries
from_taken i place d entries from less is =
    let entry : Term = slice_index_or entries i d in
    let more : drop i entries ≡ entry ∷ drop (i + 1) entries = drop_more entries i d less in
    let ascend : AscendFrom place (entry ∷ drop (i + 1) entries) = subst (λ (t : List Term). AscendFrom place t) more from.ascend in
    record {
      ascend = ascend_later (suc entry.0) (place + 1) (drop (i + 1) entries) (omega arith) ascend.1;
      same = λ v over. from.same v (omega arith) ∙ ap (λ (t : List Term). coefficient t v) more ∙ not_first entry (drop (i + 1) entries) v (omega arith);
    }

pub from_none_here : (i place : ℕ) (d : Term) (entries : List Term) → AreEntriesFrom place i entries → i < length entries → (slice_index_or entries i d).0 ≢ place → pos 0 ≡ coefficient entries place
from_none_here i place d entries from less apart =
    let entry : Term = slice_index_or entries i d in
    let more : drop i entries ≡ entry ∷ drop (i + 1) entries = drop_more entries i d less in
    let ascend : AscendFrom place (entry ∷ drop (i + 1) entries) = subst (λ (t : List Term). AscendFrom place t) more from.ascend in
    sym (from.same place (omega arith) ∙ ap (λ (t : List Term). coefficient t place) more ∙ none_below entry.0 place (entry ∷ drop (i + 1) entries) (omega arith, ascend.1) (omega (arith, ascend.0)))

-- ---- entries that are searched by halves

ascend_up : (from j : ℕ) (d : Term) (entries : List Term) → AscendFrom from entries → j < length entries → from ≤ (slice_index_or entries j d).0
ascend_up from j d [] ascend below = absurd (omega arith)
ascend_up from zero d (entry ∷ entries) ascend below = ascend.0
ascend_up from (suc j) d (entry ∷ entries) ascend below = omega (arith, ascend.0, ascend_up (suc entry.0) j d entries ascend.1 (omega arith))

pub ascend_le : (from i j : ℕ) (d : Term) (entries : List Term) → AscendFrom from entries → i ≤ j → j < length entries → (slice_index_or entries i d).0 ≤ (slice_index_or entries j d).0
ascend_le from i j d [] ascend up below = absurd (omega arith)
ascend_le from zero zero d (entry ∷ entries) ascend up below = omega arith
ascend_le from zero (suc j) d (entry ∷ entries) ascend up below = omega (arith, ascend_up (suc entry.0) j d entries ascend.1 (omega arith))
ascend_le from (suc i) zero d (entry ∷ entries) ascend up below = absurd (omega arith)
ascend_le from (suc i) (suc j) d (entry ∷ entries) ascend up below = ascend_le (suc entry.0) i j d entries ascend.1 (omega arith) (omega arith)

pub ascend_less : (from i j : ℕ) (d : Term) (entries : List Term) → AscendFrom from entries → i < j → j < length entries → (slice_index_or entries i d).0 < (slice_index_or entries j d).0
ascend_less from i j d [] ascend up below = absurd (omega arith)
ascend_less from zero zero d (entry ∷ entries) ascend up below = absurd (omega arith)
ascend_less from zero (suc j) d (entry ∷ entries) ascend up below = omega (arith, ascend_up (suc entry.0) j d entries ascend.1 (omega arith))
ascend_less from (suc i) zero d (entry ∷ entries) ascend up below = absurd (omega arith)
ascend_less from (suc i) (suc j) d (entry ∷ entries) ascend up below = ascend_less (suc entry.0) i j d entries ascend.1 (omega arith) (omega arith)

ascend_drop : (from i : ℕ) (entries : List Term) → AscendFrom from entries → AscendFrom from (drop i entries)
ascend_drop from zero entries ascend = ascend
ascend_drop from (suc i) [] ascend = tt
ascend_drop from (suc i) (entry ∷ entries) ascend = ascend_later (suc entry.0) from (drop i entries) (omega (arith, ascend.0)) (ascend_drop (suc entry.0) i entries ascend.1)

same_behind : (i place v : ℕ) (d : Term) (entries : List Term) → ((k : ℕ) → k < i → k < length entries → (slice_index_or entries k d).0 < place) → place ≤ v → coefficient entries v ≡ coefficient (drop i entries) v
same_behind zero place v d entries before up = refl
same_behind (suc i) place v d [] before up = refl
same_behind (suc i) place v d (entry ∷ entries) before up =
    let first : entry.0 < place = before 0 (omega arith) (omega arith) in
    not_first entry entries v (omega arith) ∙ same_behind i place v d entries (λ k below within. before (suc k) (omega arith) (omega arith)) up

pub from_found : (i place : ℕ) (d : Term) (entries : List Term) → AscendFrom 0 entries → ((k : ℕ) → k < i → k < length entries → (slice_index_or entries k d).0 < place) → (i < length entries → place ≤ (slice_index_or entries i d).0) → AreEntriesFrom place i entries
from_found i place d entries ascend before behind = record {
  ascend =
      by_less i (length entries)
      (λ less.
      let more : drop i entries ≡ slice_index_or entries i d ∷ drop (i + 1) entries = drop_more entries i d less in
      let rest : AscendFrom 0 (slice_index_or entries i d ∷ drop (i + 1) entries) = subst (λ (t : List Term). AscendFrom 0 t) more (ascend_drop 0 i entries ascend) in
      subst (λ (t : List Term). AscendFrom place t) (sym more) (behind less, rest.1))
      (λ over. subst (λ (t : List Term). AscendFrom place t) (sym (drop_all i entries over)) tt);
  same = λ v up. same_behind i place v d entries before up;
}

-- ---- two rows crossed

-- where the pivot's row has no number, a row's own is taken p times
pub crossed_alone : (den p f : ℤ) (column v : ℕ) (pivot own : List Term) → coefficient pivot v ≡ pos 0 → coefficient pivot column ≢ pos 0 → crossed_at den p f column pivot own v ≡ coefficient own v *ℤ p
crossed_alone den p f column v pivot own none some =
    let apart : v ≢ column = λ same. some (ap (coefficient pivot) (sym same) ∙ none) in
    let test : (v == column) ≡ false = grind (arith, nat_tests) in
    rw (test, none) (omega (arith, ints, *ℤ_comm f (pos 0)))
