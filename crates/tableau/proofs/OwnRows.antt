-- Rows over dens of their own.
use Rattle.std.proofs.Common.{◌≡◌, ◌≢◌, ℕ, zero, suc, ◌+◌, ◌-◌, ◌/◌, ◌<◌, ◌≤◌, List, [], ◌∷◌, ◌++◌, length, take, slice_index_or, ℤ, pos, negsuc, ◌*ℤ◌, ◌≤ℤ◌, unsigned_abs, arith, refl, ap, sym, subst, ◌∙◌, length-append}
use Prim.Native.Nat.{◌∣◌}
use Rattle.std.proofs.Math.Nat.{div-mul_cancel}
use Rattle.std.proofs.Math.IntN.{*ℤ_comm, zero-*ℤ, pos-*ℤ-pos}
use Rattle.std.proofs.lemmas.Int.{ints, by_lt_z}
use Rattle.std.proofs.lemmas.List.{get_or-map, length-map, get_or_append_left, get_or_at, take_at}
use Rattle.sdc_base.specs.Forms.{Term, coefficient}
use Rattle.sdc_base.specs.Systems.{number_at}
use Rattle.sdc_base.proofs.WholeNumbers.{times_more, times_up}
use Rattle.tableau.specs.Entries.{IsSparse, AreEntriesFrom, row_of_entries}
use Rattle.tableau.specs.OwnRows.{own_den, factor_of, row_over, IsOwnRow}
use Rattle.tableau.proofs.Ascending.{first_entry, not_first}
use Rattle.tableau.proofs.Independent.{by_less}
use Rattle.tableau.proofs.Rising.{product_above}
use Rattle.tableau.proofs.Places.{ascend_of, ascend_le, ascend_less, from_none_here, place_within, append_before, number_spread, length-numbers_then_value, from_found}

-- ---- factors

pub factor_times : (den own : ℤ) → pos 1 ≤ℤ den → pos 1 ≤ℤ own → unsigned_abs own ∣ unsigned_abs den → pos (unsigned_abs den / unsigned_abs own) *ℤ own ≡ den
factor_times (pos n) (pos m) up own_up divides = pos-*ℤ-pos (n / m) m ∙ ap pos (div-mul_cancel m divides)
factor_times (pos n) (negsuc m) up own_up divides = absurd (omega (arith, ints))
factor_times (negsuc n) own up own_up divides = absurd (omega (arith, ints))

positive : (q : ℕ) (own den : ℤ) → pos q *ℤ own ≡ den → pos 1 ≤ℤ den → pos 1 ≤ℤ pos q
positive zero own den is up = absurd (omega (arith, ints, is, zero-*ℤ own))
positive (suc n) own den is up = omega (arith, ints)

pub factor_above : (den own : ℤ) → pos 1 ≤ℤ den → pos 1 ≤ℤ own → unsigned_abs own ∣ unsigned_abs den → pos 1 ≤ℤ pos (unsigned_abs den / unsigned_abs own)
factor_above den own up own_up divides = positive (unsigned_abs den / unsigned_abs own) own den (factor_times den own up own_up divides) up

pub row_factor : (den : ℤ) (width : ℕ) (entries : List Term) → pos 1 ≤ℤ den → IsOwnRow (unsigned_abs den) width entries → (factor_of den width entries *ℤ own_den width entries ≡ den) × (pos 1 ≤ℤ factor_of den width entries)
row_factor den width entries up own = (factor_times den (own_den width entries) up own.above own.divides, factor_above den (own_den width entries) up own.above own.divides)

-- ---- numbers over a den

pub length-row_over : (den : ℤ) (width : ℕ) (entries : List Term) → length (row_over den width entries) ≡ width
length-row_over den width entries = length-map (row_of_entries width entries) (λ (n : ℤ). n *ℤ factor_of den width entries) ∙ length-numbers_then_value width entries

pub over_at : (den : ℤ) (width j : ℕ) (entries : List Term) → j < width → number_at (row_over den width entries) j ≡ coefficient entries j *ℤ factor_of den width entries
over_at den width j entries within =
    get_or-map (λ (n : ℤ). n *ℤ factor_of den width entries) (row_of_entries width entries) j (pos 0) (pos 0) (omega (arith, length-numbers_then_value width entries)) ∙ ap (λ t. t *ℤ factor_of den width entries) (number_spread width j entries within)

-- ---- the last entry

pub record HasLast (from limit : ℕ) (entries : List Term) : Type 0 where
  pub bare : List Term
  pub is : entries ≡ bare ++ (limit, coefficient entries limit) ∷ []
  pub sparse : IsSparse from limit bare

ended : (from limit : ℕ) (entries : List Term) → IsSparse from limit entries → limit ≤ from → entries ≡ []
ended from limit [] sparse up = refl
ended from limit (entry ∷ entries) sparse up = absurd (omega (arith, sparse.0, sparse.1))

pub last_entry : (from limit : ℕ) (entries : List Term) → IsSparse from (suc limit) entries → coefficient entries limit ≢ pos 0 → HasLast from limit entries
last_entry from limit [] sparse some = absurd (some refl)
last_entry from limit (entry ∷ entries) sparse some =
    by_less entry.0 limit
    (λ less.
    let same : coefficient (entry ∷ entries) limit ≡ coefficient entries limit = not_first entry entries limit (omega arith) in
    let rest : HasLast (suc entry.0) limit entries = last_entry (suc entry.0) limit entries sparse.3 (λ none. some (same ∙ none)) in
    record {
      bare = entry ∷ rest.bare;
      is = ap (λ (t : List Term). entry ∷ t) rest.is ∙ ap (λ n. entry ∷ rest.bare ++ (limit, n) ∷ []) (sym same);
      sparse = (sparse.0, less, sparse.2, rest.sparse);
    })
    (λ more.
    let place : entry.0 ≡ limit = omega (arith, sparse.1) in
    let here : coefficient (entry ∷ entries) limit ≡ entry.1 = first_entry entry entries limit (omega arith, ascend_of (suc entry.0) (suc limit) entries sparse.3) place in
    let none : entries ≡ [] = ended (suc entry.0) (suc limit) entries sparse.3 (omega arith) in
    record {
      bare = [];
      is = ap (λ (t : List Term). entry ∷ t) none ∙ ap (λ n. (n, entry.1) ∷ []) place ∙ ap (λ n. (limit, n) ∷ []) (sym here);
      sparse = tt;
    })

not_none : (z : ℤ) → pos 1 ≤ℤ z → z ≢ pos 0
not_none z up none = absurd (omega (arith, ints, none))

pub last_of : (width : ℕ) (entries : List Term) → IsSparse 0 (width + 1) entries → pos 1 ≤ℤ own_den width entries → HasLast 0 width entries
last_of width entries sparse up = last_entry 0 width entries (let next : width + 1 ≡ suc width = omega arith in subst (λ n. IsSparse 0 n entries) next sparse) (not_none (own_den width entries) up)

length-last : (width : ℕ) (entries : List Term) (last : HasLast 0 width entries) → length entries ≡ length last.bare + 1
length-last width entries last = ap length last.is ∙ length-append last.bare ((width, coefficient entries width) ∷ [])

pub some_last : (width : ℕ) (entries : List Term) → HasLast 0 width entries → 0 < length entries
some_last width entries last = omega (arith, length-last width entries last)

pub bare_is : (width : ℕ) (entries : List Term) (last : HasLast 0 width entries) → take (length entries - 1) entries ≡ last.bare
bare_is width entries last =
    let size : length entries - 1 ≡ length last.bare = omega (arith, length-last width entries last) in
    ap (λ n. take n entries) size ∙ ap (take (length last.bare)) last.is ∙ take_at last.bare ((width, coefficient entries width) ∷ []) (length last.bare) refl

pub bare_same : (width v : ℕ) (entries : List Term) (last : HasLast 0 width entries) → v < width → coefficient last.bare v ≡ coefficient entries v
bare_same width v entries last below = sym (ap (λ (t : List Term). coefficient t v) last.is ∙ append_before width v (coefficient entries width) last.bare below)

pub from_last : (width i : ℕ) (entries : List Term) → IsSparse 0 (width + 1) entries → HasLast 0 width entries → i ≡ length entries - 1 → AreEntriesFrom width i entries
from_last width i entries sparse last i_is =
    let d : Term = (0, pos 0) in
    let size : i ≡ length last.bare = omega (arith, i_is, length-last width entries last) in
    let tail : List Term = (width, coefficient entries width) ∷ [] in
    from_found i width d entries (ascend_of 0 (width + 1) entries sparse)
    (λ k below within.
    let inside : k < length last.bare = omega arith in
    let same : slice_index_or entries k d ≡ slice_index_or last.bare k d = ap (λ (t : List Term). slice_index_or t k d) last.is ∙ get_or_append_left last.bare tail d k inside in
    subst (λ (e : Term). e.0 < width) (sym same) (place_within 0 width k d last.bare last.sparse inside))
    (λ within.
    let same : slice_index_or entries i d ≡ (width, coefficient entries width) = ap (λ (t : List Term). slice_index_or t i d) last.is ∙ get_or_at last.bare (width, coefficient entries width) [] d i (sym size) in
    subst (λ (e : Term). width ≤ e.0) (sym same) (omega arith))

pub last_place : (width i : ℕ) (entries : List Term) → HasLast 0 width entries → i + 1 ≡ length entries → (slice_index_or entries i (0, pos 0)).0 ≡ width
last_place width i entries last i_is =
    let d : Term = (0, pos 0) in
    let size : i ≡ length last.bare = omega (arith, i_is, length-last width entries last) in
    let same : slice_index_or entries i d ≡ (width, coefficient entries width) = ap (λ (t : List Term). slice_index_or t i d) last.is ∙ get_or_at last.bare (width, coefficient entries width) [] d i (sym size) in
    ap (λ (e : Term). e.0) same

-- the last entry but one is the value's, or there is none
pub from_value : (width i : ℕ) (entries : List Term) → IsSparse 0 (width + 1) entries → i + 2 ≡ length entries → 0 < width → width - 1 ≤ (slice_index_or entries i (0, pos 0)).0 → AreEntriesFrom (width - 1) i entries
from_value width i entries sparse i_is up at =
    let d : Term = (0, pos 0) in
    let ascend = ascend_of 0 (width + 1) entries sparse in
    let last_in : (slice_index_or entries (i + 1) d).0 < width + 1 = place_within 0 (width + 1) (i + 1) d entries sparse (omega arith) in
    let order : (slice_index_or entries i d).0 < (slice_index_or entries (i + 1) d).0 = ascend_less 0 i (i + 1) d entries ascend (omega arith) (omega arith) in
    from_found i (width - 1) d entries ascend
    (λ k below within. let less : (slice_index_or entries k d).0 < (slice_index_or entries i d).0 = ascend_less 0 k i d entries ascend below (omega arith) in omega (arith, less, order, last_in))
    (λ within. at)

pub no_value : (width i : ℕ) (entries : List Term) → IsSparse 0 (width + 1) entries → HasLast 0 width entries → i + 2 ≡ length entries → 0 < width → (slice_index_or entries i (0, pos 0)).0 < width - 1 → pos 0 ≡ coefficient entries (width - 1)
no_value width i entries sparse last i_is up at =
    let d : Term = (0, pos 0) in
    let ascend = ascend_of 0 (width + 1) entries sparse in
    let own : (slice_index_or entries (i + 1) d).0 ≡ width = last_place width (i + 1) entries last (omega arith) in
    let here : AreEntriesFrom (width - 1) (i + 1) entries =
    from_found (i + 1) (width - 1) d entries ascend
    (λ k below within. let less : (slice_index_or entries k d).0 ≤ (slice_index_or entries i d).0 = ascend_le 0 k i d entries ascend (omega arith) (omega arith) in omega (arith, less, at))
    (λ within. omega (arith, own)) in
    from_none_here (i + 1) (width - 1) d entries here (omega arith) (λ same. absurd (omega (arith, same, own, up)))

pub lone_value : (width : ℕ) (entries : List Term) → IsSparse 0 (width + 1) entries → HasLast 0 width entries → length entries < 2 → 0 < width → pos 0 ≡ coefficient entries (width - 1)
lone_value width entries sparse last short up =
    let d : Term = (0, pos 0) in
    let own : (slice_index_or entries 0 d).0 ≡ width = last_place width 0 entries last (omega (arith, some_last width entries last)) in
    let here : AreEntriesFrom (width - 1) 0 entries = from_found 0 (width - 1) d entries (ascend_of 0 (width + 1) entries sparse) (λ k below within. absurd (omega (arith, below))) (λ within. omega (arith, own)) in
    from_none_here 0 (width - 1) d entries here (some_last width entries last) (λ same. absurd (omega (arith, same, own, up)))

-- ---- signs

pub above_of : (x c n : ℤ) → pos 1 ≤ℤ c → x *ℤ c ≡ n → pos 1 ≤ℤ n → pos 1 ≤ℤ x
above_of x c n up is more = by_lt_z (pos 0) x (λ over. omega (arith, ints)) (λ under. let less : (c *ℤ x) ≤ℤ (c *ℤ pos 0) = times_up c x (pos 0) (omega (arith, ints)) under in absurd (omega (arith, ints, is, less, *ℤ_comm x c, *ℤ_comm c (pos 0), zero-*ℤ c)))

pub above_times : (x c n : ℤ) → pos 1 ≤ℤ c → x *ℤ c ≡ n → pos 1 ≤ℤ x → pos 1 ≤ℤ n
above_times x c n up is more = omega (arith, ints, is, product_above x c more (omega (arith, ints)))

pub cancel : (x y c : ℤ) → pos 1 ≤ℤ c → x *ℤ c ≡ y *ℤ c → x ≡ y
cancel x y c up same =
    by_lt_z x y
    (λ less. absurd (omega (arith, ints, times_more c x y up less, *ℤ_comm x c, *ℤ_comm y c, same)))
    (λ over.
    by_lt_z y x
    (λ less. absurd (omega (arith, ints, times_more c y x up less, *ℤ_comm x c, *ℤ_comm y c, same)))
    (λ under. omega (arith, ints)))

pub not_above_times : (x c n : ℤ) → pos 1 ≤ℤ c → x *ℤ c ≡ n → x ≤ℤ pos 0 → n ≤ℤ pos 0
not_above_times x c n up is down = omega (arith, ints, is, times_up c x (pos 0) (omega (arith, ints)) down, *ℤ_comm x c, *ℤ_comm c (pos 0), zero-*ℤ c)
