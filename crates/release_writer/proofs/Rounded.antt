-- Rounded numbers: what is written is read as that, and what is read has these texts.
use Rattle.std.proofs.Common.{◌≡◌, ℕ, zero, suc, ◌+◌, ◌-◌, ◌<◌, ◌≤◌, ◌/◌, ◌%◌, ◌^◌, ◌==◌, ◌||◌, Bool, true, false, cond, not, List, [], ◌∷◌, ◌++◌, length, map, take, drop, slice_get, slice_index_or, get_or, nat_lt, replicate, Option, None, Some, option_map, is_some, Result, Ok, Err, ℤ, pos, arith, refl, ap, sym, ◌∙◌, subst, append_assoc, append-nil, length-append, if◌then◌else◌}
use Rattle.std.specs.Prelude.{decimal, unsigned_abs}
use Rattle.std.specs.List.{list_any, range_with_len, before_first, position_or_len}
use Rattle.std.specs.Option.{option_and_then, unwrap_or}
use Rattle.std.specs.Fmt.{digits, digits_onto, digit_glyph}
use Rattle.std.proofs.Math.Seq.{take-append_seam, drop-append_seam}
use Rattle.std.proofs.Math.Nat.{one-le-pow}
use Rattle.std.proofs.lemmas.Nat.{mod_below}
use Rattle.std.proofs.lemmas.Fmt.{length-decimal-le_wide}
use Rattle.std.proofs.lemmas.List.{length-replicate}
use Rattle.std.proofs.lemmas.Option.{slice_get_past}
use Rattle.std.proofs.lemmas.Bool.Decides.{nat_tests}
use Rattle.sdc_base.specs.Lines.{is_line_feed}
use Rattle.sdc_base.specs.Numbers.{units_text, padded_digits, read_units, units_of_parts, unless_wide, unless_stray, number_within, too_wide, place_of_stray_byte, whole_digits, fraction}
use Rattle.sdc_base.specs.declared.number_fault.NumberFault.{NumberFault}
use Rattle.sdc_base.specs.declared.number_fault.NumberFault.TheVariants.{Empty, TooManyDecimals}
use Rattle.sdc_base.specs.Steps.{◌>>=◌, map_ok}
use Rattle.sdc_base.specs.TableText.{comma, quote, field_text, line_text, is_special, quotes_doubled, shown_text, codes_of_place}
use Rattle.sdc_base.specs.Cells.{trees_of}
use Rattle.linked_tables.specs.declared.mark.Mark.{Mark}
use Rattle.linked_tables.specs.BookViews.{BookView}
use Rattle.linked_tables.specs.BookCells.{cells}
use Rattle.release_writer.specs.ReleaseReading.{LinePlace, shown_numbers, release_read}
use Rattle.release_writer.specs.LineChoices.{Template, rest_behind, line_showing, choice_there, new_value, rounded_value, number_there, number_behind, value_read}
use Rattle.release_writer.specs.ReadingLaws.{AreTexts, RoundedHaveTexts, IsReleased}
use Rattle.release_writer.proofs.HaveTexts.{Shows, GivesNew, AllFrom, all-at, fitting-some, release-read, shown_by, texts-same}

-- ---- what is read has these texts

-- a cell shows a number from 0 that isn't too wide
abbrev pub IsNumber : ℕ → Option ℤ → Type 0
IsNumber cell value = (n : ℕ) × (value ≡ Some (pos n)) × (n < too_wide)

narrow-ok : (n : ℕ) (z : ℤ) → unless_wide (number_within n) ≡ Ok z → (m : ℕ) × (z ≡ pos m) × (m < too_wide)
narrow-ok n z h =
    elim (nat_lt n too_wide) as (λ b. nat_lt n too_wide ≡ b → unless_wide (if b then Some n else None) ≡ Ok z → (m : ℕ) × (z ≡ pos m) × (m < too_wide)) [
      | true ↦ λ is h. (n, cc, grind (arith, nat_tests, is))
      | false ↦ λ is h. cc
    ] refl h

parts-ok : (front back : List ℕ) (decimals : ℕ) (z : ℤ) → units_of_parts front back decimals ≡ Ok z → (m : ℕ) × (z ≡ pos m) × (m < too_wide)
parts-ok front back decimals z h = go (length (front ++ back) == 0) (nat_lt decimals (length back)) _ h
  where
    go : (empty many : Bool) (n : ℕ) → (if empty then Err Empty else if many then Err TooManyDecimals else unless_wide (number_within n)) ≡ Ok z → (m : ℕ) × (z ≡ pos m) × (m < too_wide)
    go true many n h = cc
    go false true n h = cc
    go false false n h = narrow-ok n z h

units-ok : (bytes : List ℕ) (decimals : ℕ) (z : ℤ) → read_units bytes decimals ≡ Ok z → (m : ℕ) × (z ≡ pos m) × (m < too_wide)
units-ok bytes decimals z h = go (place_of_stray_byte false bytes) h
  where
    go : (o : Option ℕ) → unless_stray o (units_of_parts (whole_digits bytes) (fraction bytes) decimals) ≡ Ok z → (m : ℕ) × (z ≡ pos m) × (m < too_wide)
    go None h = parts-ok (whole_digits bytes) (fraction bytes) decimals z h
    go (Some place) h = cc

number-ok : (line : ℕ) (bytes : List ℕ) (decimals : ℕ) (z : ℤ) → number_behind line bytes decimals ≡ Some z → (m : ℕ) × (z ≡ pos m) × (m < too_wide)
number-ok line bytes decimals z h =
    let text = before_first is_line_feed (take 60 (drop (line - 2) bytes)) in
    elim (read_units text decimals) as (λ r. read_units text decimals ≡ r → value_read r ≡ Some z → (m : ℕ) × (z ≡ pos m) × (m < too_wide)) [
      | Ok y ↦ λ is h. let same : y ≡ z = cc in units-ok text decimals z (is ∙ ap Ok same)
      | Err e ↦ λ is h. cc
    ] refl h

rounded-gives : (book : BookView) (decimals : ℕ) → GivesNew book decimals true IsNumber
rounded-gives book decimals t table place bytes cell found h =
    let form : Template = record { book = book; t = t; table = table; decimals = decimals; rounded = true } in
    go form (number_there form place bytes) refl h
  where
    go : (form : Template) (o : Option ℤ) → number_behind (length (line_showing form place None)) bytes form.decimals ≡ o → option_and_then (λ number. choice_there form place bytes (Some number)) o ≡ Some found → Shows form place bytes found × IsNumber cell found.0
    go form None is h = cc
    go form (Some z) is h =
        let fits = fitting-some form place bytes (Some z) found h in
        let small = number-ok (length (line_showing form place None)) bytes form.decimals z is in
        (fits.1, (small.0, fits.0 ∙ ap Some small.1, small.2))

number-seen : (value : Option ℤ) → IsNumber 0 value → value ≡ Some (unwrap_or value (pos 0))
number-seen None h = let no : None ≡ Some (pos h.0) = h.1 in cc
number-seen (Some z) h = refl

numbers-at : (values : List (Option ℤ)) (cell : ℕ) → cell < length values → slice_get (shown_numbers values) cell ≡ Some (unwrap_or (slice_index_or values cell None) (pos 0))
numbers-at [] cell h = absurd (omega (arith, h))
numbers-at (value ∷ values) zero h = refl
numbers-at (value ∷ values) (suc cell) h = numbers-at values cell (omega (arith, h))

numbers-long : (values : List (Option ℤ)) → length (shown_numbers values) ≡ length values
numbers-long [] = refl
numbers-long (value ∷ values) = ap suc (numbers-long values)

past-value : (values : List (Option ℤ)) (cell : ℕ) → length values ≤ cell → slice_index_or values cell None ≡ None
past-value [] cell h = refl
past-value (value ∷ values) zero h = absurd (omega (arith, h))
past-value (value ∷ values) (suc cell) h = past-value values cell (omega (arith, h))

shown-numbers : (values : List (Option ℤ)) → AllFrom IsNumber 0 values → (cell : ℕ) → shown_by values cell ≡ slice_get (shown_numbers values) cell
shown-numbers values all cell =
    elim (nat_lt cell (length values)) as (λ b. nat_lt cell (length values) ≡ b → shown_by values cell ≡ slice_get (shown_numbers values) cell) [
      | true ↦ λ is.
          let small : cell < length values = grind (arith, nat_tests, is) in
          number-seen (shown_by values cell) (all-at IsNumber 0 values cell all small) ∙ sym (numbers-at values cell small)
      | false ↦ λ is.
          let past : length values ≤ cell = grind (arith, nat_tests, is) in
          past-value values cell past ∙ sym (slice_get_past (shown_numbers values) cell (omega (arith, past, numbers-long values)))
    ] refl

released : (a : ℕ) (values : List (Option ℤ)) → AllFrom IsNumber a values → IsReleased (shown_numbers values)
released a [] all = tt
released a (None ∷ values) all = let no : None ≡ Some (pos all.0.0) = all.0.1 in cc
released a (Some z ∷ values) all = let same : z ≡ pos all.0.0 = cc in ((all.0.0, same, all.0.2), released (a + 1) values all.1)

map-ok : (r : Result (List (Option ℤ)) LinePlace) (numbers : List ℤ) → map_ok shown_numbers r ≡ Ok numbers → (values : List (Option ℤ)) × (r ≡ Ok values) × (shown_numbers values ≡ numbers)
map-ok (Ok values) numbers h = (values, refl, cc)
map-ok (Err e) numbers h = cc

pub rounded_have_texts : RoundedHaveTexts
rounded_have_texts book names decimals files numbers one_each one_name one_file h =
    let made = map-ok (release_read book names decimals true files) numbers h in
    let values = made.0 in
    let read = release-read book decimals true IsNumber names files values (rounded-gives book decimals) one_name one_file made.1 in
    let size : length values ≡ length book.marks = read.long ∙ sym one_each in
    let texts = texts-same book decimals (shown_by values) (slice_get (shown_numbers values)) (shown-numbers values read.all) book.tables names files read.texts in
    subst (λ (numbers : List ℤ). (length numbers ≡ length book.marks) × IsReleased numbers × AreTexts book decimals (slice_get numbers) book.tables names files) made.2 (numbers-long values ∙ size, released 0 values read.all, texts)
