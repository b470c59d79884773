-- The texts of rounded numbers are read as these numbers.
use Rattle.std.proofs.Common.{◌≡◌, ℕ, zero, suc, ◌+◌, ◌-◌, ◌<◌, ◌≤◌, ◌/◌, ◌%◌, ◌^◌, ◌==◌, ◌||◌, ◌&&◌, Bool, true, false, not, List, [], ◌∷◌, ◌++◌, length, map, take, drop, slice_get, replicate, Option, None, Some, option_map, Result, Ok, ℤ, pos, arith, refl, ap, sym, ◌∙◌, subst, append_assoc, length-append, div-le_self, if◌then◌else◌}
use Rattle.std.specs.Prelude.{decimal}
use Rattle.std.specs.Char.{is_ascii_digit}
use Rattle.std.specs.List.{list_any, range_with_len, before_first, position_or_len}
use Rattle.std.specs.Option.{option_and_then, unwrap_or}
use Rattle.std.proofs.Math.Nat.{one-le-pow, pow-le-pow_right}
use Rattle.std.proofs.Math.Seq.{drop-append_seam}
use Rattle.std.proofs.lemmas.Fmt.{length-decimal-le_wide}
use Rattle.std.proofs.lemmas.List.{length-replicate}
use Rattle.std.proofs.lemmas.Nat.{mod_below}
use Rattle.sdc_base.specs.Cells.{trees_of}
use Rattle.sdc_base.specs.Lines.{is_line_feed}
use Rattle.sdc_base.specs.Numbers.{is_point, padded_digits, read_units, place_of_stray_byte, too_wide, units_of_parts, units_text, unless_stray, whole_digits, fraction}
use Rattle.sdc_base.specs.Steps.{map_ok}
use Rattle.sdc_base.specs.TableText.{codes_of_place, field_text, is_special}
use Rattle.sdc_base.specs.declared.number_fault.NumberFault.{NumberFault}
use Rattle.linked_tables.specs.BookViews.{BookView}
use Rattle.linked_tables.specs.BookCells.{cells as cells_in}
use Rattle.plain_text.proofs.ReadBack.{printed_read}
use Rattle.release_writer.proofs.Behind.{behind-self, fields_before, line-last}
use Rattle.release_writer.proofs.ReadBack.{ReadsNew, release-read, first_shown}
use Rattle.release_writer.specs.ReadingLaws.{IsReleased}
use Rattle.release_writer.specs.ReleaseReading.{shown_numbers}
use Rattle.release_writer.specs.LineChoices.{Template, choice_there, line_showing, new_value, number_there, value_read}
use Rattle.release_laws.specs.RoundingLaws.{RoundedAreReadBack}

-- ---- the text of a number

digit-plain : (b : ℕ) → is_ascii_digit b ≡ true → is_special b ≡ false
digit-plain b h = grind arith

point-plain : (b : ℕ) (seen : Bool) → (is_point b && not seen) ≡ true → is_special b ≡ false
point-plain b true h = grind arith
point-plain b false h = grind arith

none-before : (o : Option ℕ) → option_map (λ k. k + 1) o ≡ None → o ≡ None
none-before None h = refl
none-before (Some k) h = absurd cc

both-plain : (a b : Bool) → a ≡ false → b ≡ false → (a || b) ≡ false
both-plain a b first second = rw (first, second) refl

-- bytes of which none is stray have no special one
unstray-plain : (seen : Bool) (bytes : List ℕ) → place_of_stray_byte seen bytes ≡ None → list_any is_special bytes ≡ false
unstray-plain seen [] h = refl
unstray-plain seen (b ∷ bytes) h =
    elim (is_ascii_digit b) as (λ d. is_ascii_digit b ≡ d → (if d then option_map (λ k. k + 1) (place_of_stray_byte seen bytes) else if is_point b && not seen then option_map (λ k. k + 1) (place_of_stray_byte true bytes) else Some 0) ≡ None → (is_special b || list_any is_special bytes) ≡ false) [
      | true ↦ λ is h. both-plain (is_special b) (list_any is_special bytes) (digit-plain b is) (unstray-plain seen bytes (none-before (place_of_stray_byte seen bytes) h))
      | false ↦ λ is h.
          elim (is_point b && not seen) as (λ p. (is_point b && not seen) ≡ p → (if p then option_map (λ k. k + 1) (place_of_stray_byte true bytes) else Some 0) ≡ None → (is_special b || list_any is_special bytes) ≡ false) [
            | true ↦ λ point h. both-plain (is_special b) (list_any is_special bytes) (point-plain b seen point) (unstray-plain true bytes (none-before (place_of_stray_byte true bytes) h))
            | false ↦ λ point h. absurd cc
          ] refl h
    ] refl h

-- bytes that are read as a number have none
read-unstray : (o : Option ℕ) (read : Result ℤ NumberFault) (z : ℤ) → unless_stray o read ≡ Ok z → o ≡ None
read-unstray None read z h = refl
read-unstray (Some place) read z h = absurd cc

printed-plain : (n decimals : ℕ) → n < too_wide → list_any is_special (units_text n decimals) ≡ false
printed-plain n decimals narrow =
    let text = units_text n decimals in
    unstray-plain false text (read-unstray (place_of_stray_byte false text) (units_of_parts (whole_digits text) (fraction text) decimals) (pos n) (printed_read n decimals narrow))

-- so it stands in a table as it is
printed-field : (n decimals : ℕ) → n < too_wide → field_text (units_text n decimals) ≡ units_text n decimals
printed-field n decimals narrow = rw (printed-plain n decimals narrow) refl

short-back : (n decimals : ℕ) → 0 < decimals → decimals ≤ 13 → length (padded_digits decimals (n % 10 ^ decimals)) ≤ 13
short-back n decimals some few =
    let rest = n % 10 ^ decimals in
    let below : rest < 10 ^ decimals = mod_below n (10 ^ decimals) (one-le-pow decimals 10 (omega arith)) in
    let most : 10 ^ decimals ≤ 10 ^ 13 = pow-le-pow_right (omega arith) few in
    let digits : length (decimal rest) ≤ decimals = length-decimal-le_wide decimals rest some below (omega (arith, below, most)) in
    omega (arith, length-append (replicate (decimals - length (decimal rest)) 48) (decimal rest), length-replicate {A = ℕ} (decimals - length (decimal rest)) 48, digits, few)

-- it is short
printed-short : (n decimals : ℕ) → n < too_wide → decimals ≤ 13 → length (units_text n decimals) < 60
printed-short n decimals narrow few =
    elim (decimals == 0) as (λ b. (decimals == 0) ≡ b → length (if b then decimal n else decimal (n / 10 ^ decimals) ++ 46 ∷ padded_digits decimals (n % 10 ^ decimals)) < 60) [
      | true ↦ λ is. let one : length (decimal n) ≤ 37 = length-decimal-le_wide 37 n (omega arith) narrow (omega (arith, narrow)) in omega (arith, one)
      | false ↦ λ is.
          let some : 0 < decimals = grind (arith, is) in
          let front = n / 10 ^ decimals in
          let below : front ≤ n = div-le_self n (10 ^ decimals) in
          let one : length (decimal front) ≤ 37 = length-decimal-le_wide 37 front (omega arith) (omega (arith, below, narrow)) (omega (arith, below, narrow)) in
          omega (arith, one, short-back n decimals some few, length-append (decimal front) (46 ∷ padded_digits decimals (n % 10 ^ decimals)))
    ] refl

no-feed : (b : ℕ) (rest : Bool) → (is_special b || rest) ≡ false → is_line_feed b ≡ false
no-feed b rest h = grind (arith, h)

plain-after : (a b : Bool) → (a || b) ≡ false → b ≡ false
plain-after true b h = absurd cc
plain-after false b h = h

one-taken : (n b : ℕ) (bytes : List ℕ) → take (1 + n) (b ∷ bytes) ≡ b ∷ take n bytes
one-taken n b bytes = let next : 1 + n ≡ suc n = omega arith in ap (λ (k : ℕ). take k (b ∷ bytes)) next

-- it is what stands before the LF of its line
before-feed : (text rest : List ℕ) (most : ℕ) → length text < most → list_any is_special text ≡ false → before_first is_line_feed (take most (text ++ 10 ∷ rest)) ≡ text
before-feed [] rest zero short plain = absurd (omega (arith, short))
before-feed [] rest (suc most) short plain = refl
before-feed (b ∷ text) rest zero short plain = absurd (omega (arith, short))
before-feed (b ∷ text) rest (suc most) short plain =
    rw (no-feed b (list_any is_special text) plain)
    (one-taken (position_or_len is_line_feed (take most (text ++ 10 ∷ rest))) b (take most (text ++ 10 ∷ rest)) ∙ ap (λ (bytes : List ℕ). b ∷ bytes) (before-feed text rest most (omega (arith, short)) (plain-after (is_special b) (list_any is_special text) plain)))

-- ---- the line of a number

number-line : (form : Template) (place rest : List ℕ) (n : ℕ) → n < too_wide
    → line_showing form place (Some (pos n)) ++ rest ≡ fields_before (codes_of_place (trees_of form.book.trees form.table) place) ++ (units_text n form.decimals ++ 10 ∷ rest)
number-line form place rest n narrow =
    let codes = codes_of_place (trees_of form.book.trees form.table) place in
    let text = units_text n form.decimals in
    ap (λ (line : List ℕ). line ++ rest) (line-last codes text ∙ ap (λ (field : List ℕ). fields_before codes ++ (field ++ 10 ∷ [])) (printed-field n form.decimals narrow))
    ∙ append_assoc (fields_before codes) (text ++ 10 ∷ []) rest
    ∙ ap (λ (end : List ℕ). fields_before codes ++ end) (append_assoc text (10 ∷ []) rest)

hidden-length : (form : Template) (place : List ℕ) → length (line_showing form place None) - 2 ≡ length (fields_before (codes_of_place (trees_of form.book.trees form.table) place))
hidden-length form place =
    let codes = codes_of_place (trees_of form.book.trees form.table) place in
    let line : length (line_showing form place None) ≡ length (fields_before codes ++ (120 ∷ 10 ∷ [])) = ap (λ (bytes : List ℕ). length bytes) (line-last codes (120 ∷ [])) in
    omega (arith, line, length-append (fields_before codes) (120 ∷ 10 ∷ []))

-- the number is read where it stands
number-read : (form : Template) (place rest : List ℕ) (n : ℕ) → n < too_wide → form.decimals ≤ 13 → number_there form place (line_showing form place (Some (pos n)) ++ rest) ≡ Some (pos n)
number-read form place rest n narrow few =
    let front = fields_before (codes_of_place (trees_of form.book.trees form.table) place) in
    let text = units_text n form.decimals in
    let read : List ℕ → Option ℤ = λ bytes. value_read (read_units (before_first is_line_feed (take 60 bytes)) form.decimals) in
    ap (λ (at : ℕ). read (drop at (line_showing form place (Some (pos n)) ++ rest))) (hidden-length form place)
    ∙ ap (λ (bytes : List ℕ). read (drop (length front) bytes)) (number-line form place rest n narrow)
    ∙ ap read (drop-append_seam front (text ++ 10 ∷ rest))
    ∙ ap (λ (bytes : List ℕ). value_read (read_units bytes form.decimals)) (before-feed text rest 60 (printed-short n form.decimals narrow few) (printed-plain n form.decimals narrow))
    ∙ ap value_read (printed_read n form.decimals narrow)

fits-self : (form : Template) (place rest : List ℕ) (value : Option ℤ) → choice_there form place (line_showing form place value ++ rest) value ≡ Some (value, rest)
fits-self form place rest value = ap (λ (r : Option (List ℕ)). option_map (λ left. (value, left)) r) (behind-self (line_showing form place value) rest)

-- ---- the numbers of a release

released-at : (numbers : List ℤ) (cell : ℕ) → IsReleased numbers → cell < length numbers → (n : ℕ) × (slice_get numbers cell ≡ Some (pos n)) × (n < too_wide)
released-at [] cell released within = absurd (omega (arith, within))
released-at (number ∷ numbers) zero released within = (released.0.0, ap Some released.0.1, released.0.2)
released-at (number ∷ numbers) (suc cell) released within = released-at numbers cell released.1 (omega (arith, within))

-- a new cell's number is read
numbers-new : (book : BookView) (decimals : ℕ) (numbers : List ℤ) → decimals ≤ 13 → IsReleased numbers → length numbers ≡ length (cells_in book) → ReadsNew book decimals true (slice_get numbers)
numbers-new book decimals numbers few released many t table place rest cell within =
    let form : Template = record { book = book; t = t; table = table; decimals = decimals; rounded = true } in
    let it = released-at numbers cell released (omega (arith, within, many)) in
    subst (λ (value : Option ℤ). new_value form place (line_showing form place value ++ rest) cell ≡ Some (value, rest)) (sym it.1)
    (ap (λ (o : Option ℤ). option_and_then (λ number. choice_there form place (line_showing form place (Some (pos it.0)) ++ rest) (Some number)) o) (number-read form place rest it.0 it.2 few) ∙ fits-self form place rest (Some (pos it.0)))

each-number : (f : ℕ → Option ℤ) (numbers : List ℤ) (a : ℕ) → ((k : ℕ) → k < length numbers → f (a + k) ≡ slice_get numbers k) → shown_numbers (map f (range_with_len a (length numbers))) ≡ numbers
each-number f [] a same = refl
each-number f (number ∷ numbers) a same =
    let first : f a ≡ Some number = ap f (omega arith) ∙ same 0 (omega arith) in
    ap (λ (value : Option ℤ). unwrap_or value (pos 0) ∷ shown_numbers (map f (range_with_len (a + 1) (length numbers)))) first
    ∙ ap (λ (rest : List ℤ). number ∷ rest) (each-number f numbers (a + 1) (λ k within. ap f (omega arith) ∙ same (suc k) (omega (arith, within))))

pub rounded-are-read-back : RoundedAreReadBack
rounded-are-read-back book names decimals files numbers one_each whole_digits few released texts =
    let many : length numbers ≡ length (cells_in book) = whole_digits ∙ one_each in
    ap (map_ok shown_numbers) (release-read book decimals true (slice_get numbers) names files (numbers-new book decimals numbers few released many) texts)
    ∙ ap (λ (n : ℕ). Ok (shown_numbers (first_shown (slice_get numbers) n))) (sym many)
    ∙ ap Ok (each-number (slice_get numbers) numbers 0 (λ k within. ap (slice_get numbers) (omega arith)))
