-- Bytes that begin with a line, and bytes that don't.
use Rattle.std.proofs.Common.{◌≡◌, ◌≢◌, ℕ, zero, suc, ◌+◌, ◌<◌, ◌==◌, ◌/◌, ◌%◌, ◌^◌, Bool, true, false, cond, List, [], ◌∷◌, ◌++◌, length, map, take, drop, bytes_eq, Option, None, Some, arith, refl, ap, sym, ◌∙◌, append_assoc, if◌then◌else◌}
use Rattle.std.specs.Prelude.{decimal, unsigned_abs, ℤ}
use Rattle.std.specs.List.{join_with_byte, list_any}
use Rattle.std.specs.Fmt.{digits, digits_onto, digit_glyph}
use Rattle.std.proofs.Math.Seq.{take-append_seam, drop-append_seam}
use Rattle.std.proofs.lemmas.Nat.{mod_below}
use Rattle.std.proofs.lemmas.Bool.Decides.{nat_tests}
use Rattle.std.proofs.lemmas.Slice.Eq.{bytes_eq-Decides}
use Rattle.sdc_base.specs.Numbers.{units_text, padded_digits}
use Rattle.sdc_base.specs.TableText.{comma, quote, field_text, line_text, is_special, quotes_doubled, shown_text}
use Rattle.release_writer.specs.LineChoices.{rest_behind}

bytes-same : (xs : List ℕ) → bytes_eq xs xs ≡ true
bytes-same xs = (bytes_eq-Decides xs xs).1 refl

-- behind a line with which bytes begin the rest is left
pub behind-self : (line rest : List ℕ) → rest_behind line (line ++ rest) ≡ Some rest
behind-self line rest = rw (take-append_seam line rest, drop-append_seam line rest, bytes-same line) refl

-- what both have in front says nothing
pub behind-alike : (front line bytes : List ℕ) → rest_behind line bytes ≡ None → rest_behind (front ++ line) (front ++ bytes) ≡ None
behind-alike [] line bytes h = h
behind-alike (b ∷ front) line bytes h =
    let same : (b == b) ≡ true = grind (arith, nat_tests) in
    rw same (behind-alike front line bytes h)

-- the bytes begin with one below `d`, so with no letter behind it
abbrev pub BeginsLow : List ℕ → Type 0
BeginsLow [] = 100 < 100
BeginsLow (b ∷ bytes) = b < 100

pub behind-low : (text end : List ℕ) (bytes : List ℕ) → BeginsLow text → rest_behind (text ++ end) (120 ∷ bytes) ≡ None
behind-low [] end bytes low = absurd (omega (arith, low))
behind-low (b ∷ text) end bytes low =
    let other : (120 == b) ≡ false = grind (arith, nat_tests, low) in
    rw other refl

glyph-low : (n : ℕ) → digit_glyph false (n % 10) < 100
glyph-low n = let small : n % 10 < 10 = mod_below n 10 (omega arith) in grind (arith, nat_tests, small)

onto-low : (k n : ℕ) (acc : List ℕ) → BeginsLow acc → BeginsLow (digits_onto k 10 false n acc)
onto-low zero n acc low = low
onto-low (suc k) n acc low =
    let more : List ℕ = digit_glyph false (n % 10) ∷ acc in
    elim (n / 10 == 0) as (λ b. BeginsLow (if b then more else digits_onto k 10 false (n / 10) more)) [ true ↦ glyph-low n | false ↦ onto-low k (n / 10) more (glyph-low n) ]

first-low : (k n : ℕ) → BeginsLow (digits_onto (suc k) 10 false n [])
first-low k n =
    let one : List ℕ = digit_glyph false (n % 10) ∷ [] in
    elim (n / 10 == 0) as (λ b. BeginsLow (if b then one else digits_onto k 10 false (n / 10) one)) [ true ↦ glyph-low n | false ↦ onto-low k (n / 10) one (glyph-low n) ]

decimal-low : (n : ℕ) → BeginsLow (decimal n)
unfolding digits
decimal-low n = first-low 63 n

front-low : (xs ys : List ℕ) → BeginsLow xs → BeginsLow (xs ++ ys)
front-low [] ys low = absurd (omega (arith, low))
front-low (b ∷ xs) ys low = low

units-low : (n decimals : ℕ) → BeginsLow (units_text n decimals)
units-low n decimals =
    let back : List ℕ = 46 ∷ padded_digits decimals (n % 10 ^ decimals) in
    let front : List ℕ = decimal (n / 10 ^ decimals) in
    elim (decimals == 0) as (λ b. BeginsLow (if b then decimal n else front ++ back)) [ true ↦ decimal-low n | false ↦ front-low front back (decimal-low (n / 10 ^ decimals)) ]

field-low : (text : List ℕ) → BeginsLow text → BeginsLow (field_text text)
field-low text low = elim (list_any is_special text) as (λ b. BeginsLow (if b then quote ∷ (quotes_doubled text ++ quote ∷ []) else text)) [ true ↦ omega arith | false ↦ low ]

-- the fields before the last one, each with its comma
abbrev pub fields_before : List (List ℕ) → List ℕ
fields_before [] = []
fields_before (field ∷ fields) = field_text field ++ comma ∷ fields_before fields

joined-last : (field : List ℕ) (fields : List (List ℕ)) (last : List ℕ) → join_with_byte comma (map field_text (field ∷ (fields ++ last ∷ []))) ≡ field_text field ++ comma ∷ join_with_byte comma (map field_text (fields ++ last ∷ []))
joined-last field [] last = refl
joined-last field (next ∷ fields) last = refl

fields-last : (fields : List (List ℕ)) (last : List ℕ) → join_with_byte comma (map field_text (fields ++ last ∷ [])) ≡ fields_before fields ++ field_text last
fields-last [] last = refl
fields-last (field ∷ fields) last =
    joined-last field fields last
    ∙ ap (λ t. field_text field ++ comma ∷ t) (fields-last fields last)
    ∙ sym (append_assoc (field_text field) (comma ∷ fields_before fields) (field_text last))

-- a line is what stands before its last field, that field, and LF
pub line-last : (fields : List (List ℕ)) (last : List ℕ) → line_text (fields ++ last ∷ []) ≡ fields_before fields ++ (field_text last ++ 10 ∷ [])
line-last fields last = ap (λ t. t ++ 10 ∷ []) (fields-last fields last) ∙ append_assoc (fields_before fields) (field_text last) (10 ∷ [])

-- the line of a hidden cell isn't that of a number
pub crossed-differs : (codes : List (List ℕ)) (decimals : ℕ) (number : ℤ) (rest : List ℕ) → rest_behind (line_text (codes ++ shown_text decimals (Some number) ∷ [])) (line_text (codes ++ shown_text decimals None ∷ []) ++ rest) ≡ None
crossed-differs codes decimals number rest =
    let text : List ℕ = units_text (unsigned_abs number) decimals in
    ap (λ l. rest_behind l (line_text (codes ++ shown_text decimals None ∷ []) ++ rest)) (line-last codes text)
    ∙ ap (λ b. rest_behind (fields_before codes ++ (field_text text ++ 10 ∷ [])) (b ++ rest)) (line-last codes (120 ∷ []))
    ∙ ap (λ b. rest_behind (fields_before codes ++ (field_text text ++ 10 ∷ [])) b) (append_assoc (fields_before codes) (120 ∷ 10 ∷ []) rest)
    ∙ behind-alike (fields_before codes) (field_text text ++ 10 ∷ []) (120 ∷ 10 ∷ rest) (behind-low (field_text text) (10 ∷ []) (10 ∷ rest) (field-low text (units-low (unsigned_abs number) decimals)))
