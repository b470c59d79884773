-- Tokens that were spelled are read again.
use Rattle.std.proofs.Common.{◌≡◌, ℕ, suc, ◌+◌, ◌-◌, ◌<◌, ◌≤◌, ◌^◌, ◌==◌, ◌||◌, Bool, true, false, List, [], ◌∷◌, ◌++◌, length, drop, Some, Ok, refl, ap, sym, ◌∙◌, arith, append_assoc, decimal, nat_le}
use Rattle.std.specs.Char.{is_ascii_digit, digit_value}
use Rattle.std.specs.List.{list_any, position_or_len, suffix_len, before_first, after_first}
use Rattle.std.specs.Str.{all_ascii_digits}
use Rattle.std.specs.Str.Parse.{AllDigits}
use Rattle.std.proofs.lemmas.Fmt.{decimal_is_IsNumeral_wide}
use Rattle.std.proofs.lemmas.List.{take_at, drop_at, drop_all, take_all, length-append, reverse-append}
use Rattle.std.proofs.lemmas.List.Folds.{list_any-append}
use Rattle.sdc_base.specs.Blanks.{is_blank, is_dark, trim, trim_front, trim_back}
use Rattle.sdc_base.specs.Tokens.{is_quote, number_in, in_quotes}
use Rattle.job_lang.specs.LineTokens.{is_break, behind_mark, quoted_at, run_of, behind_run, number_at}

pub or_left : (a b : Bool) → (a || b) ≡ false → a ≡ false
or_left true b h = h
or_left false b h = refl

pub or_right : (a b : Bool) → (a || b) ≡ false → b ≡ false
or_right true b h = absurd cc
or_right false b h = h

-- ---- up to the first that passes

pub stops_at : (p : ℕ → Bool) (w : List ℕ) (b : ℕ) (rest : List ℕ) → list_any p w ≡ false → p b ≡ true → position_or_len p (w ++ b ∷ rest) ≡ length w
stops_at p [] b rest none here = rw here refl
stops_at p (x ∷ w) b rest none here = rw (or_left (p x) (list_any p w) none, stops_at p w b rest (or_right (p x) (list_any p w) none) here) (omega arith)

runs_through : (p : ℕ → Bool) (w : List ℕ) → list_any p w ≡ false → position_or_len p w ≡ length w
runs_through p [] none = refl
runs_through p (x ∷ w) none = rw (or_left (p x) (list_any p w) none, runs_through p w (or_right (p x) (list_any p w) none)) (omega arith)

before_stop : (p : ℕ → Bool) (w : List ℕ) (b : ℕ) (rest : List ℕ) → list_any p w ≡ false → p b ≡ true → before_first p (w ++ b ∷ rest) ≡ w
before_stop p w b rest none here = take_at w (b ∷ rest) (position_or_len p (w ++ b ∷ rest)) (sym (stops_at p w b rest none here))

from_stop : (p : ℕ → Bool) (w : List ℕ) (b : ℕ) (rest : List ℕ) → list_any p w ≡ false → p b ≡ true → drop (position_or_len p (w ++ b ∷ rest)) (w ++ b ∷ rest) ≡ b ∷ rest
from_stop p w b rest none here = drop_at w (b ∷ rest) (position_or_len p (w ++ b ∷ rest)) (sym (stops_at p w b rest none here))

after_stop : (p : ℕ → Bool) (w : List ℕ) (b : ℕ) (rest : List ℕ) → list_any p w ≡ false → p b ≡ true → after_first p (w ++ b ∷ rest) ≡ rest
after_stop p w b rest none here =
    let longer : (w ++ b ∷ []) ++ rest ≡ w ++ b ∷ rest = append_assoc w (b ∷ []) rest in
    let long : length (w ++ b ∷ []) ≡ position_or_len p (w ++ b ∷ rest) + 1 = omega (arith, stops_at p w b rest none here, length-append w (b ∷ [])) in
    ap (drop (position_or_len p (w ++ b ∷ rest) + 1)) (sym longer) ∙ drop_at (w ++ b ∷ []) rest (position_or_len p (w ++ b ∷ rest) + 1) long

-- ---- texts without blanks at their ends

-- no blank at the end
abbrev pub EndsDark : List ℕ → Type 0
EndsDark text = suffix_len is_blank text ≡ 0

last_dark : (front : List ℕ) (last : ℕ) → is_blank last ≡ false → EndsDark (front ++ last ∷ [])
last_dark front last dark = rw (reverse-append front (last ∷ []), dark) refl

-- it ends with a byte that is neither a blank nor CR
abbrev pub IsEnded : List ℕ → Type 0
IsEnded text = (front : List ℕ) × (last : ℕ) × (text ≡ front ++ last ∷ []) × (is_blank last ≡ false) × ((last == 13) ≡ false)

pub ended_behind : (front : List ℕ) (text : List ℕ) → IsEnded text → IsEnded (front ++ text)
ended_behind front text h = (front ++ h.0, h.1, ap (λ (x : List ℕ). front ++ x) h.2 ∙ sym (append_assoc front h.0 (h.1 ∷ [])), h.3, h.4)

pub ended_more : (b : ℕ) (text : List ℕ) → IsEnded text → IsEnded (b ∷ text)
ended_more b text h = ended_behind (b ∷ []) text h

pub ended_with : (b : ℕ) → is_blank b ≡ false → (b == 13) ≡ false → IsEnded (b ∷ [])
ended_with b dark no_return = ([], b, refl, dark, no_return)

back_dark : (text : List ℕ) → IsEnded text → trim_back text ≡ text
back_dark text h =
    let none : suffix_len is_blank text ≡ 0 = rw h.2 (last_dark h.0 h.1 h.3) in
    rw none (take_all (length text - 0) text (omega arith))

pub trim_dark : (b : ℕ) (text : List ℕ) → is_blank b ≡ false → IsEnded (b ∷ text) → trim (b ∷ text) ≡ b ∷ text
trim_dark b text dark ends =
    let front : trim_front (b ∷ text) ≡ b ∷ text = rw dark refl in
    ap trim_back front ∙ back_dark (b ∷ text) ends

pub trim_space : (text : List ℕ) → trim (32 ∷ text) ≡ trim text
trim_space text =
    let far : 1 + position_or_len is_dark text ≡ suc (position_or_len is_dark text) = omega arith in
    ap trim_back (ap (λ n. drop n (32 ∷ text)) far)

-- ---- marks and names

quoted_from : (text inside name rest : List ℕ) → trim text ≡ 34 ∷ inside → inside ≡ name ++ 34 ∷ rest → list_any is_quote name ≡ false → quoted_at text ≡ Ok (name, rest)
unfolding quoted_at behind_mark
quoted_from text inside name rest clean is plain =
    let there : list_any is_quote inside ≡ true = rw (is, list_any-append is_quote name (34 ∷ rest), plain) refl in
    let before : before_first is_quote inside ≡ name = ap (before_first is_quote) is ∙ before_stop is_quote name 34 rest plain refl in
    let after : after_first is_quote inside ≡ rest = ap (after_first is_quote) is ∙ after_stop is_quote name 34 rest plain refl in
    rw (clean, there, before, after) refl

pub quoted_clean : (name rest : List ℕ) → IsEnded (34 ∷ rest) → trim (in_quotes name ++ rest) ≡ 34 ∷ (name ++ 34 ∷ rest)
quoted_clean name rest ends =
    let text : in_quotes name ++ rest ≡ 34 ∷ (name ++ 34 ∷ rest) = ap (λ (x : List ℕ). 34 ∷ x) (append_assoc name (34 ∷ []) rest) in
    ap trim text ∙ trim_dark 34 (name ++ 34 ∷ rest) refl (ended_behind (34 ∷ name) (34 ∷ rest) ends)

pub quoted_read : (name rest : List ℕ) → list_any is_quote name ≡ false → IsEnded (34 ∷ rest) → quoted_at (in_quotes name ++ rest) ≡ Ok (name, rest)
quoted_read name rest plain ends =
    quoted_from (in_quotes name ++ rest) (name ++ 34 ∷ rest) name rest (quoted_clean name rest ends) refl plain

pub mark_read : (mark : ℕ) (rest : List ℕ) → is_blank mark ≡ false → IsEnded (mark ∷ rest) → (mark == mark) ≡ true → behind_mark mark (mark ∷ rest) ≡ Ok rest
unfolding behind_mark
mark_read mark rest dark ends same = rw (trim_dark mark rest dark ends, same) refl

-- ---- runs

break_dark : (b : ℕ) → is_break b ≡ false → is_blank b ≡ false
break_dark b h = grind arith

pub run_read : (b : ℕ) (word : List ℕ) (stop : ℕ) (rest : List ℕ) → list_any is_break (b ∷ word) ≡ false → is_break stop ≡ true → IsEnded (stop ∷ rest)
    → (run_of ((b ∷ word) ++ stop ∷ rest) ≡ b ∷ word) × (behind_run ((b ∷ word) ++ stop ∷ rest) ≡ stop ∷ rest)
run_read b word stop rest whole here ends =
    let clean = trim_dark b (word ++ stop ∷ rest) (break_dark b (or_left (is_break b) (list_any is_break word) whole)) (ended_behind (b ∷ word) (stop ∷ rest) ends) in
    (ap (before_first is_break) clean ∙ before_stop is_break (b ∷ word) stop rest whole here, ap (λ (t : List ℕ). drop (position_or_len is_break t) t) clean ∙ from_stop is_break (b ∷ word) stop rest whole here)

pub last_run : (b : ℕ) (word : List ℕ) → list_any is_break (b ∷ word) ≡ false → IsEnded (b ∷ word) → (run_of (b ∷ word) ≡ b ∷ word) × (behind_run (b ∷ word) ≡ [])
last_run b word whole ends =
    let clean = trim_dark b word (break_dark b (or_left (is_break b) (list_any is_break word) whole)) ends in
    let far = runs_through is_break (b ∷ word) whole in
    (ap (before_first is_break) clean ∙ take_all (position_or_len is_break (b ∷ word)) (b ∷ word) (omega (arith, far)), ap (λ (t : List ℕ). drop (position_or_len is_break t) t) clean ∙ drop_all (position_or_len is_break (b ∷ word)) (b ∷ word) (omega (arith, far)))

-- ---- numbers

pub digit_of_value : (c : ℕ) → digit_value c < 10 → is_ascii_digit c ≡ true
digit_of_value c h = grind arith

all_ascii : (ds : List ℕ) → AllDigits 10 ds → all_ascii_digits ds ≡ true
all_ascii [] h = refl
all_ascii (d ∷ ds) h = rw (digit_of_value d h.0) (all_ascii ds h.1)

digit_whole : (d : ℕ) → is_ascii_digit d ≡ true → is_break d ≡ false
digit_whole d h = grind arith

pub digits_whole : (ds : List ℕ) → AllDigits 10 ds → list_any is_break ds ≡ false
digits_whole [] h = refl
digits_whole (d ∷ ds) h = rw (digit_whole d (digit_of_value d h.0), digits_whole ds h.1) refl

within_is : (m n : ℕ) → m ≤ n → nat_le m n ≡ true
within_is m n h = grind arith

pub not_zero : (n : ℕ) → 0 < n → (n == 0) ≡ false
not_zero n h = grind arith

-- a number that was spelled is read again
pub number_spelled : (low high n : ℕ) → low ≤ n → n ≤ high → high < 10 ^ 18 → number_in low high (decimal n) ≡ Some n
number_spelled low high n above within small =
    let numeral = decimal_is_IsNumeral_wide n (omega arith) in
    rw (not_zero (length (decimal n)) numeral.0.0, all_ascii (decimal n) numeral.0.1, numeral.1, within_is low n above, within_is n high within) refl

-- runs that aren't empty
run_of_digits : (ds : List ℕ) (stop : ℕ) (rest : List ℕ) → 0 < length ds → list_any is_break ds ≡ false → is_break stop ≡ true → IsEnded (stop ∷ rest)
    → (run_of (ds ++ stop ∷ rest) ≡ ds) × (behind_run (ds ++ stop ∷ rest) ≡ stop ∷ rest)
run_of_digits [] stop rest some whole here ends = absurd (omega (arith, some))
run_of_digits (d ∷ ds) stop rest some whole here ends = run_read d ds stop rest whole here ends

last_digits : (ds : List ℕ) → 0 < length ds → list_any is_break ds ≡ false → IsEnded ds → (run_of ds ≡ ds) × (behind_run ds ≡ [])
last_digits [] some whole ends = absurd (omega (arith, some))
last_digits (d ∷ ds) some whole ends = last_run d ds whole ends

digit_ends : (d : ℕ) → is_ascii_digit d ≡ true → (is_blank d ≡ false) × ((d == 13) ≡ false)
digit_ends d h = grind arith

digits_ended : (ds : List ℕ) → 0 < length ds → AllDigits 10 ds → IsEnded ds
digits_ended [] some h = absurd (omega (arith, some))
digits_ended (d ∷ []) some h = let ends = digit_ends d (digit_of_value d h.0) in ended_with d ends.0 ends.1
digits_ended (d ∷ e ∷ ds) some h = ended_more d (e ∷ ds) (digits_ended (e ∷ ds) (omega arith) h.1)

pub decimal_ended : (n : ℕ) → n < 10 ^ 64 → IsEnded (decimal n)
decimal_ended n h = let numeral = decimal_is_IsNumeral_wide n h in digits_ended (decimal n) numeral.0.0 numeral.0.1

pub number_read : (low high n stop : ℕ) (rest : List ℕ) → low ≤ n → n ≤ high → high < 10 ^ 18 → is_break stop ≡ true → IsEnded (stop ∷ rest) → number_at low high (decimal n ++ stop ∷ rest) ≡ Ok (n, stop ∷ rest)
unfolding number_at
number_read low high n stop rest above within small here ends =
    let numeral = decimal_is_IsNumeral_wide n (omega arith) in
    let run = run_of_digits (decimal n) stop rest numeral.0.0 (digits_whole (decimal n) numeral.0.1) here ends in
    rw (run.0, run.1, number_spelled low high n above within small) refl

pub last_number_read : (low high n : ℕ) → low ≤ n → n ≤ high → high < 10 ^ 18 → number_at low high (decimal n) ≡ Ok (n, [])
unfolding number_at
last_number_read low high n above within small =
    let numeral = decimal_is_IsNumeral_wide n (omega arith) in
    let run = last_digits (decimal n) numeral.0.0 (digits_whole (decimal n) numeral.0.1) (decimal_ended n (omega arith)) in
    rw (run.0, run.1, number_spelled low high n above within small) refl
