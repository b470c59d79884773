-- Numbers and keyword lines that were spelled are read again.
use Rattle.std.proofs.Common.{◌≡◌, ◌==◌, ℕ, ◌<◌, ◌≤◌, ◌^◌, true, false, List, [], ◌∷◌, ◌++◌, length, Some, Ok, refl, ap, ◌∙◌, arith, nat_lt, nat_le, decimal}
use Rattle.std.specs.Char.{is_ascii_digit, digit_value}
use Rattle.std.specs.List.{list_any, after_first}
use Rattle.std.specs.Str.{all_ascii_digits}
use Rattle.std.specs.Str.Parse.{AllDigits}
use Rattle.std.proofs.lemmas.Fmt.{decimal_is_IsNumeral_wide}
use Rattle.rda_meta.specs.declared.setting.Keyword.{Keyword}
use Rattle.rda_meta.specs.declared.setting.Keyword.TheVariants.{Recodeable, Recodable, Numeric, Decimals, Weight, CodeList, Hierarchical, HierLevels, HierCodeList, HierLeadString, TotCode, Request, Holding, Distance}
use Rattle.rda_meta.specs.declared.setting.Setting.{Setting}
use Rattle.rda_meta.specs.declared.entry.Entry.{Entry}
use Rattle.rda_meta.specs.Words.{words}
use Rattle.sdc_base.specs.Tokens.{is_quote, is_close}
use Rattle.sdc_base.specs.Tokens.{number_in}
use Rattle.rda_meta.specs.KeywordLines.{keyword_in, last_of, is_again, setting_in}
use Rattle.rda_meta.specs.Keywords.{keyword_of}
use Rattle.rda_meta.specs.Arguments.{argument_of}
use Rattle.rda_meta.specs.Spelling.{words_behind_spaces, name_of, argument_words, setting_text}
use Rattle.rda_meta.specs.CanonicalMetadata.{IsPlain, ArePlain}
use Rattle.rda_meta.proofs.Spelled.{words_spaced, after-stop}

digit-of-value : (c : ℕ) → digit_value c < 10 → is_ascii_digit c ≡ true
digit-of-value c h = grind arith

all-ascii : (ds : List ℕ) → AllDigits 10 ds → all_ascii_digits ds ≡ true
all-ascii [] h = refl
all-ascii (d ∷ ds) h = rw (digit-of-value d h.0) (all-ascii ds h.1)

digit-plain : (d : ℕ) → is_ascii_digit d ≡ true → is_quote d ≡ false
digit-plain d h = grind arith

digits-plain : (ds : List ℕ) → AllDigits 10 ds → list_any is_quote ds ≡ false
digits-plain [] h = refl
digits-plain (d ∷ ds) h = rw (digit-plain d (digit-of-value d h.0), digits-plain ds h.1) refl

pub decimal_plain : (n : ℕ) → n < 10 ^ 64 → IsPlain (decimal n)
decimal_plain n h = digits-plain (decimal n) (decimal_is_IsNumeral_wide n h).0.1

below-is : (m n : ℕ) → m < n → nat_lt m n ≡ true
below-is m n h = grind arith

within-is : (m n : ℕ) → m ≤ n → nat_le m n ≡ true
within-is m n h = grind arith

not-zero : (n : ℕ) → 0 < n → (n == 0) ≡ false
not-zero n h = grind arith

-- a number that was spelled is read again
pub number_spelled : (low high n : ℕ) → low ≤ n → n ≤ high → high < 2 ^ 16 → number_in low high (decimal n) ≡ Some n
number_spelled low high n above within small =
    let numeral = decimal_is_IsNumeral_wide n (omega arith) in
    rw (not-zero (length (decimal n)) numeral.0.0, all-ascii (decimal n) numeral.0.1, numeral.1, within-is low n above, within-is n high within) refl

keyword-spelled : (k : Keyword) (rest : List ℕ) → keyword_in (name_of k ++ 62 ∷ rest) ≡ Ok k
unfolding keyword_in keyword_of
keyword-spelled Recodeable rest = refl
keyword-spelled Recodable rest = refl
keyword-spelled Numeric rest = refl
keyword-spelled Decimals rest = refl
keyword-spelled Weight rest = refl
keyword-spelled CodeList rest = refl
keyword-spelled Hierarchical rest = refl
keyword-spelled HierLevels rest = refl
keyword-spelled HierCodeList rest = refl
keyword-spelled HierLeadString rest = refl
keyword-spelled TotCode rest = refl
keyword-spelled Request rest = refl
keyword-spelled Holding rest = refl
keyword-spelled Distance rest = refl

open-name : (k : Keyword) → list_any is_close (name_of k) ≡ false
open-name Recodeable = refl
open-name Recodable = refl
open-name Numeric = refl
open-name Decimals = refl
open-name Weight = refl
open-name CodeList = refl
open-name Hierarchical = refl
open-name HierLevels = refl
open-name HierCodeList = refl
open-name HierLeadString = refl
open-name TotCode = refl
open-name Request = refl
open-name Holding = refl
open-name Distance = refl

-- a keyword line that was spelled is read again
pub setting_spelled : (entries : List Entry) (entry : Entry) (s : Setting) → last_of entries ≡ Some entry → is_again s.keyword entry entries ≡ false
    → ArePlain (argument_words s.argument) → argument_of s.keyword entry.width (argument_words s.argument) ≡ Ok s.argument → setting_in entries (setting_text s) ≡ Ok s
unfolding setting_in
setting_spelled entries entry s last first plain fits =
    let behind : words (after_first is_close (setting_text s)) ≡ argument_words s.argument = ap words (after-stop is_close (name_of s.keyword) 62 (words_behind_spaces (argument_words s.argument)) (open-name s.keyword) refl) ∙ words_spaced (argument_words s.argument) plain in
    rw (keyword-spelled s.keyword (words_behind_spaces (argument_words s.argument)), last, behind, fits, first) refl
