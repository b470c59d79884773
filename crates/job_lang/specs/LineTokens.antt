-- The tokens of an argument: words in double quotes, the marks | , ( ) and runs of other bytes. Blanks between tokens
-- are free (tau-ARGUS user manual; the exact tokens own).
use Rattle.std.specs.Prelude.{ℕ, Bool, false, not, ◌==◌, ◌||◌, List, [], ◌∷◌, length, drop, Result, Ok}
use Rattle.std.specs.List.{list_any, before_first, after_first, position_or_len}
use Rattle.sdc_base.specs.Blanks.{is_blank, trim}
use Rattle.sdc_base.specs.Steps.{◌>>=◌, or_fault, refuse}
use Rattle.sdc_base.specs.Tokens.{is_quote, is_number, number_in}
use Rattle.job_lang.specs.declared.faults.JobWhy.{JobWhy}
use Rattle.job_lang.specs.declared.faults.JobWhy.TheVariants.{BadValue}

-- a byte is |
abbrev pub is_bar : ℕ → Bool
is_bar b = b == 124

-- a byte at which a run ends: a blank, a quote or a mark
abbrev pub is_break : ℕ → Bool
is_break b = is_blank b || is_quote b || is_bar b || (b == 44) || (b == 40) || (b == 41)

-- the bytes begin with this one
abbrev pub begins_with : ℕ → List ℕ → Bool
begins_with mark [] = false
begins_with mark (b ∷ bytes) = b == mark

-- the next token begins with this byte
abbrev pub is_next : ℕ → List ℕ → Bool
is_next mark text = begins_with mark (trim text)

-- this mark is the next token; what stands behind it
unfoldable pub behind_mark : ℕ → List ℕ → Result (List ℕ) JobWhy
behind_mark mark text = do
  there ← refuse BadValue (not (is_next mark text))
  Ok (drop 1 (trim text))

-- a word in quotes is the next token; it, and what stands behind it
unfoldable pub quoted_at : List ℕ → Result (List ℕ × List ℕ) JobWhy
quoted_at text = do
  inside ← behind_mark 34 text
  closing_token ← refuse BadValue (not (list_any is_quote inside))
  Ok (before_first is_quote inside, after_first is_quote inside)

-- the run that is the next token, without a byte where that is none
abbrev pub run_of : List ℕ → List ℕ
run_of text = before_first is_break (trim text)

-- what stands behind that run
abbrev pub behind_run : List ℕ → List ℕ
behind_run text = drop (position_or_len is_break (trim text)) (trim text)

-- a whole number in these bounds is the next token; it, and what stands behind it
unfoldable pub number_at : ℕ → ℕ → List ℕ → Result (ℕ × List ℕ) JobWhy
number_at low high text = do
  number ← or_fault BadValue (number_in low high (run_of text))
  Ok (number, behind_run text)

-- digits without the zeros in front
abbrev pub without_zeros : List ℕ → List ℕ
without_zeros digits = drop (position_or_len (λ b. not (b == 48)) digits) digits

-- a whole number of any size is the next token; its digits without zeros in front, and what stands behind it
unfoldable pub digits_at : List ℕ → Result (List ℕ × List ℕ) JobWhy
digits_at text = do
  digits ← refuse BadValue (not (is_number (run_of text)))
  Ok (without_zeros (run_of text), behind_run text)

-- there is no further token
unfoldable pub end_of_tokens : List ℕ → Result (Unit {0}) JobWhy
end_of_tokens text = refuse BadValue (not (length (trim text) == 0))

-- a ) is the last token
unfoldable pub closing_token : List ℕ → Result (Unit {0}) JobWhy
closing_token text = do
  behind ← behind_mark 41 text
  end_of_tokens behind
