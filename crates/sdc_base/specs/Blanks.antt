-- Blanks, and bytes without the blanks at both ends (own).
use Rattle.std.specs.Prelude.{◌≡◌, ℕ, ◌-◌, Bool, true, false, List, [], ◌∷◌, ◌++◌, length, take, drop, ◌==◌, ◌||◌, not}
use Rattle.std.specs.List.{list_all, position_or_len, suffix_len}

-- a blank is a space or a tab; a form feed or a CR is none
abbrev pub is_blank : ℕ → Bool
is_blank b = (b == 32) || (b == 9)

-- a byte that is no blank
abbrev pub is_dark : ℕ → Bool
is_dark b = not (is_blank b)

-- without the blanks before the first dark byte
abbrev pub trim_front : List ℕ → List ℕ
trim_front bytes = drop (position_or_len is_dark bytes) bytes

-- without the blanks behind the last dark byte
abbrev pub trim_back : List ℕ → List ℕ
trim_back bytes = take (length bytes - suffix_len is_blank bytes) bytes

-- without the blanks at both ends
abbrev pub trim : List ℕ → List ℕ
trim bytes = trim_back (trim_front bytes)

-- The bytes are blanks, the text and blanks again, and the text neither begins nor ends with a blank.
pub record IsTrimmed (bytes text : List ℕ) : Type 0 where
  pub before : List ℕ
  pub behind : List ℕ
  pub cut : bytes ≡ before ++ text ++ behind
  pub blanks_before : list_all is_blank before ≡ true
  pub blanks_behind : list_all is_blank behind ≡ true
  pub dark_first : (b : ℕ) (rest : List ℕ) → text ≡ b ∷ rest → is_blank b ≡ false
  pub dark_last : (rest : List ℕ) (b : ℕ) → text ≡ rest ++ b ∷ [] → is_blank b ≡ false
