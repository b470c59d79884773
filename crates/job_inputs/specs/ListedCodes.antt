-- What the codes of a code list are, for the field that takes them (own).
use Rattle.std.specs.Prelude.{ℕ, ◌≤◌, List, ◌∷◌, length}
use Rattle.std.specs.List.{IsDistinct}
use Rattle.std.specs.Str.{bytes_eq}

-- the total and the codes are distinct, and there are at most 5,000 codes
pub record AreListed (total : List ℕ) (codes : List (List ℕ)) : Type 0 where
  pub distinct : IsDistinct bytes_eq (total ∷ codes)
  pub at_most_5000 : length codes ≤ 5000
