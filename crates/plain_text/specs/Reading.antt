-- What contracts see of a reader of lines (own).
use Rattle.std.specs.Prelude.{ℕ, List}

-- the bytes that are left, and how many lines were given
pub record LinesView : Type 0 where
  pub rest : List ℕ
  pub given : ℕ
