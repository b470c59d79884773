-- The pieces of a text between its bars (own).
use Rattle.std.specs.Prelude.{ℕ, Bool, List, [], ◌∷◌, if◌then◌else◌}
use Rattle.sdc_base.specs.Lines.{with_front}
use Rattle.job_lang.specs.LineTokens.{is_bar}

-- What stands before the first bar, between two bars and behind the last one; without a bar, the whole text.
abbrev pub pieces : List ℕ → List (List ℕ)
pieces [] = [] ∷ []
pieces (b ∷ text) = if is_bar b then [] ∷ pieces text else with_front b (pieces text)

-- the pieces that are left of a text, unless all were given
abbrev pub pieces_left : Bool → List ℕ → List (List ℕ)
pieces_left over text = if over then [] else pieces text
