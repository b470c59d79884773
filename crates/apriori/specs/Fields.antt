-- The fields of a line, between the bytes that separate them (own).
use Rattle.std.specs.Prelude.{ℕ, ◌==◌, Bool, List, [], ◌∷◌, map, if◌then◌else◌}
use Rattle.sdc_base.specs.Blanks.{trim}
use Rattle.sdc_base.specs.Lines.{with_front}

-- What stands before the first separator, between two and behind the last one; without one, the whole text.
abbrev pub pieces : ℕ → List ℕ → List (List ℕ)
pieces separator [] = [] ∷ []
pieces separator (b ∷ text) = if b == separator then [] ∷ pieces separator text
    else with_front b (pieces separator text)

-- a field has no blanks at its ends
abbrev pub fields : ℕ → List ℕ → List (List ℕ)
fields separator text = map trim (pieces separator text)

-- the fields that are left of a text, unless all were given
abbrev pub fields_left : Bool → ℕ → List ℕ → List (List ℕ)
fields_left over separator text = if over then [] else fields separator text
