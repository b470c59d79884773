-- The line in which two texts differ, by the lines that they have (own).
use Rattle.std.specs.Prelude.{◌≡◌, ℕ, ◌==◌, List, [], ◌∷◌, if◌then◌else◌}
use Rattle.sdc_base.specs.Lines.{with_front}
use Rattle.cert_check.specs.FirstDifference.{first_difference, same_numbers}
use Rattle.cert_check.specs.ReleaseLines.{differing_line}

-- the lines of a text, each with the LF that ends it; what stands behind the last LF is a line too, where there is
-- something
abbrev pub ended_lines : List ℕ → List (List ℕ)
ended_lines [] = []
ended_lines (b ∷ bytes) = if b == 10 then (10 ∷ []) ∷ ended_lines bytes else with_front b (ended_lines bytes)

-- the line in which two texts first differ is the first place in which their lines differ, a missing or a further line
-- included
abbrev pub LinesDiffer : Type 0
LinesDiffer =
    (first : ℕ) (one other : List ℕ) → differing_line first one other
    ≡ first_difference same_numbers first (ended_lines one) (ended_lines other)
