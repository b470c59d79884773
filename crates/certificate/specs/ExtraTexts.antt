-- The text of extra cells: the contributors' file (own).
use Rattle.std.specs.Prelude.{◌≡◌, ◌≢◌, ◌<◌, ◌≤ℤ◌, ℕ, ◌+◌, true, List, [], ◌∷◌, ◌++◌, map, flat_map, codes, decimal, pos, Ok}
use Rattle.std.specs.Fmt.{signed_decimal}
use Rattle.std.specs.List.{AllByRecursion}
use Rattle.sdc_base.specs.Sides.{side_word}
use Rattle.certificate.specs.declared.certificate.WorldLine.{WorldLine}
use Rattle.certificate.specs.declared.extra.Extra.{Extra}
use Rattle.certificate.specs.declared.extra.ExtraNeed.{ExtraNeed}
use Rattle.certificate.specs.declared.version.Version.TheVariants.{Two}
use Rattle.certificate.specs.Numerals.{greatest_number, ascends}
use Rattle.certificate.specs.Texts.{pair_token, line_text, world_tokens}
use Rattle.certificate.specs.Spelling.{FitsIn32Bits, FitsIn128Bits, IsTermWithinTypes, IsWorldSpellable, IsWorldWithinTypes}
use Rattle.certificate.specs.ExtraReadings.{contributors_line, extra_of}

-- the tokens of the line of the extra cells; there is no such line where there are none
abbrev pub cells_tokens : List ℕ → List (List (List ℕ))
cells_tokens [] = []
cells_tokens (cell ∷ cells) = (codes "extra" ∷ decimal cell ∷ map decimal cells) ∷ []

-- what a need says, its row counted from 1
abbrev pub need_arguments : ExtraNeed → List (List ℕ)
need_arguments need =
    decimal need.subject ∷ decimal (need.row + 1) ∷ decimal need.cell ∷ side_word need.side
    ∷ signed_decimal need.multipliers.den ∷ map pair_token need.multipliers.by_relation

-- the tokens of a need's line
abbrev pub need_tokens : ExtraNeed → List (List ℕ)
need_tokens need = codes "need" ∷ need_arguments need

-- the tokens of its line
abbrev pub guard_tokens : WorldLine → List (List ℕ)
guard_tokens line = world_tokens (codes "guard") Two [] line

-- the tokens of all lines; the first line stands here as one token
abbrev pub extra_tokens : Extra → List (List (List ℕ))
extra_tokens extra =
    (contributors_line ∷ []) ∷ cells_tokens extra.cells
    ++ map need_tokens extra.needs
    ++ map guard_tokens extra.guards
    ++ (codes "end" ∷ []) ∷ []

-- the text of extra cells
abbrev pub extra_text : Extra → List ℕ
extra_text extra = flat_map line_text (extra_tokens extra)

-- the row of a need, from 1, isn't too great; its denominator is from 1 on, its relations ascend, and none counts 0
pub record IsNeedSpellable (need : ExtraNeed) : Type 0 where
  pub row : need.row < greatest_number
  pub den : pos 1 ≤ℤ need.multipliers.den
  pub ascending : ascends (map (λ term. term.0) need.multipliers.by_relation) ≡ true
  pub counting : AllByRecursion (λ term. term.1 ≢ pos 0) need.multipliers.by_relation

-- extra cells have a text
pub record IsExtraSpellable (extra : Extra) : Type 0 where
  pub cells : ascends extra.cells ≡ true
  pub needs : AllByRecursion IsNeedSpellable extra.needs
  pub guards : AllByRecursion IsWorldSpellable extra.guards

-- ---- numbers that have the width of their types

-- the numbers of a need
pub record IsNeedWithinTypes (need : ExtraNeed) : Type 0 where
  pub subject : FitsIn32Bits need.subject
  pub cell : FitsIn32Bits need.cell
  pub den : FitsIn128Bits need.multipliers.den
  pub terms : AllByRecursion IsTermWithinTypes need.multipliers.by_relation

-- the numbers of extra cells, as their types hold them
pub record IsExtraWithinTypes (extra : Extra) : Type 0 where
  pub cells : AllByRecursion FitsIn32Bits extra.cells
  pub needs : AllByRecursion IsNeedWithinTypes extra.needs
  pub guards : AllByRecursion IsWorldWithinTypes extra.guards

-- ---- laws

-- the text of extra cells that have one is read as those
abbrev pub IsExtraReadBack : Type 0
IsExtraReadBack =
    (extra : Extra) → IsExtraSpellable extra → IsExtraWithinTypes extra → extra_of (extra_text extra) ≡ Ok extra

-- Bytes that are read as extra cells are their text, and they have one.
abbrev pub HasOneExtraSpelling : Type 0
HasOneExtraSpelling =
    (bytes : List ℕ) (extra : Extra) → extra_of bytes ≡ Ok extra
    → IsExtraSpellable extra × IsExtraWithinTypes extra × (bytes ≡ extra_text extra)
