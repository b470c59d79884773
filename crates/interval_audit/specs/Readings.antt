-- The world and the multipliers that are read off a walk, in lowest terms (own).
use Rattle.std.specs.Prelude.{◌≡◌, ℕ, ◌+◌, ◌*◌, ◌<◌, List, [], ◌∷◌, length, slice_index, ℤ, pos, ◌-ℤ◌, if◌then◌else◌}
use Rattle.std.specs.List.{flat_map}
use Rattle.std.specs.Ordering.{int_eq}
use Rattle.sdc_base.specs.declared.cell.Cell.{Cell}
use Rattle.sdc_base.specs.declared.system.System.{System}
use Rattle.sdc_base.specs.Forms.{Term}
use Rattle.sdc_base.specs.Systems.{Numbers, number_at}
use Rattle.worlds.specs.declared.world.World.{World}
use Rattle.worlds.specs.declared.multipliers.Multipliers.{Multipliers}
use Rattle.worlds.specs.NumberLists.{terms_of}
use Rattle.interval_audit.specs.Groups.{Group, members}
use Rattle.interval_audit.specs.Columns.{moves_of}
use Rattle.interval_audit.specs.Labels.{labels, met_relations, multiplier}
use Rattle.interval_audit.specs.LowestTerms.{AreLowestTermsOf}

-- the numbers of those in a list, each with its own, without those of 0
abbrev pub nonzero_terms : Numbers → List ℕ → List Term
nonzero_terms numbers list = flat_map (λ one. if int_eq (numbers one) (pos 0) then [] else (one, numbers one) ∷ []) list

-- for each in a list, by its place, what is given for it is one number less another, each two places behind the one
-- before
abbrev pub AreDifferences : List ℕ → List ℤ → ℕ → ℕ → Numbers → Type 0
AreDifferences list numbers plus minus given =
    (place : ℕ) → place < length list → given (slice_index list place)
    ≡ number_at numbers (plus + 2 * place) -ℤ number_at numbers (minus + 2 * place)

-- multipliers are these numbers of the relations in a list, over the denominator, in lowest terms
abbrev pub HasLowestTerms : Multipliers → ℤ → Numbers → List ℕ → Type 0
HasLowestTerms multipliers den numbers list =
    AreLowestTermsOf den (nonzero_terms numbers list) multipliers.den multipliers.by_relation

-- the world that amounts of a question's columns make: each cell's up less its down, over the denominator, in lowest
-- terms
abbrev pub IsWorldOf : System → Group → ℤ → Numbers → World → Type 0
IsWorldOf system group den amounts world =
    AreLowestTermsOf den (nonzero_terms (moves_of group amounts) (members group system.cells)) world.den
    (terms_of world.moves)

-- The multipliers that weights of a question's rows make: for each relation the weight at its negated form, less that
-- at its form, over the denominator, in lowest terms.
abbrev pub AreMultipliersOf : System → List Cell → Group → ℤ → List ℤ → Multipliers → Type 0
AreMultipliersOf system cells group den weights multipliers =
    AreLowestTermsOf den (nonzero_terms (multiplier weights (labels system.relations cells group system.cells))
    (met_relations group system.relations)) multipliers.den multipliers.by_relation
