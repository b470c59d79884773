-- Lists of numbers with a whole number for each, as worlds and multipliers have them (own).
use Rattle.std.specs.Prelude.{◌≢◌, ℕ, ◌+◌, ◌<◌, ◌≤◌, ◌==◌, ◌&&◌, nat_lt, not, Bool, List, [], ◌∷◌, map, fold, All, Option, None, Some, if◌then◌else◌, pos}
use Rattle.std.specs.Ordering.{int_eq}
use Rattle.sdc_base.specs.Forms.{Term}
use Rattle.sdc_base.specs.Systems.{Numbers}
use Rattle.worlds.specs.declared.world.Move.{Move}

-- the numbers ascend, the first from this one on, and each above those before it
abbrev pub Ascend : ℕ → List Term → Type 0
Ascend least [] = Unit {0}
Ascend least (term ∷ terms) = (least ≤ term.0) × Ascend (term.0 + 1) terms

-- a list as it is to be: ascending numbers below the size, and nothing that counts 0
pub record IsListed (size : ℕ) (terms : List Term) : Type 0 where
  pub ascending : Ascend 0 terms
  pub named : All (λ term. term.0 < size) terms
  pub counting : All (λ term. term.1 ≢ pos 0) terms

-- what may come next: a number from the least one on and below the size, that doesn't count 0
abbrev pub is_next : ℕ → ℕ → Term → Bool
is_next size least term = not (nat_lt term.0 least) && (nat_lt term.0 size && not (int_eq term.1 (pos 0)))

-- the first place, from this one on, that isn't as it is to be
abbrev pub first_misplaced : ℕ → ℕ → ℕ → List Term → Option ℕ
first_misplaced size least place [] = None
first_misplaced size least place (term ∷ terms) = if is_next size least term
    then first_misplaced size (term.0 + 1) (place + 1) terms else Some place

-- the moves as numbers of cells, each with its move
abbrev pub terms_of : List Move → List Term
terms_of moves = map (λ one. (one.cell, one.by)) moves

-- the number that is given for a cell, of several the last; 0 where none is given
abbrev pub number_given : List Term → Numbers
number_given terms cell = fold (λ number term. if term.0 == cell then term.1 else number) (pos 0) terms
