-- Which certificates have a text: each list in a line is as the format wants it (own).
use Rattle.std.specs.Prelude.{◌≡◌, ◌≢◌, ◌<◌, ◌≤◌, ◌≤ℤ◌, ◌==◌, ◌^◌, ℕ, true, List, length, map, ℤ, pos, negsuc}
use Rattle.std.specs.List.{AllByRecursion, list_any}
use Rattle.sdc_base.specs.Forms.{Term}
use Rattle.sdc_base.specs.declared.method.Method.{Method}
use Rattle.sdc_base.specs.declared.method.Method.TheVariants as method
use Rattle.sdc_base.specs.declared.trail.PlanStep.{PlanStep}
use Rattle.worlds.specs.declared.refuted.Refuted.{Refuted}
use Rattle.worlds.specs.declared.world.Move.{Move}
use Rattle.certificate.specs.declared.certificate.Certificate.{Certificate}
use Rattle.certificate.specs.declared.certificate.WorldLine.{WorldLine}
use Rattle.certificate.specs.declared.version.Version.{Version}
use Rattle.certificate.specs.declared.version.Version.TheVariants.{One, Two}
use Rattle.certificate.specs.Numerals.{greatest_number, ascends}
use Rattle.certificate.specs.Texts.{text_in}

-- a step has 1 to 8 parents and a corner, its corners ascend, and the number of its table, from 1, isn't too great
pub record IsStepSpellable (step : PlanStep) : Type 0 where
  pub table : step.table < greatest_number
  pub has_parent : 0 < length step.parents
  pub at_most_8_parents : length step.parents ≤ 8
  pub has_corner : 0 < length step.corners
  pub ascending : ascends step.corners ≡ true

-- the denominator of a refutation is from 1 on, its relations ascend, and none counts 0
pub record IsRefutationSpellable (refuted : Refuted) : Type 0 where
  pub den : pos 1 ≤ℤ refuted.multipliers.den
  pub ascending : ascends (map (λ term. term.0) refuted.multipliers.by_relation) ≡ true
  pub counting : AllByRecursion (λ term. term.1 ≢ pos 0) refuted.multipliers.by_relation

-- the denominator of a complete table is from 1 on, the cells of its moves ascend, and none moves by 0
pub record IsWorldSpellable (line : WorldLine) : Type 0 where
  pub den : pos 1 ≤ℤ line.world.den
  pub ascending : ascends (map (λ one. one.cell) line.world.moves) ≡ true
  pub moving : AllByRecursion (λ one. one.by ≢ pos 0) line.world.moves

-- a certificate has a text, that of the second version
pub record IsSpellable (c : Certificate) : Type 0 where
  pub hidden : ascends c.hidden ≡ true
  pub steps : AllByRecursion IsStepSpellable c.steps
  pub repairs : AllByRecursion IsRefutationSpellable c.repairs
  pub needs : AllByRecursion IsRefutationSpellable c.needs
  pub worlds : AllByRecursion IsWorldSpellable c.worlds

-- a cell is one of the hidden ones
abbrev pub IsAmong : List ℕ → ℕ → Type 0
IsAmong hidden cell = list_any (λ other. other == cell) hidden ≡ true

-- a complete table moves only hidden cells
abbrev pub MovesAmong : List ℕ → WorldLine → Type 0
MovesAmong hidden line = AllByRecursion (λ one. IsAmong hidden one.cell) line.world.moves

-- the line of a complete table can say what it moves: in the first version it moves only hidden cells
abbrev pub IsSayable : Version → List ℕ → WorldLine → Type 0
IsSayable One hidden line = MovesAmong hidden line
IsSayable Two hidden line = Unit {0}

-- a certificate has a text in a version
pub record HasTextIn (version : Version) (c : Certificate) : Type 0 where
  pub spellable : IsSpellable c
  pub sayable : AllByRecursion (IsSayable version c.hidden) c.worlds

-- ---- numbers that have the width of their types

-- a whole number of 128 bits
abbrev pub FitsIn128Bits : ℤ → Type 0
FitsIn128Bits (pos n) = n < 2 ^ 127
FitsIn128Bits (negsuc n) = n < 2 ^ 127

-- the number of a cell, a relation or a place
abbrev pub FitsIn32Bits : ℕ → Type 0
FitsIn32Bits n = n ≤ greatest_number

-- a method's number
abbrev pub IsMethodWithinTypes : Method → Type 0
IsMethodWithinTypes method.Modular = Unit {0}
IsMethodWithinTypes (method.Gh passes) = FitsIn32Bits passes
IsMethodWithinTypes (method.Rnd base) = FitsIn128Bits base

-- the numbers of a step
pub record IsStepWithinTypes (step : PlanStep) : Type 0 where
  pub parents : AllByRecursion FitsIn32Bits step.parents
  pub cell : FitsIn32Bits step.cell
  pub corners : AllByRecursion FitsIn32Bits step.corners

-- a relation and its multiplier
abbrev pub IsTermWithinTypes : Term → Type 0
IsTermWithinTypes term = FitsIn32Bits term.0 × FitsIn128Bits term.1

-- the numbers of a refutation
pub record IsRefutationWithinTypes (refuted : Refuted) : Type 0 where
  pub subject : FitsIn32Bits refuted.subject
  pub cell : FitsIn32Bits refuted.cell
  pub den : FitsIn128Bits refuted.multipliers.den
  pub terms : AllByRecursion IsTermWithinTypes refuted.multipliers.by_relation

-- a cell and what it moves by
abbrev pub IsMoveWithinTypes : Move → Type 0
IsMoveWithinTypes move = FitsIn32Bits move.cell × FitsIn128Bits move.by

-- the numbers of a complete table
pub record IsWorldWithinTypes (line : WorldLine) : Type 0 where
  pub cell : FitsIn32Bits line.cell
  pub den : FitsIn128Bits line.world.den
  pub moves : AllByRecursion IsMoveWithinTypes line.world.moves

-- the numbers of a certificate, as its types hold them
pub record IsWithinTypes (c : Certificate) : Type 0 where
  pub method : IsMethodWithinTypes c.method
  pub cells : FitsIn32Bits c.cells
  pub relations : FitsIn32Bits c.relations
  pub hidden : AllByRecursion FitsIn32Bits c.hidden
  pub steps : AllByRecursion IsStepWithinTypes c.steps
  pub repairs : AllByRecursion IsRefutationWithinTypes c.repairs
  pub needs : AllByRecursion IsRefutationWithinTypes c.needs
  pub worlds : AllByRecursion IsWorldWithinTypes c.worlds

-- bytes are the text of a certificate in one of the versions
pub record IsTextOf (bytes : List ℕ) (c : Certificate) : Type 0 where
  pub version : Version
  pub has_text : HasTextIn version c
  pub text : bytes ≡ text_in version c
