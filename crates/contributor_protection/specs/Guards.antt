-- What guarding a protected hidden set against contributors that alone make up cells comes to (own).
use Rattle.std.specs.Prelude.{◌≡◌, ◌≤◌, ◌<◌, ◌^◌, ℕ, List, length, All, Option, Result, Ok, Err}
use Rattle.sdc_base.specs.declared.method.Method.{Method}
use Rattle.sdc_base.specs.declared.rows.Row.{Row}
use Rattle.sdc_base.specs.declared.trail.PlanStep.{PlanStep}
use Rattle.apriori.specs.CellLevels.{HasLevelsInRange}
use Rattle.cost_rule.specs.Costs.{AreCosted}
use Rattle.cost_rule.specs.declared.kind.CostKind.{CostKind}
use Rattle.linked_tables.specs.BookCells.{cells}
use Rattle.linked_tables.specs.BookViews.{BookView}
use Rattle.worlds.specs.Protection.{Protection as HiddenSet}
use Rattle.repair.specs.HidingOrder.{Case, protected_case, prices_of}
use Rattle.repair.specs.declared.stopped.Stopped.{Stopped}
use Rattle.certificate.specs.ExtraTexts.{IsExtraSpellable}
use Rattle.certificate.specs.declared.certificate.Certificate.{Certificate}
use Rattle.attackers.specs.Alone.{AreSoles, TellFrequencies}
use Rattle.attackers.specs.AttackOrder.{attacks_of}
use Rattle.sdc_base.specs.HiddenSets.{hide_cells}
use Rattle.attackers.specs.ExtraFaults.{extra_fault}
use Rattle.attackers.specs.Guarding.{IsGuardedBy}
use Rattle.attackers.specs.GuardStops.{StopsFor}
use Rattle.attackers.specs.ContributorTasks.{IsCannot}
use Rattle.attackers.specs.Turns.{AreLeftOfTurns}
use Rattle.attackers.specs.declared.extra.Against.{Against}
use Rattle.cell_protection.specs.Protections.{IsProtectedWith}
use Rattle.contributor_protection.specs.ShownAgain.{shown_again}
use Rattle.contributor_protection.specs.declared.guarding.GuardedCells.{GuardedCells}
use Rattle.contributor_protection.specs.declared.guarding.ProtectedCells.{ProtectedCells}
use Rattle.contributor_protection.specs.declared.guarding.GuardFailure.{GuardFailure}
use Rattle.contributor_protection.specs.declared.guarding.GuardFailure.TheVariants as guard_failure

-- the case of protected cells
abbrev pub case_of : ProtectedCells → Case
case_of protected = protected_case protected.system.now protected.cells.now

-- what hiding each of them costs, by this kind
abbrev pub prices_in : CostKind → ProtectedCells → List ℕ
prices_in cost protected = prices_of cost protected.cells.now protected.book.now.marks

-- a hidden set protects, and this is its certificate, by whatever method, prices and planned steps
pub record IsCertified (c : Case) (protected : HiddenSet) (certificate : Certificate) : Type 0 where
  pub prices : List ℕ
  pub method : Method
  pub steps : List PlanStep
  pub protects : IsProtectedWith c prices method steps protected certificate

-- Protected cells can be guarded: there is a cell for each cell of the system, of the tables, and for each mark; the
-- marks' costs can be asked about, and they tell how many of the records, which have numbers of 32 bits, fall in each
-- cell; levels are within the limits of a job; the certificate is that of the hidden set; and a question may take a step.
pub record CanBeGuarded (protected : ProtectedCells) (certificate : Certificate) (limit : ℕ) : Type 0 where
  pub one_each : length protected.cells.now ≡ protected.system.now.cells
  pub named : length protected.cells.now ≡ length (cells protected.book.now)
  pub marks : length protected.cells.now ≡ length protected.book.now.marks
  pub costed : All (λ mark. AreCosted mark.facts) protected.book.now.marks
  pub levels : All HasLevelsInRange protected.cells.now
  pub told : TellFrequencies protected.book.now protected.rows.now
  pub fewer_than_2_32 : length protected.rows.now < 2 ^ 32
  pub certified : IsCertified (case_of protected) protected.hidden_set.now certificate
  pub some_steps : 1 ≤ limit

-- A protected hidden set is guarded: beside it and its worlds the extra cells have no fault, each is needed, and with
-- them it guards against every contributor, as the full set does; they are what is left of cells that came in turn; the
-- flags are those of the set with them.
pub record IsGuardedWith (c : Case) (prices : List ℕ) (soles : List (Option ℕ)) (protected : HiddenSet)
    (certificate : Certificate) (guarded : GuardedCells) : Type 0 where
  pub guarding : IsGuardedBy c soles protected.hidden.flags protected.worlds guarded.extra
  pub turns : AreLeftOfTurns c soles prices (attacks_of c.cells soles) protected.hidden.flags guarded.extra
  pub accepted : extra_fault c soles protected.hidden.flags certificate.worlds guarded.extra ≡ Ok tt
  pub flags_are : guarded.hidden.flags ≡ hide_cells protected.hidden.flags guarded.extra.cells
  pub certificate_is : guarded.certificate ≡ certificate

-- Guarding a protected hidden set stopped short of an answer: the repairs are those of its certificate, the shown cells
-- are all that were hidden on the way and aren't of the set, and the question against the contributor has a fault, after
-- extra cells in turn and cells dropped of them.
pub record StopsAgainst (c : Case) (prices : List ℕ) (soles : List (Option ℕ)) (limit : ℕ) (protected : HiddenSet)
    (certificate : Certificate) (stopped : Stopped) (against : Against) : Type 0 where
  pub repairs_are : stopped.repairs ≡ certificate.repairs
  pub shown_are : stopped.shown ≡ shown_again c certificate protected.hidden.flags
  pub stops : StopsFor c soles prices (attacks_of c.cells soles) protected.hidden.flags limit stopped.fault against.row
      against.extras against.dropped

-- What guarding a protected hidden set against those that alone make up cells comes to: it is guarded, or the full set
-- doesn't guard against a contributor, or a question stopped short.
abbrev pub ComesToGuard : Case → List ℕ → List (Option ℕ) → ℕ → HiddenSet → Certificate
    → Result GuardedCells GuardFailure → Type 0
ComesToGuard c prices soles limit protected certificate (Ok guarded) =
    IsGuardedWith c prices soles protected certificate guarded
ComesToGuard c prices soles limit protected certificate (Err (guard_failure.CannotAgainst found)) =
    IsCannot c soles (attacks_of c.cells soles) found.attack found.multipliers
ComesToGuard c prices soles limit protected certificate (Err (guard_failure.Undecided stopped against)) =
    StopsAgainst c prices soles limit protected certificate stopped against
ComesToGuard c prices soles limit protected certificate (Err guard_failure.Memory) = Unit {0}

-- The same, where the contributors are those of these records: for each cell the one that alone makes it up, where there
-- is one.
pub record ComesToGuardBy (book : BookView) (rows : List Row) (c : Case) (prices : List ℕ) (limit : ℕ)
    (protected : HiddenSet) (certificate : Certificate) (outcome : Result GuardedCells GuardFailure) : Type 0 where
  pub soles : List (Option ℕ)
  pub one_each : length soles ≡ length c.cells
  pub each_named : length soles ≡ length (cells book)
  pub are_soles : AreSoles book rows soles
  pub comes_to : ComesToGuard c prices soles limit protected certificate outcome

-- what guarding against the contributors of these records comes to; want of memory says nothing
abbrev pub IsGuardOf : BookView → List Row → Case → List ℕ → ℕ → HiddenSet → Certificate
    → Result GuardedCells GuardFailure → Type 0
IsGuardOf book rows c prices limit protected certificate (Err guard_failure.Memory) = Unit {0}
IsGuardOf book rows c prices limit protected certificate (Ok guarded) =
    ComesToGuardBy book rows c prices limit protected certificate (Ok guarded)
IsGuardOf book rows c prices limit protected certificate (Err (guard_failure.CannotAgainst found)) =
    ComesToGuardBy book rows c prices limit protected certificate (Err (guard_failure.CannotAgainst found))
IsGuardOf book rows c prices limit protected certificate (Err (guard_failure.Undecided stopped against)) =
    ComesToGuardBy book rows c prices limit protected certificate (Err (guard_failure.Undecided stopped against))

-- the extra cells of a guarded set have a text
abbrev pub HasExtraText : GuardedCells → Type 0
HasExtraText guarded = IsExtraSpellable guarded.extra
