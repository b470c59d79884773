-- A release with extra cells against contributors, judged with its certificate: its first fault, and what it shows where
-- there is none (own).
use Rattle.std.specs.Prelude.{◌≡◌, ◌≢◌, ℕ, Bool, List, length, Option, Result, Ok, Err}
use Rattle.sdc_base.specs.Steps.{◌>>=◌, map_fault}
use Rattle.sdc_base.specs.declared.rows.Row.{Row}
use Rattle.attackers.specs.Alone.{AreSoles}
use Rattle.attackers.specs.ExtraAcceptance.{IsGuarding}
use Rattle.attackers.specs.ExtraFaults.{extra_fault}
use Rattle.sdc_base.specs.HiddenSets.{hide_cells}
use Rattle.attackers.specs.KnownCells.{Guards, IsAttack}
use Rattle.attackers.specs.declared.attack.Attack.{Attack}
use Rattle.attackers.specs.declared.faults.ExtraFault.TheVariants as extra_reason
use Rattle.cert_check.specs.Acceptance.{IsAccepted, IsOfCase}
use Rattle.cert_check.specs.FirstFault.{acceptance_fault}
use Rattle.cert_check.specs.OwnTexts.{own_set, own_texts, release_fault}
use Rattle.cert_check.specs.declared.case.Case.{Case}
use Rattle.cert_check.specs.declared.faults.CheckFault.TheVariants as fault
use Rattle.certificate.specs.declared.certificate.Certificate.{Certificate}
use Rattle.certificate.specs.declared.extra.Extra.{Extra}
use Rattle.linked_tables.specs.BookCells.{cells}
use Rattle.release_writer.specs.ReadingLaws.{AreTexts}
use Rattle.release_writer.specs.ShownCells.{open_truth}
use Rattle.repair.specs.HidingOrder.{protected_case}
use Rattle.job_inputs.specs.declared.stop.InputStop.TheVariants as input
use Rattle.job_check.specs.declared.stop.CheckStop.{CheckStop}
use Rattle.job_check.specs.declared.stop.CheckStop.TheVariants as stop

-- the hidden set of a certificate with the extra cells; a number that is that of no cell adds nothing
abbrev pub larger_set : Case → Certificate → Extra → List Bool
larger_set case c extra = hide_cells (own_set case c) extra.cells

-- The first fault of a release with extra cells: that of its certificate, whatever its tables show; then the first line
-- of a table that doesn't hide exactly the larger set; then that of the extra cells beside the certificate's own set and
-- worlds.
abbrev pub guarded_fault : Case → List (Option ℕ) → List (List ℕ) → Certificate → Extra → Result (Unit {0}) CheckStop
guarded_fault case soles tables c extra =
    map_fault stop.NotAccepted (acceptance_fault case (own_texts case c) c) >>= λ _.
    map_fault stop.NotAccepted (release_fault case (larger_set case c extra) tables) >>= λ _.
    map_fault stop.NotGuarded (extra_fault (protected_case case.system.now case.cells.now) soles (own_set case c) c.worlds
    extra)

-- a check stops so for a fault of the release, neither for its inputs nor for want of memory
abbrev pub IsForFault : CheckStop → Type 0
IsForFault (stop.Inputs why) = ⊥
IsForFault (stop.NotAccepted why) = why ≢ fault.Memory
IsForFault (stop.NotGuarded why) = why ≢ extra_reason.Memory

-- the answer of judging a release with this first fault, if it has one: just that, or want of memory
abbrev pub IsJudgement : Result (Unit {0}) CheckStop → Result (Unit {0}) CheckStop → Type 0
IsJudgement first (Ok fine) = first ≡ Ok tt
IsJudgement first (Err (stop.Inputs why)) = why ≡ input.Memory
IsJudgement first (Err why) = (first ≡ Err why) × IsForFault why

-- for each cell of a case the place of its one record, where it has exactly one
pub record AreSolesOf (case : Case) (rows : List Row) (soles : List (Option ℕ)) : Type 0 where
  pub one_each : length soles ≡ length (cells case.book.now)
  pub are_soles : AreSoles case.book.now rows soles

-- What a release with extra cells shows. The certificate speaks of the case, and with the tables of its own set it is
-- accepted: that set protects. The tables of the release hide exactly the larger set. Each extra cell is needed, and
-- against each contributor that alone makes up some cell the larger set guards every primary cell that it doesn't know,
-- to both sides.
pub record IsRightGuarding (case : Case) (soles : List (Option ℕ)) (tables : List (List ℕ)) (c : Certificate)
    (extra : Extra) : Type 0 where
  pub of_case : IsOfCase case c
  pub certified : IsAccepted case (own_texts case c) c
  pub shown : AreTexts case.book.now case.decimals (open_truth case.book.now.marks (larger_set case c extra))
      case.book.now.tables case.names.now tables
  pub guarding : IsGuarding (protected_case case.system.now case.cells.now) soles (own_set case c) extra
  pub guards : (attack : Attack) → IsAttack case.cells.now soles attack
      → Guards (protected_case case.system.now case.cells.now) soles (larger_set case c extra) attack
