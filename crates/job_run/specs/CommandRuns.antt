-- A run of a command: what it answers of told files, what it leaves on the tray, and to which files it comes (own).
use Rattle.std.specs.Prelude.{◌≡◌, ℕ, List, Result, Ok, Err, IsOkAnd}
use Rattle.sdc_base.specs.Counts.{HasRisen}
use Rattle.sdc_base.specs.WhereTold.{WhereTold}
use Rattle.office_io.specs.Files.{Files}
use Rattle.office_io.specs.Shelves.{ShelfState}
use Rattle.office_io.specs.Trays.{TrayState}
use Rattle.job_inputs.specs.Reading.{ReachedFile}
use Rattle.job_inputs.specs.declared.faults.Fault.{Fault}
use Rattle.job_inputs.specs.declared.file_ref.FileRef.{FileRef}
use Rattle.job_run.specs.Reports.{reading_of}
use Rattle.job_run.specs.declared.report.Report.{Report}
use Rattle.job_run.specs.declared.report.Report.TheVariants as report

-- The ends of a command whose files come to a Y: what it answers where it has read them and memory isn't wanted. To its
-- first argument each end hands what it says of the Y; any other answer is no end.
abbrev pub Ends : Type 0 → Type 1
Ends Y = ((Y → Type 0) → Type 0) → Report → Type 0

-- what a command can answer, whatever shelf and tray tell: one of its ends, a refusal, a read fault, or want of memory
abbrev pub IsAnswer : {Y : Type 0} → Ends Y → Report → Type 0
IsAnswer IsEnd (report.Refused reason) = Unit {0}
IsAnswer IsEnd (report.ReadFault file) = Unit {0}
IsAnswer IsEnd report.Memory = Unit {0}
IsAnswer IsEnd other = IsEnd (λ says. Unit {0}) other

-- What an answer says of the told files, which come to a Y or to a first fault: a refusal names that fault, and an end
-- says what holds of the Y. Want of memory and faults of the shelf say nothing of them.
abbrev pub AgreesWith : {Y : Type 0} → Ends Y → Report → Result Y Fault → Type 0
AgreesWith IsEnd (report.Refused reason) outcome = outcome ≡ Err reason
AgreesWith IsEnd (report.ReadFault file) outcome = Unit {0}
AgreesWith IsEnd report.Memory outcome = Unit {0}
AgreesWith IsEnd other outcome = IsOkAnd outcome (λ y. IsEnd (λ says. says y) other)

-- Without a fault of the shelf the answer is the first fault of the told files, or an end that says what holds of the Y
-- to which they come; else memory is wanted, or the tray failed at a file, which was counted.
abbrev pub Settles : {Y : Type 0} → Ends Y → Report → Result Y Fault → TrayState → TrayState → Type 0
Settles IsEnd report.Memory outcome before after = Unit {0}
Settles IsEnd (report.WriteFault file) outcome before after = HasRisen before.faults after.faults
Settles IsEnd answer (Ok y) before after = IsEnd (λ says. says y) answer
Settles IsEnd answer (Err reason) before after = answer ≡ report.Refused reason

-- A run of a command with these ends, whose files mean this, whose reading comes to these of them, and which leaves this
-- on the tray. Whatever is told, its answer is one of the command. Of told files it says what they come to, and the tray
-- holds what the answer says; without a fault of the shelf or the tray, what they come to is the answer, want of memory
-- aside; and a file at which the shelf fails is one to which reading came.
pub record IsRunOf {Y : Type 0} (meant : Files → Result Y Fault) (comes : Files → FileRef → List ℕ → Type 0)
    (IsEnd : Ends Y) (Leaves : Report → Result Y Fault → TrayState → TrayState → Type 0) (answer : Report)
    (old new : ShelfState) (before after : TrayState) : Type 0 where
  pub answers : IsAnswer IsEnd answer
  pub told : WhereTold old.files (λ fs. AgreesWith IsEnd answer (meant fs))
  pub left : WhereTold old.files (λ fs. Leaves answer (meant fs) before after)
  pub complete : WhereTold old.files
      (λ fs. ¬ HasRisen old.faults new.faults → Settles IsEnd answer (meant fs) before after)
  pub came_to : WhereTold old.files (λ fs. ReachedFile (comes fs) (reading_of answer) fs new)
