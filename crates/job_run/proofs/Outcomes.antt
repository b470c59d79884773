-- What a run comes to, from what its steps came to.
use Rattle.std.proofs.Common.{◌≡◌, ◌≢◌, inl, inr, List, ℕ, Option, Result, Ok, Err, IsErrOf, IsOkAnd, refl, ap}
use Rattle.sdc_base.specs.Counts.{HasRisen}
use Rattle.sdc_base.specs.declared.side.Side.{Side}
use Rattle.attackers.specs.declared.extra.Against.{Against}
use Rattle.interval_audit.specs.declared.answer.AskFault.{AskFault}
use Rattle.interval_audit.specs.declared.answer.AskFault.TheVariants as ask
use Rattle.office_io.specs.Files.{Files}
use Rattle.office_io.specs.Shelves.{ShelfState}
use Rattle.office_io.specs.Trays.{TrayState}
use Rattle.worlds.specs.declared.multipliers.Multipliers.{Multipliers}
use Rattle.worlds.specs.declared.refuted.Refuted.{Refuted}
use Rattle.job_inputs.specs.Reading.{HasCause, ReachedFile}
use Rattle.job_inputs.specs.ClassifiedJobs.{SettledInputs}
use Rattle.job_inputs.specs.declared.faults.Fault.{Fault}
use Rattle.job_inputs.specs.declared.file_ref.FileRef.{FileRef}
use Rattle.job_inputs.specs.declared.stop.InputStop.{InputStop}
use Rattle.job_inputs.specs.declared.stop.InputStop.TheVariants as input
use Rattle.job_inputs.proofs.Causes.{cause-as, come-on}
use Rattle.job_run.specs.CommandRuns.{AgreesWith}
use Rattle.job_run.specs.Endings.{ComesToRelease}
use Rattle.job_run.specs.PutReleases.{PutsReleaseWhere}
use Rattle.job_run.specs.Puts.{SomeWhole, OneInPart}
use Rattle.job_run.specs.ReleaseRuns.{IsReleaseEnd, StopsRelease}
use Rattle.job_run.specs.Reporting.{inputs_report, puts_report, question_report}
use Rattle.job_run.specs.Reports.{FaultsHaveCauses, LeavesAll, reading_of}
use Rattle.job_run.specs.declared.put.Release.{Release}
use Rattle.plain_text.specs.declared.stop.Stop.{Stop}
use Rattle.plain_text.specs.declared.stop.Stop.TheVariants as puts
use Rattle.job_run.specs.declared.report.Report.{Report}
use Rattle.job_run.specs.declared.report.Report.TheVariants as report
use Rattle.job_run.specs.declared.report.Stuck.{Stuck}

-- a value that has a property, where there is one
pub ok-and : {A F : Type 0} (P : A → Type 0) (o : Result A F) → IsOkAnd o P → (x : A) × (o ≡ Ok x) × P x
ok-and P (Ok x) h = (x, refl, h)
ok-and P (Err f) h = absurd h

-- what holds of a value holds where more is known of it
pub ok-so : {A F : Type 0} (P Q : A → Type 0) (o : Result A F) → ((x : A) → P x → Q x) → IsOkAnd o P → IsOkAnd o Q
ok-so P Q (Ok x) so h = so x h
ok-so P Q (Err f) so h = absurd h

-- ---- reading that names no file

-- want of memory needs no cause
pub memory-cause : {X : Type 0} (old new : ShelfState) → HasCause {X = X} (Err input.Memory) old new
memory-cause old new = record { absent = λ f is. absurd cc; too_long = λ f is. absurd cc; read_fault = λ f is. absurd cc; tree = λ f is. absurd cc }

-- and came at no file
pub memory-comes : {X : Type 0} (comes : FileRef → List ℕ → Type 0) (files : Files) (new : ShelfState) → ReachedFile {X = X} comes (Err input.Memory) files new
memory-comes comes files new = λ f is. absurd cc

-- nor does reading that wasn't stopped
pub read-cause : (old new : ShelfState) → HasCause {X = Unit {0}} (Ok tt) old new
read-cause old new = record { absent = λ f is. absurd cc; too_long = λ f is. absurd cc; read_fault = λ f is. absurd cc; tree = λ f is. absurd cc }

pub read-comes : (comes : FileRef → List ℕ → Type 0) (files : Files) (new : ShelfState) → ReachedFile {X = Unit {0}} comes (Ok tt) files new
read-comes comes files new = λ f is. absurd cc

-- ---- causes

-- a report that names no fault needs no cause
pub no-fault : (answer : Report) (old new : ShelfState) (before after : TrayState) → reading_of answer ≡ Ok tt → ((f : FileRef) → answer ≢ report.WriteFault f) → FaultsHaveCauses answer old new before after
no-fault answer old new before after read put = record { reading = rw read (read-cause old new); write_fault = λ f is. absurd (put f is) }

-- nor does want of memory
pub no-memory : (old new : ShelfState) (before after : TrayState) → FaultsHaveCauses report.Memory old new before after
no-memory old new before after = record { reading = memory-cause old new; write_fault = λ f is. absurd cc }

-- a file that can't be written was counted
pub failed-cause : (f : FileRef) (old new : ShelfState) (before after : TrayState) → HasRisen before.faults after.faults → FaultsHaveCauses (report.WriteFault f) old new before after
failed-cause f old new before after failed = record { reading = read-cause old new; write_fault = λ g is. failed }

-- a read fault was counted
pub read-counted : (answer : Report) (old new : ShelfState) (before after : TrayState) (f : FileRef) → FaultsHaveCauses answer old new before after → answer ≡ report.ReadFault f → HasRisen old.faults new.faults
read-counted answer old new before after f causes is = causes.reading.read_fault f (ap reading_of is)

-- ---- what stopped the inputs

inputs-read : (e : InputStop) → reading_of (inputs_report e) ≡ Err e
inputs-read (input.Refused f) = refl
inputs-read (input.ReadFault f) = refl
inputs-read input.Memory = refl

inputs-written : (e : InputStop) (f : FileRef) → inputs_report e ≢ report.WriteFault f
inputs-written (input.Refused g) f is = absurd cc
inputs-written (input.ReadFault g) f is = absurd cc
inputs-written input.Memory f is = absurd cc

pub inputs-cause : {X : Type 0} (e : InputStop) (old new : ShelfState) (tray : TrayState) → HasCause {X = X} (Err e) old new → FaultsHaveCauses (inputs_report e) old new tray tray
inputs-cause e old new tray cause = record { reading = rw (inputs-read e) (cause-as e old new cause); write_fault = λ f is. absurd (inputs-written e f is) }

pub inputs-come : {X : Type 0} (e : InputStop) (comes : FileRef → List ℕ → Type 0) (files : Files) (new : ShelfState) → ReachedFile {X = X} comes (Err e) files new → ReachedFile comes (reading_of (inputs_report e)) files new
inputs-come e comes files new come = rw (inputs-read e) (come-on e comes comes files new (λ f held is. is) come)

pub inputs-stop : (e : InputStop) → StopsRelease (inputs_report e)
inputs-stop (input.Refused f) = tt
inputs-stop (input.ReadFault f) = tt
inputs-stop input.Memory = tt

pub inputs-leave-all : (e : InputStop) (tray : TrayState) → LeavesAll (inputs_report e) tray tray
inputs-leave-all (input.Refused f) tray = refl
inputs-leave-all (input.ReadFault f) tray = refl
inputs-leave-all input.Memory tray = tt

pub inputs-put-none : (P : Release → Type 0) (e : InputStop) (tray : TrayState) → PutsReleaseWhere P (inputs_report e) tray tray
inputs-put-none P (input.Refused f) tray = refl
inputs-put-none P (input.ReadFault f) tray = refl
inputs-put-none P input.Memory tray = inl refl

-- ---- a question about released tables that stopped short

pub question-stops : (why : AskFault) → StopsRelease (question_report why)
question-stops (ask.Work walk) = tt
question-stops (ask.Wide walk place) = tt
question-stops (ask.Size question hidden) = tt
question-stops ask.Memory = tt

pub question-leaves-all : (why : AskFault) (tray : TrayState) → LeavesAll (question_report why) tray tray
question-leaves-all (ask.Work walk) tray = refl
question-leaves-all (ask.Wide walk place) tray = refl
question-leaves-all (ask.Size question hidden) tray = refl
question-leaves-all ask.Memory tray = tt

pub question-cause : (why : AskFault) (old new : ShelfState) (tray : TrayState) → FaultsHaveCauses (question_report why) old new tray tray
question-cause (ask.Work walk) old new tray = no-fault _ old new tray tray refl (λ f is. absurd cc)
question-cause (ask.Wide walk place) old new tray = no-fault _ old new tray tray refl (λ f is. absurd cc)
question-cause (ask.Size question hidden) old new tray = no-fault _ old new tray tray refl (λ f is. absurd cc)
question-cause ask.Memory old new tray = no-memory old new tray tray

pub question-comes : (why : AskFault) (comes : FileRef → List ℕ → Type 0) (files : Files) (new : ShelfState) → ReachedFile comes (reading_of (question_report why)) files new
question-comes (ask.Work walk) comes files new = read-comes comes files new
question-comes (ask.Wide walk place) comes files new = read-comes comes files new
question-comes (ask.Size question hidden) comes files new = read-comes comes files new
question-comes ask.Memory comes files new = memory-comes comes files new

-- ---- settled inputs that come to no release

-- what holds of each report of such an end holds of them all
by-end : (settled : SettledInputs) (P : Report → Type 0) → ((cell : ℕ) (side : Side) (multipliers : Multipliers) → P (report.Cannot cell side multipliers))
    → ((row cell : ℕ) (side : Side) (multipliers : Multipliers) → P (report.CannotAgainst row cell side multipliers)) → P report.NoRounding
    → ((why : Stuck) (repairs : List Refuted) (shown : List ℕ) (against : Option Against) → P (report.Undecided why repairs shown against)) → P report.Memory
    → (e : Report) → ComesToRelease settled (Err e) → P e
by-end settled P cannot cannot_against no_rounding undecided memory (report.Cannot cell side multipliers) end = cannot cell side multipliers
by-end settled P cannot cannot_against no_rounding undecided memory (report.CannotAgainst row cell side multipliers) end = cannot_against row cell side multipliers
by-end settled P cannot cannot_against no_rounding undecided memory report.NoRounding end = no_rounding
by-end settled P cannot cannot_against no_rounding undecided memory (report.Undecided why repairs shown against) end = undecided why repairs shown against
by-end settled P cannot cannot_against no_rounding undecided memory report.Memory end = memory
by-end settled P cannot cannot_against no_rounding undecided memory other end = absurd end

pub end-stops : (settled : SettledInputs) (e : Report) → ComesToRelease settled (Err e) → StopsRelease e
end-stops settled e end = by-end settled StopsRelease (λ cell side multipliers. tt) (λ row cell side multipliers. tt) tt (λ why repairs shown against. tt) tt e end

-- it says of the settled inputs what is so
pub end-agrees : (settled : SettledInputs) (e : Report) → ComesToRelease settled (Err e) → AgreesWith IsReleaseEnd e (Ok settled)
end-agrees settled (report.Cannot cell side multipliers) end = end
end-agrees settled (report.CannotAgainst row cell side multipliers) end = end
end-agrees settled report.NoRounding end = end
end-agrees settled (report.Undecided why repairs shown against) end = end
end-agrees settled report.Memory end = tt
end-agrees settled other end = absurd end

pub end-leaves-all : (settled : SettledInputs) (e : Report) (tray : TrayState) → ComesToRelease settled (Err e) → LeavesAll e tray tray
end-leaves-all settled e tray end = by-end settled (λ (one : Report). LeavesAll one tray tray) (λ cell side multipliers. refl) (λ row cell side multipliers. refl) refl (λ why repairs shown against. refl) tt e end

pub end-puts-none : (settled : SettledInputs) (P : Release → Type 0) (e : Report) (tray : TrayState) → ComesToRelease settled (Err e) → PutsReleaseWhere P e tray tray
end-puts-none settled P e tray end =
    by-end settled (λ (one : Report). PutsReleaseWhere P one tray tray) (λ cell side multipliers. refl) (λ row cell side multipliers. refl) refl (λ why repairs shown against. refl) (inl refl) e end

pub end-cause : (settled : SettledInputs) (e : Report) (old new : ShelfState) (tray : TrayState) → ComesToRelease settled (Err e) → FaultsHaveCauses e old new tray tray
end-cause settled e old new tray end =
    by-end settled (λ (one : Report). FaultsHaveCauses one old new tray tray) (λ cell side multipliers. no-fault _ old new tray tray refl (λ f is. absurd cc)) (λ row cell side multipliers. no-fault _ old new tray tray refl (λ f is. absurd cc))
    (no-fault _ old new tray tray refl (λ f is. absurd cc)) (λ why repairs shown against. no-fault _ old new tray tray refl (λ f is. absurd cc)) (no-memory old new tray tray) e end

pub end-comes : (settled : SettledInputs) (e : Report) (comes : FileRef → List ℕ → Type 0) (files : Files) (new : ShelfState) → ComesToRelease settled (Err e) → ReachedFile comes (reading_of e) files new
end-comes settled e comes files new end =
    by-end settled (λ (one : Report). ReachedFile comes (reading_of one) files new) (λ cell side multipliers. read-comes comes files new) (λ row cell side multipliers. read-comes comes files new)
    (read-comes comes files new) (λ why repairs shown against. read-comes comes files new) (memory-comes comes files new) e end

-- ---- what stopped the puts came after whole inputs

pub puts-stop : (e : Stop FileRef) → StopsRelease (puts_report e)
puts-stop (puts.Fault f) = tt
puts-stop puts.Memory = tt

pub puts-agree : (e : Stop FileRef) (outcome : Result SettledInputs Fault) (settled : SettledInputs) → outcome ≡ Ok settled → AgreesWith IsReleaseEnd (puts_report e) outcome
puts-agree (puts.Fault f) outcome settled is = rw is tt
puts-agree puts.Memory outcome settled is = tt

pub puts-put : (P : Release → Type 0) (e : Stop FileRef) (r : Release) (old new : TrayState) → P r → ((f : FileRef) → IsErrOf {T = Unit {0}} (Err e) (puts.Fault f) → OneInPart r.puts f old new) → (IsErrOf {T = Unit {0}} (Err e) puts.Memory → SomeWhole r.puts old new)
    → PutsReleaseWhere P (puts_report e) old new
puts-put P (puts.Fault f) r old new some part whole = (r, some, part f refl)
puts-put P puts.Memory r old new some part whole = inr (r, some, whole refl)

pub puts-leave-all : (e : Stop FileRef) (old new : TrayState) → LeavesAll (puts_report e) old new
puts-leave-all (puts.Fault f) old new = tt
puts-leave-all puts.Memory old new = tt

pub puts-cause : (e : Stop FileRef) (old new : ShelfState) (before after : TrayState) → ((f : FileRef) → IsErrOf {T = Unit {0}} (Err e) (puts.Fault f) → HasRisen before.faults after.faults) → FaultsHaveCauses (puts_report e) old new before after
puts-cause (puts.Fault g) old new before after cause = failed-cause g old new before after (cause g refl)
puts-cause puts.Memory old new before after cause = no-memory old new before after

pub puts-come : (e : Stop FileRef) (comes : FileRef → List ℕ → Type 0) (files : Files) (new : ShelfState) → ReachedFile comes (reading_of (puts_report e)) files new
puts-come (puts.Fault g) comes files new = read-comes comes files new
puts-come puts.Memory comes files new = memory-comes comes files new
