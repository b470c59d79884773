-- What stops a run for a file of tables, and what that says of the reading of its files.
use Rattle.std.proofs.Common.{◌≡◌, ◌⊎◌, inl, inr, ℕ, List, Option, Some, Result, Ok, Err, refl, subst}
use Rattle.sdc_base.specs.Answers.{Fails}
use Rattle.office_io.specs.Files.{Files}
use Rattle.office_io.specs.Shelves.{ShelfState}
use Rattle.cert_check.specs.FirstFault.{check_fault_of}
use Rattle.cert_check.specs.declared.faults.CheckFault.{CheckFault}
use Rattle.cert_check.specs.declared.faults.CheckFault.TheVariants as check
use Rattle.job_inputs.specs.Reading.{HasCause, ReachedFile}
use Rattle.job_inputs.specs.SoundJobs.{AreSound}
use Rattle.job_inputs.specs.declared.faults.Fault.{Fault}
use Rattle.job_inputs.specs.declared.file_ref.FileRef.{FileRef}
use Rattle.job_inputs.specs.declared.settled.ClassifiedJob.{ClassifiedJob}
use Rattle.job_inputs.specs.declared.stop.InputStop.TheVariants as input
use Rattle.published_tables.specs.TableFiles.{FileOfTables, ComesFrom, IsTablesAnswer, IsAnswerOfSome}
use Rattle.published_tables.specs.TableStops.{memory_stop, check_stop, reading_of}
use Rattle.published_tables.specs.TablesOnShelf.{ShelvedTables}
use Rattle.published_tables.specs.declared.table_stop.TableStop.{TableStop}
use Rattle.published_tables.specs.declared.table_stop.TableStop.TheVariants as stop

-- ---- reading that names no file

-- want of memory needs no cause
memory_cause : {X : Type 0} (old new : ShelfState) → HasCause {X = X} (Err input.Memory) old new
memory_cause old new = record { absent = λ f is. absurd cc; too_long = λ f is. absurd cc; read_fault = λ f is. absurd cc; tree = λ f is. absurd cc }

-- and came at no file
memory_comes : {X : Type 0} (comes : FileRef → List ℕ → Type 0) (files : Files) (new : ShelfState) → ReachedFile {X = X} comes (Err input.Memory) files new
memory_comes comes files new = λ f is. absurd cc

-- nor does what was read to its end
read_cause : (old new : ShelfState) → HasCause {X = Unit {0}} (Ok tt) old new
read_cause old new = record { absent = λ f is. absurd cc; too_long = λ f is. absurd cc; read_fault = λ f is. absurd cc; tree = λ f is. absurd cc }

read_comes : (comes : FileRef → List ℕ → Type 0) (files : Files) (new : ShelfState) → ReachedFile {X = Unit {0}} comes (Ok tt) files new
read_comes comes files new = λ f is. absurd cc

-- ---- faults of the tables

-- a fault of the tables is want of memory, or a stop for that fault
table_is : (e : CheckFault) → (check_stop e ≡ memory_stop) ⊎ ((check_stop e ≡ stop.NotAccepted e) × (check_fault_of e ≡ Some e))
table_is check.Counts = inr (refl, refl)
table_is check.Method = inr (refl, refl)
table_is (check.PrimaryShown cell) = inr (refl, refl)
table_is (check.FixedHidden cell) = inr (refl, refl)
table_is (check.Release table line) = inr (refl, refl)
table_is (check.Step k) = inr (refl, refl)
table_is (check.RepairCell k) = inr (refl, refl)
table_is (check.Repair k why) = inr (refl, refl)
table_is (check.Outside cell) = inr (refl, refl)
table_is (check.WorldCell k) = inr (refl, refl)
table_is (check.World k why) = inr (refl, refl)
table_is (check.NotReached cell side) = inr (refl, refl)
table_is (check.NeedCell k) = inr (refl, refl)
table_is (check.Need k why) = inr (refl, refl)
table_is (check.Rounded cell) = inr (refl, refl)
table_is (check.Relation number) = inr (refl, refl)
table_is check.Memory = inl refl

-- so it stops the run for the first fault of the tables
pub table_stops : {A X F : Type 0} (kind : FileOfTables X F) (meant : Result A CheckFault) (shelved : Result ShelvedTables Fault) (e : CheckFault) → Fails (check_fault_of e) meant
    → ((why : CheckFault) → meant ≡ Err why → IsTablesAnswer kind shelved (Err (stop.NotAccepted why))) → IsTablesAnswer kind shelved (Err (check_stop e))
table_stops {A} kind meant shelved e fails make = elim (table_is e) [
  | inl memory ↦ rw memory tt
  | inr own ↦ rw (own.0) (make e (subst (λ (o : Option CheckFault). Fails o meant) own.1 fails))
]

-- and is found so over any shelf
pub table_found : {A X F : Type 0} (kind : FileOfTables X F) (meant : Result A CheckFault) (e : CheckFault) → Fails (check_fault_of e) meant
    → ((why : CheckFault) → meant ≡ Err why → (shelved : ShelvedTables) × AreSound shelved.settled.inputs × IsTablesAnswer kind (Ok shelved) (Err (stop.NotAccepted why))) → IsAnswerOfSome kind (Err (check_stop e))
table_found {A} kind meant e fails make = elim (table_is e) [
  | inl memory ↦ rw memory tt
  | inr own ↦ rw (own.0) (make e (subst (λ (o : Option CheckFault). Fails o meant) own.1 fails))
]

-- it needs no cause of the shelf
pub table_cause : (F : Type 0) (e : CheckFault) (old new : ShelfState) → HasCause (reading_of {File = F} (Err (check_stop e))) old new
table_cause F e old new = elim (table_is e) [
  | inl memory ↦ rw memory (memory_cause old new)
  | inr own ↦ rw (own.0) (read_cause old new)
]

-- and came at no file
pub table_comes_to : (F : Type 0) (e : CheckFault) (comes : FileRef → List ℕ → Type 0) (files : Files) (new : ShelfState) → ReachedFile comes (reading_of {File = F} (Err (check_stop e))) files new
table_comes_to F e comes files new = elim (table_is e) [
  | inl memory ↦ rw memory (memory_comes comes files new)
  | inr own ↦ rw (own.0) (read_comes comes files new)
]

-- ---- what the tables show

-- what stops the kind for what tables show needs no cause of the shelf
pub shown_cause : {X F : Type 0} (kind : FileOfTables X F) (job : ClassifiedJob) (shown : X) (r : Result F TableStop) (old new : ShelfState) → ComesFrom kind job shown r → HasCause (reading_of r) old new
shown_cause kind job shown (Ok file) old new comes = read_cause old new
shown_cause kind job shown (Err (stop.Inputs (input.Refused f))) old new comes = absurd comes
shown_cause kind job shown (Err (stop.Inputs (input.ReadFault f))) old new comes = absurd comes
shown_cause kind job shown (Err (stop.Inputs input.Memory)) old new comes = memory_cause old new
shown_cause kind job shown (Err (stop.NotAccepted e)) old new comes = read_cause old new
shown_cause kind job shown (Err (stop.Undecided e)) old new comes = read_cause old new

-- and came at no file
pub shown_comes_to : {X F : Type 0} (kind : FileOfTables X F) (job : ClassifiedJob) (shown : X) (r : Result F TableStop) (to : FileRef → List ℕ → Type 0) (files : Files) (new : ShelfState) → ComesFrom kind job shown r → ReachedFile to (reading_of r) files new
shown_comes_to kind job shown (Ok file) to files new comes = read_comes to files new
shown_comes_to kind job shown (Err (stop.Inputs (input.Refused f))) to files new comes = absurd comes
shown_comes_to kind job shown (Err (stop.Inputs (input.ReadFault f))) to files new comes = absurd comes
shown_comes_to kind job shown (Err (stop.Inputs input.Memory)) to files new comes = memory_comes to files new
shown_comes_to kind job shown (Err (stop.NotAccepted e)) to files new comes = read_comes to files new
shown_comes_to kind job shown (Err (stop.Undecided e)) to files new comes = read_comes to files new
