-- What the tables of a job come to when a file is made of them, be it of their intervals or of their audit (own).
use Rattle.std.specs.Prelude.{◌≡◌, ◌⊎◌, ℕ, List, Result, Ok, Err, IsOkAnd}
use Rattle.sdc_base.specs.Answers.{Fails}
use Rattle.interval_audit.specs.declared.answer.AskFault.{AskFault}
use Rattle.cert_check.specs.declared.faults.CheckFault.{CheckFault}
use Rattle.job_inputs.specs.Reading.{stopped_for}
use Rattle.job_inputs.specs.ClassifiedJobs.{IsSettledOf}
use Rattle.job_inputs.specs.SoundJobs.{AreSound}
use Rattle.job_inputs.specs.declared.faults.Fault.{Fault}
use Rattle.job_inputs.specs.declared.settled.ClassifiedJob.{ClassifiedJob}
use Rattle.job_inputs.specs.declared.stop.InputStop.TheVariants as input
use Rattle.published_tables.specs.TablesOnShelf.{ShelvedTables}
use Rattle.published_tables.specs.declared.table_stop.TableStop.{TableStop}
use Rattle.published_tables.specs.declared.table_stop.TableStop.TheVariants as stop

-- A kind of file that is made of tables: what they show, or their first fault; and then which file is made of what
-- they show, which fault that has, and why the file can't be made of it, since a question has no answer.
pub record FileOfTables (Shown File : Type 0) : Type 1 where
  pub read : ClassifiedJob → List (List ℕ) → Result Shown CheckFault
  pub is_file : ClassifiedJob → Shown → File → Type 0
  pub has_fault : ClassifiedJob → Shown → CheckFault → Type 0
  pub is_stuck : ClassifiedJob → Shown → AskFault → Type 0

-- the answer for what tables show: the file, the fault, or why a question has no answer, want of memory aside
abbrev pub ComesFrom : {Shown File : Type 0} → FileOfTables Shown File → ClassifiedJob → Shown → Result File TableStop
    → Type 0
ComesFrom kind job shown (Ok file) = kind.is_file job shown file
ComesFrom kind job shown (Err (stop.Inputs input.Memory)) = Unit {0}
ComesFrom kind job shown (Err (stop.Inputs why)) = ⊥
ComesFrom kind job shown (Err (stop.NotAccepted why)) = kind.has_fault job shown why
ComesFrom kind job shown (Err (stop.Undecided why)) = kind.is_stuck job shown why

-- the tables of a job show something, of which this holds
pub record IsShownBy {Shown : Type 0} (read : ClassifiedJob → List (List ℕ) → Result Shown CheckFault)
    (shelved : ShelvedTables) (P : ClassifiedJob → Shown → Type 0) : Type 0 where
  pub job : ClassifiedJob
  pub shown : Shown
  pub job_is : IsSettledOf shelved.settled job
  pub shown_is : read job shelved.tables ≡ Ok shown
  pub holds : P job shown

-- the tables of a job can't be read, and this is their first fault
pub record HaveReadingFault {Shown : Type 0} (read : ClassifiedJob → List (List ℕ) → Result Shown CheckFault)
    (shelved : ShelvedTables) (why : CheckFault) : Type 0 where
  pub job : ClassifiedJob
  pub job_is : IsSettledOf shelved.settled job
  pub first : read job shelved.tables ≡ Err why

-- this file is made of the tables of a job
abbrev pub IsFileOf : {Shown File : Type 0} → FileOfTables Shown File → ShelvedTables → File → Type 0
IsFileOf kind shelved file = IsShownBy kind.read shelved (λ job shown. kind.is_file job shown file)

-- this is the first fault of the tables of a job: they can't be read, or else what they show has it
abbrev pub AreRefusedFor : {Shown File : Type 0} → FileOfTables Shown File → ShelvedTables → CheckFault → Type 0
AreRefusedFor kind shelved why =
    HaveReadingFault kind.read shelved why
    ⊎ IsShownBy kind.read shelved (λ job shown. kind.has_fault job shown why)

-- the tables of a job show something, and this is why no file is made of it
abbrev pub IsUndecidedFor : {Shown File : Type 0} → FileOfTables Shown File → ShelvedTables → AskFault → Type 0
IsUndecidedFor kind shelved why = IsShownBy kind.read shelved (λ job shown. kind.is_stuck job shown why)

-- What the run answers, by what the told files come to: the first fault of the inputs, of the name of the file to be
-- put and of the tables' files; or else the first fault of the tables, the first question without an answer, or the
-- file. Faults of the shelf and want of memory say nothing of the files.
abbrev pub IsTablesAnswer : {Shown File : Type 0} → FileOfTables Shown File → Result ShelvedTables Fault
    → Result File TableStop → Type 0
IsTablesAnswer kind shelved (Ok file) = IsOkAnd shelved (λ one. IsFileOf kind one file)
IsTablesAnswer kind shelved (Err (stop.Inputs why)) = Fails (stopped_for why) shelved
IsTablesAnswer kind shelved (Err (stop.NotAccepted why)) = IsOkAnd shelved (λ one. AreRefusedFor kind one why)
IsTablesAnswer kind shelved (Err (stop.Undecided why)) = IsOkAnd shelved (λ one. IsUndecidedFor kind one why)

-- Whatever the shelf tells: an answer that doesn't stop the inputs is one that some inputs within their limits come to,
-- with some tables.
abbrev pub IsAnswerOfSome : {Shown File : Type 0} → FileOfTables Shown File → Result File TableStop → Type 0
IsAnswerOfSome kind (Err (stop.Inputs why)) = Unit {0}
IsAnswerOfSome kind other =
    (shelved : ShelvedTables) × AreSound shelved.settled.inputs × IsTablesAnswer kind (Ok shelved) other
