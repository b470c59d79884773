-- What a run for a file of tables answers, by what its told files come to.
use Rattle.std.proofs.Common.{◌≡◌, inl, inr, ℕ, List, Result, Ok, Err, refl, subst}
use Rattle.cert_check.specs.declared.faults.CheckFault.{CheckFault}
use Rattle.job_inputs.specs.SoundJobs.{AreSound}
use Rattle.job_inputs.specs.declared.faults.Fault.{Fault}
use Rattle.job_inputs.specs.declared.settled.ClassifiedJob.{ClassifiedJob}
use Rattle.job_inputs.specs.declared.stop.InputStop.TheVariants as input
use Rattle.published_tables.specs.TableFiles.{FileOfTables, ComesFrom, IsTablesAnswer, IsAnswerOfSome, IsShownBy}
use Rattle.published_tables.specs.TablesOnShelf.{ShelvedTables, IsShelvedOf}
use Rattle.published_tables.specs.declared.shelved.ShelvedJob.{ShelvedJob}
use Rattle.published_tables.specs.declared.table_stop.TableStop.{TableStop}
use Rattle.published_tables.specs.declared.table_stop.TableStop.TheVariants as stop

-- the first fault of the tables that were read is that of the told tables
pub refused_for : {X F : Type 0} (kind : FileOfTables X F) (meant : Result ShelvedTables Fault) (one : ShelvedTables) (shelved : ShelvedJob) (why : CheckFault) → meant ≡ Ok one → IsShelvedOf one shelved → kind.read shelved.job shelved.tables ≡ Err why
    → IsTablesAnswer kind meant (Err (stop.NotAccepted why))
refused_for kind meant one shelved why is own first =
    rw is (inl (record { job = shelved.job; job_is = own.settled; first = subst (λ (tables : List (List ℕ)). kind.read shelved.job tables ≡ Err why) own.tables first }))

-- what the tables that were read show, the told tables do
shown_by : {X : Type 0} (read : ClassifiedJob → List (List ℕ) → Result X CheckFault) (one : ShelvedTables) (shelved : ShelvedJob) (shown : X) (P : ClassifiedJob → X → Type 0) → IsShelvedOf one shelved → read shelved.job shelved.tables ≡ Ok shown → P shelved.job shown
    → IsShownBy read one P
shown_by read one shelved shown P own is holds = record {
  job = shelved.job;
  shown = shown;
  job_is = own.settled;
  shown_is = subst (λ (tables : List (List ℕ)). read shelved.job tables ≡ Ok shown) own.tables is;
  holds = holds;
}

-- and so they come to what that comes to
pub shown_comes : {X F : Type 0} (kind : FileOfTables X F) (meant : Result ShelvedTables Fault) (one : ShelvedTables) (shelved : ShelvedJob) (shown : X) (r : Result F TableStop) → meant ≡ Ok one → IsShelvedOf one shelved → kind.read shelved.job shelved.tables ≡ Ok shown
    → ComesFrom kind shelved.job shown r → IsTablesAnswer kind meant r
shown_comes kind meant one shelved shown (Ok file) is own reads comes = rw is (shown_by kind.read one shelved shown _ own reads comes)
shown_comes kind meant one shelved shown (Err (stop.Inputs (input.Refused f))) is own reads comes = absurd comes
shown_comes kind meant one shelved shown (Err (stop.Inputs (input.ReadFault f))) is own reads comes = absurd comes
shown_comes kind meant one shelved shown (Err (stop.Inputs input.Memory)) is own reads comes = tt
shown_comes kind meant one shelved shown (Err (stop.NotAccepted why)) is own reads comes = rw is (inr (shown_by kind.read one shelved shown _ own reads comes))
shown_comes kind meant one shelved shown (Err (stop.Undecided why)) is own reads comes = rw is (shown_by kind.read one shelved shown _ own reads comes)

-- and it is found so over any shelf
pub shown_found : {X F : Type 0} (kind : FileOfTables X F) (one : ShelvedTables) (shelved : ShelvedJob) (shown : X) (r : Result F TableStop) → AreSound one.settled.inputs → IsShelvedOf one shelved → kind.read shelved.job shelved.tables ≡ Ok shown
    → ComesFrom kind shelved.job shown r → IsAnswerOfSome kind r
shown_found kind one shelved shown (Ok file) sound own reads comes = (one, sound, shown_comes kind (Ok one) one shelved shown (Ok file) refl own reads comes)
shown_found kind one shelved shown (Err (stop.Inputs why)) sound own reads comes = tt
shown_found kind one shelved shown (Err (stop.NotAccepted why)) sound own reads comes = (one, sound, shown_comes kind (Ok one) one shelved shown (Err (stop.NotAccepted why)) refl own reads comes)
shown_found kind one shelved shown (Err (stop.Undecided why)) sound own reads comes = (one, sound, shown_comes kind (Ok one) one shelved shown (Err (stop.Undecided why)) refl own reads comes)
