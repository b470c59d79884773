-- What a check answers of the files of a job (own).
use Rattle.std.specs.Prelude.{◌≡◌, ◌≢◌, ℕ, true, false, List, Option, None, Some, Result, Ok, Err, IsOkAnd}
use Rattle.sdc_base.specs.Answers.{Fails}
use Rattle.attackers.specs.declared.faults.ExtraFault.{ExtraFault}
use Rattle.attackers.specs.declared.faults.ExtraFault.TheVariants as extra_fault
use Rattle.cert_check.specs.Acceptance.{IsAccepted, IsOfCase, IsRoundedRelease}
use Rattle.cert_check.specs.Cases.{IsCase}
use Rattle.cert_check.specs.FirstFault.{acceptance_fault}
use Rattle.cert_check.specs.Methods.{rounds_cells}
use Rattle.cert_check.specs.declared.case.Case.{Case}
use Rattle.cert_check.specs.declared.faults.CheckFault.{CheckFault}
use Rattle.cert_check.specs.declared.faults.CheckFault.TheVariants as fault
use Rattle.certificate.specs.declared.extra.Extra.{Extra}
use Rattle.job_inputs.specs.Reading.{stopped_for}
use Rattle.job_inputs.specs.declared.faults.Fault.{Fault}
use Rattle.job_inputs.specs.declared.stop.InputStop.TheVariants as input
use Rattle.job_check.specs.Cases.{IsCaseOf}
use Rattle.job_check.specs.GuardedReleases.{guarded_fault, AreSolesOf, IsForFault, IsRightGuarding}
use Rattle.job_check.specs.ReleaseFiles.{ReleasedFiles}
use Rattle.job_check.specs.declared.stop.CheckStop.{CheckStop}
use Rattle.job_check.specs.declared.stop.CheckStop.TheVariants as stop

-- The release is accepted: for the case of its settled inputs its certificate has no fault. So its method and counts
-- are those of the case; where cells are hidden, the certificate shows that they protect the primary ones, and where
-- the method rounds, the tables are a rounding to the base.
pub record IsAcceptedRelease (released : ReleasedFiles) : Type 0 where
  pub case : Case
  pub is_case : IsCaseOf released.settled case
  pub fits : IsCase case released.tables
  pub no_fault : acceptance_fault case released.tables released.certificate ≡ Ok tt
  pub of_case : IsOfCase case released.certificate
  pub suppressed : rounds_cells case.method ≡ false → IsAccepted case released.tables released.certificate
  pub rounded : rounds_cells case.method ≡ true → IsRoundedRelease case released.tables released.certificate

-- The release has this fault, the first of its certificate for the case of its settled inputs; it isn't want of memory.
pub record IsNotAccepted (released : ReleasedFiles) (why : CheckFault) : Type 0 where
  pub case : Case
  pub is_case : IsCaseOf released.settled case
  pub fits : IsCase case released.tables
  pub first : acceptance_fault case released.tables released.certificate ≡ Err why
  pub not_memory : why ≢ fault.Memory

-- The release is accepted with its extra cells: for the case of its settled inputs and the records that alone make up
-- its cells it has no fault. So the certificate shows that its own set protects, the tables hide exactly that set and the
-- extra cells, each of which is needed, and these guard against every contributor.
pub record IsAcceptedWithExtra (released : ReleasedFiles) (extra : Extra) : Type 0 where
  pub case : Case
  pub is_case : IsCaseOf released.settled case
  pub fits : IsCase case released.tables
  pub soles : List (Option ℕ)
  pub are_soles : AreSolesOf case released.settled.inputs.records.rows soles
  pub no_fault : guarded_fault case soles released.tables released.certificate extra ≡ Ok tt
  pub shows : IsRightGuarding case soles released.tables released.certificate extra

-- The release with its extra cells has this fault, the first one; it isn't want of memory.
pub record IsNotAcceptedWithExtra (released : ReleasedFiles) (extra : Extra) (why : CheckStop) : Type 0 where
  pub case : Case
  pub is_case : IsCaseOf released.settled case
  pub fits : IsCase case released.tables
  pub soles : List (Option ℕ)
  pub are_soles : AreSolesOf case released.settled.inputs.records.rows soles
  pub first : guarded_fault case soles released.tables released.certificate extra ≡ Err why
  pub not_memory : IsForFault why

-- the release is accepted, with the extra cells of its contributors' file where its job names one
abbrev pub IsAcceptedWith : Option Extra → ReleasedFiles → Type 0
IsAcceptedWith None released = IsAcceptedRelease released
IsAcceptedWith (Some extra) released = IsAcceptedWithExtra released extra

-- the release has this fault, with those extra cells; what stops the inputs is no fault of a release
abbrev pub IsNotAcceptedWith : Option Extra → ReleasedFiles → CheckStop → Type 0
IsNotAcceptedWith None released (stop.NotAccepted why) = IsNotAccepted released why
IsNotAcceptedWith None released other = ⊥
IsNotAcceptedWith (Some extra) released why = IsNotAcceptedWithExtra released extra why

-- the release is accepted with what its job names
abbrev pub IsRightRelease : ReleasedFiles → Type 0
IsRightRelease released = IsAcceptedWith released.extra released

-- the release has this fault
abbrev pub IsFaultyRelease : CheckStop → ReleasedFiles → Type 0
IsFaultyRelease why released = IsNotAcceptedWith released.extra released why

-- the answer to whether a release is accepted, or want of memory
abbrev pub IsJudgementOf : ReleasedFiles → Result (Unit {0}) CheckStop → Type 0
IsJudgementOf released (Ok fine) = IsRightRelease released
IsJudgementOf released (Err (stop.Inputs why)) = why ≡ input.Memory
IsJudgementOf released (Err why) = IsFaultyRelease why released

-- a fault of a certificate with its tables as a stop of the check; want of memory is one of the inputs
abbrev pub stop_for : CheckFault → CheckStop
stop_for fault.Memory = stop.Inputs input.Memory
stop_for other = stop.NotAccepted other

-- a fault of extra cells as a stop of the check; want of memory is one of the inputs
abbrev pub guard_stop_for : ExtraFault → CheckStop
guard_stop_for extra_fault.Memory = stop.Inputs input.Memory
guard_stop_for other = stop.NotGuarded other

-- The answer of a check of files that come to a release or to a first fault: the release is accepted, or has this
-- fault, or the files have theirs. Want of memory and faults of the shelf say nothing of them.
abbrev pub IsReleaseCheckAnswer : Result ReleasedFiles Fault → Result (Unit {0}) CheckStop → Type 0
IsReleaseCheckAnswer outcome (Ok fine) = IsOkAnd outcome IsRightRelease
IsReleaseCheckAnswer outcome (Err (stop.Inputs why)) = Fails (stopped_for why) outcome
IsReleaseCheckAnswer outcome (Err why) = IsOkAnd outcome (IsFaultyRelease why)
