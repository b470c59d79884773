-- The release that a check accepts, as it was read (own).
use Rattle.std.specs.Prelude.{◌≡◌, Result, Ok, Err, IsOkAnd}
use Rattle.modular_plan.specs.Plans.{IsSameButHidden}
use Rattle.job_inputs.specs.SoundJobs.{AreSound}
use Rattle.job_inputs.specs.declared.faults.Fault.{Fault}
use Rattle.job_check.specs.Answers.{IsReleaseCheckAnswer, IsRightRelease}
use Rattle.job_check.specs.Reading.{IsReadyRelease, IsReleasedOf}
use Rattle.job_check.specs.ReleaseFiles.{ReleasedFiles}
use Rattle.job_check.specs.declared.reading.ReadRelease.{ReadRelease}
use Rattle.job_check.specs.declared.stop.CheckStop.{CheckStop}

-- what was read is some release, whose inputs are sound
pub record IsReadOf (read : ReadRelease) : Type 0 where
  pub released : ReleasedFiles
  pub is : IsReleasedOf released read
  pub sound : AreSound released.settled.inputs

-- a release that was read is another one, but for which cells of its book are marked as hidden
pub record IsSameRelease (old new : ReadRelease) : Type 0 where
  pub described : new.job.described ≡ old.job.described
  pub book : IsSameButHidden old.job.book new.job.book
  pub cells : new.job.cells ≡ old.job.cells
  pub rows : new.job.rows ≡ old.job.rows
  pub records : new.job.records ≡ old.job.records
  pub skipped : new.job.skipped ≡ old.job.skipped
  pub certificate : new.certificate ≡ old.certificate
  pub extra : new.extra ≡ old.extra
  pub tables : new.tables ≡ old.tables

-- what was read is this release, and it is accepted
pub record IsAcceptedAs (released : ReleasedFiles) (read : ReadRelease) : Type 0 where
  pub is : IsReleasedOf released read
  pub accepted : IsRightRelease released

-- what was read is ready, and is some release with sound inputs that is accepted
pub record IsAcceptedRead (read : ReadRelease) : Type 0 where
  pub ready : IsReadyRelease read
  pub released : ReleasedFiles
  pub accepted : IsAcceptedAs released read
  pub sound : AreSound released.settled.inputs

-- the answer of a check that gives what it accepts; where it doesn't accept, it is that of a check
abbrev pub IsReadReleaseAnswer : Result ReleasedFiles Fault → Result ReadRelease CheckStop → Type 0
IsReadReleaseAnswer outcome (Ok read) = IsOkAnd outcome (λ released. IsAcceptedAs released read)
IsReadReleaseAnswer outcome (Err stop) = IsReleaseCheckAnswer outcome (Err stop)
