-- What a run has put, in the subject's words (own).
use Rattle.std.specs.Prelude.{◌≡◌, ◌⊎◌, ℕ, List, length, Ok}
use Rattle.sdc_base.specs.Counts.{count_after}
use Rattle.office_io.specs.Files.{Files}
use Rattle.office_io.specs.Trays.{TrayState}
use Rattle.job_inputs.specs.ClassifiedJobs.{SettledInputs, settled_of}
use Rattle.job_inputs.specs.SoundJobs.{AreSound, IsSoundJob}
use Rattle.job_inputs.specs.declared.purpose.Purpose.TheVariants as purpose
use Rattle.job_run.specs.Endings.{IsReleaseOf}
use Rattle.job_run.specs.FileCounts.{file_count}
use Rattle.job_run.specs.Puts.{AllWhole, OneInPart, SomeWhole}
use Rattle.job_run.specs.declared.put.Release.{Release}
use Rattle.job_run.specs.declared.report.Report.{Report}
use Rattle.job_run.specs.declared.report.Report.TheVariants as report
use Rattle.job_run.specs.declared.report.Summary.{Summary}

-- ---- of told files

-- The tray holds this release of the told files: it is one of their settled inputs, and each of its files was put once,
-- the certificate's, that of its contributors where the job names one, and one for each table of the job.
pub record HasReleased (files : Files) (name : List ℕ) (release : Release) (old new : TrayState) : Type 0 where
  pub settled : SettledInputs
  pub read : settled_of purpose.Release files name ≡ Ok settled
  pub sound : IsSoundJob settled.inputs.described
  pub is_release : IsReleaseOf settled release
  pub put : AllWhole release.puts old new
  pub one_put_each : new.puts ≡ count_after old.puts (file_count settled.inputs.described.job)

-- The tray holds a release of the told files, and the folder is as it was but for its certificate, its contributors' file
-- where the job names one, and its tables. Where the job hides, a hidden set protects their settled inputs, as the
-- certificate shows, and where it names a file for contributors, the set with the extra cells guards against them;
-- exactly these cells are hidden, and every other shows its truth. Where it rounds, every cell of every table shows its
-- value of one rounding. Each file was put once, and the numbers are those of the release.
pub record Releases (files : Files) (name : List ℕ) (summary : Summary) (old new : TrayState) : Type 0 where
  pub settled : SettledInputs
  pub release : Release
  pub read : settled_of purpose.Release files name ≡ Ok settled
  pub sound : IsSoundJob settled.inputs.described
  pub is_release : IsReleaseOf settled release
  pub numbers : summary ≡ release.summary
  pub put : AllWhole release.puts old new
  pub one_put_each : new.puts ≡ count_after old.puts (file_count settled.inputs.described.job)

-- ---- whatever shelf and tray tell

-- a release of some inputs within their limits: a file for the certificate, one for contributors where the job names it,
-- and one for each table
pub record IsSomeRelease (release : Release) : Type 0 where
  pub settled : SettledInputs
  pub sound : AreSound settled.inputs
  pub is_release : IsReleaseOf settled release
  pub one_each : length release.puts ≡ file_count settled.inputs.described.job

-- What was put of a release of which this holds: it whole, with these numbers, or a part of it, or nothing. No file was
-- put twice.
abbrev pub PutsReleaseWhere : (Release → Type 0) → Report → TrayState → TrayState → Type 0
PutsReleaseWhere Holds (report.Released summary) old new =
    (release : Release) × Holds release × (release.summary ≡ summary) × AllWhole release.puts old new
PutsReleaseWhere Holds (report.WriteFault file) old new =
    (release : Release) × Holds release × OneInPart release.puts file old new
PutsReleaseWhere Holds report.Memory old new =
    (new ≡ old) ⊎ ((release : Release) × Holds release × SomeWhole release.puts old new)
PutsReleaseWhere Holds other old new = new ≡ old
