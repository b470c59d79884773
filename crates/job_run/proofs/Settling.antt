-- What a report says in the subject's words.
use Rattle.std.proofs.Common.{◌≡◌, ℕ, List, length, ◌∙◌, Ok, refl, ap, subst}
use Rattle.sdc_base.specs.Counts.{count_after}
use Rattle.office_io.specs.Files.{Files}
use Rattle.office_io.specs.Trays.{TrayState}
use Rattle.job_inputs.specs.ClassifiedJobs.{SettledInputs, settled_of}
use Rattle.job_inputs.specs.SoundJobs.{AreSound, IsSoundJob}
use Rattle.job_inputs.specs.declared.described.DescribedJob.{DescribedJob}
use Rattle.job_inputs.specs.declared.purpose.Purpose.TheVariants as purpose
use Rattle.job_run.specs.Endings.{IsReleaseOf}
use Rattle.job_run.specs.FileCounts.{file_count}
use Rattle.job_run.specs.Puts.{AllWhole}
use Rattle.job_run.specs.PutReleases.{Releases, HasReleased, IsSomeRelease}
use Rattle.job_run.specs.declared.put.Release.{Release}

-- a release is what its record says
pub release-is : (files : Files) (name : List ℕ) (settled : SettledInputs) (release : Release) (old new : TrayState) → settled_of purpose.Release files name ≡ Ok settled → IsReleaseOf settled release → AllWhole release.puts old new
    → (described : DescribedJob) → described ≡ settled.inputs.described → length release.puts ≡ file_count described.job → IsSoundJob described → HasReleased files name release old new
release-is files name settled release old new read is whole described same each sound = record {
  settled = settled;
  read = read;
  sound = subst IsSoundJob same sound;
  is_release = is;
  put = whole;
  one_put_each = whole.puts_made ∙ ap (count_after old.puts) (each ∙ ap (λ (d : DescribedJob). file_count d.job) same);
}

-- a release of inputs within their limits is one of some inputs
pub some-release : (settled : SettledInputs) (release : Release) → AreSound settled.inputs → IsReleaseOf settled release → (described : DescribedJob) → described ≡ settled.inputs.described → length release.puts ≡ file_count described.job → IsSomeRelease release
some-release settled release sound is described same each = record { settled = settled; sound = sound; is_release = is; one_each = each ∙ ap (λ (d : DescribedJob). file_count d.job) same }

-- the same, by its numbers
pub releases-by : (files : Files) (name : List ℕ) (release : Release) (old new : TrayState) → HasReleased files name release old new → Releases files name release.summary old new
releases-by files name release old new has = record { settled = has.settled; release = release; read = has.read; sound = has.sound; is_release = has.is_release; numbers = refl; put = has.put; one_put_each = has.one_put_each }
