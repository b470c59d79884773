-- What becomes of settled inputs whose job names a file for contributors (own).
use Rattle.std.specs.Prelude.{◌≡◌, ◌∷◌, ℕ, Bool, List, length, filter, Option, Some, Result, Ok, Err, ℤ}
use Rattle.sdc_base.specs.Records.{Name}
use Rattle.sdc_base.specs.declared.side.Side.{Side}
use Rattle.certificate.specs.Certificates.{certificate_of}
use Rattle.certificate.specs.ExtraReadings.{extra_of}
use Rattle.certificate.specs.ExtraTexts.{extra_text}
use Rattle.certificate.specs.Texts.{text_of}
use Rattle.certificate.specs.declared.certificate.Certificate.{Certificate}
use Rattle.certificate.specs.declared.extra.Extra.{Extra}
use Rattle.attackers.specs.declared.extra.Against.{Against}
use Rattle.contributor_protection.specs.Guards.{IsGuardOf}
use Rattle.contributor_protection.specs.WholeOutcomes.{IsWholeOutcome}
use Rattle.contributor_protection.specs.declared.guarding.GuardedCells.{GuardedCells}
use Rattle.contributor_protection.specs.declared.guarding.GuardFailure.{GuardFailure}
use Rattle.contributor_protection.specs.declared.guarding.GuardFailure.TheVariants as guard_failure
use Rattle.cell_protection.specs.declared.protection.ProtectionOutcome.TheVariants as protection
use Rattle.interval_audit.specs.declared.answer.AskFault.{AskFault}
use Rattle.relations.specs.TableSigns.{IsOneOrTwoWay}
use Rattle.repair.specs.HidingOrder.{protected_case, prices_of}
use Rattle.worlds.specs.Protection.{Protection as HiddenSet}
use Rattle.worlds.specs.declared.multipliers.Multipliers.{Multipliers}
use Rattle.worlds.specs.declared.refuted.Refuted.{Refuted}
use Rattle.job_lang.specs.declared.job.OutputLine.{OutputLine}
use Rattle.job_inputs.specs.ClassifiedJobs.{SettledInputs}
use Rattle.job_inputs.specs.declared.file_ref.FileRef.TheVariants as file
use Rattle.job_inputs.specs.declared.inputs.Inputs.{Inputs}
use Rattle.job_run.specs.Protections.{IsProtectionFor}
use Rattle.job_run.specs.Releases.{shown_in, summary_of, tables_from}
use Rattle.job_run.specs.declared.put.FilePut.{FilePut}
use Rattle.job_run.specs.declared.put.Release.{Release}

-- The job names a file for contributors, a hidden set with this certificate protects its settled inputs, and guarding it
-- against those whose one record makes up a cell comes to this, with the same system, prices and steps. It is in whole
-- units where the job has one table of one variable, or of two flat ones.
pub record IsGuardFor (settled : SettledInputs) (hidden_set : HiddenSet) (certificate : Certificate)
    (outcome : Result GuardedCells GuardFailure) : Type 0 where
  pub line : OutputLine
  pub named : settled.inputs.described.job.contributors ≡ Some line
  pub protects : IsProtectionFor settled (protection.Protected hidden_set certificate)
  pub guards : IsGuardOf protects.job.book settled.inputs.records.rows
      (protected_case protects.system protects.job.cells)
      (prices_of protects.job.described.job.cost protects.job.cells protects.job.book.marks)
      protects.job.described.job.steps hidden_set certificate outcome
  pub whole : IsOneOrTwoWay settled.inputs.records.trees settled.inputs.described.bound.tables → IsWholeOutcome outcome

-- the full set doesn't guard this cell to this side against the contributor at this row, while a hidden set protects
pub record HasNoGuard (settled : SettledInputs) (row cell : ℕ) (side : Side) (multipliers : Multipliers)
    : Type 0 where
  pub hidden_set : HiddenSet
  pub certificate : Certificate
  pub guards : IsGuardFor settled hidden_set certificate (Err (guard_failure.CannotAgainst
      (record { attack = record { row = row; cell = cell; side = side }; multipliers = multipliers })))

-- guarding settled inputs stops short at a question against a contributor, of a hidden set with these repairs and
-- without these cells
pub record GuardStopsShort (settled : SettledInputs) (fault : AskFault) (repairs : List Refuted) (shown : List ℕ)
    (against : Against) : Type 0 where
  pub hidden_set : HiddenSet
  pub certificate : Certificate
  pub guards : IsGuardFor settled hidden_set certificate
      (Err (guard_failure.Undecided (record { fault = fault; repairs = repairs; shown = shown }) against))

-- how many cells a set hides
abbrev pub count_hidden : List Bool → ℕ
count_hidden flags = length (filter (λ flag. flag) flags)

-- what a guarded release puts: first the certificate, then the contributors' file, then the tables in the order of the
-- job
abbrev pub guarded_puts : Inputs → List ℕ → (Name → Option ℤ) → Certificate → Extra → List FilePut
guarded_puts inputs name shown certificate extra =
    record { file = file.Certificate; name = inputs.described.job.certificate; bytes = text_of certificate }
    ∷ record { file = file.Contributors; name = name; bytes = extra_text extra }
    ∷ tables_from inputs shown 0 inputs.described.job.tables inputs.described.job.outputs

-- the same, where the tables hide the cells of a guarded set
abbrev pub puts_of_guarded : Inputs → List ℕ → GuardedCells → List FilePut
puts_of_guarded inputs name guarded =
    guarded_puts inputs name (shown_in inputs guarded.hidden.flags) guarded.certificate guarded.extra

-- A suppressed release of settled inputs that is guarded against contributors: a hidden set protects their primary cells,
-- and with extra cells it guards them against each contributor that alone makes up a cell. Its certificate, the extra
-- cells, the tables that hide both, and their numbers are what the release puts and says. The texts of both are read as
-- what they are of.
pub record IsGuardedRelease (settled : SettledInputs) (release : Release) : Type 0 where
  pub hidden_set : HiddenSet
  pub certificate : Certificate
  pub guarded : GuardedCells
  pub guards : IsGuardFor settled hidden_set certificate (Ok guarded)
  pub read_back : certificate_of (text_of certificate) ≡ Ok certificate
  pub extra_read_back : extra_of (extra_text guarded.extra) ≡ Ok guarded.extra
  pub puts : release.puts ≡ guarded_puts settled.inputs guards.line.file (shown_in settled.inputs guarded.hidden.flags)
      certificate guarded.extra
  pub numbers : release.summary ≡ summary_of settled (count_hidden guarded.hidden.flags)
  pub certificate_is : release.certificate ≡ certificate
