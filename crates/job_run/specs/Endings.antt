-- What settled inputs come to: a release by the job's method, or why none is found (own).
use Rattle.std.specs.Prelude.{◌≡◌, ℕ, List, [], Option, None, Some, Result, Ok, Err, ℤ}
use Rattle.attackers.specs.declared.extra.Against.{Against}
use Rattle.cell_protection.specs.declared.protection.ProtectionOutcome.TheVariants as protection
use Rattle.interval_audit.specs.declared.answer.AskFault.{AskFault}
use Rattle.interval_audit.specs.declared.answer.AskFault.TheVariants as ask
use Rattle.job_lang.specs.declared.job.OutputLine.{OutputLine}
use Rattle.worlds.specs.declared.refuted.Refuted.{Refuted}
use Rattle.job_inputs.specs.ClassifiedJobs.{SettledInputs, IsSettledOf}
use Rattle.job_inputs.specs.declared.settled.ClassifiedJob.{ClassifiedJob}
use Rattle.job_run.specs.CommandRuns.{Ends}
use Rattle.job_run.specs.GuardedReleases.{IsGuardedRelease, GuardStopsShort, HasNoGuard}
use Rattle.job_run.specs.Protections.{IsProtectionFor, IsSuppressedRelease, ProtectionStopsShort}
use Rattle.job_run.specs.Releases.{summary_of}
use Rattle.job_run.specs.Roundings.{job_base, HasNoRounding, IsReleaseOfRounding, SearchStops}
use Rattle.job_run.specs.declared.put.Release.{Release}
use Rattle.job_run.specs.declared.report.Report.{Report}
use Rattle.job_run.specs.declared.report.Report.TheVariants as report
use Rattle.job_run.specs.declared.report.Stuck.{Stuck}
use Rattle.job_run.specs.declared.report.Stuck.TheVariants as stuck
use Rattle.job_run.specs.declared.report.Summary.{Summary}

-- a release of settled inputs whose cells are hidden: where the job names a file for contributors, it is guarded
abbrev pub IsHidingRelease : Option OutputLine → SettledInputs → Release → Type 0
IsHidingRelease None settled release = IsSuppressedRelease settled release
IsHidingRelease (Some line) settled release = IsGuardedRelease settled release

-- a release of settled inputs where cells are hidden, or where they are rounded to a base
abbrev pub IsReleaseBy : Option ℤ → SettledInputs → Release → Type 0
IsReleaseBy None settled release = IsHidingRelease settled.inputs.described.job.contributors settled release
IsReleaseBy (Some base) settled release = IsReleaseOfRounding settled base release

-- a release of settled inputs by the job's method
abbrev pub IsReleaseOf : SettledInputs → Release → Type 0
IsReleaseOf settled release = IsReleaseBy (job_base settled.inputs.described) settled release

-- a question stopped short, with these repairs and these cells shown: one of the protection, or one against a contributor
abbrev pub StopsShort : SettledInputs → AskFault → List Refuted → List ℕ → Option Against → Type 0
StopsShort settled fault repairs shown None = ProtectionStopsShort settled fault repairs shown
StopsShort settled fault repairs shown (Some against) = GuardStopsShort settled fault repairs shown against

-- It isn't decided what settled inputs come to: where the job hides, a question stopped short, with these repairs and
-- these cells shown again; where it rounds, the search for a rounding did, both lists are empty, and it is against no
-- contributor.
abbrev pub IsUndecided : SettledInputs → Stuck → List Refuted → List ℕ → Option Against → Type 0
IsUndecided settled (stuck.Work walk) repairs shown against = StopsShort settled (ask.Work walk) repairs shown against
IsUndecided settled (stuck.Wide walk place) repairs shown against = StopsShort settled (ask.Wide walk place) repairs
    shown against
IsUndecided settled (stuck.Size question hidden) repairs shown against =
    StopsShort settled (ask.Size question hidden) repairs shown against
IsUndecided settled (stuck.Nodes nodes) repairs shown against =
    SearchStops settled nodes × (repairs ≡ []) × (shown ≡ []) × (against ≡ None)

-- by what settled inputs come to no release: a cell that can't be protected or guarded, that there is no rounding, or a
-- question or a search that stopped short
abbrev pub IsEndWithoutRelease : Ends SettledInputs
IsEndWithoutRelease Holds (report.Cannot cell side multipliers) = Holds (λ settled.
    IsProtectionFor settled (protection.Cannot (record { cell = cell; side = side; multipliers = multipliers })))
IsEndWithoutRelease Holds (report.CannotAgainst row cell side multipliers) = Holds (λ settled.
    HasNoGuard settled row cell side multipliers)
IsEndWithoutRelease Holds report.NoRounding = Holds HasNoRounding
IsEndWithoutRelease Holds (report.Undecided why repairs shown against) = Holds (λ settled.
    IsUndecided settled why repairs shown against)
IsEndWithoutRelease Holds other = ⊥

-- settled inputs come to this release, or to such an end, which says of them what is so, or memory is wanted
abbrev pub ComesToRelease : SettledInputs → Result Release Report → Type 0
ComesToRelease settled (Ok release) = IsReleaseOf settled release
ComesToRelease settled (Err report.Memory) = Unit {0}
ComesToRelease settled (Err end) = IsEndWithoutRelease (λ says. says settled) end

-- settled inputs of this job, whose numbers are these while no cell is hidden, come to this
abbrev pub JobComesToRelease : ClassifiedJob → Summary → Result Release Report → Type 0
JobComesToRelease job unhidden result =
    (settled : SettledInputs) → IsSettledOf settled job → unhidden ≡ summary_of settled 0
    → ComesToRelease settled result
