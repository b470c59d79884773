-- What holds of the judgement of releases: what protection writes is accepted, and settled inputs are judged in one way
-- (own).
use Rattle.std.specs.Prelude.{◌≡◌, ℕ, false, List, length, Option, Ok}
use Rattle.sdc_base.specs.declared.system.System.{System}
use Rattle.attackers.specs.Alone.{AreSoles}
use Rattle.attackers.specs.ExtraFaults.{extra_fault}
use Rattle.sdc_base.specs.HiddenSets.{hide_cells}
use Rattle.cell_protection.specs.Protections.{IsProtectedWith}
use Rattle.modular_plan.specs.Methods.{passes_of}
use Rattle.certificate.specs.declared.certificate.Certificate.{Certificate}
use Rattle.certificate.specs.declared.extra.Extra.{Extra}
use Rattle.cert_check.specs.Cases.{IsCase}
use Rattle.cert_check.specs.FirstFault.{acceptance_fault}
use Rattle.cert_check.specs.Methods.{rounds_cells}
use Rattle.cert_check.specs.declared.case.Case.{Case}
use Rattle.modular_plan.specs.Plans.{trail_of}
use Rattle.relations.specs.Holding.{IsSystemOf}
use Rattle.release_writer.specs.ReadingLaws.{AreTexts}
use Rattle.release_writer.specs.ShownCells.{open_truth}
use Rattle.repair.specs.HidingOrder.{protected_case}
use Rattle.worlds.specs.Protection.{Protection as HiddenSet}
use Rattle.job_inputs.specs.ClassifiedJobs.{SettledInputs, IsSettledOf}
use Rattle.job_inputs.specs.declared.settled.ClassifiedJob.{ClassifiedJob}
use Rattle.job_check.specs.Cases.{IsCaseOf}
use Rattle.job_check.specs.GuardedReleases.{guarded_fault, AreSolesOf}

-- the tables of a case hide exactly the cells of this set, and every other cell shows its truth
abbrev pub HideExactly : Case → HiddenSet → List (List ℕ) → Type 0
HideExactly case protected tables =
    AreTexts case.book.now case.decimals (open_truth case.book.now.marks protected.hidden.flags) case.book.now.tables
    case.names.now tables

-- the certificate of a protection of a case has no fault with the tables that hide its set
abbrev pub ProtectionIsAccepted : Type 0
ProtectionIsAccepted =
    (case : Case) (tables : List (List ℕ)) (prices : List ℕ) (protected : HiddenSet) (certificate : Certificate)
    → IsCase case tables → rounds_cells case.method ≡ false
    → IsProtectedWith (protected_case case.system.now case.cells.now) prices case.method case.trail.now.steps protected
    certificate
    → HideExactly case protected tables
    → acceptance_fault case tables certificate ≡ Ok tt

-- cases of the same settled inputs have the same first fault
abbrev pub InputsAreJudgedInOneWay : Type 0
InputsAreJudgedInOneWay =
    (settled : SettledInputs) (one other : Case) (tables : List (List ℕ)) (certificate : Certificate)
    → IsCaseOf settled one → IsCaseOf settled other → IsCase one tables → IsCase other tables
    → acceptance_fault one tables certificate ≡ acceptance_fault other tables certificate

-- Where settled inputs have a protection, with the trail that their job makes, its certificate has no fault for the
-- case of the inputs, with the tables that hide its set: so a check accepts what a run has put, with the same inputs.
abbrev pub WrittenIsAccepted : Type 0
WrittenIsAccepted =
    (settled : SettledInputs) (job : ClassifiedJob) (system : System) (prices : List ℕ) (protected : HiddenSet)
    (certificate : Certificate) (case : Case) (tables : List (List ℕ))
    → IsSettledOf settled job → IsSystemOf job.book system
    → IsProtectedWith (protected_case system job.cells) prices job.described.job.method
    (trail_of job.book job.cells job.described.job.cost (passes_of job.described.job.method)) protected certificate
    → IsCaseOf settled case → IsCase case tables → rounds_cells case.method ≡ false → HideExactly case protected tables
    → acceptance_fault case tables certificate ≡ Ok tt

-- cases of the same settled inputs have the same first fault of a release with extra cells
abbrev pub GuardsAreJudgedInOneWay : Type 0
GuardsAreJudgedInOneWay =
    (settled : SettledInputs) (one other : Case) (soles others : List (Option ℕ)) (tables : List (List ℕ))
    (certificate : Certificate) (extra : Extra)
    → IsCaseOf settled one → IsCaseOf settled other → IsCase one tables → IsCase other tables
    → AreSolesOf one settled.inputs.records.rows soles → AreSolesOf other settled.inputs.records.rows others
    → guarded_fault one soles tables certificate extra ≡ guarded_fault other others tables certificate extra

-- Settled inputs have a protection with this certificate, by the trail that their job makes, and beside its set and its
-- worlds these extra cells have no fault against those who alone make up cells.
pub record AreGuarded (settled : SettledInputs) (prices : List ℕ) (protected : HiddenSet) (certificate : Certificate)
    (extra : Extra) : Type 0 where
  pub job : ClassifiedJob
  pub system : System
  pub job_is : IsSettledOf settled job
  pub system_is : IsSystemOf job.book system
  pub protects : IsProtectedWith (protected_case system job.cells) prices job.described.job.method
      (trail_of job.book job.cells job.described.job.cost (passes_of job.described.job.method)) protected certificate
  pub soles : List (Option ℕ)
  pub one_each : length soles ≡ length job.cells
  pub are_soles : AreSoles job.book settled.inputs.records.rows soles
  pub no_fault : extra_fault (protected_case system job.cells) soles protected.hidden.flags certificate.worlds extra
      ≡ Ok tt

-- the tables of a case hide exactly the cells of this set and the extra cells
abbrev pub HideBoth : Case → HiddenSet → Extra → List (List ℕ) → Type 0
HideBoth case protected extra tables =
    AreTexts case.book.now case.decimals
    (open_truth case.book.now.marks (hide_cells protected.hidden.flags extra.cells)) case.book.now.tables case.names.now
    tables

-- Where settled inputs are guarded, the release has no fault for their case, with the tables that hide both the set and
-- the extra cells: so a check accepts what a run has put for contributors, with the same inputs.
abbrev pub GuardingIsAccepted : Type 0
GuardingIsAccepted =
    (settled : SettledInputs) (prices : List ℕ) (protected : HiddenSet) (certificate : Certificate) (extra : Extra)
    (case : Case) (soles : List (Option ℕ)) (tables : List (List ℕ))
    → AreGuarded settled prices protected certificate extra
    → IsCaseOf settled case → IsCase case tables → rounds_cells case.method ≡ false
    → AreSolesOf case settled.inputs.records.rows soles → HideBoth case protected extra tables
    → guarded_fault case soles tables certificate extra ≡ Ok tt
