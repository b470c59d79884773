-- Settled inputs are judged in one way, and what protection writes for them is accepted.
use Rattle.std.proofs.Common.{◌≡◌, ℕ, Bool, List, map, Result, if◌then◌else◌, ℤ, refl, ap, sym, ◌∙◌, subst}
use Rattle.std.proofs.Math.Path.{fun_ext}
use Rattle.sdc_base.specs.Steps.{◌>>=◌, map_fault}
use Rattle.sdc_base.specs.declared.cell.Cell.{Cell}
use Rattle.sdc_base.specs.declared.method.Method.{Method}
use Rattle.sdc_base.specs.declared.system.System.{System}
use Rattle.sdc_base.specs.declared.trail.PlanStep.{PlanStep}
use Rattle.certificate.specs.declared.certificate.Certificate.{Certificate}
use Rattle.cell_protection.specs.Protections.{IsProtectedWith}
use Rattle.modular_plan.specs.Methods.{passes_of}
use Rattle.cert_check.specs.Cases.{IsCase}
use Rattle.cert_check.specs.Counts.{counts_fault}
use Rattle.cert_check.specs.FirstFault.{acceptance_fault}
use Rattle.cert_check.specs.HiddenSet.{hidden_set, permitted_fault}
use Rattle.cert_check.specs.Methods.{method_fault, rounds_cells}
use Rattle.cert_check.specs.NeedList.{needs_fault}
use Rattle.cert_check.specs.OutsidePlan.{outside_fault}
use Rattle.cert_check.specs.ReleaseLines.{tables_fault}
use Rattle.cert_check.specs.RepairList.{repairs_fault}
use Rattle.cert_check.specs.RoundedRelease.{at_line, values_fault}
use Rattle.cert_check.specs.TrailSteps.{steps_fault}
use Rattle.cert_check.specs.WorldList.{worlds_fault}
use Rattle.cert_check.specs.declared.case.Case.{Case}
use Rattle.cert_check.specs.declared.faults.CheckFault.{CheckFault}
use Rattle.modular_plan.specs.Plans.{trail_of}
use Rattle.relations.specs.Holding.{IsSystemOf}
use Rattle.worlds.specs.Protection.{Protection as HiddenSet}
use Rattle.release_writer.specs.ReleaseReading.{LinePlace, rounded_read}
use Rattle.sdc_base.specs.Trails.{corners_of}
use Rattle.sdc_base.specs.declared.dimension.Dimension.{Dimension}
use Rattle.repair.specs.HidingOrder.{protected_case, hide_subjects, planned_set}
use Rattle.job_inputs.specs.ClassifiedJobs.{SettledInputs, IsSettledOf}
use Rattle.job_inputs.specs.Tables.{names_of}
use Rattle.job_inputs.specs.declared.described.DescribedJob.{DescribedJob}
use Rattle.job_inputs.specs.declared.settled.ClassifiedJob.{ClassifiedJob}
use Rattle.release_laws.proofs.OneText.{AreAlike, rounded-same, tables-same}
use Rattle.release_laws.proofs.OneTrail.{same-system, same-trail}
use Rattle.release_laws.proofs.SameValues.{same-cells}
use Rattle.release_laws.proofs.Speaking.{protection-is-accepted}
use Rattle.job_check.specs.Cases.{IsCaseOf}
use Rattle.job_inputs.specs.Bases.{method_base}
use Rattle.release_laws.specs.Laws.{InputsAreJudgedInOneWay, WrittenIsAccepted}

-- the first fault of a suppressed release, by what it rests on
abbrev suppressed_by : System → List Cell → List PlanStep → Result (Unit {0}) CheckFault → List Bool → Certificate → Result (Unit {0}) CheckFault
suppressed_by system cells steps texts flags c =
    permitted_fault cells flags >>= λ _.
    texts >>= λ _.
    (steps_fault steps c.steps >>= λ _. repairs_fault system cells (planned_set cells (corners_of steps)) 0 c.repairs >>= λ _. outside_fault (hide_subjects (planned_set cells (corners_of steps)) c.repairs) flags) >>= λ _.
    worlds_fault system cells flags c.worlds >>= λ _.
    needs_fault system cells flags c.needs

-- the first fault, by what it rests on
abbrev fault_by : System → List Cell → List PlanStep → Method → ℤ → Result (List ℤ) LinePlace → (List Bool → Result (Unit {0}) CheckFault) → Certificate → Result (Unit {0}) CheckFault
fault_by system cells steps method base values texts c =
    counts_fault system c >>= λ _.
    method_fault method c >>= λ _.
    if rounds_cells method then (map_fault at_line values >>= λ numbers. values_fault system cells base numbers)
    else suppressed_by system cells steps (texts (hidden_set system.cells c.hidden)) (hidden_set system.cells c.hidden) c

by-parts : (case : Case) (tables : List (List ℕ)) (c : Certificate)
    → acceptance_fault case tables c
    ≡ fault_by case.system.now case.cells.now case.trail.now.steps case.method case.base (rounded_read case.book.now case.names.now case.decimals tables)
    (λ flags. tables_fault case.book.now flags case.decimals 0 case.book.now.tables case.names.now tables) c
by-parts case tables c = refl

-- what a first fault rests on is the same
pub record RestAlike (one other : Case) : Type 0 where
  pub system : one.system.now ≡ other.system.now
  pub cells : one.cells.now ≡ other.cells.now
  pub steps : one.trail.now.steps ≡ other.trail.now.steps
  pub method : one.method ≡ other.method
  pub base : one.base ≡ other.base
  pub names : one.names.now ≡ other.names.now
  pub decimals : one.decimals ≡ other.decimals
  pub book : AreAlike one.book.now other.book.now

values-alike : (one other : Case) (tables : List (List ℕ)) → RestAlike one other → rounded_read one.book.now one.names.now one.decimals tables ≡ rounded_read other.book.now other.names.now other.decimals tables
values-alike one other tables alike =
    ap (λ (names : List (List (List ℕ))). rounded_read one.book.now names one.decimals tables) alike.names
    ∙ ap (λ (decimals : ℕ). rounded_read one.book.now other.names.now decimals tables) alike.decimals
    ∙ rounded-same one.book.now other.book.now other.names.now other.decimals tables alike.book

pub texts-alike : (one other : Case) (tables : List (List ℕ)) (flags : List Bool) → RestAlike one other
    → tables_fault one.book.now flags one.decimals 0 one.book.now.tables one.names.now tables ≡ tables_fault other.book.now flags other.decimals 0 other.book.now.tables other.names.now tables
texts-alike one other tables flags alike =
    ap (λ (names : List (List (List ℕ))). tables_fault one.book.now flags one.decimals 0 one.book.now.tables names tables) alike.names
    ∙ ap (λ (decimals : ℕ). tables_fault one.book.now flags decimals 0 one.book.now.tables other.names.now tables) alike.decimals
    ∙ ap (λ (all : List (List Dimension)). tables_fault one.book.now flags other.decimals 0 all other.names.now tables) alike.book.tables
    ∙ tables-same one.book.now other.book.now flags other.decimals 0 other.book.now.tables other.names.now tables alike.book

-- so the first fault is
pub judged-alike : (one other : Case) (tables : List (List ℕ)) (c : Certificate) → RestAlike one other → acceptance_fault one tables c ≡ acceptance_fault other tables c
judged-alike one other tables c alike =
    let values : Result (List ℤ) LinePlace = rounded_read one.book.now one.names.now one.decimals tables in
    let texts : List Bool → Result (Unit {0}) CheckFault = λ flags. tables_fault one.book.now flags one.decimals 0 one.book.now.tables one.names.now tables in
    let values' : Result (List ℤ) LinePlace = rounded_read other.book.now other.names.now other.decimals tables in
    let texts' : List Bool → Result (Unit {0}) CheckFault = λ flags. tables_fault other.book.now flags other.decimals 0 other.book.now.tables other.names.now tables in
    by-parts one tables c
    ∙ ap (λ (s : System). fault_by s one.cells.now one.trail.now.steps one.method one.base values texts c) alike.system
    ∙ ap (λ (cells : List Cell). fault_by other.system.now cells one.trail.now.steps one.method one.base values texts c) alike.cells
    ∙ ap (λ (steps : List PlanStep). fault_by other.system.now other.cells.now steps one.method one.base values texts c) alike.steps
    ∙ ap (λ (m : Method). fault_by other.system.now other.cells.now other.trail.now.steps m one.base values texts c) alike.method
    ∙ ap (λ (b : ℤ). fault_by other.system.now other.cells.now other.trail.now.steps other.method b values texts c) alike.base
    ∙ ap (λ (v : Result (List ℤ) LinePlace). fault_by other.system.now other.cells.now other.trail.now.steps other.method other.base v texts c) (values-alike one other tables alike)
    ∙ ap (λ (x : List Bool → Result (Unit {0}) CheckFault). fault_by other.system.now other.cells.now other.trail.now.steps other.method other.base values' x c) (fun_ext (λ flags. texts-alike one other tables flags alike))
    ∙ sym (by-parts other tables c)

-- ---- cases of the same settled inputs

-- the cells of settled inputs are those of each job that has these inputs
pub one-cells : (settled : SettledInputs) (one other : ClassifiedJob) → IsSettledOf settled one → IsSettledOf settled other → one.cells ≡ other.cells
one-cells settled one other is are = same-cells one.cells other.cells (is.cells ∙ sym are.cells)

pub one-described : (settled : SettledInputs) (one other : ClassifiedJob) → IsSettledOf settled one → IsSettledOf settled other → one.described ≡ other.described
one-described settled one other is are = is.described ∙ sym are.described

-- so is the trail
one-trail : (settled : SettledInputs) (one other : ClassifiedJob) → IsSettledOf settled one → IsSettledOf settled other
    → trail_of one.book one.cells one.described.job.cost (passes_of one.described.job.method) ≡ trail_of other.book other.cells other.described.job.cost (passes_of other.described.job.method)
one-trail settled one other is are =
    ap (λ (d : DescribedJob). trail_of one.book one.cells d.job.cost (passes_of d.job.method)) (one-described settled one other is are)
    ∙ ap (λ (cells : List Cell). trail_of one.book cells other.described.job.cost (passes_of other.described.job.method)) (one-cells settled one other is are)
    ∙ same-trail settled.inputs one.book other.book other.cells other.described.job.cost (passes_of other.described.job.method) is.book are.book

pub rest-alike : (settled : SettledInputs) (one other : Case) (tables : List (List ℕ)) → IsCaseOf settled one → IsCaseOf settled other → IsCase one tables → IsCase other tables → RestAlike one other
rest-alike settled one other tables is are fits fit =
    let described = one-described settled is.job are.job is.job_is are.job_is in
    let cells = one-cells settled is.job are.job is.job_is are.job_is in
    let here : one.cells.now ≡ other.cells.now = is.cells ∙ cells ∙ sym are.cells in
    let trees : is.job.book.trees ≡ are.job.book.trees = is.job_is.book.trees ∙ sym are.job_is.book.trees in
    let all : is.job.book.tables ≡ are.job.book.tables = is.job_is.book.tables ∙ sym are.job_is.book.tables in
    record {
      system = same-system is.job.book are.job.book one.system.now other.system.now trees all is.system are.system;
      cells = here;
      steps = is.trail ∙ one-trail settled is.job are.job is.job_is are.job_is ∙ sym are.trail;
      method = is.method ∙ ap (λ (d : DescribedJob). d.job.method) described ∙ sym are.method;
      base = is.base ∙ ap (λ (d : DescribedJob). method_base d.job.method d.bound.decimals) described ∙ sym are.base;
      names = is.names ∙ ap (λ (d : DescribedJob). map names_of d.job.tables) described ∙ sym are.names;
      decimals = is.decimals ∙ ap (λ (d : DescribedJob). d.bound.decimals) described ∙ sym are.decimals;
      book = record {
        trees = is.book.trees ∙ trees ∙ sym are.book.trees;
        tables = is.book.tables ∙ all ∙ sym are.book.tables;
        truths = fits.truths ∙ ap (λ (cs : List Cell). map (λ (cell : Cell). cell.truth) cs) here ∙ sym fit.truths;
      };
    }

pub judged-in-one-way : InputsAreJudgedInOneWay
judged-in-one-way settled one other tables certificate is are fits fit = judged-alike one other tables certificate (rest-alike settled one other tables is are fits fit)

-- the relations of a job are those of the case of its inputs
pub one-system : (settled : SettledInputs) (job : ClassifiedJob) (system : System) (case : Case) → IsSettledOf settled job → IsSystemOf job.book system → IsCaseOf settled case → system ≡ case.system.now
one-system settled job system case job_is system_is is =
    same-system job.book is.job.book system case.system.now (job_is.book.trees ∙ sym is.job_is.book.trees) (job_is.book.tables ∙ sym is.job_is.book.tables) system_is is.system

-- ---- what a run has put

-- a protection of a job's cells is one of the case of its inputs
pub of-case : (settled : SettledInputs) (job : ClassifiedJob) (system : System) (prices : List ℕ) (protected : HiddenSet) (certificate : Certificate) (case : Case) → IsSettledOf settled job → IsSystemOf job.book system
    → IsProtectedWith (protected_case system job.cells) prices job.described.job.method (trail_of job.book job.cells job.described.job.cost (passes_of job.described.job.method)) protected certificate → IsCaseOf settled case
    → IsProtectedWith (protected_case case.system.now case.cells.now) prices case.method case.trail.now.steps protected certificate
of-case settled job system prices protected certificate case job_is system_is protects is =
    let cells : job.cells ≡ case.cells.now = one-cells settled job is.job job_is is.job_is ∙ sym is.cells in
    let relations : system ≡ case.system.now = one-system settled job system case job_is system_is is in
    let steps : List PlanStep = trail_of job.book job.cells job.described.job.cost (passes_of job.described.job.method) in
    let trail : steps ≡ case.trail.now.steps = one-trail settled job is.job job_is is.job_is ∙ sym is.trail in
    let method : job.described.job.method ≡ case.method = ap (λ (d : DescribedJob). d.job.method) (one-described settled job is.job job_is is.job_is) ∙ sym is.method in
    subst (λ (s : System). IsProtectedWith (protected_case s case.cells.now) prices case.method case.trail.now.steps protected certificate) relations
    (subst (λ (cs : List Cell). IsProtectedWith (protected_case system cs) prices case.method case.trail.now.steps protected certificate) cells
    (subst (λ (m : Method). IsProtectedWith (protected_case system job.cells) prices m case.trail.now.steps protected certificate) method
    (subst (λ (all : List PlanStep). IsProtectedWith (protected_case system job.cells) prices job.described.job.method all protected certificate) trail protects)))

pub written-is-accepted : WrittenIsAccepted
written-is-accepted settled job system prices protected certificate case tables job_is system_is protects is fits hides texts =
    protection-is-accepted case tables prices protected certificate fits hides (of-case settled job system prices protected certificate case job_is system_is protects is) texts
