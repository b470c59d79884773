-- What a job that rounds comes to.
use Rattle.std.proofs.Common.{◌≡◌, ℕ, Bool, List, [], ◌∷◌, length, map, All, Option, Some, Ok, Err, Bor, ◌<◌, arith, refl, ap, sym, subst, ◌∙◌, ℤ, pos, negsuc, ◌*ℤ◌, ◌≤ℤ◌, ◌<ℤ◌}
use Rattle.std.proofs.lemmas.List.{get_or_default, length-map}
use Rattle.std.proofs.lemmas.List.Elements.{All-nil, All-cons, All-head, All-tail}
use Rattle.std.proofs.lemmas.Int.{ints, by_lt_z}
use Rattle.std.proofs.Math.IntN.{*ℤ_comm}
use Rattle.sdc_base.proofs.WholeNumbers.{times_up}
use Rattle.sdc_base.specs.AddingUp.{IsCoded}
use Rattle.sdc_base.specs.Numbers.{too_wide}
use Rattle.sdc_base.specs.Roundings.{IsAdjacent, IsRounding}
use Rattle.sdc_base.specs.Signs.{AreSigns}
use Rattle.sdc_base.specs.Systems.{HoldOn, number_at}
use Rattle.sdc_base.specs.declared.cell.Cell.{Cell}
use Rattle.sdc_base.specs.declared.method.Method.{Method}
use Rattle.sdc_base.specs.declared.rows.Row.{Row}
use Rattle.sdc_base.specs.declared.system.System.{System}
use Rattle.certificate.specs.Certificates.{certificate_of}
use Rattle.certificate.specs.Laws.{without_hidden_cells}
use Rattle.certificate.specs.Spelling.{IsSpellable}
use Rattle.certificate.specs.Texts.{text_of}
use Rattle.certificate.specs.declared.certificate.Certificate.{Certificate}
use Rattle.linked_tables.specs.BookViews.{BookView}
use Rattle.linked_tables.specs.BookCells.{IsBook}
use Rattle.linked_tables.specs.declared.mark.Mark.{Mark}
use Rattle.sdc_base.specs.Truths.{IsTruth}
use Rattle.release_writer.specs.ShownCells.{CanBeShown}
use Rattle.release_writer.specs.declared.shown.Shown.TheVariants as shown
use Rattle.relations.specs.Holding.{AreTruths, HaveNoChildren, IsSystemOf, sum_in, truth_at}
use Rattle.rounding.specs.Searches.{Stops}
use Rattle.rounding.specs.Tasks.{IsProper}
use Rattle.rounding.specs.declared.fault.RoundFault.{RoundFault}
use Rattle.rounding.specs.declared.fault.RoundFault.TheVariants as round
use Rattle.job_inputs.specs.Cells.{cells}
use Rattle.job_inputs.specs.ClassifiedJobs.{SettledInputs, IsSettledOf}
use Rattle.job_inputs.specs.declared.described.DescribedJob.{DescribedJob}
use Rattle.job_inputs.specs.declared.settled.ClassifiedJob.{ClassifiedJob}
use Rattle.job_run.specs.Books.{CanBeReleased}
use Rattle.job_run.specs.Endings.{ComesToRelease, IsReleaseBy}
use Rattle.job_run.specs.Releases.{puts_of, summary_of, value_in}
use Rattle.job_run.specs.Roundings.{job_base, truths_in, HasNoRounding, IsAlwaysRounded, IsSystemIn, SearchStops, rounded_certificate}
use Rattle.job_run.specs.Reporting.{search_report}
use Rattle.job_run.specs.declared.put.Release.{Release}
use Rattle.job_run.proofs.Bases.{base-within}
use Rattle.job_run.proofs.JobTruths.{are-bare, are-coded, are-truths, holds-on, truths-are}
use Rattle.job_run.proofs.Releasing.{same-base, signs-for}
use Rattle.job_run.proofs.SameSystem.{as-many-cells, its-relations, rounding-elsewhere}

-- ---- values that are shown

-- an adjacent multiple of a truth from 0 is from 0
value-from_zero : (base truth value : ℤ) → pos 1 ≤ℤ base → pos 0 ≤ℤ truth → IsAdjacent base truth value → pos 0 ≤ℤ value
value-from_zero base truth value positive from adjacent =
    let times : ℤ = adjacent.multiple.0 in
    let turned : value ≡ base *ℤ times = adjacent.multiple.1 ∙ *ℤ_comm times base in
    by_lt_z times (pos 0)
    (λ below. absurd (let far : (base *ℤ times) ≤ℤ (base *ℤ negsuc 0) = times_up base times (negsuc 0) (omega (arith, ints, positive)) (omega (arith, ints, below)) in omega (arith, ints, far, turned, adjacent.not_below, from)))
    (λ not_below. let far : (base *ℤ pos 0) ≤ℤ (base *ℤ times) = times_up base (pos 0) times (omega (arith, ints, positive)) not_below in omega (arith, ints, far, turned))

-- the values of a rounding of truths in their limits are from 0 and not too wide
values-within : (system : System) (truths : List ℤ) (base : ℤ) (values : List ℤ) → IsProper system truths base → IsRounding system truths base values → All (λ (number : ℤ). (pos 0 ≤ℤ number) × (number <ℤ pos too_wide)) values
values-within system truths base values proper rounding k d inside =
    subst (λ (value : ℤ). (pos 0 ≤ℤ value) × (value <ℤ pos too_wide)) (get_or_default values k (pos 0) d inside) (here k (omega (arith, inside, rounding.each)))
  where
    here : (cell : ℕ) → cell < system.cells → (pos 0 ≤ℤ number_at values cell) × (number_at values cell <ℤ pos too_wide)
    here cell inside =
        let truth = proper.within cell (pos 0) (omega (arith, inside, proper.each)) in
        let adjacent = rounding.adjacent cell inside in
        (value-from_zero base (number_at truths cell) (number_at values cell) proper.from_one truth.from_zero adjacent, omega (arith, ints, adjacent.not_above, truth.at_most, proper.to_most))

-- they can be shown
pub values-can : (book : BookView) (system : System) (truths : List ℤ) (base : ℤ) (values : List ℤ) (lent : Bor (List ℤ)) → length book.marks ≡ system.cells → IsProper system truths base → IsRounding system truths base values → lent.now ≡ values → CanBeShown book (shown.Rounded lent)
values-can book system truths base values lent many proper rounding same =
    (ap length same ∙ rounding.each ∙ sym many, subst (All (λ (number : ℤ). (pos 0 ≤ℤ number) × (number <ℤ pos too_wide))) (sym same) (values-within system truths base values proper rounding))

-- ---- what is asked of the search

within-limits : (marks : List Mark) → All (λ (mark : Mark). IsTruth mark.facts.truth) marks → All IsTruth (map (λ (mark : Mark). mark.facts.truth) marks)
within-limits [] all = All-nil IsTruth
within-limits (mark ∷ marks) all =
    let here = All-head (λ (one : Mark). IsTruth one.facts.truth) mark marks all in
    All-cons IsTruth mark.facts.truth (map (λ (one : Mark). one.facts.truth) marks) here
    (within-limits marks (All-tail (λ (one : Mark). IsTruth one.facts.truth) mark marks all))

-- the truths of a job that rounds can be rounded to its base
pub task-proper : (job : ClassifiedJob) (system : System) (base : ℤ) (truths : List ℤ) → CanBeReleased job → job_base job.described ≡ Some base → IsSystemOf job.book system → HoldOn (truth_at job.book.marks) system.relations
    → truths ≡ map (λ (cell : Cell). cell.truth) job.cells → IsProper system truths base
task-proper job system base truths can rounds is holds listed =
    let same = can.ready.truths ∙ sym listed in
    let within = base-within job.described.job.method job.described.bound.decimals base can.ready.sound.job.method can.ready.sound.bound.decimals rounds in
    record {
      from_one = within.0;
      to_most = within.1;
      each = ap length listed ∙ length-map job.cells (λ (cell : Cell). cell.truth) ∙ can.ready.settled ∙ can.ready.one_each ∙ sym is.cells;
      within = subst (All IsTruth) same (within-limits job.book.marks can.ready.book.truths);
      hold = holds-on job.book.marks truths system.relations same holds;
    }

-- the same, where relations hold on the truths of records
pub job-proper : (job : ClassifiedJob) (system : System) (base : ℤ) (truths : List ℤ) → CanBeReleased job → job_base job.described ≡ Some base → IsSystemOf job.book system
    → ((rows : List Row) → All (IsCoded job.book.trees) rows → HaveNoChildren job.book.trees rows → AreTruths job.book rows → HoldOn (truth_at job.book.marks) system.relations)
    → truths ≡ map (λ (cell : Cell). cell.truth) job.cells → IsProper system truths base
job-proper job system base truths can rounds is holds listed =
    let some = can.inputs in
    let inputs = some.settled.inputs in
    let whole = some.is_of.book in
    task-proper job system base truths can rounds is (holds inputs.records.rows (are-coded inputs job.book some.sound whole) (are-bare inputs job.book some.sound whole) (are-truths inputs job.book whole)) listed

-- ---- what the search comes to

-- a job that rounds, with the system of its book and the list of its truths
pub record IsTask (settled : SettledInputs) (job : ClassifiedJob) (system : System) (base : ℤ) (truths : List ℤ) : Type 0 where
  pub can : CanBeReleased job
  pub rounds : job_base job.described ≡ Some base
  pub is_of : IsSettledOf settled job
  pub is_system : IsSystemOf job.book system
  pub listed : truths ≡ map (λ (cell : Cell). cell.truth) job.cells

its-base : (settled : SettledInputs) (job : ClassifiedJob) (system : System) (base : ℤ) (truths : List ℤ) → IsTask settled job system base truths → job_base settled.inputs.described ≡ Some base
its-base settled job system base truths task = same-base settled job task.is_of ∙ task.rounds

its-system : (settled : SettledInputs) (job : ClassifiedJob) (system : System) (base : ℤ) (truths : List ℤ) → IsTask settled job system base truths → IsSystemIn settled.inputs system
its-system settled job system base truths task = (job.book, task.is_of.book, task.is_system)

its-truths : (settled : SettledInputs) (job : ClassifiedJob) (system : System) (base : ℤ) (truths : List ℤ) → IsTask settled job system base truths → truths ≡ truths_in settled.inputs
its-truths settled job system base truths task = task.listed ∙ truths-are settled.inputs job.book job.cells task.is_of.book task.can.ready.truths

-- so where a search stops, the job has other tables
other-tables : (settled : SettledInputs) (job : ClassifiedJob) (system : System) (base : ℤ) (truths : List ℤ) (fault : RoundFault) → IsTask settled job system base truths → IsBook job.book
    → ((signs : List Bool) → AreSigns system.relations signs → fault ≡ round.Memory) → (fault ≡ round.Memory → ⊥) → ¬ IsAlwaysRounded settled.inputs
other-tables settled job system base truths fault task is_book signed no_memory shape =
    let signs = signs-for settled job system shape task.is_of is_book task.is_system in
    no_memory (signed signs.0 signs.1)

no-rounding : (settled : SettledInputs) (job : ClassifiedJob) (system : System) (base : ℤ) (truths : List ℤ) → IsTask settled job system base truths → ((values : List ℤ) → IsRounding system truths base values → ⊥) → ¬ IsAlwaysRounded settled.inputs → HasNoRounding settled
no-rounding settled job system base truths task none more = record {
  more = more;
  base = base;
  system = system;
  rounds = its-base settled job system base truths task;
  system_is = its-system settled job system base truths task;
  none = λ values found. none values (subst (λ (ts : List ℤ). IsRounding system ts base values) (sym (its-truths settled job system base truths task))
      (rounding-elsewhere settled.inputs found.system system (truths_in settled.inputs) base values found.system_is (its-system settled job system base truths task) found.rounding));
}

search-stops : (settled : SettledInputs) (job : ClassifiedJob) (system : System) (base : ℤ) (truths : List ℤ) (nodes : ℕ) → IsTask settled job system base truths → nodes ≡ job.described.job.nodes → Stops system truths base nodes → ¬ IsAlwaysRounded settled.inputs → SearchStops settled nodes
search-stops settled job system base truths nodes task limit stops more = record {
  more = more;
  base = base;
  system = system;
  rounds = its-base settled job system base truths task;
  system_is = its-system settled job system base truths task;
  limit = limit ∙ ap (λ (d : DescribedJob). d.job.nodes) task.is_of.described;
  stops = subst (λ (ts : List ℤ). Stops system ts base nodes) (its-truths settled job system base truths task) stops;
}

-- a search that gives no rounding stops the run
pub search-comes : (settled : SettledInputs) (job : ClassifiedJob) (system : System) (base : ℤ) (truths : List ℤ) (fault : RoundFault) → IsTask settled job system base truths
    → (fault ≡ round.NoRounding → (values : List ℤ) → IsRounding system truths base values → ⊥)
    → ((nodes : ℕ) → fault ≡ round.Nodes nodes → (nodes ≡ job.described.job.nodes) × Stops system truths base nodes)
    → IsBook job.book → ((signs : List Bool) → AreSigns system.relations signs → fault ≡ round.Memory)
    → ComesToRelease settled (Err (search_report fault))
search-comes settled job system base truths round.NoRounding task none limit is_book signed =
    no-rounding settled job system base truths task (none refl) (other-tables settled job system base truths round.NoRounding task is_book signed (λ is. absurd cc))
search-comes settled job system base truths (round.Nodes nodes) task none limit is_book signed =
    let stops = limit nodes refl in
    let more = other-tables settled job system base truths (round.Nodes nodes) task is_book signed (λ is. absurd cc) in
    (search-stops settled job system base truths nodes task stops.0 stops.1 more, refl, refl, refl)
search-comes settled job system base truths round.Memory task none limit is_book signed = tt

-- ---- the release

-- a certificate that lists nothing has a text
pub empty-spellable : (method : Method) (cells relations : ℕ) → IsSpellable (without_hidden_cells method cells relations)
empty-spellable method cells relations = record { hidden = refl; steps = tt; repairs = tt; needs = tt; worlds = tt }

certificate-is : (settled : SettledInputs) (job : ClassifiedJob) (system : System) (base : ℤ) (truths : List ℤ) → IsTask settled job system base truths
    → without_hidden_cells job.described.job.method system.cells (length system.relations) ≡ rounded_certificate settled.inputs
certificate-is settled job system base truths task =
    let is = its-system settled job system base truths task in
    ap (λ (d : DescribedJob). without_hidden_cells d.job.method system.cells (length system.relations)) task.is_of.described
    ∙ ap (λ (n : ℕ). without_hidden_cells settled.inputs.described.job.method n (length system.relations)) (as-many-cells settled.inputs system is)
    ∙ ap (λ (n : ℕ). without_hidden_cells settled.inputs.described.job.method (length (cells settled.inputs)) n)
    (sym (length-map system.relations sum_in) ∙ ap length (its-relations settled.inputs system is))

-- a rounding makes a rounded release
pub rounded-comes : (settled : SettledInputs) (job : ClassifiedJob) (system : System) (base : ℤ) (truths values : List ℤ) (certificate : Certificate) (release : Release) → IsTask settled job system base truths → release.certificate ≡ certificate
    → IsRounding system truths base values → certificate ≡ without_hidden_cells job.described.job.method system.cells (length system.relations) → certificate_of (text_of certificate) ≡ Ok certificate
    → release.puts ≡ puts_of settled.inputs (value_in settled.inputs values) certificate → release.summary ≡ summary_of settled 0 → ComesToRelease settled (Ok release)
rounded-comes settled job system base truths values certificate release task given rounding is read puts numbers =
    let same : certificate ≡ rounded_certificate settled.inputs = is ∙ certificate-is settled job system base truths task in
    subst (λ (b : Option ℤ). IsReleaseBy b settled release) (sym (its-base settled job system base truths task)) (record {
      values = values;
      rounding = record {
        system = system;
        system_is = its-system settled job system base truths task;
        rounding = subst (λ (ts : List ℤ). IsRounding system ts base values) (its-truths settled job system base truths task) rounding;
      };
      read_back = subst (λ (one : Certificate). certificate_of (text_of one) ≡ Ok one) same read;
      puts = puts ∙ ap (puts_of settled.inputs (value_in settled.inputs values)) same;
      numbers = numbers;
      certificate_is = given ∙ same;
    })
