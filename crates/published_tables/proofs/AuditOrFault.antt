-- Tables that have an audit have no fault.
use Rattle.std.proofs.Common.{◌≡◌, ◌<◌, inl, inr, ℕ, zero, suc, List, [], ◌∷◌, length, map, Some, Result, Ok, Err, refl, ap, sym, subst, ◌∙◌, arith, ℤ, pos}
use Rattle.std.specs.Prelude.{slice_get}
use Rattle.std.proofs.lemmas.List.{length-map}
use Rattle.std.proofs.lemmas.List.Elements.{All-head, All-tail}
use Rattle.sdc_base.specs.Relations.{Sum, relations_among}
use Rattle.sdc_base.specs.Roundings.{IsAdjacent}
use Rattle.sdc_base.specs.Systems.{Numbers, HoldOn, form, number_at}
use Rattle.sdc_base.specs.declared.cell.Cell.{Cell}
use Rattle.sdc_base.specs.declared.relation.Relation.{Relation}
use Rattle.apriori.specs.Settling.{SettledCell, view_of_cell}
use Rattle.relations.specs.Holding.{sum_in}
use Rattle.cert_check.specs.declared.faults.CheckFault.{CheckFault}
use Rattle.rounding_audit.specs.ReaderFaults.{IsReaderFault, truths_of}
use Rattle.rounding_audit.specs.declared.reader_fault.ReaderFault.{ReaderFault}
use Rattle.rounding_audit.specs.declared.reader_fault.ReaderFault.TheVariants as reader
use Rattle.job_inputs.specs.Bases.{method_base}
use Rattle.job_inputs.specs.declared.described.DescribedJob.{DescribedJob}
use Rattle.job_inputs.specs.declared.settled.ClassifiedJob.{ClassifiedJob}
use Rattle.published_tables.proofs.ReadingAlike.{values_alike}
use Rattle.published_tables.specs.TableAudits.{AreNoRounding, IsAuditFileFor, audit_of_tables}
use Rattle.published_tables.specs.TableFiles.{AreRefusedFor, IsFileOf}
use Rattle.published_tables.specs.ShownValues.{base_of_job}
use Rattle.published_tables.specs.TableStops.{reader_stop}
use Rattle.published_tables.specs.TablesOnShelf.{ShelvedTables}
use Rattle.published_tables.specs.declared.audit_file.AuditFile.{AuditFile}
use Rattle.published_tables.specs.declared.table_stop.TableStop.TheVariants as stop

-- relations hold on what others of the same totals and parts hold on, each
broken_nowhere : (moves : Numbers) (ones others : List Relation) (number : ℕ) (relation : Relation) → map sum_in ones ≡ map sum_in others → HoldOn moves ones → slice_get others number ≡ Some relation → form moves relation ≡ pos 0
broken_nowhere moves ones [] number relation same hold at = absurd cc
broken_nowhere moves [] (r ∷ others) number relation same hold at = absurd cc
broken_nowhere moves (one ∷ ones) (r ∷ others) zero relation same hold at =
    let heads : sum_in one ≡ sum_in r = cc in
    let forms : form moves one ≡ form moves r = rw (ap (λ (s : Sum). s.0) heads, ap (λ (s : Sum). s.1) heads) refl in
    let is : r ≡ relation = cc in
    subst (λ (q : Relation). form moves q ≡ pos 0) is (sym forms ∙ All-head (λ (q : Relation). form moves q ≡ pos 0) one ones hold)
broken_nowhere moves (one ∷ ones) (r ∷ others) (suc number) relation same hold at =
    let tails : map sum_in ones ≡ map sum_in others = cc in
    broken_nowhere moves ones others number relation tails (All-tail (λ (q : Relation). form moves q ≡ pos 0) one ones hold) at

-- cells of the same amounts have the same truths
truths_alike : (ones others : List Cell) → map view_of_cell ones ≡ map view_of_cell others → truths_of ones ≡ truths_of others
truths_alike [] [] same = refl
truths_alike [] (cell ∷ others) same = absurd cc
truths_alike (cell ∷ ones) [] same = absurd cc
truths_alike (cell ∷ ones) (another ∷ others) same =
    let heads : view_of_cell cell ≡ view_of_cell another = cc in
    let tails : map view_of_cell ones ≡ map view_of_cell others = cc in
    let truths : cell.truth ≡ another.truth = ap (λ (one : SettledCell). one.truth) heads in
    rw (truths, truths_alike ones others tails) refl

-- a rounding has no fault as one
no_fault : (one other : ClassifiedJob) (values : List ℤ) (file : AuditFile) (why : CheckFault) → truths_of one.cells ≡ truths_of other.cells → base_of_job one ≡ base_of_job other
    → relations_among one.book.trees one.book.tables ≡ relations_among other.book.trees other.book.tables → IsAuditFileFor one values file → AreNoRounding other values why → ⊥
no_fault one other values file why truths base sums is are = by are.first are.first_is are.fault
  where
    many : length one.cells ≡ length other.cells
    many = sym (length-map one.cells (λ (cell : Cell). cell.truth)) ∙ ap (λ (ts : List ℤ). length ts) truths ∙ length-map other.cells (λ (cell : Cell). cell.truth)

    by : (first : ReaderFault) → reader_stop first ≡ stop.NotAccepted why → IsReaderFault are.system other.cells values (base_of_job other) first → ⊥
    by (reader.Rounded number) first_is fault =
        let below : number < is.system.cells = omega (arith, fault.known, many, is.one_each, is.rounding.each) in
        fault.unrounded (subst (λ (b : ℤ). IsAdjacent b (number_at (truths_of other.cells) number) (number_at values number)) base
        (subst (λ (ts : List ℤ). IsAdjacent (base_of_job one) (number_at ts number) (number_at values number)) truths (is.rounding.adjacent number below)))
    by (reader.Relation number) first_is fault =
        fault.first.broken (broken_nowhere (number_at values) is.system.relations are.system.relations number fault.first.relation (is.system_is.relations ∙ sums ∙ sym are.system_is.relations) is.rounding.hold fault.first.known)
    by reader.Memory first_is fault = absurd cc

-- so tables that have an audit are not refused
pub audit_or_fault : (shelved : ShelvedTables) (file : AuditFile) (why : CheckFault) → IsFileOf audit_of_tables shelved file → AreRefusedFor audit_of_tables shelved why → ⊥
audit_or_fault shelved file why is (inl bad) =
    let alike = values_alike shelved.settled is.job bad.job shelved.tables is.job_is bad.job_is in
    let both : ◌≡◌ {A = Result (List ℤ) CheckFault} (Ok is.shown) (Err why) = sym is.shown_is ∙ alike ∙ bad.first in
    absurd cc
audit_or_fault shelved file why is (inr wrong) =
    let alike = values_alike shelved.settled is.job wrong.job shelved.tables is.job_is wrong.job_is in
    let both : ◌≡◌ {A = Result (List ℤ) CheckFault} (Ok wrong.shown) (Ok is.shown) = sym wrong.shown_is ∙ sym alike ∙ is.shown_is in
    let same : wrong.shown ≡ is.shown = cc in
    let trees = is.job_is.book.trees ∙ sym wrong.job_is.book.trees in
    let tables = is.job_is.book.tables ∙ sym wrong.job_is.book.tables in
    let sums : relations_among is.job.book.trees is.job.book.tables ≡ relations_among wrong.job.book.trees wrong.job.book.tables = rw (trees, tables) refl in
    let base : base_of_job is.job ≡ base_of_job wrong.job = ap (λ (d : DescribedJob). method_base d.job.method d.bound.decimals) (is.job_is.described ∙ sym wrong.job_is.described) in
    no_fault is.job wrong.job is.shown file why (truths_alike is.job.cells wrong.job.cells (is.job_is.cells ∙ sym wrong.job_is.cells)) base sums is.holds (subst (λ (values : List ℤ). AreNoRounding wrong.job values why) same wrong.holds)
