-- A rounding that was written is accepted.
use Rattle.std.proofs.Common.{◌≡◌, ℕ, zero, suc, ◌<◌, ◌≤◌, ◌^◌, ◌==◌, ◌&&◌, ◌||◌, not, Bool, true, false, List, [], ◌∷◌, length, map, slice_get, Some, Result, Ok, if◌then◌else◌, ℤ, pos, negsuc, ◌*ℤ◌, ◌≤ℤ◌, ◌<ℤ◌, arith, refl, ap, ap₂, sym, ◌∙◌, subst}
use Rattle.std.proofs.Math.IntN.{*ℤ_comm}
use Rattle.std.proofs.Math.Nat.{one-le-pow, pow-le-pow_right}
use Rattle.std.proofs.lemmas.Bool.Decides.{Decides-eqb}
use Rattle.std.proofs.lemmas.Int.{ints, by_lt_z}
use Rattle.sdc_base.proofs.WholeNumbers.{times_up}
use Rattle.sdc_base.specs.Numbers.{too_wide}
use Rattle.sdc_base.specs.Records.{Name}
use Rattle.sdc_base.specs.Relations.{relations_among}
use Rattle.sdc_base.specs.Roundings.{IsAdjacent, IsRounding}
use Rattle.sdc_base.specs.Systems.{number_at}
use Rattle.sdc_base.specs.Steps.{◌>>=◌, map_fault}
use Rattle.sdc_base.specs.Trees.{Tree}
use Rattle.sdc_base.specs.declared.cell.Cell.{Cell}
use Rattle.sdc_base.specs.declared.dimension.Dimension.{Dimension}
use Rattle.sdc_base.specs.declared.facts.CellFacts.{CellFacts}
use Rattle.sdc_base.specs.declared.method.Method.{Method}
use Rattle.sdc_base.specs.declared.method.Method.TheVariants as method
use Rattle.sdc_base.specs.declared.system.System.{System}
use Rattle.certificate.specs.Laws.{without_hidden_cells}
use Rattle.certificate.specs.declared.certificate.Certificate.{Certificate}
use Rattle.cert_check.proofs.Judged.{rounding_is_judged}
use Rattle.cert_check.proofs.Written.{method_itself}
use Rattle.cert_check.specs.Counts.{counts_fault, counts_fit}
use Rattle.cert_check.specs.FirstFault.{suppressed_fault}
use Rattle.cert_check.specs.HiddenSet.{hidden_set}
use Rattle.cert_check.specs.Methods.{lists_nothing, method_fault, rounds_cells, same_method, ListsNothing}
use Rattle.cert_check.specs.RoundedRelease.{at_line, rounded_fault, values_fault}
use Rattle.cert_check.specs.declared.faults.CheckFault.{CheckFault}
use Rattle.cert_check.specs.declared.faults.CheckFault.TheVariants as fault
use Rattle.linked_tables.specs.BookViews.{BookView}
use Rattle.linked_tables.specs.BookCells.{cells as cells_in}
use Rattle.linked_tables.specs.declared.mark.Mark.{Mark}
use Rattle.relations.specs.Holding.{sum_in}
use Rattle.release_writer.specs.ReadingLaws.{IsReleased}
use Rattle.release_writer.specs.ReleaseReading.{LinePlace, rounded_read}
use Rattle.worlds.proofs.WorldLaws.{passes, then_ok}
use Rattle.job_lang.specs.JobLimits.{IsMethod}
use Rattle.job_inputs.proofs.Facts.{cells-are, facts-in}
use Rattle.job_inputs.specs.Cells.{cells, truth_in}
use Rattle.job_inputs.specs.TabulatedBooks.{IsBookOf}
use Rattle.job_inputs.specs.declared.described.DescribedJob.{DescribedJob}
use Rattle.job_inputs.specs.declared.inputs.Inputs.{Inputs}
use Rattle.job_check.proofs.CaseParts.{by-facts, length-map}
use Rattle.release_laws.proofs.OneTrail.{same-system}
use Rattle.release_laws.proofs.RoundedTexts.{rounded-are-read-back}
use Rattle.job_inputs.proofs.Units.{in-units}
use Rattle.job_inputs.specs.Bases.{method_base}
use Rattle.release_laws.specs.RoundingLaws.{RoundingIsAccepted, WrittenRoundingIsAccepted}

-- ---- a certificate without lists

counts-pass : (system : System) (c : Certificate) → c.cells ≡ system.cells → c.relations ≡ length system.relations → ListsNothing c → counts_fit system c ≡ true
counts-pass system c cells relations lists =
    let one : (c.cells == system.cells) ≡ true = (Decides-eqb c.cells system.cells).1 cells in
    let two : (c.relations == length system.relations) ≡ true = (Decides-eqb c.relations (length system.relations)).1 relations in
    rw (one, two, lists.hidden, lists.repairs, lists.needs, lists.worlds) refl

nothing-listed : (c : Certificate) → ListsNothing c → lists_nothing c ≡ true
nothing-listed c lists = rw (lists.hidden, lists.steps, lists.repairs, lists.needs, lists.worlds) refl

method-passes : (one : Method) (c : Certificate) → c.method ≡ one → ListsNothing c → method_fault one c ≡ Ok tt
method-passes one c same lists =
    let right : same_method one c.method ≡ true = ap (same_method one) same ∙ method_itself one in
    passes fault.Method (not (same_method one c.method) || (rounds_cells one && not (lists_nothing c))) (tested (same_method one c.method) (rounds_cells one) (lists_nothing c) right (nothing-listed c lists))
  where
    tested : (a b d : Bool) → a ≡ true → d ≡ true → (not a || (b && not d)) ≡ false
    tested true true true first last = refl
    tested true false true first last = refl
    tested true b false first last = absurd cc
    tested false b d first last = absurd cc

-- ---- a rounding

as-many : (one : List Mark) (other : List Cell) → map (λ mark. mark.facts.truth) one ≡ map (λ cell. cell.truth) other → length one ≡ length other
as-many one other same = sym (length-map (λ (mark : Mark). mark.facts.truth) one) ∙ ap (λ (truths : List ℤ). length truths) same ∙ length-map (λ (cell : Cell). cell.truth) other

pub rounding-is-accepted : RoundingIsAccepted
rounding-is-accepted case tables values c fits rounding one_each of_case lists released is texts =
    let system : System = case.system.now in
    let many : length values ≡ length case.book.now.marks = is.each ∙ sym fits.each_cell ∙ sym (as-many case.book.now.marks case.cells.now fits.truths) in
    let read : rounded_read case.book.now case.names.now case.decimals tables ≡ Ok values = rounded-are-read-back case.book.now case.names.now case.decimals tables values one_each many fits.decimals released texts in
    let judged : values_fault system case.cells.now case.base values ≡ Ok tt = (rounding_is_judged system case.cells.now case.base values (fits.base rounding) fits.each_cell is.each).1 is in
    let shown : rounded_fault case tables ≡ Ok tt =
    ap (λ (r : Result (List ℤ) LinePlace). map_fault at_line r >>= λ numbers. values_fault system case.cells.now case.base numbers) read ∙ judged in
    let last : Result (Unit {0}) CheckFault = if rounds_cells case.method then rounded_fault case tables else suppressed_fault case tables (hidden_set system.cells c.hidden) c in
    let own : last ≡ Ok tt = ap (λ b. if b then rounded_fault case tables else suppressed_fault case tables (hidden_set system.cells c.hidden) c) rounding ∙ shown in
    then_ok (counts_fault system c) (λ _. method_fault case.method c >>= λ _. last) tt tt
    (passes fault.Counts (not (counts_fit system c)) (ap not (counts-pass system c of_case.same_cells of_case.same_relations lists)))
    (then_ok (method_fault case.method c) (λ _. last) tt tt (method-passes case.method c of_case.same_method lists) own)

-- ---- the values of a job's rounding

-- an adjacent multiple of a truth from 0 is from 0
from-zero : (base truth value : ℤ) → pos 1 ≤ℤ base → pos 0 ≤ℤ truth → IsAdjacent base truth value → pos 0 ≤ℤ value
from-zero base truth value positive from adjacent =
    let times : ℤ = adjacent.multiple.0 in
    let turned : value ≡ base *ℤ times = adjacent.multiple.1 ∙ *ℤ_comm times base in
    by_lt_z times (pos 0)
    (λ below. absurd (let far : (base *ℤ times) ≤ℤ (base *ℤ negsuc 0) = times_up base times (negsuc 0) (omega (arith, ints, positive)) (omega (arith, ints, below)) in omega (arith, ints, far, turned, adjacent.not_below, from)))
    (λ not_below. let far : (base *ℤ pos 0) ≤ℤ (base *ℤ times) = times_up base (pos 0) times (omega (arith, ints, positive)) not_below in omega (arith, ints, far, turned))

natural : (z : ℤ) → pos 0 ≤ℤ z → z <ℤ pos too_wide → (n : ℕ) × (z ≡ pos n) × (n < too_wide)
natural (pos n) from narrow = (n, refl, omega (arith, ints, narrow))
natural (negsuc n) from narrow = absurd (omega (arith, ints, from))

-- each number is from 0 and not too wide, by its place
released-by : (values : List ℤ) → ((k : ℕ) → k < length values → (pos 0 ≤ℤ number_at values k) × (number_at values k <ℤ pos too_wide)) → IsReleased values
released-by [] each = tt
released-by (value ∷ values) each =
    let first = each 0 (omega arith) in
    (natural value first.0 first.1, released-by values (λ k within. each (suc k) (omega (arith, within))))

-- each truth is from 0 and at most 10^29
truths-within : (inputs : Inputs) (book : BookView) → IsBookOf inputs book → (k : ℕ) → k < length book.marks → (pos 0 ≤ℤ number_at (map (λ mark. mark.facts.truth) book.marks) k) × (number_at (map (λ mark. mark.facts.truth) book.marks) k ≤ℤ pos (10 ^ 29))
truths-within inputs book is k within = at book.marks (cells_in book) k within is.one_each (λ cell name mark named there. let within = (is.told cell name mark named there).within in (within.from_zero, within.at_most))
  where
    at : (marks : List Mark) (names : List Name) (k : ℕ) → k < length marks → length marks ≡ length names
        → ((cell : ℕ) (name : Name) (mark : Mark) → slice_get names cell ≡ Some name → slice_get marks cell ≡ Some mark → (pos 0 ≤ℤ mark.facts.truth) × (mark.facts.truth ≤ℤ pos (10 ^ 29)))
        → (pos 0 ≤ℤ number_at (map (λ mark. mark.facts.truth) marks) k) × (number_at (map (λ mark. mark.facts.truth) marks) k ≤ℤ pos (10 ^ 29))
    at [] names k within many tells = absurd (omega (arith, within))
    at (mark ∷ marks) [] k within many tells = absurd (omega (arith, many))
    at (mark ∷ marks) (name ∷ names) zero within many tells = tells 0 name mark refl refl
    at (mark ∷ marks) (name ∷ names) (suc k) within many tells = at marks names k (omega (arith, within)) (omega (arith, many)) (λ cell one other named there. tells (suc cell) one other named there)

-- the truths of the marks are those of the records
truths-are : (inputs : Inputs) (book : BookView) → IsBookOf inputs book → map (λ mark. mark.facts.truth) book.marks ≡ map (truth_in inputs) (cells inputs)
truths-are inputs book is =
    let facts = facts-in inputs book is in
    by (cells inputs) book.marks facts.one_each (λ k name mark named there. (facts.each k name mark named there).0.truth)
  where
    by : (names : List Name) (marks : List Mark) → length names ≡ length marks → ((k : ℕ) (name : Name) (mark : Mark) → slice_get names k ≡ Some name → slice_get marks k ≡ Some mark → mark.facts.truth ≡ truth_in inputs name)
        → map (λ mark. mark.facts.truth) marks ≡ map (truth_in inputs) names
    by [] [] many each = refl
    by [] (mark ∷ marks) many each = absurd (omega (arith, many))
    by (name ∷ names) [] many each = absurd (omega (arith, many))
    by (name ∷ names) (mark ∷ marks) many each =
        ap₂ (λ (truth : ℤ) (truths : List ℤ). truth ∷ truths) (each 0 name mark refl refl) (by names marks (omega (arith, many)) (λ k one other named there. each (suc k) one other named there))

-- a base in units is at most 10^22
base-most : (one : Method) (decimals : ℕ) → IsMethod one → decimals ≤ 13 → method_base one decimals ≤ℤ pos (10 ^ 22)
base-most (method.Rnd base) decimals is few =
    let most : 10 ^ decimals ≤ 10 ^ 13 = pow-le-pow_right (omega arith) few in
    (in-units base (10 ^ decimals) is.0 is.1 (one-le-pow decimals 10 (omega arith)) most).1
base-most (method.Gh passes) decimals is few = omega (arith, ints)
base-most method.Modular decimals is few = omega (arith, ints)

-- the values of a rounding of truths in their limits can be released
rounded-released : (system : System) (truths values : List ℤ) (base : ℤ) → pos 1 ≤ℤ base → base ≤ℤ pos (10 ^ 22) → ((k : ℕ) → k < system.cells → (pos 0 ≤ℤ number_at truths k) × (number_at truths k ≤ℤ pos (10 ^ 29)))
    → IsRounding system truths base values → IsReleased values
rounded-released system truths values base positive most within is = released-by values (λ k inside.
    let cell : k < system.cells = omega (arith, inside, is.each) in
    let truth = within k cell in
    let adjacent = is.adjacent k cell in
    (from-zero base (number_at truths k) (number_at values k) positive truth.0 adjacent, omega (arith, ints, adjacent.not_above, truth.1, most)))

-- the truths of marks with the same facts
own-truths : (own held : BookView) → map (λ mark. mark.facts) held.marks ≡ map (λ mark. mark.facts) own.marks → map (λ mark. mark.facts.truth) own.marks ≡ map (λ mark. mark.facts.truth) held.marks
own-truths own held same = by-facts own.marks ∙ ap (map (λ (facts : CellFacts). facts.truth)) (sym same) ∙ sym (by-facts held.marks)

pub written-rounding-is-accepted : WrittenRoundingIsAccepted
written-rounding-is-accepted settled book system values case tables sound book_is system_is rounds_so is fits rounding texts =
    let inputs : Inputs = settled.inputs in
    let own : BookView = is.job.book in
    let its : IsBookOf inputs own = is.job_is.book in
    let trees : book.trees ≡ own.trees = book_is.trees ∙ sym its.trees in
    let all : book.tables ≡ own.tables = book_is.tables ∙ sym its.tables in
    let same : system ≡ case.system.now = same-system book own system case.system.now trees all system_is is.system in
    let held : BookView = case.book.now in
    let truths : map (truth_in inputs) (cells inputs) ≡ map (λ (cell : Cell). cell.truth) case.cells.now =
    sym (truths-are inputs own its) ∙ own-truths own held is.book.facts ∙ fits.truths in
    let here : IsRounding case.system.now (map (λ (cell : Cell). cell.truth) case.cells.now) case.base values =
    subst (λ (list : List ℤ). IsRounding case.system.now list case.base values) truths (subst (λ (s : System). IsRounding s (map (truth_in inputs) (cells inputs)) case.base values) same rounds_so) in
    let many : length own.marks ≡ case.system.now.cells = its.one_each ∙ sym is.system.cells in
    let within : (k : ℕ) → k < case.system.now.cells → (pos 0 ≤ℤ number_at (map (λ (cell : Cell). cell.truth) case.cells.now) k) × (number_at (map (λ (cell : Cell). cell.truth) case.cells.now) k ≤ℤ pos (10 ^ 29)) =
    λ k inside. subst (λ (list : List ℤ). (pos 0 ≤ℤ number_at list k) × (number_at list k ≤ℤ pos (10 ^ 29))) (own-truths own held is.book.facts ∙ fits.truths) (truths-within inputs own its k (omega (arith, inside, many))) in
    let most : case.base ≤ℤ pos (10 ^ 22) =
    subst (λ (b : ℤ). b ≤ℤ pos (10 ^ 22)) (sym is.base)
    (subst (λ (d : DescribedJob). method_base d.job.method d.bound.decimals ≤ℤ pos (10 ^ 22)) (sym is.job_is.described) (base-most inputs.described.job.method inputs.described.bound.decimals sound.job.method sound.bound.decimals)) in
    let frame : cells_in held ≡ cells_in own = ap₂ (λ (ts : List Tree) (each : List (List Dimension)). cells_in (record { trees = ts; tables = each; marks = held.marks })) is.book.trees is.book.tables in
    let one_each : length held.marks ≡ length (cells_in held) = sym (length-map (λ (mark : Mark). mark.facts.truth) held.marks) ∙ ap (λ (list : List ℤ). length list) (sym (own-truths own held is.book.facts)) ∙ length-map (λ (mark : Mark). mark.facts.truth) own.marks ∙ its.one_each ∙ ap (λ (names : List Name). length names) (sym frame) in
    rounding-is-accepted case tables values
    (without_hidden_cells inputs.described.job.method (length (cells inputs)) (length (relations_among inputs.records.trees inputs.described.bound.tables)))
    fits rounding one_each
    (record {
      same_method = ap (λ (d : DescribedJob). d.job.method) (sym is.job_is.described) ∙ sym is.method;
      same_cells = ap (λ (names : List Name). length names) (sym (cells-are inputs own its)) ∙ sym is.system.cells;
      same_relations =
          ap₂ (λ (ts : List Tree) (each : List (List Dimension)). length (relations_among ts each)) (sym its.trees) (sym its.tables) ∙ ap (λ sums. length sums) (sym is.system.relations) ∙ length-map sum_in case.system.now.relations;
    })
    (record { hidden = refl; steps = refl; repairs = refl; needs = refl; worlds = refl })
    (rounded-released case.system.now (map (λ (cell : Cell). cell.truth) case.cells.now) values case.base (fits.base rounding) most within here) here texts
