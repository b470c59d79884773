-- The system and the trail of settled inputs are those of each job that has these inputs.
use Rattle.std.proofs.Common.{◌≡◌, ℕ, zero, suc, List, [], ◌∷◌, length, map, fold, slice_get, Option, None, Some, refl, ap, ap₂, sym, ◌∙◌, arith}
use Rattle.std.proofs.Math.Path.{fun_ext}
use Rattle.std.specs.List.{range_with_len}
use Rattle.std.specs.Option.{option_map_or}
use Rattle.sdc_base.specs.CubeOrder.{least_of}
use Rattle.sdc_base.specs.Records.{Name}
use Rattle.sdc_base.specs.Relations.{relations_among}
use Rattle.sdc_base.specs.Subtables.{ordered_subtables}
use Rattle.sdc_base.specs.Trails.{hidden_after, levels_at, with_step}
use Rattle.sdc_base.specs.Trees.{Tree}
use Rattle.sdc_base.specs.declared.cell.Cell.{Cell}
use Rattle.sdc_base.specs.declared.cube.Subtable.{Subtable}
use Rattle.sdc_base.specs.declared.dimension.Dimension.{Dimension}
use Rattle.sdc_base.specs.declared.facts.CellFacts.{CellFacts}
use Rattle.sdc_base.specs.declared.rows.Row.{Row}
use Rattle.sdc_base.specs.declared.system.System.{System}
use Rattle.sdc_base.specs.declared.trail.PlanStep.{PlanStep}
use Rattle.cost_rule.specs.Costs.{cost_of, price_of}
use Rattle.cost_rule.specs.declared.kind.CostKind.{CostKind}
use Rattle.cost_rule.specs.declared.kind.CostKind.TheVariants as kind
use Rattle.hypercube.specs.LeastCubes.{cubes_in, price_in}
use Rattle.linked_tables.specs.BookViews.{BookView}
use Rattle.linked_tables.specs.BookCells.{cells as cells_in, cell_at}
use Rattle.linked_tables.specs.declared.mark.Mark.{Mark}
use Rattle.modular_plan.specs.Plans.{hidden_in, in_passes, trail_of}
use Rattle.primary_rules.specs.EnoughForRules.{AreFactsOf}
use Rattle.relations.specs.Holding.{sum_in, IsSystemOf}
use Rattle.job_inputs.proofs.Facts.{facts-in}
use Rattle.job_inputs.specs.Cells.{cells}
use Rattle.job_inputs.specs.TabulatedBooks.{IsBookOf}
use Rattle.job_inputs.specs.declared.inputs.Inputs.{Inputs}
use Rattle.release_laws.proofs.SameValues.{same-systems}

-- ---- the system

-- books of the same trees and tables have the same system
pub same-system : (book next : BookView) (one other : System) → book.trees ≡ next.trees → book.tables ≡ next.tables → IsSystemOf book one → IsSystemOf next other → one ≡ other
same-system book next one other trees tables is are =
    let named : cells_in book ≡ cells_in next = ap₂ (λ (ts : List Tree) (all : List (List Dimension)). cells_in (record { trees = ts; tables = all; marks = book.marks })) trees tables in
    let cells : one.cells ≡ other.cells = is.cells ∙ ap length named ∙ sym are.cells in
    let sums : map sum_in one.relations ≡ map sum_in other.relations = is.relations ∙ ap₂ relations_among trees tables ∙ sym are.relations in
    same-systems one other cells sums

-- ---- the trail

-- facts of one truth and one number of records cost the same
same-cost : (cost : CostKind) (one other : CellFacts) → one.truth ≡ other.truth → one.freq ≡ other.freq → cost_of cost one ≡ cost_of cost other
same-cost kind.Value one other truths counts = rw truths refl
same-cost kind.Freq one other truths counts = rw counts refl
same-cost kind.One one other truths counts = refl

same-price : (cost : CostKind) (own : Option ℕ) (one other : CellFacts) → one.truth ≡ other.truth → one.freq ≡ other.freq → price_of cost own one ≡ price_of cost own other
same-price cost None one other truths counts = same-cost cost one other truths counts
same-price cost (Some price) one other truths counts = refl

-- the price of a cell with this mark, where there is one
abbrev priced : List Cell → CostKind → ℕ → Option Mark → ℕ
priced cells cost cell mark = option_map_or (λ (known : Mark). option_map_or (λ (one : Cell). price_of cost one.price known.facts) (slice_get cells cell) 0) mark 0

-- marks cost the same, where there are both or neither
abbrev CostAlike : Option Mark → Option Mark → Type 0
CostAlike None None = Unit {0}
CostAlike (Some one) (Some other) = (one.facts.truth ≡ other.facts.truth) × (one.facts.freq ≡ other.facts.freq)
CostAlike other one = ⊥

alike-priced : (cells : List Cell) (cost : CostKind) (cell : ℕ) (one other : Option Mark) → CostAlike one other → priced cells cost cell one ≡ priced cells cost cell other
alike-priced cells cost cell None None alike = refl
alike-priced cells cost cell None (Some other) alike = absurd alike
alike-priced cells cost cell (Some one) None alike = absurd alike
alike-priced cells cost cell (Some one) (Some other) alike = by (slice_get cells cell)
  where
    by : (found : Option Cell) → option_map_or (λ (c : Cell). price_of cost c.price one.facts) found 0 ≡ option_map_or (λ (c : Cell). price_of cost c.price other.facts) found 0
    by None = refl
    by (Some c) = same-price cost c.price one.facts other.facts alike.0 alike.1

-- marks that have the facts of the records in the cells of these names cost alike, place by place
alike-at : (trees : List Tree) (rows : List Row) (names : List Name) (one other : List Mark) (cell : ℕ) → length names ≡ length one → length names ≡ length other
    → ((k : ℕ) (name : Name) (mark : Mark) → slice_get names k ≡ Some name → slice_get one k ≡ Some mark → AreFactsOf mark.facts trees name rows)
    → ((k : ℕ) (name : Name) (mark : Mark) → slice_get names k ≡ Some name → slice_get other k ≡ Some mark → AreFactsOf mark.facts trees name rows)
    → CostAlike (slice_get one cell) (slice_get other cell)
alike-at trees rows [] [] [] cell each all facts others = tt
alike-at trees rows [] (m ∷ one) other cell each all facts others = absurd (omega (arith, each))
alike-at trees rows [] [] (n ∷ other) cell each all facts others = absurd (omega (arith, all))
alike-at trees rows (name ∷ names) [] other cell each all facts others = absurd (omega (arith, each))
alike-at trees rows (name ∷ names) (m ∷ one) [] cell each all facts others = absurd (omega (arith, all))
alike-at trees rows (name ∷ names) (m ∷ one) (n ∷ other) zero each all facts others =
    let first = facts 0 name m refl refl in
    let second = others 0 name n refl refl in
    (first.truth ∙ sym second.truth, first.freq ∙ sym second.freq)
alike-at trees rows (name ∷ names) (m ∷ one) (n ∷ other) (suc cell) each all facts others =
    alike-at trees rows names one other cell (omega (arith, each)) (omega (arith, all)) (λ k called mark at is. facts (suc k) called mark at is) (λ k called mark at is. others (suc k) called mark at is)

-- books of the same inputs have the same prices
same-prices : (inputs : Inputs) (one other : BookView) (all : List Cell) (cost : CostKind) → IsBookOf inputs one → IsBookOf inputs other → price_in one all cost ≡ price_in other all cost
same-prices inputs one other all cost is are =
    let facts = facts-in inputs one is in
    let others = facts-in inputs other are in
    fun_ext (λ cell. alike-priced all cost cell (slice_get one.marks cell) (slice_get other.marks cell)
    (alike-at inputs.records.trees inputs.records.rows (cells inputs) one.marks other.marks cell facts.one_each others.one_each (λ k name mark at there. (facts.each k name mark at there).0) (λ k name mark at there. (others.each k name mark at there).0)))

-- the trail by trees and tables, and by the price of each cell
abbrev trail_by : BookView → (ℕ → ℕ) → List Cell → ℕ → List PlanStep
trail_by book price all passes =
    fold
    (λ (steps : List PlanStep) (subtable : Subtable).
    fold
    (λ (so_far : List PlanStep) (cell : ℕ).
    with_step (hidden_after all so_far) subtable cell so_far (least_of (cell_at book subtable.table) (hidden_after all so_far) price all (levels_at all cell) (cubes_in book subtable cell)))
    steps (hidden_in book (hidden_after all steps) subtable))
    [] (in_passes (ordered_subtables book.trees book.tables) (range_with_len 0 passes))

trail-by : (book : BookView) (all : List Cell) (cost : CostKind) (passes : ℕ) → trail_of book all cost passes ≡ trail_by book (price_in book all cost) all passes
trail-by book all cost passes = refl

-- it doesn't rest on the marks otherwise
trail-frame : (one other : BookView) (price : ℕ → ℕ) (all : List Cell) (passes : ℕ) → one.trees ≡ other.trees → one.tables ≡ other.tables → trail_by one price all passes ≡ trail_by other price all passes
trail-frame one other price all passes trees tables = ap₂ (λ (ts : List Tree) (each : List (List Dimension)). trail_by (record { trees = ts; tables = each; marks = one.marks }) price all passes) trees tables

-- books of the same inputs have the same trail
pub same-trail : (inputs : Inputs) (one other : BookView) (all : List Cell) (cost : CostKind) (passes : ℕ) → IsBookOf inputs one → IsBookOf inputs other → trail_of one all cost passes ≡ trail_of other all cost passes
same-trail inputs one other all cost passes is are =
    trail-by one all cost passes
    ∙ ap (λ (price : ℕ → ℕ). trail_by one price all passes) (same-prices inputs one other all cost is are)
    ∙ trail-frame one other (price_in other all cost) all passes (is.trees ∙ sym are.trees) (is.tables ∙ sym are.tables)
    ∙ sym (trail-by other all cost passes)
