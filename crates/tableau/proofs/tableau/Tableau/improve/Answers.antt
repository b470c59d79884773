use Rattle.std.proofs.Common.{◌≡◌, Ok, length, ap, sym, subst, ◌∙◌, arith}
use Rattle.tableau.specs.declared.sparse_table.SparseTable.{SparseTable}
use Rattle.tableau.specs.declared.step.Step.{Step}
use Rattle.tableau.specs.declared.step.Step.TheVariants as step
use Rattle.tableau.specs.Tables.{Table}
use Rattle.tableau.specs.Steps.{IsStepOf, IsReached, IsBlocked}
use Rattle.tableau.specs.Widths.{IsWideStep}
use Rattle.tableau.specs.Tableaus.{TableauWalk, IsTableau, tableau_walk}
use Rattle.tableau.specs.SparseTables.{table_of, IsSoundTable}
use Rattle.tableau.proofs.WellFormedProblems.{well_formed_keeps, length-values, length-slacks, walk_more}
use Rattle.tableau.proofs.ReducedRows.{taken_back}
use Rattle.tableau.proofs.tableau.Tableau.improve.Goals as goal

pub make_step-requires-clause-kept : goal.make_step-requires-clause-kept
make_step-requires-clause-kept c =
    let i = c.self.inside in
    well_formed_keeps i.problem i.improved (table_of i.table) c.self.invariant.1.is_walk.well_formed c.self.invariant.1.is_walk.steps

pub invariant_of-self-in_default : goal.invariant_of-self-in_default
invariant_of-self-in_default c =
    let i = c.self.inside in
    let same : c.make_step.new.table ≡ i.table = c.in_ok-step.ensures.same (λ clash. let is : c.in_ok-step.step ≡ step.Improved = cc in c.in_default.not-Improved is) in
    subst (λ (d : SparseTable). IsSoundTable d × IsTableau (tableau_walk i.problem i.improved (table_of d)) i.values.items i.slacks.items) (sym same) c.self.invariant

pub read_values-requires-clause-long : goal.read_values-requires-clause-long
read_values-requires-clause-long c =
    let i = c.self.inside in
    ap length (c.as_mut_slice.ensures.value ∙ c.self.invariant.1.values_are) ∙ length-values i.problem (table_of i.table)

pub read_slacks-requires-clause-long : goal.read_slacks-requires-clause-long
read_slacks-requires-clause-long c =
    let i = c.self.inside in
    ap length (c.as_mut_slice-2.ensures.value ∙ c.self.invariant.1.slacks_are) ∙ length-slacks i.problem (table_of i.table)

pub invariant_of-self-2 : goal.invariant_of-self-2
invariant_of-self-2 c =
    let i = c.self.inside in
    let before : Table = table_of i.table in
    let after : Table = table_of c.make_step.new.table in
    let made : IsStepOf i.problem before after = c.in_ok-step.ensures.improved (ap Ok c.in-Improved.is) in
    let values_long : length c.read_values.new.values ≡ i.values.len = ap length c.read_values.ensures ∙ length-values i.problem after ∙ sym (ap length c.self.invariant.1.values_are ∙ length-values i.problem before) ∙ omega arith in
    let slacks_long : length c.read_slacks.new.slacks ≡ i.slacks.len = ap length c.read_slacks.ensures ∙ length-slacks i.problem after ∙ sym (ap length c.self.invariant.1.slacks_are ∙ length-slacks i.problem before) ∙ omega arith in (
      c.in_ok-step.ensures.sound,
      record {
        is_walk = record { well_formed = c.self.invariant.1.is_walk.well_formed; steps = walk_more i.problem i.improved before after c.self.invariant.1.is_walk.steps made };
        values_are = taken_back i.values.len c.read_values.new.values i.values.items values_long ∙ c.read_values.ensures;
        slacks_are = taken_back i.slacks.len c.read_slacks.new.slacks i.slacks.items slacks_long ∙ c.read_slacks.ensures;
      },
    )

pub returns-clause-improved : goal.returns-clause-improved
returns-clause-improved c _ =
    let i = c.self.inside in
    let after : Table = table_of c.make_step.new.table in
    subst (λ (w : TableauWalk). IsStepOf w.problem w.table after) c.self.view_is (c.in_ok-step.ensures.improved (ap Ok c.in-Improved.is))

pub returns-in_default : goal.returns-in_default
returns-in_default c =
    let i = c.self.inside in
    let s : Step = c.in_ok-step.step in
    let t : Table = table_of i.table in
    let told = c.in_ok-step.ensures in
    let apart : s ≡ step.Improved → ⊥ = c.in_default.not-Improved in
    let same : c.make_step.new.table ≡ i.table = told.same (λ clash. let is : s ≡ step.Improved = cc in apart is) in
    record {
      problem = ap (λ (w : TableauWalk). w.problem) c.self.view_is;
      improved = λ clash. let is : s ≡ step.Improved = cc in absurd (apart is);
      counted = λ clash. let is : s ≡ step.Improved = cc in absurd (apart is);
      same = λ _. ap (λ (d : SparseTable). tableau_walk i.problem i.improved (table_of d)) same ∙ c.self.view_is;
      reached = subst (λ (w : TableauWalk). (s ≡ step.Reached → IsReached w.problem w.table) × (IsReached w.problem w.table → s ≡ step.Reached)) c.self.view_is told.reached;
      blocked = subst (λ (w : TableauWalk). (s ≡ step.Blocked → IsBlocked w.problem w.table) × (IsBlocked w.problem w.table → s ≡ step.Blocked)) c.self.view_is told.blocked;
      wide = λ row column is. subst (λ (w : TableauWalk). IsWideStep w.problem w.table row column) c.self.view_is (told.wide row column (let of_step : s ≡ step.Wide row column = cc in ap Ok of_step));
    }
