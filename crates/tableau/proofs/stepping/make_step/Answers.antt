use Rattle.std.proofs.lemmas.Grind.{common_steps}
use Rattle.std.proofs.Common.{◌≡◌, ◌≤◌, Err, refl, sym, subst, ◌∙◌, ap, true, length, arith, rules}
use Rattle.tableau.specs.declared.sparse_table.SparseTable.{SparseTable}
use Rattle.tableau.specs.Tables.{Table}
use Rattle.tableau.specs.SparseTables.{table_of}
use Rattle.tableau.specs.Steps.{IsReached}
use Rattle.tableau.specs.Widths.{name_in}
use Rattle.tableau.proofs.Solved.{some_member_leaves}
use Rattle.tableau.proofs.WellFormedProblems.{well_formed_problem, blocked_here, can_improve, step_keeps_posed}
use Rattle.tableau.proofs.stepping.make_step.Goals as goal

pub returns-in_default-clause-blocked : goal.returns-in_default-clause-blocked
returns-in_default-clause-blocked c =
    let t : Table = table_of c.args.table.now in
    (λ _. blocked_here c.args.problem.now t c.requires.well_formed c.requires.kept (λ reached. let clash : c.is_reached.result ≡ true = c.is_reached.ensures.1 reached in cc) c.in_default.ensures.none, λ _. refl)

pub unreachable-requires : goal.unreachable-requires
unreachable-requires c =
    let t : Table = table_of c.args.table.now in
    let enters = c.in-Some.ensures.enters in
    some_member_leaves c.args.problem.now t c.in-Some.column (well_formed_problem c.args.problem.now c.requires.well_formed) c.requires.kept enters.within enters.below c.in_default-leaving_row.ensures.none

pub answer-requires-clause-within : goal.answer-requires-clause-within
answer-requires-clause-within c k j is =
    let wide = c.in-Err.ensures.wide k j (ap Err is) in
    let same = c.in-Err.ensures.err in
    (subst (λ (d : SparseTable). k ≤ length d.members.items) (sym same) wide.0, subst (λ (d : SparseTable). j ≤ length d.others.items) (sym same) wide.1)

pub returns-clause-wide : goal.returns-clause-wide
returns-clause-wide c row column is =
    let named = c.answer.ensures.wide row column is in
    let wide = c.in-Err.ensures.wide named.0 named.1 (ap Err named.2) in
    let same = c.in-Err.ensures.err in
    let not_reached : IsReached c.args.problem.now (table_of c.args.table.now) → ⊥ = λ reached. let clash : c.is_reached.result ≡ true = c.is_reached.ensures.1 reached in cc in
    let can = can_improve c.args.problem.now (table_of c.args.table.now) c.in-Some.column c.requires.well_formed c.requires.kept not_reached c.in-Some.ensures.enters in
    record {
      below = can.0;
      row = c.in-Some-leaving_row.row;
      column = c.in-Some.column;
      enters = c.in-Some.ensures.enters;
      leaves = c.in-Some-leaving_row.ensures.leaves;
      wide_row = named.0;
      wide_column = named.1;
      row_within = wide.0;
      column_within = wide.1;
      row_name = named.3.0 ∙ ap (λ (d : SparseTable). name_in c.args.problem.now d.members.items named.0) same;
      column_name = named.3.1 ∙ ap (λ (d : SparseTable). name_in c.args.problem.now d.others.items named.1) same;
      is_wide = wide.2;
    }

pub returns-in-Ok-exchange-clause-improved : goal.returns-in-Ok-exchange-clause-improved
returns-in-Ok-exchange-clause-improved c _ =
    let reduced = c.in-Ok-exchange.ensures.ok in
    let not_reached : IsReached c.args.problem.now (table_of c.args.table.now) → ⊥ = λ reached. let clash : c.is_reached.result ≡ true = c.is_reached.ensures.1 reached in cc in
    let can = can_improve c.args.problem.now (table_of c.args.table.now) c.in-Some.column c.requires.well_formed c.requires.kept not_reached c.in-Some.ensures.enters in
    (c.in-Some-leaving_row.row, c.in-Some.column, reduced.0, record { below = can.0; enters = c.in-Some.ensures.enters; leaves = c.in-Some-leaving_row.ensures.leaves; reduced = reduced.1 })

pub returns-in-Ok-exchange-clause-kept : goal.returns-in-Ok-exchange-clause-kept
returns-in-Ok-exchange-clause-kept c =
    let reduced = c.in-Ok-exchange.ensures.ok in
    let not_reached : IsReached c.args.problem.now (table_of c.args.table.now) → ⊥ = λ reached. let clash : c.is_reached.result ≡ true = c.is_reached.ensures.1 reached in cc in
    let can = can_improve c.args.problem.now (table_of c.args.table.now) c.in-Some.column c.requires.well_formed c.requires.kept not_reached c.in-Some.ensures.enters in
    step_keeps_posed c.args.problem.now (table_of c.args.table.now) (table_of c.exchange.new.table) c.requires.well_formed c.requires.kept
    (c.in-Some-leaving_row.row, c.in-Some.column, reduced.0, record { below = can.0; enters = c.in-Some.ensures.enters; leaves = c.in-Some-leaving_row.ensures.leaves; reduced = reduced.1 })

pub returns-clause-kept : goal.returns-clause-kept
returns-clause-kept c = grind (arith, common_steps)

pub returns-in-Ok-exchange-clause-blocked : goal.returns-in-Ok-exchange-clause-blocked
returns-in-Ok-exchange-clause-blocked c = search rules

pub returns-clause-blocked : goal.returns-clause-blocked
returns-clause-blocked c = search rules
