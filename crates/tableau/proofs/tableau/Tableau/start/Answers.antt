use Rattle.std.proofs.lemmas.Grind.{common_steps}
use Rattle.std.proofs.Common.{◌≡◌, ◌∷◌, [], length, length-append, ap, ◌∙◌, arith}
use Rattle.tableau.specs.Problems.{target_row}
use Rattle.tableau.specs.Tables.{Table}
use Rattle.tableau.specs.SparseTables.{table_of}
use Rattle.tableau.proofs.WellFormedProblems.{well_formed_keeps, length-values, length-slacks}
use Rattle.tableau.proofs.ReducedRows.{taken_back}
use Rattle.tableau.proofs.tableau.Tableau.start.Goals as goal

pub read_values-requires-clause-kept : goal.read_values-requires-clause-kept
read_values-requires-clause-kept c = well_formed_keeps c.args.problem 0 (table_of c.in_ok-table.table) c.requires c.in_ok-table.ensures.table

pub read_slacks-requires-clause-kept : goal.read_slacks-requires-clause-kept
read_slacks-requires-clause-kept c = well_formed_keeps c.args.problem 0 (table_of c.in_ok-table.table) c.requires c.in_ok-table.ensures.table

pub invariant_of-result : goal.invariant_of-result
invariant_of-result c =
    let t : Table = table_of c.in_ok-table.table in
    let problem = c.args.problem in
    let values_long : length c.read_values.new.values ≡ c.in_ok-values.values.len = ap length c.read_values.ensures ∙ length-values problem t ∙ omega (arith, c.in_ok-values.ensures.len) in
    let slacks_long : length c.read_slacks.new.slacks ≡ c.in_ok-slacks.slacks.len = ap length c.read_slacks.ensures ∙ length-slacks problem t ∙ omega (arith, c.in_ok-slacks.ensures.len, ap length c.as_slice.ensures, length-append problem.rows (target_row problem ∷ [])) in (
      c.in_ok-table.ensures.sound,
      record {
        is_walk = record { well_formed = c.requires; steps = c.in_ok-table.ensures.table };
        values_are = taken_back c.in_ok-values.values.len c.read_values.new.values c.in_ok-values.values.items values_long ∙ c.read_values.ensures;
        slacks_are = taken_back c.in_ok-slacks.slacks.len c.read_slacks.new.slacks c.in_ok-slacks.slacks.items slacks_long ∙ c.read_slacks.ensures;
      },
    )

pub read_slacks-requires-clause-long : goal.read_slacks-requires-clause-long
read_slacks-requires-clause-long c = grind (arith, common_steps)
