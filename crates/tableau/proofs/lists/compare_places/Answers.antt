use Rattle.std.proofs.Common.{ℤ, slice_index_or, [], arith, rules, FitsSigned}
use Rattle.std.specs.Int.{w128}
use Rattle.std.proofs.lemmas.Int.{ints, to_z-of_z}
use Rattle.sdc_base.specs.Systems.{number_at}
use Rattle.tableau.specs.RowLists.{list_of}
use Rattle.tableau.specs.SparseTables.{table_of, factor_at}
use Rattle.tableau.proofs.SparseTables.{factor_up}
use Rattle.tableau.proofs.Numbers.{lead_none_over, lead_above_over}
use Rattle.tableau.proofs.lists.compare_places.Goals as goal

pub returns-clause-less : goal.returns-clause-less
returns-clause-less c is =
    let t = table_of c.args.column.now.table.now in
    let problem = c.args.column.now.problem.now in
    let x : ℤ = c.list_number-number.result in
    let y : ℤ = c.list_number-other_number.result in
    let p : ℤ = c.member_number-own.result in
    let q : ℤ = c.member_number-other_own.result in
    let x_fits : FitsSigned w128 x = search rules in
    let y_fits : FitsSigned w128 y = search rules in
    let p_fits : FitsSigned w128 p = search rules in
    let q_fits : FitsSigned w128 q = search rules in
    let told = c.compare_products.ensures.less is in
    let less = simp to_z-of_z at told in
    lead_above_over p q x y (factor_at c.args.column.now.table.now c.args.one) (factor_at c.args.column.now.table.now c.args.other) (number_at (slice_index_or t.rows c.args.one []) c.args.column.now.place) (number_at (slice_index_or t.rows c.args.other []) c.args.column.now.place) (list_of problem t c.args.one c.args.place) (list_of problem t c.args.other c.args.place) (factor_up c.args.column.now.table.now c.args.one c.requires.column.sound (omega (arith, c.requires.rows.one_within))) (factor_up c.args.column.now.table.now c.args.other c.requires.column.sound (omega (arith, c.requires.rows.other_within))) c.member_number-own.ensures.over c.member_number-other_own.ensures.over c.list_number-number.ensures c.list_number-other_number.ensures less

pub returns-clause-equal : goal.returns-clause-equal
returns-clause-equal c is =
    let t = table_of c.args.column.now.table.now in
    let problem = c.args.column.now.problem.now in
    let x : ℤ = c.list_number-number.result in
    let y : ℤ = c.list_number-other_number.result in
    let p : ℤ = c.member_number-own.result in
    let q : ℤ = c.member_number-other_own.result in
    let x_fits : FitsSigned w128 x = search rules in
    let y_fits : FitsSigned w128 y = search rules in
    let p_fits : FitsSigned w128 p = search rules in
    let q_fits : FitsSigned w128 q = search rules in
    let told = c.compare_products.ensures.equal is in
    let same = simp to_z-of_z at told in
    lead_none_over p q x y (factor_at c.args.column.now.table.now c.args.one) (factor_at c.args.column.now.table.now c.args.other) (number_at (slice_index_or t.rows c.args.one []) c.args.column.now.place) (number_at (slice_index_or t.rows c.args.other []) c.args.column.now.place) (list_of problem t c.args.one c.args.place) (list_of problem t c.args.other c.args.place) c.member_number-own.ensures.over c.member_number-other_own.ensures.over c.list_number-number.ensures c.list_number-other_number.ensures same

pub returns-clause-greater : goal.returns-clause-greater
returns-clause-greater c is =
    let t = table_of c.args.column.now.table.now in
    let problem = c.args.column.now.problem.now in
    let x : ℤ = c.list_number-number.result in
    let y : ℤ = c.list_number-other_number.result in
    let p : ℤ = c.member_number-own.result in
    let q : ℤ = c.member_number-other_own.result in
    let x_fits : FitsSigned w128 x = search rules in
    let y_fits : FitsSigned w128 y = search rules in
    let p_fits : FitsSigned w128 p = search rules in
    let q_fits : FitsSigned w128 q = search rules in
    let told = c.compare_products.ensures.greater is in
    let less = simp to_z-of_z at told in
    lead_above_over q p y x (factor_at c.args.column.now.table.now c.args.other) (factor_at c.args.column.now.table.now c.args.one) (number_at (slice_index_or t.rows c.args.other []) c.args.column.now.place) (number_at (slice_index_or t.rows c.args.one []) c.args.column.now.place) (list_of problem t c.args.other c.args.place) (list_of problem t c.args.one c.args.place) (factor_up c.args.column.now.table.now c.args.other c.requires.column.sound (omega (arith, c.requires.rows.other_within))) (factor_up c.args.column.now.table.now c.args.one c.requires.column.sound (omega (arith, c.requires.rows.one_within))) c.member_number-other_own.ensures.over c.member_number-own.ensures.over c.list_number-other_number.ensures c.list_number-number.ensures less

pub compare_products-requires-clause-times : goal.compare_products-requires-clause-times
compare_products-requires-clause-times c =
    let q : ℤ = c.member_number-other_own.result in
    let q_fits : FitsSigned w128 q = search rules in
    omega (arith, ints, to_z-of_z w128 q q_fits, c.member_number-other_own.ensures.back c.requires.rows.other_above)

pub compare_products-requires-clause-other_times : goal.compare_products-requires-clause-other_times
compare_products-requires-clause-other_times c =
    let p : ℤ = c.member_number-own.result in
    let p_fits : FitsSigned w128 p = search rules in
    omega (arith, ints, to_z-of_z w128 p p_fits, c.member_number-own.ensures.back c.requires.rows.one_above)
