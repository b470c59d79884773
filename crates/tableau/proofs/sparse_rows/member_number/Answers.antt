use Rattle.std.proofs.Common.{◌≡◌, slice_index_or, [], ap, ◌∙◌, arith, rules, FitsSigned, ◌*ℤ◌, to_z, of_z}
use Rattle.std.specs.Int.{w128}
use Rattle.std.proofs.lemmas.Int.{to_z-of_z}
use Rattle.sdc_base.specs.Systems.{number_at}
use Rattle.tableau.specs.SparseTables.{factor_at, table_of}
use Rattle.tableau.proofs.OwnRows.{above_of, above_times, not_above_times}
use Rattle.tableau.proofs.SparseTables.{row_number, factor_up}
use Rattle.tableau.proofs.sparse_rows.member_number.Goals as goal

pub returns-clause-over : goal.returns-clause-over
returns-clause-over c =
    let s = c.args.table.now in
    let fits : FitsSigned w128 c.column_number.result = search rules in
    ap (λ x. x *ℤ factor_at s c.args.k) (to_z-of_z w128 c.column_number.result fits ∙ c.column_number.ensures) ∙ row_number s c.args.k c.args.column c.requires.row (omega (arith, c.requires.column))

pub returns-clause-above : goal.returns-clause-above
returns-clause-above c up =
    let s = c.args.table.now in
    let fits : FitsSigned w128 c.column_number.result = search rules in
    let over : to_z w128 (of_z w128 c.column_number.result) *ℤ factor_at s c.args.k ≡ number_at (slice_index_or (table_of s).rows c.args.k []) c.args.column =
    ap (λ x. x *ℤ factor_at s c.args.k) (to_z-of_z w128 c.column_number.result fits ∙ c.column_number.ensures) ∙ row_number s c.args.k c.args.column c.requires.row (omega (arith, c.requires.column)) in
    above_times (to_z w128 (of_z w128 c.column_number.result)) (factor_at s c.args.k) (number_at (slice_index_or (table_of s).rows c.args.k []) c.args.column) (factor_up s c.args.k c.requires.sound (omega (arith, c.requires.row))) over up

pub returns-clause-back : goal.returns-clause-back
returns-clause-back c up =
    let s = c.args.table.now in
    let fits : FitsSigned w128 c.column_number.result = search rules in
    let over : to_z w128 (of_z w128 c.column_number.result) *ℤ factor_at s c.args.k ≡ number_at (slice_index_or (table_of s).rows c.args.k []) c.args.column =
    ap (λ x. x *ℤ factor_at s c.args.k) (to_z-of_z w128 c.column_number.result fits ∙ c.column_number.ensures) ∙ row_number s c.args.k c.args.column c.requires.row (omega (arith, c.requires.column)) in
    above_of (to_z w128 (of_z w128 c.column_number.result)) (factor_at s c.args.k) (number_at (slice_index_or (table_of s).rows c.args.k []) c.args.column) (factor_up s c.args.k c.requires.sound (omega (arith, c.requires.row))) over up

pub returns-clause-below : goal.returns-clause-below
returns-clause-below c down =
    let s = c.args.table.now in
    let fits : FitsSigned w128 c.column_number.result = search rules in
    let over : to_z w128 (of_z w128 c.column_number.result) *ℤ factor_at s c.args.k ≡ number_at (slice_index_or (table_of s).rows c.args.k []) c.args.column =
    ap (λ x. x *ℤ factor_at s c.args.k) (to_z-of_z w128 c.column_number.result fits ∙ c.column_number.ensures) ∙ row_number s c.args.k c.args.column c.requires.row (omega (arith, c.requires.column)) in
    not_above_times (to_z w128 (of_z w128 c.column_number.result)) (factor_at s c.args.k) (number_at (slice_index_or (table_of s).rows c.args.k []) c.args.column) (factor_up s c.args.k c.requires.sound (omega (arith, c.requires.row))) over down
