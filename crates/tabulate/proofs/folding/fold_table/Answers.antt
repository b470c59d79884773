use Rattle.std.proofs.Common.{◌≡◌, ◌<◌, ◌≤◌, ◌∙◌, List, length, take, slice_get, Some, ap, sym, subst, arith}
use Rattle.std.proofs.lemmas.List.{take_all}
use Rattle.code_trees.proofs.FlatSteps.{take-at}
use Rattle.linked_tables.specs.BookViews.{BookView}
use Rattle.sdc_base.specs.declared.dimension.Dimension.{Dimension}
use Rattle.tabulate.specs.RecordsByPlace.{dimensions_of}
use Rattle.tabulate.specs.UpperCells.{PassedRecords, after_variables}
use Rattle.tabulate.proofs.PassSteps.{even-kept, no-item, passed-none, variables-next}
use Rattle.tabulate.proofs.folding.fold_table.Goals as goal

pub variables-init : goal.variables-init
variables-init c = passed-none c.args.book.now

pub fold_variable-requires : goal.fold_variable-requires
fold_variable-requires c = record { even = even-kept c.args.book.now.marks c.variables.book.marks c.variables.invariant.kept c.requires.even }

pub variables-preserved : goal.variables-preserved
variables-preserved c =
    let book = c.args.book.now in
    let table = dimensions_of book c.args.t in
    let k = c.variables.k in
    let at : slice_get table k ≡ Some c.in-Some.dimension = ap (λ (b : BookView). slice_get (dimensions_of b c.args.t) k) (sym c.variables.invariant.frame) ∙ sym c.in-Some.ensures in
    subst (λ (some : List Dimension). PassedRecords book c.fold_variable.new.book (after_variables book c.args.first c.args.past some)) (sym (take-at table k c.in-Some.dimension at))
    (variables-next book c.variables.book c.fold_variable.new.book c.args.first c.args.past (take k table) c.in-Some.dimension c.variables.invariant c.fold_variable.ensures)

pub returns-in_default : goal.returns-in_default
returns-in_default c =
    let table = dimensions_of c.args.book.now c.args.t in
    let inside : c.variables.k < length table = omega (arith, c.variables-test.true, c.width_of-k-end.ensures) in
    absurd (no-item table c.variables.k inside (ap (λ (b : BookView). slice_get (dimensions_of b c.args.t) c.variables.k) (sym c.variables.invariant.frame) ∙ sym c.in_default.ensures))

pub returns : goal.returns
returns c =
    let table = dimensions_of c.args.book.now c.args.t in
    let past : length table ≤ c.variables.k = omega (arith, c.variables-test.false, c.width_of-k-end.ensures) in
    subst (λ (some : List Dimension). PassedRecords c.args.book.now c.variables.book (after_variables c.args.book.now c.args.first c.args.past some)) (take_all c.variables.k table past) c.variables.invariant
