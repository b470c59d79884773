use Rattle.std.proofs.Common.{ℕ, List, ◌++◌, ◌==◌, Bool, if◌then◌else◌, ap, sym}
use Rattle.sdc_base.specs.declared.rows.Row.{Row as Record}
use Rattle.tabulate.specs.UpperCells.{after_cell}
use Rattle.tabulate.proofs.PassSteps.{early-upper, no-upper, passed-as, passed-nowhere, to-upper}
use Rattle.tabulate.proofs.folding.fold_cell.Goals as goal

pub returns-in_default : goal.returns-in_default
returns-in_default c = passed-nowhere c.args.book.now c.args.variable c.args.first c.args.cell (no-upper c.args.book.now c.args.variable c.args.first c.args.cell c.in_default.ensures.upper)

pub returns-then-upper-first : goal.returns-then-upper-first
returns-then-upper-first c =
    passed-nowhere c.args.book.now c.args.variable c.args.first c.args.cell (early-upper c.args.book.now c.args.variable c.args.first c.args.cell c.in-Some.upper c.in-Some.ensures.upper c.if-upper-first.true)

pub returns : goal.returns
returns c =
    let book = c.args.book.now in
    passed-as book c.join_cells.new.book (λ given other. if c.in-Some.upper == other then given other ++ given c.args.cell else given other) (after_cell book c.args.variable c.args.first c.args.cell)
    (λ given other. ap (λ (b : Bool). if b then given other ++ given c.args.cell else given other) (sym (to-upper book c.args.variable c.args.first c.args.cell c.in-Some.upper c.in-Some.ensures.upper c.if-upper-first.false other))) c.join_cells.ensures
