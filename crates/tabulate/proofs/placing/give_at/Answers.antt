use Rattle.std.proofs.Common.{sym}
use Rattle.tabulate.proofs.PlaceSteps.{gave-nowhere, gave-one, not-found, too-early}
use Rattle.tabulate.proofs.PassSteps.{no-mark}
use Rattle.tabulate.proofs.placing.give_at.Goals as goal

pub returns-in_default : goal.returns-in_default
returns-in_default c =
    gave-nowhere c.args.book.now c.args.t c.args.first c.args.row.now c.args.place.now (not-found c.args.book.now c.args.t c.args.first c.args.place.now c.in_default.ensures.cell)

pub returns-then-cell-first : goal.returns-then-cell-first
returns-then-cell-first c =
    gave-nowhere c.args.book.now c.args.t c.args.first c.args.row.now c.args.place.now
    (too-early c.args.book.now c.args.t c.args.first c.args.place.now c.in-Some.cell c.in-Some.ensures.cell c.if-cell-first.true)

pub returns-in_default-mark_mut : goal.returns-in_default-mark_mut
returns-in_default-mark_mut c = absurd (no-mark c.args.book.now.marks c.in-Some.cell c.in-Some.ensures.within (sym c.in_default-mark_mut.ensures.mark))

pub returns-in-Some-mark_mut : goal.returns-in-Some-mark_mut
returns-in-Some-mark_mut c =
    gave-one c.args.book.now c.args.t c.args.first c.args.row.now c.args.place.now c.in-Some.cell c.in-Some-mark_mut.mark.now c.add.new.mark c.in-Some.ensures.cell c.if-cell-first.false (sym c.in-Some-mark_mut.ensures.mark) c.add.ensures.kept c.add.ensures.given
