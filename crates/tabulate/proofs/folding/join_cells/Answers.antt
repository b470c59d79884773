use Rattle.std.proofs.Common.{◌≡◌, ℕ, ◌<◌, ◌≤◌, List, None, Some, length, slice_get, option_map, ap, sym, ◌∙◌, arith}
use Rattle.sdc_base.specs.declared.rows.Row.{Row as Record}
use Rattle.tabulate.specs.MarkRecords.{settings_of}
use Rattle.tabulate.proofs.PassSteps.{mark-at, even-with, no-mark, passed-one}
use Rattle.tabulate.proofs.folding.join_cells.Goals as goal

pub join-requires : goal.join-requires
join-requires c =
    let own = mark-at c.args.book.now.marks c.args.lower c.requires.within in
    let even = c.requires.even c.args.upper c.args.lower c.in-Some.mark.now own.0 (sym c.in-Some.ensures.mark) own.1 in
    let same = even-with c.args.book.now.marks c.args.lower own.0 c.mark_at-other.result own.1 c.mark_at-other.ensures.kept in
    record { keep = omega (arith, even.0, same.0); scale = omega (arith, even.1, same.1) }

pub returns-in-Some : goal.returns-in-Some
returns-in-Some c =
    let at = sym c.in-Some.ensures.mark in
    passed-one c.args.book.now c.args.upper c.args.lower c.in-Some.mark.now c.join.new.mark at c.join.ensures.kept
    (λ given start. c.join.ensures.given (given c.args.upper) (given c.args.lower) (start c.args.upper c.in-Some.mark.now at) (c.mark_at-other.ensures.given given start))

pub returns-in_default : goal.returns-in_default
returns-in_default c = absurd (no-mark c.args.book.now.marks c.args.upper c.requires.above (sym c.in_default.ensures.mark))
