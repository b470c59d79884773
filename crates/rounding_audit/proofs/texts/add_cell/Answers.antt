use Rattle.std.proofs.Common.{decimal}
use Rattle.cell_intervals.specs.IntervalTexts.{ratio_text}
use Rattle.rounding_audit.specs.AuditTexts.{covered_word}
use Rattle.rounding_audit.proofs.Joining.{cell_appended}
use Rattle.rounding_audit.proofs.texts.add_cell.Goals as goal

pub returns : goal.returns
returns c =
    let one = c.args.one.now in
    rw (c.in_ok-add.ensures, c.as_bytes.ensures.value, c.in_ok-line.ensures.ok, c.in_ok-low.ensures, c.in_ok-high.ensures, c.covered_word-below.ensures, c.covered_word-above.ensures)
    (cell_appended c.args.text.now (decimal one.cell) (ratio_text one.below.value) (ratio_text one.above.value) (covered_word one.below.covered) (covered_word one.above.covered))
