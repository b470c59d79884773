use Rattle.std.proofs.Common.{◌+◌, decimal}
use Rattle.sdc_base.specs.Sides.{side_word}
use Rattle.job_run.specs.ReportText.{multipliers_text}
use Rattle.job_run.proofs.TermTexts.{against-appended}
use Rattle.job_run.proofs.printing.cannot_against_text.Goals as goal

pub returns : goal.returns
returns c =
    rw (c.new.ensures, c.into_bytes.ensures.value, c.in_ok-text.ensures.ok, c.word-word.ensures, c.in_ok-reason.ensures, c.from.ensures)
    (against-appended (decimal c.args.cell) (side_word c.args.side) (decimal (c.args.row + 1)) (multipliers_text c.args.multipliers.now))
