use Rattle.std.proofs.Common.{decimal}
use Rattle.job_run.specs.ReportText.{demo_numbers_text}
use Rattle.job_run.proofs.TermTexts.{demo-appended}
use Rattle.job_run.proofs.printing.demo_text.Goals as goal

pub returns-in-Some : goal.returns-in-Some
returns-in-Some c =
    rw (c.new.ensures, c.into_bytes.ensures.value, c.in_ok-line.ensures.ok, c.in-Some.is)
    (demo-appended (decimal c.args.demo.now.status) (demo_numbers_text c.in-Some.summary))
