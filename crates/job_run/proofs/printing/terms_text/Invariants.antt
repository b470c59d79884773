use Rattle.std.proofs.Common.{◌≡◌, flat_map, take}
use Rattle.job_run.specs.ReportText.{term_text}
use Rattle.job_run.proofs.printing.terms_text.Given as goal

abbrev pub invariant-terms : goal.invariant-terms
invariant-terms l = l.text.bytes.items ≡ flat_map term_text (take l.term-index l.fn.terms)
