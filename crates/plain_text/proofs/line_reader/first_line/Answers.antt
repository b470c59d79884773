use Rattle.std.proofs.Common.{arith, not, sym, ◌∙◌}
use Rattle.std.proofs.lemmas.List.{take_rest}
use Rattle.plain_text.proofs.FirstLine.{lines-none, lines-first}
use Rattle.std.proofs.lemmas.List.Sums.{prefix_len-le-length}
use Rattle.sdc_base.specs.Lines.{is_line_feed}
use Rattle.plain_text.proofs.line_reader.first_line.Goals as goal

pub returns-then-end-bytes-clause-line : goal.returns-then-end-bytes-clause-line
returns-then-end-bytes-clause-line c = lines-none _ c.requires (sym c.line_end-end.ensures ∙ c.if-end-bytes.true)

pub returns-else-end-bytes-clause-line : goal.returns-else-end-bytes-clause-line
returns-else-end-bytes-clause-line c =
    rw (c.without_return.ensures.text, take_rest) (lines-first c.args.bytes.now c.line_end-end.result (omega (arith, prefix_len-le-length (λ b. not (is_line_feed b)) c.args.bytes.now)) c.line_end-end.ensures)
