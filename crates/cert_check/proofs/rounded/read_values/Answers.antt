use Rattle.std.proofs.Common.{◌∙◌}
use Rattle.cert_check.proofs.Roundings.{have_texts, from_zero, truths_each}
use Rattle.cert_check.proofs.SetLengths.{truths_from_zero}
use Rattle.cert_check.proofs.rounded.read_values.Goals as goal

pub rounded_of-requires-clause-truths : goal.rounded_of-requires-clause-truths
rounded_of-requires-clause-truths c = truths_from_zero c.args.case.now.book.now.marks c.args.case.now.cells.now c.requires.case.truths

pub returns-clause-each : goal.returns-clause-each
returns-clause-each c =
    (have_texts c.args.case.now.book.now c.args.case.now.names.now c.args.case.now.decimals c.args.release.now c.in_ok-values.values c.cells-cells.ensures.book.one_each c.requires.case.names.lists c.requires.case.tables c.in_ok-values.ensures.exact).each
    ∙ truths_each c.args.case.now.book.now.marks c.args.case.now.cells.now c.requires.case.truths

pub returns-clause-from_zero : goal.returns-clause-from_zero
returns-clause-from_zero c =
    from_zero c.in_ok-values.values
    (have_texts c.args.case.now.book.now c.args.case.now.names.now c.args.case.now.decimals c.args.release.now c.in_ok-values.values c.cells-cells.ensures.book.one_each c.requires.case.names.lists c.requires.case.tables c.in_ok-values.ensures.exact).released
