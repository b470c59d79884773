use Rattle.std.proofs.Common.{◌∙◌, sym}
use Rattle.cell_protection.proofs.CertificateLists.{both-lines}
use Rattle.cell_protection.proofs.certifying.add_lines.Goals as goal

pub returns : goal.returns
returns c =
    both-lines c.args.worlds.now c.args.lines.now c.add_line.new.lines c.add_line-2.new.lines c.args.number c.args.cell.now (sym c.is_primary.ensures ∙ c.if-not-is_primary.false)
    c.in_ok-add_line.ensures c.in_ok-add_line-2.ensures
