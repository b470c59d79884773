use Rattle.std.proofs.Common.{◌∙◌, ap, sym, length}
use Rattle.cert_check.proofs.SetLengths.{set_length}
use Rattle.cert_check.proofs.certifying.certify.Goals as goal

pub check_permitted-requires-clause-flags : goal.check_permitted-requires-clause-flags
check_permitted-requires-clause-flags c = ap length (c.as_slice-2.ensures ∙ c.in_ok-hidden.ensures) ∙ set_length c.args.case.now.system.now.cells c.as_slice.result.now ∙ sym c.requires.each_cell

pub check_shown-requires-clause-ground : goal.check_shown-requires-clause-ground
check_shown-requires-clause-ground c = record {
  each_cell = c.requires.each_cell;
  each_flag = ap length c.in_ok-hidden.ensures ∙ set_length c.args.case.now.system.now.cells c.as_slice.result.now;
}
