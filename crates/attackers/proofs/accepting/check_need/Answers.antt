use Rattle.std.proofs.Common.{◌∙◌, List, Bool, length, length-set, ap, false}
use Rattle.sdc_base.specs.HiddenSets.{show}
use Rattle.attackers.proofs.Knowing.{length-without}
use Rattle.attackers.proofs.accepting.check_need.Goals as goal

pub check_refutation-requires-clause-ground : goal.check_refutation-requires-clause-ground
check_refutation-requires-clause-ground c = record {
  each_cell = c.args.extended.now.one_each.each_cell;
  each_flag =
      ap (λ (l : List Bool). length l) c.in_ok-left.ensures.flags
      ∙ length-without c.args.soles.now c.args.need.now.row (show c.as_slice-flags.result.now c.args.need.now.subject)
      ∙ length-set c.as_slice-flags.result.now c.args.need.now.subject false
      ∙ ap (λ (l : List Bool). length l) c.as_slice-flags.ensures ∙ c.args.extended.now.one_each.each_flag;
}
