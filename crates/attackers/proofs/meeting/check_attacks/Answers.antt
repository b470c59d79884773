use Rattle.std.proofs.Common.{◌<◌, ◌∙◌, ℕ, List, All, length, sym, subst}
use Rattle.sdc_base.specs.declared.side.Side.{Side}
use Rattle.attackers.proofs.AskedCells.{all_inside}
use Rattle.attackers.proofs.meeting.check_attacks.Goals as goal

pub check_rows-requires : goal.check_rows-requires
check_rows-requires c = record {
  asked = subst (λ (asked : List (ℕ × Side)). All (λ (one : ℕ × Side). one.0 < length c.args.cells.now) asked) (sym (c.deref.ensures.value ∙ c.in_ok-asked.ensures)) (all_inside c.args.cells.now);
}
