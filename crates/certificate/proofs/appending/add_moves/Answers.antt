use Rattle.std.proofs.Common.{take}
use Rattle.std.proofs.lemmas.List.{take_more}
use Rattle.certificate.specs.Spelling.{IsMoveWithinTypes}
use Rattle.certificate.proofs.Widths.{one_more, moves_more}
use Rattle.certificate.proofs.appending.add_moves.Goals as goal

pub loop-one-preserved : goal.loop-one-preserved
loop-one-preserved c =
    let more = take_more c.args.moves.now c.loop-one.one-index _ c.loop-one-test.true in
    record {
      text = rw (c.in_ok-add_move.ensures.text, c.loop-one.invariant.text) (moves_more c.args.text.now c.args.moves.now c.loop-one.one-index _ more);
      wide = rw more (one_more IsMoveWithinTypes (take c.loop-one.one-index c.args.moves.now) _ c.loop-one.invariant.wide c.in_ok-add_move.ensures.wide);
    }
