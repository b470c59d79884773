use Rattle.std.proofs.Common.{take}
use Rattle.std.proofs.lemmas.List.{take_more}
use Rattle.certificate.specs.Spelling.{IsTermWithinTypes}
use Rattle.certificate.proofs.Widths.{one_more, pairs_more}
use Rattle.certificate.proofs.appending.add_pairs.Goals as goal

pub loop-pair-preserved : goal.loop-pair-preserved
loop-pair-preserved c =
    let more = take_more c.args.pairs.now c.loop-pair.pair-index _ c.loop-pair-test.true in
    record {
      text = rw (c.in_ok-add_pair.ensures.text, c.loop-pair.invariant.text) (pairs_more c.args.text.now c.args.pairs.now c.loop-pair.pair-index _ more);
      wide = rw more (one_more IsTermWithinTypes (take c.loop-pair.pair-index c.args.pairs.now) _ c.loop-pair.invariant.wide c.in_ok-add_pair.ensures.wide);
    }
