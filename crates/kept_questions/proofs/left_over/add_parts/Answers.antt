use Rattle.std.proofs.Common.{ℤ, to_z, of_z}
use Rattle.std.specs.Int.{w128}
use Rattle.sdc_base.specs.Systems.{number_at}
use Rattle.kept_questions.proofs.FormSums.{part_next}
use Rattle.kept_questions.proofs.left_over.add_parts.Goals as goal

pub parts-preserved : goal.parts-preserved
parts-preserved c = λ cell.
    let times : ℤ = to_z w128 (of_z w128 c.args.times) in
    part_next c.args.parts.now times (number_at c.args.numbers.now.items cell) (number_at c.parts.numbers.items cell) (number_at c.add_at.new.numbers.items cell) c.parts.part-index cell 0 c.parts-test.true (c.in_ok-add_at.ensures cell) (c.parts.invariant cell)
