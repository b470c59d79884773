use Rattle.std.proofs.Common.{◌<◌, ◌≤◌, length, arith}
use Rattle.tests_releases.proofs.CaseTests.{truths_on, truths_over}
use Rattle.tests_releases.proofs.cert_check_tests.have_truths.Goals as goal

pub loop-k-preserved : goal.loop-k-preserved
loop-k-preserved c = λ rest.
    let inside : c.loop-k.k < length c.args.cells.now = omega arith in
    c.loop-k.invariant (truths_on c.args.marks.now c.args.cells.now c.loop-k.k c.index-marks-k.result c.index-cells-k.result c.loop-k-test.true inside c.index-marks-k.is c.index-cells-k.is (c.has_truth.ensures c.if-not-has_truth.false) rest)

pub returns : goal.returns
returns c = λ _. c.loop-k.invariant (truths_over c.args.marks.now c.args.cells.now c.loop-k.k c.loop-k-test.false (omega arith))
