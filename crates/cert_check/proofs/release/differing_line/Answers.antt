use Rattle.std.proofs.Common.{◌≡◌, ◌∙◌, ◌+◌, sym, ap, refl, length, get_or, drop, arith}
use Rattle.cert_check.specs.ReleaseLines.{differing_line}
use Rattle.cert_check.proofs.Differences.{line_on, line_here, line_over, behind_most}
use Rattle.cert_check.proofs.release.differing_line.Goals as goal

pub returns-then-not-stands_at : goal.returns-then-not-stands_at
returns-then-not-stands_at c = sym (c.loop-place.invariant.rest ∙ line_here c.loop-place.line c.args.one.now c.args.other.now c.loop-place.place (get_or c.args.one.now c.loop-place.place 0) c.loop-place-test.true refl (sym c.stands_at.ensures ∙ c.if-not-stands_at.true))

pub loop-place-preserved : goal.loop-place-preserved
loop-place-preserved c = record {
  few = omega (arith, c.loop-place.invariant.few, c.line_after-line.ensures, behind_most (get_or c.args.one.now c.loop-place.place 0) c.loop-place.line);
  rest = c.loop-place.invariant.rest
      ∙ line_on c.loop-place.line c.args.one.now c.args.other.now c.loop-place.place (get_or c.args.one.now c.loop-place.place 0) c.loop-place-test.true refl (sym c.stands_at.ensures ∙ c.if-not-stands_at.false)
      ∙ ap (λ l. differing_line l (drop (c.loop-place.place + 1) c.args.one.now) (drop (c.loop-place.place + 1) c.args.other.now)) (sym c.line_after-line.ensures);
}

pub returns-then-one-other : goal.returns-then-one-other
returns-then-one-other c =
    let over : c.loop-place.place ≡ length c.args.one.now = omega (arith, c.loop-place.auto.place-end, c.loop-place-test.false) in
    sym (c.loop-place.invariant.rest ∙ ap (λ n. differing_line c.loop-place.line (drop n c.args.one.now) (drop n c.args.other.now)) over ∙ line_over c.loop-place.line c.args.one.now c.args.other.now c.if-one-other.true)
