use Rattle.std.proofs.Common.{◌≡◌, ◌<◌, length, slice_get, slice_set, Some, refl, ap, arith, ◌∙◌}
use Rattle.std.proofs.lemmas.List.{length-set}
use Rattle.std.proofs.lemmas.Option.{slice_get_read}
use Rattle.sdc_base.specs.declared.links.Link.{Link}
use Rattle.sdc_base.proofs.LinkLemmas.{IsPast, over, past-back, past-last, past-links, past-low, past-on, past-tied}
use Rattle.sdc_base.proofs.links.last_link.Goals as goal

pub steps-preserved : goal.steps-preserved
steps-preserved c =
    let links = c.steps.links.items in
    let to = c.steps.to in
    let next = c.index-next.result.now in
    let past = c.index-past.result.now in
    let inside = c.steps.invariant.within in
    let are = c.steps.invariant.links in
    let tested : slice_get links to ≡ Some c.index.result.now = slice_get_read links (length links) to c.index.result.now refl inside c.index.ensures in
    let at_next : slice_get links to ≡ Some next = slice_get_read links (length links) to next refl inside c.index-next.ensures in
    let one : c.index.result.now ≡ next = cc in
    let tos = ap (λ (l : Link). l.to) one in
    let low = are.falls to next at_next in
    let next_inside : next.to < length links = omega (arith, low, inside) in
    let at_past : slice_get links next.to ≡ Some past = slice_get_read links (length links) next.to past refl next_inside c.index-past.ensures in
    let is : IsPast links to next past = record { at_next = at_next; at_past = at_past; moved = λ same. absurd (omega (arith, same, tos, c.steps-test.true)) } in
    let long : length (slice_set links to (over next past)) ≡ length links = length-set links to (over next past) in
    rw (c.sign_by_link-same.ensures, c.sign_by_link-over.ensures) (record {
      links = past-links links to next past are is;
      each = long ∙ c.steps.invariant.each;
      on = λ signs follow. past-on signs links to next past is (c.steps.invariant.on signs follow);
      back = λ signs follow. c.steps.invariant.back signs (past-back signs links to next past is follow);
      tied = λ signs. past-tied signs links c.args.number to c.steps.same next past is (c.steps.invariant.tied signs);
      lasts = λ root link at itself. past-last links to root next past link is (c.steps.invariant.lasts root link at itself) itself;
      within = omega (arith, past-low links to next past are is, inside, long);
    })

pub returns-clause-last : goal.returns-clause-last
returns-clause-last c =
    let links = c.steps.links.items in
    let at : slice_get links c.steps.to ≡ Some c.index.result.now = slice_get_read links (length links) c.steps.to c.index.result.now refl c.steps.invariant.within c.index.ensures in
    (c.index.result.now, at, omega (arith, c.steps-test.false))
