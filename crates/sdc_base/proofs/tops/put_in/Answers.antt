use Rattle.std.proofs.Common.{◌≡◌, ◌≤◌, ◌∙◌, subst, insert, length, List}
use Rattle.sdc_base.specs.declared.tops.Unit.{Unit as Contribution}
use Rattle.sdc_base.specs.Largest.{with_contribution}
use Rattle.sdc_base.proofs.Kept.{put_in_kept}
use Rattle.sdc_base.proofs.tops.put_in.Goals as goal

pub returns-then-at-keep : goal.returns-then-at-keep
returns-then-at-keep c =
    let xs : List Contribution = c.args.list.now in
    let place : insert xs c.unit_place-at.result c.args.new ≡ with_contribution xs c.args.new =
    subst (λ (t : List Contribution). insert t c.unit_place-at.result c.args.new ≡ with_contribution t c.args.new) c.as_slice.ensures c.unit_place-at.ensures.place in
    let within : c.unit_place-at.result ≤ length xs = subst (λ (t : List Contribution). c.unit_place-at.result ≤ length t) c.as_slice.ensures c.unit_place-at.ensures.within in
    c.insert.ensures ∙ put_in_kept xs c.truncate.new.self c.args.new c.args.keep c.unit_place-at.result c.if-at-keep.true within c.truncate.ensures place
