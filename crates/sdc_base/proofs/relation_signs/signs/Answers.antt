use Rattle.std.proofs.Common.{◌≡◌, ℕ, Bool, List, IfSome, Option, Some, length, subst, ap, ◌∙◌}
use Rattle.sdc_base.specs.Ends.{AreEnds, ends_at}
use Rattle.sdc_base.specs.Links.{Follow, Oppose}
use Rattle.sdc_base.specs.declared.ends.Ends.{Ends}
use Rattle.sdc_base.specs.declared.links.Link.{Link}
use Rattle.sdc_base.proofs.Opposing.{signs-are}
use Rattle.sdc_base.proofs.relation_signs.signs.Goals as goal

of-some : {X : Type 0} (P : X → Type 0) (found : Option X) (x : X) → found ≡ Some x → IfSome found P → P x
of-some P found x is holds = subst (λ o. IfSome o P) is holds

pub returns-clause-signs : goal.returns-clause-signs
returns-clause-signs c =
    let relations = c.args.system.now.relations in
    let signs = c.in_ok-signs.signs.items in
    let ends : List Ends = c.in-Some.ends.items in
    let links : List Link = c.in-Some-2.links.items in
    let seen : c.as_slice-2.result.now ≡ links = c.as_slice-2.ensures.value in
    let follow : Follow signs links = subst (λ (list : List Link). Follow signs list) seen c.in_ok-signs.ensures.follow in
    let each : length signs ≡ length relations = c.in_ok-signs.ensures.each ∙ ap (λ (list : List Link). length list) seen ∙ of-some (λ found. length found.items ≡ length relations) c.in_ok-links.field-0 c.in-Some-2.links c.in-Some-2.is c.in_ok-links.ensures.each in
    let are : AreEnds relations ends = of-some (λ found. AreEnds relations found.items) c.in_ok-ends.field-0 c.in-Some.ends c.in-Some.is c.in_ok-ends.ensures.ends in
    let opposed = of-some (λ found. (some : List Bool) → Follow some found.items → (cell : ℕ) → Oppose some (ends_at c.as_slice.result.now cell)) c.in_ok-links.field-0 c.in-Some-2.links c.in-Some-2.is c.in_ok-links.ensures.opposed in
    signs-are relations signs ends each are (λ cell. subst (λ (list : List Ends). Oppose signs (ends_at list cell)) c.as_slice.ensures.value (opposed signs follow cell))
