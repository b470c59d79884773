use Rattle.std.proofs.Common.{List, ◌≡◌, ◌∷◌, ◌++◌, [], All, arith, ap, ◌+◌, false, length, pos, refl, subst, sym, take, true, ◌∙◌}
use Rattle.std.proofs.lemmas.List.{take_all, take_more}
use Rattle.std.proofs.lemmas.List.Elements.{All-push}
use Rattle.std.proofs.lemmas.Option.{slice_get_read}
use Rattle.sdc_base.specs.declared.relation.Relation.{Relation}
use Rattle.sdc_base.specs.Systems.{HoldOn, form, number_at}
use Rattle.rounding_audit.proofs.holding.first_broken.Goals as goal

pub returns-then-not-holds-clause-first : goal.returns-then-not-holds-clause-first
returns-then-not-holds-clause-first c = record {
  relation = c.index-relations-number.result;
  known = slice_get_read c.args.relations.now (length c.args.relations.now) c.relations.number c.index-relations-number.result refl c.relations-test.true c.index-relations-number.is;
  broken = λ is. (let own : c.holds.result ≡ true = c.holds.ensures.1 is in let clash : false ≡ true = sym c.if-not-holds.true ∙ own in cc);
  earlier = c.relations.invariant;
}

pub relations-preserved : goal.relations-preserved
relations-preserved c =
    let all : List Relation = c.args.relations.now in
    let own : Relation = c.index-relations-number.result in
    let P : Relation → Type 0 = λ r. form (number_at c.args.values.now) r ≡ pos 0 in
    let more : take (c.relations.number + 1) all ≡ take c.relations.number all ++ own ∷ [] = take_more all c.relations.number own c.relations-test.true ∙ ap (λ (r : Relation). take c.relations.number all ++ r ∷ []) (sym c.index-relations-number.is) in
    subst (All P) (sym more) (All-push P (take c.relations.number all) own c.relations.invariant (c.holds.ensures.0 c.if-not-holds.false))

pub returns-clause-none : goal.returns-clause-none
returns-clause-none c =
    let whole : take c.relations.number c.args.relations.now ≡ c.args.relations.now = take_all c.relations.number c.args.relations.now (omega (arith, c.relations-test.false)) in
    subst (HoldOn (number_at c.args.values.now)) whole c.relations.invariant
