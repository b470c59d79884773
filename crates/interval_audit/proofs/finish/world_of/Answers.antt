use Rattle.std.proofs.lemmas.Grind.{elements}
use Rattle.std.proofs.Common.{◌≡◌, ◌∙◌, List, subst, rules, ℤ, FitsSigned, arith}
use Rattle.std.specs.Int.{w128}
use Rattle.std.proofs.lemmas.Int.{to_z-of_z}
use Rattle.sdc_base.specs.Systems.{Numbers, number_at}
use Rattle.tableau.specs.Readings.{values_of}
use Rattle.worlds.specs.declared.world.World.{World}
use Rattle.worlds.specs.NumberLists.{terms_of}
use Rattle.interval_audit.specs.Groups.{Group, group_of, members}
use Rattle.interval_audit.specs.Columns.{moves_of}
use Rattle.interval_audit.specs.LowestTerms.{AreLowestTermsOf}
use Rattle.interval_audit.specs.Readings.{nonzero_terms}
use Rattle.interval_audit.proofs.QuestionAnswers.{moves_by_place, if_ok_more}
use Rattle.interval_audit.proofs.finish.world_of.Goals as goal

pub returns-clause-world : goal.returns-clause-world
returns-clause-world c =
    let group : Group = group_of c.args.inquiry.now.of.now c.args.inquiry.now.question.cell in
    let list : c.as_slice.result.now ≡ members group c.args.inquiry.now.pattern.system.now.cells = c.as_slice.ensures.value ∙ c.in_ok-members.ensures in
    let moves : Numbers = moves_of group (number_at (values_of c.args.tableau.now.problem c.args.tableau.now.table)) in
    let fits : FitsSigned w128 c.den.result = search rules in
    let by_place = moves_by_place group c.args.inquiry.now.pattern.system.now.cells c.values.result.now c.as_slice.result.now list in
    let values : c.values.result.now ≡ values_of c.args.tableau.now.problem c.args.tableau.now.table = c.values.ensures.values in
    let told = simp to_z-of_z at (c.read_world.ensures.read (moves_of group (number_at c.values.result.now)) by_place) in
    if_ok_more
    (λ (world : World). AreLowestTermsOf c.den.result (nonzero_terms (moves_of group (number_at c.values.result.now)) c.as_slice.result.now) world.den (terms_of world.moves))
    (λ (world : World). AreLowestTermsOf c.args.tableau.now.table.den (nonzero_terms moves (members group c.args.inquiry.now.pattern.system.now.cells)) world.den (terms_of world.moves))
    c.read_world.result
    (λ world is. subst (λ d. AreLowestTermsOf d (nonzero_terms moves (members group c.args.inquiry.now.pattern.system.now.cells)) world.den (terms_of world.moves)) c.den.ensures.den
    (subst (λ xs. AreLowestTermsOf c.den.result (nonzero_terms moves xs) world.den (terms_of world.moves)) list
    (subst (λ (vs : List ℤ). AreLowestTermsOf c.den.result (nonzero_terms (moves_of group (number_at vs)) c.as_slice.result.now) world.den (terms_of world.moves)) values is)))
    told

pub read_world-requires-clause-from_zero : goal.read_world-requires-clause-from_zero
read_world-requires-clause-from_zero c = grind (arith, elements)
