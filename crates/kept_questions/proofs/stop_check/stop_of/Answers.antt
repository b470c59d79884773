use Rattle.std.proofs.Common.{◌≡◌, ◌∙◌, ◌^◌, ◌≤◌, ℕ, List, Bool, length, All, ap, sym, subst, rules, ℤ, pos, neg_ℤ, ◌<ℤ◌, ◌≤ℤ◌, FitsSigned}
use Rattle.std.specs.Int.{w128}
use Rattle.std.proofs.lemmas.Int.{to_z-of_z}
use Rattle.sdc_base.specs.Forms.{Term}
use Rattle.sdc_base.specs.Systems.{number_at}
use Rattle.interval_audit.specs.FewerHidden.{StopsWith}
use Rattle.interval_audit.specs.Groups.{Group, group_of, members, most_members}
use Rattle.interval_audit.specs.Labels.{met_relations}
use Rattle.interval_audit.specs.LowestTerms.{AreLowestTermsOf}
use Rattle.interval_audit.specs.Readings.{nonzero_terms, HasLowestTerms}
use Rattle.kept_questions.specs.TermLists.{moves_in}
use Rattle.kept_questions.proofs.stop_check.stop_of.Goals as goal

pub lowest_multipliers-requires : goal.lowest_multipliers-requires
lowest_multipliers-requires c =
    let q : ℤ = c.in_ok-pair.pair.q in
    let q_fits : FitsSigned w128 q = search rules in
    record {
      positive = subst (λ (z : ℤ). pos 1 ≤ℤ z) (sym (to_z-of_z w128 q q_fits)) c.in_ok-check_pair.ensures.q_above;
      held = subst (λ (ts : List Term). All (λ (t : Term). neg_ℤ (pos (2 ^ 127)) <ℤ t.1) ts) (sym c.as_slice-2.ensures.value) c.in_ok-terms.ensures.held;
    }

pub returns : goal.returns
returns c = λ none.
    let pattern = c.args.pattern.now in
    let pair = c.in_ok-pair.pair in
    let flags : List Bool = pattern.hidden.now.flags in
    let multipliers = c.in_ok-multipliers.multipliers in
    let group : Group = group_of c.in_ok-component.component.of c.args.question.cell in
    let met : List ℕ = met_relations group pattern.system.now.relations in
    let q_fits : FitsSigned w128 pair.q = search rules in
    let met_are : c.as_slice.result.now ≡ met = c.as_slice.ensures.value ∙ c.in_ok-component.ensures.met in
    let terms_are : c.as_slice-2.result.now ≡ nonzero_terms (number_at pair.weights.items) met =
    c.as_slice-2.ensures.value ∙ c.in_ok-terms.ensures.terms ∙ ap (λ (ws : List ℤ). nonzero_terms (number_at ws) c.as_slice.result.now) c.as_slice-weights.ensures.value
    ∙ ap (nonzero_terms (number_at pair.weights.items)) met_are in
    let read = simp to_z-of_z at c.in_ok-multipliers.ensures in
    let lowest : HasLowestTerms multipliers pair.q (number_at pair.weights.items) met =
    subst (λ (ts : List Term). AreLowestTermsOf pair.q ts multipliers.den multipliers.by_relation) terms_are read in
    let few : length (members group pattern.system.now.cells) ≤ most_members =
    subst (λ (ms : List ℕ). length ms ≤ most_members) c.in_ok-component.ensures.members c.in_ok-component.ensures.few in
    let stops : StopsWith pattern.system.now pattern.cells.now flags c.args.question multipliers =
    c.move_pair_stops.ensures pattern.system.now pattern.cells.now flags flags c.args.question group pair.den pair.q (moves_in pair.lists.items) (number_at pair.weights.items) multipliers
    pattern.one_each c.requires.hidden (λ cell is. is) c.in_ok-component.ensures.own few c.in_ok-check_pair.ensures lowest in
    (stops.best, stops.world, stops.is_right c.in_ok-check_sum.ensures.sum c.in_ok-check_sum.ensures.product, stops.is_read none)
