use Rattle.std.proofs.Common.{◌≡◌, ◌∙◌, ap, sym, subst, ℕ, List, ℤ, pos, ◌+ℤ◌, ◌*ℤ◌, FitsSigned, rules}
use Rattle.std.specs.Int.{w128}
use Rattle.std.proofs.lemmas.Int.{to_z-of_z}
use Rattle.sdc_base.specs.Forms.{Term, coefficient}
use Rattle.sdc_base.specs.Systems.{number_at}
use Rattle.sdc_base.specs.Totals.{sum_of}
use Rattle.interval_audit.specs.Groups.{Group, group_of}
use Rattle.interval_audit.specs.Labels.{form_at, met_relations}
use Rattle.interval_audit.specs.MovePairs.{IsMovePair, left_over}
use Rattle.interval_audit.specs.Problems.{asked_move}
use Rattle.kept_questions.specs.TermLists.{moves_in}
use Rattle.kept_questions.proofs.pair.check_pair.Goals as goal

pub check_rows-requires : goal.check_rows-requires
check_rows-requires c =
    let group : Group = group_of c.args.component.now.of c.args.question.cell in
    let system = c.args.pattern.now.system.now in
    let weights = number_at c.as_slice-weights.result.now in
    let q : ℤ = c.args.pair.now.q in
    let q_fits : FitsSigned w128 q = search rules in
    let met_are : c.as_slice-met.result.now ≡ met_relations group system.relations = c.as_slice-met.ensures.value ∙ c.requires.met in
    let each : (cell : ℕ) → number_at c.in_ok-left.left.items cell ≡ q *ℤ coefficient (asked_move c.args.question.cell c.args.question.side) cell +ℤ sum_of (λ number. weights number *ℤ coefficient (form_at system.relations (pos 1) number) cell) c.as_slice-met.result.now =
    λ cell. simp to_z-of_z at c.in_ok-left.ensures cell in
    let plain : (cell : ℕ) → number_at c.as_slice-2.result.now cell ≡ left_over system group c.args.question q weights cell =
    λ cell. ap (λ (ns : List ℤ). number_at ns cell) c.as_slice-2.ensures.value ∙ each cell
    ∙ ap (λ (ms : List ℕ). q *ℤ coefficient (asked_move c.args.question.cell c.args.question.side) cell +ℤ sum_of (λ number. weights number *ℤ coefficient (form_at system.relations (pos 1) number) cell) ms) met_are in
    record {
      members = c.requires.members;
      met = c.requires.met;
      left = subst (λ (z : ℤ). (cell : ℕ) → number_at c.as_slice-2.result.now cell ≡ left_over system group c.args.question z weights cell) (sym (to_z-of_z w128 q q_fits)) plain;
    }

pub returns : goal.returns
returns c =
    let group : Group = group_of c.args.component.now.of c.args.question.cell in
    let pattern = c.args.pattern.now in
    let pair = c.args.pair.now in
    let den_fits : FitsSigned w128 pair.den = search rules in
    let q_fits : FitsSigned w128 pair.q = search rules in
    let weights_are : c.as_slice-weights.result.now ≡ pair.weights.items = c.as_slice-weights.ensures.value in
    let lists_are : c.as_slice.result.now ≡ pair.lists.items = c.as_slice.ensures.value in
    let found = simp to_z-of_z at c.in_ok-check_rows.ensures pattern.hidden.now.flags pattern.one_each.each_flag c.requires.own in
    subst (λ (ws : List ℤ). IsMovePair pattern.system.now pattern.cells.now pattern.hidden.now.flags group c.args.question pair.den pair.q (moves_in pair.lists.items) (number_at ws)) weights_are
    (subst (λ (ls : List (List Term)). IsMovePair pattern.system.now pattern.cells.now pattern.hidden.now.flags group c.args.question pair.den pair.q (moves_in ls) (number_at c.as_slice-weights.result.now)) lists_are found)
