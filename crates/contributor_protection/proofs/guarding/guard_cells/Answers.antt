use Rattle.std.proofs.Common.{List, ℕ, Option, sym, subst, ◌∙◌}
use Rattle.sdc_base.specs.declared.hidden.Hidden.{Hidden}
use Rattle.attackers.specs.AttackOrder.{attacks_of}
use Rattle.attackers.specs.Guarding.{IsGuarded}
use Rattle.attackers.specs.Turns.{IsLeftOfTurns}
use Rattle.repair.specs.HidingOrder.{protected_case, prices_of}
use Rattle.contributor_protection.specs.GuardParts.{IsMadeOf}
use Rattle.contributor_protection.proofs.Concluding.{answer-comes, answer-whole, guard-of, has-text, stop-whole}
use Rattle.contributor_protection.proofs.Saying.{can-be-said}
use Rattle.contributor_protection.proofs.guarding.guard_cells.Goals as goal

pub answer_by-outcome-requires-clause-together : goal.answer_by-outcome-requires-clause-together
answer_by-outcome-requires-clause-together c =
    let own = c.requires.can.certified.protects.verdict.0 in
    record {
      one_each = c.requires.can.one_each;
      marks = c.requires.can.marks;
      costed = c.requires.can.costed;
      levels = c.requires.can.levels;
      of_system = own.of_system;
      of_cells = own.of_cells;
      each_flag = own.each_flag;
    }

pub returns-in-Ok-clause-outcome : goal.returns-in-Ok-clause-outcome
returns-in-Ok-clause-outcome c =
    let all = protected_case c.args.protected.now.system.now c.args.protected.now.cells.now in
    let prices = prices_of c.args.cost c.args.protected.now.cells.now c.args.protected.now.book.now.marks in
    let guarded = subst (λ (soles : List (Option ℕ)). IsGuarded all soles c.args.protected.now.hidden_set.now.hidden.flags c.args.protected.now.hidden_set.now.worlds c.in-Ok.answer) c.deref.ensures.value c.in-Ok.ensures.guarded in
    let turns = subst (λ (soles : List (Option ℕ)). IsLeftOfTurns all soles prices (attacks_of c.args.protected.now.cells.now soles) c.args.protected.now.hidden_set.now.hidden.flags c.in-Ok.answer) c.deref.ensures.value c.in-Ok.ensures.turns in
    let made = subst (λ (hidden : Hidden). IsMadeOf c.args.certificate hidden.flags c.in-Ok.answer c.guarded_by.result) c.hidden.ensures.hidden c.guarded_by.ensures in
    guard-of c.args.protected.now.book.now c.args.protected.now.rows.now all prices c.args.limit c.args.protected.now.hidden_set.now c.args.certificate c.in_ok-alone.alone.items c.guarded_by.result
    (c.in_ok-alone.ensures.one_each ∙ sym c.requires.can.named) c.in_ok-alone.ensures.one_each c.in_ok-alone.ensures.soles
    (answer-comes all prices c.in_ok-alone.alone.items c.args.limit c.args.protected.now.hidden_set.now c.args.certificate c.in-Ok.answer c.guarded_by.result c.requires.can.certified guarded turns made)

pub returns-in-Ok-clause-text : goal.returns-in-Ok-clause-text
returns-in-Ok-clause-text c =
    let all = protected_case c.args.protected.now.system.now c.args.protected.now.cells.now in
    let prices = prices_of c.args.cost c.args.protected.now.cells.now c.args.protected.now.book.now.marks in
    let guarded = subst (λ (soles : List (Option ℕ)). IsGuarded all soles c.args.protected.now.hidden_set.now.hidden.flags c.args.protected.now.hidden_set.now.worlds c.in-Ok.answer) c.deref.ensures.value c.in-Ok.ensures.guarded in
    let turns = subst (λ (soles : List (Option ℕ)). IsLeftOfTurns all soles prices (attacks_of c.args.protected.now.cells.now soles) c.args.protected.now.hidden_set.now.hidden.flags c.in-Ok.answer) c.deref.ensures.value c.in-Ok.ensures.turns in
    let made = subst (λ (hidden : Hidden). IsMadeOf c.args.certificate hidden.flags c.in-Ok.answer c.guarded_by.result) c.hidden.ensures.hidden c.guarded_by.ensures in
    let said = can-be-said c.args.protected.now.book.now c.args.protected.now.rows.now c.in_ok-alone.alone.items c.in_ok-alone.ensures.one_each c.requires.can.fewer_than_2_32 c.in_ok-alone.ensures.soles in
    has-text all prices c.in_ok-alone.alone.items c.args.limit c.args.protected.now.hidden_set.now c.args.certificate c.guarded_by.result c.requires.can.one_each said
    (answer-comes all prices c.in_ok-alone.alone.items c.args.limit c.args.protected.now.hidden_set.now c.args.certificate c.in-Ok.answer c.guarded_by.result c.requires.can.certified guarded turns made)

pub returns-in-Ok-clause-whole : goal.returns-in-Ok-clause-whole
returns-in-Ok-clause-whole c = λ signs are.
    answer-whole c.args.certificate _ c.in-Ok.answer c.guarded_by.result (c.in-Ok.ensures.whole signs are) c.guarded_by.ensures

pub returns-clause-whole : goal.returns-clause-whole
returns-clause-whole c = λ signs are.
    stop-whole (protected_case c.args.protected.now.system.now c.args.protected.now.cells.now) c.args.certificate _ c.in-Err.stop c.stopped_by.result (c.in-Err.ensures.whole_stop signs are) c.stopped_by.ensures
