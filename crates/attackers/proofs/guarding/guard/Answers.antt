use Rattle.std.proofs.Common.{◌∙◌, IfErr, IfOk, List, ℕ, All, length, ap, sym, subst}
use Rattle.sdc_base.specs.Signs.{AreSigns}
use Rattle.sdc_base.specs.declared.system.System.{System}
use Rattle.repair.specs.HidingOrder.{protected_case}
use Rattle.repair.proofs.Concluding.{where_ok}
use Rattle.repair.proofs.PricedCells.{length-prices}
use Rattle.attackers.specs.declared.attack.Attack.{Attack}
use Rattle.attackers.specs.AttackOrder as order
use Rattle.attackers.specs.GuardStops.{IsStopAsTold}
use Rattle.attackers.specs.Guarding.{IsGuarded}
use Rattle.attackers.specs.KnownCells.{IsAttack}
use Rattle.attackers.specs.ContributorTaskParts.{IsContributorTask}
use Rattle.attackers.specs.Turns.{IsLeftOfTurns}
use Rattle.attackers.proofs.AllAttacks.{unserved_are}
use Rattle.attackers.proofs.Concluding.{cannot_where}
use Rattle.attackers.proofs.guarding.guard.Goals as goal

pub invariant_of-task : goal.invariant_of-task
invariant_of-task g c = record {
  fits = subst (λ (own : System). IsContributorTask own c.args.cells.now c.args.soles.now c.deref-2.result.now c.deref-3.result.now c.args.limit) (sym c.in-Ok-of.ensures) (record {
    one_each = c.requires.can.each_cell;
    priced = ap (λ (l : List ℕ). length l) (c.deref-2.ensures.value ∙ c.in-Ok.ensures) ∙ length-prices c.args.rule.now c.args.cells.now c.args.marks.now c.requires.can.each_mark ∙ c.requires.can.each_cell;
    modest = c.requires.can.modest;
    are_attacks = subst (λ (l : List Attack). All (IsAttack c.args.cells.now c.args.soles.now) l) (sym (c.deref-3.ensures.value ∙ c.in-Ok-unserved_attacks.ensures)) (unserved_are c.args.cells.now c.args.soles.now c.worlds.result.now);
    some_steps = c.requires.can.some_steps;
  });
}

pub resist_beside-requires-clause-of_system : goal.resist_beside-requires-clause-of_system
resist_beside-requires-clause-of_system g c = c.requires.of_system ∙ sym c.in-Ok-of.ensures

pub returns-clause-guarded : goal.returns-clause-guarded
returns-clause-guarded g c =
    subst (λ (own : System). IfOk c.resist_beside.result (IsGuarded (protected_case own c.args.cells.now) c.args.soles.now c.args.protected.now.hidden.flags c.args.protected.now.worlds)) c.in-Ok-of.ensures c.resist_beside.ensures.guarded

pub returns-clause-turns : goal.returns-clause-turns
returns-clause-turns g c =
    subst (λ (prices : List ℕ). IfOk c.resist_beside.result (IsLeftOfTurns (protected_case c.args.system.now c.args.cells.now) c.args.soles.now prices (order.attacks_of c.args.cells.now c.args.soles.now) c.args.protected.now.hidden.flags)) (c.deref-2.ensures.value ∙ c.in-Ok.ensures)
    (subst (λ (own : System). IfOk c.resist_beside.result (IsLeftOfTurns (protected_case own c.args.cells.now) c.args.soles.now c.deref-2.result.now (order.attacks_of c.args.cells.now c.args.soles.now) c.args.protected.now.hidden.flags)) c.in-Ok-of.ensures c.resist_beside.ensures.turns)

pub returns-clause-cannot : goal.returns-clause-cannot
returns-clause-cannot g c =
    where_ok c.resist_beside.result (returns-clause-guarded g c) (λ found is. cannot_where (protected_case c.args.system.now c.args.cells.now) c.args.soles.now c.args.protected.now.hidden.flags c.args.protected.now.worlds found is)

pub returns-clause-stopped : goal.returns-clause-stopped
returns-clause-stopped g c =
    subst (λ (prices : List ℕ). IfErr c.resist_beside.result (IsStopAsTold (protected_case c.args.system.now c.args.cells.now) c.args.soles.now prices (order.attacks_of c.args.cells.now c.args.soles.now) c.args.protected.now.hidden.flags c.args.limit)) (c.deref-2.ensures.value ∙ c.in-Ok.ensures)
    (subst (λ (own : System). IfErr c.resist_beside.result (IsStopAsTold (protected_case own c.args.cells.now) c.args.soles.now c.deref-2.result.now (order.attacks_of c.args.cells.now c.args.soles.now) c.args.protected.now.hidden.flags c.args.limit)) c.in-Ok-of.ensures c.resist_beside.ensures.stopped)

pub returns-clause-whole : goal.returns-clause-whole
returns-clause-whole g c = λ signs are.
    c.resist_beside.ensures.whole signs (subst (λ (own : System). AreSigns own.relations signs) (sym c.in-Ok-of.ensures) are)

pub returns-clause-whole_stop : goal.returns-clause-whole_stop
returns-clause-whole_stop g c = λ signs are.
    c.resist_beside.ensures.whole_stop signs (subst (λ (own : System). AreSigns own.relations signs) (sym c.in-Ok-of.ensures) are)
