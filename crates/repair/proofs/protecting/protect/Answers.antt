use Rattle.std.proofs.Common.{◌∙◌, IfErr, IfOk, List, Bool, ℕ, length, ap, sym, subst}
use Rattle.sdc_base.specs.HiddenSets.{IsPermitted}
use Rattle.sdc_base.specs.Trails.{corners_of}
use Rattle.sdc_base.specs.declared.system.System.{System}
use Rattle.repair.specs.HidingOrder.{protected_case, planned_set}
use Rattle.repair.specs.KeptWorlds.{IsTask}
use Rattle.repair.specs.Stops.{IsStopAsTold}
use Rattle.repair.specs.Verdicts.{IsVerdict}
use Rattle.repair.specs.declared.stopped.Stopped.{Stopped}
use Rattle.repair.specs.declared.verdict.Verdict.{Verdict}
use Rattle.repair.proofs.Wholeness.{where_whole, where_whole_stop}
use Rattle.repair.proofs.Concluding.{where_ok, cannot_where}
use Rattle.repair.proofs.PricedCells.{length-prices}
use Rattle.repair.proofs.Flags.{planned_length, planned_permitted}
use Rattle.repair.proofs.protecting.protect.Goals as goal

pub invariant_of-task : goal.invariant_of-task
invariant_of-task g c = record {
  fits = subst (λ (own : System). IsTask own c.args.cells.now c.deref.result.now c.deref-2.result.now c.args.limit) (sym c.in-Ok-of.ensures) (record {
    one_each = c.requires.can.each_cell;
    priced = ap (λ (l : List ℕ). length l) (c.deref.ensures.value ∙ c.in-Ok.ensures) ∙ length-prices c.args.rule.now c.args.cells.now c.args.marks.now c.requires.can.each_mark ∙ c.requires.can.each_cell;
    modest = c.requires.can.modest;
    in_order = c.deref-2.ensures.value ∙ c.in-Ok-questions_of.ensures;
    some_steps = c.requires.can.some_steps;
  });
}

pub repaired_verdict-requires-clause-each : goal.repaired_verdict-requires-clause-each
repaired_verdict-requires-clause-each g c =
    ap (λ (l : List Bool). length l) c.in-Ok-planned_hidden.ensures
    ∙ ap (λ steps. length (planned_set c.args.cells.now (corners_of steps))) c.as_slice.ensures
    ∙ planned_length c.args.cells.now (corners_of c.args.trail.now.steps) ∙ c.requires.can.each_cell ∙ ap (λ (own : System). own.cells) (sym c.in-Ok-of.ensures)

pub repaired_verdict-requires-clause-permitted : goal.repaired_verdict-requires-clause-permitted
repaired_verdict-requires-clause-permitted g c =
    subst (IsPermitted c.args.cells.now) (sym (c.in-Ok-planned_hidden.ensures ∙ ap (λ steps. planned_set c.args.cells.now (corners_of steps)) c.as_slice.ensures))
    (planned_permitted c.args.cells.now (corners_of c.args.trail.now.steps) c.requires.corners)

pub returns-clause-cannot : goal.returns-clause-cannot
returns-clause-cannot g c =
    where_ok c.repaired_verdict.result (subst (λ (own : System). IfOk c.repaired_verdict.result (λ (verdict : Verdict). IsVerdict (protected_case own c.args.cells.now) c.deref.result.now c.in-Ok-planned_hidden.hidden.flags verdict)) c.in-Ok-of.ensures c.repaired_verdict.ensures.verdict) (λ verdict is. cannot_where (protected_case c.args.system.now c.args.cells.now) c.deref.result.now c.in-Ok-planned_hidden.hidden.flags verdict is)

pub returns-clause-whole : goal.returns-clause-whole
returns-clause-whole g c =
    where_whole (protected_case c.args.system.now c.args.cells.now) c.deref.result.now c.in-Ok-planned_hidden.hidden.flags c.repaired_verdict.result (subst (λ (own : System). IfOk c.repaired_verdict.result (λ (verdict : Verdict). IsVerdict (protected_case own c.args.cells.now) c.deref.result.now c.in-Ok-planned_hidden.hidden.flags verdict)) c.in-Ok-of.ensures c.repaired_verdict.ensures.verdict)

pub returns-clause-whole_stop : goal.returns-clause-whole_stop
returns-clause-whole_stop g c =
    where_whole_stop (protected_case c.args.system.now c.args.cells.now) c.deref.result.now c.in-Ok-planned_hidden.hidden.flags c.args.limit c.repaired_verdict.result (subst (λ (own : System). IfErr c.repaired_verdict.result (λ (stopped : Stopped). IsStopAsTold (protected_case own c.args.cells.now) c.deref.result.now c.in-Ok-planned_hidden.hidden.flags c.args.limit stopped)) c.in-Ok-of.ensures c.repaired_verdict.ensures.stopped)
