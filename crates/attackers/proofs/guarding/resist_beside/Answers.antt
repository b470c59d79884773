use Rattle.std.proofs.Common.{◌≡◌, ◌∙◌, List, Bool, Ok, length, ap, sym, subst}
use Rattle.sdc_base.specs.HiddenSets.{IsPermitted}
use Rattle.sdc_base.specs.declared.cell.Cell.{Cell}
use Rattle.sdc_base.specs.declared.hidden.Hidden.{Hidden}
use Rattle.sdc_base.specs.declared.system.System.{System}
use Rattle.worlds.specs.ProtectFaults.{protect_fault}
use Rattle.worlds.proofs.TrueTests.{err_more}
use Rattle.attackers.specs.GuardStops.{IsStopAsTold}
use Rattle.attackers.specs.Narrowing.{IsOutcome}
use Rattle.attackers.specs.ContributorTasks.{case_of}
use Rattle.attackers.proofs.Concluding.{guarded, stopped}
use Rattle.attackers.proofs.GuardOrder.{ProtectedSays, protected_says}
use Rattle.attackers.proofs.Turns.{turns_are}
use Rattle.attackers.proofs.Wholeness.{outcome_whole, told_whole}
use Rattle.repair.proofs.Concluding.{where_ok}
use Rattle.attackers.proofs.guarding.resist_beside.Goals as goal

pub resist-requires-clause-each : goal.resist-requires-clause-each
resist-requires-clause-each c = ap (λ (h : Hidden). length h.flags) c.hidden.ensures.hidden ∙ c.requires.each_flag ∙ c.args.task.now.fits.one_each

pub resist-requires-clause-permitted : goal.resist-requires-clause-permitted
resist-requires-clause-permitted c =
    subst (λ (h : Hidden). IsPermitted c.args.task.now.cells.now h.flags) (sym c.hidden.ensures.hidden)
    (subst (λ (cells : List Cell). IsPermitted cells c.args.protected.now.hidden.flags) c.requires.of_cells c.hidden.ensures.protecting.permitted)

pub returns-clause-guarded : goal.returns-clause-guarded
returns-clause-guarded c =
    let task = c.args.task.now in
    let first : List Bool = c.args.protected.now.hidden.flags in
    let fine : protect_fault task.system.now task.cells.now first c.args.protected.now.worlds ≡ Ok tt =
    subst (λ (s : System). protect_fault s task.cells.now first c.args.protected.now.worlds ≡ Ok tt) c.requires.of_system
    (subst (λ (cells : List Cell). protect_fault c.args.protected.now.system cells first c.args.protected.now.worlds ≡ Ok tt) c.requires.of_cells c.worlds-worlds.ensures.checked) in
    let says : ProtectedSays task.system.now task.cells.now first c.args.protected.now.worlds = protected_says task.system.now task.cells.now first c.args.protected.now.worlds task.fits.one_each fine in
    let permitted : IsPermitted task.cells.now first = subst (λ (cells : List Cell). IsPermitted cells first) c.requires.of_cells c.hidden.ensures.protecting.permitted in
    where_ok c.resist.result c.resist.ensures.guarded (λ found is.
    guarded task first c.args.protected.now.worlds found c.requires.each_flag permitted says c.requires.left
    (subst (λ (h : Hidden). IsOutcome task h.flags found) c.hidden.ensures.hidden is))

pub returns-clause-turns : goal.returns-clause-turns
returns-clause-turns c =
    let task = c.args.task.now in
    let first : List Bool = c.args.protected.now.hidden.flags in
    let fine : protect_fault task.system.now task.cells.now first c.args.protected.now.worlds ≡ Ok tt =
    subst (λ (s : System). protect_fault s task.cells.now first c.args.protected.now.worlds ≡ Ok tt) c.requires.of_system
    (subst (λ (cells : List Cell). protect_fault c.args.protected.now.system cells first c.args.protected.now.worlds ≡ Ok tt) c.requires.of_cells c.worlds-worlds.ensures.checked) in
    let says : ProtectedSays task.system.now task.cells.now first c.args.protected.now.worlds = protected_says task.system.now task.cells.now first c.args.protected.now.worlds task.fits.one_each fine in
    where_ok c.resist.result c.resist.ensures.guarded (λ found is.
    turns_are task first c.args.protected.now.worlds found c.requires.each_flag says c.requires.left
    (subst (λ (h : Hidden). IsOutcome task h.flags found) c.hidden.ensures.hidden is))

pub returns-clause-stopped : goal.returns-clause-stopped
returns-clause-stopped c =
    let task = c.args.task.now in
    let first : List Bool = c.args.protected.now.hidden.flags in
    let fine : protect_fault task.system.now task.cells.now first c.args.protected.now.worlds ≡ Ok tt =
    subst (λ (s : System). protect_fault s task.cells.now first c.args.protected.now.worlds ≡ Ok tt) c.requires.of_system
    (subst (λ (cells : List Cell). protect_fault c.args.protected.now.system cells first c.args.protected.now.worlds ≡ Ok tt) c.requires.of_cells c.worlds-worlds.ensures.checked) in
    let says : ProtectedSays task.system.now task.cells.now first c.args.protected.now.worlds = protected_says task.system.now task.cells.now first c.args.protected.now.worlds task.fits.one_each fine in
    err_more c.resist.result (λ stop is.
    stopped task first c.args.protected.now.worlds stop says c.requires.left
    (subst (λ (h : Hidden). IsStopAsTold (case_of task) task.soles.now task.prices.now task.attacks.now h.flags task.limit stop) c.hidden.ensures.hidden is)) c.resist.ensures.stopped

pub returns-clause-whole : goal.returns-clause-whole
returns-clause-whole c = λ signs are.
    where_ok c.resist.result c.resist.ensures.guarded (λ found is. outcome_whole c.args.task.now c.hidden.result.now.flags signs found are is)

pub returns-clause-whole_stop : goal.returns-clause-whole_stop
returns-clause-whole_stop c = λ signs are.
    let task = c.args.task.now in
    err_more c.resist.result (λ stop is. told_whole (case_of task) task.soles.now task.prices.now task.attacks.now c.hidden.result.now.flags signs task.limit stop are is) c.resist.ensures.stopped
