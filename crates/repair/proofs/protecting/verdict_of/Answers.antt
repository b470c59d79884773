use Rattle.std.proofs.Common.{◌≡◌, ◌∙◌, Ok, Err, ap, sym, subst}
use Rattle.sdc_base.specs.declared.system.System.{System}
use Rattle.worlds.specs.Protection.{Protection, protection}
use Rattle.worlds.specs.ProtectFaults.{protect_fault, IsProtecting}
use Rattle.repair.specs.HidingOrder.{Case, protected_case, hide_subjects}
use Rattle.repair.specs.Verdicts.{AreNeeds}
use Rattle.repair.proofs.Passing.{served_pass}
use Rattle.repair.proofs.Concluding.{protected_by}
use Rattle.repair.proofs.protecting.verdict_of.Goals as goal

pub unreachable-requires : goal.unreachable-requires
unreachable-requires c =
    let task : Case = protected_case c.args.task.now.system.now c.args.task.now.cells.now in
    let ok : protect_fault c.args.task.now.system.now c.args.task.now.cells.now c.args.progress.hidden.flags c.args.progress.tables ≡ Ok tt = served_pass task c.args.progress.hidden.flags c.args.progress.tables c.args.task.now.fits.one_each c.requires.served.permitted c.requires.served.served in
    let bad : Err c.in-Err.field-0 ≡ Ok tt = sym c.in-Err.ensures.err ∙ ap (λ (own : System). protect_fault own c.args.task.now.cells.now c.args.progress.hidden.flags c.args.progress.tables) c.system.ensures ∙ ok in
    cc

pub returns : goal.returns
returns c =
    λ planned narrowed.
    let task : Case = protected_case c.args.task.now.system.now c.args.task.now.cells.now in
    let value : c.in-Ok.protected ≡ protection c.args.task.now.system.now c.args.task.now.cells.now c.args.progress.hidden c.args.progress.tables =
    subst (λ (own : System). c.in-Ok.protected ≡ protection own c.args.task.now.cells.now c.args.progress.hidden c.args.progress.tables) c.system.ensures c.in-Ok.ensures.value in
    let protecting : IsProtecting c.args.task.now.system.now c.args.task.now.cells.now c.args.progress.hidden.flags =
    subst (λ (own : System). IsProtecting own c.args.task.now.cells.now c.args.progress.hidden.flags) c.system.ensures c.in-Ok.ensures.protecting in
    let made = protected_by task c.args.task.now.prices.now planned c.args.progress.hidden c.args.progress.tables c.args.progress.reasons c.in-Ok.protected value c.args.task.now.fits.one_each c.requires.served.each protecting c.requires.served.served narrowed.answers narrowed.are_repairs narrowed.within in
    (made, subst (λ (p : Protection). AreNeeds task p.hidden.flags (hide_subjects planned c.args.progress.reasons) c.args.needs) (sym value) narrowed.are_needs)
