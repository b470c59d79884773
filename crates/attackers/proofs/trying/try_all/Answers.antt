use Rattle.std.proofs.Common.{◌∙◌, [], List, Bool, ℕ, sym, subst, refl}
use Rattle.certificate.specs.declared.extra.ExtraNeed.{ExtraNeed}
use Rattle.repair.proofs.TriedCells.{none_tried, one_passed}
use Rattle.attackers.specs.KnownCells.{GuardsAll}
use Rattle.attackers.specs.ContributorTasks.{case_of}
use Rattle.attackers.specs.Dropping.{may_drop, IsNeedFor, IsTried}
use Rattle.attackers.proofs.Holding.{held_guards}
use Rattle.attackers.proofs.trying.try_all.Goals as goal

pub cells-init : goal.cells-init
cells-init c =
    let task = c.args.task.now in
    let flags : List Bool = c.args.progress.now.hidden.flags in
    record {
      set = c.requires.ready.set;
      extras = refl;
      tried = record {
        are_tried = subst (λ (ns : List ExtraNeed). IsTried (case_of task) task.soles.now task.attacks.now c.args.first.now.flags flags 0 flags ns c.args.found.now.shown) (sym c.requires.no_needs)
            (subst (λ (l : List ℕ). IsTried (case_of task) task.soles.now task.attacks.now c.args.first.now.flags flags 0 flags [] l) (sym c.requires.none_dropped)
            (none_tried (λ (need : ExtraNeed). need.subject) (IsNeedFor (case_of task) task.soles.now task.attacks.now) (λ (set : List Bool). GuardsAll (case_of task) task.soles.now set task.attacks.now) (may_drop c.args.first.now.flags) flags
            (held_guards (case_of task) task.soles.now flags task.attacks.now c.args.progress.now.tables task.fits.are_attacks c.requires.ready.holds)));
        holds = c.requires.ready.holds;
        first_stays = c.requires.within;
      };
    }

pub try_one-requires-clause-ready : goal.try_one-requires-clause-ready
try_one-requires-clause-ready c = record {
  begins_permitted = c.requires.ready.begins_permitted;
  set = c.cells.invariant.set;
  holds = c.cells.invariant.tried.holds;
}

pub cells-preserved-then-not-is_extra : goal.cells-preserved-then-not-is_extra
cells-preserved-then-not-is_extra c =
    let task = c.args.task.now in
    record {
      set = c.cells.invariant.set;
      extras = c.cells.invariant.extras;
      tried = record {
        are_tried = one_passed (λ (need : ExtraNeed). need.subject) (IsNeedFor (case_of task) task.soles.now task.attacks.now) (λ (set : List Bool). GuardsAll (case_of task) task.soles.now set task.attacks.now) (may_drop c.args.first.now.flags) c.args.progress.now.hidden.flags c.cells.number c.cells.progress.hidden.flags c.cells.found.needs c.cells.found.shown
            (sym c.is_extra.ensures ∙ c.if-not-is_extra.true) c.cells.invariant.tried.are_tried;
        holds = c.cells.invariant.tried.holds;
        first_stays = c.cells.invariant.tried.first_stays;
      };
    }
