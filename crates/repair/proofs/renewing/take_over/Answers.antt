use Rattle.std.proofs.Common.{◌++◌, ◌∷◌, [], All, length, sym, subst}
use Rattle.worlds.specs.ProtectFaults.{asked_of}
use Rattle.repair.specs.declared.trial.ReusableTable.{ReusableTable}
use Rattle.repair.specs.HidingOrder.{Case, protected_case, hide_subjects}
use Rattle.repair.specs.CellTrials.{AreKept, IsReusableTable, AreReusableTables, IsTrialAnswer}
use Rattle.repair.specs.OnTheWay.{IsOnWay, AreAnswers}
use Rattle.repair.proofs.OnTheWay.{answers_offered}
use Rattle.repair.proofs.AtHand.{All-front, All-last, spare_within, kept_offered}
use Rattle.repair.proofs.renewing.take_over.Goals as goal

pub offer-requires : goal.offer-requires
offer-requires c =
    let task : Case = protected_case c.args.task.now.system.now c.args.task.now.cells.now in
    let own : IsReusableTable task c.in-Some.spare = All-last (IsReusableTable task) c.pop.new.self.items c.in-Some.spare (subst (AreReusableTables task) c.in-Some.ensures.items c.reusable.invariant.reusable) in
    spare_within task c.reusable.worlds c.in-Some.spare c.reusable.invariant.kept own

pub reusable-preserved : goal.reusable-preserved
reusable-preserved c =
    let task : Case = protected_case c.args.task.now.system.now c.args.task.now.cells.now in
    let all : AreReusableTables task (c.pop.new.self.items ++ c.in-Some.spare ∷ []) = subst (AreReusableTables task) c.in-Some.ensures.items c.reusable.invariant.reusable in
    let own : IsReusableTable task c.in-Some.spare = All-last (IsReusableTable task) c.pop.new.self.items c.in-Some.spare all in
    record {
      kept = subst (AreKept task (asked_of 0 c.args.task.now.cells.now)) (sym c.offer.ensures) (kept_offered task c.args.flags.now c.reusable.worlds c.in-Some.spare own c.reusable.invariant.kept);
      reusable = All-front (IsReusableTable task) c.pop.new.self.items c.in-Some.spare all;
      trials = λ planned repairs are.
          let Is : ReusableTable → Type 0 = IsTrialAnswer task (hide_subjects planned repairs) (length c.args.task.now.cells.now) c.args.flags.now in
          All-front Is c.pop.new.self.items c.in-Some.spare (subst (All Is) c.in-Some.ensures.items (c.reusable.invariant.trials planned repairs are));
      answers = λ planned repairs worlds are.
          let Is : ReusableTable → Type 0 = IsTrialAnswer task (hide_subjects planned repairs) (length c.args.task.now.cells.now) c.args.flags.now in
          let last : Is c.in-Some.spare = All-last Is c.pop.new.self.items c.in-Some.spare (subst (All Is) c.in-Some.ensures.items (c.reusable.invariant.trials planned repairs are)) in
          subst (AreAnswers task (IsOnWay task planned repairs c.args.flags.now) (asked_of 0 c.args.task.now.cells.now)) (sym c.offer.ensures) (answers_offered task planned repairs c.args.flags.now c.reusable.worlds c.in-Some.spare last (c.reusable.invariant.answers planned repairs worlds are));
    }
