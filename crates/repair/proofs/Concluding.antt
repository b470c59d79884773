-- What a protection comes to.
use Rattle.std.proofs.Common.{◌≡◌, ℕ, Bool, true, List, [], length, IsTrue, ◌↔◌, Result, Ok, Err, IfOk, refl, sym, subst, arith}
use Rattle.std.proofs.lemmas.List.Elements.{All-nil}
use Rattle.sdc_base.specs.declared.hidden.Hidden.{Hidden}
use Rattle.sdc_base.specs.HiddenSets.{full_set}
use Rattle.worlds.specs.declared.refuted.Refuted.{Refuted}
use Rattle.worlds.specs.declared.world.World.{World}
use Rattle.worlds.specs.Protection.{Protection, protection}
use Rattle.worlds.specs.ProtectFaults.{asked_of, IsProtecting}
use Rattle.interval_audit.specs.declared.answer.AskFault.{AskFault}
use Rattle.repair.specs.HidingOrder.{Case, ProtectsAll, is_free_at, IsSubset, hide_subjects}
use Rattle.repair.specs.Repairs.{AreRepairs}
use Rattle.repair.specs.CellTrials.{IsTryStop, TriesStopFor}
use Rattle.repair.specs.KeptWorlds.{AreServed, IsRepaired}
use Rattle.repair.specs.OnTheWay.{IsOnWay, AreAnswers}
use Rattle.repair.specs.QuestionSteps.{IsHalted}
use Rattle.repair.specs.Stops.{AreShown, IsQuestion, IsStop, StopsFor}
use Rattle.repair.specs.TriedCells.{is_open}
use Rattle.repair.specs.WantOfMemory.{list_with_fault}
use Rattle.repair.specs.Verdicts.{IsProtected, IsVerdict, is_cannot}
use Rattle.repair.specs.declared.verdict.Verdict.{Verdict}
use Rattle.repair.specs.declared.verdict.Verdict.TheVariants.{Protected, Cannot}
use Rattle.repair.proofs.Order.{asked_primary}
use Rattle.repair.proofs.Tries.{protects_side}
use Rattle.repair.proofs.WantOfMemory.{unless_memory, memory_more, lists_told}
use Rattle.repair.proofs.Flags.{within_full}
use Rattle.repair.proofs.Growing.{served_protect, all_protected_more}
use Rattle.repair.proofs.Repairing.{none_is_more, hidden_cell}

-- the hidden set that serves all that is asked
pub protected_by : (c : Case) (prices : List ℕ) (planned : List Bool) (hidden : Hidden) (worlds : List World) (repairs : List Refuted) (p : Protection) → p ≡ protection c.system c.cells hidden worlds → length c.cells ≡ c.system.cells → length hidden.flags ≡ c.system.cells → IsProtecting c.system c.cells hidden.flags → AreServed c hidden.flags (asked_of 0 c.cells) worlds → AreAnswers c (IsOnWay c planned repairs hidden.flags) (asked_of 0 c.cells) worlds → AreRepairs c prices planned repairs → IsSubset hidden.flags (hide_subjects planned repairs) → IsProtected c prices planned p repairs
protected_by c prices planned hidden worlds repairs p made one_each each protecting served answers repaired_so within =
    subst (λ q. IsProtected c prices planned q repairs) (sym made) (record {
      of_system = refl;
      of_cells = refl;
      each_flag = omega (arith, one_each, each);
      protecting = protecting;
      served = served;
      answers = answers;
      are_repairs = repaired_so;
      within = within;
      full_protects = all_protected_more c hidden.flags (full_set c.cells) (asked_of 0 c.cells)
          (within_full c.cells hidden.flags (omega (arith, one_each, each)) protecting.permitted (λ n own. hidden_cell c.cells hidden.flags n (omega (arith, one_each, each)) own))
          (served_protect c hidden.flags (asked_of 0 c.cells) worlds served);
    })

-- nothing is shown yet
none_shown_yet : (c : Case) (larger : List Bool) → AreShown c larger []
none_shown_yet c larger = record {
  ascending = tt;
  are_open = All-nil (λ cell. is_open (is_free_at c.cells) larger cell ≡ true);
  held_before = λ earlier last is. absurd (none_is_more earlier last is);
  others_needed = λ earlier last cell is. absurd (none_is_more earlier last is);
}

-- a question that has a fault stops the repairs
stop_by : (c : Case) (prices : List ℕ) (planned flags : List Bool) (repairs : List Refuted) (limit : ℕ) (fault : AskFault) → IsHalted c prices planned flags repairs limit fault → IsStop c prices planned limit fault repairs []
stop_by c prices planned flags repairs limit fault is = record {
  are_repairs = is.is_repaired.are_repairs;
  are_shown = none_shown_yet c (hide_subjects planned repairs);
  place = is.place;
  question = subst (λ (f : List Bool). IsQuestion c f limit fault is.place) is.is_repaired.hidden_is is.question;
  onward = λ none. is.is_repaired.onward;
}

pub stops_for : (c : Case) (prices : List ℕ) (planned flags : List Bool) (repairs : List Refuted) (limit : ℕ) (fault : AskFault) → IsHalted c prices planned flags repairs limit fault → StopsFor c prices planned limit fault (list_with_fault fault repairs) (list_with_fault fault [])
stops_for c prices planned flags repairs limit fault is =
    lists_told (IsStop c prices planned limit fault) fault repairs [] (unless_memory fault (stop_by c prices planned flags repairs limit fault is))

-- a question that has a fault while a cell is tried
try_stop_by : (c : Case) (prices : List ℕ) (planned flags : List Bool) (repairs : List Refuted) (place : ℕ) (limit : ℕ) (fault : AskFault) (shown : List ℕ) → IsRepaired c prices planned flags repairs place → IsTryStop c flags limit fault shown → IsStop c prices planned limit fault repairs shown
try_stop_by c prices planned flags repairs place limit fault shown is stop =
    let own : IsTryStop c (hide_subjects planned repairs) limit fault shown = subst (λ (f : List Bool). IsTryStop c f limit fault shown) is.hidden_is stop in
    record {
      are_repairs = is.are_repairs;
      are_shown = own.are_shown;
      place = own.stops.0;
      question = own.stops.1;
      onward = λ none. absurd (own.shows_a_cell none);
    }

pub stops_trying : (c : Case) (prices : List ℕ) (planned flags : List Bool) (repairs : List Refuted) (place : ℕ) (limit : ℕ) (fault : AskFault) (shown : List ℕ) → IsRepaired c prices planned flags repairs place → TriesStopFor c flags limit fault shown → StopsFor c prices planned limit fault (list_with_fault fault repairs) (list_with_fault fault shown)
stops_trying c prices planned flags repairs place limit fault shown is stop =
    lists_told (IsStop c prices planned limit fault) fault repairs shown (memory_more (Unit {0}) fault (try_stop_by c prices planned flags repairs place limit fault shown is) stop)

-- a verdict is that a cell can't be protected exactly where the full set doesn't protect all
pub cannot_where : (c : Case) (prices : List ℕ) (planned : List Bool) (verdict : Verdict) → IsVerdict c prices planned verdict → IsTrue (is_cannot verdict) ↔ ¬ ProtectsAll c (full_set c.cells)
cannot_where c prices planned (Protected protected repairs needs) is = ((λ bad. absurd cc), (λ not_all. absurd (not_all is.0.full_protects)))
cannot_where c prices planned (Cannot cell side multipliers) is = ((λ _ all. is.first.unprotected (protects_side c (full_set c.cells) cell side (asked_primary c.cells is.first.place (cell, side) is.first.stands) all)), (λ _. refl))

pub where_ok : {A F : Type 0} {P Q : A → Type 0} (r : Result A F) → IfOk r P → ((x : A) → P x → Q x) → IfOk r Q
where_ok (Ok x) p more = more x p
where_ok (Err e) p more = tt
