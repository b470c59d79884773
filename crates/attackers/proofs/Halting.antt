-- Why guarding stopped.
use Rattle.std.proofs.Common.{◌≡◌, ℕ, inl, inr, not, Bool, true, false, List, [], ◌∷◌, ◌++◌, All, Option, refl, ap, sym, ◌∙◌, subst}
use Rattle.std.proofs.lemmas.List.{get_or-set_other}
use Rattle.std.proofs.lemmas.List.Elements.{All-nil, All-cons, All-head, All-tail, All-weaker}
use Rattle.sdc_base.specs.HiddenSets.{is_hidden, full_set, hide, show, hide_cells}
use Rattle.worlds.proofs.TrueTests.{and_true, not_true}
use Rattle.worlds.specs.declared.multipliers.Multipliers.{Multipliers}
use Rattle.interval_audit.specs.declared.answer.AskFault.{AskFault}
use Rattle.interval_audit.specs.declared.answer.AskFault.TheVariants.{Work, Wide, Size, Memory}
use Rattle.repair.specs.HidingOrder.{Case, show_all}
use Rattle.repair.specs.Needs.{set_when_tried}
use Rattle.repair.proofs.Flags.{IsWithin, clash, same_or_other, within_both, within_itself}
use Rattle.repair.proofs.Repairing.{none_is_more}
use Rattle.attackers.specs.declared.attack.Attack.{Attack}
use Rattle.certificate.specs.declared.certificate.WorldLine.{WorldLine}
use Rattle.certificate.specs.declared.extra.ExtraNeed.{ExtraNeed}
use Rattle.attackers.specs.declared.extra.GuardStop.{GuardStop}
use Rattle.repair.specs.declared.progress.Progress.{Progress}
use Rattle.attackers.specs.declared.contributor_task.ContributorTask.{ContributorTask}
use Rattle.attackers.specs.KnownCells.{Guards, GuardsBefore}
use Rattle.attackers.specs.Extras.{attack_of, subjects_of, IsInTurn, EachExtra}
use Rattle.attackers.specs.ContributorTasks.{case_of, IsExtendedUpTo, IsAsked, IsHalted, IsCannot}
use Rattle.attackers.specs.Dropping.{is_beside, AreDropped, IsTryStop, TriesStopFor}
use Rattle.repair.specs.WantOfMemory.{MemoryOr, UnlessMemory, list_with_fault}
use Rattle.repair.proofs.WantOfMemory.{unless_memory, memory_more}
use Rattle.attackers.specs.GuardStops.{row_with_fault, IsGuardStop, StopsFor, IsStopAsTold}
use Rattle.attackers.proofs.AllAttacks.{within_cells, within_one}
use Rattle.attackers.proofs.Knowing.{guards_more}
use Rattle.attackers.proofs.Thinning.{thinned_all, spot, spot_stands, spot_before, spot_order, IsThinned}

-- nothing is dropped yet
none_dropped : (c : Case) (soles : List (Option ℕ)) (attacks : List Attack) (first larger : List Bool) → AreDropped c soles attacks first larger []
none_dropped c soles attacks first larger = record {
  ascending = tt;
  are_open = All-nil (λ cell. is_beside first larger cell ≡ true);
  held_before = λ earlier last is. absurd (none_is_more earlier last is);
  others_needed = λ earlier last cell is. absurd (none_is_more earlier last is);
}

-- a stop with a row and two lists, as they are handed out
against_told : (Stops : ℕ → List ExtraNeed → List ℕ → Type 0) (fault : AskFault) (row : ℕ) (extras : List ExtraNeed) (dropped : List ℕ) → UnlessMemory fault (Stops row extras dropped)
    → MemoryOr fault ((row_with_fault fault row ≡ 0) × (list_with_fault fault extras ≡ []) × (list_with_fault fault dropped ≡ [])) (Stops (row_with_fault fault row) (list_with_fault fault extras) (list_with_fault fault dropped))
against_told Stops (Work walk) row extras dropped is = is
against_told Stops (Wide walk place) row extras dropped is = is
against_told Stops (Size question hidden) row extras dropped is = is
against_told Stops Memory row extras dropped is = (refl, refl, refl)

-- a question that has a fault stops the hiding of extra cells
stop_by : (task : ContributorTask) (first : List Bool) (progress : Progress WorldLine ExtraNeed) (fault : AskFault) (row : ℕ) → IsHalted task first progress fault row → IsGuardStop (case_of task) task.soles.now task.prices.now task.attacks.now first task.limit fault row progress.reasons []
stop_by task first progress fault row is = record {
  each = is.is_extended.each;
  are_dropped = none_dropped (case_of task) task.soles.now task.attacks.now first (hide_cells first (subjects_of progress.reasons));
  place = is.place;
  asked = subst (λ (f : List Bool). IsAsked (case_of task) task.soles.now task.attacks.now f task.limit fault row is.place) is.is_extended.hidden_is is.asked;
  onward = λ none. is.is_extended.onward;
}

stops_for : (task : ContributorTask) (first : List Bool) (progress : Progress WorldLine ExtraNeed) (fault : AskFault) (row : ℕ) → IsHalted task first progress fault row → StopsFor (case_of task) task.soles.now task.prices.now task.attacks.now first task.limit fault (row_with_fault fault row) (list_with_fault fault progress.reasons) (list_with_fault fault [])
stops_for task first progress fault row is =
    against_told (IsGuardStop (case_of task) task.soles.now task.prices.now task.attacks.now first task.limit fault) fault row progress.reasons [] (unless_memory fault (stop_by task first progress fault row is))

-- a question that has a fault while a cell is tried
try_stop_by : (task : ContributorTask) (first : List Bool) (progress : Progress WorldLine ExtraNeed) (place : ℕ) (fault : AskFault) (row : ℕ) (dropped : List ℕ) → IsExtendedUpTo task place first progress → IsTryStop (case_of task) task.soles.now task.attacks.now first progress.hidden.flags task.limit fault row dropped → IsGuardStop (case_of task) task.soles.now task.prices.now task.attacks.now first task.limit fault row progress.reasons dropped
try_stop_by task first progress place fault row dropped is stop =
    let own : IsTryStop (case_of task) task.soles.now task.attacks.now first (hide_cells first (subjects_of progress.reasons)) task.limit fault row dropped =
    subst (λ (f : List Bool). IsTryStop (case_of task) task.soles.now task.attacks.now first f task.limit fault row dropped) is.hidden_is stop in
    record {
      each = is.each;
      are_dropped = own.are_shown;
      place = own.stops.0;
      asked = own.stops.1;
      onward = λ none. absurd (own.shows_a_cell none);
    }

stops_trying : (task : ContributorTask) (first : List Bool) (progress : Progress WorldLine ExtraNeed) (place : ℕ) (fault : AskFault) (row : ℕ) (dropped : List ℕ) → IsExtendedUpTo task place first progress → TriesStopFor task first progress.hidden.flags fault row dropped → StopsFor (case_of task) task.soles.now task.prices.now task.attacks.now first task.limit fault (row_with_fault fault row) (list_with_fault fault progress.reasons) (list_with_fault fault dropped)
stops_trying task first progress place fault row dropped is stop =
    against_told (IsGuardStop (case_of task) task.soles.now task.prices.now task.attacks.now first task.limit fault) fault row progress.reasons dropped (memory_more (Unit {0}) fault (try_stop_by task first progress place fault row dropped is) stop)

-- the same of what is handed out
pub told : (c : Case) (soles : List (Option ℕ)) (prices : List ℕ) (attacks : List Attack) (first : List Bool) (limit : ℕ) (stop : GuardStop) (fault : AskFault) (row : ℕ) (extras : List ExtraNeed) (dropped : List ℕ) → stop.fault ≡ fault → stop.against.row ≡ row → stop.against.extras ≡ extras → stop.against.dropped ≡ dropped → StopsFor c soles prices attacks first limit fault row extras dropped → IsStopAsTold c soles prices attacks first limit stop
told c soles prices attacks first limit stop fault row extras dropped one two three four is =
    subst (λ (f : AskFault). StopsFor c soles prices attacks first limit f stop.against.row stop.against.extras stop.against.dropped) (sym one)
    (subst (λ (n : ℕ). StopsFor c soles prices attacks first limit fault n stop.against.extras stop.against.dropped) (sym two)
    (subst (λ (l : List ExtraNeed). StopsFor c soles prices attacks first limit fault row l stop.against.dropped) (sym three)
    (subst (λ (l : List ℕ). StopsFor c soles prices attacks first limit fault row extras l) (sym four) is)))

pub stops_told : (task : ContributorTask) (first : List Bool) (progress : Progress WorldLine ExtraNeed) (fault : AskFault) (row : ℕ) (extras : List ExtraNeed) (none : List ℕ) (stop : GuardStop) → extras ≡ progress.reasons → none ≡ [] → stop.fault ≡ fault → stop.against.row ≡ row_with_fault fault row → stop.against.extras ≡ list_with_fault fault extras → stop.against.dropped ≡ list_with_fault fault none → IsHalted task first progress fault row → IsStopAsTold (case_of task) task.soles.now task.prices.now task.attacks.now first task.limit stop
stops_told task first progress fault row extras none stop same empty one two three four is =
    told (case_of task) task.soles.now task.prices.now task.attacks.now first task.limit stop fault (row_with_fault fault row) (list_with_fault fault progress.reasons) (list_with_fault fault []) one two
    (three ∙ ap (λ (l : List ExtraNeed). list_with_fault fault l) same) (four ∙ ap (λ (l : List ℕ). list_with_fault fault l) empty) (stops_for task first progress fault row is)

pub tries_told : (task : ContributorTask) (first : List Bool) (progress : Progress WorldLine ExtraNeed) (place : ℕ) (fault : AskFault) (row : ℕ) (extras : List ExtraNeed) (dropped : List ℕ) (stop : GuardStop) → extras ≡ progress.reasons → stop.fault ≡ fault → stop.against.row ≡ row_with_fault fault row → stop.against.extras ≡ list_with_fault fault extras → stop.against.dropped ≡ list_with_fault fault dropped → IsExtendedUpTo task place first progress → TriesStopFor task first progress.hidden.flags fault row dropped → IsStopAsTold (case_of task) task.soles.now task.prices.now task.attacks.now first task.limit stop
tries_told task first progress place fault row extras dropped stop same one two three four is tries =
    told (case_of task) task.soles.now task.prices.now task.attacks.now first task.limit stop fault (row_with_fault fault row) (list_with_fault fault progress.reasons) (list_with_fault fault dropped) one two
    (three ∙ ap (λ (l : List ExtraNeed). list_with_fault fault l) same) four (stops_trying task first progress place fault row dropped is tries)

-- ---- from the attacks that are left to all

-- a larger set guards against all that are left out
pub record IsLeftOut (c : Case) (soles : List (Option ℕ)) (first : List Bool) (Is : Attack → Type 0) : Type 0 where
  pub guards : (attack : Attack) → Is attack → Guards c soles first attack

pub before_all : (c : Case) (soles : List (Option ℕ)) (first flags : List Bool) (Is : Attack → Type 0) (all left : List Attack) (thinned : IsThinned Is all left) (place : ℕ) → IsLeftOut c soles first Is → IsWithin first flags → GuardsBefore c soles flags left place → GuardsBefore c soles flags all (spot Is all left thinned place)
before_all c soles first flags Is all left thinned place out within before =
    spot_before Is (Guards c soles flags) all left thinned place (λ attack is. guards_more c soles first flags attack within (out.guards attack is)) before

turn_all : (c : Case) (soles : List (Option ℕ)) (prices : List ℕ) (first flags : List Bool) (Is : Attack → Type 0) (all left : List Attack) → IsThinned Is all left → IsLeftOut c soles first Is → IsWithin first flags → (extra : ExtraNeed) → IsInTurn c soles prices left flags extra → IsInTurn c soles prices all flags extra
turn_all c soles prices first flags Is all left thinned out within extra is = record {
  place = spot Is all left thinned is.place;
  stands = spot_stands Is all left thinned is.place (attack_of extra) is.stands;
  before = before_all c soles first flags Is all left thinned is.place out within is.before;
  refutes = is.refutes;
  gives = is.gives;
  cheapest = is.cheapest;
}

pub each_all : (c : Case) (soles : List (Option ℕ)) (prices : List ℕ) (first flags : List Bool) (Is : Attack → Type 0) (all left : List Attack) → IsThinned Is all left → IsLeftOut c soles first Is → IsWithin first flags → (extras : List ExtraNeed) → EachExtra (IsInTurn c soles prices left) flags extras → EachExtra (IsInTurn c soles prices all) flags extras
each_all c soles prices first flags Is all left thinned out within [] each = tt
each_all c soles prices first flags Is all left thinned out within (extra ∷ extras) each = (
  turn_all c soles prices first flags Is all left thinned out within extra each.0,
  each_all c soles prices first (hide flags extra.subject) Is all left thinned out (within_both first flags (hide flags extra.subject) within (within_one flags extra.subject)) extras each.1,
)

-- cells that are dropped aren't of the first set, so that it stays within
first_stays : (first flags : List Bool) (dropped : List ℕ) → All (λ cell. is_hidden first cell ≡ false) dropped → IsWithin first flags → IsWithin first (show_all flags dropped)
first_stays first flags [] all within = within
first_stays first flags (cell ∷ dropped) all within =
    first_stays first (show flags cell) dropped (All-tail (λ k. is_hidden first k ≡ false) cell dropped all) (record {
      hides = λ k is. elim (same_or_other k cell) [
        | inl same ↦ clash (is_hidden first cell) (subst (λ m. is_hidden first m ≡ true) same is) (All-head (λ n. is_hidden first n ≡ false) cell dropped all)
        | inr other ↦ get_or-set_other flags cell k false false other ∙ within.hides k is
      ];
    })

pub cannot_all : (c : Case) (soles : List (Option ℕ)) (first : List Bool) (Is : Attack → Type 0) (all left : List Attack) (attack : Attack) → IsThinned Is all left → IsLeftOut c soles first Is → IsWithin first (full_set c.cells) → (m : Multipliers) → IsCannot c soles left attack m → IsCannot c soles all attack m
cannot_all c soles first Is all left attack thinned out within m is = record {
  place = spot Is all left thinned is.place;
  stands = spot_stands Is all left thinned is.place attack is.stands;
  before = before_all c soles first (full_set c.cells) Is all left thinned is.place out within is.before;
  refutes = is.refutes;
  unguarded = is.unguarded;
  whole = is.whole;
}

-- what guards against all guards against those that are left
left_guarded : (Q : Attack → Type 0) (Is : Attack → Type 0) (all left : List Attack) → IsThinned Is all left → All Q all → All Q left
left_guarded Q Is [] left thinned each = rw thinned (All-nil Q)
left_guarded Q Is (attack ∷ all) left thinned each = elim thinned [
  | inl gone ↦ left_guarded Q Is all left gone.1 (All-tail Q attack all each)
  | inr kept ↦ subst (All Q) (sym kept.1) (All-cons Q attack kept.0 (All-head Q attack all each) (left_guarded Q Is all kept.0 kept.2 (All-tail Q attack all each)))
]

not_first : (first larger : List Bool) (dropped : List ℕ) → All (λ cell. is_beside first larger cell ≡ true) dropped → All (λ cell. is_hidden first cell ≡ false) dropped
not_first first larger dropped all =
    All-weaker (λ cell. is_beside first larger cell ≡ true) (λ cell. is_hidden first cell ≡ false) (λ cell is. not_true (is_hidden first cell) (and_true (is_hidden larger cell) (not (is_hidden first cell)) is).1) dropped all

front_of : (P : ℕ → Type 0) (earlier : List ℕ) (last : ℕ) → All P (earlier ++ last ∷ []) → All P earlier
front_of P [] last all = All-nil P
front_of P (one ∷ earlier) last all = All-cons P one earlier (All-head P one (earlier ++ last ∷ []) all) (front_of P earlier last (All-tail P one (earlier ++ last ∷ []) all))

dropped_all : (c : Case) (soles : List (Option ℕ)) (first larger : List Bool) (Is : Attack → Type 0) (all left : List Attack) (dropped : List ℕ) → IsThinned Is all left → IsLeftOut c soles first Is → IsWithin first larger → AreDropped c soles left first larger dropped → AreDropped c soles all first larger dropped
dropped_all c soles first larger Is all left dropped thinned out within is = record {
  ascending = is.ascending;
  are_open = is.are_open;
  held_before = λ earlier last same.
      let others : All (λ cell. is_hidden first cell ≡ false) earlier = front_of (λ cell. is_hidden first cell ≡ false) earlier last (subst (All (λ cell. is_hidden first cell ≡ false)) same (not_first first larger dropped is.are_open)) in
      thinned_all Is (Guards c soles (show_all larger earlier)) all left (λ attack own. guards_more c soles first (show_all larger earlier) attack (first_stays first larger earlier others within) (out.guards attack own)) thinned (is.held_before earlier last same);
  others_needed = λ earlier last cell same below still guards. is.others_needed earlier last cell same below still (left_guarded (Guards c soles (set_when_tried (show_all larger dropped) larger cell)) Is all left thinned guards);
}

stop_all : (c : Case) (soles : List (Option ℕ)) (prices : List ℕ) (first : List Bool) (limit : ℕ) (Is : Attack → Type 0) (all left : List Attack) (fault : AskFault) (row : ℕ) (extras : List ExtraNeed) (dropped : List ℕ) → IsThinned Is all left → IsLeftOut c soles first Is → IsGuardStop c soles prices left first limit fault row extras dropped → IsGuardStop c soles prices all first limit fault row extras dropped
stop_all c soles prices first limit Is all left fault row extras dropped thinned out is =
    let larger : List Bool = hide_cells first (subjects_of extras) in
    let within : IsWithin first larger = within_cells first (subjects_of extras) in
    let set : List Bool = show_all larger dropped in
    let stays : IsWithin first set = first_stays first larger dropped (not_first first larger dropped is.are_dropped.are_open) within in
    record {
      each = each_all c soles prices first first Is all left thinned out (within_itself first) extras is.each;
      are_dropped = dropped_all c soles first larger Is all left dropped thinned out within is.are_dropped;
      place = spot Is all left thinned is.place;
      asked = record {
        attack = is.asked.attack;
        stands = spot_stands Is all left thinned is.place is.asked.attack is.asked.stands;
        by_row = is.asked.by_row;
        before = before_all c soles first set Is all left thinned is.place out stays is.asked.before;
        cause = is.asked.cause;
      };
      onward = λ none earlier last same.
          let own = is.onward none earlier last same in
          (spot Is all left thinned own.0, spot_stands Is all left thinned own.0 (attack_of last) own.1, spot_order Is all left thinned own.0 is.place own.2);
    }

pub stops_all : (c : Case) (soles : List (Option ℕ)) (prices : List ℕ) (first : List Bool) (limit : ℕ) (Is : Attack → Type 0) (all left : List Attack) (fault : AskFault) (row : ℕ) (extras : List ExtraNeed) (dropped : List ℕ) → IsThinned Is all left → IsLeftOut c soles first Is → StopsFor c soles prices left first limit fault row extras dropped → StopsFor c soles prices all first limit fault row extras dropped
stops_all c soles prices first limit Is all left fault row extras dropped thinned out is =
    memory_more ((row ≡ 0) × (extras ≡ []) × (dropped ≡ [])) fault (stop_all c soles prices first limit Is all left fault row extras dropped thinned out) is
