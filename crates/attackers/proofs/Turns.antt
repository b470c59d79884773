-- How the extra cells of an answer came about.
use Rattle.std.proofs.Common.{◌≡◌, ℕ, Bool, true, List, [], ◌∷◌, length, get_or, All, Option, ap, sym, ◌∙◌, subst, arith}
use Rattle.std.specs.List.{range_with_len}
use Rattle.std.proofs.lemmas.List.Elements.{All-nil, All-head, All-tail, All-cons, filter_passes}
use Rattle.sdc_base.specs.HiddenSets.{is_hidden, show, hide_cells}
use Rattle.worlds.specs.declared.world.World.{World}
use Rattle.certificate.specs.declared.extra.Extra.{Extra}
use Rattle.certificate.specs.declared.extra.ExtraNeed.{ExtraNeed}
use Rattle.repair.specs.HidingOrder.{Case}
use Rattle.repair.specs.Needs.{set_when_tried}
use Rattle.repair.proofs.Flags.{IsWithin, within_both, within_itself}
use Rattle.repair.proofs.TriedCells.{show_within}
use Rattle.attackers.proofs.Tries.{first_less}
use Rattle.attackers.specs.declared.attack.Attack.{Attack}
use Rattle.attackers.specs.declared.extra.Guarded.{Guarded}
use Rattle.attackers.specs.declared.extra.Guarded.TheVariants as guards
use Rattle.attackers.specs.declared.contributor_task.ContributorTask.{ContributorTask}
use Rattle.attackers.specs.AttackOrder.{attacks_of, unserved_attacks}
use Rattle.attackers.specs.Dropping.{is_beside, cells_beside, IsNeedFor}
use Rattle.attackers.specs.Extras.{attack_of, subjects_of}
use Rattle.attackers.specs.Narrowing.{IsNarrowed, IsOutcome}
use Rattle.attackers.specs.ContributorTasks.{case_of}
use Rattle.attackers.specs.Turns.{IsNeedWhenTried, AreLeftOfTurns, IsLeftOfTurns}
use Rattle.attackers.proofs.AllAttacks.{IsServedBy, unserved_thinned}
use Rattle.attackers.proofs.Concluding.{hidden_beside, left_out}
use Rattle.attackers.proofs.GuardOrder.{ProtectedSays}
use Rattle.attackers.proofs.Halting.{IsLeftOut, before_all, each_all}
use Rattle.attackers.proofs.Thinning.{spot, spot_stands, IsThinned}

-- what holds of all subjects holds of each need's
of_subjects : (Q : ℕ → Type 0) (needs : List ExtraNeed) → All Q (subjects_of needs) → All (λ (need : ExtraNeed). Q need.subject) needs
of_subjects Q [] all = All-nil (λ (need : ExtraNeed). Q need.subject)
of_subjects Q (need ∷ needs) all = All-cons (λ (n : ExtraNeed). Q n.subject) need needs (All-head Q need.subject (subjects_of needs) all) (of_subjects Q needs (All-tail Q need.subject (subjects_of needs) all))

-- the subjects of needs are hidden beside the first set
beside_first : (first flags : List Bool) (n : ℕ) (needs : List ExtraNeed) → subjects_of needs ≡ cells_beside first flags n → All (λ (need : ExtraNeed). is_beside first flags need.subject ≡ true) needs
beside_first first flags n needs are =
    of_subjects (λ cell. is_beside first flags cell ≡ true) needs
    (subst (All (λ cell. is_beside first flags cell ≡ true)) (sym are) (filter_passes (is_beside first flags) (range_with_len 0 n)))

-- the first set stays hidden while a cell beside it is tried
first_when_tried : (first flags larger : List Bool) (cell : ℕ) → ((k : ℕ) → is_hidden first k ≡ true → is_hidden flags k ≡ true) → ((k : ℕ) → is_hidden flags k ≡ true → is_hidden larger k ≡ true) → is_beside first flags cell ≡ true → IsWithin first (set_when_tried flags larger cell)
first_when_tried first flags larger cell stays within beside =
    within_both first (show flags cell) (set_when_tried flags larger cell) (record { hides = first_less first flags cell beside stays }) (show_within flags larger cell within)

-- a need for the first of the attacks that are left is one for the first of all
need_all : (c : Case) (soles : List (Option ℕ)) (first set : List Bool) (Is : Attack → Type 0) (all left : List Attack) → IsThinned Is all left → IsLeftOut c soles first Is → IsWithin first set → (need : ExtraNeed) → IsNeedFor c soles left set need → IsNeedFor c soles all set need
need_all c soles first set Is all left thinned out within need is = record {
  place = spot Is all left thinned is.place;
  stands = spot_stands Is all left thinned is.place (attack_of need) is.stands;
  before = before_all c soles first set Is all left thinned is.place out within is.before;
  refutes = is.refutes;
  gives = is.gives;
}

-- what is left when all extra cells have been tried came in turn
left_of_turns : (task : ContributorTask) (first : List Bool) (worlds : List World) (extra : Extra) → length first ≡ length task.cells.now → ProtectedSays task.system.now task.cells.now first worlds → task.attacks.now ≡ unserved_attacks task.cells.now task.soles.now worlds → IsNarrowed task first extra → AreLeftOfTurns (case_of task) task.soles.now task.prices.now (attacks_of task.cells.now task.soles.now) first extra
left_of_turns task first worlds extra each_first protected attacks_are_left is =
    let c : Case = case_of task in
    let soles : List (Option ℕ) = task.soles.now in
    let all : List Attack = attacks_of c.cells soles in
    let left : List Attack = task.attacks.now in
    let Is : Attack → Type 0 = IsServedBy c.cells soles worlds in
    let each : length is.flags ≡ length c.cells = omega (arith, is.each, task.fits.one_each) in
    let cells_are : extra.cells ≡ cells_beside first is.flags (length is.flags) = is.cells_are ∙ is.tried.each_needed ∙ ap (λ n. cells_beside first is.flags n) (sym each) in
    let set : hide_cells first extra.cells ≡ is.flags = ap (λ (l : List ℕ). hide_cells first l) cells_are ∙ hidden_beside first is.flags (each_first ∙ sym each) is.first_stays in
    let thinned : IsThinned Is all left = subst (λ (l : List Attack). IsThinned Is all l) (sym attacks_are_left) (unserved_thinned c.cells soles worlds protected.count) in
    let out : IsLeftOut c soles first Is = left_out c soles first worlds protected in
    let beside : All (λ (need : ExtraNeed). is_beside first is.flags need.subject ≡ true) extra.needs = beside_first first is.flags (length c.cells) extra.needs is.tried.each_needed in
    let needs : All (IsNeedWhenTried c soles all is.flags is.larger) extra.needs =
    λ k d within.
    let need : ExtraNeed = get_or extra.needs k d in
    need_all c soles first (set_when_tried is.flags is.larger need.subject) Is all left thinned out
    (first_when_tried first is.flags is.larger need.subject is.first_stays is.tried.within (beside k d within)) need (is.tried.are_needs k d within).refuted in
    record {
      turns = is.turns;
      in_turn = each_all c soles task.prices.now first first Is all left thinned out (within_itself first) is.turns is.in_turn;
      within = λ cell own. ap (λ (f : List Bool). is_hidden f cell) (sym is.larger_is) ∙ is.tried.within cell (ap (λ (f : List Bool). is_hidden f cell) (sym set) ∙ own);
      each_needed = sym is.cells_are;
      are_needs =
          subst (λ (f : List Bool). All (IsNeedWhenTried c soles all f (hide_cells first (subjects_of is.turns))) extra.needs) (sym set)
          (subst (λ (l : List Bool). All (IsNeedWhenTried c soles all is.flags l) extra.needs) is.larger_is needs);
    }

pub turns_are : (task : ContributorTask) (first : List Bool) (worlds : List World) (found : Guarded) → length first ≡ length task.cells.now → ProtectedSays task.system.now task.cells.now first worlds → task.attacks.now ≡ unserved_attacks task.cells.now task.soles.now worlds → IsOutcome task first found → IsLeftOfTurns (case_of task) task.soles.now task.prices.now (attacks_of task.cells.now task.soles.now) first found
turns_are task first worlds (guards.Guards extra) each protected left is = left_of_turns task first worlds extra each protected left is
turns_are task first worlds (guards.CannotAgainst row cell side m) each protected left is = tt
