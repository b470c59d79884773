-- What an extra without a fault comes to, and when an extra has none.
use Rattle.std.proofs.Common.{◌≡◌, ℕ, ◌+◌, ◌<◌, not, Bool, true, false, List, [], ◌∷◌, ◌++◌, length, get_or, All, Option, Result, Ok, Err, refl, arith}
use Rattle.std.proofs.lemmas.List.Elements.{All-nil, All-cons, All-head, All-tail, All-append, All-weaker}
use Rattle.std.proofs.lemmas.Option.{slice_get_within}
use Rattle.sdc_base.specs.Steps.{◌>>=◌, refuse, map_fault}
use Rattle.sdc_base.proofs.StepLemmas.{bind_ok}
use Rattle.sdc_base.specs.declared.cell.Cell.{Cell}
use Rattle.sdc_base.specs.declared.cell.Kind.TheVariants.{Free}
use Rattle.sdc_base.specs.HiddenSets.{is_hidden, show, hide_cells}
use Rattle.worlds.specs.ProtectFaults.{line_number}
use Rattle.worlds.specs.RefutationFaults.{refutation_fault}
use Rattle.worlds.specs.WorldFaults.{world_fault, IsGivenWorld}
use Rattle.worlds.proofs.WorldLaws.{not_refused, world_law}
use Rattle.worlds.proofs.RefutationLaws.{refutation_law}
use Rattle.certificate.specs.declared.certificate.WorldLine.{WorldLine}
use Rattle.repair.specs.HidingOrder.{Case, IsOfKind}
use Rattle.attackers.specs.declared.attack.Attack.{Attack}
use Rattle.certificate.specs.declared.extra.ExtraNeed.{ExtraNeed}
use Rattle.certificate.specs.declared.extra.Extra.{Extra}
use Rattle.attackers.specs.declared.faults.ExtraFault.TheVariants as fault
use Rattle.attackers.specs.KnownCells.{without_known, is_served, IsAttack}
use Rattle.attackers.specs.Extras.{attack_of}
use Rattle.attackers.specs.AttackOrder.{attacks_of}
use Rattle.attackers.specs.ExtraFaults.{cells_fault, need_cells_fault, need_fault, needs_fault, guard_cells_fault, guards_fault, open_fault, attacks_fault, guarding_fault, extra_fault}
use Rattle.attackers.proofs.AllAttacks.{within_cells, attacks_are}
use Rattle.attackers.proofs.Holding.{served_guards}
use Rattle.attackers.proofs.Listed.{ExtraSays, cells_say, NeedsSay, needs_say}
use Rattle.repair.proofs.Growing.{given_more}
use Rattle.attackers.specs.ExtraAcceptance.{IsExtraNeed, IsGuarding}
use Rattle.attackers.proofs.AskedCells.{AttackSays, attack_says}

fault_seen : {F G : Type 0} (view : F → G) (r : Result (Unit {0}) F) → map_fault view r ≡ Ok tt → r ≡ Ok tt
fault_seen view (Ok tt) ok = refl
fault_seen view (Err e) ok = absurd cc

-- needs without a fault refute
pub needs_hold : (c : Case) (soles : List (Option ℕ)) (flags : List Bool) (k : ℕ) (needs : List ExtraNeed) → length c.cells ≡ c.system.cells → All (λ (need : ExtraNeed). IsAttack c.cells soles (attack_of need)) needs → needs_fault c soles flags k needs ≡ Ok tt → All (IsExtraNeed c soles flags) needs
needs_hold c soles flags k [] one_each on ok = All-nil (IsExtraNeed c soles flags)
needs_hold c soles flags k (need ∷ needs) one_each on ok =
    let parts = bind_ok (need_fault c soles flags k need) (λ _. needs_fault c soles flags (k + 1) needs) tt ok in
    let own : IsAttack c.cells soles (attack_of need) = All-head (λ (n : ExtraNeed). IsAttack c.cells soles (attack_of n)) need needs on in
    let says : AttackSays c.cells soles (attack_of need) = attack_says c.cells soles (attack_of need) own in
    let inside : need.cell < c.system.cells = omega (arith, one_each, slice_get_within c.cells need.cell says.primary.cell says.primary.found) in
    let set : List Bool = without_known soles need.row (show flags need.subject) in
    let fine : refutation_fault c.system c.cells set need.cell need.side need.multipliers ≡ Ok tt = fault_seen (fault.Need (line_number k)) (refutation_fault c.system c.cells set need.cell need.side need.multipliers) parts.1 in
    All-cons (IsExtraNeed c soles flags) need needs
    (record { on = own; refutes = (refutation_law c.system c.cells set need.cell need.side need.multipliers inside).0 fine })
    (needs_hold c soles flags (k + 1) needs one_each (All-tail (λ (n : ExtraNeed). IsAttack c.cells soles (attack_of n)) need needs on) parts.2)

-- guards without a fault are worlds
pub guards_hold : (c : Case) (flags : List Bool) (k : ℕ) (guards : List WorldLine) → length c.cells ≡ c.system.cells → guards_fault c flags k guards ≡ Ok tt → All (λ (line : WorldLine). IsGivenWorld c.system c.cells flags line.world) guards
guards_hold c flags k [] one_each ok = All-nil (λ (line : WorldLine). IsGivenWorld c.system c.cells flags line.world)
guards_hold c flags k (line ∷ guards) one_each ok =
    let parts = bind_ok (map_fault (fault.Guard k) (world_fault c.system c.cells flags line.world)) (λ _. guards_fault c flags (k + 1) guards) tt ok in
    let fine : world_fault c.system c.cells flags line.world ≡ Ok tt = fault_seen (fault.Guard k) (world_fault c.system c.cells flags line.world) parts.1 in
    All-cons (λ (l : WorldLine). IsGivenWorld c.system c.cells flags l.world) line guards ((world_law c.system c.cells flags line.world one_each).0 fine) (guards_hold c flags (k + 1) guards one_each parts.2)

pub not_false : (a : Bool) → not a ≡ false → a ≡ true
not_false true is = refl
not_false false is = absurd cc

-- against each attack some world serves
attacks_met : (cells : List Cell) (soles : List (Option ℕ)) (lines : List WorldLine) (attacks : List Attack) → attacks_fault cells soles lines attacks ≡ Ok tt → All (λ (attack : Attack). is_served cells soles attack lines ≡ true) attacks
attacks_met cells soles lines [] ok = All-nil (λ (attack : Attack). is_served cells soles attack lines ≡ true)
attacks_met cells soles lines (attack ∷ attacks) ok =
    let parts = bind_ok (refuse (open_fault attack) (not (is_served cells soles attack lines))) (λ _. attacks_fault cells soles lines attacks) tt ok in
    let test : not (is_served cells soles attack lines) ≡ false = not_refused (open_fault attack) (not (is_served cells soles attack lines)) parts.1 in
    All-cons (λ (a : Attack). is_served cells soles a lines ≡ true) attack attacks (not_false (is_served cells soles attack lines) test) (attacks_met cells soles lines attacks parts.2)

pub accepted : (c : Case) (soles : List (Option ℕ)) (flags : List Bool) (worlds : List WorldLine) (extra : Extra) → length c.cells ≡ c.system.cells → All (λ (line : WorldLine). IsGivenWorld c.system c.cells flags line.world) worlds → extra_fault c soles flags worlds extra ≡ Ok tt → IsGuarding c soles flags extra
accepted c soles flags worlds extra one_each are ok =
    let set : List Bool = hide_cells flags extra.cells in
    let one = bind_ok (cells_fault c.cells flags 0 0 extra.cells) (λ _. need_cells_fault c.cells soles 0 extra.cells extra.needs >>= λ _. guarding_fault c soles set worlds extra) tt ok in
    let two = bind_ok (need_cells_fault c.cells soles 0 extra.cells extra.needs) (λ _. guarding_fault c soles set worlds extra) tt one.2 in
    let three = bind_ok (needs_fault c soles set 0 extra.needs) (λ _. guard_cells_fault c.cells 0 0 extra.guards >>= λ _. guards_fault c set 0 extra.guards >>= λ _. attacks_fault c.cells soles (worlds ++ extra.guards) (attacks_of c.cells soles)) tt two.2 in
    let four = bind_ok (guard_cells_fault c.cells 0 0 extra.guards) (λ _. guards_fault c set 0 extra.guards >>= λ _. attacks_fault c.cells soles (worlds ++ extra.guards) (attacks_of c.cells soles)) tt three.2 in
    let five = bind_ok (guards_fault c set 0 extra.guards) (λ _. attacks_fault c.cells soles (worlds ++ extra.guards) (attacks_of c.cells soles)) tt four.2 in
    let says : All (λ cell. ExtraSays c.cells flags 0 cell) extra.cells = cells_say c.cells flags 0 0 extra.cells one.1 in
    let needs : NeedsSay c.cells soles extra.cells extra.needs = needs_say c.cells soles 0 extra.cells extra.needs two.1 in
    let lines : All (λ (line : WorldLine). IsGivenWorld c.system c.cells set line.world) (worlds ++ extra.guards) =
    All-append (λ (line : WorldLine). IsGivenWorld c.system c.cells set line.world) worlds extra.guards
    (λ k d inside. given_more c.system c.cells flags set _ (within_cells flags extra.cells) (are k d inside)) (guards_hold c set 0 extra.guards one_each five.1) in
    let met : All (λ (attack : Attack). is_served c.cells soles attack (worlds ++ extra.guards) ≡ true) (attacks_of c.cells soles) = attacks_met c.cells soles (worlds ++ extra.guards) (attacks_of c.cells soles) five.2 in
    record {
      are_free = All-weaker (λ cell. ExtraSays c.cells flags 0 cell) (λ cell. IsOfKind c.cells cell Free) (λ cell own. own.is_free) extra.cells says;
      are_shown = All-weaker (λ cell. ExtraSays c.cells flags 0 cell) (λ cell. is_hidden flags cell ≡ false) (λ cell own. own.shown) extra.cells says;
      each_needed = needs.same;
      are_needs = needs_hold c soles set 0 extra.needs one_each needs.on three.1;
      guards_all = λ k d inside. served_guards c soles set (get_or (attacks_of c.cells soles) k d) (worlds ++ extra.guards) (attacks_are c.cells soles k d inside) lines (met k d inside);
    }
