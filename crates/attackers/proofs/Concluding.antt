-- What guarding comes to: the extra has no fault.
use Rattle.std.proofs.Common.{◌≡◌, ◌↔◌, ℕ, zero, suc, ◌+◌, ◌<◌, ◌≤◌, inl, inr, ◌==◌, ◌&&◌, ◌||◌, not, nat_lt, nat_le, Bool, true, false, IsTrue, List, [], ◌∷◌, ◌++◌, length, length-set, filter, get_or, All, Option, Ok, refl, ap, sym, ◌∙◌, subst, arith, if◌then◌else◌}
use Rattle.std.specs.List.{list_any, range_with_len}
use Rattle.std.specs.Option.{option_map_or}
use Rattle.std.proofs.lemmas.Bool.Decides.{Decides-eqb, nat_tests}
use Rattle.std.proofs.lemmas.List.Elements.{All-head, All-tail, All-weaker}
use Rattle.std.proofs.lemmas.Option.{slice_get_within, get_or_from_slice_get}
use Rattle.sdc_base.specs.Steps.{◌>>=◌, refuse, map_fault}
use Rattle.sdc_base.specs.Kinds.{is_free}
use Rattle.sdc_base.specs.declared.cell.Cell.{Cell}
use Rattle.sdc_base.specs.declared.cell.Kind.{Kind}
use Rattle.sdc_base.specs.declared.cell.Kind.TheVariants.{Primary, Free, Fixed}
use Rattle.sdc_base.specs.HiddenSets.{is_hidden, full_set, IsPermitted, hide, show, hide_cells}
use Rattle.worlds.specs.declared.world.World.{World}
use Rattle.worlds.specs.ProtectFaults.{asked_of, line_number}
use Rattle.worlds.specs.RefutationFaults.{refutation_fault}
use Rattle.worlds.specs.WorldFaults.{IsGivenWorld}
use Rattle.worlds.proofs.TrueTests.{and_true, both_true, not_true}
use Rattle.worlds.proofs.WorldLaws.{then_ok, passes}
use Rattle.worlds.proofs.RefutationLaws.{refutation_law}
use Rattle.certificate.specs.declared.certificate.WorldLine.{WorldLine}
use Rattle.repair.specs.HidingOrder.{Case, IsOfKind, is_free_at}
use Rattle.repair.specs.Needs.{set_when_tried}
use Rattle.repair.proofs.Fewer.{refutation_fewer}
use Rattle.repair.proofs.Flags.{by_test, clash, same_or_other, hidden_here, hidden_other}
use Rattle.repair.proofs.Repairing.{hidden_cell}
use Rattle.attackers.specs.declared.attack.Attack.{Attack}
use Rattle.certificate.specs.declared.extra.ExtraNeed.{ExtraNeed}
use Rattle.certificate.specs.declared.extra.Extra.{Extra}
use Rattle.attackers.specs.declared.faults.ExtraFault.TheVariants as fault
use Rattle.attackers.specs.KnownCells.{without_known, is_attack, is_served, serves, IsAttack, Guards, GuardsAll}
use Rattle.attackers.specs.Extras.{attack_of, subjects_of, Unguards}
use Rattle.attackers.specs.ContributorTasks.{case_of}
use Rattle.attackers.specs.Dropping.{is_beside, cells_beside, IsNeedFor}
use Rattle.repair.specs.TriedCells.{IsNeedBelow}
use Rattle.attackers.specs.ExtraFaults.{may_be_extra, cells_fault, is_need_of, need_cells_fault, need_fault, needs_fault, guard_cells_fault, guards_fault, attacks_fault, guarding_fault, extra_fault}
use Rattle.attackers.specs.Guarding.{guards_in_order, lines_of, IsGuardedBy, IsGuarded, is_cannot}
use Rattle.attackers.specs.Narrowing.{IsNarrowed, IsOutcome}
use Rattle.attackers.specs.GuardStops.{IsStopAsTold}
use Rattle.attackers.specs.ExtraAcceptance.{IsGuarding}
use Rattle.attackers.specs.AttackOrder.{attacks_of, unserved_attacks}
use Rattle.attackers.specs.declared.contributor_task.ContributorTask.{ContributorTask}
use Rattle.attackers.specs.declared.extra.GuardStop.{GuardStop}
use Rattle.attackers.specs.declared.extra.Guarded.{Guarded}
use Rattle.attackers.specs.declared.extra.Guarded.TheVariants as guards
use Rattle.attackers.proofs.AcceptedExtras.{accepted}
use Rattle.attackers.proofs.AllAttacks.{IsServedBy, unserved_thinned}
use Rattle.attackers.proofs.GuardOrder.{guard_cells_pass, All-in_order, guards_pass, attacks_pass, any_in_order, served_lines, All-lines, worlds_guard, ProtectedSays}
use Rattle.attackers.proofs.Halting.{IsLeftOut, cannot_all, stops_all}
use Rattle.attackers.proofs.Resisting.{in_full}
use Rattle.attackers.proofs.Thinning.{thinned_all, IsThinned}
use Rattle.attackers.proofs.AskedCells.{AttackSays, attack_says, attack_at}
use Rattle.attackers.proofs.Holding.{any_left, any_right}
use Rattle.attackers.proofs.Knowing.{without_more, all_guards_more}
use Rattle.repair.proofs.TriedCells.{members-more, show_within}

-- ---- the extra cells

-- numbers that pass a test are extra cells without a fault, where each is free and shown
cells_pass : (cells : List Cell) (flags : List Bool) (test : ℕ → Bool) (k least a n : ℕ) → least ≤ a → ((cell : ℕ) → test cell ≡ true → (is_free_at cells cell ≡ true) × (is_hidden flags cell ≡ false)) → cells_fault cells flags k least (filter test (range_with_len a n)) ≡ Ok tt
cells_pass cells flags test k least a zero below each = refl
cells_pass cells flags test k least a (suc n) below each =
    elim (test a) as (λ b. test a ≡ b → cells_fault cells flags k least (if b then a ∷ filter test (range_with_len (a + 1) n) else filter test (range_with_len (a + 1) n)) ≡ Ok tt) [
      | true ↦ λ is.
          let own = each a is in
          let may : may_be_extra cells flags least a ≡ true = both_true (nat_le least a) (is_free_at cells a && not (is_hidden flags a)) (grind (arith, nat_tests, below)) (both_true (is_free_at cells a) (not (is_hidden flags a)) own.0 (ap not own.1)) in
          then_ok (refuse (fault.Cell (line_number k)) (not (may_be_extra cells flags least a))) (λ _. cells_fault cells flags (k + 1) (a + 1) (filter test (range_with_len (a + 1) n))) tt tt
          (passes (fault.Cell (line_number k)) (not (may_be_extra cells flags least a)) (ap not may)) (cells_pass cells flags test (k + 1) (a + 1) (a + 1) n (omega arith) each)
      | false ↦ λ is. cells_pass cells flags test k least (a + 1) n (omega (arith, below)) each
    ] refl

free_kind : (kind : Kind) (hidden first : Bool) → (kind ≡ Fixed → hidden ≡ false) → (kind ≡ Primary → first ≡ true) → hidden ≡ true → first ≡ false → is_free kind ≡ true
free_kind Primary hidden first fixed primary is not_first = clash first (primary refl) not_first
free_kind Free hidden first fixed primary is not_first = refl
free_kind Fixed hidden first fixed primary is not_first = clash hidden is (fixed refl)

-- a cell that is hidden beside a permitted set is free
pub beside_free : (cells : List Cell) (first flags : List Bool) (cell : ℕ) → length flags ≡ length cells → IsPermitted cells first → IsPermitted cells flags → is_beside first flags cell ≡ true → is_free_at cells cell ≡ true
beside_free cells first flags cell each start permitted is =
    let both = and_true (is_hidden flags cell) (not (is_hidden first cell)) is in
    let found = hidden_cell cells flags cell each both.0 in
    ap (λ o. option_map_or (λ (one : Cell). is_free one.kind) o false) found.1
    ∙ free_kind found.0.kind (is_hidden flags cell) (is_hidden first cell) (permitted.fixed_shown cell found.0 found.1) (start.primary_hidden cell found.0 found.1) both.0 (not_true (is_hidden first cell) both.1)

pub beside_pass : (cells : List Cell) (first flags : List Bool) (n : ℕ) → length flags ≡ length cells → IsPermitted cells first → IsPermitted cells flags → cells_fault cells first 0 0 (cells_beside first flags n) ≡ Ok tt
beside_pass cells first flags n each start permitted =
    cells_pass cells first (is_beside first flags) 0 0 0 n (omega arith) (λ cell is. (
      beside_free cells first flags cell each start permitted is,
      not_true (is_hidden first cell) (and_true (is_hidden flags cell) (not (is_hidden first cell)) is).1,
    ))

-- ---- the set with them

or_true : (b : Bool) → (b || true) ≡ true
or_true true = refl
or_true false = refl

or_both : (a b c : Bool) → ((a || b) || c) ≡ (a || (b || c))
or_both true b c = refl
or_both false b c = refl

hidden_among : (flags : List Bool) (cells : List ℕ) (k : ℕ) → k < length flags → is_hidden (hide_cells flags cells) k ≡ (is_hidden flags k || list_any (λ one. one == k) cells)
hidden_among flags [] k inside = sym (or_false (is_hidden flags k))
  where
    or_false : (b : Bool) → (b || false) ≡ b
    or_false true = refl
    or_false false = refl
hidden_among flags (cell ∷ cells) k inside =
    hidden_among (hide flags cell) cells k (omega (arith, inside, length-set flags cell true))
    ∙ ap (λ b. b || list_any (λ one. one == k) cells) here
    ∙ or_both (is_hidden flags k) (cell == k) (list_any (λ one. one == k) cells)
  where
    here : is_hidden (hide flags cell) k ≡ (is_hidden flags k || (cell == k))
    here = elim (same_or_other k cell) [
      | inl same ↦
          let test : (cell == k) ≡ true = (Decides-eqb cell k).1 (sym same) in
          subst (λ m. is_hidden (hide flags m) k ≡ true) same (hidden_here flags k inside) ∙ sym (ap (λ b. is_hidden flags k || b) test ∙ or_true (is_hidden flags k))
      | inr other ↦
          let test : (cell == k) ≡ false = grind (arith, nat_tests, other) in
          hidden_other flags cell k other ∙ sym (ap (λ b. is_hidden flags k || b) test ∙ nothing (is_hidden flags k))
    ]
      where
        nothing : (b : Bool) → (b || false) ≡ b
        nothing true = refl
        nothing false = refl

pub length-hide_cells : (flags : List Bool) (cells : List ℕ) → length (hide_cells flags cells) ≡ length flags
length-hide_cells flags [] = refl
length-hide_cells flags (cell ∷ cells) = length-hide_cells (hide flags cell) cells ∙ length-set flags cell true

any_both : (f : ℕ → Bool) (xs ys : List ℕ) → list_any f (xs ++ ys) ≡ (list_any f xs || list_any f ys)
any_both f [] ys = refl
any_both f (x ∷ xs) ys = ap (λ b. f x || b) (any_both f xs ys) ∙ sym (or_both (f x) (list_any f xs) (list_any f ys))

-- a number is among those below another that pass a test where it is below it and passes
among_test : (test : ℕ → Bool) (n k : ℕ) → list_any (λ one. one == k) (filter test (range_with_len 0 n)) ≡ (nat_lt k n && test k)
among_test test zero k = let none : nat_lt k 0 ≡ false = grind (arith, nat_tests) in sym (ap (λ b. b && test k) none)
among_test test (suc n) k =
    ap (list_any (λ one. one == k)) (members-more test n)
    ∙ any_both (λ one. one == k) (filter test (range_with_len 0 n)) (if test n then n ∷ [] else [])
    ∙ ap (λ b. b || list_any (λ one. one == k) (if test n then n ∷ [] else [])) (among_test test n k)
    ∙ elim (same_or_other k n) [
      | inl same ↦
          let below : nat_lt k n ≡ false = grind (arith, nat_tests, same) in
          let more : nat_lt k (suc n) ≡ true = grind (arith, nat_tests, same) in
          let here : (n == k) ≡ true = (Decides-eqb n k).1 (sym same) in
          ap (λ b. (b && test k) || list_any (λ one. one == k) (if test n then n ∷ [] else [])) below
          ∙ last_one (test n) here ∙ ap test (sym same) ∙ sym (ap (λ b. b && test k) more)
      | inr other ↦
          let apart : (n == k) ≡ false = grind (arith, nat_tests, other) in
          let same : nat_lt k (suc n) ≡ nat_lt k n = by_test (nat_lt k n) (nat_lt k (suc n) ≡ nat_lt k n) (λ less. (let up : nat_lt k (suc n) ≡ true = grind (arith, nat_tests, less) in up ∙ sym less)) (λ past. (let up : nat_lt k (suc n) ≡ false = grind (arith, nat_tests, past, other) in up ∙ sym past)) in
          no_one (test n) apart (nat_lt k n && test k) ∙ ap (λ b. b && test k) (sym same)
    ]
  where
    last_one : (b : Bool) → (n == k) ≡ true → list_any (λ one. one == k) (if b then n ∷ [] else []) ≡ b
    last_one true here = ap (λ t. t || false) here
    last_one false here = refl

    no_one : (b : Bool) → (n == k) ≡ false → (v : Bool) → (v || list_any (λ one. one == k) (if b then n ∷ [] else [])) ≡ v
    no_one true apart true = refl
    no_one true apart false = ap (λ t. t || false) apart
    no_one false apart true = refl
    no_one false apart false = refl

flags_same : (one other : List Bool) → length one ≡ length other → ((k : ℕ) → k < length one → is_hidden one k ≡ is_hidden other k) → one ≡ other
flags_same [] [] long each = refl
flags_same [] (b ∷ other) long each = absurd (omega (arith, long))
flags_same (a ∷ one) [] long each = absurd (omega (arith, long))
flags_same (a ∷ one) (b ∷ other) long each =
    let first : a ≡ b = each 0 (omega arith) in
    let rest : one ≡ other = flags_same one other (omega (arith, long)) (λ k below. each (suc k) (omega (arith, below))) in
    ap (λ x. x ∷ one) first ∙ ap (λ (l : List Bool). b ∷ l) rest

-- the first set with all cells that are hidden beside it is the set
pub hidden_beside : (first flags : List Bool) → length first ≡ length flags → ((cell : ℕ) → is_hidden first cell ≡ true → is_hidden flags cell ≡ true) → hide_cells first (cells_beside first flags (length flags)) ≡ flags
hidden_beside first flags long within =
    flags_same (hide_cells first (cells_beside first flags (length flags))) flags (length-hide_cells first (cells_beside first flags (length flags)) ∙ long)
    (λ k below.
    let inside : k < length first = omega (arith, below, length-hide_cells first (cells_beside first flags (length flags))) in
    let less : nat_lt k (length flags) ≡ true = grind (arith, nat_tests, inside, long) in
    hidden_among first (cells_beside first flags (length flags)) k inside
    ∙ ap (λ b. is_hidden first k || b) (among_test (is_beside first flags) (length flags) k ∙ ap (λ b. b && is_beside first flags k) less)
    ∙ either (is_hidden first k) (is_hidden flags k) (within k))
  where
    either : (a b : Bool) → (a ≡ true → b ≡ true) → (a || (b && not a)) ≡ b
    either true b h = sym (h refl)
    either false true h = refl
    either false false h = refl

-- ---- the needs

pub need_cells_pass : (cells : List Cell) (soles : List (Option ℕ)) (k : ℕ) (needs : List ExtraNeed) → All (λ (need : ExtraNeed). IsAttack cells soles (attack_of need)) needs → need_cells_fault cells soles k (subjects_of needs) needs ≡ Ok tt
need_cells_pass cells soles k [] on = refl
need_cells_pass cells soles k (need ∷ needs) on =
    let own : is_need_of cells soles need.subject need ≡ true = both_true (need.subject == need.subject) (is_attack cells soles (attack_of need)) ((Decides-eqb need.subject need.subject).1 refl) (All-head (λ (n : ExtraNeed). IsAttack cells soles (attack_of n)) need needs on) in
    then_ok (refuse (fault.NeedCell (line_number k)) (not (is_need_of cells soles need.subject need))) (λ _. need_cells_fault cells soles (k + 1) (subjects_of needs) needs) tt tt
    (passes (fault.NeedCell (line_number k)) (not (is_need_of cells soles need.subject need)) (ap not own)) (need_cells_pass cells soles (k + 1) needs (All-tail (λ (n : ExtraNeed). IsAttack cells soles (attack_of n)) need needs on))

pub needs_pass : (c : Case) (soles : List (Option ℕ)) (flags : List Bool) (k : ℕ) (needs : List ExtraNeed) → length c.cells ≡ c.system.cells → All (λ (need : ExtraNeed). IsAttack c.cells soles (attack_of need) × Unguards c soles (show flags need.subject) (attack_of need) need.multipliers) needs → needs_fault c soles flags k needs ≡ Ok tt
needs_pass c soles flags k [] one_each are = refl
needs_pass c soles flags k (need ∷ needs) one_each are =
    let own : IsAttack c.cells soles (attack_of need) × Unguards c soles (show flags need.subject) (attack_of need) need.multipliers = All-head (λ (n : ExtraNeed). IsAttack c.cells soles (attack_of n) × Unguards c soles (show flags n.subject) (attack_of n) n.multipliers) need needs are in
    let says : AttackSays c.cells soles (attack_of need) = attack_says c.cells soles (attack_of need) own.0 in
    let inside : need.cell < c.system.cells = omega (arith, one_each, slice_get_within c.cells need.cell says.primary.cell says.primary.found) in
    let set : List Bool = without_known soles need.row (show flags need.subject) in
    let fine : refutation_fault c.system c.cells set need.cell need.side need.multipliers ≡ Ok tt = (refutation_law c.system c.cells set need.cell need.side need.multipliers inside).1 own.1 in
    then_ok (need_fault c soles flags k need) (λ _. needs_fault c soles flags (k + 1) needs) tt tt
    (ap (map_fault (fault.Need (line_number k))) fine) (needs_pass c soles flags (k + 1) needs one_each (All-tail (λ (n : ExtraNeed). IsAttack c.cells soles (attack_of n) × Unguards c soles (show flags n.subject) (attack_of n) n.multipliers) need needs are))

-- a need for a larger set is one for the set that is left
pub need_left : (c : Case) (soles : List (Option ℕ)) (attacks : List Attack) (flags larger : List Bool) (n : ℕ) (need : ExtraNeed) → All (IsAttack c.cells soles) attacks → ((cell : ℕ) → is_hidden flags cell ≡ true → is_hidden larger cell ≡ true) → IsNeedBelow (λ (n : ExtraNeed). n.subject) (IsNeedFor c soles attacks) flags larger n need → IsAttack c.cells soles (attack_of need) × Unguards c soles (show flags need.subject) (attack_of need) need.multipliers
need_left c soles attacks flags larger n need are within is = (
  attack_at c.cells soles attacks is.refuted.place (attack_of need) are is.refuted.stands,
  refutation_fewer c.system c.cells (without_known soles need.row (show flags need.subject)) (without_known soles need.row (set_when_tried flags larger need.subject)) need.cell need.side need.multipliers
      (without_more soles need.row (show flags need.subject) (set_when_tried flags larger need.subject) (show_within flags larger need.subject within)) is.refuted.refutes,
)

-- ---- all together

-- an extra has no fault
pub extra_passes : (c : Case) (soles : List (Option ℕ)) (first flags : List Bool) (worlds : List World) (guards : List WorldLine) (extra : Extra) → length c.cells ≡ c.system.cells → length first ≡ length c.cells → length flags ≡ length c.cells → IsPermitted c.cells first → IsPermitted c.cells flags → ((cell : ℕ) → is_hidden first cell ≡ true → is_hidden flags cell ≡ true) → extra.cells ≡ cells_beside first flags (length flags) → extra.cells ≡ subjects_of extra.needs → All (λ (need : ExtraNeed). IsAttack c.cells soles (attack_of need) × Unguards c soles (show flags need.subject) (attack_of need) need.multipliers) extra.needs → extra.guards ≡ guards_in_order (asked_of 0 c.cells) guards → All (λ (line : WorldLine). IsOfKind c.cells line.cell Primary) guards → All (λ (line : WorldLine). IsGivenWorld c.system c.cells flags line.world) guards → All (λ (attack : Attack). is_served c.cells soles attack (lines_of (asked_of 0 c.cells) worlds ++ extra.guards) ≡ true) (attacks_of c.cells soles) → extra_fault c soles first (lines_of (asked_of 0 c.cells) worlds) extra ≡ Ok tt
extra_passes c soles first flags worlds guards extra one_each each_first each start permitted within cells_are subjects_are needs guards_are primary are met =
    let lines : List WorldLine = lines_of (asked_of 0 c.cells) worlds in
    let one : cells_fault c.cells first 0 0 extra.cells ≡ Ok tt = ap (λ (l : List ℕ). cells_fault c.cells first 0 0 l) cells_are ∙ beside_pass c.cells first flags (length flags) each start permitted in
    let two : need_cells_fault c.cells soles 0 extra.cells extra.needs ≡ Ok tt = ap (λ (l : List ℕ). need_cells_fault c.cells soles 0 l extra.needs) subjects_are ∙ need_cells_pass c.cells soles 0 extra.needs (All-weaker (λ (need : ExtraNeed). IsAttack c.cells soles (attack_of need) × Unguards c soles (show flags need.subject) (attack_of need) need.multipliers) (λ (need : ExtraNeed). IsAttack c.cells soles (attack_of need)) (λ need both. both.0) extra.needs needs) in
    let set : hide_cells first extra.cells ≡ flags = ap (λ (l : List ℕ). hide_cells first l) cells_are ∙ hidden_beside first flags (each_first ∙ sym each) within in
    let three : needs_fault c soles flags 0 extra.needs ≡ Ok tt = needs_pass c soles flags 0 extra.needs one_each needs in
    let four : guard_cells_fault c.cells 0 0 extra.guards ≡ Ok tt = ap (λ (l : List WorldLine). guard_cells_fault c.cells 0 0 l) guards_are ∙ guard_cells_pass c.cells guards primary in
    let five : guards_fault c flags 0 extra.guards ≡ Ok tt = ap (λ (l : List WorldLine). guards_fault c flags 0 l) guards_are ∙ guards_pass c flags 0 (guards_in_order (asked_of 0 c.cells) guards) one_each (All-in_order (λ (line : WorldLine). IsGivenWorld c.system c.cells flags line.world) (asked_of 0 c.cells) guards are) in
    let six : attacks_fault c.cells soles (lines ++ extra.guards) (attacks_of c.cells soles) ≡ Ok tt = attacks_pass c.cells soles (lines ++ extra.guards) (attacks_of c.cells soles) met in
    let last : guarding_fault c soles flags lines extra ≡ Ok tt =
    then_ok (needs_fault c soles flags 0 extra.needs) (λ _. guard_cells_fault c.cells 0 0 extra.guards >>= λ _. guards_fault c flags 0 extra.guards >>= λ _. attacks_fault c.cells soles (lines ++ extra.guards) (attacks_of c.cells soles)) tt tt three
    (then_ok (guard_cells_fault c.cells 0 0 extra.guards) (λ _. guards_fault c flags 0 extra.guards >>= λ _. attacks_fault c.cells soles (lines ++ extra.guards) (attacks_of c.cells soles)) tt tt four
    (then_ok (guards_fault c flags 0 extra.guards) (λ _. attacks_fault c.cells soles (lines ++ extra.guards) (attacks_of c.cells soles)) tt tt five six)) in
    then_ok (cells_fault c.cells first 0 0 extra.cells) (λ _. need_cells_fault c.cells soles 0 extra.cells extra.needs >>= λ _. guarding_fault c soles (hide_cells first extra.cells) lines extra) tt tt one
    (then_ok (need_cells_fault c.cells soles 0 extra.cells extra.needs) (λ _. guarding_fault c soles (hide_cells first extra.cells) lines extra) tt tt two
    (ap (λ (f : List Bool). guarding_fault c soles f lines extra) set ∙ last))

-- what is left when all extra cells have been tried guards
pub guarded_by : (task : ContributorTask) (first : List Bool) (worlds : List World) (extra : Extra) → length first ≡ length task.cells.now → IsPermitted task.cells.now first → ProtectedSays task.system.now task.cells.now first worlds → task.attacks.now ≡ unserved_attacks task.cells.now task.soles.now worlds → IsNarrowed task first extra → IsGuardedBy (case_of task) task.soles.now first worlds extra
guarded_by task first worlds extra each_first start protected attacks_are_left is =
    let c : Case = case_of task in
    let soles : List (Option ℕ) = task.soles.now in
    let left : List Attack = task.attacks.now in
    let one_each : length c.cells ≡ c.system.cells = task.fits.one_each in
    let each : length is.flags ≡ length c.cells = omega (arith, is.each, one_each) in
    let cells_are : extra.cells ≡ cells_beside first is.flags (length is.flags) = is.cells_are ∙ is.tried.each_needed ∙ ap (λ n. cells_beside first is.flags n) (sym each) in
    let needs = All-weaker (IsNeedBelow (λ (n : ExtraNeed). n.subject) (IsNeedFor c soles left) is.flags is.larger (length c.cells)) (λ (need : ExtraNeed). IsAttack c.cells soles (attack_of need) × Unguards c soles (show is.flags need.subject) (attack_of need) need.multipliers)
    (λ need own. need_left c soles left is.flags is.larger (length c.cells) need task.fits.are_attacks is.tried.within own) extra.needs is.tried.are_needs in
    let lines : List WorldLine = lines_of (asked_of 0 c.cells) worlds in
    let thinned : IsThinned (IsServedBy c.cells soles worlds) (attacks_of c.cells soles) left = subst (λ (l : List Attack). IsThinned (IsServedBy c.cells soles worlds) (attacks_of c.cells soles) l) (sym attacks_are_left) (unserved_thinned c.cells soles worlds protected.count) in
    let Met : Attack → Type 0 = λ attack. is_served c.cells soles attack (lines ++ extra.guards) ≡ true in
    let met_left : All Met left = λ k d within.
    any_right (λ (line : WorldLine). serves c.cells soles (get_or left k d) line.world) lines extra.guards
    (subst (λ (l : List WorldLine). is_served c.cells soles (get_or left k d) l ≡ true) (sym is.guards_are) (any_in_order (λ (line : WorldLine). serves c.cells soles (get_or left k d) line.world) c.cells is.guards is.holds.are_lines (is.holds.served k d within))) in
    let met : All Met (attacks_of c.cells soles) =
    thinned_all (IsServedBy c.cells soles worlds) Met (attacks_of c.cells soles) left
    (λ attack own. any_left (λ (line : WorldLine). serves c.cells soles attack line.world) lines extra.guards (served_lines c.cells soles attack (asked_of 0 c.cells) worlds protected.count own.1)) thinned met_left in
    let passes_all : extra_fault c soles first lines extra ≡ Ok tt =
    extra_passes c soles first is.flags worlds is.guards extra one_each each_first each start is.permitted is.first_stays cells_are is.cells_are needs is.guards_are is.holds.are_lines is.holds.are_worlds met in
    let guarding : IsGuarding c soles first extra = accepted c soles first lines extra one_each (All-lines (λ (world : World). IsGivenWorld c.system c.cells first world) (asked_of 0 c.cells) worlds protected.are) passes_all in
    let set : hide_cells first extra.cells ≡ is.flags = ap (λ (l : List ℕ). hide_cells first l) cells_are ∙ hidden_beside first is.flags (each_first ∙ sym each) is.first_stays in
    record {
      accepted = passes_all;
      guarding = guarding;
      full_guards = all_guards_more c soles is.flags (full_set c.cells) (attacks_of c.cells soles) (in_full c.cells is.flags each is.permitted)
          (subst (λ (f : List Bool). GuardsAll c soles f (attacks_of c.cells soles)) set guarding.guards_all);
    }

-- the first set guards against all attacks that the worlds serve
pub left_out : (c : Case) (soles : List (Option ℕ)) (first : List Bool) (worlds : List World) → ProtectedSays c.system c.cells first worlds → IsLeftOut c soles first (IsServedBy c.cells soles worlds)
left_out c soles first worlds protected = record {
  guards = λ attack own. worlds_guard c soles first attack worlds own.0 protected.are own.1;
}

pub guarded : (task : ContributorTask) (first : List Bool) (worlds : List World) (found : Guarded) → length first ≡ length task.cells.now → IsPermitted task.cells.now first → ProtectedSays task.system.now task.cells.now first worlds → task.attacks.now ≡ unserved_attacks task.cells.now task.soles.now worlds → IsOutcome task first found → IsGuarded (case_of task) task.soles.now first worlds found
guarded task first worlds (guards.Guards extra) each start protected left is = guarded_by task first worlds extra each start protected left is
guarded task first worlds (guards.CannotAgainst row cell side m) each start protected left is =
    cannot_all (case_of task) task.soles.now first (IsServedBy task.cells.now task.soles.now worlds) (attacks_of task.cells.now task.soles.now) task.attacks.now (record { row = row; cell = cell; side = side })
    (subst (λ (l : List Attack). IsThinned (IsServedBy task.cells.now task.soles.now worlds) (attacks_of task.cells.now task.soles.now) l) (sym left) (unserved_thinned task.cells.now task.soles.now worlds protected.count))
    (left_out (case_of task) task.soles.now first worlds protected) (in_full task.cells.now first each start) m is

pub stopped : (task : ContributorTask) (first : List Bool) (worlds : List World) (stop : GuardStop) → ProtectedSays task.system.now task.cells.now first worlds → task.attacks.now ≡ unserved_attacks task.cells.now task.soles.now worlds → IsStopAsTold (case_of task) task.soles.now task.prices.now task.attacks.now first task.limit stop → IsStopAsTold (case_of task) task.soles.now task.prices.now (attacks_of task.cells.now task.soles.now) first task.limit stop
stopped task first worlds stop protected left is =
    stops_all (case_of task) task.soles.now task.prices.now first task.limit (IsServedBy task.cells.now task.soles.now worlds) (attacks_of task.cells.now task.soles.now) task.attacks.now stop.fault stop.against.row stop.against.extras stop.against.dropped
    (subst (λ (l : List Attack). IsThinned (IsServedBy task.cells.now task.soles.now worlds) (attacks_of task.cells.now task.soles.now) l) (sym left) (unserved_thinned task.cells.now task.soles.now worlds protected.count))
    (left_out (case_of task) task.soles.now first worlds protected) is

-- the answer is that the full set doesn't guard against an attack exactly where it doesn't guard against all
pub cannot_where : (c : Case) (soles : List (Option ℕ)) (flags : List Bool) (worlds : List World) (found : Guarded) → IsGuarded c soles flags worlds found → IsTrue (is_cannot found) ↔ ¬ GuardsAll c soles (full_set c.cells) (attacks_of c.cells soles)
cannot_where c soles flags worlds (guards.Guards extra) is = ((λ bad. absurd cc), (λ not_all. absurd (not_all is.full_guards)))
cannot_where c soles flags worlds (guards.CannotAgainst row cell side m) is = ((λ _ all. is.unguarded (here all)), (λ _. refl))
  where
    attack : Attack
    attack = record { row = row; cell = cell; side = side }

    here : GuardsAll c soles (full_set c.cells) (attacks_of c.cells soles) → Guards c soles (full_set c.cells) attack
    here all = subst (Guards c soles (full_set c.cells)) (get_or_from_slice_get (attacks_of c.cells soles) is.place attack attack is.stands) (all is.place attack (slice_get_within (attacks_of c.cells soles) is.place attack is.stands))
