-- Guards in the order of what is asked, and worlds as lines.
use Rattle.std.proofs.Common.{◌≡◌, ℕ, zero, suc, ◌+◌, ◌*◌, ◌<◌, ◌≤◌, ◌==◌, ◌&&◌, ◌||◌, not, nat_le, Bool, true, false, List, [], ◌∷◌, ◌++◌, length, filter, flat_map, get_or, slice_get, All, Option, Some, Result, Ok, Err, refl, ap, sym, ◌∙◌, subst, arith, if◌then◌else◌}
use Rattle.std.specs.List.{list_any}
use Rattle.std.proofs.lemmas.Bool.Decides.{Decides-eqb, nat_tests}
use Rattle.std.proofs.lemmas.List.Elements.{All-nil, All-cons, All-head, All-tail, All-append, All-filter}
use Rattle.sdc_base.specs.Steps.{◌>>=◌, refuse, map_fault}
use Rattle.sdc_base.proofs.StepLemmas.{bind_ok}
use Rattle.sdc_base.specs.Kinds.{is_primary, is_primary_at}
use Rattle.sdc_base.specs.declared.cell.Cell.{Cell}
use Rattle.sdc_base.specs.declared.cell.Kind.TheVariants.{Primary}
use Rattle.sdc_base.specs.declared.side.Side.{Side}
use Rattle.sdc_base.specs.declared.side.Side.TheVariants.{Above, Below}
use Rattle.sdc_base.specs.declared.system.System.{System}
use Rattle.worlds.specs.declared.faults.ProtectFault.{ProtectFault}
use Rattle.worlds.specs.declared.faults.ProtectFault.TheVariants as protect
use Rattle.worlds.specs.declared.world.World.{World}
use Rattle.worlds.specs.ProtectFaults.{asked_of, is_reaching, line_number, line_fault, lines_fault, primary_shown, fixed_hidden, protect_fault}
use Rattle.worlds.specs.WorldFaults.{refuse_at, world_fault, IsGivenWorld}
use Rattle.worlds.proofs.WorldLaws.{not_refused, then_ok, passes, world_law}
use Rattle.certificate.specs.declared.certificate.WorldLine.{WorldLine}
use Rattle.repair.specs.HidingOrder.{Case, IsOfKind}
use Rattle.repair.specs.Laws.{rank}
use Rattle.repair.proofs.Flags.{by_test}
use Rattle.repair.proofs.Sayings.{questions_are_in_order}
use Rattle.attackers.specs.declared.attack.Attack.{Attack}
use Rattle.attackers.specs.declared.faults.ExtraFault.TheVariants as fault
use Rattle.attackers.specs.KnownCells.{serves, is_served, IsAttack, Guards}
use Rattle.attackers.specs.ExtraFaults.{rank_of, may_be_guard, guard_cells_fault, guards_fault, open_fault, attacks_fault}
use Rattle.attackers.specs.Guarding.{is_for, guards_in_order, lines_of}
use Rattle.repair.proofs.Order.{primary_by}
use Rattle.attackers.proofs.Holding.{any_left, any_right, any_passing}
use Rattle.attackers.proofs.Knowing.{serving_guards}

-- ---- order

-- the cells and sides stand in order, the first not before this one
abbrev AscendRanks : ℕ → List (ℕ × Side) → Type 0
AscendRanks least [] = Unit {0}
AscendRanks least (asked ∷ more) = (least ≤ rank asked) × AscendRanks (rank asked) more

asked_ascend : (number least : ℕ) (cells : List Cell) → least ≤ 2 * number → AscendRanks least (asked_of number cells)
asked_ascend number least [] below = tt
asked_ascend number least (cell ∷ cells) below =
    elim (is_primary cell.kind) as (λ b. AscendRanks least (if b then (number, Above) ∷ (number, Below) ∷ asked_of (number + 1) cells else asked_of (number + 1) cells)) [
      | true ↦ (below, (omega arith, asked_ascend (number + 1) (2 * number + 1) cells (omega arith)))
      | false ↦ asked_ascend (number + 1) least cells (omega (arith, below))
    ]

ascend_weaker : (least more : ℕ) (asked : List (ℕ × Side)) → least ≤ more → AscendRanks more asked → AscendRanks least asked
ascend_weaker least more [] below is = tt
ascend_weaker least more (one ∷ asked) below is = (omega (arith, below, is.0), is.1)

guards_front : (cells : List Cell) (k least : ℕ) (asked : ℕ × Side) (guards rest : List WorldLine) → least ≤ rank asked → All (λ (line : WorldLine). IsOfKind cells line.cell Primary) guards → ((n first : ℕ) → first ≤ rank asked → guard_cells_fault cells n first rest ≡ Ok tt) → guard_cells_fault cells k least (filter (is_for asked) guards ++ rest) ≡ Ok tt
guards_front cells k least asked [] rest below primary onward = onward k least below
guards_front cells k least asked (line ∷ guards) rest below primary onward =
    elim (is_for asked line) as (λ b. is_for asked line ≡ b → guard_cells_fault cells k least ((if b then line ∷ filter (is_for asked) guards else filter (is_for asked) guards) ++ rest) ≡ Ok tt) [
      | true ↦ λ is.
          let same : rank_of line ≡ rank asked = (Decides-eqb (rank_of line) (rank asked)).0 is in
          let may : may_be_guard cells least line ≡ true = may_here (primary_by cells line.cell (All-head (λ (l : WorldLine). IsOfKind cells l.cell Primary) line guards primary)) (grind (arith, nat_tests, below, same)) in
          then_ok (refuse (fault.GuardCell k) (not (may_be_guard cells least line))) (λ _. guard_cells_fault cells (k + 1) (rank_of line) (filter (is_for asked) guards ++ rest)) tt tt
          (passes (fault.GuardCell k) (not (may_be_guard cells least line)) (ap not may))
          (guards_front cells (k + 1) (rank_of line) asked guards rest (omega (arith, same)) (All-tail (λ (l : WorldLine). IsOfKind cells l.cell Primary) line guards primary) onward)
      | false ↦ λ is. guards_front cells k least asked guards rest below (All-tail (λ (l : WorldLine). IsOfKind cells l.cell Primary) line guards primary) onward
    ] refl
  where
    may_here : is_primary_at cells line.cell ≡ true → nat_le least (rank_of line) ≡ true → may_be_guard cells least line ≡ true
    may_here one two = ap (λ b. b && nat_le least (rank_of line)) one ∙ two

order_passes : (cells : List Cell) (k least : ℕ) (asked : List (ℕ × Side)) (guards : List WorldLine) → AscendRanks least asked → All (λ (line : WorldLine). IsOfKind cells line.cell Primary) guards → guard_cells_fault cells k least (guards_in_order asked guards) ≡ Ok tt
order_passes cells k least [] guards ascend primary = refl
order_passes cells k least (one ∷ asked) guards ascend primary =
    guards_front cells k least one guards (guards_in_order asked guards) ascend.0 primary
    (λ n first below. order_passes cells n first asked guards (ascend_weaker first (rank one) asked below ascend.1) primary)

-- guards in the order of what is asked are in order
pub guard_cells_pass : (cells : List Cell) (guards : List WorldLine) → All (λ (line : WorldLine). IsOfKind cells line.cell Primary) guards → guard_cells_fault cells 0 0 (guards_in_order (asked_of 0 cells) guards) ≡ Ok tt
guard_cells_pass cells guards primary = order_passes cells 0 0 (asked_of 0 cells) guards (asked_ascend 0 0 cells (omega arith)) primary

-- ---- worlds

pub All-in_order : (P : WorldLine → Type 0) (asked : List (ℕ × Side)) (guards : List WorldLine) → All P guards → All P (guards_in_order asked guards)
All-in_order P [] guards all = All-nil P
All-in_order P (one ∷ asked) guards all =
    All-append P (filter (is_for one) guards) (guards_in_order asked guards) (All-filter (is_for one) P guards all) (All-in_order P asked guards all)

pub guards_pass : (c : Case) (flags : List Bool) (k : ℕ) (guards : List WorldLine) → length c.cells ≡ c.system.cells → All (λ (line : WorldLine). IsGivenWorld c.system c.cells flags line.world) guards → guards_fault c flags k guards ≡ Ok tt
guards_pass c flags k [] one_each are = refl
guards_pass c flags k (line ∷ guards) one_each are =
    let fine : world_fault c.system c.cells flags line.world ≡ Ok tt = (world_law c.system c.cells flags line.world one_each).1 (All-head (λ (l : WorldLine). IsGivenWorld c.system c.cells flags l.world) line guards are) in
    then_ok (map_fault (fault.Guard k) (world_fault c.system c.cells flags line.world)) (λ _. guards_fault c flags (k + 1) guards) tt tt
    (ap (map_fault (fault.Guard k)) fine) (guards_pass c flags (k + 1) guards one_each (All-tail (λ (l : WorldLine). IsGivenWorld c.system c.cells flags l.world) line guards are))

-- ---- what serves

pub attacks_pass : (cells : List Cell) (soles : List (Option ℕ)) (lines : List WorldLine) (attacks : List Attack) → All (λ (attack : Attack). is_served cells soles attack lines ≡ true) attacks → attacks_fault cells soles lines attacks ≡ Ok tt
attacks_pass cells soles lines [] met = refl
attacks_pass cells soles lines (attack ∷ attacks) met =
    then_ok (refuse (open_fault attack) (not (is_served cells soles attack lines))) (λ _. attacks_fault cells soles lines attacks) tt tt
    (passes (open_fault attack) (not (is_served cells soles attack lines)) (ap not (All-head (λ (a : Attack). is_served cells soles a lines ≡ true) attack attacks met)))
    (attacks_pass cells soles lines attacks (All-tail (λ (a : Attack). is_served cells soles a lines ≡ true) attack attacks met))

-- where one of a list passes a test
record FoundWhere {X : Type 0} (f : X → Bool) (xs : List X) : Type 0 where
  pub place : ℕ
  pub item : X
  pub within : place < length xs
  pub is : item ≡ get_or xs place item
  pub test : f item ≡ true

any_where : {X : Type 0} (f : X → Bool) (xs : List X) → list_any f xs ≡ true → FoundWhere f xs
any_where f [] any = absurd cc
any_where f (x ∷ xs) any =
    by_test (f x) (FoundWhere f (x ∷ xs)) (λ here. record { place = 0; item = x; within = omega arith; is = refl; test = here })
    (λ there.
    let rest : FoundWhere f xs = any_where f xs (sym (ap (λ b. b || list_any f xs) there) ∙ any) in
    record { place = suc rest.place; item = rest.item; within = omega (arith, rest.within); is = rest.is; test = rest.test })

any_flat : {X Y : Type 0} (f : Y → Bool) (g : X → List Y) (xs : List X) (place : ℕ) (x : X) → slice_get xs place ≡ Some x → list_any f (g x) ≡ true → list_any f (flat_map g xs) ≡ true
any_flat f g [] place x found any = absurd cc
any_flat f g (y ∷ xs) zero x found any = let same : y ≡ x = cc in any_left f (g y) (flat_map g xs) (subst (λ z. list_any f (g z) ≡ true) (sym same) any)
any_flat f g (y ∷ xs) (suc place) x found any = any_right f (g y) (flat_map g xs) (any_flat f g xs place x found any)

-- what serves among guards serves among them in the order of what is asked
pub any_in_order : (f : WorldLine → Bool) (cells : List Cell) (guards : List WorldLine) → All (λ (line : WorldLine). IsOfKind cells line.cell Primary) guards → list_any f guards ≡ true → list_any f (guards_in_order (asked_of 0 cells) guards) ≡ true
any_in_order f cells guards primary any =
    let found : FoundWhere f guards = any_where f guards any in
    let line : WorldLine = found.item in
    let own : IsOfKind cells line.cell Primary = subst (λ (l : WorldLine). IsOfKind cells l.cell Primary) (sym found.is) (primary found.place line found.within) in
    let stands = (questions_are_in_order cells).each line.cell line.side own in
    let here : is_for (line.cell, line.side) line ≡ true = (Decides-eqb (rank_of line) (rank (line.cell, line.side))).1 refl in
    any_flat f (λ one. filter (is_for one) guards) (asked_of 0 cells) stands.0 (line.cell, line.side) stands.1
    (any_passing (is_for (line.cell, line.side)) f guards found.place line found.within found.is here found.test)

-- what serves among worlds serves among their lines
pub served_lines : (cells : List Cell) (soles : List (Option ℕ)) (attack : Attack) (asked : List (ℕ × Side)) (worlds : List World) → length worlds ≡ length asked → list_any (serves cells soles attack) worlds ≡ true → is_served cells soles attack (lines_of asked worlds) ≡ true
served_lines cells soles attack [] [] count any = any
served_lines cells soles attack [] (world ∷ worlds) count any = absurd (omega (arith, count))
served_lines cells soles attack (one ∷ asked) [] count any = absurd (omega (arith, count))
served_lines cells soles attack (one ∷ asked) (world ∷ worlds) count any =
    by_test (serves cells soles attack world) ((serves cells soles attack world || is_served cells soles attack (lines_of asked worlds)) ≡ true)
    (λ here. ap (λ b. b || is_served cells soles attack (lines_of asked worlds)) here)
    (λ there. ap (λ b. b || is_served cells soles attack (lines_of asked worlds)) there ∙ served_lines cells soles attack asked worlds (omega (arith, count)) (sym (ap (λ b. b || list_any (serves cells soles attack) worlds) there) ∙ any))

pub All-lines : (P : World → Type 0) (asked : List (ℕ × Side)) (worlds : List World) → All P worlds → All (λ (line : WorldLine). P line.world) (lines_of asked worlds)
All-lines P [] worlds all = All-nil (λ (line : WorldLine). P line.world)
All-lines P (one ∷ asked) [] all = All-nil (λ (line : WorldLine). P line.world)
All-lines P (one ∷ asked) (world ∷ worlds) all =
    All-cons (λ (line : WorldLine). P line.world) (record { cell = one.0; side = one.1; world = world }) (lines_of asked worlds) (All-head P world worlds all) (All-lines P asked worlds (All-tail P world worlds all))

-- where some world serves, the set guards
pub worlds_guard : (c : Case) (soles : List (Option ℕ)) (flags : List Bool) (attack : Attack) (worlds : List World) → IsAttack c.cells soles attack → All (λ (world : World). IsGivenWorld c.system c.cells flags world) worlds → list_any (serves c.cells soles attack) worlds ≡ true → Guards c soles flags attack
worlds_guard c soles flags attack [] on are any = absurd cc
worlds_guard c soles flags attack (world ∷ worlds) on are any =
    by_test (serves c.cells soles attack world) (Guards c soles flags attack)
    (λ here. serving_guards c soles flags attack world on (All-head (λ (w : World). IsGivenWorld c.system c.cells flags w) world worlds are) here)
    (λ there. worlds_guard c soles flags attack worlds on (All-tail (λ (w : World). IsGivenWorld c.system c.cells flags w) world worlds are) (sym (ap (λ b. b || list_any (serves c.cells soles attack) worlds) there) ∙ any))

-- ---- the worlds of a protection

fault_seen : {F G : Type 0} (view : F → G) (r : Result (Unit {0}) F) → map_fault view r ≡ Ok tt → r ≡ Ok tt
fault_seen view (Ok tt) ok = refl
fault_seen view (Err e) ok = absurd cc

worlds_of : (system : System) (cells : List Cell) (flags : List Bool) (line : ℕ) (asked : List (ℕ × Side)) (worlds : List World) → length cells ≡ system.cells → length worlds ≡ length asked → lines_fault system cells flags line asked worlds ≡ Ok tt → All (λ (world : World). IsGivenWorld system cells flags world) worlds
worlds_of system cells flags line asked [] one_each count ok = All-nil (λ (world : World). IsGivenWorld system cells flags world)
worlds_of system cells flags line [] (world ∷ worlds) one_each count ok = absurd (omega (arith, count))
worlds_of system cells flags line (one ∷ asked) (world ∷ worlds) one_each count ok =
    let parts = bind_ok (line_fault system cells flags line one world) (λ _. lines_fault system cells flags (line + 1) asked worlds) tt ok in
    let first = bind_ok (map_fault (protect.World (line_number line)) (world_fault system cells flags world)) (λ _. refuse (protect.NotReached one.0 one.1) (not (is_reaching cells one world))) tt parts.1 in
    All-cons (λ (w : World). IsGivenWorld system cells flags w) world worlds
    ((world_law system cells flags world one_each).0 (fault_seen (protect.World (line_number line)) (world_fault system cells flags world) first.1))
    (worlds_of system cells flags (line + 1) asked worlds one_each (omega (arith, count)) parts.2)

-- as many as are asked about, and worlds for the hidden set
pub record ProtectedSays (system : System) (cells : List Cell) (flags : List Bool) (worlds : List World) : Type 0 where
  pub count : length worlds ≡ length (asked_of 0 cells)
  pub are : All (λ (world : World). IsGivenWorld system cells flags world) worlds

pub protected_says : (system : System) (cells : List Cell) (flags : List Bool) (worlds : List World) → length cells ≡ system.cells → protect_fault system cells flags worlds ≡ Ok tt → ProtectedSays system cells flags worlds
protected_says system cells flags worlds one_each ok =
    let asked : List (ℕ × Side) = asked_of 0 cells in
    let last : Result (Unit {0}) ProtectFault = lines_fault system cells flags 0 asked worlds in
    let one = bind_ok (refuse_at protect.PrimaryShown (primary_shown flags 0 cells)) (λ _. refuse_at protect.FixedHidden (fixed_hidden flags 0 cells) >>= λ _. refuse protect.Count (not (length worlds == length asked)) >>= λ _. last) tt ok in
    let two = bind_ok (refuse_at protect.FixedHidden (fixed_hidden flags 0 cells)) (λ _. refuse protect.Count (not (length worlds == length asked)) >>= λ _. last) tt one.2 in
    let three = bind_ok (refuse protect.Count (not (length worlds == length asked))) (λ _. last) tt two.2 in
    let test : (length worlds == length asked) ≡ true = not_false (length worlds == length asked) (not_refused protect.Count (not (length worlds == length asked)) three.1) in
    let count : length worlds ≡ length asked = (Decides-eqb (length worlds) (length asked)).0 test in
    record { count = count; are = worlds_of system cells flags 0 asked worlds one_each count three.2 }
  where
    not_false : (a : Bool) → not a ≡ false → a ≡ true
    not_false true is = refl
    not_false false is = absurd cc
