-- Guards that hold against attacks.
use Rattle.std.proofs.Common.{◌≡◌, ℕ, zero, suc, ◌+◌, ◌<◌, ◌||◌, pos, Bool, true, false, List, [], ◌∷◌, ◌++◌, length, take, filter, get_or, slice_get, if◌then◌else◌, All, Option, Some, ap, sym, ◌∙◌, subst, arith}
use Rattle.std.specs.List.{list_any}
use Rattle.std.proofs.lemmas.List.{take_more}
use Rattle.std.proofs.lemmas.List.Elements.{All-nil, All-head, All-tail, All-cons, All-append, All-take}
use Rattle.std.proofs.lemmas.Option.{slice_get_within, get_or_from_slice_get}
use Rattle.sdc_base.specs.Signs.{AreSigns}
use Rattle.sdc_base.specs.declared.cell.Kind.TheVariants.{Primary}
use Rattle.worlds.specs.WorldFaults.{IsGivenWorld}
use Rattle.certificate.specs.declared.certificate.WorldLine.{WorldLine}
use Rattle.repair.specs.HidingOrder.{Case, IsOfKind}
use Rattle.repair.proofs.Flags.{IsWithin, by_test}
use Rattle.repair.proofs.Growing.{given_more}
use Rattle.attackers.specs.declared.attack.Attack.{Attack}
use Rattle.attackers.specs.KnownCells.{IsAttack, Guards, GuardsAll, GuardsBefore, serves, is_served}
use Rattle.attackers.specs.ContributorTasks.{HoldGuards}
use Rattle.attackers.specs.WholeGuards.{IsWholeGuard}
use Rattle.attackers.proofs.Knowing.{serving_guards}

-- ---- some of a list

pub any_left : {X : Type 0} (f : X → Bool) (xs ys : List X) → list_any f xs ≡ true → list_any f (xs ++ ys) ≡ true
any_left f [] ys is = absurd cc
any_left f (x ∷ xs) ys is =
    by_test (f x) ((f x || list_any f (xs ++ ys)) ≡ true)
    (λ here. ap (λ b. b || list_any f (xs ++ ys)) here)
    (λ there. ap (λ b. b || list_any f (xs ++ ys)) there ∙ any_left f xs ys (sym (ap (λ b. b || list_any f xs) there) ∙ is))

pub any_right : {X : Type 0} (f : X → Bool) (xs ys : List X) → list_any f ys ≡ true → list_any f (xs ++ ys) ≡ true
any_right f [] ys is = is
any_right f (x ∷ xs) ys is =
    by_test (f x) ((f x || list_any f (xs ++ ys)) ≡ true)
    (λ here. ap (λ b. b || list_any f (xs ++ ys)) here)
    (λ there. ap (λ b. b || list_any f (xs ++ ys)) there ∙ any_right f xs ys is)

pub any_one : {X : Type 0} (f : X → Bool) (x : X) → f x ≡ true → list_any f (x ∷ []) ≡ true
any_one f x is = ap (λ b. b || false) is

pub any_here : {X : Type 0} (f : X → Bool) (xs : List X) (i : ℕ) (x : X) → i < length xs → x ≡ get_or xs i x → f x ≡ true → list_any f xs ≡ true
any_here f [] i x within is test = absurd (omega (arith, within))
any_here f (y ∷ xs) zero x within is test = ap (λ z. f z || list_any f xs) (sym is) ∙ ap (λ b. b || list_any f xs) test
any_here f (y ∷ xs) (suc i) x within is test =
    by_test (f y) ((f y || list_any f xs) ≡ true)
    (λ here. ap (λ b. b || list_any f xs) here)
    (λ there. ap (λ b. b || list_any f xs) there ∙ any_here f xs i x (omega (arith, within)) is test)

-- ---- some of those that pass a test

pub any_passing : {X : Type 0} (test f : X → Bool) (xs : List X) (i : ℕ) (x : X) → i < length xs → x ≡ get_or xs i x → test x ≡ true → f x ≡ true → list_any f (filter test xs) ≡ true
any_passing test f [] i x within is one two = absurd (omega (arith, within))
any_passing test f (y ∷ xs) zero x within is one two =
    let here : test y ≡ true = ap test (sym is) ∙ one in
    rw here (ap (λ b. b || list_any f (filter test xs)) (ap f (sym is) ∙ two))
any_passing test f (y ∷ xs) (suc i) x within is one two =
    let rest : list_any f (filter test xs) ≡ true = any_passing test f xs i x (omega (arith, within)) is one two in
    elim (test y) as (λ b. list_any f (if b then y ∷ filter test xs else filter test xs) ≡ true) [
      | true ↦ by_test (f y) ((f y || list_any f (filter test xs)) ≡ true)
          (λ here. ap (λ b. b || list_any f (filter test xs)) here)
          (λ there. ap (λ b. b || list_any f (filter test xs)) there ∙ rest)
      | false ↦ rest
    ]

-- ---- guards

-- where some guard serves, the set guards
pub served_guards : (c : Case) (soles : List (Option ℕ)) (flags : List Bool) (attack : Attack) (guards : List WorldLine) → IsAttack c.cells soles attack → All (λ (line : WorldLine). IsGivenWorld c.system c.cells flags line.world) guards → is_served c.cells soles attack guards ≡ true → Guards c soles flags attack
served_guards c soles flags attack [] on worlds is = absurd cc
served_guards c soles flags attack (line ∷ guards) on worlds is =
    by_test (serves c.cells soles attack line.world) (Guards c soles flags attack)
    (λ here. serving_guards c soles flags attack line.world on (All-head (λ (l : WorldLine). IsGivenWorld c.system c.cells flags l.world) line guards worlds) here)
    (λ there. served_guards c soles flags attack guards on (All-tail (λ (l : WorldLine). IsGivenWorld c.system c.cells flags l.world) line guards worlds) (sym (ap (λ b. b || is_served c.cells soles attack guards) there) ∙ is))

-- guards that hold against attacks show that the set guards against them
pub held_guards : (c : Case) (soles : List (Option ℕ)) (flags : List Bool) (attacks : List Attack) (guards : List WorldLine) → All (IsAttack c.cells soles) attacks → HoldGuards c soles flags attacks guards → GuardsAll c soles flags attacks
held_guards c soles flags attacks guards are held =
    λ k d within. served_guards c soles flags (get_or attacks k d) guards (are k d within) held.are_worlds (held.served k d within)

pub held_before : (c : Case) (soles : List (Option ℕ)) (flags : List Bool) (attacks : List Attack) (place : ℕ) (guards : List WorldLine) → All (IsAttack c.cells soles) attacks → HoldGuards c soles flags (take place attacks) guards → GuardsBefore c soles flags attacks place
held_before c soles flags attacks place guards are held = held_guards c soles flags (take place attacks) guards (All-take (IsAttack c.cells soles) place attacks are) held

-- they hold for a larger set
pub held_more : (c : Case) (soles : List (Option ℕ)) (flags more : List Bool) (attacks : List Attack) (guards : List WorldLine) → IsWithin flags more → HoldGuards c soles flags attacks guards → HoldGuards c soles more attacks guards
held_more c soles flags more attacks guards within held = record {
  are_worlds = λ k d inside. given_more c.system c.cells flags more _ within (held.are_worlds k d inside);
  are_lines = held.are_lines;
  served = held.served;
  whole = held.whole;
}

take_one : {X : Type 0} (xs : List X) (place : ℕ) (x : X) → slice_get xs place ≡ Some x → take (place + 1) xs ≡ take place xs ++ x ∷ []
take_one {X = X} xs place x found = take_more xs place x (slice_get_within xs place x found) ∙ ap (λ (y : X). take place xs ++ y ∷ []) (get_or_from_slice_get xs place x x found)

-- they hold against one attack more, where some serves
pub held_next : (c : Case) (soles : List (Option ℕ)) (flags : List Bool) (attacks : List Attack) (place : ℕ) (attack : Attack) (guards : List WorldLine) → slice_get attacks place ≡ Some attack → is_served c.cells soles attack guards ≡ true → HoldGuards c soles flags (take place attacks) guards → HoldGuards c soles flags (take (place + 1) attacks) guards
held_next c soles flags attacks place attack guards stands is held = record {
  are_worlds = held.are_worlds;
  are_lines = held.are_lines;
  served = subst (λ (l : List Attack). All (λ (a : Attack). is_served c.cells soles a guards ≡ true) l) (sym (take_one attacks place attack stands))
      (All-append (λ (a : Attack). is_served c.cells soles a guards ≡ true) (take place attacks) (attack ∷ []) held.served
      (All-cons (λ (a : Attack). is_served c.cells soles a guards ≡ true) attack [] is (All-nil (λ (a : Attack). is_served c.cells soles a guards ≡ true))));
  whole = held.whole;
}

-- they hold with one guard more
pub held_with : (c : Case) (soles : List (Option ℕ)) (flags : List Bool) (attacks : List Attack) (guards : List WorldLine) (line : WorldLine) → IsGivenWorld c.system c.cells flags line.world → IsOfKind c.cells line.cell Primary → ((signs : List Bool) → AreSigns c.system.relations signs → line.world.den ≡ pos 1) → HoldGuards c soles flags attacks guards → HoldGuards c soles flags attacks (guards ++ line ∷ [])
held_with c soles flags attacks guards line is primary unit held = record {
  are_worlds = All-append (λ (l : WorldLine). IsGivenWorld c.system c.cells flags l.world) guards (line ∷ []) held.are_worlds (All-cons (λ (l : WorldLine). IsGivenWorld c.system c.cells flags l.world) line [] is (All-nil (λ (l : WorldLine). IsGivenWorld c.system c.cells flags l.world)));
  are_lines = All-append (λ (l : WorldLine). IsOfKind c.cells l.cell Primary) guards (line ∷ []) held.are_lines (All-cons (λ (l : WorldLine). IsOfKind c.cells l.cell Primary) line [] primary (All-nil (λ (l : WorldLine). IsOfKind c.cells l.cell Primary)));
  served = λ k d within. any_left (λ (l : WorldLine). serves c.cells soles (get_or attacks k d) l.world) guards (line ∷ []) (held.served k d within);
  whole = λ signs are. All-append IsWholeGuard guards (line ∷ []) (held.whole signs are) (All-cons IsWholeGuard line [] (unit signs are) (All-nil IsWholeGuard));
}

-- and against one attack more, where it is the one that serves
pub held_by_new : (c : Case) (soles : List (Option ℕ)) (flags : List Bool) (attacks : List Attack) (place : ℕ) (attack : Attack) (guards : List WorldLine) (line : WorldLine) → slice_get attacks place ≡ Some attack → IsGivenWorld c.system c.cells flags line.world → IsOfKind c.cells line.cell Primary → serves c.cells soles attack line.world ≡ true → ((signs : List Bool) → AreSigns c.system.relations signs → line.world.den ≡ pos 1) → HoldGuards c soles flags (take place attacks) guards → HoldGuards c soles flags (take (place + 1) attacks) (guards ++ line ∷ [])
held_by_new c soles flags attacks place attack guards line stands is primary does unit held =
    held_next c soles flags attacks place attack (guards ++ line ∷ []) stands
    (any_right (λ (l : WorldLine). serves c.cells soles attack l.world) guards (line ∷ []) (any_one (λ (l : WorldLine). serves c.cells soles attack l.world) line does))
    (held_with c soles flags (take place attacks) guards line is primary unit held)
