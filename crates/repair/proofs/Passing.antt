-- Worlds that serve all that is asked have no fault.
use Rattle.std.proofs.Common.{◌≡◌, ℕ, suc, ◌+◌, ◌==◌, ◌&&◌, not, Bool, true, false, List, [], ◌∷◌, length, None, Some, Ok, slice_get, refl, ap, subst, arith, if◌then◌else◌}
use Rattle.std.proofs.lemmas.Bool.Decides.{Decides-eqb}
use Rattle.sdc_base.specs.Kinds.{is_primary, is_fixed}
use Rattle.sdc_base.specs.Steps.{◌>>=◌, refuse, map_fault}
use Rattle.sdc_base.specs.declared.cell.Cell.{Cell}
use Rattle.sdc_base.specs.declared.cell.Kind.{Kind}
use Rattle.sdc_base.specs.declared.cell.Kind.TheVariants.{Primary, Free, Fixed}
use Rattle.sdc_base.specs.declared.side.Side.{Side}
use Rattle.sdc_base.specs.HiddenSets.{is_hidden, IsPermitted}
use Rattle.worlds.specs.declared.faults.ProtectFault.TheVariants as fault
use Rattle.worlds.specs.declared.world.World.{World}
use Rattle.worlds.specs.WorldFaults.{refuse_at, world_fault}
use Rattle.worlds.specs.ProtectFaults.{primary_shown, fixed_hidden, asked_of, is_reaching, line_number, line_fault, lines_fault, protect_fault}
use Rattle.worlds.proofs.WorldLaws.{then_ok, passes, passes_none, world_law}
use Rattle.repair.specs.HidingOrder.{Case}
use Rattle.repair.specs.KeptWorlds.{IsServing, AreServed}
use Rattle.repair.proofs.Growing.{served_length}
use Rattle.repair.proofs.Order.{primary_is}

fixed_is : (kind : Kind) → is_fixed kind ≡ true → kind ≡ Fixed
fixed_is Primary is = absurd cc
fixed_is Free is = absurd cc
fixed_is Fixed is = refl

none_shown : (flags : List Bool) (number : ℕ) (cells : List Cell) → ((i : ℕ) (cell : Cell) → slice_get cells i ≡ Some cell → cell.kind ≡ Primary → is_hidden flags (number + i) ≡ true) → primary_shown flags number cells ≡ None
none_shown flags number [] each = refl
none_shown flags number (one ∷ cells) each =
    let rest : primary_shown flags (number + 1) cells ≡ None =
    none_shown flags (number + 1) cells (λ i cell found is. let same : number + suc i ≡ number + 1 + i = omega arith in subst (λ n. is_hidden flags n ≡ true) same (each (suc i) cell found is)) in
    elim (is_primary one.kind) as (λ b. is_primary one.kind ≡ b → (if b && not (is_hidden flags number) then Some number else primary_shown flags (number + 1) cells) ≡ None) [
      | true ↦ λ is.
          let same : number + 0 ≡ number = omega arith in
          let hidden : is_hidden flags number ≡ true = subst (λ n. is_hidden flags n ≡ true) same (each 0 one refl (primary_is one.kind is)) in
          rw hidden rest
      | false ↦ λ is. rest
    ] refl

none_hidden : (flags : List Bool) (number : ℕ) (cells : List Cell) → ((i : ℕ) (cell : Cell) → slice_get cells i ≡ Some cell → cell.kind ≡ Fixed → is_hidden flags (number + i) ≡ false) → fixed_hidden flags number cells ≡ None
none_hidden flags number [] each = refl
none_hidden flags number (one ∷ cells) each =
    let rest : fixed_hidden flags (number + 1) cells ≡ None =
    none_hidden flags (number + 1) cells (λ i cell found is. let same : number + suc i ≡ number + 1 + i = omega arith in subst (λ n. is_hidden flags n ≡ false) same (each (suc i) cell found is)) in
    elim (is_fixed one.kind) as (λ b. is_fixed one.kind ≡ b → (if b && is_hidden flags number then Some number else fixed_hidden flags (number + 1) cells) ≡ None) [
      | true ↦ λ is.
          let same : number + 0 ≡ number = omega arith in
          let shown : is_hidden flags number ≡ false = subst (λ n. is_hidden flags n ≡ false) same (each 0 one refl (fixed_is one.kind is)) in
          rw shown rest
      | false ↦ λ is. rest
    ] refl

line_passes : (c : Case) (flags : List Bool) (line : ℕ) (asked : ℕ × Side) (world : World) → length c.cells ≡ c.system.cells → IsServing c flags asked world → line_fault c.system c.cells flags line asked world ≡ Ok tt
line_passes c flags line asked world one_each is =
    let none : world_fault c.system c.cells flags world ≡ Ok tt = (world_law c.system c.cells flags world one_each).1 is.is_world in
    then_ok (map_fault (fault.World (line_number line)) (world_fault c.system c.cells flags world)) (λ _. refuse (fault.NotReached asked.0 asked.1) (not (is_reaching c.cells asked world))) tt tt
    (ap (map_fault (fault.World (line_number line))) none) (passes (fault.NotReached asked.0 asked.1) (not (is_reaching c.cells asked world)) (ap not is.reaching))

lines_pass : (c : Case) (flags : List Bool) (line : ℕ) (asked : List (ℕ × Side)) (worlds : List World) → length c.cells ≡ c.system.cells → AreServed c flags asked worlds → lines_fault c.system c.cells flags line asked worlds ≡ Ok tt
lines_pass c flags line [] worlds one_each are = refl
lines_pass c flags line (one ∷ asked) [] one_each are = refl
lines_pass c flags line (one ∷ asked) (world ∷ worlds) one_each are =
    then_ok (line_fault c.system c.cells flags line one world) (λ _. lines_fault c.system c.cells flags (line + 1) asked worlds) tt tt
    (line_passes c flags line one world one_each are.0) (lines_pass c flags (line + 1) asked worlds one_each are.1)

-- worlds that serve all that is asked have no fault for a permitted set
pub served_pass : (c : Case) (flags : List Bool) (worlds : List World) → length c.cells ≡ c.system.cells → IsPermitted c.cells flags → AreServed c flags (asked_of 0 c.cells) worlds → protect_fault c.system c.cells flags worlds ≡ Ok tt
served_pass c flags worlds one_each permitted are =
    let asked : List (ℕ × Side) = asked_of 0 c.cells in
    let zero_first : (P : ℕ → Type 0) (n : ℕ) → P n → P (0 + n) = λ P n h. let same : n ≡ 0 + n = omega arith in subst P same h in
    let first : primary_shown flags 0 c.cells ≡ None = none_shown flags 0 c.cells (λ i cell found is. zero_first (λ n. is_hidden flags n ≡ true) i (permitted.primary_hidden i cell found is)) in
    let second : fixed_hidden flags 0 c.cells ≡ None = none_hidden flags 0 c.cells (λ i cell found is. zero_first (λ n. is_hidden flags n ≡ false) i (permitted.fixed_shown i cell found is)) in
    let count : (length worlds == length asked) ≡ true = (Decides-eqb (length worlds) (length asked)).1 (served_length c flags asked worlds are) in
    then_ok (refuse_at fault.PrimaryShown (primary_shown flags 0 c.cells)) (λ _. refuse_at fault.FixedHidden (fixed_hidden flags 0 c.cells) >>= λ _. refuse fault.Count (not (length worlds == length asked)) >>= λ _. lines_fault c.system c.cells flags 0 asked worlds) tt tt
    (passes_none fault.PrimaryShown (primary_shown flags 0 c.cells) first)
    (then_ok (refuse_at fault.FixedHidden (fixed_hidden flags 0 c.cells)) (λ _. refuse fault.Count (not (length worlds == length asked)) >>= λ _. lines_fault c.system c.cells flags 0 asked worlds) tt tt
    (passes_none fault.FixedHidden (fixed_hidden flags 0 c.cells) second)
    (then_ok (refuse fault.Count (not (length worlds == length asked))) (λ _. lines_fault c.system c.cells flags 0 asked worlds) tt tt
    (passes fault.Count (not (length worlds == length asked)) (ap not count))
    (lines_pass c flags 0 asked worlds one_each are)))
