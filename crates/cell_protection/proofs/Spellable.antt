-- The certificate of a hidden set that protects has a text.
use Rattle.std.proofs.Common.{◌⊎◌, inl, inr, ◌||◌, ◌≡◌, ◌≢◌, ℕ, zero, suc, ◌+◌, ◌<◌, ◌≤◌, ◌==◌, nat_le, Bool, true, false, cond, List, [], ◌∷◌, filter, length, map, slice_get, slice_index, All, Some, ℤ, pos, refl, sym, ◌∙◌, subst, arith}
use Rattle.std.specs.List.{AllByRecursion, list_any, range_with_len}
use Rattle.std.proofs.lemmas.Bool.Decides.{Decides-eqb, nat_tests}
use Rattle.std.proofs.lemmas.List.Elements.{All-head, All-tail}
use Rattle.std.proofs.Math.Nat.{one-le-pow}
use Rattle.sdc_base.specs.HiddenSets.{is_hidden, hide}
use Rattle.sdc_base.specs.Forms.{Term}
use Rattle.sdc_base.specs.Systems.{Numbers}
use Rattle.sdc_base.specs.Worlds.{IsWorld}
use Rattle.sdc_base.specs.declared.cell.Cell.{Cell}
use Rattle.sdc_base.specs.declared.method.Method.{Method}
use Rattle.sdc_base.specs.declared.side.Side.{Side}
use Rattle.sdc_base.specs.declared.system.System.{System}
use Rattle.sdc_base.specs.declared.trail.PlanStep.{PlanStep}
use Rattle.linked_tables.specs.BookViews.{BookView}
use Rattle.worlds.specs.NumberLists.{Ascend, number_given, terms_of}
use Rattle.worlds.specs.ProtectFaults.{asked_of}
use Rattle.worlds.specs.Protection.{Protection}
use Rattle.worlds.specs.RefutationFaults.{IsGivenRefutation}
use Rattle.worlds.specs.WorldFaults.{IsGivenWorld}
use Rattle.worlds.specs.declared.refuted.Refuted.{Refuted}
use Rattle.worlds.specs.declared.world.Move.{Move}
use Rattle.worlds.specs.declared.world.World.{World}
use Rattle.worlds.proofs.Lists.{each_given}
use Rattle.worlds.proofs.TrueTests.{true_unless}
use Rattle.certificate.specs.Numerals.{ascends_from}
use Rattle.certificate.specs.Spelling.{IsRefutationSpellable, IsSpellable, IsStepSpellable, IsWorldSpellable}
use Rattle.modular_plan.specs.StepLaws.{IsWholeStep}
use Rattle.repair.specs.HidingOrder.{Case, protected_case}
use Rattle.repair.specs.KeptWorlds.{AreServed}
use Rattle.repair.specs.Repairs.{EachRepair, IsJustified}
use Rattle.repair.specs.Verdicts.{AreNeeds, IsProtected}
use Rattle.cell_protection.specs.Certifying.{certificate_made, hidden_numbers, world_lines}

-- ---- ascending numbers

le-true : (a b : ℕ) → a ≤ b → nat_le a b ≡ true
le-true a b h = grind (arith, nat_tests, h)

-- numbers that pass a test, in their order
filter-ascends : (test : ℕ → Bool) (least a n : ℕ) → least ≤ a → ascends_from least (filter test (range_with_len a n)) ≡ true
filter-ascends test least a zero h = refl
filter-ascends test least a (suc n) h = elim (test a) as (λ b. ascends_from least (cond b (a ∷ filter test (range_with_len (a + 1) n)) (filter test (range_with_len (a + 1) n))) ≡ true) [
  | true ↦ rw (le-true least a h) (filter-ascends test (a + 1) (a + 1) n (omega arith))
  | false ↦ filter-ascends test least (a + 1) n (omega (arith, h))
]

-- terms in their order
terms-ascend : (least : ℕ) (terms : List Term) → Ascend least terms → ascends_from least (map (λ term. term.0) terms) ≡ true
terms-ascend least [] h = refl
terms-ascend least (term ∷ terms) h = rw (le-true least term.0 h.0) (terms-ascend (term.0 + 1) terms h.1)

moves-ascend : (least : ℕ) (moves : List Move) → Ascend least (terms_of moves) → ascends_from least (map (λ one. one.cell) moves) ≡ true
moves-ascend least [] h = refl
moves-ascend least (one ∷ moves) h = rw (le-true least one.cell h.0) (moves-ascend (one.cell + 1) moves h.1)

-- strictly increasing numbers
rising-ascends : (least : ℕ) (numbers : List ℕ) → ((k : ℕ) → k + 1 < length numbers → slice_index numbers k < slice_index numbers (k + 1)) → (0 < length numbers → least ≤ slice_index numbers 0) → ascends_from least numbers ≡ true
rising-ascends least [] rises from = refl
rising-ascends least (n ∷ []) rises from = rw (le-true least n (from (omega arith))) refl
rising-ascends least (n ∷ m ∷ numbers) rises from =
    rw (le-true least n (from (omega arith)))
    (rising-ascends (n + 1) (m ∷ numbers) (λ k h. let same : suc k + 1 ≡ suc (k + 1) = omega arith in subst (λ j. slice_index (n ∷ m ∷ numbers) (suc k) < slice_index (n ∷ m ∷ numbers) j) same (rises (suc k) (omega (arith, h)))) (λ some. let less : n < m = rises 0 (omega arith) in omega (arith, less)))

-- ---- lists

by-all : {X : Type 0} (P : X → Type 0) (xs : List X) → All P xs → AllByRecursion P xs
by-all P [] all = tt
by-all P (x ∷ xs) all = (All-head P x xs all, by-all P xs (All-tail P x xs all))

-- ---- lines

-- no listed move is by 0
moves-move : (listed : List Move) → All (λ (t : Term). t.1 ≢ pos 0) (terms_of listed) → AllByRecursion (λ one. one.by ≢ pos 0) listed
moves-move [] counts = tt
moves-move (one ∷ listed) counts =
    let Counts : Term → Type 0 = λ t. t.1 ≢ pos 0 in
    (All-head Counts (one.cell, one.by) (terms_of listed) counts, moves-move listed (All-tail Counts (one.cell, one.by) (terms_of listed) counts))

refutation-spelled : (system : System) (cells : List Cell) (flags : List Bool) (refuted : Refuted) → IsGivenRefutation system cells flags refuted.cell refuted.side refuted.multipliers → IsRefutationSpellable refuted
refutation-spelled system cells flags refuted is = record {
  den = is.is_refutation.q_positive;
  ascending = terms-ascend 0 refuted.multipliers.by_relation is.listed.ascending;
  counting = by-all (λ term. term.1 ≢ pos 0) refuted.multipliers.by_relation is.listed.counting;
}

repairs-spelled : (c : Case) (flags : List Bool) (repairs : List Refuted) → EachRepair (IsJustified c) flags repairs → AllByRecursion IsRefutationSpellable repairs
repairs-spelled c flags [] are = tt
repairs-spelled c flags (repair ∷ repairs) are = (refutation-spelled c.system c.cells flags repair are.0.refutes, repairs-spelled c (hide flags repair.subject) repairs are.1)

-- what is at a place of a list
get-at : {X : Type 0} (P : X → Type 0) (xs : List X) (k : ℕ) (x : X) → slice_get xs k ≡ Some x → All P xs → (k < length xs) × P x
get-at P [] k x is all = absurd cc
get-at P (y ∷ xs) zero x is all = let same : y ≡ x = cc in (omega arith, subst P same (All-head P y xs all))
get-at P (y ∷ xs) (suc k) x is all = let rest = get-at P xs k x is (All-tail P y xs all) in (omega (arith, rest.0), rest.1)

step-spelled : (book : BookView) (cells : List Cell) (step : PlanStep) → length book.tables ≤ 8 → All (λ table. (1 ≤ length table) × (length table ≤ 8)) book.tables → IsWholeStep book cells step → IsStepSpellable step
step-spelled book cells step few narrow whole =
    let at = get-at (λ table. (1 ≤ length table) × (length table ≤ 8)) book.tables step.table whole.variables whole.table narrow in
    let corners : 1 ≤ length step.corners = subst (λ n. 1 ≤ n) (sym whole.all) (one-le-pow (length whole.variables) 2 (omega arith)) in
    record {
      table = omega (arith, at.0, few);
      has_parent = omega (arith, whole.parents, at.1.0);
      at_most_8_parents = omega (arith, whole.parents, at.1.1);
      has_corner = corners;
      ascending = rising-ascends 0 step.corners whole.ascending (λ some. omega arith);
    }

steps-spelled : (book : BookView) (cells : List Cell) (steps : List PlanStep) → length book.tables ≤ 8 → All (λ table. (1 ≤ length table) × (length table ≤ 8)) book.tables → AllByRecursion (IsWholeStep book cells) steps → AllByRecursion IsStepSpellable steps
steps-spelled book cells [] few narrow whole = tt
steps-spelled book cells (step ∷ steps) few narrow whole = (step-spelled book cells step few narrow whole.0, steps-spelled book cells steps few narrow whole.1)

worlds-spelled : (c : Case) (flags : List Bool) (asked : List (ℕ × Side)) (worlds : List World) → AreServed c flags asked worlds → AllByRecursion IsWorldSpellable (world_lines asked worlds)
worlds-spelled c flags [] worlds served = tt
worlds-spelled c flags (one ∷ asked) [] served = tt
worlds-spelled c flags (one ∷ asked) (world ∷ worlds) served = (
  record {
    den = served.0.is_world.is_world.positive;
    ascending = moves-ascend 0 world.moves served.0.is_world.listed.ascending;
    moving = moves-move world.moves served.0.is_world.listed.counting;
  },
  worlds-spelled c flags asked worlds served.1,
)

-- the certificate of a hidden set that protects has a text
pub spellable : (book : BookView) (method : Method) (system : System) (cells : List Cell) (prices : List ℕ) (planned larger : List Bool) (protected : Protection) (steps : List PlanStep) (repairs needs : List Refuted)
    → length book.tables ≤ 8 → All (λ table. (1 ≤ length table) × (length table ≤ 8)) book.tables → AllByRecursion (IsWholeStep book cells) steps
    → IsProtected (protected_case system cells) prices planned protected repairs → AreNeeds (protected_case system cells) protected.hidden.flags larger needs → IsSpellable (certificate_made method system cells protected steps repairs needs)
spellable book method system cells prices planned larger protected steps repairs needs few narrow whole is are = record {
  hidden = filter-ascends (is_hidden protected.hidden.flags) 0 0 system.cells (omega arith);
  steps = steps-spelled book cells steps few narrow whole;
  repairs = repairs-spelled (protected_case system cells) planned repairs is.are_repairs.justified;
  needs = by-all IsRefutationSpellable needs (λ k d within. refutation-spelled system cells _ _ (are.are_needs k d within).refutes);
  worlds = worlds-spelled (protected_case system cells) protected.hidden.flags (asked_of 0 cells) protected.worlds is.served;
}
