-- Extra cells without a fault have a text.
use Rattle.std.proofs.Common.{◌≡◌, ◌≢◌, ℕ, ◌+◌, ◌≤◌, nat_le, ◌&&◌, not, Bool, true, List, [], ◌∷◌, ◌++◌, map, All, Option, Ok, pos, refl, arith}
use Rattle.std.specs.List.{AllByRecursion}
use Rattle.std.proofs.lemmas.Bool.Decides.{nat_tests}
use Rattle.std.proofs.lemmas.List.Elements.{All-head, All-tail, recursion_from_All}
use Rattle.sdc_base.specs.Forms.{Term}
use Rattle.sdc_base.specs.Steps.{◌>>=◌, refuse}
use Rattle.sdc_base.proofs.StepLemmas.{bind_ok}
use Rattle.sdc_base.specs.HiddenSets.{is_hidden, hide_cells}
use Rattle.sdc_base.specs.declared.cell.Cell.{Cell}
use Rattle.worlds.specs.NumberLists.{Ascend, terms_of}
use Rattle.worlds.specs.ProtectFaults.{line_number}
use Rattle.worlds.specs.WorldFaults.{IsGivenWorld}
use Rattle.worlds.specs.declared.world.Move.{Move}
use Rattle.worlds.proofs.TrueTests.{and_true}
use Rattle.worlds.proofs.WorldLaws.{not_refused}
use Rattle.certificate.specs.declared.certificate.WorldLine.{WorldLine}
use Rattle.certificate.specs.declared.extra.ExtraNeed.{ExtraNeed}
use Rattle.certificate.specs.Numerals.{ascends_from}
use Rattle.certificate.specs.ExtraTexts.{IsNeedSpellable}
use Rattle.certificate.specs.Spelling.{IsWorldSpellable}
use Rattle.repair.specs.HidingOrder.{Case, is_free_at}
use Rattle.attackers.specs.declared.faults.ExtraFault.TheVariants as fault
use Rattle.attackers.specs.Extras.{attack_of}
use Rattle.attackers.specs.AttackOrder.{attacks_of}
use Rattle.attackers.specs.ExtraFaults.{may_be_extra, cells_fault, need_cells_fault, needs_fault, guard_cells_fault, guards_fault, attacks_fault, guarding_fault}
use Rattle.attackers.specs.ExtraAcceptance.{IsExtraNeed}
use Rattle.attackers.specs.Laws.{CanBeSaid, HaveText}
use Rattle.attackers.proofs.AcceptedExtras.{needs_hold, guards_hold, not_false}
use Rattle.attackers.proofs.AskedCells.{attack_says}
use Rattle.attackers.proofs.Listed.{NeedsSay, needs_say}

le_true : (a b : ℕ) → a ≤ b → nat_le a b ≡ true
le_true a b h = grind (arith, nat_tests, h)

-- extra cells without a fault ascend
cells_ascend : (cells : List Cell) (flags : List Bool) (k least : ℕ) (extras : List ℕ) → cells_fault cells flags k least extras ≡ Ok tt → ascends_from least extras ≡ true
cells_ascend cells flags k least [] ok = refl
cells_ascend cells flags k least (cell ∷ more) ok =
    let parts = bind_ok (refuse (fault.Cell (line_number k)) (not (may_be_extra cells flags least cell))) (λ _. cells_fault cells flags (k + 1) (cell + 1) more) tt ok in
    let test = not_false (may_be_extra cells flags least cell) (not_refused (fault.Cell (line_number k)) (not (may_be_extra cells flags least cell)) parts.1) in
    let both = and_true (nat_le least cell) (is_free_at cells cell && not (is_hidden flags cell)) test in
    rw (both.0) (cells_ascend cells flags (k + 1) (cell + 1) more parts.2)

-- numbers in their order
terms_ascend : (least : ℕ) (terms : List Term) → Ascend least terms → ascends_from least (map (λ term. term.0) terms) ≡ true
terms_ascend least [] h = refl
terms_ascend least (term ∷ terms) h = rw (le_true least term.0 h.0) (terms_ascend (term.0 + 1) terms h.1)

moves_ascend : (least : ℕ) (moves : List Move) → Ascend least (terms_of moves) → ascends_from least (map (λ one. one.cell) moves) ≡ true
moves_ascend least [] h = refl
moves_ascend least (one ∷ moves) h = rw (le_true least one.cell h.0) (moves_ascend (one.cell + 1) moves h.1)

-- no listed move is by 0
moves_move : (listed : List Move) → All (λ (t : Term). t.1 ≢ pos 0) (terms_of listed) → AllByRecursion (λ one. one.by ≢ pos 0) listed
moves_move [] counts = tt
moves_move (one ∷ listed) counts =
    let Counts : Term → Type 0 = λ t. t.1 ≢ pos 0 in
    (All-head Counts (one.cell, one.by) (terms_of listed) counts, moves_move listed (All-tail Counts (one.cell, one.by) (terms_of listed) counts))

needs_said : (c : Case) (soles : List (Option ℕ)) (flags : List Bool) (needs : List ExtraNeed) → CanBeSaid soles → All (IsExtraNeed c soles flags) needs → AllByRecursion IsNeedSpellable needs
needs_said c soles flags [] said are = tt
needs_said c soles flags (need ∷ needs) said are =
    let is : IsExtraNeed c soles flags need = All-head (IsExtraNeed c soles flags) need needs are in (
      record {
        row = said need.row (attack_says c.cells soles (attack_of need) is.on).makes_up;
        den = is.refutes.is_refutation.q_positive;
        ascending = terms_ascend 0 need.multipliers.by_relation is.refutes.listed.ascending;
        counting = recursion_from_All (λ term. term.1 ≢ pos 0) need.multipliers.by_relation is.refutes.listed.counting;
      },
      needs_said c soles flags needs said (All-tail (IsExtraNeed c soles flags) need needs are),
    )

guards_said : (c : Case) (flags : List Bool) (guards : List WorldLine) → All (λ (line : WorldLine). IsGivenWorld c.system c.cells flags line.world) guards → AllByRecursion IsWorldSpellable guards
guards_said c flags [] are = tt
guards_said c flags (line ∷ guards) are =
    let IsGiven : WorldLine → Type 0 = λ l. IsGivenWorld c.system c.cells flags l.world in
    let is : IsGivenWorld c.system c.cells flags line.world = All-head IsGiven line guards are in (
      record {
        den = is.is_world.positive;
        ascending = moves_ascend 0 line.world.moves is.listed.ascending;
        moving = moves_move line.world.moves is.listed.counting;
      },
      guards_said c flags guards (All-tail IsGiven line guards are),
    )

pub have_text : HaveText
have_text c soles flags worlds extra one_each said ok =
    let set : List Bool = hide_cells flags extra.cells in
    let one = bind_ok (cells_fault c.cells flags 0 0 extra.cells) (λ _. need_cells_fault c.cells soles 0 extra.cells extra.needs >>= λ _. guarding_fault c soles set worlds extra) tt ok in
    let two = bind_ok (need_cells_fault c.cells soles 0 extra.cells extra.needs) (λ _. guarding_fault c soles set worlds extra) tt one.2 in
    let three = bind_ok (needs_fault c soles set 0 extra.needs) (λ _. guard_cells_fault c.cells 0 0 extra.guards >>= λ _. guards_fault c set 0 extra.guards >>= λ _. attacks_fault c.cells soles (worlds ++ extra.guards) (attacks_of c.cells soles)) tt two.2 in
    let four = bind_ok (guard_cells_fault c.cells 0 0 extra.guards) (λ _. guards_fault c set 0 extra.guards >>= λ _. attacks_fault c.cells soles (worlds ++ extra.guards) (attacks_of c.cells soles)) tt three.2 in
    let five = bind_ok (guards_fault c set 0 extra.guards) (λ _. attacks_fault c.cells soles (worlds ++ extra.guards) (attacks_of c.cells soles)) tt four.2 in
    let needs : NeedsSay c.cells soles extra.cells extra.needs = needs_say c.cells soles 0 extra.cells extra.needs two.1 in
    record {
      cells = cells_ascend c.cells flags 0 0 extra.cells one.1;
      needs = needs_said c soles set extra.needs said (needs_hold c soles set 0 extra.needs one_each needs.on three.1);
      guards = guards_said c set extra.guards (guards_hold c set 0 extra.guards one_each five.1);
    }
