-- One attack after another.
use Rattle.std.proofs.Common.{◌≡◌, ℕ, ◌+◌, ◌<◌, ◌&&◌, ◌||◌, not, Bool, true, false, List, [], ◌∷◌, ◌++◌, length, take, slice_get, Option, None, Some, ℤ, pos, ◌<ℤ◌, refl, ap, sym, ◌∙◌, subst, arith}
use Rattle.std.specs.Option.{option_map_or}
use Rattle.std.specs.Ordering.{int_eq}
use Rattle.std.proofs.lemmas.List.Sums.{fold_push}
use Rattle.std.proofs.lemmas.List.{map-append}
use Rattle.std.proofs.lemmas.Option.{slice_get_within}
use Rattle.sdc_base.specs.Kinds.{is_free}
use Rattle.sdc_base.specs.declared.cell.Cell.{Cell}
use Rattle.sdc_base.specs.declared.cell.Kind.{Kind}
use Rattle.sdc_base.specs.declared.cell.Kind.TheVariants.{Primary, Free, Fixed}
use Rattle.sdc_base.specs.Forms.{coefficient}
use Rattle.sdc_base.specs.Systems.{Numbers}
use Rattle.sdc_base.specs.HiddenSets.{is_hidden, may_hide, full_set, IsPermitted, hide, hide_cells}
use Rattle.sdc_base.specs.Refutations.{share, share_at, AreBounded}
use Rattle.worlds.specs.declared.multipliers.Multipliers.{Multipliers}
use Rattle.worlds.specs.RefutationFaults.{terms_added}
use Rattle.worlds.proofs.RefutationLaws.{no_world}
use Rattle.kept_questions.specs.declared.kept_answer.KeptAnswer.{KeptAnswer}
use Rattle.kept_questions.specs.declared.kept_answer.KeptAnswer.TheVariants.{Reaches, Stops}
use Rattle.interval_audit.specs.declared.answer.AskFault.{AskFault}
use Rattle.interval_audit.specs.Answers.{ReachesTarget}
use Rattle.repair.specs.HidingOrder.{Case, IsOfKind, breaks, breaks_at, coefficients_for, IsCheapest}
use Rattle.repair.specs.LevelQuestions.{IsLevelAnswer, HasCause}
use Rattle.repair.proofs.Flags.{IsWithin, by_test, hidden_map, within_full}
use Rattle.repair.proofs.Growing.{given_more}
use Rattle.repair.proofs.Refuting.{reaching_test, share_full, hidden_or_none, refutation_alike}
use Rattle.repair.proofs.Repairing.{given_refutes, each_more, none_is_more, last_same, hidden_cell, breaking_says}
use Rattle.attackers.specs.declared.attack.Attack.{Attack}
use Rattle.certificate.specs.declared.extra.ExtraNeed.{ExtraNeed}
use Rattle.attackers.specs.KnownCells.{is_known, without_known, with_known, target_of, GuardsBefore, IsAttack}
use Rattle.attackers.specs.Extras.{attack_of, subjects_of, Unguards, IsInTurn}
use Rattle.attackers.specs.ContributorTasks.{IsExtended, IsAnswerAgainst, IsRefutedAt, IsCannot, IsAsked}
use Rattle.attackers.proofs.AskedCells.{AttackSays, attack_says}
use Rattle.attackers.proofs.Knowing.{left_says, closed_says, without_within, all_guards_more, world_serves}

-- what asking comes to, by the answer
pub answer_is : (c : Case) (soles : List (Option ℕ)) (flags : List Bool) (attack : Attack) (answer : KeptAnswer) → IsLevelAnswer c.system c.cells (without_known soles attack.row flags) (target_of attack) answer → IsAnswerAgainst c soles flags attack answer
answer_is c soles flags attack (Reaches world) given =
    let left : List Bool = without_known soles attack.row flags in
    let right : ReachesTarget c.system c.cells left given.question world = subst (λ (set : List Bool). ReachesTarget c.system c.cells set given.question world) given.is_one given.is_right in (
      given_more c.system c.cells left flags world (without_within soles attack.row flags) right.is_world,
      world_serves c soles flags attack world right.is_world (reaching_test c.system c.cells left (target_of attack) given.question world given.is_asked right),
      λ signs are. (given.is_read signs are).3.whole signs are,
    )
answer_is c soles flags attack (Stops m) given = (given_refutes c.system c.cells (without_known soles attack.row flags) (target_of attack) m given, given)

-- ---- extra cells

-- one extra cell more hides one cell more
pub hidden_more : (flags : List Bool) (extras : List ExtraNeed) (extra : ExtraNeed) → hide_cells flags (subjects_of (extras ++ extra ∷ [])) ≡ hide (hide_cells flags (subjects_of extras)) extra.subject
hidden_more flags extras extra =
    ap (λ (l : List ℕ). hide_cells flags l) (map-append (λ (e : ExtraNeed). e.subject) extras (extra ∷ []))
    ∙ fold_push hide flags (subjects_of extras) extra.subject

-- before any extra cell
pub none_extended : (c : Case) (soles : List (Option ℕ)) (prices : List ℕ) (attacks : List Attack) (first : List Bool) → IsExtended c soles prices attacks first first [] 0
none_extended c soles prices attacks first = record {
  hidden_is = refl;
  each = tt;
  onward = λ earlier last is. absurd (none_is_more earlier last is);
}

-- one extra cell more, of the attack at this place
pub one_extended : (c : Case) (soles : List (Option ℕ)) (prices : List ℕ) (attacks : List Attack) (first flags : List Bool) (extras : List ExtraNeed) (place : ℕ) (extra : ExtraNeed) → IsInTurn c soles prices attacks flags extra → slice_get attacks place ≡ Some (attack_of extra) → IsExtended c soles prices attacks first flags extras place → IsExtended c soles prices attacks first (hide flags extra.subject) (extras ++ extra ∷ []) place
one_extended c soles prices attacks first flags extras place extra turn stands is = record {
  hidden_is = ap (λ (f : List Bool). hide f extra.subject) is.hidden_is ∙ sym (hidden_more first extras extra);
  each = each_more (λ (e : ExtraNeed). e.subject) (IsInTurn c soles prices attacks) first extras extra is.each (subst (λ (f : List Bool). IsInTurn c soles prices attacks f extra) is.hidden_is turn);
  onward = λ earlier last same. (place, subst (λ (e : ExtraNeed). slice_get attacks place ≡ Some (attack_of e)) (last_same extras earlier extra last same) stands, omega arith);
}

-- the next place
pub on_to_next : (c : Case) (soles : List (Option ℕ)) (prices : List ℕ) (attacks : List Attack) (first flags : List Bool) (extras : List ExtraNeed) (place : ℕ) → IsExtended c soles prices attacks first flags extras place → IsExtended c soles prices attacks first flags extras (place + 1)
on_to_next c soles prices attacks first flags extras place is = record {
  hidden_is = is.hidden_is;
  each = is.each;
  onward = λ earlier last same. let own = is.onward earlier last same in (own.0, own.1, omega (arith, own.2));
}

-- the cheapest cell that would break the multipliers is in turn
pub turn_by : (c : Case) (soles : List (Option ℕ)) (prices : List ℕ) (attacks : List Attack) (flags : List Bool) (place : ℕ) (attack : Attack) (m : Multipliers) (subject : ℕ) → IsRefutedAt c soles attacks flags place attack m → IsCheapest c.cells prices (with_known soles attack.row flags) (coefficients_for c.system (target_of attack) m) subject → IsInTurn c soles prices attacks flags (record { subject = subject; row = attack.row; cell = attack.cell; side = attack.side; multipliers = m })
turn_by c soles prices attacks flags place attack m subject is cheapest = record {
  place = place;
  stands = is.stands;
  before = is.before;
  refutes = is.refutes;
  gives = is.gives;
  cheapest = cheapest;
}

-- ---- the full set doesn't guard

or_nothing : (b : Bool) → (b || false) ≡ b
or_nothing true = refl
or_nothing false = refl

and_all : (b : Bool) → (b && not false) ≡ b
and_all true = refl
and_all false = refl

-- a cell adds as much to the bound sum for the full set without what is known, where it wouldn't break the multipliers
share_left : (kind : Kind) (known hidden : Bool) (k : ℤ) (cell : Cell) → (kind ≡ Primary → hidden ≡ true) → (kind ≡ Fixed → hidden ≡ false) → (is_free kind && (not (hidden || known) && not (int_eq k (pos 0)))) ≡ false → share (hidden && not known) k cell ≡ share (may_hide kind && not known) k cell
share_left kind true hidden k cell primary fixed none = ap (λ b. share b k cell) (nothing hidden ∙ sym (nothing (may_hide kind)))
  where
    nothing : (b : Bool) → (b && not true) ≡ false
    nothing true = refl
    nothing false = refl
share_left kind false hidden k cell primary fixed none =
    ap (λ b. share b k cell) (and_all hidden)
    ∙ share_full kind hidden k cell primary fixed (ap (λ b. is_free kind && (not b && not (int_eq k (pos 0)))) (sym (or_nothing hidden)) ∙ none)
    ∙ ap (λ b. share b k cell) (sym (and_all (may_hide kind)))

-- a permitted set of cells is within the full set
pub in_full : (cells : List Cell) (flags : List Bool) → length flags ≡ length cells → IsPermitted cells flags → IsWithin flags (full_set cells)
in_full cells flags each permitted = within_full cells flags each permitted (λ n hidden. hidden_cell cells flags n each hidden)

share_at_left : (cells : List Cell) (soles : List (Option ℕ)) (row : ℕ) (flags : List Bool) (k : Numbers) → length flags ≡ length cells → IsPermitted cells flags → ((n : ℕ) → breaks_at cells (with_known soles row flags) k n ≡ false) → (n : ℕ) → share_at cells (without_known soles row flags) k n ≡ share_at cells (without_known soles row (full_set cells)) k n
share_at_left cells soles row flags k each permitted none n =
    elim (slice_get cells n) as (λ o. slice_get cells n ≡ o → option_map_or (share (is_hidden (without_known soles row flags) n) (k n)) o (pos 0) ≡ option_map_or (share (is_hidden (without_known soles row (full_set cells)) n) (k n)) o (pos 0)) [
      | None ↦ λ found. refl
      | Some cell ↦ λ found.
          let inside : n < length flags = omega (arith, each, slice_get_within cells n cell found) in
          let own : breaks (is_hidden (with_known soles row flags) n) (k n) cell ≡ false = sym (ap (λ o. option_map_or (breaks (is_hidden (with_known soles row flags) n) (k n)) o false) found) ∙ none n in
          let test : breaks (is_hidden flags n || is_known soles row n) (k n) cell ≡ false = ap (λ b. breaks b (k n) cell) (sym (closed_says soles row flags n inside)) ∙ own in
          let full : is_hidden (full_set cells) n ≡ may_hide cell.kind = hidden_map (λ one. may_hide one.kind) cells n cell found in
          ap (λ b. share b (k n) cell) (left_says soles row flags n)
          ∙ share_left cell.kind (is_known soles row n) (is_hidden flags n) (k n) cell (permitted.primary_hidden n cell found) (permitted.fixed_shown n cell found) test
          ∙ ap (λ b. share (b && not (is_known soles row n)) (k n) cell) (sym full)
          ∙ sym (ap (λ b. share b (k n) cell) (left_says soles row (full_set cells) n))
    ] refl

hidden_left : (kind : Kind) (known hidden : Bool) (k : ℤ) → (kind ≡ Primary → hidden ≡ true) → (is_free kind && (not (hidden || known) && not (int_eq k (pos 0)))) ≡ false → (may_hide kind && not known) ≡ true → pos 0 <ℤ k → (hidden && not known) ≡ true
hidden_left kind true hidden k primary none may up = absurd (let bad : (may_hide kind && false) ≡ true = may in nothing (may_hide kind) bad)
  where
    nothing : (b : Bool) → (b && false) ≡ true → ⊥
    nothing true is = cc
    nothing false is = cc
hidden_left kind false hidden k primary none may up =
    and_all hidden ∙ hidden_or_none kind hidden k primary (ap (λ b. is_free kind && (not b && not (int_eq k (pos 0)))) (sym (or_nothing hidden)) ∙ none) (sym (and_all (may_hide kind)) ∙ may) up

bounded_left : (cells : List Cell) (soles : List (Option ℕ)) (row : ℕ) (flags : List Bool) (k : Numbers) → length flags ≡ length cells → IsPermitted cells flags → ((n : ℕ) → breaks_at cells (with_known soles row flags) k n ≡ false) → AreBounded cells (without_known soles row flags) k → AreBounded cells (without_known soles row (full_set cells)) k
bounded_left cells soles row flags k each permitted none bounded n cell found hidden up =
    let inside : n < length flags = omega (arith, each, slice_get_within cells n cell found) in
    let own : breaks (is_hidden (with_known soles row flags) n) (k n) cell ≡ false = sym (ap (λ o. option_map_or (breaks (is_hidden (with_known soles row flags) n) (k n)) o false) found) ∙ none n in
    let test : breaks (is_hidden flags n || is_known soles row n) (k n) cell ≡ false = ap (λ b. breaks b (k n) cell) (sym (closed_says soles row flags n inside)) ∙ own in
    let full : is_hidden (full_set cells) n ≡ may_hide cell.kind = hidden_map (λ one. may_hide one.kind) cells n cell found in
    let may : (may_hide cell.kind && not (is_known soles row n)) ≡ true = ap (λ b. b && not (is_known soles row n)) (sym full) ∙ sym (left_says soles row (full_set cells) n) ∙ hidden in
    bounded n cell found (left_says soles row flags n ∙ hidden_left cell.kind (is_known soles row n) (is_hidden flags n) (k n) (permitted.primary_hidden n cell found) test may up) up

-- where no cell would break them, the multipliers show that the full set doesn't guard against the attack
pub cannot_by : (c : Case) (soles : List (Option ℕ)) (attacks : List Attack) (flags : List Bool) (place : ℕ) (attack : Attack) (m : Multipliers) → length c.cells ≡ c.system.cells → length flags ≡ c.system.cells → IsPermitted c.cells flags → IsAttack c.cells soles attack → IsRefutedAt c soles attacks flags place attack m → ((n : ℕ) → breaks_at c.cells (with_known soles attack.row flags) (coefficients_for c.system (target_of attack) m) n ≡ false) → IsCannot c soles attacks attack m
cannot_by c soles attacks flags place attack m one_each each permitted on is none =
    let says : AttackSays c.cells soles attack = attack_says c.cells soles attack on in
    let k : Numbers = coefficient (terms_added c.system attack.cell attack.side m) in
    let long : length flags ≡ length c.cells = omega (arith, one_each, each) in
    let full : Unguards c soles (full_set c.cells) attack m =
    refutation_alike c.system c.cells (without_known soles attack.row flags) (without_known soles attack.row (full_set c.cells)) attack.cell attack.side m
    (share_at_left c.cells soles attack.row flags k long permitted none)
    (bounded_left c.cells soles attack.row flags k long permitted none is.refutes.is_refutation.bounded) is.refutes in
    let inside : attack.cell < c.system.cells = omega (arith, one_each, slice_get_within c.cells attack.cell says.primary.cell says.primary.found) in
    record {
      place = place;
      stands = is.stands;
      before = all_guards_more c soles flags (full_set c.cells) (take place attacks) (in_full c.cells flags long permitted) is.before;
      refutes = full;
      unguarded = no_world c.system c.cells (without_known soles attack.row (full_set c.cells)) attack.cell attack.side m one_each inside full;
      whole = λ signs are. (is.gives.is_read.3.whole signs are).1;
    }

-- ---- questions with a fault

pub asked_by : (c : Case) (soles : List (Option ℕ)) (attacks : List Attack) (flags : List Bool) (limit : ℕ) (fault : AskFault) (row place : ℕ) (attack : Attack) → slice_get attacks place ≡ Some attack → row ≡ attack.row → GuardsBefore c soles flags attacks place → HasCause c.system c.cells (without_known soles attack.row flags) (target_of attack) limit fault → IsAsked c soles attacks flags limit fault row place
asked_by c soles attacks flags limit fault row place attack stands by_row before cause = record {
  attack = attack;
  stands = stands;
  by_row = sym by_row;
  before = before;
  cause = subst (λ r. HasCause c.system c.cells (without_known soles r flags) (target_of attack) limit fault) (sym by_row) cause;
}

-- ---- the subject

-- the cheapest of the cells that the contributor doesn't know is free and isn't hidden
pub record SubjectSays (cells : List Cell) (flags : List Bool) (subject : ℕ) : Type 0 where
  pub is_free : IsOfKind cells subject Free
  pub shown : is_hidden flags subject ≡ false

pub subject_says : (cells : List Cell) (soles : List (Option ℕ)) (row : ℕ) (prices : List ℕ) (flags : List Bool) (counts : Numbers) (subject : ℕ) → length flags ≡ length cells → IsCheapest cells prices (with_known soles row flags) counts subject → SubjectSays cells flags subject
subject_says cells soles row prices flags counts subject each is =
    let own = breaking_says cells (with_known soles row flags) counts subject is.breaking in
    let inside : subject < length flags = omega (arith, each, slice_get_within cells subject own.is_free.cell own.is_free.found) in
    let both : (is_hidden flags subject || is_known soles row subject) ≡ false = sym (closed_says soles row flags subject inside) ∙ own.shown in
    record { is_free = own.is_free; shown = by_test (is_hidden flags subject) (is_hidden flags subject ≡ false) (λ h. absurd (let bad : true ≡ false = sym (ap (λ b. b || is_known soles row subject) h) ∙ both in cc)) (λ h. h) }
