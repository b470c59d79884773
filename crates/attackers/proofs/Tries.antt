-- Extra cells tried as shown, one after another.
use Rattle.std.proofs.Common.{◌≡◌, ℕ, ◌<◌, inl, inr, ◌==◌, not, nat_lt, Bool, true, false, List, [], ◌∷◌, ◌++◌, length, length-set, filter, All, Option, refl, ap, sym, ◌∙◌, subst, arith, if◌then◌else◌}
use Rattle.std.specs.List.{list_any}
use Rattle.std.proofs.lemmas.List.{get_or-set_other, append-nil}
use Rattle.std.proofs.lemmas.List.Elements.{All-nil, All-head, All-tail, All-cons, All-filter}
use Rattle.std.proofs.lemmas.Option.{slice_get_within, get_or_from_slice_get}
use Rattle.sdc_base.specs.declared.cell.Cell.{Cell}
use Rattle.sdc_base.specs.declared.cell.Kind.TheVariants.{Primary}
use Rattle.sdc_base.specs.HiddenSets.{is_hidden, IsPermitted, hide, show}
use Rattle.std.proofs.lemmas.Bool.Decides.{nat_tests}
use Rattle.attackers.proofs.Knowing.{shown_past}
use Rattle.worlds.specs.WorldFaults.{IsGivenWorld}
use Rattle.worlds.proofs.TrueTests.{and_true, not_true}
use Rattle.worlds.proofs.RefutationLaws.{no_world}
use Rattle.certificate.specs.declared.certificate.WorldLine.{WorldLine}
use Rattle.repair.specs.HidingOrder.{Case, IsOfKind}
use Rattle.repair.proofs.Flags.{by_test, clash, same_or_other}
use Rattle.attackers.proofs.Resting.{unmoved, still_world}
use Rattle.repair.proofs.TriedCells.{shown_here}
use Rattle.attackers.specs.declared.attack.Attack.{Attack}
use Rattle.certificate.specs.declared.extra.ExtraNeed.{ExtraNeed}
use Rattle.attackers.specs.declared.contributor_task.ContributorTask.{ContributorTask}
use Rattle.attackers.specs.KnownCells.{without_known, IsAttack, Guards, GuardsAll, is_served}
use Rattle.attackers.specs.Extras.{attack_of}
use Rattle.attackers.specs.ContributorTasks.{HoldGuards, IsReadySet}
use Rattle.attackers.specs.WholeGuards.{IsWholeGuard}
use Rattle.attackers.specs.Dropping.{stays, renewed_guards, is_beside, IsNeedFor}
use Rattle.attackers.proofs.AskedCells.{attack_says, attack_at}

-- ---- guards that are left where a cell is shown

All-passing : {X : Type 0} (P Q : X → Type 0) (test : X → Bool) (xs : List X) → ((x : X) → P x → test x ≡ true → Q x) → All P xs → All Q (filter test xs)
All-passing P Q test [] f all = All-nil Q
All-passing P Q test (x ∷ xs) f all =
    let rest : All Q (filter test xs) = All-passing P Q test xs f (All-tail P x xs all) in
    elim (test x) as (λ b. test x ≡ b → All Q (if b then x ∷ filter test xs else filter test xs)) [
      | true ↦ λ is. All-cons Q x (filter test xs) (f x (All-head P x xs all) is) rest
      | false ↦ λ is. rest
    ] refl

-- before any attack is asked about again
pub none_renewed : (c : Case) (soles : List (Option ℕ)) (attacks : List Attack) (flags : List Bool) (cell : ℕ) (guards news : List WorldLine) → news ≡ [] → HoldGuards c soles (hide flags cell) attacks guards → HoldGuards c soles flags [] (renewed_guards cell guards news)
none_renewed c soles attacks flags cell guards news none held =
    let same : filter (stays cell) guards ≡ renewed_guards cell guards news = sym (append-nil (filter (stays cell) guards)) ∙ ap (λ (l : List WorldLine). filter (stays cell) guards ++ l) (sym none) in
    subst (λ (g : List WorldLine). HoldGuards c soles flags [] g) same (record {
      are_worlds = All-passing (λ (line : WorldLine). IsGivenWorld c.system c.cells (hide flags cell) line.world) (λ (line : WorldLine). IsGivenWorld c.system c.cells flags line.world) (stays cell) guards
          (λ line is stay. still_world c flags cell line.world (unmoved cell line.world.moves (not_true (list_any (λ one. one.cell == cell) line.world.moves) stay)) is) held.are_worlds;
      are_lines = All-filter (stays cell) (λ (line : WorldLine). IsOfKind c.cells line.cell Primary) guards held.are_lines;
      served = All-nil (λ (attack : Attack). is_served c.cells soles attack (filter (stays cell) guards) ≡ true);
      whole = λ signs are. All-filter (stays cell) IsWholeGuard guards (held.whole signs are);
    })

-- ---- a refuted set doesn't guard

pub not_guarding : (c : Case) (soles : List (Option ℕ)) (attacks : List Attack) (flags : List Bool) (need : ExtraNeed) → length c.cells ≡ c.system.cells → All (IsAttack c.cells soles) attacks → IsNeedFor c soles attacks flags need → ¬ GuardsAll c soles flags attacks
not_guarding c soles attacks flags need one_each are is all =
    let attack : Attack = attack_of need in
    let says = attack_says c.cells soles attack (attack_at c.cells soles attacks is.place attack are is.stands) in
    let inside : attack.cell < c.system.cells = omega (arith, one_each, slice_get_within c.cells attack.cell says.primary.cell says.primary.found) in
    let guards : Guards c soles flags attack = subst (Guards c soles flags) (get_or_from_slice_get attacks is.place attack attack is.stands) (all is.place attack (slice_get_within attacks is.place attack is.stands)) in
    no_world c.system c.cells (without_known soles attack.row flags) attack.cell attack.side need.multipliers one_each inside is.refutes guards

-- ---- sets with a cell shown

-- a set stays permitted where a cell is shown that is hidden beside a permitted one
permitted_less : (cells : List Cell) (first flags : List Bool) (cell : ℕ) → is_beside first flags cell ≡ true → IsPermitted cells first → IsPermitted cells flags → IsPermitted cells (show flags cell)
permitted_less cells first flags cell extra start permitted =
    let not_first : is_hidden first cell ≡ false = not_true (is_hidden first cell) (and_true (is_hidden flags cell) (not (is_hidden first cell)) extra).1 in
    let inside : cell < length flags = by_test (nat_lt cell (length flags)) (cell < length flags) (λ is. grind (arith, nat_tests, is))
    (λ is. clash (is_hidden flags cell) (and_true (is_hidden flags cell) (not (is_hidden first cell)) extra).0 (shown_past flags cell (grind (arith, nat_tests, is)))) in
    record {
      primary_hidden = λ k one found primary. elim (same_or_other k cell) [
        | inl same ↦ clash (is_hidden first cell) (subst (λ m. is_hidden first m ≡ true) same (start.primary_hidden k one found primary)) not_first
        | inr other ↦ get_or-set_other flags cell k false false other ∙ permitted.primary_hidden k one found primary
      ];
      fixed_shown = λ k one found fixed. elim (same_or_other k cell) [
        | inl same ↦ subst (λ m. is_hidden (show flags cell) m ≡ false) (sym same) (shown_here flags cell inside)
        | inr other ↦ get_or-set_other flags cell k false false other ∙ permitted.fixed_shown k one found fixed
      ];
    }

-- and stays one of which the task may ask
pub ready_less : (task : ContributorTask) (first flags : List Bool) (cell : ℕ) → is_beside first flags cell ≡ true → IsPermitted task.cells.now first → IsReadySet task flags → IsReadySet task (show flags cell)
ready_less task first flags cell extra start ready = record {
  each = length-set flags cell false ∙ ready.each;
  permitted = permitted_less task.cells.now first flags cell extra start ready.permitted;
}

-- the first set stays hidden where a cell beside it is shown
pub first_less : (first flags : List Bool) (cell : ℕ) → is_beside first flags cell ≡ true → ((k : ℕ) → is_hidden first k ≡ true → is_hidden flags k ≡ true) → (k : ℕ) → is_hidden first k ≡ true → is_hidden (show flags cell) k ≡ true
first_less first flags cell beside stay k is =
    let not_first : is_hidden first cell ≡ false = not_true (is_hidden first cell) (and_true (is_hidden flags cell) (not (is_hidden first cell)) beside).1 in
    elim (same_or_other k cell) [
      | inl same ↦ clash (is_hidden first cell) (subst (λ m. is_hidden first m ≡ true) same is) not_first
      | inr other ↦ get_or-set_other flags cell k false false other ∙ stay k is
    ]
