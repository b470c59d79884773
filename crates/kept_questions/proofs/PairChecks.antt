-- What the checks of lists and weights say together.
use Rattle.std.proofs.Common.{◌≡◌, ℕ, zero, suc, ◌+◌, ◌<◌, Bool, true, false, List, [], ◌∷◌, length, get_or, slice_get, Some, ℤ, pos, neg_ℤ, ◌*ℤ◌, ◌≤ℤ◌, ◌<ℤ◌, arith, refl, ap, sym, ◌∙◌, subst, if◌then◌else◌}
use Rattle.std.specs.List.{flat_map}
use Rattle.std.proofs.lemmas.Int.{ints}
use Rattle.std.proofs.lemmas.Option.{slice_get_within, get_or_from_slice_get, slice_get-get_or}
use Rattle.sdc_base.specs.Forms.{coefficient}
use Rattle.sdc_base.specs.HiddenSets.{is_hidden}
use Rattle.sdc_base.specs.Systems.{number_at}
use Rattle.sdc_base.specs.Worlds.{amount_toward}
use Rattle.sdc_base.proofs.Connecting.{hidden-inside}
use Rattle.interval_audit.specs.Groups.{Group, IsComponentOf, members}
use Rattle.interval_audit.specs.Labels.{Label, CapAbove, CapBelow, Form, Negated, caps_for, forms_for, met_relations}
use Rattle.interval_audit.specs.MovePairs.{IsMovePair, labels_of, left_over, pressure, places}
use Rattle.interval_audit.specs.declared.question.Question.{Question}
use Rattle.kept_questions.specs.Checks.{LabelFits, LabelsFit, IsHeldBelow, pressure_of}
use Rattle.kept_questions.specs.TermLists.{list_at, moves_in}
use Rattle.kept_questions.specs.declared.labels.Checked.{Checked}
use Rattle.kept_questions.proofs.LabelChecks.{labels_behind}

get_back : (x : Label) (xs : List Label) (j : ℕ) (label : Label) → slice_get (x ∷ xs) (suc j) ≡ Some label → slice_get xs j ≡ Some label
get_back x xs j label found =
    let within : suc j < length (x ∷ xs) = slice_get_within (x ∷ xs) (suc j) label found in
    let here : get_or xs j label ≡ label = get_or_from_slice_get (x ∷ xs) (suc j) label label found in
    slice_get-get_or xs j label (omega (arith, within)) ∙ ap Some here

label_at : (checked : Checked) (k j : ℕ) (labels : List Label) (label : Label) → LabelsFit checked k labels → slice_get labels j ≡ Some label → LabelFits checked (k + j) label
label_at checked k j [] label all found = absurd (omega (arith, slice_get_within [] j label found))
label_at checked k zero (x ∷ xs) label all found =
    let is : x ≡ label = get_or_from_slice_get (x ∷ xs) 0 label label found in
    subst (λ n. LabelFits checked n label) (let e : k ≡ k + 0 = omega arith in e) (subst (LabelFits checked k) is all.0)
label_at checked k (suc j) (x ∷ xs) label all found =
    subst (λ n. LabelFits checked n label) (let e : suc k + j ≡ k + suc j = omega arith in e) (label_at checked (suc k) j xs label all.1 (get_back x xs j label found))

-- what presses a row presses it where its cell is hidden
pressed_so : (checked : Checked) (flags : List Bool) (group : Group) (question : Question) (q : ℤ) (label : Label) → ((c : ℕ) → number_at checked.left.now c ≡ left_over checked.system.now group question q (number_at checked.weights.now) c) →
    pos 1 ≤ℤ pressure checked.system.now flags group question q (number_at checked.weights.now) label → pos 1 ≤ℤ pressure_of checked label
pressed_so checked flags group question q (CapAbove c) each up =
    elim (is_hidden flags c) as (λ b. pos 1 ≤ℤ (if b then left_over checked.system.now group question q (number_at checked.weights.now) c else pos 0) → pos 1 ≤ℤ number_at checked.left.now c) [
      | true ↦ λ more. omega (arith, ints, more, each c)
      | false ↦ λ more. absurd (omega (arith, ints, more))
    ] up
pressed_so checked flags group question q (CapBelow c) each up =
    elim (is_hidden flags c) as (λ b. pos 1 ≤ℤ (if b then neg_ℤ (left_over checked.system.now group question q (number_at checked.weights.now) c) else pos 0) → pos 1 ≤ℤ neg_ℤ (number_at checked.left.now c)) [
      | true ↦ λ more. omega (arith, ints, more, each c)
      | false ↦ λ more. absurd (omega (arith, ints, more))
    ] up
pressed_so checked flags group question q (Form r) each up = up
pressed_so checked flags group question q (Negated r) each up = up

-- a cell outside of the group isn't hidden, or isn't linked; one that isn't hidden is outside
shown_outside : (b : Bool) → (b ≡ true → b ≡ false) → b ≡ false
shown_outside b away =
    elim b as (λ t. (b ≡ t) → b ≡ false) [
      | true ↦ λ is. away is
      | false ↦ λ is. is
    ] refl

pub pair_found : (checked : Checked) (flags : List Bool) (group : Group) (question : Question) (q : ℤ) → length flags ≡ checked.system.now.cells → pos 1 ≤ℤ checked.den → pos 1 ≤ℤ q →
    IsComponentOf checked.system.now.relations flags question.cell group → ((c : ℕ) → group c ≡ false → list_at checked.lists.now c ≡ []) →
    amount_toward question.side (coefficient (list_at checked.lists.now question.cell) 0) <ℤ (checked.den *ℤ question.target) →
    ((c : ℕ) → number_at checked.left.now c ≡ left_over checked.system.now group question q (number_at checked.weights.now) c) →
    ((c : ℕ) → c < checked.system.now.cells → group c ≡ true → IsHeldBelow checked c) →
    LabelsFit checked 0 (flat_map (caps_for checked.cells.now) (members group checked.system.now.cells)) →
    LabelsFit checked (length (flat_map (caps_for checked.cells.now) (members group checked.system.now.cells))) (flat_map forms_for (met_relations group checked.system.now.relations)) →
    IsMovePair checked.system.now checked.cells.now flags group question checked.den q (moves_in checked.lists.now) (number_at checked.weights.now)
pair_found checked flags group question q each_flag den_above q_above own outside below each held caps forms =
    let all : LabelsFit checked 0 (labels_of checked.system.now checked.cells.now group) =
    labels_behind checked 0 (flat_map (caps_for checked.cells.now) (members group checked.system.now.cells)) (flat_map forms_for (met_relations group checked.system.now.relations)) caps
    (subst (λ n. LabelsFit checked n (flat_map forms_for (met_relations group checked.system.now.relations))) (let e : length (flat_map (caps_for checked.cells.now) (members group checked.system.now.cells)) ≡ 0 + length (flat_map (caps_for checked.cells.now) (members group checked.system.now.cells)) = omega arith in e) forms) in
    let at_place : (k : ℕ) (label : Label) → slice_get (labels_of checked.system.now checked.cells.now group) k ≡ Some label → LabelFits checked k label = λ k label at.
    subst (λ n. LabelFits checked n label) (let e : 0 + k ≡ k = omega arith in e) (label_at checked 0 k (labels_of checked.system.now checked.cells.now group) label all at) in
    let none : (c i : ℕ) → group c ≡ false → moves_in checked.lists.now c i ≡ pos 0 = λ c i out. ap (λ ts. coefficient ts i) (outside c out) in
    record {
      d_above = den_above;
      q_above = q_above;
      left = λ c i shown. none c i (shown_outside (group c) (λ is. let hides : is_hidden flags c ≡ true = ((own c).0 is).0 in absurd (let no : true ≡ false = sym hides ∙ shown in cc)));
      outside = none;
      within = λ k label at. (at_place k label at).within (places checked.system.now checked.cells.now group);
      stands = λ k i label at inside up. (at_place k label at).stands (pressed_so checked flags group question q label each up) i;
      unbounded = λ c is hides bare. subst (λ z. z ≤ℤ pos 0) (each c) (held c (omega (arith, hidden-inside flags c hides, each_flag)) is bare);
      below = below;
    }
