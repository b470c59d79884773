-- What the weights of the rows have at the columns of a cell.
use Rattle.std.proofs.Common.{◌≡◌, ℕ, suc, ◌<◌, ◌==◌, Bool, true, false, List, [], ◌∷◌, ◌++◌, length, map, get_or, All, ℤ, pos, neg_ℤ, ◌+ℤ◌, ◌-ℤ◌, ◌*ℤ◌, ◌≤ℤ◌, int_lt, arith, refl, ap, sym, ◌∙◌, if◌then◌else◌}
use Rattle.std.specs.List.{flat_map}
use Rattle.std.proofs.Math.IntN.{*ℤ_comm}
use Rattle.std.proofs.lemmas.Int.{ints}
use Rattle.std.proofs.lemmas.Bool.Decides.{Decides-eqb, nat_tests}
use Rattle.std.proofs.lemmas.List.Elements.{All-map}
use Rattle.sdc_base.specs.declared.cell.Cell.{Cell}
use Rattle.sdc_base.specs.declared.system.System.{System}
use Rattle.sdc_base.specs.Forms.{Term, coefficient}
use Rattle.sdc_base.specs.Systems.{Numbers}
use Rattle.sdc_base.specs.Totals.{sum_of, sum_below}
use Rattle.sdc_base.proofs.TotalLemmas.{sum_of-cons, sum_of-append, sum_of-map, sum_below-same, only}
use Rattle.sdc_base.proofs.WeakDual.{value_of}
use Rattle.sdc_base.proofs.WholeNumbers.{distrib_right, minus_times}
use Rattle.tableau.specs.declared.problem.LinRow.{LinRow}
use Rattle.tableau.specs.Problems as problems
use Rattle.tableau.proofs.Exchanges.{times_none}
use Rattle.tableau.proofs.Starts.{sum_first}
use Rattle.interval_audit.specs.declared.question.Question.{Question}
use Rattle.interval_audit.specs.Columns.{up_column, down_column}
use Rattle.interval_audit.specs.Groups.{Group, members}
use Rattle.interval_audit.specs.Labels.{Label, CapAbove, CapBelow, Form, Negated, caps_for, forms_for, met_relations, terms_of_label}
use Rattle.interval_audit.specs.MovePairs.{labels_of, left_over, pressure}
use Rattle.interval_audit.specs.Problems.{problem_of, row_of, asked_move}
use Rattle.interval_audit.proofs.Forms.{has_at}
use Rattle.interval_audit.proofs.MoveWeights.{weight_of, weight_at}
use Rattle.interval_audit.proofs.Ranks.{sum_members}
use Rattle.interval_audit.proofs.Spread.{entries_up, entries_down, sum_flat, sum_two, times_minus}
use Rattle.interval_audit.proofs.Weights.{Weighed, IsLabel, labels_are, aboves_for, belows_for, aboves, belows, multiples, is_bounded, all_up, all_down}

-- ---- sums over rows, and over labels

sum_rows : {X A : Type 0} (F : X → A) (w : X → ℤ) (g : A → ℤ) (last d : A) (xs : List X) →
    sum_below (suc (length xs)) (λ k. get_or (map w xs) k (pos 0) *ℤ g (get_or (map F xs ++ last ∷ []) k d)) ≡ sum_of (λ x. w x *ℤ g (F x)) xs
sum_rows F w g last d [] = omega (arith, ints, *ℤ_comm (pos 0) (g last), times_none (g last))
sum_rows F w g last d (x ∷ xs) =
    sum_first (suc (length xs)) (λ k. get_or (map w (x ∷ xs)) k (pos 0) *ℤ g (get_or (map F (x ∷ xs) ++ last ∷ []) k d))
    ∙ omega (arith, ints, sum_rows F w g last d xs, sum_of-cons (λ x. w x *ℤ g (F x)) x xs)

pub sum_none : {X : Type 0} (f : X → ℤ) (xs : List X) → ((x : X) → f x ≡ pos 0) → sum_of f xs ≡ pos 0
sum_none f [] none = refl
sum_none f (x ∷ xs) none = omega (arith, ints, sum_of-cons f x xs, none x, sum_none f xs none)

sum_same : {X : Type 0} (f g : X → ℤ) (xs : List X) → ((x : X) → f x ≡ g x) → sum_of f xs ≡ sum_of g xs
sum_same f g [] same = refl
sum_same f g (x ∷ xs) same = omega (arith, ints, sum_of-cons f x xs, sum_of-cons g x xs, same x, sum_same f g xs same)

pub labels_sum : (system : System) (cells : List Cell) (group : Group) (f : Label → ℤ) →
    sum_of f (labels_of system cells group) ≡ sum_of (λ d. sum_of f (caps_for cells d)) (members group system.cells) +ℤ sum_of (λ k. sum_of f (forms_for k)) (met_relations group system.relations)
labels_sum system cells group f =
    sum_of-append f (flat_map (caps_for cells) (members group system.cells)) (flat_map forms_for (met_relations group system.relations))
    ∙ omega (arith, ints, sum_flat f (caps_for cells) (members group system.cells), sum_flat f forms_for (met_relations group system.relations))

-- labels with their weights
abbrev pub weighed : (Label → ℤ) → List Label → List Weighed
weighed w all = map (λ label. (w label, label)) all

-- what is counted at a cell, where its caps alone count
caps_sum : (system : System) (cells : List Cell) (group : Group) (f : Label → ℤ) (c : ℕ) (v : ℕ → ℤ) → c < system.cells → group c ≡ true →
    ((d : ℕ) → sum_of f (caps_for cells d) ≡ (if c == d then v d else pos 0)) → ((k : ℕ) → sum_of f (forms_for k) ≡ pos 0) → sum_of f (labels_of system cells group) ≡ v c
caps_sum system cells group f c v below own caps forms =
    let chosen : (d : ℕ) → (if group d then sum_of f (caps_for cells d) else pos 0) ≡ (if c == d then v d else pos 0) = λ d.
    elim (group d) as (λ b. group d ≡ b → (if b then sum_of f (caps_for cells d) else pos 0) ≡ (if c == d then v d else pos 0)) [
      | true ↦ λ _. caps d
      | false ↦ λ out.
          elim (c == d) as (λ b. (c == d) ≡ b → pos 0 ≡ (if b then v d else pos 0)) [
            | true ↦ λ same. absurd (let eq : c ≡ d = (Decides-eqb c d).0 same in let no : true ≡ false = sym own ∙ ap group eq ∙ out in cc)
            | false ↦ λ _. refl
          ] refl
    ] refl in
    let members_are : sum_of (λ d. sum_of f (caps_for cells d)) (members group system.cells) ≡ v c =
    sum_members group (λ d. sum_of f (caps_for cells d)) system.cells
    ∙ sum_below-same system.cells (λ d. if group d then sum_of f (caps_for cells d) else pos 0) (λ d. if c == d then v d else pos 0) (λ d _. chosen d)
    ∙ only system.cells c v below in
    labels_sum system cells group f ∙ omega (arith, ints, members_are, sum_none (λ k. sum_of f (forms_for k)) (met_relations group system.relations) forms)

pub one_at : (c d : ℕ) (k : ℤ) → coefficient ((d, k) ∷ []) c ≡ (if c == d then k else pos 0)
one_at c d k =
    let turned : (d == c) ≡ (c == d) = grind (arith, nat_tests) in
    sum_of-cons (λ (t : Term). if t.0 == c then t.1 else pos 0) (d, k) [] ∙ ap (λ b. (if b then k else pos 0) +ℤ pos 0) turned ∙ omega (arith, ints)

either_none : (b : Bool) → (if b then pos 0 else pos 0) ≡ pos 0
either_none true = refl
either_none false = refl

pub coefficient_flat : (f : Weighed → List Term) (rows : List Weighed) (c : ℕ) → coefficient (flat_map f rows) c ≡ sum_of (λ w. coefficient (f w) c) rows
coefficient_flat f rows c = sum_flat (λ (t : Term). if t.0 == c then t.1 else pos 0) f rows

above_at : (system : System) (cells : List Cell) (group : Group) (w : Label → ℤ) (c : ℕ) → c < system.cells → group c ≡ true → coefficient (aboves (weighed w (labels_of system cells group))) c ≡ (if is_bounded cells c then w (CapAbove c) else pos 0)
above_at system cells group w c below own =
    let f : Label → ℤ = λ label. coefficient (aboves_for (w label) label) c in
    let caps : (d : ℕ) → sum_of f (caps_for cells d) ≡ (if c == d then (if is_bounded cells d then w (CapAbove d) else pos 0) else pos 0) = λ d.
    elim (is_bounded cells d) as (λ b. sum_of f (if b then CapAbove d ∷ CapBelow d ∷ [] else CapBelow d ∷ []) ≡ (if c == d then (if b then w (CapAbove d) else pos 0) else pos 0)) [
      | true ↦ sum_two f (CapAbove d) (CapBelow d) ∙ omega (arith, ints, one_at c d (w (CapAbove d)))
      | false ↦ sum_of-cons f (CapBelow d) [] ∙ omega (arith, ints, either_none (c == d))
    ] in
    coefficient_flat (λ w. aboves_for w.0 w.1) (weighed w (labels_of system cells group)) c
    ∙ sum_of-map (λ (w : Weighed). coefficient (aboves_for w.0 w.1) c) (λ (label : Label). (w label, label)) (labels_of system cells group)
    ∙ caps_sum system cells group f c (λ d. if is_bounded cells d then w (CapAbove d) else pos 0) below own caps (λ k. sum_two f (Form k) (Negated k) ∙ omega (arith, ints))

below_at : (system : System) (cells : List Cell) (group : Group) (w : Label → ℤ) (c : ℕ) → c < system.cells → group c ≡ true → coefficient (belows (weighed w (labels_of system cells group))) c ≡ w (CapBelow c)
below_at system cells group w c below own =
    let f : Label → ℤ = λ label. coefficient (belows_for (w label) label) c in
    let caps : (d : ℕ) → sum_of f (caps_for cells d) ≡ (if c == d then w (CapBelow d) else pos 0) = λ d.
    elim (is_bounded cells d) as (λ b. sum_of f (if b then CapAbove d ∷ CapBelow d ∷ [] else CapBelow d ∷ []) ≡ (if c == d then w (CapBelow d) else pos 0)) [
      | true ↦ sum_two f (CapAbove d) (CapBelow d) ∙ omega (arith, ints, one_at c d (w (CapBelow d)))
      | false ↦ sum_of-cons f (CapBelow d) [] ∙ omega (arith, ints, one_at c d (w (CapBelow d)))
    ] in
    coefficient_flat (λ w. belows_for w.0 w.1) (weighed w (labels_of system cells group)) c
    ∙ sum_of-map (λ (w : Weighed). coefficient (belows_for w.0 w.1) c) (λ (label : Label). (w label, label)) (labels_of system cells group)
    ∙ caps_sum system cells group f c (λ d. w (CapBelow d)) below own caps (λ k. sum_two f (Form k) (Negated k) ∙ omega (arith, ints))

-- the weights at a relation's rows make its multiplier
pub two_sides : (m : ℤ) → weight_of m -ℤ weight_of (neg_ℤ m) ≡ m
two_sides m =
    elim (int_lt (pos 0) m) as (λ b. int_lt (pos 0) m ≡ b → (if b then m else pos 0) -ℤ weight_of (neg_ℤ m) ≡ m) [
      | true ↦ λ is.
          elim (int_lt (pos 0) (neg_ℤ m)) as (λ b. int_lt (pos 0) (neg_ℤ m) ≡ b → m -ℤ (if b then neg_ℤ m else pos 0) ≡ m) [
            | true ↦ λ also. let up : pos 1 ≤ℤ m = grind (arith, ints) in let down : pos 1 ≤ℤ neg_ℤ m = grind (arith, ints) in absurd (omega (arith, ints))
            | false ↦ λ also. omega (arith, ints)
          ] refl
      | false ↦ λ is.
          elim (int_lt (pos 0) (neg_ℤ m)) as (λ b. int_lt (pos 0) (neg_ℤ m) ≡ b → pos 0 -ℤ (if b then neg_ℤ m else pos 0) ≡ m) [
            | true ↦ λ also. omega (arith, ints)
            | false ↦ λ also. let up : m ≤ℤ pos 0 = grind (arith, ints) in let down : neg_ℤ m ≤ℤ pos 0 = grind (arith, ints) in omega (arith, ints)
          ] refl
    ] refl

one_value : (numbers : Numbers) (d : ℕ) (k : ℤ) → value_of numbers ((d, k) ∷ []) ≡ k *ℤ numbers d
one_value numbers d k = sum_of-cons (λ (t : Term). t.1 *ℤ numbers t.0) (d, k) [] ∙ omega (arith, ints)

multiples_at : (system : System) (cells : List Cell) (flags : List Bool) (group : Group) (question : Question) (q : ℤ) (l : Numbers) (numbers : Numbers) →
    value_of numbers (multiples (weighed (λ label. weight_of (pressure system flags group question q l label)) (labels_of system cells group))) ≡ sum_of (λ k. l k *ℤ numbers k) (met_relations group system.relations)
multiples_at system cells flags group question q l numbers =
    let w : Label → ℤ = λ label. weight_of (pressure system flags group question q l label) in
    let f : Label → ℤ = λ label. value_of numbers (terms_of_label (w label) label) in
    let caps : (d : ℕ) → sum_of f (caps_for cells d) ≡ pos 0 = λ d.
    elim (is_bounded cells d) as (λ b. sum_of f (if b then CapAbove d ∷ CapBelow d ∷ [] else CapBelow d ∷ []) ≡ pos 0) [
      | true ↦ sum_two f (CapAbove d) (CapBelow d) ∙ omega (arith, ints)
      | false ↦ sum_of-cons f (CapBelow d) [] ∙ omega (arith, ints)
    ] in
    let forms : (k : ℕ) → sum_of f (forms_for k) ≡ l k *ℤ numbers k = λ k.
    let plus : ℤ = weight_of (l k) in
    let minus : ℤ = weight_of (neg_ℤ (l k)) in
    let split : (a b n : ℤ) → neg_ℤ b *ℤ n +ℤ a *ℤ n ≡ (a -ℤ b) *ℤ n = λ a b n. differ a b n in
    sum_two f (Form k) (Negated k)
    ∙ ap (λ z. z +ℤ value_of numbers ((k, plus) ∷ [])) (one_value numbers k (neg_ℤ minus))
    ∙ ap (λ z. neg_ℤ minus *ℤ numbers k +ℤ z) (one_value numbers k plus)
    ∙ split plus minus (numbers k)
    ∙ ap (λ z. z *ℤ numbers k) (two_sides (l k)) in
    sum_flat (λ (t : Term). t.1 *ℤ numbers t.0) (λ (w : Weighed). terms_of_label w.0 w.1) (weighed w (labels_of system cells group))
    ∙ sum_of-map (λ (w : Weighed). value_of numbers (terms_of_label w.0 w.1)) (λ (label : Label). (w label, label)) (labels_of system cells group)
    ∙ labels_sum system cells group f
    ∙ omega (arith, ints, sum_none (λ d. sum_of f (caps_for cells d)) (members group system.cells) caps, sum_same (λ k. sum_of f (forms_for k)) (λ k. l k *ℤ numbers k) (met_relations group system.relations) forms)
  where
    differ : (a b n : ℤ) → neg_ℤ b *ℤ n +ℤ a *ℤ n ≡ (a -ℤ b) *ℤ n
    differ a b n = omega (arith, ints, minus_times b n, distrib_right n a (neg_ℤ b), ap (λ z. z *ℤ n) (less a b))
      where
        less : (a b : ℤ) → a +ℤ neg_ℤ b ≡ a -ℤ b
        less a b = omega (arith, ints)

-- ---- the reduced numbers

weighed_column : (system : System) (cells : List Cell) (flags : List Bool) (group : Group) (question : Question) (q : ℤ) (l : Numbers) (column : ℕ) →
    sum_below (suc (length (labels_of system cells group))) (λ k. weight_at system cells flags group question q l k *ℤ coefficient (problems.row_at (problem_of system cells group question) k).entries column)
    ≡ sum_of (λ (w : Weighed). w.0 *ℤ coefficient (row_of system cells group w.1).entries column) (weighed (λ label. weight_of (pressure system flags group question q l label)) (labels_of system cells group))
weighed_column system cells flags group question q l column =
    let w : Label → ℤ = λ label. weight_of (pressure system flags group question q l label) in
    sum_rows (row_of system cells group) w (λ (row : LinRow). coefficient row.entries column) (problems.target_row (problem_of system cells group question)) problems.no_row (labels_of system cells group)
    ∙ sym (sum_of-map (λ (w : Weighed). w.0 *ℤ coefficient (row_of system cells group w.1).entries column) (λ (label : Label). (w label, label)) (labels_of system cells group))

pub record ReducedAt (system : System) (cells : List Cell) (flags : List Bool) (group : Group) (question : Question) (q : ℤ) (l : Numbers) (m c : ℕ) : Type 0 where
  pub up : sum_below m (λ k. weight_at system cells flags group question q l k *ℤ coefficient (problems.row_at (problem_of system cells group question) k).entries (up_column group c)) -ℤ q *ℤ coefficient (problem_of system cells group question).objective (up_column group c)
      ≡ (if is_bounded cells c then weight_of (pressure system flags group question q l (CapAbove c)) else pos 0) -ℤ left_over system group question q l c
  pub down : sum_below m (λ k. weight_at system cells flags group question q l k *ℤ coefficient (problems.row_at (problem_of system cells group question) k).entries (down_column group c)) -ℤ q *ℤ coefficient (problem_of system cells group question).objective (down_column group c)
      ≡ weight_of (pressure system flags group question q l (CapBelow c)) +ℤ left_over system group question q l c

pub reduced_at : (system : System) (cells : List Cell) (flags : List Bool) (group : Group) (question : Question) (q : ℤ) (l : Numbers) (c : ℕ) → c < system.cells → group c ≡ true → ReducedAt system cells flags group question q l (suc (length (labels_of system cells group))) c
reduced_at system cells flags group question q l c below own =
    let w : Label → ℤ = λ label. weight_of (pressure system flags group question q l label) in
    let all : List Label = labels_of system cells group in
    let rows : List Weighed = weighed w all in
    let named : All (λ (w : Weighed). IsLabel system cells group w.1) rows = All-map (λ (w : Weighed). IsLabel system cells group w.1) (λ (label : Label). (w label, label)) all (labels_are system cells group) in
    let move : ℤ = coefficient (asked_move question.cell question.side) c in
    let many = multiples_at system cells flags group question q l (has_at system.relations c) in
    record {
      up = omega (arith, ints, weighed_column system cells flags group question q l (up_column group c), all_up system cells group c rows below own named, above_at system cells group w c below own, many, ap (λ z. q *ℤ z) (entries_up group system.cells c (asked_move question.cell question.side) below own));
      down = omega (arith, ints, weighed_column system cells flags group question q l (down_column group c), all_down system cells group c rows below own named, below_at system cells group w c below own, many, ap (λ z. q *ℤ z) (entries_down group system.cells c (asked_move question.cell question.side) below own) ∙ times_minus q move);
    }
