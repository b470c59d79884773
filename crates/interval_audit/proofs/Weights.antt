-- What weights of rows have at the columns of a cell, and what they make of the bounds.
use Rattle.std.proofs.Common.{◌≡◌, ℕ, ◌<◌, ◌==◌, Bool, true, false, List, [], ◌∷◌, ◌++◌, map, length, is_some, slice_get, All, ℤ, pos, negsuc, neg_ℤ, ◌+ℤ◌, ◌-ℤ◌, ◌*ℤ◌, arith, refl, ap, sym, ◌∙◌, if◌then◌else◌}
use Rattle.std.specs.List.{flat_map, zip}
use Rattle.std.specs.Option.{option_map_or}
use Rattle.std.proofs.Math.IntN.{*ℤ_comm}
use Rattle.std.proofs.lemmas.Int.{ints}
use Rattle.std.proofs.lemmas.List.Elements.{All-nil, All-cons, All-head, All-tail, All-append}
use Rattle.sdc_base.specs.declared.cell.Cell.{Cell}
use Rattle.sdc_base.specs.declared.system.System.{System}
use Rattle.sdc_base.specs.Totals.{sum_of}
use Rattle.sdc_base.specs.Forms.{Term, coefficient}
use Rattle.sdc_base.specs.Systems.{Numbers}
use Rattle.sdc_base.proofs.WholeNumbers.{minus_times}
use Rattle.sdc_base.proofs.TotalLemmas.{sum_of-cons, sum_of-append}
use Rattle.sdc_base.proofs.WeakDual.{value_of}
use Rattle.interval_audit.specs.Groups.{Group, members}
use Rattle.interval_audit.specs.Columns.{up_column, down_column}
use Rattle.interval_audit.specs.Labels.{Label, CapAbove, CapBelow, Form, Negated, caps_for, forms_for, met_relations, labels, form_at, rise_at, fall_at, terms_of_label}
use Rattle.interval_audit.specs.Problems.{row_of}
use Rattle.interval_audit.proofs.Ranks.{All-members}
use Rattle.interval_audit.proofs.Members.{All-flat}
use Rattle.interval_audit.proofs.Spread.{entries_up, entries_down, up_up, down_down, up_down, down_up, times_minus}
use Rattle.interval_audit.proofs.Points.{meets}
use Rattle.interval_audit.proofs.Forms.{chosen, has_at, form_at_scaled}

-- a row with its weight
abbrev pub Weighed : Type 0
Weighed = ℤ × Label

-- the weights at caps above, each with its cell; and at caps below
abbrev pub aboves_for : ℤ → Label → List Term
aboves_for weight (CapAbove cell) = (cell, weight) ∷ []
aboves_for weight (CapBelow cell) = []
aboves_for weight (Form number) = []
aboves_for weight (Negated number) = []

abbrev pub belows_for : ℤ → Label → List Term
belows_for weight (CapAbove cell) = []
belows_for weight (CapBelow cell) = (cell, weight) ∷ []
belows_for weight (Form number) = []
belows_for weight (Negated number) = []

abbrev pub aboves : List Weighed → List Term
aboves rows = flat_map (λ w. aboves_for w.0 w.1) rows

abbrev pub belows : List Weighed → List Term
belows rows = flat_map (λ w. belows_for w.0 w.1) rows

abbrev pub multiples : List Weighed → List Term
multiples rows = flat_map (λ w. terms_of_label w.0 w.1) rows

-- whether a cell has an upper bound
abbrev pub is_bounded : List Cell → ℕ → Bool
is_bounded cells number = option_map_or (λ cell. is_some cell.high) (slice_get cells number) false

-- a label of the problem
abbrev pub IsLabel : System → List Cell → Group → Label → Type 0
IsLabel system cells group (CapAbove cell) = (cell < system.cells) × (group cell ≡ true) × (is_bounded cells cell ≡ true)
IsLabel system cells group (CapBelow cell) = (cell < system.cells) × (group cell ≡ true)
IsLabel system cells group (Form number) = meets group system.relations number ≡ true
IsLabel system cells group (Negated number) = meets group system.relations number ≡ true

caps_are : (system : System) (cells : List Cell) (group : Group) (c : ℕ) → c < system.cells → group c ≡ true → All (IsLabel system cells group) (caps_for cells c)
caps_are system cells group c below own = by (is_bounded cells c) refl
  where
    by : (b : Bool) → is_bounded cells c ≡ b → All (IsLabel system cells group) (if b then CapAbove c ∷ CapBelow c ∷ [] else CapBelow c ∷ [])
    by true is = All-cons (IsLabel system cells group) (CapAbove c) (CapBelow c ∷ []) (below, own, is) (All-cons (IsLabel system cells group) (CapBelow c) [] (below, own) (All-nil (IsLabel system cells group)))
    by false is = All-cons (IsLabel system cells group) (CapBelow c) [] (below, own) (All-nil (IsLabel system cells group))

pub labels_are : (system : System) (cells : List Cell) (group : Group) → All (IsLabel system cells group) (labels system.relations cells group system.cells)
labels_are system cells group =
    let L : Label → Type 0 = IsLabel system cells group in
    All-append L (flat_map (caps_for cells) (members group system.cells)) (flat_map forms_for (met_relations group system.relations))
    (All-flat L (caps_for cells) (members group system.cells) (All-members group (λ c. All L (caps_for cells c)) system.cells (λ c below own. caps_are system cells group c below own)))
    (All-flat L forms_for (met_relations group system.relations) (All-members (meets group system.relations) (λ number. All L (forms_for number)) (length system.relations)
    (λ number below test. All-cons L (Form number) (Negated number ∷ []) test (All-cons L (Negated number) [] test (All-nil L)))))

-- ---- pairs of weights and labels

pub zip_right : {X Y : Type 0} (P : Y → Type 0) (xs : List X) (ys : List Y) → All P ys → All (λ (p : X × Y). P p.1) (zip xs ys)
zip_right P [] ys all = All-nil (λ p. P p.1)
zip_right P (x ∷ xs) [] all = All-nil (λ p. P p.1)
zip_right P (x ∷ xs) (y ∷ ys) all = All-cons (λ p. P p.1) (x, y) (zip xs ys) (All-head P y ys all) (zip_right P xs ys (All-tail P y ys all))

pub zip_left : {X Y : Type 0} (P : X → Type 0) (xs : List X) (ys : List Y) → All P xs → All (λ (p : X × Y). P p.0) (zip xs ys)
zip_left P [] ys all = All-nil (λ p. P p.0)
zip_left P (x ∷ xs) [] all = All-nil (λ p. P p.0)
zip_left P (x ∷ xs) (y ∷ ys) all = All-cons (λ p. P p.0) (x, y) (zip xs ys) (All-head P x xs all) (zip_left P xs ys (All-tail P x xs all))

pub sum_zip : {X Y Z : Type 0} (f : X × Z → ℤ) (g : Y → Z) (xs : List X) (ys : List Y) → sum_of f (zip xs (map g ys)) ≡ sum_of (λ (p : X × Y). f (p.0, g p.1)) (zip xs ys)
sum_zip f g [] ys = refl
sum_zip f g (x ∷ xs) [] = refl
sum_zip f g (x ∷ xs) (y ∷ ys) = omega (arith, ints, sum_zip f g xs ys, sum_of-cons f (x, g y) (zip xs (map g ys)), sum_of-cons (λ p. f (p.0, g p.1)) (x, y) (zip xs ys))

-- ---- one row

one_term : (c d : ℕ) (k : ℤ) → coefficient ((d, k) ∷ []) c ≡ (if d == c then k else pos 0)
one_term c d k = sum_of-cons (λ (t : Term). if t.0 == c then t.1 else pos 0) (d, k) [] ∙ omega (arith, ints)

one_value : (numbers : Numbers) (d : ℕ) (k : ℤ) → value_of numbers ((d, k) ∷ []) ≡ k *ℤ numbers d
one_value numbers d k = sum_of-cons (λ (t : Term). t.1 *ℤ numbers t.0) (d, k) [] ∙ omega (arith, ints)

same_column : (column own : ℕ) (b : Bool) (weight : ℤ) → (own == column) ≡ b → weight *ℤ coefficient ((own, pos 1) ∷ []) column ≡ (if b then weight else pos 0)
same_column column own b weight is =
    ap (λ z. weight *ℤ z) (one_term column own (pos 1) ∙ ap (λ t. if t then pos 1 else pos 0) is) ∙ sym (chosen b weight)

at_up : (system : System) (cells : List Cell) (group : Group) (c : ℕ) (weight : ℤ) (label : Label) → c < system.cells → group c ≡ true → IsLabel system cells group label
    → weight *ℤ coefficient (row_of system cells group label).entries (up_column group c) ≡ coefficient (aboves_for weight label) c -ℤ value_of (has_at system.relations c) (terms_of_label weight label)
at_up system cells group c weight (CapAbove d) below own is =
    same_column (up_column group c) (up_column group d) (d == c) weight (up_up group d c is.1 own) ∙ omega (arith, ints, one_term c d weight)
at_up system cells group c weight (CapBelow d) below own is =
    same_column (up_column group c) (down_column group d) false weight (down_up group d c) ∙ omega (arith, ints)
at_up system cells group c weight (Form number) below own is =
    ap (λ z. weight *ℤ z) (entries_up group system.cells c (form_at system.relations (pos 1) number) below own)
    ∙ omega (arith, ints, one_value (has_at system.relations c) number (neg_ℤ weight), minus_times weight (has_at system.relations c number))
at_up system cells group c weight (Negated number) below own is =
    ap (λ z. weight *ℤ z) (entries_up group system.cells c (form_at system.relations (negsuc 0) number) below own ∙ form_at_scaled system.relations (negsuc 0) number c ∙ minus_times (pos 1) (has_at system.relations c number))
    ∙ omega (arith, ints, one_value (has_at system.relations c) number weight, times_minus weight (pos 1 *ℤ has_at system.relations c number), ap (λ z. weight *ℤ z) (one_times (has_at system.relations c number)))
  where
    one_times : (z : ℤ) → pos 1 *ℤ z ≡ z
    one_times z = omega (arith, ints)

at_down : (system : System) (cells : List Cell) (group : Group) (c : ℕ) (weight : ℤ) (label : Label) → c < system.cells → group c ≡ true → IsLabel system cells group label
    → weight *ℤ coefficient (row_of system cells group label).entries (down_column group c) ≡ coefficient (belows_for weight label) c +ℤ value_of (has_at system.relations c) (terms_of_label weight label)
at_down system cells group c weight (CapAbove d) below own is =
    same_column (down_column group c) (up_column group d) false weight (up_down group d c) ∙ omega (arith, ints)
at_down system cells group c weight (CapBelow d) below own is =
    same_column (down_column group c) (down_column group d) (d == c) weight (down_down group d c is.1 own) ∙ omega (arith, ints, one_term c d weight)
at_down system cells group c weight (Form number) below own is =
    ap (λ z. weight *ℤ z) (entries_down group system.cells c (form_at system.relations (pos 1) number) below own)
    ∙ omega (arith, ints, one_value (has_at system.relations c) number (neg_ℤ weight), minus_times weight (has_at system.relations c number), times_minus weight (has_at system.relations c number))
at_down system cells group c weight (Negated number) below own is =
    ap (λ z. weight *ℤ z) (entries_down group system.cells c (form_at system.relations (negsuc 0) number) below own ∙ ap neg_ℤ (form_at_scaled system.relations (negsuc 0) number c) ∙ twice (has_at system.relations c number))
    ∙ omega (arith, ints, one_value (has_at system.relations c) number weight)
  where
    twice : (z : ℤ) → neg_ℤ (negsuc 0 *ℤ z) ≡ z
    twice z = omega (arith, ints)

at_bound : (system : System) (cells : List Cell) (group : Group) (weight : ℤ) (label : Label) → weight *ℤ (row_of system cells group label).bound ≡ value_of (rise_at cells) (aboves_for weight label) +ℤ value_of (fall_at cells) (belows_for weight label)
at_bound system cells group weight (CapAbove d) = omega (arith, ints, one_value (rise_at cells) d weight)
at_bound system cells group weight (CapBelow d) = omega (arith, ints, one_value (fall_at cells) d weight)
at_bound system cells group weight (Form number) = omega (arith, ints, *ℤ_comm weight (pos 0))
at_bound system cells group weight (Negated number) = omega (arith, ints, *ℤ_comm weight (pos 0))

-- ---- all rows

coefficient-append : (xs ys : List Term) (c : ℕ) → coefficient (xs ++ ys) c ≡ coefficient xs c +ℤ coefficient ys c
coefficient-append xs ys c = sum_of-append (λ (t : Term). if t.0 == c then t.1 else pos 0) xs ys

value-append : (numbers : Numbers) (xs ys : List Term) → value_of numbers (xs ++ ys) ≡ value_of numbers xs +ℤ value_of numbers ys
value-append numbers xs ys = sum_of-append (λ (t : Term). t.1 *ℤ numbers t.0) xs ys

pub all_up : (system : System) (cells : List Cell) (group : Group) (c : ℕ) (rows : List Weighed) → c < system.cells → group c ≡ true → All (λ (w : Weighed). IsLabel system cells group w.1) rows
    → sum_of (λ (w : Weighed). w.0 *ℤ coefficient (row_of system cells group w.1).entries (up_column group c)) rows ≡ coefficient (aboves rows) c -ℤ value_of (has_at system.relations c) (multiples rows)
all_up system cells group c [] below own all = refl
all_up system cells group c (w ∷ rows) below own all =
    sum_of-cons (λ (w : Weighed). w.0 *ℤ coefficient (row_of system cells group w.1).entries (up_column group c)) w rows
    ∙ omega (arith, ints, at_up system cells group c w.0 w.1 below own (All-head (λ (w : Weighed). IsLabel system cells group w.1) w rows all), all_up system cells group c rows below own (All-tail (λ (w : Weighed). IsLabel system cells group w.1) w rows all), coefficient-append (aboves_for w.0 w.1) (aboves rows) c, value-append (has_at system.relations c) (terms_of_label w.0 w.1) (multiples rows))

pub all_down : (system : System) (cells : List Cell) (group : Group) (c : ℕ) (rows : List Weighed) → c < system.cells → group c ≡ true → All (λ (w : Weighed). IsLabel system cells group w.1) rows
    → sum_of (λ (w : Weighed). w.0 *ℤ coefficient (row_of system cells group w.1).entries (down_column group c)) rows ≡ coefficient (belows rows) c +ℤ value_of (has_at system.relations c) (multiples rows)
all_down system cells group c [] below own all = refl
all_down system cells group c (w ∷ rows) below own all =
    sum_of-cons (λ (w : Weighed). w.0 *ℤ coefficient (row_of system cells group w.1).entries (down_column group c)) w rows
    ∙ omega (arith, ints, at_down system cells group c w.0 w.1 below own (All-head (λ (w : Weighed). IsLabel system cells group w.1) w rows all), all_down system cells group c rows below own (All-tail (λ (w : Weighed). IsLabel system cells group w.1) w rows all), coefficient-append (belows_for w.0 w.1) (belows rows) c, value-append (has_at system.relations c) (terms_of_label w.0 w.1) (multiples rows))

pub all_bounds : (system : System) (cells : List Cell) (group : Group) (rows : List Weighed) → sum_of (λ (w : Weighed). w.0 *ℤ (row_of system cells group w.1).bound) rows ≡ value_of (rise_at cells) (aboves rows) +ℤ value_of (fall_at cells) (belows rows)
all_bounds system cells group [] = refl
all_bounds system cells group (w ∷ rows) =
    sum_of-cons (λ (w : Weighed). w.0 *ℤ (row_of system cells group w.1).bound) w rows
    ∙ omega (arith, ints, at_bound system cells group w.0 w.1, all_bounds system cells group rows, value-append (rise_at cells) (aboves_for w.0 w.1) (aboves rows), value-append (fall_at cells) (belows_for w.0 w.1) (belows rows))
