-- Cells that relations link, those that meet in a forest, and those of one component.
use Rattle.std.proofs.Common.{◌≡◌, ℕ, zero, suc, ◌+◌, ◌<◌, ◌≤◌, ◌==◌, ◌||◌, Bool, true, false, List, [], ◌∷◌, ◌++◌, length, take, slice_get, slice_index, Option, Some, ◌⊎◌, inl, inr, arith, refl, ap, sym, ◌∙◌, subst}
use Rattle.std.specs.List.{list_any, range_with_len}
use Rattle.std.specs.Prelude.{Result, Ok, Err, IfOk}
use Rattle.std.proofs.lemmas.Bool.Decides.{Decides-eqb}
use Rattle.std.proofs.lemmas.List.Folds.{list_any-append}
use Rattle.std.proofs.lemmas.List.{get_or_past, take_all, take_more}
use Rattle.std.proofs.lemmas.List.FromFn.{get_or-range_with_len, length-range_with_len}
use Rattle.sdc_base.specs.declared.relation.Relation.{Relation}
use Rattle.sdc_base.specs.HiddenSets.{is_hidden}
use Rattle.sdc_base.specs.Components.{AreComponents, IsChain, AreLinked, component, mentions}
use Rattle.sdc_base.specs.Forests.{AreNumbered, IsForest, Joins, LeadsTo, Meet, ascend}
use Rattle.sdc_base.proofs.Chains.{linked-same}
use Rattle.sdc_base.proofs.Forest.{leads-to_end, meet-linked, meet-then, meet-turned}

lt_or_le : (a b : ℕ) → (a < b) ⊎ (b ≤ a)
lt_or_le a b = grind arith

-- a hidden cell is one of the cells
pub hidden-inside : (flags : List Bool) (cell : ℕ) → is_hidden flags cell ≡ true → cell < length flags
hidden-inside flags cell h = by (lt_or_le cell (length flags))
  where
    by : (cell < length flags) ⊎ (length flags ≤ cell) → cell < length flags
    by (inl inside) = inside
    by (inr past) = let shown : false ≡ true = sym (get_or_past flags cell false past) ∙ h in absurd cc

-- relations link hidden cells to hidden cells
pub linked-hidden : (relations : List Relation) (flags : List Bool) (one other : ℕ) → AreLinked relations flags one other → is_hidden flags one ≡ true → is_hidden flags other ≡ true
linked-hidden relations flags one other h hidden = by h.0 one h.1 hidden
  where
    by : (steps one : ℕ) → IsChain relations flags steps one other → is_hidden flags one ≡ true → is_hidden flags other ≡ true
    by zero one same hidden = ap (is_hidden flags) (sym same) ∙ hidden
    by (suc steps) one chain hidden = by steps chain.0 chain.2 chain.1.other_hidden

-- each cell by itself
pub forest-alone : (relations : List Relation) (flags : List Bool) (cells : ℕ) → IsForest relations flags cells (range_with_len 0 cells)
forest-alone relations flags cells = record {
  each = length-range_with_len 0 cells;
  falls = λ cell. by cell (lt_or_le cell cells);
  links = λ cell inside. linked-same relations flags cell (slice_index (range_with_len 0 cells) cell) (sym (itself cell inside));
}
  where
    itself : (cell : ℕ) → cell < cells → slice_index (range_with_len 0 cells) cell ≡ cell
    itself cell inside = let at : 0 + cell ≡ cell = omega arith in get_or-range_with_len 0 cells cell 0 inside ∙ at

    by : (cell : ℕ) → (cell < cells) ⊎ (cells ≤ cell) → slice_index (range_with_len 0 cells) cell ≤ cell
    by cell (inl inside) = omega (arith, itself cell inside)
    by cell (inr past) = let none : slice_index (range_with_len 0 cells) cell ≡ 0 = get_or_past (range_with_len 0 cells) cell 0 (omega (arith, past, length-range_with_len 0 cells)) in omega (arith, none)

-- ---- cells of one component

-- a cell is in the component of each cell that it leads to
leads-component : (relations : List Relation) (flags : List Bool) (cells : ℕ) (lower : List ℕ) (of : List (Option ℕ)) (sizes : List ℕ) → IsForest relations flags cells lower → AreNumbered flags lower of sizes → length of ≡ cells → length flags ≡ cells
    → (cell root : ℕ) → is_hidden flags cell ≡ true → LeadsTo lower cell root → component of cell ≡ component of root
leads-component relations flags cells lower of sizes forest is each long cell root hidden h = by h.0 cell hidden h.1
  where
    by : (steps cell : ℕ) → is_hidden flags cell ≡ true → ascend lower steps cell ≡ root → component of cell ≡ component of root
    by zero cell hidden same = ap (component of) same
    by (suc steps) cell hidden up =
        let inside = hidden-inside flags cell hidden in
        is.same cell (omega (arith, inside, each, long)) hidden
        ∙ by steps (slice_index lower cell) (linked-hidden relations flags cell (slice_index lower cell) (forest.links cell (omega (arith, inside, long))) hidden) up

pub components-are : (relations : List Relation) (flags : List Bool) (cells : ℕ) (lower : List ℕ) (of : List (Option ℕ)) (sizes : List ℕ) → IsForest relations flags cells lower
    → ((number : ℕ) (one : Relation) → slice_get relations number ≡ Some one → Joins flags lower one) → AreNumbered flags lower of sizes → length of ≡ cells → length flags ≡ cells → AreComponents relations flags of sizes
components-are relations flags cells lower of sizes forest joined is each long = record {
  each = each ∙ sym long;
  shown = is.shown;
  hidden = has;
  linked = λ one other hidden hidden_other. (to one other hidden hidden_other, λ h. from h.0 one other hidden h.1);
  within = is.below;
  used = is.all;
  ascending = is.first;
  counted = is.counted;
}
  where
    has : (cell : ℕ) → is_hidden flags cell ≡ true → (number : ℕ) × (component of cell ≡ Some number)
    has cell hidden = let inside = hidden-inside flags cell hidden in is.hidden cell (omega (arith, inside, each, long)) hidden

    leads : (cell root : ℕ) → is_hidden flags cell ≡ true → LeadsTo lower cell root → component of cell ≡ component of root
    leads = leads-component relations flags cells lower of sizes forest is each long

    to : (one other : ℕ) → is_hidden flags one ≡ true → is_hidden flags other ≡ true → component of one ≡ component of other → AreLinked relations flags one other
    to one other hidden hidden_other same =
        let first = leads-to_end lower forest.falls one in
        let second = leads-to_end lower forest.falls other in
        let number = has one hidden in
        let first_is : component of first.0 ≡ Some number.0 = sym (leads one first.0 hidden first.1) ∙ number.1 in
        let second_is : component of second.0 ≡ Some number.0 = sym (leads other second.0 hidden_other second.1) ∙ sym same ∙ number.1 in
        let root : first.0 ≡ second.0 = is.apart first.0 second.0 number.0 first.2 second.2 first_is second_is in
        let inside = hidden-inside flags one hidden in
        let within = hidden-inside flags other hidden_other in
        meet-linked relations flags cells lower forest one other (omega (arith, inside, long)) (omega (arith, within, long)) (first.0, first.1, subst (λ there. LeadsTo lower other there) (sym root) second.1)

    from : (steps one other : ℕ) → is_hidden flags one ≡ true → IsChain relations flags steps one other → component of one ≡ component of other
    from zero one other hidden same = ap (component of) same
    from (suc steps) one other hidden chain =
        let step = chain.1 in
        let meet = joined step.number step.relation step.at one chain.0 step.one_hidden step.other_hidden step.names_one step.names_other in
        leads one meet.0 hidden meet.1 ∙ sym (leads chain.0 meet.0 step.other_hidden meet.2) ∙ from steps chain.0 other step.other_hidden chain.2

-- one cell more by itself
pub alone-more : (n : ℕ) → range_with_len 0 (n + 1) ≡ range_with_len 0 n ++ n ∷ []
alone-more n = let next : n + 1 ≡ suc n = omega arith in let at : 0 + n ≡ n = omega arith in ap (range_with_len 0) next ∙ from 0 n ∙ ap (λ m. range_with_len 0 n ++ m ∷ []) at
  where
    from : (a n : ℕ) → range_with_len a (suc n) ≡ range_with_len a n ++ (a + n) ∷ []
    from a zero = let at : a ≡ a + zero = omega arith in ap (λ m. m ∷ []) at
    from a (suc n) = let at : (a + 1) + n ≡ a + suc n = omega arith in ap (λ rest. a ∷ rest) (from (a + 1) n ∙ ap (λ m. range_with_len (a + 1) n ++ m ∷ []) at)

-- ---- one relation after another

less_or_same : (k n : ℕ) → k < n + 1 → (k < n) ⊎ (k ≡ n)
less_or_same k n h = grind arith

same-of : {X : Type 0} {a b : X} → Some a ≡ Some b → a ≡ b
same-of h = cc

pub joins-next : (relations : List Relation) (flags : List Bool) (old new : List ℕ) (n : ℕ) (item : Relation) → slice_get relations n ≡ Some item → ((one other : ℕ) → Meet old one other → Meet new one other)
    → ((k : ℕ) (one : Relation) → k < n → slice_get relations k ≡ Some one → Joins flags old one) → Joins flags new item → (k : ℕ) (one : Relation) → k < n + 1 → slice_get relations k ≡ Some one → Joins flags new one
joins-next relations flags old new n item here kept before joined k one below at = by (less_or_same k n below)
  where
    by : (k < n) ⊎ (k ≡ n) → Joins flags new one
    by (inl less) = λ first second hidden hidden_second named named_second. kept first second (before k one less at first second hidden hidden_second named named_second)
    by (inr same) = let item_is : item ≡ one = same-of (sym here ∙ ap (slice_get relations) (sym same) ∙ at) in subst (Joins flags new) item_is joined

-- ---- one cell of a relation after another

-- the parts that come first, and the total
abbrev pub names_first : ℕ → List ℕ → ℕ → ℕ → Bool
names_first total parts k cell = total == cell || list_any (λ part. part == cell) (take k parts)

or-false : (b : Bool) → (b || false) ≡ true → b ≡ true
or-false true h = refl
or-false false h = cc

either : (a b : Bool) → (a || b) ≡ true → (a ≡ true) ⊎ (b ≡ true)
either true b h = inl refl
either false b h = inr h

or-true : (a : Bool) → (a || true) ≡ true
or-true true = refl
or-true false = refl

pub total-joined : (flags : List Bool) (lower : List ℕ) (first total : ℕ) → (is_hidden flags total ≡ true → Meet lower first total) → (cell : ℕ) → (total == cell || false) ≡ true → is_hidden flags cell ≡ true → Meet lower first cell
total-joined flags lower first total joined cell named hidden =
    let same : total ≡ cell = (Decides-eqb total cell).0 (or-false (total == cell) named) in
    subst (Meet lower first) same (joined (ap (is_hidden flags) same ∙ hidden))

pub part-named : (r : Relation) (k : ℕ) → k < length r.parts → mentions r (slice_index r.parts k) ≡ true
part-named r k inside = ap (λ b. r.total == slice_index r.parts k || b) (among r.parts k inside) ∙ or-true (r.total == slice_index r.parts k)
  where
    among : (parts : List ℕ) (k : ℕ) → k < length parts → list_any (λ part. part == slice_index parts k) parts ≡ true
    among [] k inside = absurd (omega (arith, inside))
    among (part ∷ parts) zero inside = let here : (part == part) ≡ true = (Decides-eqb part part).1 refl in rw here refl
    among (part ∷ parts) (suc k) inside = ap (λ b. part == slice_index parts k || b) (among parts k (omega (arith, inside))) ∙ or-true (part == slice_index parts k)

pub part-joined : (flags : List Bool) (old new : List ℕ) (first total : ℕ) (parts : List ℕ) (k : ℕ) → k < length parts → ((one other : ℕ) → Meet old one other → Meet new one other)
    → ((cell : ℕ) → names_first total parts k cell ≡ true → is_hidden flags cell ≡ true → Meet old first cell) → (is_hidden flags (slice_index parts k) ≡ true → Meet new first (slice_index parts k))
    → (cell : ℕ) → names_first total parts (k + 1) cell ≡ true → is_hidden flags cell ≡ true → Meet new first cell
part-joined flags old new first total parts k inside kept before joined cell named hidden = by (either (names_first total parts k cell) (slice_index parts k == cell || false) (sym regroup ∙ named))
  where
    group : (a b c : Bool) → (a || (b || c)) ≡ ((a || b) || c)
    group true b c = refl
    group false b c = refl

    regroup : names_first total parts (k + 1) cell ≡ (names_first total parts k cell || (slice_index parts k == cell || false))
    regroup =
        ap (λ list. total == cell || list_any (λ part. part == cell) list) (take_more parts k 0 inside)
        ∙ ap (λ b. total == cell || b) (list_any-append (λ part. part == cell) (take k parts) (slice_index parts k ∷ []))
        ∙ group (total == cell) (list_any (λ part. part == cell) (take k parts)) (slice_index parts k == cell || false)

    by : (names_first total parts k cell ≡ true) ⊎ ((slice_index parts k == cell || false) ≡ true) → Meet new first cell
    by (inl earlier) = kept first cell (before cell earlier hidden)
    by (inr here) = total-joined flags new first (slice_index parts k) joined cell here hidden

pub all-joined : (flags : List Bool) (lower : List ℕ) (first : ℕ) (r : Relation) (k : ℕ) → length r.parts ≤ k → ((cell : ℕ) → slice_index lower cell ≤ cell)
    → ((cell : ℕ) → names_first r.total r.parts k cell ≡ true → is_hidden flags cell ≡ true → Meet lower first cell) → Joins flags lower r
all-joined flags lower first r k past falls joined = λ one other hidden hidden_other named named_other.
    meet-then lower falls one first other (meet-turned lower first one (joined one (whole one ∙ named) hidden)) (joined other (whole other ∙ named_other) hidden_other)
  where
    whole : (cell : ℕ) → names_first r.total r.parts k cell ≡ mentions r cell
    whole cell = ap (λ list. r.total == cell || list_any (λ part. part == cell) list) (take_all k r.parts past)

-- ---- what holds of an answer

pub both-Ok : {X E : Type 0} (r : Result X E) (P Q R : X → Type 0) → ((x : X) → P x → Q x → R x) → IfOk r P → IfOk r Q → IfOk r R
both-Ok (Ok x) P Q R so p q = so x p q
both-Ok (Err e) P Q R so p q = tt
