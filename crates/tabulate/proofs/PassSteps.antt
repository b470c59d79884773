-- What cells have, passed on step by step.
use Rattle.std.proofs.Common.{◌≡◌, ◌≢◌, ℕ, zero, suc, ◌+◌, ◌-◌, ◌<◌, ◌≤◌, ◌==◌, ◌&&◌, nat_le, Bool, true, false, List, [], ◌∷◌, ◌++◌, length, slice_get, slice_set, if◌then◌else◌, Option, None, Some, option_map, refl, ap, sym, ◌∙◌, subst, arith, add-one}
use Rattle.std.specs.Option.{option_map_or}
use Rattle.std.proofs.lemmas.Bool.Decides.{nat_tests, Decides-eqb}
use Rattle.sdc_base.specs.declared.dimension.Dimension.{Dimension}
use Rattle.sdc_base.specs.declared.rows.Row.{Row}
use Rattle.linked_tables.specs.declared.mark.Mark.{Mark}
use Rattle.linked_tables.specs.BookViews.{BookView}
use Rattle.tabulate.specs.MarkRecords.{HoldsRecords, HaveOneScale, MarksHoldRecords, settings_of, settings_at}
use Rattle.tabulate.specs.UpperCells.{PassedRecords, after_cells, after_variables, goes_to, after_cell, upper_of}
use Rattle.sdc_base.proofs.ListReads.{set-here, set-there}

pub passed-none : (book : BookView) → PassedRecords book book (λ given. given)
passed-none book = record { frame = refl; kept = λ cell. refl; given = λ given start. start }

pub passed-then : (a b c : BookView) (f g : (ℕ → List Row) → ℕ → List Row) → PassedRecords a b f → PassedRecords b c g → PassedRecords a c (λ given. g (f given))
passed-then a b c f g one two = record {
  frame = two.frame ∙ ap (λ (x : BookView). record x { marks = c.marks }) one.frame;
  kept = λ cell. two.kept cell ∙ one.kept cell;
  given = λ given start. two.given (f given) (one.given given start);
}

-- in other words
pub passed-as : (a b : BookView) (f g : (ℕ → List Row) → ℕ → List Row) → ((given : ℕ → List Row) (cell : ℕ) → f given cell ≡ g given cell) → PassedRecords a b f → PassedRecords a b g
passed-as a b f g same passed = record { frame = passed.frame; kept = passed.kept; given = λ given start cell mark at. subst (HoldsRecords mark) (same given cell) (passed.given given start cell mark at) }

-- all keep as many and have one scale, as before
pub even-kept : (old new : List Mark) → ((cell : ℕ) → settings_at new cell ≡ settings_at old cell) → HaveOneScale old → HaveOneScale new
even-kept old new kept even = λ cell other mark one at there. by cell other mark one (slice_get old cell) refl (slice_get old other) refl (sym (ap (option_map settings_of) at) ∙ kept cell) (sym (ap (option_map settings_of) there) ∙ kept other)
  where
    same : {A : Type 0} {x y : A} → Some x ≡ Some y → x ≡ y
    same h = cc

    by : (cell other : ℕ) (mark one : Mark) (found : Option Mark) → slice_get old cell ≡ found → (met : Option Mark) → slice_get old other ≡ met → Some (settings_of mark) ≡ option_map settings_of found → Some (settings_of one) ≡ option_map settings_of met
        → (mark.facts.tops.keep ≡ one.facts.tops.keep) × (mark.facts.tops.scale ≡ one.facts.tops.scale)
    by cell other mark one None at met there h k = cc
    by cell other mark one (Some first) at None there h k = cc
    by cell other mark one (Some first) at (Some second) there h k =
        let both = even cell other first second at there in
        let left : settings_of mark ≡ settings_of first = same h in
        let right : settings_of one ≡ settings_of second = same k in
        (ap (λ (x : Bool × (ℕ × ℕ)). x.1.0) left ∙ both.0 ∙ sym (ap (λ (x : Bool × (ℕ × ℕ)). x.1.0) right), ap (λ (x : Bool × (ℕ × ℕ)). x.1.1) left ∙ both.1 ∙ sym (ap (λ (x : Bool × (ℕ × ℕ)). x.1.1) right))

-- one mark was given what another has
pub passed-one : (book : BookView) (upper lower : ℕ) (old new : Mark) → slice_get book.marks upper ≡ Some old → settings_of new ≡ settings_of old
    → ((given : ℕ → List Row) → MarksHoldRecords book.marks given → HoldsRecords new (given upper ++ given lower)) → PassedRecords book (record book { marks = slice_set book.marks upper new }) (λ given cell. if upper == cell then given cell ++ given lower else given cell)
passed-one book upper lower old new at kept more = record {
  frame = refl;
  kept = λ cell. kept_by cell (upper == cell) refl;
  given = λ given start cell mark here. by given start cell mark here (upper == cell) refl;
}
  where
    apart : (cell : ℕ) → (upper == cell) ≡ false → upper ≢ cell
    apart cell other same = let met : (upper == cell) ≡ true = (Decides-eqb upper cell).1 same in cc

    kept_by : (cell : ℕ) (b : Bool) → (upper == cell) ≡ b → settings_at (slice_set book.marks upper new) cell ≡ settings_at book.marks cell
    kept_by cell true met =
        subst (λ n. settings_at (slice_set book.marks upper new) n ≡ settings_at book.marks n) ((Decides-eqb upper cell).0 met)
        (ap (option_map settings_of) (set-here book.marks upper old new at) ∙ ap Some kept ∙ sym (ap (option_map settings_of) at))
    kept_by cell false other = ap (option_map settings_of) (set-there book.marks upper cell new (apart cell other))

    same : {x y : Mark} → Some x ≡ Some y → x ≡ y
    same h = cc

    by : (given : ℕ → List Row) → MarksHoldRecords book.marks given → (cell : ℕ) (mark : Mark) → slice_get (slice_set book.marks upper new) cell ≡ Some mark → (b : Bool) → (upper == cell) ≡ b
        → HoldsRecords mark (if upper == cell then given cell ++ given lower else given cell)
    by given start cell mark here true met =
        let eq : upper ≡ cell = (Decides-eqb upper cell).0 met in
        let there : slice_get (slice_set book.marks upper new) upper ≡ Some mark = subst (λ n. slice_get (slice_set book.marks upper new) n ≡ Some mark) (sym eq) here in
        let is_new : new ≡ mark = same (sym (set-here book.marks upper old new at) ∙ there) in
        subst (λ (b : Bool). HoldsRecords mark (if b then given cell ++ given lower else given cell)) (sym met)
        (subst (λ m. HoldsRecords m (given cell ++ given lower)) is_new (subst (λ n. HoldsRecords new (given n ++ given lower)) eq (more given start)))
    by given start cell mark here false other =
        subst (λ (b : Bool). HoldsRecords mark (if b then given cell ++ given lower else given cell)) (sym other)
        (start cell mark (sym (set-there book.marks upper cell new (apart cell other)) ∙ here))

-- nothing is passed on
pub passed-nowhere : (book : BookView) (variable first cell : ℕ) → ((other : ℕ) → goes_to book variable first cell other ≡ false) → PassedRecords book book (after_cell book variable first cell)
passed-nowhere book variable first cell none =
    passed-as book book (λ given. given) (after_cell book variable first cell) (λ given other. ap (λ (b : Bool). if b then given other ++ given cell else given other) (sym (none other))) (passed-none book)

pub no-upper : (book : BookView) (variable first cell : ℕ) → None ≡ upper_of book variable cell → (other : ℕ) → goes_to book variable first cell other ≡ false
no-upper book variable first cell none other = ap (λ found. option_map_or (λ upper. upper == other && nat_le first upper) found false) (sym none)

pub early-upper : (book : BookView) (variable first cell upper : ℕ) → Some upper ≡ upper_of book variable cell → upper < first → (other : ℕ) → goes_to book variable first cell other ≡ false
early-upper book variable first cell upper is early other =
    let test : nat_le first upper ≡ false = grind (arith, nat_tests) in
    ap (λ found. option_map_or (λ upper. upper == other && nat_le first upper) found false) (sym is) ∙ ap (λ b. (upper == other) && b) test ∙ never (upper == other)
  where
    never : (b : Bool) → (b && false) ≡ false
    never true = refl
    never false = refl

pub to-upper : (book : BookView) (variable first cell upper : ℕ) → Some upper ≡ upper_of book variable cell → first ≤ upper → (other : ℕ) → goes_to book variable first cell other ≡ (upper == other)
to-upper book variable first cell upper is late other =
    let test : nat_le first upper ≡ true = grind (arith, nat_tests) in
    ap (λ found. option_map_or (λ upper. upper == other && nat_le first upper) found false) (sym is) ∙ ap (λ b. (upper == other) && b) test ∙ whole (upper == other)
  where
    whole : (b : Bool) → (b && true) ≡ b
    whole true = refl
    whole false = refl

-- one cell more
pub cells-next : (a b c : BookView) (variable first past n : ℕ) → PassedRecords a b (after_cells a variable first past n) → PassedRecords b c (after_cell b variable first (past - (n + 1))) → PassedRecords a c (after_cells a variable first past (n + 1))
cells-next a b c variable first past n one two =
    let turned : PassedRecords b c (after_cell a variable first (past - (n + 1))) = subst (λ (x : BookView). PassedRecords b c (after_cell x variable first (past - (n + 1)))) one.frame two in
    subst (λ m. PassedRecords a c (after_cells a variable first past m)) (sym (add-one n))
    (passed-then a b c (after_cells a variable first past n) (after_cell a variable first (past - (n + 1))) one turned)

-- one variable more
variables-more : (book : BookView) (first past : ℕ) (done : List Dimension) (dimension : Dimension) (given : ℕ → List Row) (cell : ℕ)
    → after_cells book dimension.variable first past (past - first) (after_variables book first past done given) cell ≡ after_variables book first past (done ++ dimension ∷ []) given cell
variables-more book first past [] dimension given cell = refl
variables-more book first past (one ∷ done) dimension given cell = variables-more book first past done dimension (after_cells book one.variable first past (past - first) given) cell

pub variables-next : (a b c : BookView) (first past : ℕ) (done : List Dimension) (dimension : Dimension) → PassedRecords a b (after_variables a first past done) → PassedRecords b c (after_cells b dimension.variable first past (past - first)) → PassedRecords a c (after_variables a first past (done ++ dimension ∷ []))
variables-next a b c first past done dimension one two =
    let turned : PassedRecords b c (after_cells a dimension.variable first past (past - first)) = subst (λ (x : BookView). PassedRecords b c (after_cells x dimension.variable first past (past - first))) one.frame two in
    passed-as a c (λ given. after_cells a dimension.variable first past (past - first) (after_variables a first past done given)) (after_variables a first past (done ++ dimension ∷ [])) (λ given cell. variables-more a first past done dimension given cell)
    (passed-then a b c (after_variables a first past done) (after_cells a dimension.variable first past (past - first)) one turned)

-- ---- marks that are there

pub no-item : {X : Type 0} (xs : List X) (k : ℕ) → k < length xs → slice_get xs k ≡ None → ⊥
no-item [] k h none = omega (arith, h)
no-item (x ∷ xs) zero h none = cc
no-item (x ∷ xs) (suc k) h none = no-item xs k (omega (arith, h)) none

pub no-mark : (marks : List Mark) (cell : ℕ) → cell < length marks → slice_get marks cell ≡ None → ⊥
no-mark marks cell h none = no-item marks cell h none

pub mark-at : (marks : List Mark) (cell : ℕ) → cell < length marks → (mark : Mark) × (slice_get marks cell ≡ Some mark)
mark-at [] cell h = absurd (omega (arith, h))
mark-at (mark ∷ marks) zero h = (mark, refl)
mark-at (mark ∷ marks) (suc cell) h = mark-at marks cell (omega (arith, h))

pub even-with : (marks : List Mark) (cell : ℕ) (mark copy : Mark) → slice_get marks cell ≡ Some mark → settings_at marks cell ≡ Some (settings_of copy) → (mark.facts.tops.keep ≡ copy.facts.tops.keep) × (mark.facts.tops.scale ≡ copy.facts.tops.scale)
even-with marks cell mark copy at kept =
    let same : settings_of mark ≡ settings_of copy = one (sym (ap (option_map settings_of) at) ∙ kept) in
    (ap (λ (x : Bool × (ℕ × ℕ)). x.1.0) same, ap (λ (x : Bool × (ℕ × ℕ)). x.1.1) same)
  where
    one : {A : Type 0} {x y : A} → Some x ≡ Some y → x ≡ y
    one h = cc
