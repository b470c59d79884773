-- Records given one after another, and to one place after another.
use Rattle.std.proofs.Common.{◌≡◌, ◌≢◌, ℕ, ◌+◌, ◌<◌, ◌≤◌, ◌==◌, ◌&&◌, nat_le, Bool, true, false, List, [], ◌∷◌, ◌++◌, replicate, slice_get, slice_set, Option, None, Some, option_map, if◌then◌else◌, refl, ap, sym, ◌∙◌, subst, arith, append_assoc}
use Rattle.std.specs.Option.{option_map_or}
use Rattle.std.proofs.lemmas.Bool.Decides.{nat_tests, Decides-eqb}
use Rattle.std.proofs.lemmas.List.{append-nil, replicate-append-replicate}
use Rattle.sdc_base.specs.declared.rows.Row.{Row}
use Rattle.linked_tables.specs.declared.mark.Mark.{Mark}
use Rattle.linked_tables.specs.BookViews.{BookView}
use Rattle.linked_tables.specs.BookCells.{cell_at}
use Rattle.tabulate.specs.MarkRecords.{HoldsRecords, MarksHoldRecords, HaveScalesWithin, settings_of, settings_at}
use Rattle.sdc_base.specs.Places.{count}
use Rattle.tabulate.specs.RecordsByPlace.{GaveRecord, hits, is_at}
use Rattle.sdc_base.proofs.ListReads.{set-here, set-there}

-- the same records in other words
pub given-as : (marks : List Mark) (given other : ℕ → List Row) → ((cell : ℕ) → given cell ≡ other cell) → MarksHoldRecords marks given → MarksHoldRecords marks other
given-as marks given other same start = λ cell mark at. subst (HoldsRecords mark) (same cell) (start cell mark at)

pub count-append : {X : Type 0} (test : X → Bool) (xs ys : List X) → count test (xs ++ ys) ≡ count test xs + count test ys
count-append test [] ys = omega arith
count-append test (x ∷ xs) ys = let rest = count-append test xs ys in omega (arith, rest)

-- nothing was given
pub gave-nothing : (book : BookView) (t first : ℕ) (row : Row) → GaveRecord book book t first row []
gave-nothing book t first row = record {
  frame = refl;
  kept = λ cell. refl;
  given = λ given start. given-as book.marks given (λ cell. given cell ++ []) (λ cell. sym (append-nil (given cell))) start;
}

-- first to some places, then to others
pub gave-then : (a b c : BookView) (t first : ℕ) (row : Row) (places more : List (List ℕ)) → GaveRecord a b t first row places → GaveRecord b c t first row more → GaveRecord a c t first row (places ++ more)
gave-then a b c t first row places more one two = record {
  frame = two.frame ∙ ap (λ (x : BookView). record x { marks = c.marks }) one.frame;
  kept = λ cell. two.kept cell ∙ one.kept cell;
  given = λ given start. given-as c.marks (λ cell. (given cell ++ replicate (hits a t first places cell) row) ++ replicate (hits b t first more cell) row) (λ cell. given cell ++ replicate (hits a t first (places ++ more) cell) row)
      (λ cell. all given cell) (two.given (λ cell. given cell ++ replicate (hits a t first places cell) row) (one.given given start));
}
  where
    all : (given : ℕ → List Row) (cell : ℕ) → (given cell ++ replicate (hits a t first places cell) row) ++ replicate (hits b t first more cell) row ≡ given cell ++ replicate (hits a t first (places ++ more) cell) row
    all given cell =
        append_assoc (given cell) (replicate (hits a t first places cell) row) (replicate (hits b t first more cell) row)
        ∙ ap (λ (x : BookView). given cell ++ (replicate (hits a t first places cell) row ++ replicate (hits x t first more cell) row)) one.frame
        ∙ ap (λ rows. given cell ++ rows) (replicate-append-replicate (hits a t first places cell) (hits a t first more cell) row)
        ∙ ap (λ n. given cell ++ replicate n row) (sym (count-append (λ place. is_at a t first place cell) places more))

-- to a place where there is no cell to be given it
pub gave-nowhere : (book : BookView) (t first : ℕ) (row : Row) (place : List ℕ) → ((cell : ℕ) → is_at book t first place cell ≡ false) → GaveRecord book book t first row (place ∷ [])
gave-nowhere book t first row place none = record {
  frame = refl;
  kept = λ cell. refl;
  given = λ given start. given-as book.marks given (λ cell. given cell ++ replicate (hits book t first (place ∷ []) cell) row) (λ cell. sym (ap (λ b. given cell ++ replicate ((if b then 1 else 0) + 0) row) (none cell) ∙ append-nil (given cell))) start;
}

pub not-found : (book : BookView) (t first : ℕ) (place : List ℕ) → None ≡ cell_at book t place → (cell : ℕ) → is_at book t first place cell ≡ false
not-found book t first place none cell = ap (λ found. option_map_or (λ one. one == cell && nat_le first one) found false) (sym none)

pub too-early : (book : BookView) (t first : ℕ) (place : List ℕ) (found : ℕ) → Some found ≡ cell_at book t place → found < first → (cell : ℕ) → is_at book t first place cell ≡ false
too-early book t first place found is early cell =
    let test : nat_le first found ≡ false = grind (arith, nat_tests) in
    ap (λ at. option_map_or (λ one. one == cell && nat_le first one) at false) (sym is) ∙ ap (λ b. (found == cell) && b) test ∙ never (found == cell)
  where
    never : (b : Bool) → (b && false) ≡ false
    never true = refl
    never false = refl

-- to the cell at a place
pub gave-one : (book : BookView) (t first : ℕ) (row : Row) (place : List ℕ) (found : ℕ) (old new : Mark) → Some found ≡ cell_at book t place → first ≤ found → slice_get book.marks found ≡ Some old → settings_of new ≡ settings_of old
    → ((rows : List Row) → HoldsRecords old rows → HoldsRecords new (rows ++ row ∷ [])) → GaveRecord book (record book { marks = slice_set book.marks found new }) t first row (place ∷ [])
gave-one book t first row place found old new is late at kept more = record {
  frame = refl;
  kept = λ cell. kept_by cell (found == cell) refl;
  given = λ given start. λ cell mark here. by given start cell mark here (found == cell) refl;
}
  where
    apart : (cell : ℕ) → (found == cell) ≡ false → found ≢ cell
    apart cell other same = let met : (found == cell) ≡ true = (Decides-eqb found cell).1 same in cc

    kept_by : (cell : ℕ) (b : Bool) → (found == cell) ≡ b → settings_at (slice_set book.marks found new) cell ≡ settings_at book.marks cell
    kept_by cell true met =
        subst (λ n. settings_at (slice_set book.marks found new) n ≡ settings_at book.marks n) ((Decides-eqb found cell).0 met)
        (ap (option_map settings_of) (set-here book.marks found old new at) ∙ ap Some kept ∙ sym (ap (option_map settings_of) at))
    kept_by cell false other = ap (option_map settings_of) (set-there book.marks found cell new (apart cell other))

    once : (cell : ℕ) (b : Bool) → (found == cell) ≡ b → hits book t first (place ∷ []) cell ≡ (if b then 1 else 0)
    once cell b eq =
        let test : nat_le first found ≡ true = grind (arith, nat_tests) in
        let hit : is_at book t first place cell ≡ b = ap (λ at. option_map_or (λ one. one == cell && nat_le first one) at false) (sym is) ∙ ap (λ a. a && nat_le first found) eq ∙ ap (λ a. b && a) test ∙ both b in
        ap (λ a. (if a then 1 else 0) + 0) hit ∙ omega arith
      where
        both : (b : Bool) → (b && true) ≡ b
        both true = refl
        both false = refl

    same : {x y : Mark} → Some x ≡ Some y → x ≡ y
    same h = cc

    by : (given : ℕ → List Row) → MarksHoldRecords book.marks given → (cell : ℕ) (mark : Mark) → slice_get (slice_set book.marks found new) cell ≡ Some mark → (b : Bool) → (found == cell) ≡ b
        → HoldsRecords mark (given cell ++ replicate (hits book t first (place ∷ []) cell) row)
    by given start cell mark here true met =
        let eq : found ≡ cell = (Decides-eqb found cell).0 met in
        let there : slice_get (slice_set book.marks found new) found ≡ Some mark = subst (λ n. slice_get (slice_set book.marks found new) n ≡ Some mark) (sym eq) here in
        let is_new : new ≡ mark = same (sym (set-here book.marks found old new at) ∙ there) in
        let held : HoldsRecords new (given found ++ row ∷ []) = more (given found) (start found old at) in
        let held_here : HoldsRecords new (given cell ++ row ∷ []) = subst (λ n. HoldsRecords new (given n ++ row ∷ [])) eq held in
        subst (λ m. HoldsRecords m (given cell ++ replicate (hits book t first (place ∷ []) cell) row)) is_new
        (subst (λ n. HoldsRecords new (given cell ++ replicate n row)) (sym (once cell true met)) held_here)
    by given start cell mark here false other =
        let there : slice_get book.marks cell ≡ Some mark = sym (set-there book.marks found cell new (apart cell other)) ∙ here in
        subst (λ n. HoldsRecords mark (given cell ++ replicate n row)) (sym (once cell false other))
        (subst (HoldsRecords mark) (sym (append-nil (given cell))) (start cell mark there))

-- scales stay
pub fine-kept : (weight : ℕ) (old new : List Mark) → ((cell : ℕ) → settings_at new cell ≡ settings_at old cell) → HaveScalesWithin weight old → HaveScalesWithin weight new
fine-kept weight old new kept fine = λ cell mark at. by cell mark (slice_get old cell) refl (sym (ap (option_map settings_of) at) ∙ kept cell)
  where
    by : (cell : ℕ) (mark : Mark) (found : Option Mark) → slice_get old cell ≡ found → Some (settings_of mark) ≡ option_map settings_of found → mark.facts.tops.scale ≤ weight
    by cell mark None at eq = cc
    by cell mark (Some one) at eq = let same : one.facts.tops.scale ≡ mark.facts.tops.scale = scales eq in subst (λ n. n ≤ weight) same (fine cell one at)
      where
        scales : Some (settings_of mark) ≡ Some (settings_of one) → one.facts.tops.scale ≡ mark.facts.tops.scale
        scales h = sym (ap (λ (k : Option (Bool × (ℕ × ℕ))). option_map_or (λ one. one.1.1) k 0) h)
