-- From the first list that is made ready to the last record that is given.
use Rattle.std.proofs.Common.{◌≡◌, ℕ, zero, suc, ◌+◌, ◌-◌, ◌*◌, ◌^◌, ◌<◌, ◌≤◌, nat_lt, min, Bool, true, false, cond, List, [], ◌∷◌, ◌++◌, length, sum_by, fold, filter, slice_get, slice_index_or, if◌then◌else◌, Option, None, Some, option_map, All, refl, ap, sym, ◌∙◌, subst, arith, ℤ, pos, negsuc, ◌+ℤ◌, ◌*ℤ◌, ◌≤ℤ◌, ◌<ℤ◌, ◌||◌}
use Rattle.std.specs.List.{flat_map}
use Rattle.std.specs.Option.{option_map_or}
use Rattle.std.proofs.Math.Nat.{mul-le-mul_left}
use Rattle.std.proofs.lemmas.Bool.Decides.{nat_tests}
use Rattle.std.proofs.lemmas.Int.{ints}
use Rattle.std.proofs.lemmas.List.{take_all}
use Rattle.std.proofs.lemmas.List.Elements.{All-head, All-tail, All-nil}
use Rattle.std.proofs.lemmas.List.Folds.{list_any-append}
use Rattle.std.proofs.lemmas.Option.{slice_get_within, get_or_from_slice_get}
use Rattle.std.specs.Str.{bytes_eq}
use Rattle.sdc_base.specs.Trees.{Tree}
use Rattle.sdc_base.specs.Records.{Name, row_falls}
use Rattle.sdc_base.specs.Sums.{rows_in, weighted_value}
use Rattle.sdc_base.specs.Cells.{cells_of, is_named, named_by}
use Rattle.sdc_base.specs.declared.dimension.Dimension.{Dimension}
use Rattle.sdc_base.specs.declared.rows.Row.{Row}
use Rattle.sdc_base.proofs.FirstNames.{names_are_first}
use Rattle.linked_tables.specs.declared.mark.Mark.{Mark}
use Rattle.linked_tables.specs.BookViews.{BookView}
use Rattle.linked_tables.specs.BookCells.{IsBook, cells, first_own}
use Rattle.linked_tables.proofs.Sharing.{name-long}
use Rattle.tabulate.specs.MarkRecords.{HaveOneScale, HaveScalesWithin, MarksHoldRecords, HoldsRecords, hidden_at, settings_at, settings_of, worth_of_record}
use Rattle.tabulate.specs.RecordsByPlace.{GaveRecords, rows_for, dimensions_of}
use Rattle.tabulate.specs.UpperCells.{PassedRecords, after_variables}
use Rattle.tabulate.specs.EmptyLists.{HaveEmptyLists}
use Rattle.sdc_base.specs.Truths.{IsTruth}
use Rattle.tabulate.specs.TabulatedMarks.{AreTabulated, HasNone, IsRow, TellsOf}
use Rattle.tabulate.proofs.Standing.{named-where}
use Rattle.tabulate.proofs.MarkSteps.{holds-turned, sum-is}
use Rattle.tabulate.proofs.PlaceSteps.{given-as}
use Rattle.tabulate.proofs.Whole.{IsOf, given-next, given_to, placed_in, spanned-is}

-- what is kept of a cell whose list was made ready
abbrev pub started_at : List Mark → ℕ → ℕ → ℕ → Option (Bool × (ℕ × ℕ))
started_at marks keep scale cell = option_map (λ mark. (mark.hidden, (keep, scale))) (slice_get marks cell)

pub read-within : {X : Type 0} (xs : List X) (k : ℕ) → k < length xs → (x : X) × (slice_get xs k ≡ Some x)
read-within [] k h = absurd (omega (arith, h))
read-within (x ∷ xs) zero h = (x, refl)
read-within (x ∷ xs) (suc k) h = read-within xs k (omega (arith, h))

read-past : {X : Type 0} (xs : List X) (k : ℕ) → length xs ≤ k → slice_get xs k ≡ None
read-past [] k h = refl
read-past (x ∷ xs) zero h = absurd (omega (arith, h))
read-past (x ∷ xs) (suc k) h = read-past xs k (omega (arith, h))

read-none-past : {X : Type 0} (xs : List X) (k : ℕ) → slice_get xs k ≡ None → length xs ≤ k
read-none-past [] k h = omega arith
read-none-past (x ∷ xs) zero h = cc
read-none-past (x ∷ xs) (suc k) h = let rest = read-none-past xs k h in omega (arith, rest)

-- ---- before the first table

pub started-kept : (old new : BookView) (keep scale : ℕ) → HaveEmptyLists old new keep scale (length old.marks) → (cell : ℕ) → settings_at new.marks cell ≡ started_at old.marks keep scale cell
started-kept old new keep scale started cell = by (slice_get old.marks cell) refl
  where
    by : (found : Option Mark) → slice_get old.marks cell ≡ found → settings_at new.marks cell ≡ option_map (λ mark. (mark.hidden, (keep, scale))) found
    by None at = let long = started.long in let past = read-none-past old.marks cell at in ap (option_map settings_of) (read-past new.marks cell (omega (arith, long, past)))
    by (Some before) at =
        let below = slice_get_within old.marks cell before at in
        let long = started.long in
        let after = read-within new.marks cell (omega (arith, long, below)) in
        let is = started.ready cell before after.0 below at after.1 in
        ap (option_map settings_of) after.1 ∙ ap (λ hidden. Some (hidden, (after.0.facts.tops.keep, after.0.facts.tops.scale))) is.hidden ∙ ap (λ kept. Some (before.hidden, (kept, after.0.facts.tops.scale))) is.keeps ∙ ap (λ scaled. Some (before.hidden, (keep, scaled))) is.scaled

pub started-given : (old new : BookView) (keep scale : ℕ) (rows : List Row) → HaveEmptyLists old new keep scale (length old.marks) → All HasNone old.marks → MarksHoldRecords new.marks (given_to old rows 0)
started-given old new keep scale rows started none = λ cell mark at.
    let below = slice_get_within new.marks cell mark at in
    let long = started.long in
    let before = read-within old.marks cell (omega (arith, long, below)) in
    let is = started.ready cell before.0 mark (slice_get_within old.marks cell before.0 before.1) before.1 at in
    let empty : HasNone before.0 = subst HasNone (get_or_from_slice_get old.marks cell before.0 before.0 before.1) (none cell before.0 (slice_get_within old.marks cell before.0 before.1)) in
    subst (HoldsRecords mark) (nothing cell) (record {
      from_zero = All-nil (λ (row : Row). pos 0 ≤ℤ row.value);
      truth = is.truth ∙ empty.truth;
      freq = is.freq ∙ empty.freq;
      largest = is.none;
    })
  where
    nothing : (cell : ℕ) → [] ≡ given_to old rows 0 cell
    nothing cell = let test : nat_lt cell 0 ≡ false = grind (arith, nat_tests) in ap (λ b. if b then rows_in old.trees (slice_index_or (cells old) cell []) rows else []) (sym test)

-- ---- from table to table

long-among : (trees : List Tree) (tables : List (List Dimension)) (name : Name) → is_named (flat_map (named_by trees) tables) name ≡ true → length name ≡ length trees
long-among trees [] name h = cc
long-among trees (table ∷ tables) name h = by (λ more. long-among trees tables name more) (is_named (named_by trees table) name) refl (sym (list_any-append (bytes_eq name) (named_by trees table) (flat_map (named_by trees) tables)) ∙ h)
  where
    by : (is_named (flat_map (named_by trees) tables) name ≡ true → length name ≡ length trees) → (b : Bool) → is_named (named_by trees table) name ≡ b → (b || is_named (flat_map (named_by trees) tables) name) ≡ true → length name ≡ length trees
    by rest true is h = name-long trees table name is
    by rest false is h = rest h

-- a name of a cell has a code for each tree
cell-long : (book : BookView) (cell : ℕ) (name : Name) → slice_get (cells book) cell ≡ Some name → length name ≡ length book.trees
cell-long book cell name at = long-among book.trees book.tables name (sym (names_are_first.all (flat_map (named_by book.trees) book.tables) name) ∙ named-where (cells book) cell name at)

-- a cell that has a mark has a name
cell-name : (book now : BookView) (keep scale cell : ℕ) (mark : Mark) → IsBook book → settings_at now.marks cell ≡ started_at book.marks keep scale cell → slice_get now.marks cell ≡ Some mark → (name : Name) × (slice_get (cells book) cell ≡ Some name)
cell-name book now keep scale cell mark is kept at = by (slice_get book.marks cell) refl (sym (ap (option_map settings_of) at) ∙ kept)
  where
    by : (found : Option Mark) → slice_get book.marks cell ≡ found → Some (settings_of mark) ≡ option_map (λ one. (one.hidden, (keep, scale))) found → (name : Name) × (slice_get (cells book) cell ≡ Some name)
    by None at eq = cc
    by (Some one) at eq =
        let below = slice_get_within book.marks cell one at in
        let each = is.one_each in
        read-within (cells book) cell (omega (arith, below, each))

pub table-given : (book now mid next : BookView) (keep scale : ℕ) (rows : List Row) (t first past : ℕ) (table : List Dimension) → IsBook book → All (IsOf book.trees) rows → slice_get book.tables t ≡ Some table → now ≡ record book { marks = now.marks }
    → ((cell : ℕ) → settings_at next.marks cell ≡ started_at book.marks keep scale cell) → first ≡ first_own now t → past ≡ first_own mid (t + 1) → GaveRecords now mid t first rows → PassedRecords mid next (after_variables mid first past (dimensions_of mid t)) → MarksHoldRecords now.marks (given_to book rows t)
    → MarksHoldRecords next.marks (given_to book rows (t + 1))
table-given book now mid next keep scale rows t first past table is good at frame kept start stop all passed given = λ cell mark here.
    let name = cell-name book next keep scale cell mark is (kept cell) here in
    let framed : mid ≡ record book { marks = mid.marks } = all.frame ∙ ap (λ (b : BookView). record b { marks = mid.marks }) frame in
    let own : first ≡ first_own book t = start ∙ ap (λ (b : BookView). first_own b t) frame in
    let last : past ≡ first_own book (t + 1) = stop ∙ ap (λ (b : BookView). first_own b (t + 1)) framed in
    let spans : dimensions_of mid t ≡ table = ap (λ (b : BookView). dimensions_of b t) framed ∙ spanned-is book t table at in
    let each : (one : ℕ) → given_to book rows t one ++ rows_for now t first rows one ≡ placed_in book rows t one = λ one.
    ap (λ (b : BookView). given_to book rows t one ++ rows_for b t first rows one) frame ∙ ap (λ n. given_to book rows t one ++ rows_for book t n rows one) own
    in
    let placed : MarksHoldRecords mid.marks (placed_in book rows t) = given-as mid.marks (λ one. given_to book rows t one ++ rows_for now t first rows one) (placed_in book rows t) each (all.given (given_to book rows t) given) in
    let same : after_variables mid first past (dimensions_of mid t) (placed_in book rows t) cell ≡ after_variables book (first_own book t) (first_own book (t + 1)) table (placed_in book rows t) cell =
    ap (λ (b : BookView). after_variables b first past (dimensions_of mid t) (placed_in book rows t) cell) framed
    ∙ ap (λ n. after_variables book n past (dimensions_of mid t) (placed_in book rows t) cell) own
    ∙ ap (λ n. after_variables book (first_own book t) n (dimensions_of mid t) (placed_in book rows t) cell) last
    ∙ ap (λ some. after_variables book (first_own book t) (first_own book (t + 1)) some (placed_in book rows t) cell) spans
    in
    holds-turned mark (after_variables book (first_own book t) (first_own book (t + 1)) table (placed_in book rows t) cell) (given_to book rows (t + 1) cell)
    (given-next book rows t table cell name.0 is good at name.1 (cell-long book cell name.0 name.1))
    (subst (HoldsRecords mark) same (passed.given (placed_in book rows t) placed cell mark here))

-- all keep as many and have one scale
pub even-started : (book now : BookView) (keep scale : ℕ) → ((cell : ℕ) → settings_at now.marks cell ≡ started_at book.marks keep scale cell) → HaveOneScale now.marks
even-started book now keep scale kept = λ cell other mark one at there.
    let first = by mark (slice_get book.marks cell) (sym (ap (option_map settings_of) at) ∙ kept cell) in
    let second = by one (slice_get book.marks other) (sym (ap (option_map settings_of) there) ∙ kept other) in
    (first.0 ∙ sym second.0, first.1 ∙ sym second.1)
  where
    by : (mark : Mark) (found : Option Mark) → Some (settings_of mark) ≡ option_map (λ one. (one.hidden, (keep, scale))) found → (mark.facts.tops.keep ≡ keep) × (mark.facts.tops.scale ≡ scale)
    by mark None eq = cc
    by mark (Some one) eq = (ap (λ (k : Option (Bool × (ℕ × ℕ))). option_map_or (λ one. one.1.0) k 0) eq, ap (λ (k : Option (Bool × (ℕ × ℕ))). option_map_or (λ one. one.1.1) k 0) eq)

-- scales are those of the start
pub fine-started : (book now : BookView) (keep scale weight : ℕ) → ((cell : ℕ) → settings_at now.marks cell ≡ started_at book.marks keep scale cell) → scale ≤ weight → HaveScalesWithin weight now.marks
fine-started book now keep scale weight kept heavy = λ cell mark at. by cell mark (slice_get book.marks cell) (sym (ap (option_map settings_of) at) ∙ kept cell)
  where
    scaled : (mark one : Mark) → Some (settings_of mark) ≡ Some (one.hidden, (keep, scale)) → scale ≡ mark.facts.tops.scale
    scaled mark one h = sym (ap (λ (k : Option (Bool × (ℕ × ℕ))). option_map_or (λ one. one.1.1) k 0) h)

    by : (cell : ℕ) (mark : Mark) (found : Option Mark) → Some (settings_of mark) ≡ option_map (λ one. (one.hidden, (keep, scale))) found → mark.facts.tops.scale ≤ weight
    by cell mark None eq = cc
    by cell mark (Some one) eq = subst (λ n. n ≤ weight) (scaled mark one eq) heavy

-- ---- sums have room

product : (weight : ℕ) (value : ℤ) → pos 0 ≤ℤ value → value <ℤ pos (10 ^ 15) → weight < 10 ^ 8 → (n : ℕ) × ((pos weight *ℤ value ≡ pos n) × (n ≤ 10 ^ 23))
product weight (pos v) h below light =
    let small : v ≤ 10 ^ 15 = omega (arith, ints, below) in
    (weight * v, (omega (arith, ints), omega (arith, mul-le-mul_left weight small, light)))
product weight (negsuc v) h below light = absurd (omega (arith, ints, h))

sum-room : (trees : List Tree) (scale : ℕ) (falls : Row → Bool) (rows : List Row) (start sum : ℕ) → All (IsRow trees scale) rows → fold (λ sum row. sum +ℤ weighted_value row) (pos start) (filter falls rows) ≡ pos sum → sum ≤ start + 10 ^ 23 * length rows
sum-room trees scale falls [] start sum all is = let same : start ≡ sum = pos-same is in omega (arith, same)
  where
    pos-same : pos start ≡ pos sum → start ≡ sum
    pos-same h = omega (arith, ints, h)
sum-room trees scale falls (row ∷ rows) start sum all is =
    let good = All-head (IsRow trees scale) row rows all in
    let rest = All-tail (IsRow trees scale) row rows all in
    let w = product row.weight row.value good.from_zero good.below good.light in
    elim (falls row) as (λ b. fold (λ sum row. sum +ℤ weighted_value row) (pos start) (cond b (row ∷ filter falls rows) (filter falls rows)) ≡ pos sum → sum ≤ start + 10 ^ 23 * length (row ∷ rows)) [
      | true ↦ λ is.
          let added : pos start +ℤ weighted_value row ≡ pos (start + w.0) = ap (λ v. pos start +ℤ v) w.1.0 ∙ omega (arith, ints) in
          let more = sum-room trees scale falls rows (start + w.0) sum rest (ap (λ s. fold (λ sum row. sum +ℤ weighted_value row) s (filter falls rows)) (sym added) ∙ is) in
          omega (arith, more, w.1.1)
      | false ↦ λ is. let more = sum-room trees scale falls rows start sum rest is in omega (arith, more)
    ] is

few-in : (falls : Row → Bool) (rows : List Row) → length (filter falls rows) ≤ length rows
few-in falls [] = omega arith
few-in falls (row ∷ rows) =
    let rest = few-in falls rows in
    elim (falls row) as (λ b. length (cond b (row ∷ filter falls rows) (filter falls rows)) ≤ length (row ∷ rows)) [ true ↦ omega (arith, rest) | false ↦ omega (arith, rest) ]

-- ---- behind the last table

pub all-given : (book now : BookView) (keep scale : ℕ) (rows : List Row) (t : ℕ) → length book.tables ≤ t → IsBook book → All (IsRow book.trees scale) rows → length rows ≤ 1000000 → now ≡ record book { marks = now.marks }
    → ((cell : ℕ) → settings_at now.marks cell ≡ started_at book.marks keep scale cell) → MarksHoldRecords now.marks (given_to book rows t) → AreTabulated now rows keep scale
all-given book now keep scale rows t past is good few frame kept given = λ cell name mark named at.
    subst (λ (b : BookView). TellsOf b.trees rows keep scale name mark) (sym frame)
    (tells cell name mark (ap (λ (b : BookView). slice_get (cells b) cell) (sym frame) ∙ named) at)
  where
    whole : first_own book t ≡ length (cells book)
    whole = ap (λ tables. length (cells_of book.trees tables)) (take_all t book.tables past)

    tells : (cell : ℕ) (name : Name) (mark : Mark) → slice_get (cells book) cell ≡ Some name → slice_get now.marks cell ≡ Some mark → TellsOf book.trees rows keep scale name mark
    tells cell name mark named at =
        let below : nat_lt cell (first_own book t) ≡ true = let inside = slice_get_within (cells book) cell name named in grind (arith, nat_tests, inside, whole) in
        let these : given_to book rows t cell ≡ rows_in book.trees name rows =
        ap (λ b. if b then rows_in book.trees (slice_index_or (cells book) cell []) rows else []) below ∙ ap (λ n. rows_in book.trees n rows) (get_or_from_slice_get (cells book) cell name [] named)
        in
        let holds : HoldsRecords mark (rows_in book.trees name rows) = subst (HoldsRecords mark) these (given cell mark at) in
        let sum : ℕ = sum_by worth_of_record (rows_in book.trees name rows) in
        let sum_is = sum-is (rows_in book.trees name rows) holds.from_zero in
        let room = sum-room book.trees scale (row_falls book.trees name) rows 0 sum good sum_is in
        let few_here = few-in (row_falls book.trees name) rows in
        let fits : min sum (2 ^ 127 - 1) ≡ sum = omega (arith, room, few) in
        let counted : min (length (rows_in book.trees name rows)) (2 ^ 32 - 1) ≡ length (rows_in book.trees name rows) = omega (arith, few_here, few) in
        let same = keeps cell mark at in
        record {
          truth_is = holds.truth ∙ ap pos fits ∙ sym sum_is;
          within = subst IsTruth (sym (holds.truth ∙ ap pos fits)) (record { from_zero = omega (arith, ints); at_most = omega (arith, ints, room, few) });
          freq_is = holds.freq ∙ counted;
          keeps = same.0;
          scaled = same.1;
          largest = holds.largest;
        }
      where
        keeps : (cell : ℕ) (mark : Mark) → slice_get now.marks cell ≡ Some mark → (mark.facts.tops.keep ≡ keep) × (mark.facts.tops.scale ≡ scale)
        keeps cell mark at = by (slice_get book.marks cell) (sym (ap (option_map settings_of) at) ∙ kept cell)
          where
            by : (found : Option Mark) → Some (settings_of mark) ≡ option_map (λ one. (one.hidden, (keep, scale))) found → (mark.facts.tops.keep ≡ keep) × (mark.facts.tops.scale ≡ scale)
            by None eq = cc
            by (Some one) eq = (ap (λ (k : Option (Bool × (ℕ × ℕ))). option_map_or (λ one. one.1.0) k 0) eq, ap (λ (k : Option (Bool × (ℕ × ℕ))). option_map_or (λ one. one.1.1) k 0) eq)

pub hidden-stays : (book now : BookView) (keep scale : ℕ) → ((cell : ℕ) → settings_at now.marks cell ≡ started_at book.marks keep scale cell) → (cell : ℕ) → hidden_at now.marks cell ≡ hidden_at book.marks cell
hidden-stays book now keep scale kept cell = by (slice_get now.marks cell) (slice_get book.marks cell) (kept cell)
  where
    by : (found other : Option Mark) → option_map settings_of found ≡ option_map (λ one. (one.hidden, (keep, scale))) other → option_map (λ mark. mark.hidden) found ≡ option_map (λ mark. mark.hidden) other
    by None None eq = refl
    by None (Some one) eq = cc
    by (Some mark) None eq = cc
    by (Some mark) (Some one) eq = ap (option_map (λ (k : Bool × (ℕ × ℕ)). k.0)) eq
