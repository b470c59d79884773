-- What is written is read as that.
use Rattle.std.proofs.Common.{◌≡◌, ℕ, zero, suc, ◌+◌, ◌<◌, ◌||◌, Bool, true, false, cond, not, List, [], ◌∷◌, ◌++◌, length, map, fold, slice_get, slice_index_or, get_or, nat_lt, bytes_eq, Option, None, Some, option_map, is_some, Ok, ℤ, arith, refl, ap, sym, ◌∙◌, length-append, if◌then◌else◌}
use Rattle.std.specs.List.{flat_map, range_with_len}
use Rattle.std.specs.Option.{option_and_then}
use Rattle.std.proofs.lemmas.List.FromFn.{length-map-range_with_len}
use Rattle.std.proofs.lemmas.List.Sums.{fold-append}
use Rattle.std.proofs.lemmas.Option.{slice_get_past}
use Rattle.std.proofs.lemmas.Bool.Decides.{nat_tests}
use Rattle.std.proofs.lemmas.Slice.Eq.{bytes_eq-Decides}
use Rattle.sdc_base.specs.Records.{Name}
use Rattle.sdc_base.specs.Places.{first_place}
use Rattle.sdc_base.specs.Steps.{◌>>=◌, map_ok}
use Rattle.sdc_base.specs.Cells.{places, trees_of, named_by, is_named, with_name}
use Rattle.sdc_base.specs.TableText.{line_text, codes_of_place}
use Rattle.sdc_base.proofs.FirstNames.{stay}
use Rattle.sdc_base.specs.declared.dimension.Dimension.{Dimension}
use Rattle.linked_tables.specs.declared.mark.Mark.{Mark}
use Rattle.linked_tables.specs.BookViews.{BookView}
use Rattle.linked_tables.specs.BookCells.{cells, name_in_table, number_of}
use Rattle.release_writer.specs.ShownCells.{open_truth}
use Rattle.release_writer.specs.ReleaseReading.{ReleaseSoFar, next_line, with_value, read_place, read_places, read_table, read_tables, release_read, is_left, flags_of}
use Rattle.release_writer.specs.LineChoices.{Template, rest_behind, line_showing, choice_there, new_value, value_there, truth_of, or_second}
use Rattle.release_writer.specs.ReadingLaws.{AreTexts, HiddenAreReadBack}
use Rattle.release_writer.proofs.Behind.{behind-self, crossed-differs}

-- what the first n cells show
abbrev pub first_shown : (ℕ → Option ℤ) → ℕ → List (Option ℤ)
first_shown shown n = map shown (range_with_len 0 n)

-- ---- what the first cells show

shown-more : (f : ℕ → Option ℤ) (a n : ℕ) → map f (range_with_len a (n + 1)) ≡ map f (range_with_len a n) ++ f (a + n) ∷ []
shown-more f a zero = let same : a + 0 ≡ a = omega arith in rw same refl
shown-more f a (suc n) =
    let next : suc n + 1 ≡ suc (n + 1) = omega arith in
    let there : (a + 1) + n ≡ a + suc n = omega arith in
    rw next (ap (λ xs. f a ∷ xs) (shown-more f (a + 1) n ∙ ap (λ k. map f (range_with_len (a + 1) n) ++ f k ∷ []) there))

shown-at : (f : ℕ → Option ℤ) (a n k : ℕ) → k < n → slice_get (map f (range_with_len a n)) k ≡ Some (f (a + k))
shown-at f a zero k h = absurd (omega (arith, h))
shown-at f a (suc n) zero h = let same : a + 0 ≡ a = omega arith in rw same refl
shown-at f a (suc n) (suc k) h = let there : (a + 1) + k ≡ a + suc k = omega arith in shown-at f (a + 1) n k (omega (arith, h)) ∙ ap (λ m. Some (f m)) there

shown-past : (f : ℕ → Option ℤ) (n : ℕ) → slice_get (first_shown f n) n ≡ None
shown-past f n = slice_get_past (first_shown f n) n (omega (arith, length-map-range_with_len f 0 n))

first-at : (f : ℕ → Option ℤ) (n k : ℕ) → k < n → slice_get (first_shown f n) k ≡ Some (f k)
first-at f n k h = let same : 0 + k ≡ k = omega arith in shown-at f 0 n k h ∙ ap (λ m. Some (f m)) same

first-more : (f : ℕ → Option ℤ) (n : ℕ) → first_shown f (n + 1) ≡ first_shown f n ++ f n ∷ []
first-more f n = let same : 0 + n ≡ n = omega arith in shown-more f 0 n ∙ ap (λ m. first_shown f n ++ f m ∷ []) same

-- ---- the number of a name

pub place-in : (name : Name) (names later : List Name) (k : ℕ) → first_place (bytes_eq name) names ≡ Some k → first_place (bytes_eq name) (names ++ later) ≡ Some k
place-in name [] later k h = cc
place-in name (other ∷ names) later k h =
    elim (bytes_eq name other) as (λ b. cond b (Some 0) (option_map (λ n. n + 1) (first_place (bytes_eq name) names)) ≡ Some k → cond b (Some 0) (option_map (λ n. n + 1) (first_place (bytes_eq name) (names ++ later))) ≡ Some k) [
      | true ↦ λ h. h
      | false ↦ λ h. deeper (λ n is. place-in name names later n is) (first_place (bytes_eq name) names) refl h
    ] h
  where
    deeper : ((n : ℕ) → first_place (bytes_eq name) names ≡ Some n → first_place (bytes_eq name) (names ++ later) ≡ Some n) → (found : Option ℕ) → first_place (bytes_eq name) names ≡ found → option_map (λ n. n + 1) found ≡ Some k → option_map (λ n. n + 1) (first_place (bytes_eq name) (names ++ later)) ≡ Some k
    deeper rest None is h = cc
    deeper rest (Some n) is h = ap (λ o. option_map (λ m. m + 1) o) (rest n is) ∙ h

pub place-new : (name : Name) (names later : List Name) → is_named names name ≡ false → first_place (bytes_eq name) ((names ++ name ∷ []) ++ later) ≡ Some (length names)
place-new name [] later h = let same : bytes_eq name name ≡ true = (bytes_eq-Decides name name).1 refl in rw same refl
place-new name (other ∷ names) later h =
    elim (bytes_eq name other) as (λ b. (b || is_named names name) ≡ false → cond b (Some 0) (option_map (λ n. n + 1) (first_place (bytes_eq name) ((names ++ name ∷ []) ++ later))) ≡ Some (suc (length names))) [
      | true ↦ λ h. cc
      | false ↦ λ h. ap (λ o. option_map (λ n. n + 1) o) (place-new name names later h) ∙ ap Some (omega arith)
    ] h

pub place-known : (name : Name) (names : List Name) → is_named names name ≡ true → (k : ℕ) × (first_place (bytes_eq name) names ≡ Some k) × (k < length names)
place-known name [] h = cc
place-known name (other ∷ names) h =
    elim (bytes_eq name other) as (λ b. (b || is_named names name) ≡ true → (k : ℕ) × (cond b (Some 0) (option_map (λ n. n + 1) (first_place (bytes_eq name) names)) ≡ Some k) × (k < suc (length names))) [
      | true ↦ λ h. (0, refl, omega arith)
      | false ↦ λ h. let rest = place-known name names h in (rest.0 + 1, ap (λ o. option_map (λ n. n + 1) o) rest.1, omega (arith, rest.2))
    ] h

-- ---- one line

-- how a new cell is read where the bytes have what it shows
abbrev pub ReadsNew : BookView → ℕ → Bool → (ℕ → Option ℤ) → Type 0
ReadsNew book decimals rounded f =
    (t : ℕ) (table : List Dimension) (place rest : List ℕ) (cell : ℕ) → cell < length (cells book)
    → let form : Template = record { book = book; t = t; table = table; decimals = decimals; rounded = rounded } in
    new_value form place (line_showing form place (f cell) ++ rest) cell ≡ Some (f cell, rest)

fits-self : (form : Template) (place rest : List ℕ) (value : Option ℤ) → choice_there form place (line_showing form place value ++ rest) value ≡ Some (value, rest)
fits-self form place rest value = ap (λ r. option_map (λ left. (value, left)) r) (behind-self (line_showing form place value) rest)

one-line : (form : Template) (reading : ReleaseSoFar) (place rest : List ℕ) (cell : ℕ) (known : Option (Option ℤ)) (value : Option ℤ)
    → number_of form.book (name_in_table form.book form.table place) ≡ Some cell → slice_get reading.shown cell ≡ known → value_there form place reading.rest cell known ≡ Some (value, rest)
    → read_place form reading place ≡ Ok (record { shown = with_value reading.shown cell value; rest = rest; line = next_line reading.line })
unfolding read_place
one-line form reading place rest cell known value number there found = rw (number, there, found) refl

-- what the cell of a name shows
abbrev pub shows_of : BookView → (ℕ → Option ℤ) → Name → Option ℤ
shows_of book f name = option_and_then f (number_of book name)

known-line : (form : Template) (f : ℕ → Option ℤ) (done later : List Name) (place rest : List ℕ) (line : ℕ)
    → cells form.book ≡ done ++ later → is_named done (name_in_table form.book form.table place) ≡ true
    → read_place form (record { shown = first_shown f (length done); rest = line_showing form place (shows_of form.book f (name_in_table form.book form.table place)) ++ rest; line = line }) place
    ≡ Ok (record { shown = first_shown f (length done); rest = rest; line = next_line line })
known-line form f done later place rest line all is =
    let name = name_in_table form.book form.table place in
    let at = place-known name done is in
    let cell = at.0 in
    let number : number_of form.book name ≡ Some cell = ap (λ names. first_place (bytes_eq name) names) all ∙ place-in name done later cell at.1 in
    let shows : shows_of form.book f name ≡ f cell = ap (λ o. option_and_then f o) number in
    let there : slice_get (first_shown f (length done)) cell ≡ Some (f cell) = first-at f (length done) cell at.2 in
    let long : nat_lt cell (length (first_shown f (length done))) ≡ true = grind (arith, nat_tests, at.2, length-map-range_with_len f 0 (length done)) in
    let stays : with_value (first_shown f (length done)) cell (f cell) ≡ first_shown f (length done) = rw long refl in
    ap (λ v. read_place form (record { shown = first_shown f (length done); rest = line_showing form place v ++ rest; line = line }) place) shows
    ∙ one-line form (record { shown = first_shown f (length done); rest = line_showing form place (f cell) ++ rest; line = line }) place rest cell (Some (f cell)) (f cell) number there (fits-self form place rest (f cell))
    ∙ ap (λ shown. Ok (record { shown = shown; rest = rest; line = next_line line })) stays

new-line : (book : BookView) (t : ℕ) (table : List Dimension) (decimals : ℕ) (rounded : Bool) (f : ℕ → Option ℤ) (done later : List Name) (place rest : List ℕ) (line : ℕ) → ReadsNew book decimals rounded f
    → let form : Template = record { book = book; t = t; table = table; decimals = decimals; rounded = rounded } in
    cells book ≡ (done ++ name_in_table book table place ∷ []) ++ later → is_named done (name_in_table book table place) ≡ false
    → read_place form (record { shown = first_shown f (length done); rest = line_showing form place (shows_of book f (name_in_table book table place)) ++ rest; line = line }) place
    ≡ Ok (record { shown = first_shown f (length (done ++ name_in_table book table place ∷ [])); rest = rest; line = next_line line })
new-line book t table decimals rounded f done later place rest line reads all is =
    let form : Template = record { book = book; t = t; table = table; decimals = decimals; rounded = rounded } in
    let name = name_in_table book table place in
    let cell = length done in
    let number : number_of book name ≡ Some cell = ap (λ names. first_place (bytes_eq name) names) all ∙ place-new name done later is in
    let shows : shows_of book f name ≡ f cell = ap (λ o. option_and_then f o) number in
    let there : slice_get (first_shown f cell) cell ≡ None = shown-past f cell in
    let long : nat_lt cell (length (first_shown f cell)) ≡ false = grind (arith, nat_tests, length-map-range_with_len f 0 cell) in
    let size : length (done ++ name ∷ []) ≡ cell + 1 = length-append done (name ∷ []) in
    let small : cell < length (cells book) = omega (arith, size, ap (λ (names : List Name). length names) all, length-append (done ++ name ∷ []) later) in
    let more : with_value (first_shown f cell) cell (f cell) ≡ first_shown f (length (done ++ name ∷ [])) = rw long (sym (ap (λ n. first_shown f n) size ∙ first-more f cell)) in
    ap (λ v. read_place form (record { shown = first_shown f cell; rest = line_showing form place v ++ rest; line = line }) place) shows
    ∙ one-line form (record { shown = first_shown f cell; rest = line_showing form place (f cell) ++ rest; line = line }) place rest cell None (f cell) number there (reads t table place rest cell small)
    ∙ ap (λ shown. Ok (record { shown = shown; rest = rest; line = next_line line })) more

some-line : (book : BookView) (t : ℕ) (table : List Dimension) (decimals : ℕ) (rounded : Bool) (f : ℕ → Option ℤ) (done later : List Name) (place rest : List ℕ) (line : ℕ) → ReadsNew book decimals rounded f
    → let form : Template = record { book = book; t = t; table = table; decimals = decimals; rounded = rounded } in
    cells book ≡ with_name done (name_in_table book table place) ++ later
    → read_place form (record { shown = first_shown f (length done); rest = line_showing form place (shows_of book f (name_in_table book table place)) ++ rest; line = line }) place
    ≡ Ok (record { shown = first_shown f (length (with_name done (name_in_table book table place))); rest = rest; line = next_line line })
some-line book t table decimals rounded f done later place rest line reads all =
    let form : Template = record { book = book; t = t; table = table; decimals = decimals; rounded = rounded } in
    let name = name_in_table book table place in
    elim (is_named done name) as (λ b. is_named done name ≡ b → cells book ≡ (if b then done else done ++ name ∷ []) ++ later
    → read_place form (record { shown = first_shown f (length done); rest = line_showing form place (shows_of book f name) ++ rest; line = line }) place
    ≡ Ok (record { shown = first_shown f (length (if b then done else done ++ name ∷ [])); rest = rest; line = next_line line })) [
      | true ↦ λ is all. known-line form f done later place rest line all is
      | false ↦ λ is all. new-line book t table decimals rounded f done later place rest line reads all is
    ] refl all

-- ---- the lines of a table

-- the number of the line behind so many lines
abbrev pub line_behind : ℕ → List (List ℕ) → ℕ
line_behind line [] = line
line_behind line (place ∷ rest) = line_behind (next_line line) rest

lines-read : (book : BookView) (t : ℕ) (table : List Dimension) (decimals : ℕ) (rounded : Bool) (f : ℕ → Option ℤ) → ReadsNew book decimals rounded f
    → let form : Template = record { book = book; t = t; table = table; decimals = decimals; rounded = rounded } in
    (found : List (List ℕ)) (done more : List Name) (line : ℕ)
    → cells book ≡ fold with_name done (map (name_in_table book table) found ++ more)
    → read_places form (record { shown = first_shown f (length done); rest = flat_map (λ place. line_showing form place (shows_of book f (name_in_table book table place))) found; line = line }) found
    ≡ Ok (record { shown = first_shown f (length (fold with_name done (map (name_in_table book table) found))); rest = []; line = line_behind line found })
lines-read book t table decimals rounded f reads [] done more line all = refl
lines-read book t table decimals rounded f reads (place ∷ found) done more line all =
    let form : Template = record { book = book; t = t; table = table; decimals = decimals; rounded = rounded } in
    let name = name_in_table book table place in
    let rest = flat_map (λ p. line_showing form p (shows_of book f (name_in_table book table p))) found in
    let next = with_name done name in
    let later = stay next (map (name_in_table book table) found ++ more) in
    ap (λ r. r >>= λ now. read_places form now found) (some-line book t table decimals rounded f done later.0 place rest line reads (all ∙ later.1))
    ∙ lines-read book t table decimals rounded f reads found next more (next_line line) all

table-steps : (form : Template) (names : List (List ℕ)) (bytes rest : List ℕ) (shown : List (Option ℤ)) (all : ReleaseSoFar)
    → rest_behind (line_text names) bytes ≡ Some rest → read_places form (record { shown = shown; rest = rest; line = 2 }) (places (trees_of form.book.trees form.table)) ≡ Ok all → is_left all.rest ≡ false
    → read_table form names bytes shown ≡ Ok all.shown
unfolding read_table
table-steps form names bytes rest shown all first lines end = rw (first, lines, end) refl

tables-read : (book : BookView) (decimals : ℕ) (rounded : Bool) (f : ℕ → Option ℤ) → ReadsNew book decimals rounded f
    → (t : ℕ) (tables : List (List Dimension)) (names : List (List (List ℕ))) (files : List (List ℕ)) (done : List Name)
    → cells book ≡ fold with_name done (flat_map (named_by book.trees) tables) → AreTexts book decimals f tables names files
    → read_tables book decimals rounded t tables names files (first_shown f (length done)) ≡ Ok (first_shown f (length (cells book)))
unfolding read_tables
tables-read book decimals rounded f reads t [] names files done all texts = ap (λ (c : List Name). Ok (first_shown f (length c))) (sym all)
tables-read book decimals rounded f reads t (table ∷ tables) [] files done all texts = cc
tables-read book decimals rounded f reads t (table ∷ tables) (own ∷ names) [] done all texts = cc
tables-read book decimals rounded f reads t (table ∷ tables) (own ∷ names) (bytes ∷ files) done all texts =
    let form : Template = record { book = book; t = t; table = table; decimals = decimals; rounded = rounded } in
    let found = places (trees_of book.trees table) in
    let lines = flat_map (λ p. line_showing form p (shows_of book f (name_in_table book table p))) found in
    let next = fold with_name done (named_by book.trees table) in
    let one : read_table form own bytes (first_shown f (length done)) ≡ Ok (first_shown f (length next)) =
    ap (λ b. read_table form own b (first_shown f (length done))) texts.0
    ∙ table-steps form own (line_text own ++ lines) lines (first_shown f (length done)) (record { shown = first_shown f (length next); rest = []; line = line_behind 2 found })
    (behind-self (line_text own) lines) (lines-read book t table decimals rounded f reads found done (flat_map (named_by book.trees) tables) 2 all) refl in
    ap (λ r. r >>= λ now. read_tables book decimals rounded (t + 1) tables names files now) one
    ∙ tables-read book decimals rounded f reads (t + 1) tables names files next (all ∙ fold-append with_name done (named_by book.trees table) (flat_map (named_by book.trees) tables)) texts.1

pub release-read : (book : BookView) (decimals : ℕ) (rounded : Bool) (f : ℕ → Option ℤ) (names : List (List (List ℕ))) (files : List (List ℕ)) → ReadsNew book decimals rounded f → AreTexts book decimals f book.tables names files
    → release_read book names decimals rounded files ≡ Ok (first_shown f (length (cells book)))
release-read book decimals rounded f names files reads texts = tables-read book decimals rounded f reads 0 book.tables names files [] refl texts

-- ---- hidden sets

hidden-new : (book : BookView) (decimals : ℕ) (flags : List Bool) → ReadsNew book decimals false (open_truth book.marks flags)
hidden-new book decimals flags t table place rest cell small =
    let form : Template = record { book = book; t = t; table = table; decimals = decimals; rounded = false } in
    elim (slice_index_or flags cell false) as (λ b. new_value form place (line_showing form place (if b then None else truth_of book.marks cell) ++ rest) cell ≡ Some (if b then None else truth_of book.marks cell, rest)) [
      | true ↦ crossed form (truth_of book.marks cell) place rest
      | false ↦ ap (λ o. or_second o (choice_there form place (line_showing form place (truth_of book.marks cell) ++ rest) None)) (fits-self form place rest (truth_of book.marks cell))
    ]
  where
    crossed : (form : Template) (truth : Option ℤ) (place rest : List ℕ) → or_second (choice_there form place (line_showing form place None ++ rest) truth) (choice_there form place (line_showing form place None ++ rest) None) ≡ Some (None, rest)
    crossed form None place rest = ap (λ o. or_second o (choice_there form place (line_showing form place None ++ rest) None)) (fits-self form place rest None)
    crossed form (Some number) place rest =
        ap (λ o. or_second (option_map (λ left. (Some number, left)) o) (choice_there form place (line_showing form place None ++ rest) None)) (crossed-differs (codes_of_place (trees_of form.book.trees form.table) place) form.decimals number rest)
        ∙ fits-self form place rest None

-- a list is what it has at each place
each-flag : (f : ℕ → Bool) (flags : List Bool) (a : ℕ) → ((k : ℕ) → k < length flags → f (a + k) ≡ get_or flags k false) → map f (range_with_len a (length flags)) ≡ flags
each-flag f [] a same = refl
each-flag f (flag ∷ flags) a same =
    let first : f a ≡ flag = ap f (omega arith) ∙ same 0 (omega arith) in
    ap (λ b. b ∷ map f (range_with_len (a + 1) (length flags))) first
    ∙ ap (λ bs. flag ∷ bs) (each-flag f flags (a + 1) (λ k h. ap f (omega arith) ∙ same (suc k) (omega (arith, h))))

pub map-map : (g : Option ℤ → Bool) (f : ℕ → Option ℤ) (xs : List ℕ) → map g (map f xs) ≡ map (λ k. g (f k)) xs
map-map g f [] = refl
map-map g f (x ∷ xs) = ap (λ bs. g (f x) ∷ bs) (map-map g f xs)

pub flag-seen : (marks : List Mark) (flags : List Bool) (k : ℕ) → k < length marks → not (is_some (open_truth marks flags k)) ≡ get_or flags k false
flag-seen marks flags k h = elim (get_or flags k false) as (λ b. not (is_some (if b then None else truth_of marks k)) ≡ b) [ true ↦ refl | false ↦ there marks k h ]
  where
    there : (marks : List Mark) (k : ℕ) → k < length marks → not (is_some (truth_of marks k)) ≡ false
    there [] k h = absurd (omega (arith, h))
    there (mark ∷ marks) zero h = refl
    there (mark ∷ marks) (suc k) h = there marks k (omega (arith, h))

pub hidden_are_read_back : HiddenAreReadBack
hidden_are_read_back book names decimals files flags one_each whole texts =
    let f = open_truth book.marks flags in
    let size : length (cells book) ≡ length flags = sym one_each ∙ sym whole in
    ap (λ r. map_ok flags_of r) (release-read book decimals false f names files (hidden-new book decimals flags) texts)
    ∙ ap (λ n. Ok (flags_of (first_shown f n))) size
    ∙ ap Ok (map-map (λ value. not (is_some value)) f (range_with_len 0 (length flags)) ∙ each-flag (λ k. not (is_some (f k))) flags 0 (λ k h. ap (λ m. not (is_some (f m))) (omega arith) ∙ flag-seen book.marks flags k (omega (arith, h, whole))))
