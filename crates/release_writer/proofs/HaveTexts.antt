-- Bytes that are read are the texts of what is read.
use Rattle.std.proofs.Common.{◌≡◌, ℕ, zero, suc, ◌+◌, ◌<◌, ◌≤◌, Bool, true, false, not, List, [], ◌∷◌, ◌++◌, length, map, fold, take, drop, slice_get, slice_index_or, nat_lt, bytes_eq, Option, None, Some, option_map, is_some, Result, Ok, Err, ℤ, arith, refl, ap, sym, ◌∙◌, subst, append_assoc, append-nil, length-append, if◌then◌else◌}
use Rattle.std.specs.List.{flat_map}
use Rattle.std.specs.Option.{option_and_then}
use Rattle.std.proofs.lemmas.List.{take-append-drop}
use Rattle.std.proofs.lemmas.List.Sums.{fold-append}
use Rattle.std.proofs.lemmas.Option.{slice_get_past}
use Rattle.std.proofs.lemmas.Bool.Decides.{nat_tests}
use Rattle.std.proofs.lemmas.Slice.Eq.{bytes_eq-Decides}
use Rattle.sdc_base.specs.Records.{Name}
use Rattle.sdc_base.specs.Places.{first_place}
use Rattle.sdc_base.specs.Steps.{◌>>=◌, or_fault, refuse, map_ok}
use Rattle.sdc_base.specs.Cells.{places, trees_of, named_by, is_named, with_name}
use Rattle.sdc_base.specs.TableText.{line_text}
use Rattle.sdc_base.proofs.FirstNames.{stay}
use Rattle.sdc_base.specs.declared.dimension.Dimension.{Dimension}
use Rattle.linked_tables.specs.declared.mark.Mark.{Mark}
use Rattle.linked_tables.specs.BookViews.{BookView}
use Rattle.linked_tables.specs.BookCells.{cells, name_in_table, number_of}
use Rattle.release_writer.specs.ShownCells.{open_truth}
use Rattle.release_writer.specs.ReleaseReading.{ReleaseSoFar, LinePlace, next_line, with_value, reading_after, read_place, read_places, read_table, read_tables, release_read, is_left, flags_of}
use Rattle.release_writer.specs.LineChoices.{Template, rest_behind, line_showing, choice_there, new_value, value_there, truth_of, or_second}
use Rattle.release_writer.specs.ReadingLaws.{AreTexts, HiddenHaveTexts}
use Rattle.release_writer.proofs.Entering.{same-text, then-same}
use Rattle.release_writer.proofs.ReadBack.{place-in, place-new, place-known, shows_of}

-- ---- lines

behind-some : (line bytes rest : List ℕ) → rest_behind line bytes ≡ Some rest → bytes ≡ line ++ rest
behind-some line bytes rest h =
    elim (bytes_eq (take (length line) bytes) line) as (λ b. bytes_eq (take (length line) bytes) line ≡ b → (if b then Some (drop (length line) bytes) else None) ≡ Some rest → bytes ≡ line ++ rest) [
      | true ↦ λ is h. let left : drop (length line) bytes ≡ rest = cc in sym (take-append-drop (length line) bytes) ∙ ap (λ t. t ++ drop (length line) bytes) ((bytes_eq-Decides (take (length line) bytes) line).0 is) ∙ ap (λ t. line ++ t) left
      | false ↦ λ is h. cc
    ] refl h

-- the line of a place shows what is found
abbrev pub Shows : Template → List ℕ → List ℕ → Option ℤ × List ℕ → Type 0
Shows form place bytes found = bytes ≡ line_showing form place found.0 ++ found.1

pub fitting-some : (form : Template) (place bytes : List ℕ) (value : Option ℤ) (found : Option ℤ × List ℕ) → choice_there form place bytes value ≡ Some found → (found.0 ≡ value) × Shows form place bytes found
fitting-some form place bytes value found h = go (rest_behind (line_showing form place value) bytes) refl h
  where
    go : (o : Option (List ℕ)) → rest_behind (line_showing form place value) bytes ≡ o → option_map (λ rest. (value, rest)) o ≡ Some found → (found.0 ≡ value) × Shows form place bytes found
    go None is h = cc
    go (Some rest) is h =
        let same : (value, rest) ≡ found = cc in
        subst (λ (f : Option ℤ × List ℕ). (f.0 ≡ value) × Shows form place bytes f) same (refl, behind-some (line_showing form place value) bytes rest is)

-- a new cell's value is one that it may have
abbrev pub GivesNew : BookView → ℕ → Bool → (ℕ → Option ℤ → Type 0) → Type 0
GivesNew book decimals rounded P =
    (t : ℕ) (table : List Dimension) (place bytes : List ℕ) (cell : ℕ) (found : Option ℤ × List ℕ)
    → let form : Template = record { book = book; t = t; table = table; decimals = decimals; rounded = rounded } in
    new_value form place bytes cell ≡ Some found → Shows form place bytes found × P cell found.0

-- each of the values is one that its cell may have
abbrev pub AllFrom : (ℕ → Option ℤ → Type 0) → ℕ → List (Option ℤ) → Type 0
AllFrom P a [] = Unit {0}
AllFrom P a (value ∷ values) = P a value × AllFrom P (a + 1) values

all-more : (P : ℕ → Option ℤ → Type 0) (a : ℕ) (values : List (Option ℤ)) (value : Option ℤ) → AllFrom P a values → P (a + length values) value → AllFrom P a (values ++ value ∷ [])
all-more P a [] value all one = let same : a + 0 ≡ a = omega arith in (subst (λ k. P k value) same one, tt)
all-more P a (first ∷ values) value all one = let same : a + suc (length values) ≡ (a + 1) + length values = omega arith in (all.0, all-more P (a + 1) values value all.1 (subst (λ k. P k value) same one))

pub all-at : (P : ℕ → Option ℤ → Type 0) (a : ℕ) (values : List (Option ℤ)) (k : ℕ) → AllFrom P a values → k < length values → P (a + k) (slice_index_or values k None)
all-at P a [] k all h = absurd (omega (arith, h))
all-at P a (value ∷ values) zero all h = let same : a ≡ a + 0 = omega arith in subst (λ k. P k value) same all.0
all-at P a (value ∷ values) (suc k) all h = let same : (a + 1) + k ≡ a + suc k = omega arith in subst (λ m. P m (slice_index_or values k None)) same (all-at P (a + 1) values k all.1 (omega (arith, h)))

get-in : (values : List (Option ℤ)) (k : ℕ) → k < length values → (value : Option ℤ) × (slice_get values k ≡ Some value)
get-in [] k h = absurd (omega (arith, h))
get-in (value ∷ values) zero h = (value, refl)
get-in (value ∷ values) (suc k) h = get-in values k (omega (arith, h))

get-last : (values : List (Option ℤ)) (value : Option ℤ) → slice_get (values ++ value ∷ []) (length values) ≡ Some value
get-last [] value = refl
get-last (first ∷ values) value = get-last values value

-- what a list has at a place stays with more behind it
at-front : (values more : List (Option ℤ)) (k : ℕ) (value : Option ℤ) → slice_get values k ≡ Some value → slice_index_or (values ++ more) k None ≡ value
at-front [] more k value h = cc
at-front (first ∷ values) more zero value h = cc
at-front (first ∷ values) more (suc k) value h = at-front values more k value h

taken : (reading : ReleaseSoFar) (cell : ℕ) (w : LinePlace) (o : Option (Option ℤ × List ℕ)) (next : ReleaseSoFar) → (or_fault w o >>= λ found. reading_after reading cell found) ≡ Ok next
    → (found : Option ℤ × List ℕ) × (o ≡ Some found) × (next ≡ record { shown = with_value reading.shown cell found.0; rest = found.1; line = next_line reading.line })
taken reading cell w None next h = cc
taken reading cell w (Some found) next h = (found, refl, cc)

opened : (form : Template) (reading : ReleaseSoFar) (place : List ℕ) (cell : ℕ) (known : Option (Option ℤ)) → number_of form.book (name_in_table form.book form.table place) ≡ Some cell → slice_get reading.shown cell ≡ known
    → read_place form reading place ≡ (or_fault (form.t, reading.line) (value_there form place reading.rest cell known) >>= λ found. reading_after reading cell found)
unfolding read_place
opened form reading place cell known number there = rw (number, there) refl

line-taken : (form : Template) (reading next : ReleaseSoFar) (place : List ℕ) (cell : ℕ) (known : Option (Option ℤ)) → number_of form.book (name_in_table form.book form.table place) ≡ Some cell → slice_get reading.shown cell ≡ known → read_place form reading place ≡ Ok next
    → (found : Option ℤ × List ℕ) × (value_there form place reading.rest cell known ≡ Some found) × (next ≡ record { shown = with_value reading.shown cell found.0; rest = found.1; line = next_line reading.line })
line-taken form reading next place cell known number there h =
    taken reading cell (form.t, reading.line) (value_there form place reading.rest cell known) next (sym (opened form reading place cell known number there) ∙ h)

-- what a line that is read says: its cell's value, with which what is shown grows
pub record Read (form : Template) (P : ℕ → Option ℤ → Type 0) (reading next : ReleaseSoFar) (place : List ℕ) (size : ℕ) : Type 0 where
  pub cell : ℕ
  pub value : Option ℤ
  pub new : List (Option ℤ)
  pub number : number_of form.book (name_in_table form.book form.table place) ≡ Some cell
  pub line : reading.rest ≡ line_showing form place value ++ next.rest
  pub there : slice_get next.shown cell ≡ Some value
  pub grown : next.shown ≡ reading.shown ++ new
  pub long : length next.shown ≡ size
  pub all : AllFrom P 0 next.shown

known-read : (form : Template) (P : ℕ → Option ℤ → Type 0) (done later : List Name) (reading next : ReleaseSoFar) (place : List ℕ)
    → cells form.book ≡ done ++ later → is_named done (name_in_table form.book form.table place) ≡ true → length reading.shown ≡ length done → AllFrom P 0 reading.shown → read_place form reading place ≡ Ok next
    → Read form P reading next place (length done)
known-read form P done later reading next place all is long each h =
    let name = name_in_table form.book form.table place in
    let at = place-known name done is in
    let number : number_of form.book name ≡ Some at.0 = ap (λ names. first_place (bytes_eq name) names) all ∙ place-in name done later at.0 at.1 in
    let small : at.0 < length reading.shown = omega (arith, at.2, long) in
    let held = get-in reading.shown at.0 small in
    let got = line-taken form reading next place at.0 (Some held.0) number held.1 h in
    let fits = fitting-some form place reading.rest held.0 got.0 got.1 in
    let test : nat_lt at.0 (length reading.shown) ≡ true = grind (arith, nat_tests, small) in
    let stays : with_value reading.shown at.0 got.0.0 ≡ reading.shown = rw test refl in
    let shown : next.shown ≡ reading.shown = ap (λ (r : ReleaseSoFar). r.shown) got.2 ∙ stays in
    let rest : next.rest ≡ got.0.1 = ap (λ (r : ReleaseSoFar). r.rest) got.2 in
    record {
      cell = at.0;
      value = got.0.0;
      new = [];
      number = number;
      line = fits.1 ∙ ap (λ t. line_showing form place got.0.0 ++ t) (sym rest);
      there = ap (λ (values : List (Option ℤ)). slice_get values at.0) shown ∙ held.1 ∙ ap Some (sym fits.0);
      grown = shown ∙ sym (append-nil reading.shown);
      long = ap (λ (values : List (Option ℤ)). length values) shown ∙ long;
      all = subst (λ (values : List (Option ℤ)). AllFrom P 0 values) (sym shown) each;
    }

new-read : (book : BookView) (t : ℕ) (table : List Dimension) (decimals : ℕ) (rounded : Bool) (P : ℕ → Option ℤ → Type 0) (done later : List Name) (reading next : ReleaseSoFar) (place : List ℕ) → GivesNew book decimals rounded P
    → let form : Template = record { book = book; t = t; table = table; decimals = decimals; rounded = rounded } in
    cells book ≡ (done ++ name_in_table book table place ∷ []) ++ later → is_named done (name_in_table book table place) ≡ false → length reading.shown ≡ length done → AllFrom P 0 reading.shown → read_place form reading place ≡ Ok next
    → Read form P reading next place (length (done ++ name_in_table book table place ∷ []))
new-read book t table decimals rounded P done later reading next place gives all is long each h =
    let form : Template = record { book = book; t = t; table = table; decimals = decimals; rounded = rounded } in
    let name = name_in_table book table place in
    let cell = length reading.shown in
    let number : number_of book name ≡ Some cell = ap (λ names. first_place (bytes_eq name) names) all ∙ place-new name done later is ∙ ap Some (sym long) in
    let none : slice_get reading.shown cell ≡ None = slice_get_past reading.shown cell (omega arith) in
    let got = line-taken form reading next place cell None number none h in
    let fits = gives t table place reading.rest cell got.0 got.1 in
    let test : nat_lt cell (length reading.shown) ≡ false = grind (arith, nat_tests) in
    let grows : with_value reading.shown cell got.0.0 ≡ reading.shown ++ got.0.0 ∷ [] = rw test refl in
    let shown : next.shown ≡ reading.shown ++ got.0.0 ∷ [] = ap (λ (r : ReleaseSoFar). r.shown) got.2 ∙ grows in
    let rest : next.rest ≡ got.0.1 = ap (λ (r : ReleaseSoFar). r.rest) got.2 in
    let size : length next.shown ≡ cell + 1 = ap (λ (values : List (Option ℤ)). length values) shown ∙ length-append reading.shown (got.0.0 ∷ []) in
    let same : cell ≡ 0 + cell = omega arith in
    record {
      cell = cell;
      value = got.0.0;
      new = got.0.0 ∷ [];
      number = number;
      line = fits.0 ∙ ap (λ t. line_showing form place got.0.0 ++ t) (sym rest);
      there = ap (λ (values : List (Option ℤ)). slice_get values cell) shown ∙ get-last reading.shown got.0.0;
      grown = shown;
      long = omega (arith, size, long, length-append done (name ∷ []));
      all = subst (λ (values : List (Option ℤ)). AllFrom P 0 values) (sym shown) (all-more P 0 reading.shown got.0.0 each (subst (λ k. P k got.0.0) same fits.1));
    }

some-read : (book : BookView) (t : ℕ) (table : List Dimension) (decimals : ℕ) (rounded : Bool) (P : ℕ → Option ℤ → Type 0) (done later : List Name) (reading next : ReleaseSoFar) (place : List ℕ) → GivesNew book decimals rounded P
    → let form : Template = record { book = book; t = t; table = table; decimals = decimals; rounded = rounded } in
    cells book ≡ with_name done (name_in_table book table place) ++ later → length reading.shown ≡ length done → AllFrom P 0 reading.shown → read_place form reading place ≡ Ok next
    → Read form P reading next place (length (with_name done (name_in_table book table place)))
some-read book t table decimals rounded P done later reading next place gives all long each h =
    let form : Template = record { book = book; t = t; table = table; decimals = decimals; rounded = rounded } in
    let name = name_in_table book table place in
    elim (is_named done name) as (λ b. is_named done name ≡ b → cells book ≡ (if b then done else done ++ name ∷ []) ++ later → Read form P reading next place (length (if b then done else done ++ name ∷ []))) [
      | true ↦ λ is all. known-read form P done later reading next place all is long each h
      | false ↦ λ is all. new-read book t table decimals rounded P done later reading next place gives all is long each h
    ] refl all

-- ---- tables

step-ok : {A B F : Type 0} (r : Result A F) (f : A → Result B F) (y : B) → (r >>= f) ≡ Ok y → (x : A) × (r ≡ Ok x) × (f x ≡ Ok y)
step-ok (Ok x) f y h = (x, refl, h)
step-ok (Err e) f y h = cc

-- what cells show by this list
abbrev pub shown_by : List (Option ℤ) → ℕ → Option ℤ
shown_by values cell = slice_index_or values cell None

-- the lines of places that show these values
abbrev pub lines_by : Template → List (Option ℤ) → List (List ℕ) → List ℕ
lines_by form values found = flat_map (λ place. line_showing form place (shows_of form.book (shown_by values) (name_in_table form.book form.table place))) found

-- what lines that are read say: what is shown has grown, and the lines show it, whatever it grows to
pub record ReadAll (form : Template) (P : ℕ → Option ℤ → Type 0) (reading next : ReleaseSoFar) (found : List (List ℕ)) (size : ℕ) : Type 0 where
  pub new : List (Option ℤ)
  pub lines : (more : List (Option ℤ)) → reading.rest ≡ lines_by form (next.shown ++ more) found ++ next.rest
  pub grown : next.shown ≡ reading.shown ++ new
  pub long : length next.shown ≡ size
  pub all : AllFrom P 0 next.shown

lines-read : (book : BookView) (t : ℕ) (table : List Dimension) (decimals : ℕ) (rounded : Bool) (P : ℕ → Option ℤ → Type 0) → GivesNew book decimals rounded P
    → let form : Template = record { book = book; t = t; table = table; decimals = decimals; rounded = rounded } in
    (found : List (List ℕ)) (done more : List Name) (reading last : ReleaseSoFar)
    → cells book ≡ fold with_name done (map (name_in_table book table) found ++ more) → length reading.shown ≡ length done → AllFrom P 0 reading.shown → read_places form reading found ≡ Ok last
    → ReadAll form P reading last found (length (fold with_name done (map (name_in_table book table) found)))
lines-read book t table decimals rounded P gives [] done more reading last all long each h =
    let same : reading ≡ last = cc in
    record {
      new = [];
      lines = λ more. ap (λ (r : ReleaseSoFar). r.rest) same;
      grown = ap (λ (r : ReleaseSoFar). r.shown) (sym same) ∙ sym (append-nil reading.shown);
      long = ap (λ (r : ReleaseSoFar). length r.shown) (sym same) ∙ long;
      all = subst (λ (r : ReleaseSoFar). AllFrom P 0 r.shown) same each;
    }
lines-read book t table decimals rounded P gives (place ∷ found) done more reading last all long each h =
    let form : Template = record { book = book; t = t; table = table; decimals = decimals; rounded = rounded } in
    let name = name_in_table book table place in
    let later = stay (with_name done name) (map (name_in_table book table) found ++ more) in
    let step = step-ok (read_place form reading place) (λ now. read_places form now found) last h in
    let next = step.0 in
    let one = some-read book t table decimals rounded P done later.0 reading next place gives (all ∙ later.1) long each step.1 in
    let rest = lines-read book t table decimals rounded P gives found (with_name done name) more next last all one.long one.all step.2 in
    record {
      new = one.new ++ rest.new;
      lines = λ more.
          let whole : last.shown ++ more ≡ next.shown ++ (rest.new ++ more) = ap (λ (values : List (Option ℤ)). values ++ more) rest.grown ∙ append_assoc next.shown rest.new more in
          let shows : shows_of book (shown_by (last.shown ++ more)) name ≡ one.value =
          ap (λ o. option_and_then (shown_by (last.shown ++ more)) o) one.number
          ∙ ap (λ (values : List (Option ℤ)). shown_by values one.cell) whole
          ∙ at-front next.shown (rest.new ++ more) one.cell one.value one.there in
          one.line
          ∙ ap (λ v. line_showing form place v ++ next.rest) (sym shows)
          ∙ ap (λ t. line_showing form place (shows_of book (shown_by (last.shown ++ more)) name) ++ t) (rest.lines more)
          ∙ sym (append_assoc (line_showing form place (shows_of book (shown_by (last.shown ++ more)) name)) (lines_by form (last.shown ++ more) found) last.rest);
      grown = rest.grown ∙ ap (λ (values : List (Option ℤ)). values ++ rest.new) one.grown ∙ append_assoc reading.shown one.new rest.new;
      long = rest.long;
      all = rest.all;
    }

fault-ok : {X : Type 0} (w : LinePlace) (o : Option X) (x : X) → or_fault w o ≡ Ok x → o ≡ Some x
fault-ok w None x h = cc
fault-ok w (Some y) x h = cc

refuse-ok : (w : LinePlace) (b : Bool) (u : Unit {0}) → refuse w b ≡ Ok u → b ≡ false
refuse-ok w true u h = cc
refuse-ok w false u h = refl

left-none : (bytes : List ℕ) → is_left bytes ≡ false → bytes ≡ []
left-none [] h = refl
left-none (b ∷ bytes) h = cc

-- a table that is read has its line of names, the lines of its places, and no more
pub record TableRead (form : Template) (names : List (List ℕ)) (bytes : List ℕ) (shown last : List (Option ℤ)) : Type 0 where
  pub rest : List ℕ
  pub behind_all : ReleaseSoFar
  pub first : bytes ≡ line_text names ++ rest
  pub lines : read_places form (record { shown = shown; rest = rest; line = 2 }) (places (trees_of form.book.trees form.table)) ≡ Ok behind_all
  pub end : behind_all.rest ≡ []
  pub now : behind_all.shown ≡ last

table-read : (form : Template) (names : List (List ℕ)) (bytes : List ℕ) (shown last : List (Option ℤ)) → read_table form names bytes shown ≡ Ok last → TableRead form names bytes shown last
unfolding read_table
table-read form names bytes shown last h =
    let one = step-ok (or_fault (form.t, 1) (rest_behind (line_text names) bytes)) _ last h in
    let two = step-ok (read_places form (record { shown = shown; rest = one.0; line = 2 }) (places (trees_of form.book.trees form.table))) _ last one.2 in
    let three = step-ok (refuse (form.t, two.0.line) (is_left two.0.rest)) _ last two.2 in
    record {
      rest = one.0;
      behind_all = two.0;
      first = behind-some (line_text names) bytes one.0 (fault-ok (form.t, 1) (rest_behind (line_text names) bytes) one.0 one.1);
      lines = two.1;
      end = left-none two.0.rest (refuse-ok (form.t, two.0.line) (is_left two.0.rest) three.0 three.1);
      now = cc;
    }

-- what tables that are read say
pub record TablesRead (book : BookView) (decimals : ℕ) (P : ℕ → Option ℤ → Type 0) (shown last : List (Option ℤ)) (tables : List (List Dimension)) (names : List (List (List ℕ))) (files : List (List ℕ)) : Type 0 where
  pub new : List (Option ℤ)
  pub grown : last ≡ shown ++ new
  pub long : length last ≡ length (cells book)
  pub all : AllFrom P 0 last
  pub texts : AreTexts book decimals (shown_by last) tables names files

tables-read : (book : BookView) (decimals : ℕ) (rounded : Bool) (P : ℕ → Option ℤ → Type 0) → GivesNew book decimals rounded P
    → (t : ℕ) (tables : List (List Dimension)) (names : List (List (List ℕ))) (files : List (List ℕ)) (done : List Name) (shown last : List (Option ℤ))
    → length names ≡ length tables → length files ≡ length tables
    → cells book ≡ fold with_name done (flat_map (named_by book.trees) tables) → length shown ≡ length done → AllFrom P 0 shown
    → read_tables book decimals rounded t tables names files shown ≡ Ok last → TablesRead book decimals P shown last tables names files
unfolding read_tables
tables-read book decimals rounded P gives t [] names files done shown last one_name one_file all long each h =
    let same : shown ≡ last = cc in
    record {
      new = [];
      grown = sym same ∙ sym (append-nil shown);
      long = ap (λ (values : List (Option ℤ)). length values) (sym same) ∙ long ∙ ap (λ (names : List Name). length names) (sym all);
      all = subst (λ (values : List (Option ℤ)). AllFrom P 0 values) same each;
      texts = tt;
    }
tables-read book decimals rounded P gives t (table ∷ tables) [] files done shown last one_name one_file all long each h = absurd (omega (arith, one_name))
tables-read book decimals rounded P gives t (table ∷ tables) (own ∷ names) [] done shown last one_name one_file all long each h = absurd (omega (arith, one_file))
tables-read book decimals rounded P gives t (table ∷ tables) (own ∷ names) (bytes ∷ files) done shown last one_name one_file all long each h =
    let form : Template = record { book = book; t = t; table = table; decimals = decimals; rounded = rounded } in
    let found = places (trees_of book.trees table) in
    let next = fold with_name done (named_by book.trees table) in
    let step = step-ok (read_table form own bytes shown) (λ now. read_tables book decimals rounded (t + 1) tables names files now) last h in
    let one = table-read form own bytes shown step.0 step.1 in
    let lines = lines-read book t table decimals rounded P gives found done (flat_map (named_by book.trees) tables) (record { shown = shown; rest = one.rest; line = 2 }) one.behind_all all long each one.lines in
    let size : length step.0 ≡ length next = ap (λ (values : List (Option ℤ)). length values) (sym one.now) ∙ lines.long in
    let now : AllFrom P 0 step.0 = subst (λ (values : List (Option ℤ)). AllFrom P 0 values) one.now lines.all in
    let rest = tables-read book decimals rounded P gives (t + 1) tables names files next step.0 last (omega (arith, one_name)) (omega (arith, one_file)) (all ∙ fold-append with_name done (named_by book.trees table) (flat_map (named_by book.trees) tables)) size now step.2 in
    let end : one.behind_all.shown ++ rest.new ≡ last = ap (λ (values : List (Option ℤ)). values ++ rest.new) one.now ∙ sym rest.grown in
    record {
      new = lines.new ++ rest.new;
      grown = sym end ∙ ap (λ (values : List (Option ℤ)). values ++ rest.new) lines.grown ∙ append_assoc shown lines.new rest.new;
      long = rest.long;
      all = rest.all;
      texts = (
        one.first
            ∙ ap (λ t. line_text own ++ t) (lines.lines rest.new ∙ ap (λ t. lines_by form (one.behind_all.shown ++ rest.new) found ++ t) one.end ∙ append-nil (lines_by form (one.behind_all.shown ++ rest.new) found))
            ∙ ap (λ (values : List (Option ℤ)). line_text own ++ lines_by form values found) end,
        rest.texts,
      );
    }

pub release-read : (book : BookView) (decimals : ℕ) (rounded : Bool) (P : ℕ → Option ℤ → Type 0) (names : List (List (List ℕ))) (files : List (List ℕ)) (last : List (Option ℤ)) → GivesNew book decimals rounded P
    → length names ≡ length book.tables → length files ≡ length book.tables → release_read book names decimals rounded files ≡ Ok last → TablesRead book decimals P [] last book.tables names files
release-read book decimals rounded P names files last gives one_name one_file h = tables-read book decimals rounded P gives 0 book.tables names files [] [] last one_name one_file refl refl tt h

pub texts-same : (book : BookView) (decimals : ℕ) (f g : ℕ → Option ℤ) → ((cell : ℕ) → f cell ≡ g cell) → (tables : List (List Dimension)) (names : List (List (List ℕ))) (files : List (List ℕ)) → AreTexts book decimals f tables names files → AreTexts book decimals g tables names files
texts-same book decimals f g same [] names files texts = tt
texts-same book decimals f g same (table ∷ tables) [] files texts = texts
texts-same book decimals f g same (table ∷ tables) (own ∷ names) [] texts = texts
texts-same book decimals f g same (table ∷ tables) (own ∷ names) (bytes ∷ files) texts = (
  texts.0 ∙ same-text book.trees table own decimals (λ name. option_and_then f (number_of book name)) (λ name. option_and_then g (number_of book name)) (λ name. then-same f g (number_of book name) same),
  texts-same book decimals f g same tables names files texts.1,
)

-- ---- hidden sets

-- a cell shows its truth, or nothing
abbrev pub IsChoice : List Mark → ℕ → Option ℤ → Type 0
IsChoice marks cell value = value ≡ (if not (is_some value) then None else truth_of marks cell)

truth-choice : (truth value : Option ℤ) → value ≡ truth → value ≡ (if not (is_some value) then None else truth)
truth-choice truth None h = refl
truth-choice truth (Some number) h = h

none-choice : (truth value : Option ℤ) → value ≡ None → value ≡ (if not (is_some value) then None else truth)
none-choice truth None h = refl
none-choice truth (Some number) h = cc

hidden-gives : (book : BookView) (decimals : ℕ) → GivesNew book decimals false (IsChoice book.marks)
hidden-gives book decimals t table place bytes cell found h =
    let form : Template = record { book = book; t = t; table = table; decimals = decimals; rounded = false } in
    go form (choice_there form place bytes (truth_of book.marks cell)) refl h
  where
    go : (form : Template) (o : Option (Option ℤ × List ℕ)) → choice_there form place bytes (truth_of book.marks cell) ≡ o → or_second o (choice_there form place bytes None) ≡ Some found → Shows form place bytes found × IsChoice book.marks cell found.0
    go form None is h = let fits = fitting-some form place bytes None found h in (fits.1, none-choice (truth_of book.marks cell) found.0 fits.0)
    go form (Some one) is h = let fits = fitting-some form place bytes (truth_of book.marks cell) found (is ∙ h) in (fits.1, truth-choice (truth_of book.marks cell) found.0 fits.0)

flag-at : (values : List (Option ℤ)) (cell : ℕ) → cell < length values → slice_index_or (flags_of values) cell false ≡ not (is_some (slice_index_or values cell None))
flag-at [] cell h = absurd (omega (arith, h))
flag-at (value ∷ values) zero h = refl
flag-at (value ∷ values) (suc cell) h = flag-at values cell (omega (arith, h))

past-flag : (values : List (Option ℤ)) (cell : ℕ) → length values ≤ cell → slice_index_or (flags_of values) cell false ≡ false
past-flag [] cell h = refl
past-flag (value ∷ values) zero h = absurd (omega (arith, h))
past-flag (value ∷ values) (suc cell) h = past-flag values cell (omega (arith, h))

past-value : (values : List (Option ℤ)) (cell : ℕ) → length values ≤ cell → slice_index_or values cell None ≡ None
past-value [] cell h = refl
past-value (value ∷ values) zero h = absurd (omega (arith, h))
past-value (value ∷ values) (suc cell) h = past-value values cell (omega (arith, h))

past-truth : (marks : List Mark) (cell : ℕ) → length marks ≤ cell → truth_of marks cell ≡ None
past-truth marks cell h = ap (λ o. option_map (λ (mark : Mark). mark.facts.truth) o) (slice_get_past marks cell h)

shown-open : (marks : List Mark) (values : List (Option ℤ)) → length values ≡ length marks → AllFrom (IsChoice marks) 0 values → (cell : ℕ) → shown_by values cell ≡ open_truth marks (flags_of values) cell
shown-open marks values size all cell =
    elim (nat_lt cell (length values)) as (λ b. nat_lt cell (length values) ≡ b → shown_by values cell ≡ open_truth marks (flags_of values) cell) [
      | true ↦ λ is.
          let small : cell < length values = grind (arith, nat_tests, is) in
          let same : 0 + cell ≡ cell = omega arith in
          let choice : IsChoice marks cell (shown_by values cell) = subst (λ k. IsChoice marks k (shown_by values cell)) same (all-at (IsChoice marks) 0 values cell all small) in
          choice ∙ ap (λ b. if b then None else truth_of marks cell) (sym (flag-at values cell small))
      | false ↦ λ is.
          let past : length values ≤ cell = grind (arith, nat_tests, is) in
          past-value values cell past ∙ sym (past-truth marks cell (omega (arith, size, past))) ∙ ap (λ b. if b then None else truth_of marks cell) (sym (past-flag values cell past))
    ] refl

map-ok : (r : Result (List (Option ℤ)) LinePlace) (flags : List Bool) → map_ok flags_of r ≡ Ok flags → (values : List (Option ℤ)) × (r ≡ Ok values) × (flags_of values ≡ flags)
map-ok (Ok values) flags h = (values, refl, cc)
map-ok (Err e) flags h = cc

flags-long : (values : List (Option ℤ)) → length (flags_of values) ≡ length values
flags-long [] = refl
flags-long (value ∷ values) = ap suc (flags-long values)

pub hidden_have_texts : HiddenHaveTexts
hidden_have_texts book names decimals files flags one_each one_name one_file h =
    let made = map-ok (release_read book names decimals false files) flags h in
    let values = made.0 in
    let read = release-read book decimals false (IsChoice book.marks) names files values (hidden-gives book decimals) one_name one_file made.1 in
    let size : length values ≡ length book.marks = read.long ∙ sym one_each in
    let texts = texts-same book decimals (shown_by values) (open_truth book.marks (flags_of values)) (shown-open book.marks values size read.all) book.tables names files read.texts in
    subst (λ (flags : List Bool). (length flags ≡ length book.marks) × AreTexts book decimals (open_truth book.marks flags) book.tables names files) made.2 (flags-long values ∙ size, texts)
