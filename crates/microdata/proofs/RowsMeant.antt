-- The rows are those of their records.
use Rattle.std.proofs.Common.{◌≡◌, ℕ, zero, suc, ◌+◌, nat_lt, nat_le, not, Bool, true, false, cond, List, [], ◌∷◌, ◌++◌, length, map, filter, position, slice_get, sum, Option, None, Some, option_map, Result, Ok, pos, refl, ap, sym, ◌∙◌, subst, arith, append_assoc, append-nil, add-one, ◌⊎◌, inl, inr}
use Rattle.std.specs.List.{AllByRecursion, list_any}
use Rattle.std.specs.Str.{bytes_eq}
use Rattle.std.proofs.lemmas.Slice.Eq.{bytes_eq-Decides}
use Rattle.sdc_base.specs.Blanks.{is_blank}
use Rattle.sdc_base.specs.Lines.{lines}
use Rattle.sdc_base.specs.Places.{first_place}
use Rattle.sdc_base.specs.Steps.{◌>>=◌, or_fault, refuse}
use Rattle.sdc_base.proofs.StepLemmas.{bind_ok}
use Rattle.sdc_base.specs.Trees.{Tree, codes, find}
use Rattle.code_trees.specs.Among.{IsIn, AreAmong}
use Rattle.code_trees.specs.Levels.{boundaries, prefixes, with_prefixes}
use Rattle.code_trees.proofs.MapEntries.{position-first_place}
use Rattle.microdata.specs.Fields.{field, has_no_response, value_of, weight_of}
use Rattle.microdata.specs.Keeping.{AreSeen}
use Rattle.microdata.specs.Layouts.{measures_of}
use Rattle.microdata.specs.Meaning.{is_answered, is_unanswered}
use Rattle.microdata.specs.OneRecord.{variable_says, variables_say, response_says, record_says, line_says, lines_say, with_row, with_skipped}
use Rattle.microdata.specs.SeenCodes.{is_above, listed_place, with_level_code, with_flat_code, known_or_new, with_code, seen_first}
use Rattle.microdata.specs.declared.faults.RowWhy.{RowWhy}
use Rattle.microdata.specs.declared.faults.RowWhy.TheVariants.{TooLong, TooMany, Short, UnknownCode, NotLeaf, TooManyCodes}
use Rattle.microdata.specs.declared.layout.Field.{Field}
use Rattle.microdata.specs.declared.layout.Layout.{Layout}
use Rattle.microdata.specs.declared.layout.Source.{Source}
use Rattle.microdata.specs.declared.layout.Source.TheVariants as source
use Rattle.microdata.specs.KeptRows.{KeptRow}
use Rattle.microdata.specs.declared.record.ReaderProgress.{ReaderProgress}
use Rattle.microdata.specs.declared.record.Variable.{Variable}
use Rattle.microdata.specs.declared.taking.Seen.{Seen}
use Rattle.microdata.proofs.FlatCodes.{flat-sound, in-either, in-first, in-second}
use Rattle.microdata.proofs.InOrder.{AreInOrder, one-more-in-order, prefixes-in-order}
use Rattle.microdata.proofs.Kept.{value_of_ok, same-value}
use Rattle.microdata.proofs.LevelCodes.{passed, level-sound}

-- ---- lists of codes

get-longer : (codes more : List (List ℕ)) (n : ℕ) (code : List ℕ) → slice_get codes n ≡ Some code → slice_get (codes ++ more) n ≡ Some code
get-longer [] more n code h = cc
get-longer (first ∷ codes) more zero code h = h
get-longer (first ∷ codes) more (suc n) code h = get-longer codes more n code h

get-last : (codes : List (List ℕ)) (code : List ℕ) → slice_get (codes ++ code ∷ []) (length codes) ≡ Some code
get-last [] code = refl
get-last (first ∷ codes) code = get-last codes code

pub get-in : (codes : List (List ℕ)) (n : ℕ) (code : List ℕ) → slice_get codes n ≡ Some code → IsIn code codes
get-in [] n code h = cc
get-in (first ∷ codes) zero code h = let same : first ≡ code = cc in inl (sym same)
get-in (first ∷ codes) (suc n) code h = inr (get-in codes n code h)

first-at : (codes : List (List ℕ)) (code : List ℕ) (place : ℕ) → first_place (bytes_eq code) codes ≡ Some place → slice_get codes place ≡ Some code
first-at [] code place h = cc
first-at (first ∷ codes) code place h =
    let rest = first-at codes code in
    elim (bytes_eq code first) as (λ b. bytes_eq code first ≡ b → cond b (Some 0) (option_map (λ k. k + 1) (first_place (bytes_eq code) codes)) ≡ Some place → slice_get (first ∷ codes) place ≡ Some code) [
      | true ↦ λ is e. (let zeroth : 0 ≡ place = cc in subst (λ p. slice_get (first ∷ codes) p ≡ Some code) zeroth (ap Some (sym ((bytes_eq-Decides code first).0 is))))
      | false ↦ λ is e. elim (first_place (bytes_eq code) codes) as (λ o. first_place (bytes_eq code) codes ≡ o → option_map (λ k. k + 1) o ≡ Some place → slice_get (first ∷ codes) place ≡ Some code) [
        | None ↦ λ found f. cc
        | Some k ↦ λ found f. (let next : k + 1 ≡ place = cc in subst (λ p. slice_get (first ∷ codes) p ≡ Some code) (sym (add-one k) ∙ next) (rest k found))
      ] refl e
    ] refl h

position-at : (codes : List (List ℕ)) (code : List ℕ) (place : ℕ) → position (bytes_eq code) codes ≡ Some place → slice_get codes place ≡ Some code
position-at codes code place h = first-at codes code place (sym (position-first_place (bytes_eq code) codes) ∙ h)

-- ---- the number of a code

abbrev pub Stands : Source → Seen → ℕ → List ℕ → Type 0
Stands (source.Listed tree) seen number code = find tree code ≡ Some number
Stands (source.Levels widths total) seen number code = slice_get seen.codes number ≡ Some code
Stands (source.Flat listed total) seen number code = slice_get seen.codes number ≡ Some code

abbrev pub Longer : Seen → Seen → Type 0
Longer old new = (more : List (List ℕ)) × (new.codes ≡ old.codes ++ more)

stands-longer : (s : Source) (old new : Seen) (number : ℕ) (code : List ℕ) → Longer old new → Stands s old number code → Stands s new number code
stands-longer (source.Listed tree) old new number code longer h = h
stands-longer (source.Levels widths total) old new number code longer h = subst (λ (codes : List (List ℕ)). slice_get codes number ≡ Some code) (sym longer.1) (get-longer old.codes longer.0 number code h)
stands-longer (source.Flat listed total) old new number code longer h = subst (λ (codes : List (List ℕ)). slice_get codes number ≡ Some code) (sym longer.1) (get-longer old.codes longer.0 number code h)

record IsMeantBy (s : Source) (old : Seen) (code : List ℕ) (taken : Seen × ℕ) : Type 0 where
  pub stands : Stands s taken.0 taken.1 code
  pub longer : Longer old taken.0
  pub sound : AreSeen s taken.0
  pub only : (x : List ℕ) → IsIn x taken.0.codes → IsIn x old.codes ⊎ (x ≡ code)
  pub ordered : AreInOrder old.nodes → AreInOrder taken.0.nodes

none-any : (codes : List (List ℕ)) (code : List ℕ) → first_place (bytes_eq code) codes ≡ None → list_any (bytes_eq code) codes ≡ false
none-any [] code h = refl
none-any (first ∷ codes) code h =
    let rest = none-any codes code in
    elim (bytes_eq code first) as (λ b. bytes_eq code first ≡ b → cond b (Some 0) (option_map (λ k. k + 1) (first_place (bytes_eq code) codes)) ≡ None → list_any (bytes_eq code) (first ∷ codes) ≡ false) [
      | true ↦ λ is e. cc
      | false ↦ λ is e. rw is (rest (none-of (first_place (bytes_eq code) codes) e))
    ] refl h
  where
    none-of : (o : Option ℕ) → option_map (λ k. k + 1) o ≡ None → o ≡ None
    none-of None h = refl
    none-of (Some k) h = cc

level-more : (widths total : List ℕ) (old next : Seen) (code : List ℕ) → with_level_code widths total old code ≡ Ok next → (next.codes ≡ old.codes ++ code ∷ []) × (AreInOrder old.nodes → AreInOrder next.nodes)
unfolding with_level_code
level-more widths total old next code said =
    let a = passed UnknownCode (list_any is_blank code) _ next said in
    let b = passed UnknownCode (nat_lt (sum widths) (length code)) _ next a.1 in
    let c = passed NotLeaf (bytes_eq code total) _ next b.1 in
    let d = passed UnknownCode (list_any (bytes_eq total) (prefixes (boundaries 0 widths) code)) _ next c.1 in
    let e = passed TooManyCodes (nat_lt 5000 (length (with_prefixes (boundaries 0 widths) old.nodes code))) _ next d.1 in
    subst (λ (seen : Seen). (seen.codes ≡ old.codes ++ code ∷ []) × (AreInOrder old.nodes → AreInOrder seen.nodes)) (value_of_ok _ next e.1) (refl, prefixes-in-order (boundaries 0 widths) old.nodes code)

flat-more : (total : List ℕ) (old next : Seen) (code : List ℕ) → with_flat_code total old code ≡ Ok next → (next.codes ≡ old.codes ++ code ∷ []) × (AreInOrder old.nodes → AreInOrder next.nodes)
unfolding with_flat_code
flat-more total old next code said =
    let a = passed NotLeaf (bytes_eq code total) _ next said in
    let b = passed TooManyCodes (nat_le 5000 (length old.codes)) _ next a.1 in
    subst (λ (seen : Seen). (seen.codes ≡ old.codes ++ code ∷ []) × (AreInOrder old.nodes → AreInOrder seen.nodes)) (value_of_ok _ next b.1) (refl, one-more-in-order code old.nodes)

old-or-new : (codes : List (List ℕ)) (code x : List ℕ) → IsIn x (codes ++ code ∷ []) → IsIn x codes ⊎ (x ≡ code)
old-or-new codes code x h = elim (in-either x codes (code ∷ []) h) [
  | inl old ↦ inl old
  | inr new ↦ elim new [ inl here ↦ inr here | inr none ↦ absurd none ]
]

same-code : (s : Source) (old : Seen) (code : List ℕ) (taken : Seen × ℕ) (grown : Result Seen RowWhy) → ((seen : Seen) (n : ℕ) → slice_get seen.codes n ≡ Some code → Stands s seen n code) → AreSeen s old
    → ((next : Seen) → list_any (bytes_eq code) old.codes ≡ false → grown ≡ Ok next → ((next.codes ≡ old.codes ++ code ∷ []) × (AreInOrder old.nodes → AreInOrder next.nodes)) × AreSeen s next)
    → known_or_new old (position (bytes_eq code) old.codes) grown ≡ Ok taken → IsMeantBy s old code taken
same-code s old code taken grown stands sound more said = by (position (bytes_eq code) old.codes) refl said
  where
    by : (o : Option ℕ) → position (bytes_eq code) old.codes ≡ o → known_or_new old o grown ≡ Ok taken → IsMeantBy s old code taken
    by (Some place) is h =
        let same : ◌≡◌ {A = Seen × ℕ} (old, place) taken = value_of_ok _ _ h in
        subst (IsMeantBy s old code) same (record { stands = stands old place (position-at old.codes code place is); longer = ([], sym (append-nil old.codes)); sound = sound; only = λ x inside. inl inside; ordered = λ order. order })
    by None is h =
        let b = bind_ok grown (λ next. Ok (next, length old.codes)) taken h in
        let same : ◌≡◌ {A = Seen × ℕ} (b.0, length old.codes) taken = value_of_ok _ _ b.2 in
        let grew = more b.0 (none-any old.codes code (sym (position-first_place (bytes_eq code) old.codes) ∙ is)) b.1 in
        subst (IsMeantBy s old code) same (record {
          stands = stands b.0 (length old.codes) (subst (λ (codes : List (List ℕ)). slice_get codes (length old.codes) ≡ Some code) (sym grew.0.0) (get-last old.codes code));
          longer = (code ∷ [], grew.0.0);
          sound = grew.1;
          only = λ x inside. old-or-new old.codes code x (subst (IsIn x) grew.0.0 inside);
          ordered = grew.0.1;
        })

listed-meant : (tree : Tree) (old : Seen) (code : List ℕ) (taken : Seen × ℕ) → AreSeen (source.Listed tree) old → with_code (source.Listed tree) old code ≡ Ok taken → IsMeantBy (source.Listed tree) old code taken
unfolding with_code listed_place
listed-meant tree old code taken sound said = by (find tree code) refl said
  where
    by : (o : Option ℕ) → find tree code ≡ o → ((or_fault UnknownCode o >>= λ place. refuse NotLeaf (is_above tree place) >>= λ leaf. Ok place) >>= λ place. Ok (old, place)) ≡ Ok taken → IsMeantBy (source.Listed tree) old code taken
    by None is h = cc
    by (Some place) is h = leaf (is_above tree place) h
      where
        leaf : (b : Bool) → ((refuse NotLeaf b >>= λ leaf. Ok place) >>= λ place. Ok (old, place)) ≡ Ok taken → IsMeantBy (source.Listed tree) old code taken
        leaf true h = cc
        leaf false h = let same : ◌≡◌ {A = Seen × ℕ} (old, place) taken = value_of_ok _ _ h in subst (IsMeantBy (source.Listed tree) old code) same (record { stands = is; longer = ([], sym (append-nil old.codes)); sound = sound; only = λ x inside. inl inside; ordered = λ order. order })

code-meant : (s : Source) (old : Seen) (code : List ℕ) (taken : Seen × ℕ) → AreSeen s old → with_code s old code ≡ Ok taken → IsMeantBy s old code taken
unfolding with_code
code-meant (source.Listed tree) old code taken sound said = listed-meant tree old code taken sound said
code-meant (source.Levels widths total) old code taken sound said =
    same-code (source.Levels widths total) old code taken (with_level_code widths total old code) (λ seen n h. h) sound
    (λ next fresh h. (level-more widths total old next code h, level-sound widths total old next code fresh sound h)) said
code-meant (source.Flat listed total) old code taken sound said =
    same-code (source.Flat listed total) old code taken (with_flat_code total old code) (λ seen n h. h) sound
    (λ next fresh h. (flat-more total old next code h, flat-sound listed total old next code fresh sound h)) said

-- ---- the codes of a record

abbrev pub code_in : Variable → List ℕ → List ℕ
code_in variable line = field variable.field.first variable.field.width line

-- the numbers of a record's codes
abbrev pub AreNumbersOf : List Variable → List ℕ → List ℕ → Type 0
AreNumbersOf [] line [] = Unit {0}
AreNumbersOf [] line (number ∷ numbers) = ⊥
AreNumbersOf (variable ∷ variables) line [] = ⊥
AreNumbersOf (variable ∷ variables) line (number ∷ numbers) = Stands variable.field.source variable.seen number (code_in variable line) × AreNumbersOf variables line numbers

-- the same fields, each with its codes and perhaps more
abbrev pub Grown : List Variable → List Variable → Type 0
Grown [] [] = Unit {0}
Grown [] (new ∷ news) = ⊥
Grown (old ∷ olds) [] = ⊥
Grown (old ∷ olds) (new ∷ news) = (old.field ≡ new.field) × Longer old.seen new.seen × Grown olds news

one-grown : (old new : Variable) (number : ℕ) (line : List ℕ) → old.field ≡ new.field → Longer old.seen new.seen → Stands old.field.source old.seen number (code_in old line) → Stands new.field.source new.seen number (code_in new line)
one-grown old new number line same longer h =
    subst (λ (f : Field). Stands f.source new.seen number (field f.first f.width line)) same (stands-longer old.field.source old.seen new.seen number (code_in old line) longer h)

numbers-grown : (olds news : List Variable) (line numbers : List ℕ) → Grown olds news → AreNumbersOf olds line numbers → AreNumbersOf news line numbers
numbers-grown [] [] line [] grown h = tt
numbers-grown [] [] line (number ∷ numbers) grown h = h
numbers-grown [] (new ∷ news) line numbers grown h = absurd grown
numbers-grown (old ∷ olds) [] line numbers grown h = absurd grown
numbers-grown (old ∷ olds) (new ∷ news) line [] grown h = absurd h
numbers-grown (old ∷ olds) (new ∷ news) line (number ∷ numbers) grown h = (one-grown old new number line grown.0 grown.1 h.0, numbers-grown olds news line numbers grown.2 h.1)

-- a code that is kept, where codes are kept
abbrev pub Has : Source → Seen → List ℕ → Type 0
Has (source.Listed tree) seen code = Unit {0}
Has (source.Levels widths total) seen code = IsIn code seen.codes
Has (source.Flat listed total) seen code = IsIn code seen.codes

-- the codes that are kept are those from before the first record and those of these records
pub record AreBrought (s : Source) (seen : Seen) (code : List ℕ → List ℕ) (answered : List (List ℕ)) : Type 0 where
  pub ordered : AreInOrder seen.nodes
  pub only : (x : List ℕ) → IsIn x seen.codes → IsIn x (seen_first s).codes ⊎ ((line : List ℕ) × IsIn line answered × (x ≡ code line))
  pub first : AreAmong (seen_first s).codes seen.codes
  pub all : (line : List ℕ) → IsIn line answered → Has s seen (code line)

abbrev pub IsBrought : List (List ℕ) → Variable → Type 0
IsBrought answered variable = AreBrought variable.field.source variable.seen (λ line. code_in variable line) answered

in-longer : (old new : Seen) (x : List ℕ) → Longer old new → IsIn x old.codes → IsIn x new.codes
in-longer old new x longer h = subst (IsIn x) (sym longer.1) (in-first x old.codes longer.0 h)

has-longer : (s : Source) (old new : Seen) (code : List ℕ) → Longer old new → Has s old code → Has s new code
has-longer (source.Listed tree) old new code longer h = tt
has-longer (source.Levels widths total) old new code longer h = in-longer old new code longer h
has-longer (source.Flat listed total) old new code longer h = in-longer old new code longer h

has-standing : (s : Source) (seen : Seen) (number : ℕ) (code : List ℕ) → Stands s seen number code → Has s seen code
has-standing (source.Listed tree) seen number code h = tt
has-standing (source.Levels widths total) seen number code h = get-in seen.codes number code h
has-standing (source.Flat listed total) seen number code h = get-in seen.codes number code h

one-brought : (variable : Variable) (line : List ℕ) (taken : Seen × ℕ) (answered : List (List ℕ)) → IsMeantBy variable.field.source variable.seen (code_in variable line) taken → IsBrought answered variable
    → IsBrought (answered ++ line ∷ []) (record { field = variable.field; seen = taken.0 })
one-brought variable line taken answered meant brought = record {
  ordered = meant.ordered brought.ordered;
  only = λ x h. elim (meant.only x h) [
    | inl old ↦ elim (brought.only x old) [ inl before ↦ inl before | inr by ↦ inr (by.0, in-first by.0 answered (line ∷ []) by.1, by.2) ]
    | inr this ↦ inr (line, in-second line answered (line ∷ []) (inl refl), this)
  ];
  first = λ x h. in-longer variable.seen taken.0 x meant.longer (brought.first x h);
  all = λ other h. elim (in-either other answered (line ∷ []) h) [
    | inl old ↦ has-longer variable.field.source variable.seen taken.0 (code_in variable other) meant.longer (brought.all other old)
    | inr it ↦ elim it [
      | inl same ↦ subst (λ (text : List ℕ). Has variable.field.source taken.0 (code_in variable text)) (sym same) (has-standing variable.field.source taken.0 taken.1 (code_in variable line) meant.stands)
      | inr none ↦ absurd none
    ]
  ];
}

record IsSaid (old : Variable) (line : List ℕ) (said : Variable × ℕ) : Type 0 where
  pub stands : Stands said.0.field.source said.0.seen said.1 (code_in said.0 line)
  pub same : old.field ≡ said.0.field
  pub longer : Longer old.seen said.0.seen
  pub sound : AreSeen said.0.field.source said.0.seen
  pub brought : (answered : List (List ℕ)) → IsBrought answered old → IsBrought (answered ++ line ∷ []) said.0

one-said : (variable : Variable) (line : List ℕ) (said : Variable × ℕ) → AreSeen variable.field.source variable.seen → variable_says variable line ≡ Ok said → IsSaid variable line said
unfolding variable_says
one-said variable line said sound h =
    let b = bind_ok (with_code variable.field.source variable.seen (field variable.field.first variable.field.width line)) _ said h in
    let meant = code-meant variable.field.source variable.seen (code_in variable line) b.0 sound b.1 in
    subst (IsSaid variable line) (value_of_ok _ said b.2) (record { stands = meant.stands; same = refl; longer = meant.longer; sound = meant.sound; brought = λ answered brought. one-brought variable line b.0 answered meant brought })

record AreSaid (olds : List Variable) (line : List ℕ) (taken : List Variable × List ℕ) : Type 0 where
  pub numbers : AreNumbersOf taken.0 line taken.1
  pub grown : Grown olds taken.0
  pub sound : AllByRecursion (λ variable. AreSeen variable.field.source variable.seen) taken.0
  pub brought : (answered : List (List ℕ)) → AllByRecursion (IsBrought answered) olds → AllByRecursion (IsBrought (answered ++ line ∷ [])) taken.0

all-said : (variables : List Variable) (line : List ℕ) (taken : List Variable × List ℕ) → AllByRecursion (λ variable. AreSeen variable.field.source variable.seen) variables → variables_say variables line ≡ Ok taken → AreSaid variables line taken
unfolding variables_say
all-said [] line taken sound h = subst (AreSaid [] line) (value_of_ok _ taken h) (record { numbers = tt; grown = tt; sound = tt; brought = λ answered brought. tt })
all-said (variable ∷ variables) line taken sound h =
    let a = bind_ok (variable_says variable line) _ taken h in
    let b = bind_ok (variables_say variables line) _ taken a.2 in
    let one = one-said variable line a.0 sound.0 a.1 in
    let rest = all-said variables line b.0 sound.1 b.1 in
    subst (AreSaid (variable ∷ variables) line) (value_of_ok _ taken b.2) (record {
      numbers = (one.stands, rest.numbers);
      grown = (one.same, one.longer, rest.grown);
      sound = (one.sound, rest.sound);
      brought = λ answered brought. (one.brought answered brought.0, rest.brought answered brought.1);
    })

grown-fields : (olds news : List Variable) → Grown olds news → map (λ variable. variable.field) news ≡ map (λ variable. variable.field) olds
grown-fields [] [] grown = refl
grown-fields [] (new ∷ news) grown = absurd grown
grown-fields (old ∷ olds) [] grown = absurd grown
grown-fields (old ∷ olds) (new ∷ news) grown = rw (sym grown.0) (ap (λ rest. old.field ∷ rest) (grown-fields olds news grown.2))

-- ---- the records so far

pub record IsKeptOf (layout : Layout) (variables : List Variable) (line : List ℕ) (kept : KeptRow) : Type 0 where
  pub numbers : AreNumbersOf variables line kept.places
  pub value : (n : ℕ) × (value_of layout.response line ≡ Ok n) × (kept.value ≡ pos n)
  pub weight : weight_of layout.weight line ≡ Ok kept.weight

abbrev pub AreKeptOf : Layout → List Variable → List (List ℕ) → List KeptRow → Type 0
AreKeptOf layout variables [] [] = Unit {0}
AreKeptOf layout variables [] (row ∷ rows) = ⊥
AreKeptOf layout variables (line ∷ lines) [] = ⊥
AreKeptOf layout variables (line ∷ lines) (row ∷ rows) = IsKeptOf layout variables line row × AreKeptOf layout variables lines rows

kept-grown : (layout : Layout) (olds news : List Variable) (lines : List (List ℕ)) (rows : List KeptRow) → Grown olds news → AreKeptOf layout olds lines rows → AreKeptOf layout news lines rows
kept-grown layout olds news [] [] grown h = tt
kept-grown layout olds news [] (row ∷ rows) grown h = h
kept-grown layout olds news (line ∷ lines) [] grown h = h
kept-grown layout olds news (line ∷ lines) (row ∷ rows) grown h =
    (record { numbers = numbers-grown olds news line row.places grown h.0.numbers; value = h.0.value; weight = h.0.weight }, kept-grown layout olds news lines rows grown h.1)

kept-more : (layout : Layout) (variables : List Variable) (lines : List (List ℕ)) (rows : List KeptRow) (line : List ℕ) (row : KeptRow) → AreKeptOf layout variables lines rows → IsKeptOf layout variables line row
    → AreKeptOf layout variables (lines ++ line ∷ []) (rows ++ row ∷ [])
kept-more layout variables [] [] line row h one = (one, tt)
kept-more layout variables [] (other ∷ rows) line row h one = absurd h
kept-more layout variables (first ∷ lines) [] line row h one = absurd h
kept-more layout variables (first ∷ lines) (other ∷ rows) line row h one = (h.0, kept-more layout variables lines rows line row h.1 one)

-- so many records were skipped, and these are the others
pub record IsMeantSoFar (layout : Layout) (answered : List (List ℕ)) (unanswered : ℕ) (so_far : ReaderProgress) : Type 0 where
  pub fields : map (λ variable. variable.field) so_far.variables ≡ layout.spanning
  pub sound : AllByRecursion (λ variable. AreSeen variable.field.source variable.seen) so_far.variables
  pub rows : AreKeptOf layout so_far.variables answered so_far.rows
  pub skipped : so_far.skipped ≡ unanswered
  pub brought : AllByRecursion (IsBrought answered) so_far.variables

response-meant : (layout : Layout) (answered : List (List ℕ)) (unanswered : ℕ) (so_far next : ReaderProgress) (line : List ℕ) → IsMeantSoFar layout answered unanswered so_far → response_says (measures_of layout) so_far line ≡ Ok next
    → IsMeantSoFar layout (answered ++ line ∷ []) unanswered next
unfolding response_says
response-meant layout answered unanswered so_far next line meant h =
    let a = bind_ok (value_of layout.response line) _ next h in
    let b = bind_ok (weight_of layout.weight line) _ next a.2 in
    let c = bind_ok (variables_say so_far.variables line) _ next b.2 in
    let said = all-said so_far.variables line c.0 meant.sound c.1 in
    let row : KeptRow = record { number = so_far.number + 1; places = c.0.1; value = pos a.0; weight = b.0 } in
    subst (IsMeantSoFar layout (answered ++ line ∷ []) unanswered) (value_of_ok (with_row so_far c.0.0 row) next c.2) (record {
      fields = grown-fields so_far.variables c.0.0 said.grown ∙ meant.fields;
      sound = said.sound;
      rows = kept-more layout c.0.0 answered so_far.rows line row (kept-grown layout so_far.variables c.0.0 answered so_far.rows said.grown meant.rows)
          (record { numbers = said.numbers; value = (a.0, a.1, refl); weight = b.1 });
      skipped = meant.skipped;
      brought = said.brought answered meant.brought;
    })

record-step : (layout : Layout) (so_far next : ReaderProgress) (line : List ℕ) → record_says (measures_of layout) so_far line ≡ Ok next
    → cond {A = Result ReaderProgress RowWhy} (has_no_response layout.response line) (Ok (with_skipped so_far)) (response_says (measures_of layout) so_far line) ≡ Ok next
unfolding record_says
record-step layout so_far next line h =
    let a = passed TooLong (nat_lt 1000 (length line)) _ next h in
    let b = passed TooMany (nat_le 1000000 so_far.number) _ next a.1 in
    let c = passed Short (nat_lt (length line) layout.needed) _ next b.1 in
    c.1

filter-yes : (test : List ℕ → Bool) (line : List ℕ) (lines : List (List ℕ)) → test line ≡ true → filter test (line ∷ lines) ≡ line ∷ filter test lines
filter-yes test line lines h = rw h refl

filter-no : (test : List ℕ → Bool) (line : List ℕ) (lines : List (List ℕ)) → test line ≡ false → filter test (line ∷ lines) ≡ filter test lines
filter-no test line lines h = rw h refl

-- all lines, behind those before them
abbrev pub IsMeantWith : Layout → List (List ℕ) → ℕ → List (List ℕ) → ReaderProgress → Type 0
IsMeantWith layout answered unanswered rest last = IsMeantSoFar layout (answered ++ filter (is_answered layout.response) rest) (unanswered + length (filter (is_unanswered layout.response) rest)) last

skip-step : (layout : Layout) (answered : List (List ℕ)) (unanswered b : ℕ) (line : List ℕ) (rest : List (List ℕ)) (last : ReaderProgress) → has_no_response layout.response (b ∷ line) ≡ true
    → IsMeantWith layout answered (unanswered + 1) rest last → IsMeantWith layout answered unanswered ((b ∷ line) ∷ rest) last
skip-step layout answered unanswered b line rest last none h =
    let no : is_answered layout.response (b ∷ line) ≡ false = ap not none in
    let yes : is_unanswered layout.response (b ∷ line) ≡ true = none in
    let count : unanswered + 1 + length (filter (is_unanswered layout.response) rest) ≡ unanswered + suc (length (filter (is_unanswered layout.response) rest)) = omega arith in
    rw (filter-no (is_answered layout.response) (b ∷ line) rest no, filter-yes (is_unanswered layout.response) (b ∷ line) rest yes) (subst (λ n. IsMeantSoFar layout (answered ++ filter (is_answered layout.response) rest) n last) count h)

take-step : (layout : Layout) (answered : List (List ℕ)) (unanswered b : ℕ) (line : List ℕ) (rest : List (List ℕ)) (last : ReaderProgress) → has_no_response layout.response (b ∷ line) ≡ false
    → IsMeantWith layout (answered ++ (b ∷ line) ∷ []) unanswered rest last → IsMeantWith layout answered unanswered ((b ∷ line) ∷ rest) last
take-step layout answered unanswered b line rest last some h =
    let yes : is_answered layout.response (b ∷ line) ≡ true = ap not some in
    let no : is_unanswered layout.response (b ∷ line) ≡ false = some in
    rw (filter-yes (is_answered layout.response) (b ∷ line) rest yes, filter-no (is_unanswered layout.response) (b ∷ line) rest no)
    (subst (λ (all : List (List ℕ)). IsMeantSoFar layout all (unanswered + length (filter (is_unanswered layout.response) rest)) last) (append_assoc answered ((b ∷ line) ∷ []) (filter (is_answered layout.response) rest)) h)

pub lines-meant : (layout : Layout) (answered : List (List ℕ)) (unanswered : ℕ) (so_far last : ReaderProgress) (rest : List (List ℕ)) → IsMeantSoFar layout answered unanswered so_far → lines_say (measures_of layout) so_far rest ≡ Ok last
    → IsMeantWith layout answered unanswered rest last
unfolding lines_say
lines-meant layout answered unanswered so_far last [] meant h =
    let none : unanswered ≡ unanswered + 0 = omega arith in
    subst (λ n. IsMeantSoFar layout (answered ++ []) n last) none
    (subst (λ (all : List (List ℕ)). IsMeantSoFar layout all unanswered last) (sym (append-nil answered)) (subst (IsMeantSoFar layout answered unanswered) (value_of_ok so_far last h) meant))
lines-meant layout answered unanswered so_far last ([] ∷ rest) meant h = lines-meant layout answered unanswered so_far last rest meant h
lines-meant layout answered unanswered so_far last ((b ∷ line) ∷ rest) meant h =
    let a = bind_ok (line_says (measures_of layout) so_far (b ∷ line)) _ last h in
    let step = record-step layout so_far a.0 (b ∷ line) (same-value (so_far.number + 1) (record_says (measures_of layout) so_far (b ∷ line)) a.0 a.1) in
    let later = λ (answered : List (List ℕ)) (unanswered : ℕ) (good : IsMeantSoFar layout answered unanswered a.0). lines-meant layout answered unanswered a.0 last rest good a.2 in
    elim (has_no_response layout.response (b ∷ line)) as (λ t. has_no_response layout.response (b ∷ line) ≡ t → cond {A = Result ReaderProgress RowWhy} t (Ok (with_skipped so_far)) (response_says (measures_of layout) so_far (b ∷ line)) ≡ Ok a.0
    → IsMeantWith layout answered unanswered ((b ∷ line) ∷ rest) last) [
      | true ↦ λ is e. skip-step layout answered unanswered b line rest last is
          (later answered (unanswered + 1) (subst (IsMeantSoFar layout answered (unanswered + 1)) (value_of_ok (with_skipped so_far) a.0 e) (record { fields = meant.fields; sound = meant.sound; rows = meant.rows; skipped = ap (λ n. n + 1) meant.skipped; brought = meant.brought })))
      | false ↦ λ is e. take-step layout answered unanswered b line rest last is (later (answered ++ (b ∷ line) ∷ []) unanswered (response-meant layout answered unanswered so_far a.0 (b ∷ line) meant e))
    ] refl step
