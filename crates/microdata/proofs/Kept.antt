-- What is kept of each record stays within its limits.
use Rattle.std.proofs.Common.{◌≡◌, ℕ, suc, ◌+◌, ◌^◌, ◌<◌, ◌≤◌, nat_lt, nat_le, Bool, true, false, cond, List, [], ◌∷◌, ◌++◌, length, map, position, sum, ◌≤ℤ◌, ◌<ℤ◌, Option, None, Some, option_map, Result, Ok, Err, ℤ, pos, negsuc, refl, ap, sym, ◌∙◌, subst, arith, length-append}
use Rattle.std.specs.List.{AllByRecursion, position_or_len, list_any}
use Rattle.std.specs.Str.{bytes_eq}
use Rattle.std.proofs.lemmas.Bool.Decides.{nat_tests}
use Rattle.std.proofs.lemmas.Int.{ints}
use Rattle.sdc_base.specs.Blanks.{is_blank}
use Rattle.sdc_base.specs.Numbers.{read_units}
use Rattle.sdc_base.specs.Places.{first_place}
use Rattle.sdc_base.specs.Steps.{◌>>=◌, or_fault, refuse}
use Rattle.sdc_base.proofs.StepLemmas.{bind_ok}
use Rattle.sdc_base.specs.Trees.{Tree, find}
use Rattle.sdc_base.specs.declared.number_fault.NumberFault.{NumberFault}
use Rattle.code_trees.specs.Levels.{boundaries, prefixes, with_prefixes}
use Rattle.microdata.specs.Faults.{at_record}
use Rattle.microdata.specs.Fields.{field, number_below, number_of, value_in, value_of, weight_of, scale_of, is_negative, has_no_response}
use Rattle.microdata.specs.OneRecord.{variable_says, variables_say, response_says, record_says, line_says, lines_say, with_row, with_skipped}
use Rattle.microdata.specs.SeenCodes.{is_above, listed_place, with_level_code, with_flat_code, known_or_new, with_code}
use Rattle.microdata.specs.declared.faults.RowWhy.{RowWhy}
use Rattle.microdata.specs.declared.faults.RowWhy.TheVariants.{TooLong, TooMany, Short, Negative, UnknownCode, NotLeaf, TooManyCodes, LightWeight, BadNumber}
use Rattle.microdata.specs.declared.layout.Field.{Field}
use Rattle.microdata.specs.declared.layout.Measures.{Measures}
use Rattle.microdata.specs.declared.layout.NumberField.{NumberField}
use Rattle.microdata.specs.declared.layout.Source.{Source}
use Rattle.microdata.specs.declared.layout.Source.TheVariants as source
use Rattle.microdata.specs.KeptRows.{KeptRow}
use Rattle.microdata.specs.declared.record.ReaderProgress.{ReaderProgress}
use Rattle.microdata.specs.declared.record.Variable.{Variable}
use Rattle.microdata.specs.declared.taking.Seen.{Seen}
use Rattle.microdata.proofs.LevelCodes.{passed}

pub value_of_ok : {A F : Type 0} (x y : A) → ◌≡◌ {A = Result A F} (Ok x) (Ok y) → x ≡ y
value_of_ok x y h = cc

is-below : (a b : ℕ) → nat_lt a b ≡ true → a < b
is-below a b h = grind (arith, nat_tests)

not-below : (a b : ℕ) → nat_lt a b ≡ false → b ≤ a
not-below a b h = grind (arith, nat_tests)

not-at : (a b : ℕ) → nat_le b a ≡ false → a < b
not-at a b h = grind (arith, nat_tests)

-- ---- the codes of a variable

-- how many places or numbers of codes there are
abbrev pub bound : Source → Seen → ℕ
bound (source.Listed tree) seen = length tree
bound (source.Levels widths total) seen = length seen.codes
bound (source.Flat codes total) seen = length seen.codes

found-within : (test : (List ℕ × Option ℕ) → Bool) (tree : Tree) (place : ℕ) → first_place test tree ≡ Some place → place < length tree
found-within test [] place h = cc
found-within test (node ∷ tree) place h =
    let rest = found-within test tree in
    elim (test node) as (λ b. cond b (Some 0) (option_map (λ k. k + 1) (first_place test tree)) ≡ Some place → place < suc (length tree)) [
      | true ↦ λ e. (let zeroth : 0 ≡ place = cc in omega (arith, zeroth))
      | false ↦ λ e. elim (first_place test tree) as (λ o. first_place test tree ≡ o → option_map (λ k. k + 1) o ≡ Some place → place < suc (length tree)) [
        | None ↦ λ is f. cc
        | Some k ↦ λ is f. (let next : k + 1 ≡ place = cc in omega (arith, next, rest k is))
      ] refl e
    ] h

pub find-within : (tree : Tree) (code : List ℕ) (place : ℕ) → find tree code ≡ Some place → place < length tree
find-within tree code place h = found-within (λ node. bytes_eq code node.0) tree place h

position-within : (test : List ℕ → Bool) (codes : List (List ℕ)) (place : ℕ) → position test codes ≡ Some place → place < length codes
position-within test codes place h = by (nat_lt (position_or_len test codes) (length codes)) refl h
  where
    by : (b : Bool) → nat_lt (position_or_len test codes) (length codes) ≡ b → cond b (Some (position_or_len test codes)) None ≡ Some place → place < length codes
    by true is h = let same : position_or_len test codes ≡ place = cc in subst (λ p. p < length codes) same (grind (arith, nat_tests))
    by false is h = cc

-- a code more: it stands among the codes that there are then, and these are no fewer
pub record IsTaken (s : Source) (old : Seen) (taken : Seen × ℕ) : Type 0 where
  pub within : taken.1 < bound s taken.0
  pub more : bound s old ≤ bound s taken.0

listed-taken : (tree : Tree) (old : Seen) (taken : Seen × ℕ) (code : List ℕ) → with_code (source.Listed tree) old code ≡ Ok taken → IsTaken (source.Listed tree) old taken
unfolding with_code listed_place
listed-taken tree old taken code said = by (find tree code) refl said
  where
    by : (o : Option ℕ) → find tree code ≡ o → ((or_fault UnknownCode o >>= λ place. refuse NotLeaf (is_above tree place) >>= λ leaf. Ok place) >>= λ place. Ok (old, place)) ≡ Ok taken → IsTaken (source.Listed tree) old taken
    by None is h = cc
    by (Some place) is h = leaf (is_above tree place) h
      where
        leaf : (b : Bool) → ((refuse NotLeaf b >>= λ leaf. Ok place) >>= λ place. Ok (old, place)) ≡ Ok taken → IsTaken (source.Listed tree) old taken
        leaf true h = cc
        leaf false h = let same : ◌≡◌ {A = Seen × ℕ} (old, place) taken = value_of_ok _ _ h in subst (IsTaken (source.Listed tree) old) same (record { within = find-within tree code place is; more = omega arith })

new-taken : (s : Source) (old : Seen) (taken : Seen × ℕ) (code : List ℕ) (grown : Result Seen RowWhy) → ((seen : Seen) → bound s seen ≡ length seen.codes)
    → ((next : Seen) → grown ≡ Ok next → length next.codes ≡ length old.codes + 1)
    → known_or_new old (position (bytes_eq code) old.codes) grown ≡ Ok taken → IsTaken s old taken
new-taken s old taken code grown counts more said = by (position (bytes_eq code) old.codes) refl said
  where
    by : (o : Option ℕ) → position (bytes_eq code) old.codes ≡ o → known_or_new old o grown ≡ Ok taken → IsTaken s old taken
    by (Some place) is h =
        let same : ◌≡◌ {A = Seen × ℕ} (old, place) taken = value_of_ok _ _ h in
        subst (IsTaken s old) same (record { within = omega (arith, counts old, position-within (bytes_eq code) old.codes place is); more = omega arith })
    by None is h =
        let b = bind_ok grown (λ next. Ok (next, length old.codes)) taken h in
        let same : ◌≡◌ {A = Seen × ℕ} (b.0, length old.codes) taken = value_of_ok _ _ b.2 in
        subst (IsTaken s old) same (record { within = omega (arith, counts b.0, more b.0 b.1); more = omega (arith, counts old, counts b.0, more b.0 b.1) })

level-grows : (widths total : List ℕ) (old next : Seen) (code : List ℕ) → with_level_code widths total old code ≡ Ok next → length next.codes ≡ length old.codes + 1
unfolding with_level_code
level-grows widths total old next code said =
    let a = passed UnknownCode (list_any is_blank code) _ next said in
    let b = passed UnknownCode (nat_lt (sum widths) (length code)) _ next a.1 in
    let c = passed NotLeaf (bytes_eq code total) _ next b.1 in
    let d = passed UnknownCode (list_any (bytes_eq total) (prefixes (boundaries 0 widths) code)) _ next c.1 in
    let e = passed TooManyCodes (nat_lt 5000 (length (with_prefixes (boundaries 0 widths) old.nodes code))) _ next d.1 in
    subst (λ (seen : Seen). length seen.codes ≡ length old.codes + 1) (value_of_ok _ next e.1) (length-append old.codes (code ∷ []))

flat-grows : (total : List ℕ) (old next : Seen) (code : List ℕ) → with_flat_code total old code ≡ Ok next → length next.codes ≡ length old.codes + 1
unfolding with_flat_code
flat-grows total old next code said =
    let a = passed NotLeaf (bytes_eq code total) _ next said in
    let b = passed TooManyCodes (nat_le 5000 (length old.codes)) _ next a.1 in
    subst (λ (seen : Seen). length seen.codes ≡ length old.codes + 1) (value_of_ok _ next b.1) (length-append old.codes (code ∷ []))

code-taken : (s : Source) (old : Seen) (taken : Seen × ℕ) (code : List ℕ) → with_code s old code ≡ Ok taken → IsTaken s old taken
unfolding with_code
code-taken (source.Listed tree) old taken code said = listed-taken tree old taken code said
code-taken (source.Levels widths total) old taken code said = new-taken (source.Levels widths total) old taken code (with_level_code widths total old code) (λ seen. refl) (λ next h. level-grows widths total old next code h) said
code-taken (source.Flat codes total) old taken code said = new-taken (source.Flat codes total) old taken code (with_flat_code total old code) (λ seen. refl) (λ next h. flat-grows total old next code h) said

-- ---- the codes of a record

abbrev pub bound_of : Variable → ℕ
bound_of variable = bound variable.field.source variable.seen

-- one number for each variable, each among its codes
abbrev pub Fit : List Variable → List ℕ → Type 0
Fit [] [] = Unit {0}
Fit (variable ∷ variables) (number ∷ numbers) = (number < bound_of variable) × Fit variables numbers
Fit [] (number ∷ numbers) = ⊥
Fit (variable ∷ variables) [] = ⊥

-- the same fields, each with no fewer codes
abbrev pub Grows : List Variable → List Variable → Type 0
Grows [] [] = Unit {0}
Grows (old ∷ olds) (new ∷ news) = (old.field ≡ new.field) × (bound_of old ≤ bound_of new) × Grows olds news
Grows [] (new ∷ news) = ⊥
Grows (old ∷ olds) [] = ⊥

pub fit-grown : (olds news : List Variable) (numbers : List ℕ) → Grows olds news → Fit olds numbers → Fit news numbers
fit-grown [] [] [] grows fit = tt
fit-grown [] [] (number ∷ numbers) grows fit = fit
fit-grown [] (new ∷ news) numbers grows fit = absurd grows
fit-grown (old ∷ olds) [] numbers grows fit = absurd grows
fit-grown (old ∷ olds) (new ∷ news) [] grows fit = absurd fit
fit-grown (old ∷ olds) (new ∷ news) (number ∷ numbers) grows fit = (omega (arith, fit.0, grows.1), fit-grown olds news numbers grows.2 fit.1)

pub same-fields : (olds news : List Variable) → Grows olds news → map (λ variable. variable.field) news ≡ map (λ variable. variable.field) olds
same-fields [] [] grows = refl
same-fields [] (new ∷ news) grows = absurd grows
same-fields (old ∷ olds) [] grows = absurd grows
same-fields (old ∷ olds) (new ∷ news) grows = rw (sym grows.0) (ap (λ rest. old.field ∷ rest) (same-fields olds news grows.2))

record Says (old : Variable) (said : Variable × ℕ) : Type 0 where
  pub field : old.field ≡ said.0.field
  pub within : said.1 < bound_of said.0
  pub more : bound_of old ≤ bound_of said.0

variable-taken : (variable : Variable) (said : Variable × ℕ) (line : List ℕ) → variable_says variable line ≡ Ok said → Says variable said
unfolding variable_says
variable-taken variable said line h =
    let b = bind_ok (with_code variable.field.source variable.seen (field variable.field.first variable.field.width line)) _ said h in
    let taken = code-taken variable.field.source variable.seen b.0 _ b.1 in
    subst (Says variable) (value_of_ok _ said b.2) (record { field = refl; within = taken.within; more = taken.more })

pub variables-taken : (variables : List Variable) (taken : List Variable × List ℕ) (line : List ℕ) → variables_say variables line ≡ Ok taken → Fit taken.0 taken.1 × Grows variables taken.0
unfolding variables_say
variables-taken [] taken line h = subst (λ (t : List Variable × List ℕ). Fit t.0 t.1 × Grows [] t.0) (value_of_ok _ taken h) (tt, tt)
variables-taken (variable ∷ variables) taken line h =
    let a = bind_ok (variable_says variable line) _ taken h in
    let b = bind_ok (variables_say variables line) _ taken a.2 in
    let one = variable-taken variable a.0 line a.1 in
    let rest = variables-taken variables b.0 line b.1 in
    subst (λ (t : List Variable × List ℕ). Fit t.0 t.1 × Grows (variable ∷ variables) t.0) (value_of_ok _ taken b.2) ((one.within, rest.0), (one.field, one.more, rest.1))

-- ---- the numbers of a record

below-within : (limit n : ℕ) (read : Result ℤ NumberFault) → number_below limit read ≡ Ok n → n < limit
below-within limit n (Err fault) h = cc
below-within limit n (Ok (negsuc k)) h = cc
below-within limit n (Ok (pos k)) h = by (nat_lt k limit) refl h
  where
    by : (b : Bool) → nat_lt k limit ≡ b → cond {A = Result ℕ RowWhy} b (Ok k) (Err BadNumber) ≡ Ok n → n < limit
    by true is e = let same : k ≡ n = value_of_ok _ _ e in subst (λ m. m < limit) same (is-below k limit is)
    by false is e = cc

value-within : (response : NumberField) (line : List ℕ) (value : ℕ) → value_of response line ≡ Ok value → value < 10 ^ 15
unfolding value_in
value-within response line value h =
    let a = passed Negative (is_negative (field response.first response.width line)) _ value h in
    below-within (10 ^ 15) value (read_units (field response.first response.width line) response.decimals) a.1

weight-within : (weight : Option NumberField) (line : List ℕ) (steps : ℕ) → weight_of weight line ≡ Ok steps → (scale_of weight ≤ steps) × (steps < 10 ^ 8)
unfolding weight_of
weight-within None line steps h = subst (λ n. (1 ≤ n) × (n < 10 ^ 8)) (value_of_ok 1 steps h) (omega arith, omega arith)
weight-within (Some weight) line steps h =
    let a = bind_ok (number_of (10 ^ 8) weight line) _ steps h in
    let b = passed LightWeight (nat_lt a.0 (10 ^ weight.decimals)) _ steps a.2 in
    let same : a.0 ≡ steps = value_of_ok a.0 steps b.1 in
    let light = below-within (10 ^ 8) a.0 (read_units (field weight.first weight.width line) weight.decimals) a.1 in
    subst (λ n. (10 ^ weight.decimals ≤ n) × (n < 10 ^ 8)) same (not-below a.0 (10 ^ weight.decimals) b.0, light)

-- ---- the records so far

-- what is kept of a record is within its limits
pub record IsKept (scale : ℕ) (variables : List Variable) (kept : KeptRow) : Type 0 where
  pub places : Fit variables kept.places
  pub from_zero : pos 0 ≤ℤ kept.value
  pub below : kept.value <ℤ pos (10 ^ 15)
  pub heavy : scale ≤ kept.weight
  pub light : kept.weight < 10 ^ 8

-- the records so far are within their limits
pub record IsGood (scale : ℕ) (spanning : List Field) (so_far : ReaderProgress) : Type 0 where
  pub fields : map (λ variable. variable.field) so_far.variables ≡ spanning
  pub rows : AllByRecursion (IsKept scale so_far.variables) so_far.rows
  pub few : length so_far.rows ≤ so_far.number
  pub records : so_far.number ≤ 1000000

kept-grown : (scale : ℕ) (olds news : List Variable) (rows : List KeptRow) → Grows olds news → AllByRecursion (IsKept scale olds) rows → AllByRecursion (IsKept scale news) rows
kept-grown scale olds news [] grows all = tt
kept-grown scale olds news (row ∷ rows) grows all =
    (record { places = fit-grown olds news row.places grows all.0.places; from_zero = all.0.from_zero; below = all.0.below; heavy = all.0.heavy; light = all.0.light }, kept-grown scale olds news rows grows all.1)

kept-more : (scale : ℕ) (variables : List Variable) (rows : List KeptRow) (row : KeptRow) → AllByRecursion (IsKept scale variables) rows → IsKept scale variables row → AllByRecursion (IsKept scale variables) (rows ++ row ∷ [])
kept-more scale variables [] row all one = (one, tt)
kept-more scale variables (first ∷ rows) row all one = (all.0, kept-more scale variables rows row all.1 one)

response-good : (m : Measures) (spanning : List Field) (so_far next : ReaderProgress) (line : List ℕ) → so_far.number < 1000000 → IsGood (scale_of m.weight) spanning so_far → response_says m so_far line ≡ Ok next → IsGood (scale_of m.weight) spanning next
unfolding response_says
response-good m spanning so_far next line room good h =
    let a = bind_ok (value_of m.response line) _ next h in
    let b = bind_ok (weight_of m.weight line) _ next a.2 in
    let c = bind_ok (variables_say so_far.variables line) _ next b.2 in
    let value = value-within m.response line a.0 a.1 in
    let weight = weight-within m.weight line b.0 b.1 in
    let codes = variables-taken so_far.variables c.0 line c.1 in
    let row : KeptRow = record { number = so_far.number + 1; places = c.0.1; value = pos a.0; weight = b.0 } in
    subst (IsGood (scale_of m.weight) spanning) (value_of_ok (with_row so_far c.0.0 row) next c.2) (record {
      fields = same-fields so_far.variables c.0.0 codes.1 ∙ good.fields;
      rows = kept-more (scale_of m.weight) c.0.0 so_far.rows row (kept-grown (scale_of m.weight) so_far.variables c.0.0 so_far.rows codes.1 good.rows)
          (record { places = codes.0; from_zero = omega (arith, ints); below = omega (arith, ints, value); heavy = weight.0; light = weight.1 });
      few = omega (arith, good.few, length-append so_far.rows (row ∷ []));
      records = omega (arith, room);
    })

record-good : (m : Measures) (spanning : List Field) (so_far next : ReaderProgress) (line : List ℕ) → IsGood (scale_of m.weight) spanning so_far → record_says m so_far line ≡ Ok next → IsGood (scale_of m.weight) spanning next
unfolding record_says
record-good m spanning so_far next line good h =
    let a = passed TooLong (nat_lt 1000 (length line)) _ next h in
    let b = passed TooMany (nat_le 1000000 so_far.number) _ next a.1 in
    let c = passed Short (nat_lt (length line) m.needed) _ next b.1 in
    by (not-at so_far.number 1000000 b.0) (has_no_response m.response line) c.1
  where
    by : so_far.number < 1000000 → (skipped : Bool) → cond {A = Result ReaderProgress RowWhy} skipped (Ok (with_skipped so_far)) (response_says m so_far line) ≡ Ok next → IsGood (scale_of m.weight) spanning next
    by room true e = subst (IsGood (scale_of m.weight) spanning) (value_of_ok (with_skipped so_far) next e) (record { fields = good.fields; rows = good.rows; few = omega (arith, good.few); records = omega (arith, room) })
    by room false e = response-good m spanning so_far next line room good e

pub same-value : {A : Type 0} (number : ℕ) (read : Result A RowWhy) (x : A) → at_record number read ≡ Ok x → read ≡ Ok x
same-value number (Ok y) x h = ap Ok (value_of_ok y x h)
same-value number (Err why) x h = cc

line-good : (m : Measures) (spanning : List Field) (so_far next : ReaderProgress) (line : List ℕ) → IsGood (scale_of m.weight) spanning so_far → line_says m so_far line ≡ Ok next → IsGood (scale_of m.weight) spanning next
line-good m spanning so_far next [] good h = subst (IsGood (scale_of m.weight) spanning) (value_of_ok so_far next h) good
line-good m spanning so_far next (b ∷ line) good h = record-good m spanning so_far next (b ∷ line) good (same-value (so_far.number + 1) (record_says m so_far (b ∷ line)) next h)

pub lines-good : (m : Measures) (spanning : List Field) (so_far last : ReaderProgress) (lines : List (List ℕ)) → IsGood (scale_of m.weight) spanning so_far → lines_say m so_far lines ≡ Ok last → IsGood (scale_of m.weight) spanning last
unfolding lines_say
lines-good m spanning so_far last [] good h = subst (IsGood (scale_of m.weight) spanning) (value_of_ok so_far last h) good
lines-good m spanning so_far last (line ∷ lines) good h =
    let a = bind_ok (line_says m so_far line) _ last h in
    lines-good m spanning a.0 last lines (line-good m spanning so_far a.0 line good a.1) a.2
