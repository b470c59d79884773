-- The fields of metadata are placed in a record.
use Rattle.std.proofs.Common.{◌≡◌, ℕ, zero, suc, ◌+◌, ◌<◌, ◌≤◌, Bool, true, false, cond, List, [], ◌∷◌, length, Option, None, Some, option_map, refl, ap, sym, subst, ◌∙◌, arith, add-one}
use Rattle.std.specs.Prelude.{slice_get, slice_index_or}
use Rattle.std.specs.List.{AllByRecursion}
use Rattle.sdc_base.specs.Places.{first_place}
use Rattle.rda_meta.specs.Arguments.{is_lead}
use Rattle.rda_meta.specs.Limits.{IsShaped, IsVariable}
use Rattle.rda_meta.specs.declared.meta.Shape.{Shape}
use Rattle.rda_meta.specs.declared.meta.Shape.TheVariants as shape
use Rattle.rda_meta.specs.declared.meta.Variable.{Variable}
use Rattle.std.specs.Prelude.{fold, find, ◌^◌}
use Rattle.std.specs.Option.{option_and_then, option_map_or}
use Rattle.sdc_base.specs.Trees.{IsCodeTree}
use Rattle.std.specs.Option.{ForSome}
use Rattle.sdc_base.specs.declared.rule.Rules.{Rules}
use Rattle.job_lang.specs.Binding.{weight_place, weight_decimals, decimals_of}
use Rattle.job_lang.specs.declared.bound.Bound.{Bound}
use Rattle.microdata.specs.Layouts.{IsSource, IsWithin, IsField, IsNumber, IsWeight, IsLayout}
use Rattle.microdata.specs.Fields.{scale_of}
use Rattle.microdata.specs.Ranges.{AreWithinLimits, IsRow}
use Rattle.microdata.specs.declared.layout.Field.{Field}
use Rattle.microdata.specs.declared.layout.Layout.{Layout}
use Rattle.microdata.specs.declared.records.Records.{Records}
use Rattle.microdata.specs.declared.layout.NumberField.{NumberField}
use Rattle.job_inputs.specs.Layouts.{number_field, no_number, number_at, weight_in, last_position, up_to_field, up_to_number, layout_of}
use Rattle.job_inputs.specs.PlacedFields.{IsPlaced, IsPlacedField}
use Rattle.job_inputs.specs.SoundJobs.{IsSoundJob, AreAtLeaves, AreRecords}
use Rattle.job_inputs.specs.declared.described.DescribedJob.{DescribedJob}
use Rattle.microdata.specs.declared.layout.Source.TheVariants as source

-- a number that has at most so many decimals
pub record IsPlacedNumber (most : ℕ) (number : NumberField) : Type 0 where
  pub placed : IsPlaced number.first number.width
  pub decimals : number.decimals ≤ most

each-all : {X : Type 0} (P : X → Type 0) (xs : List X) → AllByRecursion P xs → (k : ℕ) (d : X) → k < length xs → P (slice_index_or xs k d)
each-all P [] h k d inside = absurd (omega (arith, inside))
each-all P (x ∷ xs) h zero d inside = h.0
each-all P (x ∷ xs) h (suc k) d inside = each-all P xs h.1 k d (omega (arith, inside))

pub levels-source : (width : ℕ) (widths total : List ℕ) (s : Shape) → s ≡ shape.Levels widths → IsShaped width s → IsSource (source.Levels widths total)
levels-source width widths total s is h =
    let levels = subst (IsShaped width) is h in
    (levels.0, levels.1, levels.2)

pub lead-some : (width : ℕ) (name lead : List ℕ) (s : Shape) → s ≡ shape.Listed name lead → IsShaped width s → 0 < length lead
lead-some width name lead s is h =
    let listed = subst (IsShaped width) is h in
    some lead listed.1
  where
    some : (lead : List ℕ) → is_lead lead ≡ true → 0 < length lead
    some [] h = absurd cc
    some (b ∷ lead) h = omega arith

-- ---- numbers

-- an element at this place passes
abbrev pub Found : {X : Type 0} → (X → Bool) → List X → ℕ → Type 0
Found {X} test xs k = (x : X) × (slice_get xs k ≡ Some x) × (test x ≡ true)

found-later : {X : Type 0} (test : X → Bool) (x : X) (xs : List X) (k : ℕ) (o : Option ℕ) → ((n : ℕ) → o ≡ Some n → Found test xs n) → option_map (λ n. n + 1) o ≡ Some k → Found test (x ∷ xs) k
found-later test x xs k None rest is = absurd cc
found-later test x xs k (Some n) rest is =
    let here : n + 1 ≡ k = cc in
    let found = rest n refl in
    subst (λ (m : ℕ). Found test (x ∷ xs) m) (sym (add-one n) ∙ here) (found.0, found.1, found.2)

-- the element at the first place that passes
pub found-at : {X : Type 0} (test : X → Bool) (xs : List X) (k : ℕ) → first_place test xs ≡ Some k → Found test xs k
found-at test [] k h = absurd cc
found-at test (x ∷ xs) k h =
    let rest = found-at test xs in
    elim (test x) as (λ t. test x ≡ t → cond t (Some 0) (option_map (λ n. n + 1) (first_place test xs)) ≡ Some k → Found test (x ∷ xs) k) [
      | true ↦ λ is first. let here : 0 ≡ k = cc in subst (λ (n : ℕ). Found test (x ∷ xs) n) here (x, refl, is)
      | false ↦ λ is first. found-later test x xs k (first_place test xs) rest first
    ] refl h

pub get-within : {X : Type 0} (xs : List X) (k : ℕ) (x : X) → slice_get xs k ≡ Some x → k < length xs
get-within [] k x h = absurd cc
get-within (y ∷ xs) zero x h = omega arith
get-within (y ∷ xs) (suc k) x h = omega (arith, get-within xs k x h)

-- the response is one of the metadata
pub response-within : (described : DescribedJob) → IsSoundJob described → described.bound.response < length described.meta.variables
response-within described h = get-within described.meta.variables described.bound.response h.bound.response.0 h.bound.response.1

weighted-at : (rules : Rules) (variables : List Variable) (place : ℕ) → weight_place rules variables ≡ Some place → Found (λ (v : Variable). v.weight) variables place
weighted-at rules variables place h =
    elim rules.weighted as (λ t. cond t (first_place (λ (v : Variable). v.weight) variables) None ≡ Some place → Found (λ (v : Variable). v.weight) variables place) [
      | true ↦ λ first. found-at (λ (v : Variable). v.weight) variables place first
      | false ↦ λ none. absurd cc
    ] h

-- the weight of a bound job is a weight of the metadata
pub weight-found : (described : DescribedJob) (place : ℕ) → IsSoundJob described → described.bound.weight ≡ Some place → Found (λ (v : Variable). v.weight) described.meta.variables place
weight-found described place h is = weighted-at described.job.rules described.meta.variables place (sym (ap (λ (b : Bound). b.weight) h.places) ∙ is)

pub weight-within : (described : DescribedJob) (place : ℕ) → IsSoundJob described → described.bound.weight ≡ Some place → place < length described.meta.variables
weight-within described place h is = let found = weight-found described place h is in get-within described.meta.variables place found.0 found.1

placed-number : (most : ℕ) (v : Variable) → IsVariable v → v.decimals ≤ most → IsPlacedNumber most (number_field v)
placed-number most v h fine = record { placed = record { from_one = h.first_from_one; width_from_one = h.width_from_one; inside = h.inside }; decimals = fine }

number-is : (variables : List Variable) (place : ℕ) (v : Variable) → slice_get variables place ≡ Some v → number_at variables place ≡ number_field v
number-is variables place v is = rw is refl

pub response-placed : (described : DescribedJob) → IsSoundJob described → IsPlacedNumber 9 (number_at described.meta.variables described.bound.response)
response-placed described h =
    let v = h.bound.response.0 in
    let one = h.meta.each described.bound.response v h.bound.response.1 in
    rw (number-is described.meta.variables described.bound.response v h.bound.response.1) (placed-number 9 v one one.at_most_9_decimals)

pub weight-placed : (described : DescribedJob) (place : ℕ) → IsSoundJob described → described.bound.weight ≡ Some place → IsPlacedNumber 4 (number_at described.meta.variables place)
weight-placed described place h is =
    let found = weight-found described place h is in
    let one = h.meta.each place found.0 found.1 in
    rw (number-is described.meta.variables place found.0 found.1) (placed-number 4 found.0 one (one.weight_at_most_4_decimals found.2))

pub weight-is-placed : (described : DescribedJob) → IsSoundJob described → ForSome (weight_in described.meta.variables described.bound) (IsPlacedNumber 4)
weight-is-placed described h = by-place described.bound.weight refl
  where
    by-place : (o : Option ℕ) → described.bound.weight ≡ o → ForSome (option_map (number_at described.meta.variables) o) (IsPlacedNumber 4)
    by-place None is = λ number none. absurd cc
    by-place (Some place) is = λ number some. let same : number_at described.meta.variables place ≡ number = cc in subst (IsPlacedNumber 4) same (weight-placed described place h is)

-- ---- the greatest last position

last-grows : (n : ℕ) (fields : List Field) → n ≤ fold up_to_field n fields
last-grows n [] = omega arith
last-grows n (field ∷ fields) = omega (arith, last-grows (up_to_field n field) fields)

-- a field that ends at this position at the latest
abbrev EndsBy : ℕ → Field → Type 0
EndsBy last field = last_position field.first field.width ≤ last

last-holds : (n : ℕ) (fields : List Field) → AllByRecursion (EndsBy (fold up_to_field n fields)) fields
last-holds n [] = tt
last-holds n (field ∷ fields) = (omega (arith, last-grows (up_to_field n field) fields), last-holds (up_to_field n field) fields)

last-inside : (n : ℕ) (fields : List Field) → n ≤ 1000 → AllByRecursion IsPlacedField fields → fold up_to_field n fields ≤ 1000
last-inside n [] few all = few
last-inside n (field ∷ fields) few all = last-inside (up_to_field n field) fields (omega (arith, few, all.0.placed.inside)) all.1

within-by : (needed first width : ℕ) → IsPlaced first width → last_position first width ≤ needed → IsWithin needed first width
within-by needed first width h ends = record { from_one = h.from_one; width_from_one = h.width_from_one; inside = omega (arith, h.from_one, ends) }

fields-within : (needed : ℕ) (fields : List Field) → AllByRecursion IsPlacedField fields → AllByRecursion (EndsBy needed) fields → AllByRecursion (IsField needed) fields
fields-within needed [] all ends = tt
fields-within needed (field ∷ fields) all ends = (record { within = within-by needed field.first field.width all.0.placed ends.0; codes = all.0.codes }, fields-within needed fields all.1 ends.1)

ends-later : (last needed : ℕ) (fields : List Field) → last ≤ needed → AllByRecursion (EndsBy last) fields → AllByRecursion (EndsBy needed) fields
ends-later last needed [] later all = tt
ends-later last needed (field ∷ fields) later all = (omega (arith, later, all.0), ends-later last needed fields later all.1)

number-within : (needed most : ℕ) (number : NumberField) → IsPlacedNumber most number → last_position number.first number.width ≤ needed → IsNumber needed most number
number-within needed most number h ends = record { within = within-by needed number.first number.width h.placed ends; decimals = h.decimals }

weight-within-by : (last : ℕ) (weight : Option NumberField) → ForSome weight (IsPlacedNumber 4) → IsWeight (up_to_number last weight) weight
weight-within-by last None h = tt
weight-within-by last (Some number) h = number-within (up_to_number last (Some number)) 4 number (h number refl) (omega arith)

weight-later : (last : ℕ) (weight : Option NumberField) → last ≤ up_to_number last weight
weight-later last None = omega arith
weight-later last (Some number) = omega arith

weight-inside : (last : ℕ) (weight : Option NumberField) → last ≤ 1000 → ForSome weight (IsPlacedNumber 4) → up_to_number last weight ≤ 1000
weight-inside last None few h = few
weight-inside last (Some number) few h = omega (arith, few, (h number refl).placed.inside)

-- what is laid out by sound metadata can be read by
pub is_layout : (described : DescribedJob) (fields : List Field) → IsSoundJob described → AllByRecursion IsPlacedField fields → length fields ≡ length described.bound.spanning
    → IsLayout (layout_of described.meta.variables described.bound fields)
is_layout described fields h all many =
    let response = number_at described.meta.variables described.bound.response in
    let weight = weight_in described.meta.variables described.bound in
    let last = up_to_number (fold up_to_field 0 fields) (Some response) in
    let needed = up_to_number last weight in
    let placed = response-placed described h in
    let heavy = weight-is-placed described h in
    let first : fold up_to_field 0 fields ≤ 1000 = last-inside 0 fields (omega arith) all in
    let few : last ≤ 1000 = omega (arith, first, placed.placed.inside) in
    let later : last ≤ needed = weight-later last weight in
    record {
      at_most_8_spanning = omega (arith, many, h.bound.at_most_8_spanning);
      measures = record {
        needed = weight-inside last weight few heavy;
        response = number-within needed 9 response placed (omega (arith, later));
        weight = weight-within-by last weight heavy;
      };
      fields = each-all (IsField needed) fields (fields-within needed fields all (ends-later (fold up_to_field 0 fields) needed fields (omega (arith, later)) (last-holds 0 fields)));
    }

-- ---- the scale of the weight

by-find : {X : Type 0} (test : X → Bool) (xs : List X) → option_and_then (slice_get xs) (first_place test xs) ≡ find test xs
by-find test [] = refl
by-find test (x ∷ xs) =
    let rest = by-find test xs in
    elim (test x) as (λ t. option_and_then (slice_get (x ∷ xs)) (cond t (Some 0) (option_map (λ n. n + 1) (first_place test xs))) ≡ cond t (Some x) (find test xs)) [
      | true ↦ refl
      | false ↦ later test x xs (first_place test xs) ∙ rest
    ]
  where
    later : {X : Type 0} (test : X → Bool) (x : X) (xs : List X) (o : Option ℕ) → option_and_then (slice_get (x ∷ xs)) (option_map (λ n. n + 1) o) ≡ option_and_then (slice_get xs) o
    later test x xs None = refl
    later test x xs (Some n) = ap (slice_get (x ∷ xs)) (add-one n)

scale-by : (variables : List Variable) (o : Option ℕ) → scale_of (option_map (number_at variables) o) ≡ 10 ^ decimals_of (option_and_then (slice_get variables) o)
scale-by variables None = refl
scale-by variables (Some k) = elim (slice_get variables k) as (λ (v : Option Variable). 10 ^ (option_map_or number_field v no_number).decimals ≡ 10 ^ decimals_of v) [ None ↦ refl | Some v ↦ refl ]

scale-weighted : (rules : Rules) (variables : List Variable) → scale_of (option_map (number_at variables) (weight_place rules variables)) ≡ 10 ^ weight_decimals rules variables
scale-weighted rules variables =
    let test : Variable → Bool = λ v. v.weight in
    elim rules.weighted as (λ t. scale_of (option_map (number_at variables) (cond t (first_place test variables) None)) ≡ 10 ^ (cond t (decimals_of (find test variables)) 0)) [
      | true ↦ scale-by variables (first_place test variables) ∙ ap (λ (v : Option Variable). 10 ^ decimals_of v) (by-find test variables)
      | false ↦ refl
    ]

-- the scale of a bound job is that of its weight
pub scale-is : (described : DescribedJob) → IsSoundJob described → scale_of (weight_in described.meta.variables described.bound) ≡ described.bound.scale
scale-is described h =
    let variables = described.meta.variables in
    ap (λ (b : Bound). scale_of (option_map (number_at variables) b.weight)) h.places ∙ scale-weighted described.job.rules variables ∙ sym h.bound.scale.0

-- records that were read by the layout of a bound job
pub are-records : (described : DescribedJob) (fields : List Field) (layout : Layout) (records : Records) → IsSoundJob described → length fields ≡ length described.bound.spanning
    → layout ≡ layout_of described.meta.variables described.bound fields → AreWithinLimits layout records → AllByRecursion IsCodeTree records.trees → AreAtLeaves records
    → AreRecords (length described.bound.spanning) described.bound.scale records
are-records described fields layout records h many is within trees leaves =
    let here = subst (λ (l : Layout). AreWithinLimits l records) is within in
    record {
      as_many = here.trees ∙ many;
      trees = trees;
      rows = record { at_most_1000000 = here.at_most_1000000; each = subst (λ (scale : ℕ). AllByRecursion (IsRow scale records.trees) records.rows) (scale-is described h) here.rows };
      leaves = leaves;
    }
