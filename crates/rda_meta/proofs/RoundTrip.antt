-- A variable of its canonical entry.
use Rattle.std.proofs.Common.{◌≡◌, ℕ, Bool, true, false, List, [], ◌∷◌, map, Option, None, Some, Ok, refl, ap, ◌∙◌}
use Rattle.plain_text.specs.Laws.{AreReadAgain}
use Rattle.rda_meta.specs.Metadata.{variable_of, meta_of}
use Rattle.rda_meta.specs.declared.meta.Shape.{Shape}
use Rattle.rda_meta.specs.declared.meta.Shape.TheVariants as shape
use Rattle.rda_meta.specs.declared.meta.Variable.{Variable}
use Rattle.rda_meta.specs.declared.meta.Meta.{Meta}
use Rattle.rda_meta.specs.CanonicalMetadata.{entry_of}
use Rattle.rda_meta.specs.Laws.{canonical_text, WeightsAreNumeric, AreWithinLimits}
use Rattle.rda_meta.proofs.SpelledText.{read_again}

abbrev of : Bool → Bool → Option (List ℕ) → Shape → List ℕ → ℕ → ℕ → List (List ℕ) → ℕ → List ℕ → Variable
of weight numeric codes shaped name first width missing decimals total = record { name = name; first = first; width = width; missing = missing; numeric = numeric; weight = weight; decimals = decimals; total = total; codes = codes; shape = shaped }

again : (weight numeric : Bool) (codes : Option (List ℕ)) (shaped : Shape) (name : List ℕ) (first width : ℕ) (missing : List (List ℕ)) (decimals : ℕ) (total : List ℕ)
    → (weight ≡ true → numeric ≡ true) → variable_of (entry_of (of weight numeric codes shaped name first width missing decimals total)) ≡ of weight numeric codes shaped name first width missing decimals total
unfolding variable_of
again true true None shape.Flat name first width missing decimals total h = refl
again true true None (shape.Levels widths) name first width missing decimals total h = refl
again true true None (shape.Listed file lead) name first width missing decimals total h = refl
again true true (Some codes) shape.Flat name first width missing decimals total h = refl
again true true (Some codes) (shape.Levels widths) name first width missing decimals total h = refl
again true true (Some codes) (shape.Listed file lead) name first width missing decimals total h = refl
again true false None shape.Flat name first width missing decimals total h = absurd (let no : false ≡ true = h refl in cc)
again true false None (shape.Levels widths) name first width missing decimals total h = absurd (let no : false ≡ true = h refl in cc)
again true false None (shape.Listed file lead) name first width missing decimals total h = absurd (let no : false ≡ true = h refl in cc)
again true false (Some codes) shape.Flat name first width missing decimals total h = absurd (let no : false ≡ true = h refl in cc)
again true false (Some codes) (shape.Levels widths) name first width missing decimals total h = absurd (let no : false ≡ true = h refl in cc)
again true false (Some codes) (shape.Listed file lead) name first width missing decimals total h = absurd (let no : false ≡ true = h refl in cc)
again false true None shape.Flat name first width missing decimals total h = refl
again false true None (shape.Levels widths) name first width missing decimals total h = refl
again false true None (shape.Listed file lead) name first width missing decimals total h = refl
again false true (Some codes) shape.Flat name first width missing decimals total h = refl
again false true (Some codes) (shape.Levels widths) name first width missing decimals total h = refl
again false true (Some codes) (shape.Listed file lead) name first width missing decimals total h = refl
again false false None shape.Flat name first width missing decimals total h = refl
again false false None (shape.Levels widths) name first width missing decimals total h = refl
again false false None (shape.Listed file lead) name first width missing decimals total h = refl
again false false (Some codes) shape.Flat name first width missing decimals total h = refl
again false false (Some codes) (shape.Levels widths) name first width missing decimals total h = refl
again false false (Some codes) (shape.Listed file lead) name first width missing decimals total h = refl

all-again : (vs : List Variable) → WeightsAreNumeric vs → map variable_of (map entry_of vs) ≡ vs
all-again [] h = refl
all-again (v ∷ vs) h =
    ap (λ (x : Variable). x ∷ map variable_of (map entry_of vs)) (again v.weight v.numeric v.codes v.shape v.name v.first v.width v.missing v.decimals v.total h.0)
    ∙ ap (λ (xs : List Variable). v ∷ xs) (all-again vs h.1)

pub round_trip : AreReadAgain → (meta : Meta) → AreWithinLimits meta → meta_of (canonical_text (map entry_of meta.variables) meta.passed_over) ≡ Ok meta
round_trip law meta h =
    read_again law (map entry_of meta.variables) meta.passed_over h.canonical h.passed h.lines
    ∙ ap (λ (xs : List Variable). Ok (record { variables = xs; passed_over = meta.passed_over })) (all-again meta.variables h.weights)
