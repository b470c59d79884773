-- The codes of a variable before the first record are sound.
use Rattle.std.proofs.Common.{◌≡◌, ℕ, suc, ◌≤◌, ◌<◌, All, false, List, [], ◌∷◌, ◌++◌, length, take, drop, get_or, map, refl, ap, sym, ◌∙◌, subst, arith, append-nil, drop-cons, sum}
use Rattle.std.specs.List.{IsDistinct, list_any}
use Rattle.std.specs.Str.{bytes_eq}
use Rattle.std.proofs.lemmas.List.{take-append-drop}
use Rattle.std.proofs.lemmas.List.Elements.{All-nil, All-map}
use Rattle.code_trees.specs.Among.{IsIn}
use Rattle.microdata.specs.Keeping.{AreSeen, IsVariable}
use Rattle.microdata.specs.Layouts.{IsSource, IsField}
use Rattle.microdata.specs.SeenCodes.{seen_first}
use Rattle.microdata.specs.declared.layout.Field.{Field}
use Rattle.microdata.specs.declared.layout.Source.{Source}
use Rattle.microdata.specs.declared.layout.Source.TheVariants as source
use Rattle.microdata.specs.declared.record.Variable.{Variable}
use Rattle.microdata.proofs.FlatCodes.{none-before}

pub first-sound : (s : Source) → IsSource s → AreSeen s (seen_first s)
first-sound (source.Listed tree) h = refl
first-sound (source.Levels widths total) h = record { nodes = refl; no_level_fault = refl; short = All-nil (λ code. length code ≤ sum widths); among = λ code inside. inside; at_most_5000_nodes = omega arith }
first-sound (source.Flat codes total) h = record {
  distinct = subst (λ all. IsDistinct bytes_eq (total ∷ all)) (sym (append-nil codes)) h.0;
  among = λ code inside. subst (IsIn code) (append-nil codes) inside;
  back = λ code inside. subst (IsIn code) (sym (append-nil codes)) inside;
  count = omega arith;
  at_most_5000_codes = h.1;
}

abbrev pub first_of : Field → Variable
first_of field = record { field = field; seen = seen_first field.source }

pub variables-sound : (needed : ℕ) (fields : List Field) → All (IsField needed) fields → All (IsVariable needed) (map first_of fields)
variables-sound needed fields h = All-map (IsVariable needed) first_of fields (λ k d inside. record { field = h k d inside; seen = first-sound (get_or fields k d).source (h k d inside).codes })

-- the next of distinct codes is none of those before it
pub next-new : (codes : List (List ℕ)) (i : ℕ) (code : List ℕ) → IsDistinct bytes_eq codes → i < length codes → code ≡ get_or codes i code → list_any (bytes_eq code) (take i codes) ≡ false
next-new codes i code distinct inside is =
    let cut : codes ≡ take i codes ++ code ∷ drop (suc i) codes = sym (take-append-drop i codes) ∙ ap (λ rest. take i codes ++ rest) (drop-cons codes i code inside ∙ ap (λ x. x ∷ drop (suc i) codes) (sym is)) in
    none-before (take i codes) (drop (suc i) codes) code (subst (IsDistinct bytes_eq) cut distinct)

pub as-many : (fields : List Field) → length (map first_of fields) ≡ length fields
as-many [] = refl
as-many (field ∷ fields) = ap suc (as-many fields)
