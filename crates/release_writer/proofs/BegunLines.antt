-- A line, field after field.
use Rattle.std.proofs.Common.{◌≡◌, ℕ, zero, suc, ◌+◌, ◌<◌, ◌≤◌, ◌==◌, slice_index_or, false, List, [], ◌∷◌, ◌++◌, length, map, take, get_or, subst, Option, None, Some, option_map, arith, refl, ap, sym, ◌∙◌, append_assoc}
use Rattle.std.specs.List.{join_with_byte}
use Rattle.std.proofs.lemmas.Bool.Decides.{nat_tests}
use Rattle.csv.specs.Writing.{default_writer, next_sep}
use Rattle.csv.specs.Writing.{field_text as csv_text}
use Rattle.sdc_base.specs.TableText.{comma, field_text, line_text, codes_of_place}
use Rattle.sdc_base.specs.Trees.{Tree, code_in}
use Rattle.sdc_base.specs.Cells.{trees_of}
use Rattle.sdc_base.specs.declared.dimension.Dimension.{Dimension}
use Rattle.release_writer.proofs.CsvFields.{field-same}

-- a line so far: the fields with commas between them
abbrev pub begun_line : List (List ℕ) → List ℕ
begun_line fields = join_with_byte comma (map field_text fields)

joined-more : (x : List ℕ) (xs : List (List ℕ)) (y : List ℕ) → join_with_byte comma (x ∷ (xs ++ y ∷ [])) ≡ join_with_byte comma (x ∷ xs) ++ comma ∷ y
joined-more x [] y = refl
joined-more x (z ∷ xs) y = ap (λ t. x ++ comma ∷ t) (joined-more z xs y) ∙ sym (append_assoc x (comma ∷ join_with_byte comma (z ∷ xs)) (comma ∷ y))

mapped-more : (fields : List (List ℕ)) (field : List ℕ) → map field_text (fields ++ field ∷ []) ≡ map field_text fields ++ field_text field ∷ []
mapped-more [] field = refl
mapped-more (x ∷ fields) field = ap (λ t. field_text x ∷ t) (mapped-more fields field)

-- a field that isn't the first has a comma before it
sep-later : (n : ℕ) → next_sep default_writer (suc n) ≡ comma ∷ []
sep-later n = let test : (suc n == 0) ≡ false = grind (arith, nat_tests) in rw test refl

-- one more field
pub begun-more : (fields : List (List ℕ)) (field : List ℕ) → begun_line (fields ++ field ∷ []) ≡ begun_line fields ++ (next_sep default_writer (length fields) ++ csv_text default_writer field)
begun-more [] field = sym (field-same field)
begun-more (x ∷ fields) field =
    ap (λ t. join_with_byte comma (field_text x ∷ t)) (mapped-more fields field)
    ∙ joined-more (field_text x) (map field_text fields) (field_text field)
    ∙ ap (λ t. begun_line (x ∷ fields) ++ comma ∷ t) (sym (field-same field))
    ∙ ap (λ t. begun_line (x ∷ fields) ++ (t ++ csv_text default_writer field)) (sym (sep-later (length fields)))

-- one more field behind what stood before the line
pub put-more : (fields : List (List ℕ)) (field : List ℕ) (start old new : Option (List ℕ)) → old ≡ option_map (λ text. text ++ begun_line fields) start → new ≡ option_map (λ text. text ++ (next_sep default_writer (length fields) ++ csv_text default_writer field)) old → new ≡ option_map (λ text. text ++ begun_line (fields ++ field ∷ [])) start
put-more fields field None old new before after = after ∙ rw before refl
put-more fields field (Some start) old new before after =
    after
    ∙ ap (λ t. option_map (λ text. text ++ (next_sep default_writer (length fields) ++ csv_text default_writer field)) t) before
    ∙ ap Some (append_assoc start (begun_line fields) (next_sep default_writer (length fields) ++ csv_text default_writer field) ∙ ap (λ t. start ++ t) (sym (begun-more fields field)))

-- the end of the line
pub end-more : (fields : List (List ℕ)) (start old new : Option (List ℕ)) → old ≡ option_map (λ text. text ++ begun_line fields) start → new ≡ option_map (λ text. text ++ 10 ∷ []) old → new ≡ option_map (λ text. text ++ line_text fields) start
end-more fields None old new before after = after ∙ rw before refl
end-more fields (Some start) old new before after = after ∙ ap (λ t. option_map (λ text. text ++ 10 ∷ []) t) before ∙ ap Some (append_assoc start (begun_line fields) (10 ∷ []))

-- a dimension for what stands behind the last one
abbrev no_dimension : Dimension
no_dimension = record { variable = 0; depth = 0 }

-- the codes of one variable more
pub codes-more : (trees : List Tree) (table : List Dimension) (place : List ℕ) (k : ℕ) → k < length table → k < length place
    → codes_of_place (trees_of trees (take (k + 1) table)) (take (k + 1) place) ≡ codes_of_place (trees_of trees (take k table)) (take k place) ++ code_in (slice_index_or trees (get_or table k no_dimension).variable []) (get_or place k 0) ∷ []
codes-more trees [] place k inside long = absurd (omega arith)
codes-more trees (dimension ∷ table) [] k inside long = absurd (omega arith)
codes-more trees (dimension ∷ table) (code ∷ place) zero inside long = refl
codes-more trees (dimension ∷ table) (code ∷ place) (suc k) inside long =
    let next : suc k + 1 ≡ suc (k + 1) = omega arith in
    rw next (ap (λ rest. code_in (slice_index_or trees dimension.variable []) code ∷ rest) (codes-more trees table place k (omega arith) (omega arith)))

pub codes-length : (trees : List Tree) (table : List Dimension) (place : List ℕ) (k : ℕ) → k ≤ length table → k ≤ length place → length (codes_of_place (trees_of trees (take k table)) (take k place)) ≡ k
codes-length trees table place zero inside long = refl
codes-length trees [] place (suc k) inside long = absurd (omega arith)
codes-length trees (dimension ∷ table) [] (suc k) inside long = absurd (omega arith)
codes-length trees (dimension ∷ table) (code ∷ place) (suc k) inside long = ap suc (codes-length trees table place k (omega arith) (omega arith))

-- what a list shows that begins with this
pub first-shows : (names : List (List ℕ)) (name : List ℕ) (i : ℕ) → i + 1 ≡ 1 → name ≡ get_or names i name → 0 < length (slice_index_or names 0 []) → 0 < length name
first-shows [] name i one is some = absurd (omega (arith, some))
first-shows (first ∷ names) name zero one is some = subst (λ n. 0 < length n) (sym is) some
first-shows (first ∷ names) name (suc i) one is some = absurd (omega (arith, one))

pub taken : (names : List (List ℕ)) (i : ℕ) → i ≤ length names → length (take i names) ≡ i
taken names zero h = refl
taken [] (suc i) h = absurd (omega arith)
taken (name ∷ names) (suc i) h = ap suc (taken names i (omega arith))
