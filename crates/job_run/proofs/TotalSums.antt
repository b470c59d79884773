-- Numbers add up in each total of the cells of tables exactly where they do in each of their relations.
use Rattle.std.proofs.Common.{◌≡◌, ◌≢◌, ℕ, zero, suc, ◌+◌, ◌<◌, ◌==◌, ◌&&◌, not, Bool, true, false, List, [], ◌∷◌, length, slice_get, slice_index_or, All, Option, None, Some, if◌then◌else◌, arith, refl, subst}
use Rattle.std.specs.List.{cons_option, filter_map, flat_map, range_with_len}
use Rattle.std.proofs.lemmas.List.Elements.{All-nil, All-cons, All-append}
use Rattle.sdc_base.proofs.GrowingLists.{read-at}
use Rattle.sdc_base.specs.Cells.{cells_of}
use Rattle.sdc_base.specs.Records.{Name}
use Rattle.sdc_base.specs.Relations.{Sum, codes_below, is_spanned, parts_among, relation_for, relations_among, relations_for}
use Rattle.sdc_base.specs.Systems.{Numbers}
use Rattle.sdc_base.specs.Totals.{sum_of}
use Rattle.sdc_base.specs.Trees.{Tree}
use Rattle.sdc_base.specs.declared.dimension.Dimension.{Dimension}
use Rattle.job_run.proofs.ShownLaws.{has-relation, of-relation}

-- ---- all that numbers give

all-from : {X : Type 0} (P : X → Type 0) (f : ℕ → List X) (start n : ℕ) → ((k : ℕ) → k < start + n → All P (f k)) → All P (flat_map f (range_with_len start n))
all-from P f start zero each = All-nil P
all-from P f start (suc n) each =
    All-append P (f start) (flat_map f (range_with_len (start + 1) n)) (each start (omega arith))
    (all-from P f (start + 1) n (λ k inside. each k (omega (arith, inside))))

all-option : {X : Type 0} (P : X → Type 0) (here : Option X) (xs : List X) → ((x : X) → here ≡ Some x → P x) → All P xs → All P (cons_option here xs)
all-option P None xs own all = all
all-option P (Some x) xs own all = All-cons P x xs (own x refl) all

all-some : {X : Type 0} (P : X → Type 0) (f : ℕ → Option X) (start n : ℕ) → ((k : ℕ) (x : X) → k < start + n → f k ≡ Some x → P x) → All P (filter_map f (range_with_len start n))
all-some P f start zero each = All-nil P
all-some P f start (suc n) each =
    all-option P (f start) (filter_map f (range_with_len (start + 1) n)) (λ x is. each start x (omega arith) is)
    (all-some P f (start + 1) n (λ k x inside is. each k x (omega (arith, inside)) is))

-- ---- totals

-- a total is the sum of its parts
abbrev pub Adds : Numbers → Sum → Type 0
Adds numbers sum = numbers sum.0 ≡ sum_of numbers sum.1

-- each cell that has parts is their sum
abbrev pub TotalsAdd : List Tree → List (List Dimension) → Numbers → Type 0
TotalsAdd trees tables numbers =
    (number : ℕ) (name : Name) (variable : ℕ) → slice_get (cells_of trees tables) number ≡ Some name
    → variable < length trees → is_spanned trees tables name variable ≡ true → codes_below trees name variable ≢ []
    → numbers number ≡ sum_of numbers (parts_among (cells_of trees tables) name variable (codes_below trees name variable))

codes-there : (codes : List ℕ) → not (length codes == 0) ≡ true → codes ≢ []
codes-there [] any is = absurd cc
codes-there (code ∷ codes) any is = absurd cc

-- a relation adds up where its cell, which has parts, is their sum
relation-adds : (numbers : Numbers) (trees : List Tree) (tables : List (List Dimension)) (cell : ℕ) (name : Name) (variable : ℕ) (sum : Sum) → relation_for trees tables cell name variable ≡ Some sum
    → (is_spanned trees tables name variable ≡ true → codes_below trees name variable ≢ [] → numbers cell ≡ sum_of numbers (parts_among (cells_of trees tables) name variable (codes_below trees name variable))) → Adds numbers sum
relation-adds numbers trees tables cell name variable sum is adds = by (is_spanned trees tables name variable) (not (length codes == 0)) refl refl is
  where
    codes : List ℕ
    codes = codes_below trees name variable

    its : Sum
    its = (cell, parts_among (cells_of trees tables) name variable codes)

    by : (a b : Bool) → is_spanned trees tables name variable ≡ a → not (length codes == 0) ≡ b → (if a && b then Some its else None) ≡ Some sum → Adds numbers sum
    by true true spanned any gives = let same : its ≡ sum = cc in subst (Adds numbers) same (adds spanned (codes-there codes any))
    by true false spanned any gives = absurd cc
    by false b spanned any gives = absurd cc

pub totals-sums : (trees : List Tree) (tables : List (List Dimension)) (numbers : Numbers) → TotalsAdd trees tables numbers → All (Adds numbers) (relations_among trees tables)
totals-sums trees tables numbers adds =
    let names : List Name = cells_of trees tables in
    all-from (Adds numbers) (λ c. relations_for trees tables c (slice_index_or names c [])) 0 (length names)
    (λ c inside. all-some (Adds numbers) (relation_for trees tables c (slice_index_or names c [])) 0 (length trees)
    (λ v sum known is. relation-adds numbers trees tables c (slice_index_or names c []) v sum is (adds c (slice_index_or names c []) v (read-at names c [] (omega (arith, inside))) (omega (arith, known)))))

pub sums-totals : (trees : List Tree) (tables : List (List Dimension)) (numbers : Numbers) → All (Adds numbers) (relations_among trees tables) → TotalsAdd trees tables numbers
sums-totals trees tables numbers all number name variable at known spanned some =
    of-relation (Adds numbers) trees tables number name variable (number, parts_among (cells_of trees tables) name variable (codes_below trees name variable)) at known
    (has-relation trees tables number name variable spanned some) all
