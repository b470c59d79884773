-- Which variable a relation is for.
use Rattle.std.proofs.Common.{◌≡◌, ◌≢◌, ℕ, zero, suc, ◌+◌, ◌==◌, ◌&&◌, not, Bool, true, false, List, [], ◌∷◌, length, slice_get, slice_index_or, slice_set, if◌then◌else◌, Option, None, Some, arith, refl, ap, sym, subst, ◌∙◌, All}
use Rattle.std.specs.List.{cons_option, filter_map, flat_map, range_with_len}
use Rattle.std.proofs.lemmas.Bool.Decides.{nat_tests}
use Rattle.std.proofs.lemmas.List.{get_or-set_other}
use Rattle.std.proofs.lemmas.List.Elements.{All-append, All-cons, All-nil}
use Rattle.std.proofs.lemmas.Option.{get_or_from_slice_get}
use Rattle.sdc_base.specs.Cells.{cells_of}
use Rattle.sdc_base.specs.Records.{Name}
use Rattle.sdc_base.specs.Relations.{Sum, codes_below, is_spanned, number_among, parts_among, relation_for, relations_for, relations_among}
use Rattle.sdc_base.specs.Trees.{Tree}
use Rattle.sdc_base.specs.declared.dimension.Dimension.{Dimension}
use Rattle.linked_tables.proofs.Finding.{found-name}
use Rattle.cell_listing.specs.ListedRelations.{IsSumFor}

-- the total of a relation and its parts
its-sum : (trees : List Tree) (tables : List (List Dimension)) (cell : ℕ) (name : Name) (variable : ℕ) (sum : Sum) → relation_for trees tables cell name variable ≡ Some sum
    → sum ≡ (cell, parts_among (cells_of trees tables) name variable (codes_below trees name variable))
its-sum trees tables cell name variable sum is = by (is_spanned trees tables name variable && not (length (codes_below trees name variable) == 0)) is
  where
    its : Sum
    its = (cell, parts_among (cells_of trees tables) name variable (codes_below trees name variable))

    by : (b : Bool) → (if b then Some its else None) ≡ Some sum → sum ≡ its
    by true is = cc
    by false is = absurd cc

-- the first of the parts has a code in the variable's place
first-part : (cells : List Name) (name : Name) (variable : ℕ) (codes : List ℕ) (part : ℕ) → slice_get (parts_among cells name variable codes) 0 ≡ Some part → (code : ℕ) × (number_among cells (slice_set name variable code) ≡ Some part)
first-part cells name variable [] part is = absurd cc
first-part cells name variable (code ∷ codes) part is = by (first-part cells name variable codes part) (number_among cells (slice_set name variable code)) refl is
  where
    by : (slice_get (parts_among cells name variable codes) 0 ≡ Some part → (c : ℕ) × (number_among cells (slice_set name variable c) ≡ Some part))
        → (found : Option ℕ) → number_among cells (slice_set name variable code) ≡ found → slice_get (cons_option found (parts_among cells name variable codes)) 0 ≡ Some part
        → (c : ℕ) × (number_among cells (slice_set name variable c) ≡ Some part)
    by later None none is = later is
    by later (Some q) found is = let same : q ≡ part = cc in (code, found ∙ ap Some same)

-- a name with another code for one variable differs there alone
differs-there : (name : Name) (variable place code : ℕ) → slice_index_or name place 0 ≢ slice_index_or (slice_set name variable code) place 0 → place ≡ variable
differs-there name variable place code differ = by (place == variable) refl
  where
    by : (b : Bool) → (place == variable) ≡ b → place ≡ variable
    by true is = grind (arith, nat_tests, is)
    by false is =
        let other : place ≢ variable = λ same. grind (arith, nat_tests, is, same) in
        absurd (differ (sym (get_or-set_other name variable place code 0 other)))

-- the variable for which the first part has another code than the total is the relation's
pub own_variable : (trees : List Tree) (tables : List (List Dimension)) (sum : Sum) (own place part : ℕ) (total name : Name) → IsSumFor trees tables sum own → slice_get sum.1 0 ≡ Some part
    → slice_get (cells_of trees tables) sum.0 ≡ Some total → slice_get (cells_of trees tables) part ≡ Some name → slice_index_or total place 0 ≢ slice_index_or name place 0 → IsSumFor trees tables sum place
own_variable trees tables sum own place part total name is parts at there differ =
    let cells : List Name = cells_of trees tables in
    let called : Name = slice_index_or cells sum.0 [] in
    let total_is : called ≡ total = get_or_from_slice_get cells sum.0 total [] at in
    let sum_is = its-sum trees tables sum.0 called own sum is in
    let first = first-part cells called own (codes_below trees called own) part (ap (λ (s : Sum). slice_get s.1 0) (sym sum_is) ∙ parts) in
    let found : slice_get cells part ≡ Some (slice_set called own first.0) = found-name cells (slice_set called own first.0) part first.1 in
    let name_is : name ≡ slice_set called own first.0 = cc in
    let differs : slice_index_or called place 0 ≢ slice_index_or (slice_set called own first.0) place 0 = λ same. differ (ap (λ (n : Name). slice_index_or n place 0) (sym total_is) ∙ same ∙ ap (λ (n : Name). slice_index_or n place 0) (sym name_is)) in
    subst (IsSumFor trees tables sum) (sym (differs-there called own place first.0 differs)) is

-- ---- each relation is for some variable

all-found : {X : Type 0} (P : X → Type 0) (f : ℕ → Option X) (start n : ℕ) → ((k : ℕ) (x : X) → f k ≡ Some x → P x) → All P (filter_map f (range_with_len start n))
all-found P f start zero each = All-nil P
all-found {X = X} P f start (suc n) each = by (all-found P f (start + 1) n each) (f start) refl
  where
    by : All P (filter_map f (range_with_len (start + 1) n)) → (here : Option X) → f start ≡ here → All P (cons_option here (filter_map f (range_with_len (start + 1) n)))
    by rest None is = rest
    by rest (Some x) is = All-cons P x (filter_map f (range_with_len (start + 1) n)) (each start x is) rest

all-joined : {X : Type 0} (P : X → Type 0) (f : ℕ → List X) (start n : ℕ) → ((k : ℕ) → All P (f k)) → All P (flat_map f (range_with_len start n))
all-joined P f start zero each = All-nil P
all-joined P f start (suc n) each = All-append P (f start) (flat_map f (range_with_len (start + 1) n)) (each start) (all-joined P f (start + 1) n each)

-- a relation is for some variable
abbrev pub IsForSome : List Tree → List (List Dimension) → Sum → Type 0
IsForSome trees tables sum = (variable : ℕ) × IsSumFor trees tables sum variable

pub all_for_some : (trees : List Tree) (tables : List (List Dimension)) → All (IsForSome trees tables) (relations_among trees tables)
all_for_some trees tables =
    let cells : List Name = cells_of trees tables in
    all-joined (IsForSome trees tables) (λ cell. relations_for trees tables cell (slice_index_or cells cell [])) 0 (length cells)
    (λ cell. all-found (IsForSome trees tables) (relation_for trees tables cell (slice_index_or cells cell [])) 0 (length trees)
    (λ variable sum is.
    let own : sum.0 ≡ cell = ap (λ (s : Sum). s.0) (its-sum trees tables cell (slice_index_or cells cell []) variable sum is) in
    (variable, subst (λ (c : ℕ). relation_for trees tables c (slice_index_or cells c []) variable ≡ Some sum) (sym own) is)))
