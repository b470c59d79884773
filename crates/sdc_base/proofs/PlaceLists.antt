-- Lists of places and names that grow one by one.
use Rattle.std.proofs.Common.{◌≡◌, ◌≢◌, ℕ, zero, suc, ◌+◌, ◌<◌, ◌≤◌, ◌==◌, Bool, true, false, cond, List, [], ◌∷◌, ◌++◌, length, map, filter, drop, get_or, All, arith, refl, ap, sym, ◌∙◌, subst, length-drop}
use Rattle.std.specs.List.{flat_map, range_with_len}
use Rattle.std.proofs.lemmas.Bool.Decides.{nat_tests}
use Rattle.std.proofs.lemmas.Grind.{flat_map-append}
use Rattle.std.proofs.lemmas.List.{drop_more, drop_all}
use Rattle.std.proofs.lemmas.List.Elements.{All-append, All-map, All-cons, filter-append}
use Rattle.std.proofs.lemmas.List.FromFn.{length-map-range_with_len, map-range_with_len_more}
use Rattle.sdc_base.specs.Trees.{Tree}
use Rattle.sdc_base.specs.CutTrees.{CutTree, codes_within}
use Rattle.sdc_base.specs.Cells.{places, code_for, trees_of}
use Rattle.sdc_base.specs.declared.dimension.Dimension.{Dimension}

-- ---- the code for a variable

code_none : (table : List Dimension) (variable : ℕ) → code_for table [] variable ≡ 0
code_none [] variable = refl
code_none (dimension ∷ table) variable = refl

pub code_past : (table : List Dimension) (place : List ℕ) (k variable : ℕ) → length place ≤ k → code_for (drop k table) (drop k place) variable ≡ 0
code_past table place k variable far = ap (λ p. code_for (drop k table) p variable) (drop_all k place far) ∙ code_none (drop k table) variable

pub code_next : (table : List Dimension) (place : List ℕ) (k variable : ℕ) (d : Dimension) (e : ℕ) → k < length table → k < length place → (get_or table k d).variable ≢ variable
    → code_for (drop k table) (drop k place) variable ≡ code_for (drop (k + 1) table) (drop (k + 1) place) variable
code_next table place k variable d e inside within other =
    let test : ((get_or table k d).variable == variable) ≡ false = grind (arith, nat_tests) in
    ap (λ t. code_for t (drop k place) variable) (drop_more table k d inside)
    ∙ ap (λ p. code_for (get_or table k d ∷ drop (k + 1) table) p variable) (drop_more place k e within)
    ∙ rw test refl

-- ---- places

range_more : (a n : ℕ) → range_with_len a (suc n) ≡ range_with_len a n ++ (a + n) ∷ []
range_more a zero = ap (λ m. m ∷ []) (omega arith)
range_more a (suc n) = ap (λ t. a ∷ t) (range_more (a + 1) n ∙ ap (λ m. range_with_len (a + 1) n ++ m ∷ []) (omega arith))

-- the places that begin with one of the first n codes, of those that are kept
abbrev pub begun : (ℕ → Bool) → List (List ℕ) → ℕ → List (List ℕ)
begun keep rests n = flat_map (λ code. map (λ rest. code ∷ rest) rests) (filter keep (range_with_len 0 n))

-- one code more
begun_by : (keep : ℕ → Bool) (rests : List (List ℕ)) (n : ℕ) → begun keep rests (n + 1) ≡ begun keep rests n ++ flat_map (λ code. map (λ rest. code ∷ rest) rests) (filter keep (n ∷ []))
begun_by keep rests n =
    let f : ℕ → List (List ℕ) = λ code. map (λ rest. code ∷ rest) rests in
    let next : n + 1 ≡ suc n = omega arith in
    let last : 0 + n ≡ n = omega arith in
    ap (λ m. begun keep rests m) next
    ∙ ap (λ t. flat_map f (filter keep t)) (range_more 0 n ∙ ap (λ m. range_with_len 0 n ++ m ∷ []) last)
    ∙ ap (flat_map f) (filter-append keep (range_with_len 0 n) (n ∷ []))
    ∙ flat_map-append f (filter keep (range_with_len 0 n)) (filter keep (n ∷ []))

append-none : {X : Type 0} (xs : List X) → xs ++ [] ≡ xs
append-none [] = refl
append-none (x ∷ xs) = ap (λ t. x ∷ t) (append-none xs)

-- where it is kept
pub begun_more : (keep : ℕ → Bool) (rests : List (List ℕ)) (n : ℕ) → keep n ≡ true → begun keep rests (n + 1) ≡ begun keep rests n ++ map (λ rest. n ∷ rest) rests
begun_more keep rests n kept =
    let f : ℕ → List (List ℕ) = λ code. map (λ rest. code ∷ rest) rests in
    begun_by keep rests n ∙ ap (λ b. begun keep rests n ++ flat_map f (cond b (n ∷ []) [])) kept ∙ ap (λ t. begun keep rests n ++ t) (append-none (f n))

-- where it isn't
pub begun_same : (keep : ℕ → Bool) (rests : List (List ℕ)) (n : ℕ) → keep n ≡ false → begun keep rests (n + 1) ≡ begun keep rests n
begun_same keep rests n passed =
    let f : ℕ → List (List ℕ) = λ code. map (λ rest. code ∷ rest) rests in
    begun_by keep rests n ∙ ap (λ b. begun keep rests n ++ flat_map f (cond b (n ∷ []) [])) passed ∙ append-none (begun keep rests n)

abbrev HaveLength : ℕ → List (List ℕ) → Type 0
HaveLength n list = All (λ place. length place ≡ n) list

begun_length : (rests : List (List ℕ)) (n : ℕ) (codes : List ℕ) → HaveLength n rests → HaveLength (suc n) (flat_map (λ code. map (λ rest. code ∷ rest) rests) codes)
begun_length rests n [] each = grind arith
begun_length rests n (code ∷ codes) each =
    All-append (λ place. length place ≡ suc n) (map (λ rest. code ∷ rest) rests) (flat_map (λ one. map (λ rest. one ∷ rest) rests) codes)
    (All-map (λ place. length place ≡ suc n) (λ rest. code ∷ rest) rests (longer rests each))
    (begun_length rests n codes each)
  where
    longer : (xs : List (List ℕ)) → HaveLength n xs → All (λ rest. suc (length rest) ≡ suc n) xs
    longer xs all = λ i d h. ap suc (all i d h)

places_length : (trees : List CutTree) → HaveLength (length trees) (places trees)
places_length [] = All-cons (λ place. length place ≡ 0) [] [] refl (grind arith)
places_length (tree ∷ trees) = begun_length (places trees) (length trees) (codes_within tree) (places_length trees)

pub places_narrow : (found : List (List ℕ)) (trees : List Tree) (table : List Dimension) (left : ℕ) → found ≡ places (trees_of trees (drop left table)) → 0 < left → length table ≤ 8 → All (λ place. length place < 8) found
places_narrow found trees table left is some narrow =
    subst (λ list. All (λ place. length place < 8) list) (sym is)
    (λ i d h. omega (arith, places_length (trees_of trees (drop left table)) i d h, spans (drop left table), length-drop left table))
  where
    spans : (more : List Dimension) → length (trees_of trees more) ≡ length more
    spans [] = refl
    spans (dimension ∷ more) = ap suc (spans more)

-- ---- names

pub name_length : (table : List Dimension) (place : List ℕ) (n : ℕ) → length (map (code_for table place) (range_with_len 0 n)) ≡ n
name_length table place n = length-map-range_with_len (code_for table place) 0 n

pub name_more : (table : List Dimension) (place : List ℕ) (n : ℕ) → map (code_for table place) (range_with_len 0 (n + 1)) ≡ map (code_for table place) (range_with_len 0 n) ++ code_for table place n ∷ []
name_more table place n = map-range_with_len_more (code_for table place) 0 n n (omega arith)
