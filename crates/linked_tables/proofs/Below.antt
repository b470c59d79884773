-- The names of the places that begin alike.
use Rattle.std.proofs.Common.{◌≡◌, ℕ, zero, suc, ◌+◌, ◌<◌, ◌≤◌, Bool, true, false, List, [], ◌∷◌, ◌++◌, length, map, fold, drop, get_or, slice_index_or, arith, refl, ap, sym, ◌∙◌, subst, length-append, append_assoc}
use Rattle.std.proofs.lemmas.List.{append-nil, map-append, drop_more, drop_all}
use Rattle.std.proofs.lemmas.List.Sums.{fold-append}
use Rattle.sdc_base.specs.Trees.{Tree}
use Rattle.sdc_base.specs.Records.{Name}
use Rattle.sdc_base.specs.CutTrees.{is_within}
use Rattle.sdc_base.specs.Cells.{cut_tree, name_of, places, trees_of, with_name}
use Rattle.sdc_base.specs.declared.dimension.Dimension.{Dimension}
use Rattle.sdc_base.proofs.FirstNames.{stay}
use Rattle.sdc_base.proofs.PlaceLists.{begun, begun_more, begun_same}
use Rattle.linked_tables.specs.BookKeeping.{names_below}

-- the names of those places that go on with one of the first n codes, of those that are kept
abbrev pub names_begun : List Tree → List Dimension → List ℕ → (ℕ → Bool) → ℕ → List Name
names_begun trees table place keep n =
    map (λ rest. name_of (length trees) table (place ++ rest)) (begun keep (places (trees_of trees (drop (length place + 1) table))) n)

-- a whole place has its name alone
pub below-whole : (trees : List Tree) (table : List Dimension) (place : List ℕ) → length table ≤ length place → names_below trees table place ≡ name_of (length trees) table place ∷ []
below-whole trees table place h =
    ap (λ left. map (λ rest. name_of (length trees) table (place ++ rest)) (places (trees_of trees left))) (drop_all (length place) table h)
    ∙ ap (λ whole. name_of (length trees) table whole ∷ []) (append-nil place)

-- a shorter one those of all codes of the next variable that the table has
pub below-begun : (trees : List Tree) (table : List Dimension) (place : List ℕ) (d : Dimension) → length place < length table
    → names_below trees table place ≡ names_begun trees table place (is_within (cut_tree trees (get_or table (length place) d))) (length (slice_index_or trees (get_or table (length place) d).variable []))
below-begun trees table place d h = ap (λ left. map (λ rest. name_of (length trees) table (place ++ rest)) (places (trees_of trees left))) (drop_more table (length place) d h)

-- those that go on with one code
one-code : (trees : List Tree) (table : List Dimension) (place : List ℕ) (code : ℕ)
    → map (λ rest. name_of (length trees) table (place ++ rest)) (map (λ rest. code ∷ rest) (places (trees_of trees (drop (length place + 1) table)))) ≡ names_below trees table (place ++ code ∷ [])
one-code trees table place code =
    both (places (trees_of trees (drop (length place + 1) table)))
    ∙ ap (λ n. map (λ rest. name_of (length trees) table ((place ++ code ∷ []) ++ rest)) (places (trees_of trees (drop n table)))) (sym (length-append place (code ∷ [])))
  where
    both : (rests : List (List ℕ)) → map (λ rest. name_of (length trees) table (place ++ rest)) (map (λ rest. code ∷ rest) rests) ≡ map (λ rest. name_of (length trees) table ((place ++ code ∷ []) ++ rest)) rests
    both [] = refl
    both (rest ∷ rests) = ap (λ whole. name_of (length trees) table whole ∷ map (λ rest. name_of (length trees) table (place ++ rest)) (map (λ rest. code ∷ rest) rests)) (sym (append_assoc place (code ∷ []) rest)) ∙ ap (λ names. name_of (length trees) table ((place ++ code ∷ []) ++ rest) ∷ names) (both rests)

-- with one code more that is kept
pub begun-next : (trees : List Tree) (table : List Dimension) (place : List ℕ) (keep : ℕ → Bool) (names : List Name) (code : ℕ) → keep code ≡ true
    → fold with_name names (names_begun trees table place keep (code + 1)) ≡ fold with_name (fold with_name names (names_begun trees table place keep code)) (names_below trees table (place ++ code ∷ []))
begun-next trees table place keep names code kept =
    let rests = places (trees_of trees (drop (length place + 1) table)) in
    let name : List ℕ → Name = λ rest. name_of (length trees) table (place ++ rest) in
    ap (λ found. fold with_name names (map name found)) (begun_more keep rests code kept)
    ∙ ap (fold with_name names) (map-append name (begun keep rests code) (map (λ rest. code ∷ rest) rests))
    ∙ fold-append with_name names (names_begun trees table place keep code) (map name (map (λ rest. code ∷ rest) rests))
    ∙ ap (fold with_name (fold with_name names (names_begun trees table place keep code))) (one-code trees table place code)

-- with one more that isn't
pub begun-passed : (trees : List Tree) (table : List Dimension) (place : List ℕ) (keep : ℕ → Bool) (code : ℕ) → keep code ≡ false → names_begun trees table place keep (code + 1) ≡ names_begun trees table place keep code
begun-passed trees table place keep code passed =
    ap (map (λ rest. name_of (length trees) table (place ++ rest))) (begun_same keep (places (trees_of trees (drop (length place + 1) table))) code passed)

-- the more codes, the more names
pub begun-rises : (trees : List Tree) (table : List Dimension) (place : List ℕ) (keep : ℕ → Bool) (names : List Name) (code more : ℕ)
    → length (fold with_name names (names_begun trees table place keep code)) ≤ length (fold with_name names (names_begun trees table place keep (code + more)))
begun-rises trees table place keep names code zero =
    let at : code ≡ code + zero = omega arith in
    let same : length (fold with_name names (names_begun trees table place keep code)) ≡ length (fold with_name names (names_begun trees table place keep (code + zero))) = ap (λ n. length (fold with_name names (names_begun trees table place keep n))) at in
    omega (arith, same)
begun-rises trees table place keep names code (suc more) =
    let before = begun-rises trees table place keep names code more in
    let parts = by (keep (code + more)) refl in
    let at : (code + more) + 1 ≡ code + suc more = omega arith in
    subst (λ n. length (fold with_name names (names_begun trees table place keep code)) ≤ length (fold with_name names (names_begun trees table place keep n))) at (omega (arith, before, parts))
  where
    by : (b : Bool) → keep (code + more) ≡ b → length (fold with_name names (names_begun trees table place keep (code + more))) ≤ length (fold with_name names (names_begun trees table place keep ((code + more) + 1)))
    by true kept =
        let added = stay (fold with_name names (names_begun trees table place keep (code + more))) (names_below trees table (place ++ (code + more) ∷ [])) in
        let parts : length (fold with_name names (names_begun trees table place keep ((code + more) + 1))) ≡ length (fold with_name names (names_begun trees table place keep (code + more))) + length added.0 =
        ap length (begun-next trees table place keep names (code + more) kept ∙ added.1) ∙ length-append (fold with_name names (names_begun trees table place keep (code + more))) added.0
        in
        omega (arith, parts)
    by false passed =
        let same : length (fold with_name names (names_begun trees table place keep ((code + more) + 1))) ≡ length (fold with_name names (names_begun trees table place keep (code + more))) =
        ap (λ found. length (fold with_name names found)) (begun-passed trees table place keep (code + more) passed)
        in
        omega (arith, same)
