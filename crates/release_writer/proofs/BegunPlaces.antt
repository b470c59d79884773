-- The lines of the places that begin alike.
use Rattle.std.proofs.Common.{◌≡◌, ℕ, zero, suc, ◌+◌, ◌<◌, ◌≤◌, ◌&&◌, nat_lt, Bool, true, false, List, [], ◌∷◌, ◌++◌, length, map, take, drop, get_or, slice_get, slice_index_or, Option, None, Some, option_map, arith, refl, ap, sym, ◌∙◌, length-append, append_assoc, append-nil}
use Rattle.std.specs.List.{flat_map}
use Rattle.std.proofs.lemmas.List.{drop_more, drop_all}
use Rattle.std.proofs.lemmas.Bool.Decides.{nat_tests}
use Rattle.sdc_base.specs.Trees.{Tree}
use Rattle.sdc_base.specs.CutTrees.{CutTree, has_code, is_within}
use Rattle.sdc_base.specs.Cells.{cut_tree, places, trees_of}
use Rattle.sdc_base.specs.declared.dimension.Dimension.{Dimension}
use Rattle.sdc_base.specs.CellOrder.{is_place_in}
use Rattle.sdc_base.proofs.PlaceLists.{begun, begun_more, begun_same}
use Rattle.linked_tables.specs.BookViews.{BookView}
use Rattle.release_writer.specs.Lines.{place_line, lines_below}
use Rattle.release_writer.specs.declared.shown.Shown.{Shown}

-- a dimension for what stands behind the last one
abbrev pub no_dimension : Dimension
no_dimension = record { variable = 0; depth = 0 }

-- the tree of the variable behind a place, down to the table's depth
abbrev pub next_tree : List Tree → List Dimension → List ℕ → CutTree
next_tree trees table place = cut_tree trees (get_or table (length place) no_dimension)

-- the lines of those places that go on with one of the first n codes, of those that are kept
abbrev pub lines_begun : BookView → List Dimension → ℕ → Shown → List ℕ → (ℕ → Bool) → ℕ → List ℕ
lines_begun book table decimals how place keep n =
    flat_map (λ rest. place_line book table decimals how (place ++ rest)) (begun keep (places (trees_of book.trees (drop (length place + 1) table))) n)

-- a whole place has its line alone
pub below-whole : (book : BookView) (table : List Dimension) (decimals : ℕ) (how : Shown) (place : List ℕ) → length table ≤ length place → lines_below book table decimals how place ≡ place_line book table decimals how place
below-whole book table decimals how place h =
    ap (λ left. flat_map (λ rest. place_line book table decimals how (place ++ rest)) (places (trees_of book.trees left))) (drop_all (length place) table h)
    ∙ append-nil (place_line book table decimals how (place ++ []))
    ∙ ap (λ whole. place_line book table decimals how whole) (append-nil place)

-- a shorter one those of all codes of the next variable
pub below-begun : (book : BookView) (table : List Dimension) (decimals : ℕ) (how : Shown) (place : List ℕ) → length place < length table
    → lines_below book table decimals how place ≡ lines_begun book table decimals how place (is_within (next_tree book.trees table place)) (length (next_tree book.trees table place).tree)
below-begun book table decimals how place h = ap (λ left. flat_map (λ rest. place_line book table decimals how (place ++ rest)) (places (trees_of book.trees left))) (drop_more table (length place) no_dimension h)

joined : (g : List ℕ → List ℕ) (xs ys : List (List ℕ)) → flat_map g (xs ++ ys) ≡ flat_map g xs ++ flat_map g ys
joined g [] ys = refl
joined g (x ∷ xs) ys = ap (λ t. g x ++ t) (joined g xs ys) ∙ sym (append_assoc (g x) (flat_map g xs) (flat_map g ys))

-- those that go on with one code
one-code : (line : List ℕ → List ℕ) (place : List ℕ) (code : ℕ) (rests : List (List ℕ)) → flat_map (λ rest. line (place ++ rest)) (map (λ rest. code ∷ rest) rests) ≡ flat_map (λ rest. line ((place ++ code ∷ []) ++ rest)) rests
one-code line place code [] = refl
one-code line place code (rest ∷ rests) =
    ap (λ whole. line whole ++ flat_map (λ r. line (place ++ r)) (map (λ r. code ∷ r) rests)) (sym (append_assoc place (code ∷ []) rest))
    ∙ ap (λ t. line ((place ++ code ∷ []) ++ rest) ++ t) (one-code line place code rests)

-- with one code more that is kept
pub begun-next : (book : BookView) (table : List Dimension) (decimals : ℕ) (how : Shown) (place : List ℕ) (keep : ℕ → Bool) (code : ℕ) → keep code ≡ true
    → lines_begun book table decimals how place keep (code + 1) ≡ lines_begun book table decimals how place keep code ++ lines_below book table decimals how (place ++ code ∷ [])
begun-next book table decimals how place keep code kept =
    let line : List ℕ → List ℕ = place_line book table decimals how in
    let rests = places (trees_of book.trees (drop (length place + 1) table)) in
    ap (λ all. flat_map (λ rest. line (place ++ rest)) all) (begun_more keep rests code kept)
    ∙ joined (λ rest. line (place ++ rest)) (begun keep rests code) (map (λ rest. code ∷ rest) rests)
    ∙ ap (λ t. lines_begun book table decimals how place keep code ++ t) (one-code line place code rests ∙ ap (λ n. flat_map (λ rest. line ((place ++ code ∷ []) ++ rest)) (places (trees_of book.trees (drop n table)))) (sym (length-append place (code ∷ []))))

-- with one more that isn't
pub begun-passed : (book : BookView) (table : List Dimension) (decimals : ℕ) (how : Shown) (place : List ℕ) (keep : ℕ → Bool) (code : ℕ) → keep code ≡ false → lines_begun book table decimals how place keep (code + 1) ≡ lines_begun book table decimals how place keep code
begun-passed book table decimals how place keep code passed = ap (flat_map (λ rest. place_line book table decimals how (place ++ rest))) (begun_same keep (places (trees_of book.trees (drop (length place + 1) table))) code passed)

-- a code of the tree is one of the cut tree exactly where it is at most so deep
pub within-has : (cut : CutTree) (code : ℕ) → code < length cut.tree → is_within cut code ≡ has_code cut code
within-has cut code small = let test : nat_lt code (length cut.tree) ≡ true = grind (arith, nat_tests, small) in rw test refl

-- one more line, or more, behind what stood before
pub written-more : (lines more all : List ℕ) (start old new : Option (List ℕ)) → all ≡ lines ++ more → old ≡ option_map (λ text. text ++ lines) start → new ≡ option_map (λ text. text ++ more) old → new ≡ option_map (λ text. text ++ all) start
written-more lines more all None old new whole before after = after ∙ rw before refl
written-more lines more all (Some start) old new whole before after =
    after ∙ ap (λ t. option_map (λ text. text ++ more) t) before ∙ ap Some (append_assoc start lines more ∙ ap (λ t. start ++ t) (sym whole))

-- a code more keeps a place one of the table
pub place-more : (trees : List Tree) (table : List Dimension) (place : List ℕ) (code : ℕ) → length place < length table → is_place_in (trees_of trees (take (length place) table)) place ≡ true → has_code (next_tree trees table place) code ≡ true
    → is_place_in (trees_of trees (take (length (place ++ code ∷ [])) table)) (place ++ code ∷ []) ≡ true
place-more trees [] place code h here has = absurd (omega arith)
place-more trees (dimension ∷ table) [] code h here has = rw has refl
place-more trees (dimension ∷ table) (one ∷ place) code h here has =
    elim (has_code (cut_tree trees dimension) one) as (λ b. (b && is_place_in (trees_of trees (take (length place) table)) place) ≡ true → (b && is_place_in (trees_of trees (take (length (place ++ code ∷ [])) table)) (place ++ code ∷ [])) ≡ true) [
      | true ↦ λ rest. place-more trees table place code (omega arith) rest has
      | false ↦ λ none. none
    ] here

-- a list's item, read two ways
pub read-at : (tables : List (List Dimension)) (t : ℕ) (table : List Dimension) → slice_get tables t ≡ Some table → slice_index_or tables t [] ≡ table
read-at [] t table h = absurd (grind (arith, h))
read-at (first ∷ tables) zero table h = grind (arith, h)
read-at (first ∷ tables) (suc t) table h = read-at tables t table h

pub same-some : (a b : List ℕ) → Some a ≡ Some b → a ≡ b
same-some a b h = grind (arith, h)
