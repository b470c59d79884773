-- The cells of tables, table after table.
use Rattle.std.proofs.Common.{◌≡◌, ℕ, zero, suc, ◌+◌, ◌<◌, ◌≤◌, List, [], ◌∷◌, ◌++◌, length, fold, take, drop, slice_get, None, Some, option_map, arith, refl, ap, sym, ◌∙◌, subst, length-append, add-one, ◌⊎◌, inl, inr}
use Rattle.std.specs.List.{flat_map, range_with_len}
use Rattle.std.proofs.lemmas.Grind.{flat_map-append}
use Rattle.std.proofs.lemmas.List.{append-nil, take-append-drop, take_all}
use Rattle.std.proofs.lemmas.List.Sums.{fold-append}
use Rattle.std.proofs.lemmas.List.FromFn.{length-range_with_len, length-map-range_with_len, get_or-range_with_len, map-range_with_len_more}
use Rattle.std.proofs.lemmas.Option.{slice_get-map, slice_get_read, slice_get_within}
use Rattle.sdc_base.specs.Trees.{Tree}
use Rattle.sdc_base.specs.Records.{Name}
use Rattle.sdc_base.specs.Cells.{cells_of, named_by, with_name}
use Rattle.sdc_base.proofs.FirstNames.{names_are_first}
use Rattle.sdc_base.specs.declared.dimension.Dimension.{Dimension}
use Rattle.linked_tables.specs.BookKeeping.{starts_of}

-- with one table more
pub cells-more : (trees : List Tree) (tables : List (List Dimension)) (table : List Dimension) → cells_of trees (tables ++ table ∷ []) ≡ fold with_name (cells_of trees tables) (named_by trees table)
cells-more trees tables table =
    ap (fold with_name []) (flat_map-append (named_by trees) tables (table ∷ []))
    ∙ fold-append with_name [] (flat_map (named_by trees) tables) (named_by trees table ++ [])
    ∙ ap (fold with_name (cells_of trees tables)) (append-nil (named_by trees table))

-- the cells of the tables before stay the first ones
pub cells-stay : (trees : List Tree) (tables more : List (List Dimension)) → (later : List Name) × (cells_of trees (tables ++ more) ≡ cells_of trees tables ++ later)
cells-stay trees tables more =
    let stay = names_are_first.first (flat_map (named_by trees) tables) (flat_map (named_by trees) more) in
    (stay.0, ap (fold with_name []) (flat_map-append (named_by trees) tables more) ∙ stay.1)

-- so the more tables, the more cells
pub cells-rise : (trees : List Tree) (tables more : List (List Dimension)) → length (cells_of trees tables) ≤ length (cells_of trees (tables ++ more))
cells-rise trees tables more =
    let stay = cells-stay trees tables more in
    let parts : length (cells_of trees (tables ++ more)) ≡ length (cells_of trees tables) + length stay.0 = ap length stay.1 ∙ length-append (cells_of trees tables) stay.0 in
    omega (arith, parts)

take-one_more : {X : Type 0} (t : ℕ) (xs : List X) → (more : List X) × (take (suc t) xs ≡ take t xs ++ more)
take-one_more zero xs = (take 1 xs, refl)
take-one_more (suc t) [] = ([], refl)
take-one_more (suc t) (x ∷ xs) = let rest = take-one_more t xs in (rest.0, ap (λ ys. x ∷ ys) rest.1)

-- the first of a table's own cells comes no later than that of the next table
pub starts-rise : (trees : List Tree) (tables : List (List Dimension)) (t : ℕ) → length (cells_of trees (take t tables)) ≤ length (cells_of trees (take (t + 1) tables))
starts-rise trees tables t =
    let more = take-one_more t tables in
    subst (λ taken. length (cells_of trees (take t tables)) ≤ length (cells_of trees taken)) (sym (ap (λ n. take n tables) (add-one t) ∙ more.1)) (cells-rise trees (take t tables) more.0)

-- and no later than the end
pub starts-within : (trees : List Tree) (tables : List (List Dimension)) (t : ℕ) → length (cells_of trees (take t tables)) ≤ length (cells_of trees tables)
starts-within trees tables t =
    subst (λ whole. length (cells_of trees (take t tables)) ≤ length (cells_of trees whole)) (take-append-drop t tables) (cells-rise trees (take t tables) (drop t tables))

range-at : (n k : ℕ) → k < n → slice_get (range_with_len 0 n) k ≡ Some k
range-at n k h =
    let at : 0 + k ≡ k = omega arith in
    slice_get_read (range_with_len 0 n) n k k (sym (length-range_with_len 0 n)) h (sym (get_or-range_with_len 0 n k k h ∙ at))

-- what the starts say of a number of tables
pub starts-at : (trees : List Tree) (tables : List (List Dimension)) (n t : ℕ) → t < n → slice_get (starts_of trees tables n) t ≡ Some (length (cells_of trees (take t tables)))
starts-at trees tables n t h =
    slice_get-map (λ k. length (cells_of trees (take k tables))) (range_with_len 0 n) t ∙ ap (option_map (λ k. length (cells_of trees (take k tables)))) (range-at n t h)

-- one start more
pub starts-more : (trees : List Tree) (tables : List (List Dimension)) (t : ℕ) → starts_of trees tables (t + 1) ≡ starts_of trees tables t ++ length (cells_of trees (take t tables)) ∷ []
starts-more trees tables t = map-range_with_len_more (λ k. length (cells_of trees (take k tables))) 0 t t (omega arith)

pub starts-length : (trees : List Tree) (tables : List (List Dimension)) (n : ℕ) → length (starts_of trees tables n) ≡ n
starts-length trees tables n = length-map-range_with_len (λ k. length (cells_of trees (take k tables))) 0 n

-- the start that is found
pub start-found : (trees : List Tree) (tables : List (List Dimension)) (n t start : ℕ) → slice_get (starts_of trees tables n) t ≡ Some start → start ≡ length (cells_of trees (take t tables))
start-found trees tables n t start found =
    let inside : t < n = subst (λ m. t < m) (starts-length trees tables n) (slice_get_within (starts_of trees tables n) t start found) in
    same (sym found ∙ starts-at trees tables n t inside)
  where
    same : {a b : ℕ} → Some a ≡ Some b → a ≡ b
    same h = cc

-- behind the last table all cells are named
pub start-past : (trees : List Tree) (tables : List (List Dimension)) (t : ℕ) → length tables ≤ t → length (cells_of trees (take t tables)) ≡ length (cells_of trees tables)
start-past trees tables t h = ap (λ taken. length (cells_of trees taken)) (take_all t tables h)

lt_or_le : (a b : ℕ) → (a < b) ⊎ (b ≤ a)
lt_or_le a b = grind arith

-- where no start is found all cells are named
pub start-none : (trees : List Tree) (tables : List (List Dimension)) (t : ℕ) → slice_get (starts_of trees tables (length tables + 1)) t ≡ None → length (cells_of trees (take t tables)) ≡ length (cells_of trees tables)
start-none trees tables t none = start-past trees tables t (by (lt_or_le t (length tables + 1)))
  where
    by : (t < length tables + 1) ⊎ (length tables + 1 ≤ t) → length tables ≤ t
    by (inl h) = let found : None ≡ Some (length (cells_of trees (take t tables))) = sym none ∙ starts-at trees tables (length tables + 1) t h in cc
    by (inr h) = omega (arith, h)
