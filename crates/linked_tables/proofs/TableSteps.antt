-- One table more.
use Rattle.std.proofs.Common.{◌≡◌, ℕ, ◌+◌, ◌<◌, ◌≤◌, nat_lt, false, List, [], ◌∷◌, ◌++◌, length, fold, take, drop, slice_get, slice_index_or, All, ◌⊎◌, inl, inr, Option, None, Some, arith, refl, ap, sym, ◌∙◌, subst}
use Rattle.std.proofs.lemmas.List.{length-take-le}
use Rattle.std.proofs.lemmas.List.Elements.{All-append, All-cons}
use Rattle.std.proofs.lemmas.Option.{slice_get_within, get_or_from_slice_get}
use Rattle.std.proofs.lemmas.Bool.Decides.{nat_tests}
use Rattle.sdc_base.specs.Trees.{Tree}
use Rattle.sdc_base.specs.Records.{Name}
use Rattle.sdc_base.specs.Answers.{Fails}
use Rattle.sdc_base.specs.Cells.{cells_of, named_by, with_name}
use Rattle.code_trees.proofs.FlatSteps.{drop-at, take-at}
use Rattle.sdc_base.specs.declared.dimension.Dimension.{Dimension}
use Rattle.linked_tables.specs.declared.book_fault.BookFault.{BookFault}
use Rattle.linked_tables.specs.Tables.{most_cells, variables_fault, cells_fault, first_table_fault, or_later, unless_fault, book_with_depths}
use Rattle.linked_tables.specs.BookCells.{IsTable}
use Rattle.linked_tables.specs.BookKeeping.{names_within_limit}
use Rattle.linked_tables.proofs.CellLists.{cells-more}
use Rattle.linked_tables.proofs.Faults.{fails-first, fails-second, sound-table}

-- the cells with those of a table more
abbrev pub with_table : List Tree → List (List Dimension) → ℕ → List Dimension → List Name
with_table trees tables t table = fold with_name (cells_of trees (take t tables)) (named_by trees table)

taken : {X : Type 0} (xs : List X) (t : ℕ) → t < length xs → length (take t xs) ≡ t
taken xs t h = length-take-le t xs (omega (arith, h))

pub cells-next : (trees : List Tree) (tables : List (List Dimension)) (t : ℕ) (table : List Dimension) → slice_get tables t ≡ Some table → cells_of trees (take (t + 1) tables) ≡ with_table trees tables t table
cells-next trees tables t table at = ap (cells_of trees) (take-at tables t table at) ∙ cells-more trees (take t tables) table

first-step : (trees : List Tree) (tables : List (List Dimension)) (t : ℕ) (table : List Dimension) → slice_get tables t ≡ Some table
    → first_table_fault trees (take t tables) (drop t tables) ≡ or_later (or_later (variables_fault (length trees) t table) (cells_fault t (with_table trees tables t table))) (first_table_fault trees (take (t + 1) tables) (drop (t + 1) tables))
first-step trees tables t table at =
    let number : length (take t tables) ≡ t = taken tables t (slice_get_within tables t table at) in
    let rest = drop (t + 1) tables in
    ap (first_table_fault trees (take t tables)) (drop-at tables t table at)
    ∙ ap (λ n. or_later (or_later (variables_fault (length trees) n table) (cells_fault n (cells_of trees (take t tables ++ table ∷ [])))) (first_table_fault trees (take t tables ++ table ∷ []) rest)) number
    ∙ ap (λ cells. or_later (or_later (variables_fault (length trees) t table) (cells_fault t cells)) (first_table_fault trees (take t tables ++ table ∷ []) rest)) (cells-more trees (take t tables) table)
    ∙ ap (λ before. or_later (or_later (variables_fault (length trees) t table) (cells_fault t (with_table trees tables t table))) (first_table_fault trees before rest)) (sym (take-at tables t table at))

-- a table without a fault
pub table-next : (trees : List Tree) (tables : List (List Dimension)) (t : ℕ) (table : List Dimension) → slice_get tables t ≡ Some table → variables_fault (length trees) t table ≡ None → length (with_table trees tables t table) ≤ most_cells
    → first_table_fault trees (take t tables) (drop t tables) ≡ first_table_fault trees (take (t + 1) tables) (drop (t + 1) tables)
table-next trees tables t table at none few =
    let rest = first_table_fault trees (take (t + 1) tables) (drop (t + 1) tables) in
    first-step trees tables t table at
    ∙ ap (λ told. or_later (or_later told (cells_fault t (with_table trees tables t table))) rest) none
    ∙ ap (λ told. or_later told rest) (fits (with_table trees tables t table) few)
  where
    fits : (names : List Name) → length names ≤ most_cells → cells_fault t names ≡ None
    fits names few = let test : nat_lt most_cells (length names) ≡ false = grind (arith, nat_tests) in rw test refl

-- a table with a fault of its variables
pub variables-stop : (trees : List Tree) (tables : List (List Dimension)) (t : ℕ) (table : List Dimension) (named : Option BookFault) → slice_get tables t ≡ Some table → first_table_fault trees [] tables ≡ first_table_fault trees (take t tables) (drop t tables)
    → Fails named (unless_fault (variables_fault (length trees) t table) (tt {0})) → Fails named (book_with_depths trees tables)
variables-stop trees tables t table named at so_far fails =
    subst (λ told. Fails {Y = List Tree × List (List Dimension)} named (unless_fault told (trees, tables))) (sym (so_far ∙ first-step trees tables t table at))
    (fails-first {Y = List Tree × List (List Dimension)} named (variables_fault (length trees) t table) (cells_fault t (with_table trees tables t table)) (first_table_fault trees (take (t + 1) tables) (drop (t + 1) tables)) (tt {0}) (trees, tables) fails)

-- a table with too many cells
pub cells-stop : (trees : List Tree) (tables : List (List Dimension)) (t : ℕ) (table : List Dimension) (named : Option BookFault) → slice_get tables t ≡ Some table → first_table_fault trees [] tables ≡ first_table_fault trees (take t tables) (drop t tables)
    → variables_fault (length trees) t table ≡ None → Fails named (names_within_limit t (with_table trees tables t table)) → Fails named (book_with_depths trees tables)
cells-stop trees tables t table named at so_far none fails =
    subst (λ told. Fails {Y = List Tree × List (List Dimension)} named (unless_fault told (trees, tables))) (sym (so_far ∙ first-step trees tables t table at))
    (fails-second {Y = List Tree × List (List Dimension)} named (variables_fault (length trees) t table) (cells_fault t (with_table trees tables t table)) (first_table_fault trees (take (t + 1) tables) (drop (t + 1) tables)) (with_table trees tables t table) (trees, tables) none fails)

-- the tables so far can stand in a book
pub sound-next : (variables : ℕ) (tables : List (List Dimension)) (t : ℕ) (table : List Dimension) → slice_get tables t ≡ Some table → All (IsTable variables) (take t tables) → variables_fault variables t table ≡ None → All (IsTable variables) (take (t + 1) tables)
sound-next variables tables t table at sound none =
    subst (λ some. All (IsTable variables) some) (sym (take-at tables t table at))
    (All-append (IsTable variables) (take t tables) (table ∷ []) sound (All-cons (IsTable variables) table [] (sound-table variables t table none) (grind arith)))

-- one more of which it is so
pub each-next : {X : Type 0} (P : X → Type 0) (xs : List X) (i : ℕ) (x : X) → slice_get xs i ≡ Some x → P x → ((k : ℕ) (d : X) → k < i → P (slice_index_or xs k d)) → (k : ℕ) (d : X) → k < i + 1 → P (slice_index_or xs k d)
each-next P xs i x at here each k d below = by (less_or_same k i below)
  where
    less_or_same : (k i : ℕ) → k < i + 1 → (k < i) ⊎ (k ≡ i)
    less_or_same k i h = grind arith

    by : (k < i) ⊎ (k ≡ i) → P (slice_index_or xs k d)
    by (inl h) = each k d h
    by (inr h) = subst P (sym (ap (λ n. slice_index_or xs n d) h ∙ get_or_from_slice_get xs i x d at)) here
