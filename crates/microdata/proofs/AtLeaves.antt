-- The codes of what is read have no others below them.
use Rattle.std.proofs.Common.{◌≡◌, ℕ, zero, suc, ◌+◌, ◌==◌, Bool, true, false, cond, List, [], ◌∷◌, length, map, filter, drop, get_or, slice_get, Option, None, Some, is_some, Result, Ok, Err, refl, ap, sym, ◌∙◌, subst, arith}
use Rattle.std.specs.List.{AllByRecursion, range_with_len}
use Rattle.std.specs.Option.{option_map_or}
use Rattle.std.proofs.lemmas.Option.{slice_get-get_or}
use Rattle.sdc_base.specs.Lines.{lines}
use Rattle.sdc_base.proofs.StepLemmas.{bind_ok}
use Rattle.sdc_base.specs.Trees.{Tree, children, is_child}
use Rattle.sdc_base.specs.declared.rows.Row.{Row}
use Rattle.code_trees.specs.Children.{child_from, first_child, is_place}
use Rattle.code_trees.proofs.FlatSteps.{drop-at}
use Rattle.microdata.specs.Closing.{closed_of, tree_place, leaf_of, leaves_of, row_of, rows_of}
use Rattle.microdata.specs.Fields.{scale_of}
use Rattle.microdata.specs.Layouts.{measures_of}
use Rattle.microdata.specs.Microdata.{records_of, closed_records}
use Rattle.microdata.specs.OneRecord.{lines_say, no_records}
use Rattle.microdata.specs.Leaves.{AreLeaves, RowsAreAtLeaves}
use Rattle.microdata.specs.declared.closing.ClosedVariable.{ClosedVariable}
use Rattle.microdata.specs.declared.faults.RowWhy.{RowWhy}
use Rattle.microdata.specs.declared.faults.RowWhy.TheVariants.{NotLeaf}
use Rattle.microdata.specs.KeptRows.{KeptRow}
use Rattle.microdata.specs.declared.record.Variable.{Variable}
use Rattle.microdata.specs.declared.records.Records.{Records}
use Rattle.microdata.proofs.Kept.{value_of_ok, Fit, IsKept, lines-good, same-value}
use Rattle.microdata.proofs.Within.{fields-first}

child-test : (tree : Tree) (above n : ℕ) (node : List ℕ × Option ℕ) → slice_get tree n ≡ Some node → is_child tree above n ≡ is_place above node.1
child-test tree above n node at = rw at (by node.1)
  where
    by : (up : Option ℕ) → option_map_or (λ parent. parent == above) up false ≡ is_place above up
    by None = refl
    by (Some parent) = refl

none-from : (tree : Tree) (above n m : ℕ) → n + m ≡ length tree → child_from n above (drop n tree) ≡ None → filter (is_child tree above) (range_with_len n m) ≡ []
none-from tree above n zero whole none = refl
none-from tree above n (suc m) whole none =
    let node : List ℕ × Option ℕ = get_or tree n ([], None) in
    let at : slice_get tree n ≡ Some node = slice_get-get_or tree n ([], None) (omega (arith, whole)) in
    let opened : child_from n above (drop n tree) ≡ cond (is_place above node.1) (Some n) (child_from (n + 1) above (drop (n + 1) tree)) = ap (child_from n above) (drop-at tree n node at) in
    by (is_place above node.1) (child-test tree above n node at) (sym opened ∙ none) (none-from tree above (n + 1) m (omega (arith, whole)))
  where
    by : (b : Bool) → is_child tree above n ≡ b → cond b (Some n) (child_from (n + 1) above (drop (n + 1) tree)) ≡ None
        → (child_from (n + 1) above (drop (n + 1) tree) ≡ None → filter (is_child tree above) (range_with_len (n + 1) m) ≡ [])
        → filter (is_child tree above) (n ∷ range_with_len (n + 1) m) ≡ []
    by true test none rest = absurd cc
    by false test none rest = rw test (rest none)

no-children : (tree : Tree) (above : ℕ) → first_child tree above ≡ None → children tree above ≡ []
no-children tree above none = none-from tree above 0 (length tree) (omega arith) none

abbrev trees_in : List ClosedVariable → List Tree
trees_in closed = map (λ one. one.tree) closed

leaf-lowest : (closed : ClosedVariable) (number place : ℕ) → leaf_of closed number ≡ Ok place → children closed.tree place ≡ []
leaf-lowest closed number place h = by (first_child closed.tree (tree_place closed number)) refl h
  where
    by : (o : Option ℕ) → first_child closed.tree (tree_place closed number) ≡ o → cond {A = Result ℕ RowWhy} (is_some o) (Err NotLeaf) (Ok (tree_place closed number)) ≡ Ok place → children closed.tree place ≡ []
    by (Some child) is e = cc
    by None is e = subst (λ p. children closed.tree p ≡ []) (value_of_ok _ place e) (no-children closed.tree (tree_place closed number) is)

leaves-lowest : (variables : List Variable) (numbers places : List ℕ) → Fit variables numbers → leaves_of (map closed_of variables) numbers ≡ Ok places → AreLeaves (trees_in (map closed_of variables)) places
unfolding leaves_of
leaves-lowest [] [] places fit h = subst (AreLeaves []) (value_of_ok _ places h) tt
leaves-lowest [] (number ∷ numbers) places fit h = absurd fit
leaves-lowest (variable ∷ variables) [] places fit h = absurd fit
leaves-lowest (variable ∷ variables) (number ∷ numbers) places fit h =
    let a = bind_ok (leaf_of (closed_of variable) number) _ places h in
    let b = bind_ok (leaves_of (map closed_of variables) numbers) _ places a.2 in
    subst (AreLeaves (trees_in (map closed_of (variable ∷ variables)))) (value_of_ok _ places b.2) (leaf-lowest (closed_of variable) number a.0 a.1, leaves-lowest variables numbers b.0 fit.1 b.1)

row-lowest : (variables : List Variable) (kept : KeptRow) (row : Row) → Fit variables kept.places → row_of (map closed_of variables) kept ≡ Ok row → AreLeaves (trees_in (map closed_of variables)) row.codes
unfolding row_of
row-lowest variables kept row fit h =
    let a = bind_ok (leaves_of (map closed_of variables) kept.places) _ row h in
    subst (λ (row : Row). AreLeaves (trees_in (map closed_of variables)) row.codes) (value_of_ok _ row a.2) (leaves-lowest variables kept.places a.0 fit a.1)

rows-lowest : (scale : ℕ) (variables : List Variable) (kept : List KeptRow) (rows : List Row) → AllByRecursion (IsKept scale variables) kept → rows_of (map closed_of variables) kept ≡ Ok rows
    → AllByRecursion (λ row. AreLeaves (trees_in (map closed_of variables)) row.codes) rows
unfolding rows_of
rows-lowest scale variables [] rows good h = subst (λ (rows : List Row). AllByRecursion (λ row. AreLeaves (trees_in (map closed_of variables)) row.codes) rows) (value_of_ok _ rows h) tt
rows-lowest scale variables (one ∷ kept) rows good h =
    let a = bind_ok _ _ rows h in
    let b = bind_ok (rows_of (map closed_of variables) kept) _ rows a.2 in
    let here = row-lowest variables one a.0 good.0.places (same-value one.number (row_of (map closed_of variables) one) a.0 a.1) in
    let rest = rows-lowest scale variables kept b.0 good.1 b.1 in
    subst (λ (rows : List Row). AllByRecursion (λ row. AreLeaves (trees_in (map closed_of variables)) row.codes) rows) (value_of_ok _ rows b.2) (here, rest)

pub rows_are_at_leaves : RowsAreAtLeaves
unfolding records_of closed_records
rows_are_at_leaves layout bytes records h =
    let a = bind_ok (lines_say (measures_of layout) (no_records layout) (lines bytes)) _ records h in
    let b = bind_ok (rows_of (map closed_of a.0.variables) a.0.rows) _ records a.2 in
    let good = lines-good (measures_of layout) layout.spanning (no_records layout) a.0 (lines bytes) (record { fields = fields-first layout.spanning; rows = tt; few = omega arith; records = omega arith }) a.1 in
    subst (λ (records : Records). AllByRecursion (λ row. AreLeaves records.trees row.codes) records.rows) (value_of_ok _ records b.2) (rows-lowest (scale_of layout.weight) a.0.variables a.0.rows b.0 good.rows b.1)
