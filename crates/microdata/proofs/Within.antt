-- What is read is within its limits.
use Rattle.std.proofs.Common.{◌≡◌, ℕ, zero, suc, ◌<◌, Bool, true, false, cond, List, [], ◌∷◌, ◌++◌, length, map, slice_index_or, Option, None, Some, is_some, Result, Ok, Err, refl, ap, ◌∙◌, subst, arith, ◌⊎◌, inl, inr}
use Rattle.std.specs.List.{AllByRecursion}
use Rattle.std.specs.Option.{unwrap_or}
use Rattle.sdc_base.specs.Lines.{lines}
use Rattle.sdc_base.proofs.StepLemmas.{bind_ok}
use Rattle.sdc_base.specs.Trees.{Tree, find}
use Rattle.sdc_base.specs.declared.rows.Row.{Row}
use Rattle.code_trees.specs.Children.{first_child}
use Rattle.code_trees.specs.Levels.{boundaries, code_above, tree_of_codes}
use Rattle.microdata.specs.Closing.{tree_of, places_in, closed_of, tree_place, leaf_of, leaves_of, row_of, rows_of}
use Rattle.microdata.specs.Fields.{scale_of}
use Rattle.microdata.specs.Layouts.{measures_of}
use Rattle.microdata.specs.Microdata.{records_of, closed_records}
use Rattle.microdata.specs.OneRecord.{lines_say, no_records}
use Rattle.microdata.specs.SeenCodes.{seen_first}
use Rattle.microdata.specs.Ranges.{AreInTrees, IsRow, AreWithinLimits, ReadIsWithinLimits}
use Rattle.microdata.specs.declared.closing.ClosedVariable.{ClosedVariable}
use Rattle.microdata.specs.declared.faults.RowWhy.{RowWhy}
use Rattle.microdata.specs.declared.faults.RowWhy.TheVariants.{NotLeaf}
use Rattle.microdata.specs.declared.layout.Field.{Field}
use Rattle.microdata.specs.declared.layout.Source.{Source}
use Rattle.microdata.specs.declared.layout.Source.TheVariants as source
use Rattle.microdata.specs.KeptRows.{KeptRow}
use Rattle.microdata.specs.declared.record.Variable.{Variable}
use Rattle.microdata.specs.declared.taking.Seen.{Seen}
use Rattle.microdata.proofs.Kept.{value_of_ok, find-within, bound, bound_of, Fit, IsKept, lines-good, same-value}

found-or-first : (tree : Tree) (code : List ℕ) → 0 < length tree → unwrap_or (find tree code) 0 < length tree
found-or-first tree code some = by (find tree code) refl
  where
    by : (o : Option ℕ) → find tree code ≡ o → unwrap_or o 0 < length tree
    by None is = some
    by (Some place) is = find-within tree code place is

in-table : (tree : Tree) (codes : List (List ℕ)) (number other : ℕ) → 0 < length tree → (other < length tree) ⊎ (number < length codes) → slice_index_or (places_in tree codes) number other < length tree
in-table tree [] number other some h = elim h [ inl here ↦ here | inr none ↦ absurd (omega arith) ]
in-table tree (code ∷ codes) zero other some h = found-or-first tree code some
in-table tree (code ∷ codes) (suc number) other some h = in-table tree codes number other some (elim h [ inl here ↦ inl here | inr short ↦ inr (omega arith) ])

longer : (total bounds : List ℕ) (codes : List (List ℕ)) (tree : Tree) → 0 < length tree → 0 < length (tree_of_codes total bounds tree codes)
longer total bounds [] tree some = some
longer total bounds (code ∷ codes) [] some = absurd (omega arith)
longer total bounds (code ∷ codes) (node ∷ tree) some = longer total bounds codes ((node ∷ tree) ++ (code, find (node ∷ tree) (code_above total bounds code)) ∷ []) (omega arith)

placed : (s : Source) (seen : Seen) (number : ℕ) → number < bound s seen → slice_index_or (places_in (tree_of s seen) seen.codes) number number < length (tree_of s seen)
placed (source.Listed tree) seen number h = in-table tree seen.codes number number (omega (arith, h)) (inl h)
placed (source.Levels widths total) seen number h = in-table (tree_of (source.Levels widths total) seen) seen.codes number number (longer total (boundaries 0 widths) seen.nodes ((total, None) ∷ []) (omega arith)) (inr h)
placed (source.Flat codes total) seen number h = in-table (tree_of (source.Flat codes total) seen) seen.codes number number (omega arith) (inr h)

abbrev trees_in : List ClosedVariable → List Tree
trees_in closed = map (λ one. one.tree) closed

leaf-in : (variable : Variable) (number place : ℕ) → number < bound_of variable → leaf_of (closed_of variable) number ≡ Ok place → place < length (closed_of variable).tree
leaf-in variable number place within h = by (is_some (first_child (closed_of variable).tree (tree_place (closed_of variable) number))) h
  where
    by : (b : Bool) → cond {A = Result ℕ RowWhy} b (Err NotLeaf) (Ok (tree_place (closed_of variable) number)) ≡ Ok place → place < length (closed_of variable).tree
    by true e = cc
    by false e = subst (λ p. p < length (closed_of variable).tree) (value_of_ok _ place e) (placed variable.field.source variable.seen number within)

leaves-in : (variables : List Variable) (numbers places : List ℕ) → Fit variables numbers → leaves_of (map closed_of variables) numbers ≡ Ok places → AreInTrees (trees_in (map closed_of variables)) places
unfolding leaves_of
leaves-in [] [] places fit h = subst (AreInTrees []) (value_of_ok _ places h) tt
leaves-in [] (number ∷ numbers) places fit h = absurd fit
leaves-in (variable ∷ variables) [] places fit h = absurd fit
leaves-in (variable ∷ variables) (number ∷ numbers) places fit h =
    let a = bind_ok (leaf_of (closed_of variable) number) _ places h in
    let b = bind_ok (leaves_of (map closed_of variables) numbers) _ places a.2 in
    subst (AreInTrees (trees_in (map closed_of (variable ∷ variables)))) (value_of_ok _ places b.2) (leaf-in variable number a.0 fit.0 a.1, leaves-in variables numbers b.0 fit.1 b.1)

row-in : (scale : ℕ) (variables : List Variable) (kept : KeptRow) (row : Row) → IsKept scale variables kept → row_of (map closed_of variables) kept ≡ Ok row → IsRow scale (trees_in (map closed_of variables)) row
unfolding row_of
row-in scale variables kept row good h =
    let a = bind_ok (leaves_of (map closed_of variables) kept.places) _ row h in
    subst (IsRow scale (trees_in (map closed_of variables))) (value_of_ok _ row a.2)
    (record { places = leaves-in variables kept.places a.0 good.places a.1; from_zero = good.from_zero; below = good.below; heavy = good.heavy; light = good.light })

rows-in : (scale : ℕ) (variables : List Variable) (kept : List KeptRow) (rows : List Row) → AllByRecursion (IsKept scale variables) kept → rows_of (map closed_of variables) kept ≡ Ok rows
    → AllByRecursion (IsRow scale (trees_in (map closed_of variables))) rows × (length rows ≡ length kept)
unfolding rows_of
rows-in scale variables [] rows good h = subst (λ (rows : List Row). AllByRecursion (IsRow scale (trees_in (map closed_of variables))) rows × (length rows ≡ 0)) (value_of_ok _ rows h) (tt, refl)
rows-in scale variables (one ∷ kept) rows good h =
    let a = bind_ok _ _ rows h in
    let b = bind_ok (rows_of (map closed_of variables) kept) _ rows a.2 in
    let here = row-in scale variables one a.0 good.0 (same-value one.number (row_of (map closed_of variables) one) a.0 a.1) in
    let rest = rows-in scale variables kept b.0 good.1 b.1 in
    subst (λ (rows : List Row). AllByRecursion (IsRow scale (trees_in (map closed_of variables))) rows × (length rows ≡ suc (length kept))) (value_of_ok _ rows b.2) ((here, rest.0), ap suc rest.1)

as-many-trees : (variables : List Variable) → length (trees_in (map closed_of variables)) ≡ length (map (λ variable. variable.field) variables)
as-many-trees [] = refl
as-many-trees (variable ∷ variables) = ap suc (as-many-trees variables)

pub fields-first : (fields : List Field) → map (λ (variable : Variable). variable.field) (map (λ field. record { field = field; seen = seen_first field.source }) fields) ≡ fields
fields-first [] = refl
fields-first (field ∷ fields) = ap (λ rest. field ∷ rest) (fields-first fields)

pub within_limits : ReadIsWithinLimits
unfolding records_of closed_records
within_limits layout bytes records h =
    let a = bind_ok (lines_say (measures_of layout) (no_records layout) (lines bytes)) _ records h in
    let b = bind_ok (rows_of (map closed_of a.0.variables) a.0.rows) _ records a.2 in
    let good = lines-good (measures_of layout) layout.spanning (no_records layout) a.0 (lines bytes) (record { fields = fields-first layout.spanning; rows = tt; few = omega arith; records = omega arith }) a.1 in
    let rows = rows-in (scale_of layout.weight) a.0.variables a.0.rows b.0 good.rows b.1 in
    subst (AreWithinLimits layout) (value_of_ok _ records b.2) (record {
      trees = as-many-trees a.0.variables ∙ ap length good.fields;
      at_most_1000000 = omega (arith, rows.1, good.few, good.records);
      rows = rows.0;
    })
