-- The summed depth of a subtable's parents has a bound.
use Rattle.std.proofs.Common.{◌≡◌, ℕ, suc, ◌+◌, ◌*◌, ◌<◌, ◌≤◌, ◌==◌, nat_lt, true, false, not, cond, List, [], ◌∷◌, ◌++◌, length, map, slice_index_or, get_or, All, refl, ap, sym, ◌∙◌, subst, arith, append_assoc, length-append}
use Rattle.std.specs.List.{AllByRecursion, range_with_len}
use Rattle.std.proofs.lemmas.Bool.Decides.{nat_tests}
use Rattle.std.proofs.Math.Seq.{get_or-append_seam}
use Rattle.std.proofs.lemmas.List.{get_or_past}
use Rattle.sdc_base.specs.Trees.{IsCodeTree, Tree}
use Rattle.sdc_base.specs.CutTrees.{CutTree, children_within, depth_in}
use Rattle.sdc_base.specs.Cells.{cut_tree, trees_of}
use Rattle.sdc_base.specs.Cubes.{choices}
use Rattle.sdc_base.specs.Subtables.{depth_of, inner_among, inner_codes, most_depth, subtable_at, subtables_from, subtables_in, summed_depth}
use Rattle.sdc_base.specs.declared.dimension.Dimension.{Dimension}
use Rattle.sdc_base.proofs.CutTrees.{depth-nine}
use Rattle.hypercube.proofs.AllOf.{all-append, all-flat, all-map, all-more}
use Rattle.modular_plan.specs.DepthLaws.{NoDepthIsGreater}

among-shallow : (cut : CutTree) → IsCodeTree cut.tree → (codes : List ℕ) → AllByRecursion (λ code. depth_in cut.tree code ≤ 9) (inner_among cut codes)
among-shallow cut is [] = tt
among-shallow cut is (code ∷ codes) =
    elim (not (length (children_within cut code) == 0)) as (λ b. AllByRecursion (λ one. depth_in cut.tree one ≤ 9) (cond b (code ∷ inner_among cut codes) (inner_among cut codes))) [
      | true ↦ (depth-nine cut.tree is code, among-shallow cut is codes)
      | false ↦ among-shallow cut is codes
    ]

-- the codes of a variable that have children in a table
inner-shallow : (trees : List Tree) → All IsCodeTree trees → (dimension : Dimension) → AllByRecursion (λ code. depth_in (slice_index_or trees dimension.variable []) code ≤ 9) (inner_codes (cut_tree trees dimension))
inner-shallow trees each dimension =
    elim (nat_lt dimension.variable (length trees)) as (λ b. nat_lt dimension.variable (length trees) ≡ b → AllByRecursion (λ code. depth_in (slice_index_or trees dimension.variable []) code ≤ 9) (inner_codes (cut_tree trees dimension))) [
      | true ↦ λ is.
          let inside : dimension.variable < length trees = grind (arith, nat_tests, is) in
          let tree = slice_index_or trees dimension.variable [] in
          among-shallow (cut_tree trees dimension) (each dimension.variable [] inside) (range_with_len 0 (length tree))
      | false ↦ λ is.
          let past : length trees ≤ dimension.variable = grind (arith, nat_tests, is) in
          subst (λ (tree : Tree). AllByRecursion (λ code. depth_in tree code ≤ 9) (inner_codes (record { tree = tree; depth = dimension.depth }))) (sym (get_or_past trees dimension.variable [] past)) tt
    ] refl

-- the parents of a table's subtables
parents-shallow : (trees : List Tree) → All IsCodeTree trees → (table : List Dimension) → AllByRecursion (λ parents. summed_depth trees table parents ≤ 9 * length table) (choices (map inner_codes (trees_of trees table)))
parents-shallow trees each [] = (omega arith, tt)
parents-shallow trees each (dimension ∷ table) =
    let tree = slice_index_or trees dimension.variable [] in
    let cut = cut_tree trees dimension in
    let rest = choices (map inner_codes (trees_of trees table)) in
    all-flat (λ parents. summed_depth trees (dimension ∷ table) parents ≤ 9 * length (dimension ∷ table)) (λ one. map (λ others. one ∷ others) rest) (inner_codes cut)
    (all-more (λ code. depth_in tree code ≤ 9) (λ code. AllByRecursion (λ parents. summed_depth trees (dimension ∷ table) parents ≤ 9 * length (dimension ∷ table)) (map (λ others. code ∷ others) rest)) (inner_codes cut)
    (λ code here. all-map (λ parents. summed_depth trees (dimension ∷ table) parents ≤ 9 * length (dimension ∷ table)) (λ others. code ∷ others) rest
    (all-more (λ others. summed_depth trees table others ≤ 9 * length table) (λ others. summed_depth trees (dimension ∷ table) (code ∷ others) ≤ 9 * length (dimension ∷ table)) rest (λ others later. omega (arith, here, later)) (parents-shallow trees each table)))
    (inner-shallow trees each dimension))

-- and so the subtables of table after table
from-shallow : (trees : List Tree) → All IsCodeTree trees → (tables before rest : List (List Dimension)) → tables ≡ before ++ rest → AllByRecursion (λ table. length table ≤ 8) rest
    → AllByRecursion (λ subtable. depth_of trees tables subtable ≤ most_depth) (subtables_from trees (length before) rest)
from-shallow trees each tables before [] is few = tt
from-shallow trees each tables before (table ∷ rest) is (here, few) =
    let at : slice_index_or tables (length before) [] ≡ table = ap (λ all. get_or all (length before) []) is ∙ get_or-append_seam before table rest [] in
    let longer : length (before ++ table ∷ []) ≡ length before + 1 = length-append before (table ∷ []) in
    all-append (λ subtable. depth_of trees tables subtable ≤ most_depth) (subtables_in (length before) (trees_of trees table)) (subtables_from trees (length before + 1) rest)
    (all-map (λ subtable. depth_of trees tables subtable ≤ most_depth) (subtable_at (length before)) (choices (map inner_codes (trees_of trees table)))
    (all-more (λ parents. summed_depth trees table parents ≤ 9 * length table) (λ parents. summed_depth trees (slice_index_or tables (length before) []) parents ≤ most_depth) (choices (map inner_codes (trees_of trees table)))
    (λ parents small. subst (λ (one : List Dimension). summed_depth trees one parents ≤ most_depth) (sym at) (omega (arith, here, small)))
    (parents-shallow trees each table)))
    (subst (λ (t : ℕ). AllByRecursion (λ subtable. depth_of trees tables subtable ≤ most_depth) (subtables_from trees t rest)) longer
    (from-shallow trees each tables (before ++ table ∷ []) rest (is ∙ sym (append_assoc before (table ∷ []) rest)) few))

-- all by places is all one after another
by-recursion : (tables : List (List Dimension)) → All (λ table. length table ≤ 8) tables → AllByRecursion (λ table. length table ≤ 8) tables
by-recursion [] each = tt
by-recursion (table ∷ tables) each = (each 0 [] (omega arith), by-recursion tables (λ k d h. each (suc k) d (omega (arith, h))))

pub no_depth_is_greater : NoDepthIsGreater
no_depth_is_greater trees tables each few = from-shallow trees each tables [] tables refl (by-recursion tables few)
