-- The edges from a cell's codes, one after another.
use Rattle.std.proofs.Common.{◌≡◌, ℕ, ◌+◌, ◌<◌, ◌≤◌, ◌==◌, ◌&&◌, true, false, not, cond, if◌then◌else◌, List, [], ◌∷◌, ◌++◌, length, map, filter, drop, get_or, slice_index, refl, ap, ◌∙◌, append_assoc}
use Rattle.std.specs.List.{list_all}
use Rattle.std.proofs.lemmas.Bool.Decides.{Decides-eqb}
use Rattle.std.proofs.lemmas.List.{drop_all, drop_more}
use Rattle.sdc_base.specs.Trees.{Tree}
use Rattle.sdc_base.specs.Records.{Name}
use Rattle.sdc_base.specs.Cells.{cut_tree}
use Rattle.sdc_base.specs.Cubes.{codes_in, edge_to, edges_at, edges_from, edges_to}
use Rattle.sdc_base.specs.declared.cube.Edge.{Edge}
use Rattle.sdc_base.specs.declared.dimension.Dimension.{Dimension}
use Rattle.hypercube.specs.Branches.{begin_at, codes_at}

-- a dimension for what stands behind the last one
abbrev pub no_dimension : Dimension
no_dimension = record { variable = 0; depth = 0 }

-- one code on
pub edges-next : (parent code other : ℕ) (others : List ℕ) (done : List Edge)
    → (if not (other == code) then done ++ edge_to parent code other ∷ [] else done) ++ edges_to parent code others ≡ done ++ edges_to parent code (other ∷ others)
edges-next parent code other others done =
    elim (not (other == code)) as (λ b. (if b then done ++ edge_to parent code other ∷ [] else done) ++ edges_to parent code others ≡ done ++ map (edge_to parent code) (cond b (other ∷ filter (λ one. not (one == code)) others) (filter (λ one. not (one == code)) others))) [
      | true ↦ append_assoc done (edge_to parent code other ∷ []) (edges_to parent code others)
      | false ↦ refl
    ]

-- one variable on
pub edges_at-next : (trees : List Tree) (name : Name) (table : List Dimension) (parents : List ℕ) (k : ℕ) (d : Dimension) (e : ℕ) → k < length table → k < length parents
    → edges_at trees name (drop k table) (drop k parents) ≡ edges_from (cut_tree trees (get_or table k d)) (get_or parents k e) (slice_index name (get_or table k d).variable) ∷ edges_at trees name (drop (k + 1) table) (drop (k + 1) parents)
edges_at-next trees name table parents k d e inside within =
    ap (λ t. edges_at trees name t (drop k parents)) (drop_more table k d inside) ∙ ap (edges_at trees name (get_or table k d ∷ drop (k + 1) table)) (drop_more parents k e within)

none-left : (trees : List Tree) (name : Name) (table : List Dimension) → edges_at trees name table [] ≡ []
none-left trees name [] = refl
none-left trees name (dimension ∷ table) = refl

-- behind the last parent, and behind the last variable
pub edges_at-short : (trees : List Tree) (name : Name) (table : List Dimension) (parents : List ℕ) (k : ℕ) → length parents ≤ k → edges_at trees name (drop k table) (drop k parents) ≡ []
edges_at-short trees name table parents k past = ap (edges_at trees name (drop k table)) (drop_all k parents past) ∙ none-left trees name (drop k table)

pub edges_at-end : (trees : List Tree) (name : Name) (table : List Dimension) (parents : List ℕ) (k : ℕ) → length table ≤ k → edges_at trees name (drop k table) (drop k parents) ≡ []
edges_at-end trees name table parents k past = ap (λ t. edges_at trees name t (drop k parents)) (drop_all k table past)

-- the same of the codes
pub codes_at-next : (name : Name) (table : List Dimension) (parents : List ℕ) (k : ℕ) (d : Dimension) (e : ℕ) → k < length table → k < length parents
    → codes_at name (drop k table) (drop k parents) ≡ slice_index name (get_or table k d).variable ∷ codes_at name (drop (k + 1) table) (drop (k + 1) parents)
codes_at-next name table parents k d e inside within =
    ap (λ t. codes_at name t (drop k parents)) (drop_more table k d inside) ∙ ap (codes_at name (get_or table k d ∷ drop (k + 1) table)) (drop_more parents k e within)

no-code_left : (name : Name) (table : List Dimension) → codes_at name table [] ≡ []
no-code_left name [] = refl
no-code_left name (dimension ∷ table) = refl

pub codes_at-short : (name : Name) (table : List Dimension) (parents : List ℕ) (k : ℕ) → length parents ≤ k → codes_at name (drop k table) (drop k parents) ≡ []
codes_at-short name table parents k past = ap (codes_at name (drop k table)) (drop_all k parents past) ∙ no-code_left name (drop k table)

pub codes_at-end : (name : Name) (table : List Dimension) (parents : List ℕ) (k : ℕ) → length table ≤ k → codes_at name (drop k table) (drop k parents) ≡ []
codes_at-end name table parents k past = ap (λ t. codes_at name t (drop k parents)) (drop_all k table past)

-- the edges begin at the codes
from-code : (parent code : ℕ) (others : List ℕ) → list_all (λ edge. edge.code == code) (edges_to parent code others) ≡ true
from-code parent code [] = refl
from-code parent code (other ∷ others) =
    elim (not (other == code)) as (λ b. list_all (λ edge. edge.code == code) (map (edge_to parent code) (cond b (other ∷ filter (λ one. not (one == code)) others) (filter (λ one. not (one == code)) others))) ≡ true) [
      | true ↦ ap (λ b. b && list_all (λ edge. edge.code == code) (edges_to parent code others)) ((Decides-eqb code code).1 refl) ∙ from-code parent code others
      | false ↦ from-code parent code others
    ]

pub edges-begin : (trees : List Tree) (name : Name) (table : List Dimension) (parents : List ℕ) → begin_at (codes_at name table parents) (edges_at trees name table parents) ≡ true
edges-begin trees name [] parents = refl
edges-begin trees name (dimension ∷ table) [] = refl
edges-begin trees name (dimension ∷ table) (parent ∷ parents) =
    let tree = cut_tree trees dimension in
    ap (λ b. b && begin_at (codes_at name table parents) (edges_at trees name table parents)) (from-code parent (slice_index name dimension.variable) (codes_in tree parent)) ∙ edges-begin trees name table parents
