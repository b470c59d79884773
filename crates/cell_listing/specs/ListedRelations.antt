-- The relations between a job's cells as their listing has them, in the order of their numbers (own).
use Rattle.std.specs.Prelude.{◌≡◌, ℕ, List, [], ◌∷◌, ◌++◌, length, map, slice_index_or, Some, All}
use Rattle.std.specs.List.{range_with_len}
use Rattle.sdc_base.specs.Cells.{cells_of}
use Rattle.sdc_base.specs.Relations.{Sum, relation_for, relations_among}
use Rattle.sdc_base.specs.Trees.{Tree}
use Rattle.sdc_base.specs.declared.dimension.Dimension.{Dimension}
use Rattle.cell_listing.specs.declared.listed_relations.ListedRelation.{ListedRelation}

-- the total of a relation and its parts
abbrev pub total_and_parts : ListedRelation → Sum
total_and_parts relation = (relation.total, relation.parts)

-- the total and the parts are those of the total's relation for this variable
abbrev pub IsSumFor : List Tree → List (List Dimension) → Sum → ℕ → Type 0
IsSumFor trees tables sum variable =
    relation_for trees tables sum.0 (slice_index_or (cells_of trees tables) sum.0 []) variable ≡ Some sum

-- The relations are those between the cells of these tables, all of them and in their order, numbered from 0, and each
-- is that of its total for its variable.
pub record AreRelationsOf (trees : List Tree) (tables : List (List Dimension)) (relations : List ListedRelation)
    : Type 0 where
  pub sums : map total_and_parts relations ≡ relations_among trees tables
  pub numbers : map (λ relation. relation.number) relations ≡ range_with_len 0 (length relations)
  pub variables : All (λ relation. IsSumFor trees tables (total_and_parts relation) relation.variable) relations

-- one more relation is listed, under the next number and for its variable
pub record IsOneMore (trees : List Tree) (tables : List (List Dimension)) (sum : Sum) (old new : List ListedRelation)
    : Type 0 where
  pub variable : ℕ
  pub its : IsSumFor trees tables sum variable
  pub added : new
      ≡ old ++ record { number = length old; total = sum.0; variable = variable; parts = sum.1 } ∷ []
