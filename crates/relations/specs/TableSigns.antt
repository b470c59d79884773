-- Which tables have signs: those of one variable, and those of two variables that they take to depth 1 (network flows;
-- own).
use Rattle.std.specs.Prelude.{◌≡◌, ℕ, Bool, true, List, [], ◌∷◌, Some}
use Rattle.sdc_base.specs.Trees.{Tree, parent_at}
use Rattle.sdc_base.specs.CutTrees.{CutTree, is_within}
use Rattle.sdc_base.specs.Cells.{cut_tree}
use Rattle.sdc_base.specs.Signs.{AreSigns}
use Rattle.sdc_base.specs.declared.dimension.Dimension.{Dimension}
use Rattle.sdc_base.specs.declared.relation.Relation.{Relation}
use Rattle.sdc_base.specs.declared.system.System.{System}
use Rattle.linked_tables.specs.BookViews.{BookView}
use Rattle.linked_tables.specs.BookCells.{IsBook}
use Rattle.relations.specs.Holding.{IsSystemOf}

-- no code of the cut tree is deeper than the codes right below the total. Not: none of the whole tree is.
abbrev pub IsFlat : CutTree → Type 0
IsFlat cut = (code above : ℕ) → is_within cut code ≡ true → parent_at cut.tree code ≡ Some above → above ≡ 0

-- there are signs for the relations
abbrev pub HaveSigns : List Relation → Type 0
HaveSigns relations = (signs : List Bool) × AreSigns relations signs

-- the relations of one table of one variable have signs, whatever its tree and its depth
abbrev pub OneVariableHasSigns : Type 0
OneVariableHasSigns =
    (book : BookView) (dimension : Dimension) (system : System) → IsBook book → book.tables ≡ (dimension ∷ []) ∷ []
    → IsSystemOf book system → HaveSigns system.relations

-- the relations of one table of two variables have signs where it has flat trees of both
abbrev pub TwoFlatVariablesHaveSigns : Type 0
TwoFlatVariablesHaveSigns =
    (book : BookView) (one other : Dimension) (system : System) → IsBook book → book.tables ≡ (one ∷ other ∷ []) ∷ []
    → IsFlat (cut_tree book.trees one) → IsFlat (cut_tree book.trees other) → IsSystemOf book system
    → HaveSigns system.relations

-- The tables are one table of one variable, or of two whose trees are flat down to the table's depths. Not: of two of
-- which the table has codes below others.
abbrev pub IsOneOrTwoWay : List Tree → List (List Dimension) → Type 0
IsOneOrTwoWay trees ((dimension ∷ []) ∷ []) = Unit {0}
IsOneOrTwoWay trees ((one ∷ other ∷ []) ∷ []) = IsFlat (cut_tree trees one) × IsFlat (cut_tree trees other)
IsOneOrTwoWay trees tables = ⊥

-- the relations of such tables have signs
abbrev pub OneOrTwoWayHasSigns : Type 0
OneOrTwoWayHasSigns =
    (book : BookView) (system : System) → IsOneOrTwoWay book.trees book.tables → IsBook book
    → IsSystemOf book system → HaveSigns system.relations
