-- The records that were read are at the lowest level of each tree (tau-ARGUS user manual, hierarchies; the law own).
use Rattle.std.specs.Prelude.{◌≡◌, ℕ, List, [], ◌∷◌, Ok}
use Rattle.std.specs.List.{AllByRecursion}
use Rattle.sdc_base.specs.Trees.{Tree, children}
use Rattle.microdata.specs.Microdata.{records_of}
use Rattle.microdata.specs.declared.layout.Layout.{Layout}
use Rattle.microdata.specs.declared.records.Records.{Records}

-- One place for each tree, and no other code of the tree stands below it. Not: a place above that of another record.
abbrev pub AreLeaves : List Tree → List ℕ → Type 0
AreLeaves [] [] = Unit {0}
AreLeaves (tree ∷ trees) (place ∷ places) = (children tree place ≡ []) × AreLeaves trees places
AreLeaves [] (place ∷ places) = ⊥
AreLeaves (tree ∷ trees) [] = ⊥

-- the places of each row that was read have no other codes below them
abbrev pub RowsAreAtLeaves : Type 0
RowsAreAtLeaves =
    (layout : Layout) (bytes : List ℕ) (records : Records) → records_of layout bytes ≡ Ok records
    → AllByRecursion (λ row. AreLeaves records.trees row.codes) records.rows
