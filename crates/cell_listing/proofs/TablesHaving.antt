-- The tables that have a cell, table after table.
use Rattle.std.proofs.Common.{◌≡◌, ℕ, ◌+◌, cond, true, false, if◌then◌else◌, decimal, List, [], ◌∷◌, ◌++◌, ap, append_assoc, append-nil}
use Rattle.sdc_base.specs.Trees.{Tree}
use Rattle.sdc_base.specs.declared.dimension.Dimension.{Dimension}
use Rattle.cell_listing.specs.Columns.{has_cell, having_from}

-- one table more
pub having_next : (trees : List Tree) (number : ℕ) (table : List Dimension) (tables : List (List Dimension)) (name : List ℕ) (words : List (List ℕ)) →
    (words ++ (if has_cell trees table name then decimal number ∷ [] else [])) ++ having_from trees (number + 1) tables name ≡ words ++ having_from trees number (table ∷ tables) name
having_next trees number table tables name words =
    elim (has_cell trees table name) as (λ has. (words ++ cond has (decimal number ∷ []) []) ++ having_from trees (number + 1) tables name ≡ words ++ cond has (decimal number ∷ having_from trees (number + 1) tables name) (having_from trees (number + 1) tables name)) [
      | true ↦ append_assoc words (decimal number ∷ []) (having_from trees (number + 1) tables name)
      | false ↦ ap (λ w. w ++ having_from trees (number + 1) tables name) (append-nil words)
    ]
