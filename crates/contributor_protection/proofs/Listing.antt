-- Cells that are hidden in the larger set alone, listed one by one.
use Rattle.std.proofs.Common.{◌≡◌, ℕ, ◌+◌, ◌-◌, ◌<◌, Bool, List, [], ◌∷◌, ◌++◌, filter, if◌then◌else◌, ap, sym, ◌∙◌}
use Rattle.std.specs.List.{range_with_len}
use Rattle.sdc_base.proofs.GrowingLists.{filter-front, range-next}
use Rattle.attackers.specs.Dropping.{cells_beside, is_beside}

-- one cell more
pub beside-next : (first larger : List Bool) (count : ℕ) (found : List ℕ) (cell : ℕ) → cell < count → found ++ filter (is_beside first larger) (range_with_len cell (count - cell)) ≡ cells_beside first larger count
    → (if is_beside first larger cell then found ++ cell ∷ [] else found) ++ filter (is_beside first larger) (range_with_len (cell + 1) (count - (cell + 1))) ≡ cells_beside first larger count
beside-next first larger count found cell within is =
    filter-front (is_beside first larger) found cell (range_with_len (cell + 1) (count - (cell + 1)))
    ∙ ap (λ numbers. found ++ filter (is_beside first larger) numbers) (sym (range-next cell count within))
    ∙ is
