use Rattle.std.proofs.Common.{◌++◌, List, ℕ, ◌+◌, ◌-◌, filter, ap, ◌∙◌}
use Rattle.std.specs.List.{range_with_len}
use Rattle.attackers.specs.Dropping.{is_beside}
use Rattle.contributor_protection.proofs.Listing.{beside-next}
use Rattle.contributor_protection.proofs.shown_again.list_beside.Goals as goal

pub cells-preserved : goal.cells-preserved
cells-preserved c =
    let first = c.args.first.now in
    let larger = c.args.larger.now in
    let rest = filter (is_beside first larger) (range_with_len (c.cells.cell + 1) (c.args.count - (c.cells.cell + 1))) in
    record { found = ap (λ (numbers : List ℕ). numbers ++ rest) c.in_ok-add_beside.ensures ∙ beside-next first larger c.args.count c.cells.found c.cells.cell c.cells-test.true c.cells.invariant.found }
