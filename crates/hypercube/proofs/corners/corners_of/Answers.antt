use Rattle.std.proofs.Common.{ℕ, [], true, List, fold, drop, length, ap, ◌∙◌}
use Rattle.sdc_base.specs.Cubes.{with_corner}
use Rattle.sdc_base.specs.declared.cube.Corner.{Corner}
use Rattle.linked_tables.specs.BookCells.{cell_at}
use Rattle.hypercube.specs.Branches.{number_with_codes, corners_beyond}
use Rattle.hypercube.proofs.CornerLists.{beyond-all}
use Rattle.hypercube.proofs.corners.corners_of.Goals as goal

pub returns : goal.returns
returns c =
    let number = number_with_codes (cell_at c.args.book.now c.args.t) c.args.codes.now in
    c.new.ensures
    ∙ c.in_ok-add_corners.ensures
    ∙ ap (λ (corners : List Corner). fold with_corner corners (corners_beyond number c.empty.result true (drop (length c.empty.result) c.args.edges.now))) c.new-corners.ensures.items
    ∙ ap (λ (place : List ℕ). fold with_corner [] (corners_beyond number place true (drop (length place) c.args.edges.now))) c.empty.ensures
    ∙ ap (fold with_corner []) (beyond-all number c.args.edges.now)
