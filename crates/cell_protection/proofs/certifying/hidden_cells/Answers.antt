use Rattle.std.proofs.Common.{◌++◌, List, ℕ, ◌+◌, ◌-◌, filter, ap, ◌∙◌}
use Rattle.std.specs.List.{range_with_len}
use Rattle.sdc_base.specs.HiddenSets.{is_hidden}
use Rattle.cell_protection.proofs.CertificateLists.{numbers-next}
use Rattle.cell_protection.proofs.certifying.hidden_cells.Goals as goal

pub cells-preserved : goal.cells-preserved
cells-preserved c =
    let flags = c.args.flags.now in
    let rest = filter (is_hidden flags) (range_with_len (c.cells.cell + 1) (c.args.count - (c.cells.cell + 1))) in
    record { found = ap (λ (numbers : List ℕ). numbers ++ rest) c.in_ok-add_hidden.ensures ∙ numbers-next flags c.args.count c.cells.numbers c.cells.cell c.cells-test.true c.cells.invariant.found }
