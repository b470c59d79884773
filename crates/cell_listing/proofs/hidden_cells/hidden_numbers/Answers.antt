use Rattle.std.proofs.Common.{◌++◌, Bool, List, ℕ, ◌+◌, ◌-◌, filter, ap, ◌∙◌}
use Rattle.std.specs.List.{range_with_len}
use Rattle.cell_listing.specs.Flags.{is_flagged}
use Rattle.cell_listing.proofs.HiddenNumbers.{next_number}
use Rattle.cell_listing.proofs.hidden_cells.hidden_numbers.Goals as goal

pub each-preserved : goal.each-preserved
each-preserved c =
    let test : ℕ → Bool = is_flagged c.args.cells.now in
    let count : ℕ = c.args.count in
    let number : ℕ = c.each.number in
    record {
      found = ap (λ (numbers : List ℕ). numbers ++ filter test (range_with_len (number + 1) (count - (number + 1)))) c.in_ok-add_hidden.ensures
          ∙ next_number test count number c.each.numbers (filter test (range_with_len 0 count)) c.each-test.true c.each.invariant.found;
    }
