use Rattle.std.proofs.Common.{◌≡◌, ℕ, List, filter, length, ap, ◌∙◌}
use Rattle.std.specs.List.{range_with_len}
use Rattle.std.proofs.lemmas.Result.{IfOk-weaker}
use Rattle.linked_tables.specs.BookCells.{cells as cells_in}
use Rattle.cell_listing.specs.Flags.{is_flagged}
use Rattle.cell_listing.specs.IntervalFiles.{hidden_numbers}
use Rattle.cell_listing.proofs.HiddenNumbers.{numbers_are}
use Rattle.cell_listing.proofs.interval_reading.hidden_of.Goals as goal

pub returns : goal.returns
returns c =
    let read = c.args.read.now in
    let size : ℕ = length (cells_in read.job.book) in
    let flags = c.in_ok-flags.flags in
    IfOk-weaker c.hidden_numbers.result (λ (numbers : List ℕ). numbers ≡ filter (is_flagged flags) (range_with_len 0 c.cells-count.result)) (λ (numbers : List ℕ). numbers ≡ hidden_numbers read.certificate read.extra size)
    (λ numbers is. is ∙ numbers_are read.certificate read.extra c.cells-count.result flags c.in_ok-flags.ensures ∙ ap (λ (n : ℕ). hidden_numbers read.certificate read.extra n) c.cells-count.ensures.cells)
    c.hidden_numbers.ensures
