use Rattle.std.proofs.Common.{List, ℕ, Ok, ap, ap₂, decimal, sym, ◌∙◌}
use Rattle.cell_listing.proofs.IntervalLines.{refused, taken}
use Rattle.cell_listing.proofs.interval_file.range_in.Goals as goal

pub returns-then-not-is_range : goal.returns-then-not-is_range
returns-then-not-is_range c =
    refused c.args.number c.args.cell c.args.line.now c.cut_at.result.0.now c.cut_at.result.1.now c.cut_at-2.result.0.now c.cut_at-2.result.1.now c.as_slice.result.now
    c.cut_at.ensures.front c.cut_at.ensures.rest c.cut_at-2.ensures.front c.cut_at-2.ensures.rest (c.as_slice.ensures ∙ c.in_ok-own.ensures ∙ ap decimal c.from.ensures) (sym c.is_range.ensures ∙ c.if-not-is_range.true)

pub returns : goal.returns
returns c =
    taken c.args.number c.args.cell c.args.line.now c.cut_at.result.0.now c.cut_at.result.1.now c.cut_at-2.result.0.now c.cut_at-2.result.1.now c.as_slice.result.now
    c.cut_at.ensures.front c.cut_at.ensures.rest c.cut_at-2.ensures.front c.cut_at-2.ensures.rest (c.as_slice.ensures ∙ c.in_ok-own.ensures ∙ ap decimal c.from.ensures) (sym c.is_range.ensures ∙ c.if-not-is_range.false)
    ∙ ap₂ (λ (low high : List ℕ). Ok (record { cell = c.args.cell; low = low; high = high })) (sym c.in_ok-from_slice.ensures) (sym c.in_ok-from_slice-2.ensures)
