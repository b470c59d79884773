use Rattle.std.proofs.Common.{◌≡◌, ℕ, List, Err, Result, true, ap, sym, subst, ◌∙◌, arith}
use Rattle.sdc_base.specs.Answers.{Gives}
use Rattle.plain_text.specs.Stops.{why_of}
use Rattle.cell_listing.specs.IntervalFiles.{file_read, has_heading, ranges_read}
use Rattle.cell_listing.specs.declared.cell_range.CellRange.{CellRange}
use Rattle.cell_listing.proofs.IntervalFileLaws.{given_good, given_none, headed, none_of, short_by_place, unheaded}
use Rattle.cell_listing.proofs.interval_file.read_ranges.Goals as goal

pub returns-then-not-has_heading-clause-none : goal.returns-then-not-has_heading-clause-none
returns-then-not-has_heading-clause-none c = λ line is.
    let same : 1 ≡ line = cc in
    none_of c.args.hidden.now c.args.bytes.now line (short_by_place c.args.hidden.now (λ i. omega (arith, c.type_inv.hidden i)))
    (unheaded c.args.hidden.now c.args.bytes.now (sym c.has_heading.ensures ∙ c.if-not-has_heading.true) ∙ ap (λ (n : ℕ). Err n) same)

pub returns-clause-ranges : goal.returns-clause-ranges
returns-clause-ranges c =
    let hidden : List ℕ = c.args.hidden.now in
    let text : List ℕ = c.args.bytes.now in
    let good : has_heading text ≡ true = sym c.has_heading.ensures ∙ c.if-not-has_heading.false in
    let all : ranges_read hidden c.cut_at.result.1.now 2 ≡ file_read hidden text = ap (λ (rest : List ℕ). ranges_read hidden rest 2) c.cut_at.ensures.rest ∙ sym (headed hidden text good) in
    given_good hidden text c.ranges_in.result (subst (λ (read : Result (List CellRange) ℕ). Gives why_of (λ ranges. ranges) c.ranges_in.result read) all c.ranges_in.ensures)

pub returns-clause-none : goal.returns-clause-none
returns-clause-none c = λ line is.
    let hidden : List ℕ = c.args.hidden.now in
    let text : List ℕ = c.args.bytes.now in
    let good : has_heading text ≡ true = sym c.has_heading.ensures ∙ c.if-not-has_heading.false in
    let all : ranges_read hidden c.cut_at.result.1.now 2 ≡ file_read hidden text = ap (λ (rest : List ℕ). ranges_read hidden rest 2) c.cut_at.ensures.rest ∙ sym (headed hidden text good) in
    given_none hidden text c.ranges_in.result line (short_by_place hidden (λ i. omega (arith, c.type_inv.hidden i)))
    (subst (λ (read : Result (List CellRange) ℕ). Gives why_of (λ ranges. ranges) c.ranges_in.result read) all c.ranges_in.ensures) is
