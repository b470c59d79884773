use Rattle.std.proofs.Common.{◌≡◌, ◌∷◌, ◌+◌, ℕ, List, [], true, Result, drop, get_or, ap, ap₂, sym, subst, ◌∙◌, arith}
use Rattle.std.specs.List.{before_first, list_any}
use Rattle.std.proofs.lemmas.List.{drop_more, drop_all}
use Rattle.std.proofs.lemmas.Result.{err_from_is_err_and}
use Rattle.sdc_base.specs.Answers.{Fails}
use Rattle.sdc_base.specs.Steps.{or_fault}
use Rattle.plain_text.specs.Stops.{why_of}
use Rattle.sdc_base.specs.Lines.{is_line_feed}
use Rattle.cell_listing.specs.IntervalFiles.{range_in, ranges_read}
use Rattle.cell_listing.specs.declared.cell_range.CellRange.{CellRange}
use Rattle.cell_listing.proofs.IntervalLines.{above_zero, is_zero, line_next, line_open, line_stops, lines_left, lines_over, on_with}
use Rattle.cell_listing.proofs.interval_file.ranges_in.Goals as goal

pub cells-preserved : goal.cells-preserved
cells-preserved c =
    let hidden : List ℕ = c.args.hidden.now in
    let i : ℕ = c.cells.cell-index in
    let number : ℕ = c.cells.number in
    let text : List ℕ = c.cells.rest.now in
    let ended : list_any is_line_feed text ≡ true = sym c.has_line.ensures ∙ c.if-not-has_line.false in
    let said = ap (λ (line : List ℕ). or_fault number (range_in (get_or hidden i 0) line)) (sym c.cut_at.ensures.front) ∙ c.in_ok-range.ensures in
    record {
      number = omega (arith, c.cells.invariant.number);
      read =
          ap₂ (λ (done : List CellRange) (rest : List ℕ). on_with done (ranges_read (drop (i + 1) hidden) rest (number + 1))) c.in_ok-push.ensures.ok c.cut_at.ensures.rest
          ∙ line_next (get_or hidden i 0) number (drop (i + 1) hidden) text c.cells.ranges c.in_ok-range.range ended said
          ∙ ap (λ (cells : List ℕ). on_with c.cells.ranges (ranges_read cells text number)) (sym (drop_more hidden i 0 c.cells-test.true))
          ∙ c.cells.invariant.read;
    }

pub returns-then-not-has_line : goal.returns-then-not-has_line
returns-then-not-has_line c =
    let hidden : List ℕ = c.args.hidden.now in
    let i : ℕ = c.cells.cell-index in
    let number : ℕ = c.cells.number in
    let text : List ℕ = c.cells.rest.now in
    sym c.cells.invariant.read
    ∙ ap (λ (cells : List ℕ). on_with c.cells.ranges (ranges_read cells text number)) (drop_more hidden i 0 c.cells-test.true)
    ∙ line_open (get_or hidden i 0) number (drop (i + 1) hidden) text c.cells.ranges (sym c.has_line.ensures ∙ c.if-not-has_line.true)

pub returns-in_err-range : goal.returns-in_err-range
returns-in_err-range c =
    let p = err_from_is_err_and c.from_residual.result c.from_residual.ensures.1 in
    let e = c.in_err-range.field-0.0 in
    let hidden : List ℕ = c.args.hidden.now in
    let i : ℕ = c.cells.cell-index in
    let number : ℕ = c.cells.number in
    let text : List ℕ = c.cells.rest.now in
    let ended : list_any is_line_feed text ≡ true = sym c.has_line.ensures ∙ c.if-not-has_line.false in
    let said : Fails (why_of e) (or_fault number (range_in (get_or hidden i 0) (before_first is_line_feed text))) =
    subst (λ (line : List ℕ). Fails (why_of e) (or_fault number (range_in (get_or hidden i 0) line))) c.cut_at.ensures.front c.in_err-range.ensures in
    let all : on_with c.cells.ranges (ranges_read (get_or hidden i 0 ∷ drop (i + 1) hidden) text number) ≡ ranges_read hidden c.args.lines.now 2 =
    ap (λ (cells : List ℕ). on_with c.cells.ranges (ranges_read cells text number)) (sym (drop_more hidden i 0 c.cells-test.true)) ∙ c.cells.invariant.read in
    rw (p.1, p.2) (subst (λ (read : Result (List CellRange) ℕ). Fails (why_of e) read) all (line_stops (get_or hidden i 0) number (drop (i + 1) hidden) text c.cells.ranges e ended said))

pub returns-then-not-is_empty : goal.returns-then-not-is_empty
returns-then-not-is_empty c =
    let hidden : List ℕ = c.args.hidden.now in
    let i : ℕ = c.cells.cell-index in
    let all : drop i hidden ≡ [] = drop_all i hidden c.cells-test.false in
    sym c.cells.invariant.read
    ∙ ap (λ (cells : List ℕ). on_with c.cells.ranges (ranges_read cells c.cells.rest.now c.cells.number)) all
    ∙ lines_left c.cells.number c.cells.rest.now c.cells.ranges (above_zero _ (sym c.is_empty.ensures ∙ c.if-not-is_empty.true))

pub returns : goal.returns
returns c =
    let hidden : List ℕ = c.args.hidden.now in
    let i : ℕ = c.cells.cell-index in
    let all : drop i hidden ≡ [] = drop_all i hidden c.cells-test.false in
    sym c.cells.invariant.read
    ∙ ap (λ (cells : List ℕ). on_with c.cells.ranges (ranges_read cells c.cells.rest.now c.cells.number)) all
    ∙ lines_over c.cells.number c.cells.rest.now c.cells.ranges (is_zero _ (sym c.is_empty.ensures ∙ c.if-not-is_empty.false))
