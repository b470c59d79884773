use Rattle.std.proofs.Common.{◌≡◌, ◌++◌, ◌∷◌, ◌+◌, ◌-◌, ◌<◌, [], All, Bool, List, ℕ, arith, ap, filter, length, map, slice_index_or, subst, sym, true, false, ◌∙◌}
use Rattle.std.specs.List.{range_with_len}
use Rattle.std.proofs.lemmas.List.Elements.{All-push}
use Rattle.std.proofs.lemmas.Result.{err_from_is_err_and}
use Rattle.sdc_base.specs.HiddenSets.{is_hidden}
use Rattle.sdc_base.specs.Signs.{AreSigns}
use Rattle.sdc_base.specs.declared.system.System.{System}
use Rattle.sdc_base.proofs.Connecting.{hidden-inside}
use Rattle.cell_intervals.specs.declared.interval.CellInterval.{CellInterval}
use Rattle.cell_intervals.specs.IntervalFaults.{HasBothEnds}
use Rattle.cell_intervals.specs.Intervals.{HasWholeEnds, IsIntervalOf, hidden_cells}
use Rattle.cell_intervals.proofs.Listing.{below_next, fault_at, next_hidden, next_shown, numbers_more, small_where_ended}
use Rattle.cell_intervals.proofs.intervals.asked_intervals.Goals as goal
use Rattle.cell_intervals.proofs.intervals.asked_intervals.Goals.{then-as_slice-cell+in_ok-one+in_ok-push, else-as_slice-cell}

pub cells-preserved : goal.cells-preserved
cells-preserved c =
    let system = c.args.system.now in
    let cells = c.args.cells.now in
    let flags = c.args.hidden.now.flags in
    let cell = c.cells.cell in
    let P : CellInterval → Type 0 = IsIntervalOf system cells flags in
    let Whole : CellInterval → Type 0 = HasWholeEnds system cells flags in
    let below : cell < system.cells = subst (λ (own : System). cell < own.cells) c.system.ensures c.cells-test.true in
    let rest : List ℕ = filter (is_hidden flags) (range_with_len (cell + 1) (system.cells - (cell + 1))) in
    elim c.if-as_slice-cell.branch [
      | then-as_slice-cell+in_ok-one+in_ok-push w ↦
          let one : CellInterval = w.in_ok-one.one in
          let hidden : is_hidden flags cell ≡ true = subst (λ (bs : List Bool). slice_index_or bs cell false ≡ true) c.as_slice.ensures w.if-as_slice-cell.true in
          let grown : c.if-as_slice-cell.intervals ≡ c.cells.intervals ++ one ∷ [] = w.intervals-is ∙ w.in_ok-push.ensures.ok in
          record {
            numbers =
                ap (λ (numbers : List ℕ). numbers ++ rest) (numbers_more c.cells.intervals one cell c.if-as_slice-cell.intervals grown w.in_ok-one.ensures.number)
                ∙ next_hidden flags system.cells (map (λ (interval : CellInterval). interval.cell) c.cells.intervals) (hidden_cells flags) cell below hidden c.cells.invariant.numbers;
            each = subst (All P) (sym grown) (All-push P c.cells.intervals one c.cells.invariant.each w.in_ok-one.ensures.right);
            whole = λ signs are. subst (All Whole) (sym grown) (All-push Whole c.cells.intervals one (c.cells.invariant.whole signs are) (w.in_ok-one.ensures.whole signs are));
            ended = below_next (HasBothEnds system cells flags) flags cell c.cells.invariant.ended (λ _. w.in_ok-one.ensures.ended);
          }
      | else-as_slice-cell w ↦
          let shown : is_hidden flags cell ≡ false = subst (λ (bs : List Bool). slice_index_or bs cell false ≡ false) c.as_slice.ensures w.if-as_slice-cell.false in
          let same : c.if-as_slice-cell.intervals ≡ c.cells.intervals = w.intervals-is in
          record {
            numbers =
                ap (λ (intervals : List CellInterval). map (λ (interval : CellInterval). interval.cell) intervals ++ rest) same
                ∙ next_shown flags system.cells (map (λ (interval : CellInterval). interval.cell) c.cells.intervals) (hidden_cells flags) cell below shown c.cells.invariant.numbers;
            each = subst (All P) (sym same) c.cells.invariant.each;
            whole = λ signs are. subst (All Whole) (sym same) (c.cells.invariant.whole signs are);
            ended = below_next (HasBothEnds system cells flags) flags cell c.cells.invariant.ended (λ hidden. let clash : false ≡ true = sym shown ∙ hidden in absurd cc);
          }
    ]

pub returns-in_err-one-clause-cause : goal.returns-in_err-one-clause-cause
returns-in_err-one-clause-cause c =
    let flags = c.args.hidden.now.flags in
    let hidden : is_hidden flags c.cells.cell ≡ true = subst (λ (bs : List Bool). slice_index_or bs c.cells.cell false ≡ true) c.as_slice.ensures c.if-as_slice-cell.true in
    let p = err_from_is_err_and c.from_residual.result c.from_residual.ensures.1 in
    rw (p.1, p.2) (fault_at c.args.system.now c.args.cells.now flags c.args.limit c.cells.cell c.in_err-one.field-0.0 hidden c.cells.invariant.ended c.in_err-one.ensures.cause)

pub returns-clause-small : goal.returns-clause-small
returns-clause-small c = λ cell hidden.
    let inside : cell < length c.args.hidden.now.flags = hidden-inside c.args.hidden.now.flags cell hidden in
    let many : c.args.system.now.cells ≡ c.system.result.now.cells = ap (λ (own : System). own.cells) (sym c.system.ensures) in
    small_where_ended c.args.system.now c.args.cells.now c.args.hidden.now.flags cell (c.cells.invariant.ended cell (omega (arith, inside, many, c.requires.ground.each_flag, c.cells-test.false)) hidden)
