use Rattle.std.proofs.Common.{◌≡◌, ◌++◌, ◌∷◌, ◌+◌, ◌-◌, ◌<◌, [], All, Bool, List, ℕ, ap, filter, map, slice_index_or, subst, sym, true, false, ◌∙◌}
use Rattle.std.specs.List.{range_with_len}
use Rattle.std.proofs.lemmas.List.Elements.{All-push}
use Rattle.sdc_base.specs.HiddenSets.{is_hidden}
use Rattle.sdc_base.specs.declared.system.System.{System}
use Rattle.cell_intervals.specs.declared.interval.CellInterval.{CellInterval}
use Rattle.cell_intervals.specs.Intervals.{IsIntervalOf, hidden_cells}
use Rattle.cell_intervals.proofs.Listing.{next_hidden, next_shown, numbers_more}
use Rattle.cell_intervals.proofs.intervals.found_intervals.Goals as goal
use Rattle.cell_intervals.proofs.intervals.found_intervals.Goals.{then-as_slice-cell+in_ok-one+in-Ok, else-as_slice-cell}

pub cells-preserved : goal.cells-preserved
cells-preserved c =
    let system = c.args.system.now in
    let cells = c.args.cells.now in
    let flags = c.args.hidden.now.flags in
    let cell = c.cells.cell in
    let P : CellInterval → Type 0 = IsIntervalOf system cells flags in
    let below : cell < system.cells = subst (λ (own : System). cell < own.cells) c.system.ensures c.cells-test.true in
    let rest : List ℕ = filter (is_hidden flags) (range_with_len (cell + 1) (system.cells - (cell + 1))) in
    elim c.if-as_slice-cell.branch [
      | then-as_slice-cell+in_ok-one+in-Ok w ↦
          let one : CellInterval = w.in_ok-one.one in
          let hidden : is_hidden flags cell ≡ true = subst (λ (bs : List Bool). slice_index_or bs cell false ≡ true) c.as_slice.ensures w.if-as_slice-cell.true in
          let grown : c.if-as_slice-cell.intervals ≡ c.cells.intervals ++ one ∷ [] = w.intervals-is ∙ w.in-Ok.ensures.ok in
          record {
            numbers =
                ap (λ (numbers : List ℕ). numbers ++ rest) (numbers_more c.cells.intervals one cell c.if-as_slice-cell.intervals grown w.in_ok-one.ensures.number)
                ∙ next_hidden flags system.cells (map (λ (interval : CellInterval). interval.cell) c.cells.intervals) (hidden_cells flags) cell below hidden c.cells.invariant.numbers;
            each = subst (All P) (sym grown) (All-push P c.cells.intervals one c.cells.invariant.each w.in_ok-one.ensures.right);
          }
      | else-as_slice-cell w ↦
          let shown : is_hidden flags cell ≡ false = subst (λ (bs : List Bool). slice_index_or bs cell false ≡ false) c.as_slice.ensures w.if-as_slice-cell.false in
          let same : c.if-as_slice-cell.intervals ≡ c.cells.intervals = w.intervals-is in
          record {
            numbers =
                ap (λ (intervals : List CellInterval). map (λ (interval : CellInterval). interval.cell) intervals ++ rest) same
                ∙ next_shown flags system.cells (map (λ (interval : CellInterval). interval.cell) c.cells.intervals) (hidden_cells flags) cell below shown c.cells.invariant.numbers;
            each = subst (All P) (sym same) c.cells.invariant.each;
          }
    ]
