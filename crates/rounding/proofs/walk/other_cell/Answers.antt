use Rattle.std.proofs.Common.{◌≡◌, ◌⊎◌, ℕ, true, List, All, inr, sym, subst}
use Rattle.std.proofs.lemmas.List.{take_all}
use Rattle.std.proofs.lemmas.List.Elements.{All-more}
use Rattle.sdc_base.specs.Systems.{number_at}
use Rattle.rounding.specs.Neighbours.{is_multiple}
use Rattle.rounding.proofs.walk.other_cell.Goals as goal

pub cells-preserved : goal.cells-preserved
cells-preserved c =
    All-more (λ (cell : ℕ). (cell ≡ c.args.last) ⊎ (is_multiple c.args.task.now.base (number_at c.args.numbers.now cell) ≡ true)) c.args.cells.now c.cells.cell-index 0 c.cells-test.true c.cells.invariant (inr (sym c.if-is_whole.ensures))

pub returns-clause-none : goal.returns-clause-none
returns-clause-none c =
    subst (λ (cells : List ℕ). All (λ (cell : ℕ). (cell ≡ c.args.last) ⊎ (is_multiple c.args.task.now.base (number_at c.args.numbers.now cell) ≡ true)) cells) (take_all c.cells.cell-index c.args.cells.now c.cells-test.false) c.cells.invariant
