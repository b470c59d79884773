use Rattle.std.proofs.Common.{List, length, pos, subst, sym, ap, take, arith, ◌+◌, ◌++◌, ◌∷◌, [], ◌≡◌, ◌∙◌}
use Rattle.std.proofs.lemmas.List.{length-take, take_more}
use Rattle.sdc_base.specs.declared.cell.Cell.{Cell}
use Rattle.sdc_base.specs.Systems.{number_at}
use Rattle.rounding_audit.specs.Readers.{AreReaderCells, IsReaderCell}
use Rattle.rounding_audit.proofs.Adjacent.{own_rounded}
use Rattle.rounding_audit.proofs.Listing.{reader_more}
use Rattle.rounding_audit.proofs.reading.cells_known.Goals as goal

pub cell_known-one-requires-clause-rounded : goal.cell_known-one-requires-clause-rounded
cell_known-one-requires-clause-rounded c = own_rounded c.args.cells.now c.args.values.now c.args.base.now c.cells.number c.index-cells-number.result (pos 0) c.cells-test.true c.requires.each c.index-cells-number.is (c.requires.rounded c.cells.number c.cells-test.true)

pub cells-preserved : goal.cells-preserved
cells-preserved c =
    let all : List Cell = c.args.cells.now in
    let own : Cell = c.index-cells-number.result in
    let one : Cell = c.cell_known-one.result in
    let more : take (c.cells.number + 1) all ≡ take c.cells.number all ++ own ∷ [] = take_more all c.cells.number own c.cells-test.true ∙ ap (λ (cell : Cell). take c.cells.number all ++ cell ∷ []) (sym c.index-cells-number.is) in
    let size : length (take c.cells.number all) ≡ c.cells.number = omega (arith, length-take c.cells.number all, c.cells-test.true) in
    let fits : IsReaderCell c.args.base.now (number_at c.args.values.now (length (take c.cells.number all))) own one = subst (λ n. IsReaderCell c.args.base.now (number_at c.args.values.now n) own one) (sym size) c.cell_known-one.ensures in
    subst (λ (known : List Cell). AreReaderCells (take (c.cells.number + 1) all) c.args.values.now c.args.base.now known) (sym c.in_ok-push.ensures.ok)
    (subst (λ (cells : List Cell). AreReaderCells cells c.args.values.now c.args.base.now (c.cells.known ++ one ∷ [])) (sym more)
    (reader_more (take c.cells.number all) c.args.values.now c.args.base.now c.cells.known own one c.cells.invariant fits))
