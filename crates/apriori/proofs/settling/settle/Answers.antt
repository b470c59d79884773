use Rattle.std.proofs.Common.{List, map, subst}
use Rattle.std.specs.Prelude.{Result}
use Rattle.sdc_base.specs.Answers.{Gives}
use Rattle.linked_tables.specs.declared.mark.Mark.{Mark}
use Rattle.apriori.specs.Faults.{LineOf, prior_fault_of}
use Rattle.apriori.specs.Settling.{SettledCell, view_of_cell, told_of, settle_of}
use Rattle.apriori.specs.declared.faults.PriorWhy.{PriorWhy}
use Rattle.apriori.proofs.Agreeing.{settled-by-records}
use Rattle.apriori.proofs.settling.settle.Goals as goal

pub returns-clause-over_records : goal.returns-clause-over_records
returns-clause-over_records c =
    λ trees names rows scale facts.
    let exact = subst (λ (marks : List Mark). Gives prior_fault_of (λ cells. map view_of_cell cells.items) c.settle_cells.result (settle_of c.args.rules.now (told_of marks) c.args.priors.now)) c.marks.ensures c.settle_cells.ensures.exact in
    subst (λ (r : Result (List SettledCell) (LineOf × PriorWhy)). Gives prior_fault_of (λ cells. map view_of_cell cells.items) c.settle_cells.result r)
    (settled-by-records c.args.rules.now c.args.book.now.marks trees names rows scale c.args.priors.now facts c.requires.ready) exact
