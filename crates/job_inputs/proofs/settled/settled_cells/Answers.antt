use Rattle.std.proofs.Common.{◌≡◌, Ok, map, refl, subst}
use Rattle.sdc_base.specs.Answers.{Fails}
use Rattle.apriori.specs.Faults.{prior_fault_of}
use Rattle.apriori.specs.Settling.{view_of_cell, settle_of}
use Rattle.job_inputs.proofs.Refusing.{prior_refuses}
use Rattle.job_inputs.proofs.Truths.{truths-are}
use Rattle.job_inputs.proofs.Facts.{facts-in, are-ready}
use Rattle.job_inputs.specs.Cells.{cells, figures}
use Rattle.job_inputs.specs.declared.described.DescribedJob.{DescribedJob}
use Rattle.job_inputs.proofs.settled.settled_cells.Goals as goal

pub settle-requires-clause-ready : goal.settle-requires-clause-ready
settle-requires-clause-ready c = are-ready c.args.counted.now.described.job.rules c.args.counted.now.book.marks c.requires.ready.book.truths c.requires.ready.book.keeps

pub returns-in-Ok-clause-gives : goal.returns-in-Ok-clause-gives
returns-in-Ok-clause-gives c = λ inputs is.
    let over = c.in-Ok.ensures.over_records inputs.records.trees (cells inputs) inputs.records.rows inputs.described.bound.scale (facts-in inputs c.args.counted.now.book is.book) in
    let same = subst (λ (d : DescribedJob). settle_of d.job.rules (figures inputs) c.args.priors.now ≡ Ok (map view_of_cell c.in-Ok.cells.items)) is.described over in
    rw (c.new.ensures, same) refl

pub returns-in-Err-clause-gives : goal.returns-in-Err-clause-gives
returns-in-Err-clause-gives c = λ inputs is.
    let e = c.in-Err.error in
    let over = c.in-Err.ensures.over_records inputs.records.trees (cells inputs) inputs.records.rows inputs.described.bound.scale (facts-in inputs c.args.counted.now.book is.book) in
    let same = subst (λ (d : DescribedJob). Fails (prior_fault_of e) (settle_of d.job.rules (figures inputs) c.args.priors.now)) is.described over in
    rw (c.prior_refusal.ensures) (prior_refuses e (settle_of inputs.described.job.rules (figures inputs) c.args.priors.now) same)

pub returns-in-Ok-clause-ready : goal.returns-in-Ok-clause-ready
returns-in-Ok-clause-ready c = rw (c.new.ensures) (record {
  one_each = c.in-Ok.ensures.one_each;
  levels = c.in-Ok.ensures.levels;
  truths = truths-are c.args.counted.now.described.job.rules c.args.counted.now.book.marks c.args.priors.now c.in-Ok.cells.items c.requires.priors.one_each c.in-Ok.ensures.exact;
})
