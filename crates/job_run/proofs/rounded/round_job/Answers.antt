use Rattle.std.proofs.Common.{Err, List, ℤ, map, ap, refl, sym, ◌∙◌, FitsSigned}
use Rattle.std.specs.Int.{w128}
use Rattle.std.proofs.lemmas.Int.{to_z-of_z}
use Rattle.sdc_base.specs.declared.cell.Cell.{Cell}
use Rattle.relations.specs.Holding.{IsSystemOf}
use Rattle.job_run.specs.Releases.{puts_of, value_in}
use Rattle.job_run.proofs.RoundedJobs.{IsTask, job-proper, rounded-comes, search-comes, values-can}
use Rattle.job_run.proofs.rounded.round_job.Goals as goal

pub round-requires-clause-proper : goal.round-requires-clause-proper
round-requires-clause-proper c =
    let base : FitsSigned w128 c.args.base = c.ranges.base in
    let is : IsSystemOf c.args.job.now.book c.in_ok-system.system = record { cells = c.in_ok-system.ensures.cells; relations = c.in_ok-system.ensures.exact } in
    let listed = c.as_slice-2.ensures ∙ c.in_ok-truths.ensures ∙ ap (λ (all : List Cell). map (λ (cell : Cell). cell.truth) all) c.as_slice.ensures in
    simp to_z-of_z (job-proper c.args.job.now c.in_ok-system.system c.args.base c.as_slice-2.result.now c.requires.can c.requires.rounds is c.in_ok-system.ensures.hold listed)

pub returns-in-Err-clause-comes : goal.returns-in-Err-clause-comes
returns-in-Err-clause-comes c = λ settled is.
    let base : FitsSigned w128 c.args.base = c.ranges.base in
    let task : IsTask settled c.args.job.now c.in_ok-system.system c.args.base c.as_slice-2.result.now = record {
      can = c.requires.can;
      rounds = c.requires.rounds;
      is_of = is;
      is_system = record { cells = c.in_ok-system.ensures.cells; relations = c.in_ok-system.ensures.exact };
      listed = c.as_slice-2.ensures ∙ c.in_ok-truths.ensures ∙ ap (λ (all : List Cell). map (λ (cell : Cell). cell.truth) all) c.as_slice.ensures;
    } in
    rw (c.search_report.ensures)
    (search-comes settled c.args.job.now c.in_ok-system.system c.args.base c.as_slice-2.result.now c.in-Err.fault task
    (λ is. let none = c.in-Err.ensures.none (ap Err is) in simp to_z-of_z at none)
    (λ nodes is. let limit = c.in-Err.ensures.limit nodes (ap Err is) in simp to_z-of_z at limit)
    c.cells-known.ensures.book (λ signs are. c.in-Err.ensures.signed signs are c.in-Err.fault refl))

pub puts_for-requires-clause-shown : goal.puts_for-requires-clause-shown
puts_for-requires-clause-shown c =
    let base : FitsSigned w128 c.args.base = c.ranges.base in
    let is : IsSystemOf c.args.job.now.book c.in_ok-system.system = record { cells = c.in_ok-system.ensures.cells; relations = c.in_ok-system.ensures.exact } in
    let listed = c.as_slice-2.ensures ∙ c.in_ok-truths.ensures ∙ ap (λ (all : List Cell). map (λ (cell : Cell). cell.truth) all) c.as_slice.ensures in
    let proper = job-proper c.args.job.now c.in_ok-system.system c.args.base c.as_slice-2.result.now c.requires.can c.requires.rounds is c.in_ok-system.ensures.hold listed in
    let rounding = c.in-Ok.ensures.rounding in
    record {
      sound = c.requires.can.ready.sound;
      ready = c.requires.can.ready.book;
      can = values-can c.args.job.now.book c.in_ok-system.system c.as_slice-2.result.now c.args.base c.in-Ok.rounding.values c.values-values.result
          (c.requires.can.ready.one_each ∙ sym c.in_ok-system.ensures.cells) proper (simp to_z-of_z at rounding) c.values-values.ensures.values;
    }

pub returns-clause-comes : goal.returns-clause-comes
returns-clause-comes c = λ settled is.
    let base : FitsSigned w128 c.args.base = c.ranges.base in
    let task : IsTask settled c.args.job.now c.in_ok-system.system c.args.base c.as_slice-2.result.now = record {
      can = c.requires.can;
      rounds = c.requires.rounds;
      is_of = is;
      is_system = record { cells = c.in_ok-system.ensures.cells; relations = c.in_ok-system.ensures.exact };
      listed = c.as_slice-2.ensures ∙ c.in_ok-truths.ensures ∙ ap (λ (all : List Cell). map (λ (cell : Cell). cell.truth) all) c.as_slice.ensures;
    } in
    let rounding = c.in-Ok.ensures.rounding in
    let certificate = c.empty_certificate-certificate.result in
    rounded-comes settled c.args.job.now c.in_ok-system.system c.args.base c.as_slice-2.result.now c.in-Ok.rounding.values certificate _ task refl (simp to_z-of_z at rounding)
    c.empty_certificate-certificate.ensures c.in_ok-puts.ensures.read_back
    (c.in_ok-puts.ensures.puts settled.inputs (sym is.described) is.book
    ∙ ap (λ (values : List ℤ). puts_of settled.inputs (value_in settled.inputs values) certificate) c.values-values.ensures.values)
    (c.unhidden_summary-summary.ensures settled is)
