use Rattle.std.proofs.Common.{◌≡◌, ℕ, List, Some, rules, sym, subst, ◌∙◌}
use Rattle.job_inputs.specs.ClassifiedJobs.{settled_of}
use Rattle.job_inputs.specs.declared.purpose.Purpose.TheVariants as purpose
use Rattle.job_run.specs.Commands as commands
use Rattle.job_run.specs.Promise.{IsPromiseOf}
use Rattle.job_run.proofs.AcceptedTables.{check-promise}
use Rattle.job_run.proofs.PromisedCells.{some-same}
use Rattle.job_run.proofs.Words.{audit-no-demo, audit-no-migration, demo-no-migration, intervals-no-audit, intervals-no-demo, run-no-check}
use Rattle.job_run.proofs.running.run.Goals as goal

pub returns-in-Some-clause-check : goal.returns-in-Some-clause-check
returns-in-Some-clause-check g c =
    let ran : commands.run_job c.args.words.now ≡ Some c.in-Some.name.now = search rules in λ x is. absurd (run-no-check c.args.words.now c.in-Some.name.now x ran is)

pub returns-in-Some-interval_names-clause-demo : goal.returns-in-Some-interval_names-clause-demo
returns-in-Some-interval_names-clause-demo g c =
    let asked : commands.interval_names c.args.words.now ≡ Some (c.in-Some-interval_names.name.now, c.in-Some-interval_names.out.now) = search rules in
    λ x is. absurd (intervals-no-demo c.args.words.now _ x asked is)

pub returns-in-Some-interval_names-clause-audit : goal.returns-in-Some-interval_names-clause-audit
returns-in-Some-interval_names-clause-audit g c =
    let asked : commands.interval_names c.args.words.now ≡ Some (c.in-Some-interval_names.name.now, c.in-Some-interval_names.out.now) = search rules in
    λ x is. absurd (intervals-no-audit c.args.words.now _ x asked is)

pub returns-in-Some-audit_names-clause-demo : goal.returns-in-Some-audit_names-clause-demo
returns-in-Some-audit_names-clause-demo g c =
    let asked : commands.audit_names c.args.words.now ≡ Some (c.in-Some-audit_names.name.now, c.in-Some-audit_names.out.now) = search rules in
    λ x is. absurd (audit-no-demo c.args.words.now _ x asked is)

pub returns-in-Some-audit_names-clause-migration : goal.returns-in-Some-audit_names-clause-migration
returns-in-Some-audit_names-clause-migration g c =
    let asked : commands.audit_names c.args.words.now ≡ Some (c.in-Some-audit_names.name.now, c.in-Some-audit_names.out.now) = search rules in
    λ x is. absurd (audit-no-migration c.args.words.now _ x asked is)

pub returns-in-Some-demo_numbers-clause-migration : goal.returns-in-Some-demo_numbers-clause-migration
returns-in-Some-demo_numbers-clause-migration g c =
    let asked : commands.demo_numbers c.args.words.now ≡ Some (c.in-Some-demo_numbers.seed, c.in-Some-demo_numbers.records) = search rules in
    λ x is. absurd (demo-no-migration c.args.words.now _ x asked is)

pub returns-in-Some-clause-accepted : goal.returns-in-Some-clause-accepted
returns-in-Some-clause-accepted g c =
    let ran : commands.run_job c.args.words.now ≡ Some c.in-Some.name.now = search rules in λ x is. absurd (run-no-check c.args.words.now c.in-Some.name.now x ran is)

pub returns-in-Some-job_behind-clause-accepted : goal.returns-in-Some-job_behind-clause-accepted
returns-in-Some-job_behind-clause-accepted g c =
    let asked : commands.check_job c.args.words.now ≡ Some c.in-Some-job_behind.name.now = search rules in
    λ x is fs held.
    (let same : c.in-Some-job_behind.name.now ≡ x = some-same (sym asked ∙ is) in
    subst (λ (n : List ℕ). IsPromiseOf c.check_job.result (settled_of purpose.Release fs n) fs) same
    (check-promise c.in-Some-job_behind.name.now c.check_job.result _ _ _ _ c.check_job.ensures.check fs held))
