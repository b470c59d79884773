use Rattle.std.proofs.Common.{◌≡◌, ◌∙◌, ap, refl, rules}
use Rattle.demo_files.specs.DemoFiles.{job_name}
use Rattle.demo_files.specs.SteadyFiles.{shelf_with}
use Rattle.job_run.proofs.DemoRuns.{demo-run}
use Rattle.job_run.proofs.demo.summary_of.Goals as goal

pub returns : goal.returns
returns c =
    let run = c.run_job.ensures in
    let named : c.in_ok-name.name ≡ job_name = search rules in
    demo-run c.args.seed c.args.records _ c.run_job.result _ _ _ _ c.summarize.result named (c.new-shelf.ensures ∙ ap shelf_with c.in_ok-files.ensures) c.new-tray.ensures refl refl
    (record { run = run.run; causes = run.cause; stops = run.stops; released = run.released }) c.summarize.ensures
