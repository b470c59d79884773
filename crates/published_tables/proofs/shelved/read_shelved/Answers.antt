use Rattle.std.proofs.Common.{◌≡◌, ◌≤◌, Ok, arith, refl, subst, ◌∙◌}
use Rattle.std.proofs.lemmas.Result.{err_from_is_err_and}
use Rattle.sdc_base.specs.Answers.{Fails}
use Rattle.job_inputs.proofs.Causes.{come-on, inputs-looked, look-on, longer-look, out-name-cause, past-inputs}
use Rattle.job_inputs.specs.ReadFiles.{limit, output_limit}
use Rattle.job_inputs.specs.Reading.{stopped_for}
use Rattle.job_inputs.specs.ClassifiedJobs.{settled_of, IsSettledOf}
use Rattle.job_inputs.specs.Tables.{tables_of}
use Rattle.job_inputs.specs.declared.described.DescribedJob.{DescribedJob}
use Rattle.published_tables.proofs.Coming.{ok_and, out_same, settled_fails, out_fails, tables_fail, shelved_is, input_comes, table_comes}
use Rattle.published_tables.specs.OutNames.{overwrites}
use Rattle.published_tables.proofs.shelved.read_shelved.Goals as goal

-- ---- the inputs

pub returns-in_err-job-clause-told : goal.returns-in_err-job-clause-told
returns-in_err-job-clause-told g c =
    λ fs told.
    let p = err_from_is_err_and c.from_residual.result c.from_residual.ensures.1 in
    rw (p.1, p.2) (settled_fails c.args.purpose fs c.args.name.now c.args.out.now _ (c.in_err-job.ensures.looked.told fs told))

pub returns-in_err-job-clause-came_to : goal.returns-in_err-job-clause-came_to
returns-in_err-job-clause-came_to g c =
    λ fs told.
    let p = err_from_is_err_and c.from_residual.result c.from_residual.ensures.1 in
    rw (p.1, p.2)
    (come-on c.in_err-job.field-0.0 _ _ fs (g.S.Shelf.state c.read_settled.new.shelf) (λ f held comes. input_comes c.args.purpose fs c.args.name.now c.args.out.now f held comes) (c.in_err-job.ensures.looked.came_to fs told))

-- ---- the name of the file to be put

pub returns-in_err-check_out-clause-told : goal.returns-in_err-check_out-clause-told
returns-in_err-check_out-clause-told g c =
    λ fs told.
    let p = err_from_is_err_and c.from_residual-in_err-check_out.result c.from_residual-in_err-check_out.ensures.1 in
    let one = ok_and (λ settled. IsSettledOf settled c.in_ok-job.job) (settled_of c.args.purpose fs c.args.name.now) (c.in_ok-job.ensures.looked.told fs told) in
    rw (p.1, p.2)
    (out_fails c.args.purpose fs c.args.name.now c.args.out.now one.0 c.in_err-check_out.field-0.0 one.1
    (out_same c.args.name.now c.args.out.now c.in_ok-job.job.described one.0.inputs.described _ c.in_err-check_out.ensures one.2.described))

pub returns-in_err-check_out-clause-cause : goal.returns-in_err-check_out-clause-cause
returns-in_err-check_out-clause-cause g c =
    let p = err_from_is_err_and c.from_residual-in_err-check_out.result c.from_residual-in_err-check_out.ensures.1 in
    rw (p.1, p.2) (out-name-cause c.in_err-check_out.field-0.0 (overwrites c.args.name.now c.args.out.now c.in_ok-job.job.described) _ _ c.in_err-check_out.ensures)

-- ---- the tables

pub returns-in_err-tables-clause-told : goal.returns-in_err-tables-clause-told
returns-in_err-tables-clause-told g c =
    λ fs told.
    let p = err_from_is_err_and c.from_residual-in_err-tables.result c.from_residual-in_err-tables.ensures.1 in
    let e = c.in_err-tables.field-0.0 in
    let one = ok_and (λ settled. IsSettledOf settled c.in_ok-job.job) (settled_of c.args.purpose fs c.args.name.now) (c.in_ok-job.ensures.looked.told fs told) in
    rw (p.1, p.2)
    (tables_fail c.args.purpose fs c.args.name.now c.args.out.now one.0 (stopped_for e) one.1
    (out_same c.args.name.now c.args.out.now c.in_ok-job.job.described one.0.inputs.described _ c.in_ok-check_out.ensures one.2.described)
    (subst (λ (d : DescribedJob). Fails (stopped_for e) (tables_of fs d.job)) one.2.described (c.in_err-tables.ensures.told fs (c.in_ok-job.ensures.looked.shelf.only_read.files ∙ told))))

pub returns-in_err-tables-clause-came_to : goal.returns-in_err-tables-clause-came_to
returns-in_err-tables-clause-came_to g c =
    λ fs told.
    let p = err_from_is_err_and c.from_residual-in_err-tables.result c.from_residual-in_err-tables.ensures.1 in
    let one = ok_and (λ settled. IsSettledOf settled c.in_ok-job.job) (settled_of c.args.purpose fs c.args.name.now) (c.in_ok-job.ensures.looked.told fs told) in
    rw (p.1, p.2)
    (come-on c.in_err-tables.field-0.0 _ _ fs (g.S.Shelf.state c.read_tables.new.shelf)
    (λ f held comes.
    table_comes c.args.purpose fs c.args.name.now c.args.out.now one.0 c.in_ok-job.job.described f held one.1
    (out_same c.args.name.now c.args.out.now c.in_ok-job.job.described one.0.inputs.described _ c.in_ok-check_out.ensures one.2.described) one.2.described comes)
    (c.in_err-tables.ensures.came_to fs (c.in_ok-job.ensures.looked.shelf.only_read.files ∙ told)))

-- ---- a job with its tables

pub returns-clause-told : goal.returns-clause-told
returns-clause-told g c =
    λ fs told.
    let one = ok_and (λ settled. IsSettledOf settled c.in_ok-job.job) (settled_of c.args.purpose fs c.args.name.now) (c.in_ok-job.ensures.looked.told fs told) in
    let are = subst (λ (d : DescribedJob). tables_of fs d.job ≡ Ok c.in_ok-tables.tables) one.2.described (c.in_ok-tables.ensures.told fs (c.in_ok-job.ensures.looked.shelf.only_read.files ∙ told)) in
    rw (shelved_is c.args.purpose fs c.args.name.now c.args.out.now one.0 c.in_ok-tables.tables one.1
    (out_same c.args.name.now c.args.out.now c.in_ok-job.job.described one.0.inputs.described _ c.in_ok-check_out.ensures one.2.described) are)
    (record { settled = one.2; tables = refl })

pub returns-clause-settled : goal.returns-clause-settled
returns-clause-settled g c =
    let some = c.in_ok-job.ensures.settled in
    (record { settled = some.0; tables = c.in_ok-tables.tables }, record { settled = some.1; tables = refl }, some.2)

-- ---- the shelf

-- an input is no longer than what was put may be
at_most : limit ≤ output_limit
at_most = omega arith

pub returns-in_err-job-clause-shelf : goal.returns-in_err-job-clause-shelf
returns-in_err-job-clause-shelf g c = inputs-looked _ _ _ _ c.in_err-job.ensures.looked.shelf

pub returns-in_err-check_out-clause-shelf : goal.returns-in_err-check_out-clause-shelf
returns-in_err-check_out-clause-shelf g c =
    past-inputs c.args.purpose c.args.name.now (λ settled. IsSettledOf settled c.in_ok-job.job) _ _ (longer-look limit output_limit _ _ at_most c.in_ok-job.ensures.looked.shelf) c.in_ok-job.ensures.looked.told

pub returns-in_err-tables-clause-shelf : goal.returns-in_err-tables-clause-shelf
returns-in_err-tables-clause-shelf g c =
    past-inputs c.args.purpose c.args.name.now (λ settled. IsSettledOf settled c.in_ok-job.job) _ _
    (look-on output_limit _ _ _ (longer-look limit output_limit _ _ at_most c.in_ok-job.ensures.looked.shelf) c.in_err-tables.ensures.shelf) c.in_ok-job.ensures.looked.told

pub returns-clause-shelf : goal.returns-clause-shelf
returns-clause-shelf g c =
    past-inputs c.args.purpose c.args.name.now (λ settled. IsSettledOf settled c.in_ok-job.job) _ _
    (look-on output_limit _ _ _ (longer-look limit output_limit _ _ at_most c.in_ok-job.ensures.looked.shelf) c.in_ok-tables.ensures.shelf) c.in_ok-job.ensures.looked.told
