use Rattle.std.proofs.lemmas.Result.{err_from_is_err_and}
use Rattle.job_inputs.proofs.Causes.{cause-as, come-on}
use Rattle.job_inputs.specs.ClassifiedJobs.{settled_of}
use Rattle.job_inputs.specs.declared.purpose.Purpose.TheVariants as purpose
use Rattle.cell_listing.proofs.ListingReads.{relations_are}
use Rattle.cell_listing.proofs.relations_reading.list_relations.Goals as goal

pub returns-in_err-job-clause-looked : goal.returns-in_err-job-clause-looked
returns-in_err-job-clause-looked g c =
    let p = err_from_is_err_and c.from_residual.result c.from_residual.ensures.1 in
    let e = c.in_err-job.field-0.0 in
    let look = c.in_err-job.ensures.looked in
    rw (p.1, p.2) (record {
      told = λ fs told. look.told fs told;
      came_to = λ fs told. come-on e _ _ fs (g.S.Shelf.state c.read_settled.new.shelf) (λ f held comes. comes) (look.came_to fs told);
      shelf = look.shelf;
      cause = cause-as e _ _ look.cause;
      sound = tt;
    })

pub returns-in_err-bytes-clause-looked : goal.returns-in_err-bytes-clause-looked
returns-in_err-bytes-clause-looked g c =
    let p = err_from_is_err_and c.from_residual-in_err-bytes.result c.from_residual-in_err-bytes.ensures.1 in
    rw (p.1, p.2) (record {
      told = λ fs told. tt;
      came_to = λ fs told f is. absurd cc;
      shelf = c.in_ok-job.ensures.looked.shelf;
      cause = record { absent = λ f is. absurd cc; too_long = λ f is. absurd cc; read_fault = λ f is. absurd cc; tree = λ f is. absurd cc };
      sound = tt;
    })

pub returns-clause-looked : goal.returns-clause-looked
returns-clause-looked g c =
    let look = c.in_ok-job.ensures.looked in
    record {
      told = λ fs told. relations_are (settled_of purpose.Release fs c.args.name.now) c.in_ok-job.job c.in_ok-bytes.bytes.items (look.told fs told) c.in_ok-bytes.ensures.over_records;
      came_to = λ fs told f is. absurd cc;
      shelf = look.shelf;
      cause = record { absent = λ f is. absurd cc; too_long = λ f is. absurd cc; read_fault = λ f is. absurd cc; tree = λ f is. absurd cc };
      sound = tt;
    }

pub returns-clause-listed : goal.returns-clause-listed
returns-clause-listed g c =
    let settled = c.in_ok-job.ensures.settled in
    (settled.0, c.in_ok-bytes.ensures.over_records settled.0 settled.1, settled.2)
