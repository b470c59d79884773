use Rattle.std.proofs.Common.{◌≡◌, Err, ap}
use Rattle.std.proofs.lemmas.Result.{err_from_is_err_and}
use Rattle.job_inputs.specs.declared.stop.InputStop.TheVariants as input
use Rattle.job_check.specs.ReleaseFiles.{released_of}
use Rattle.job_check.specs.declared.stop.CheckStop.TheVariants as check
use Rattle.cell_listing.proofs.ReleaseReads.{listing_answers}
use Rattle.cell_listing.proofs.released_reading.list_released.Goals as goal

pub released_listing_for-requires : goal.released_listing_for-requires
released_listing_for-requires g c = record { ready = c.in_ok-read.ensures.accepted.ready }

pub returns-in_err-read : goal.returns-in_err-read
returns-in_err-read g c =
    let p = err_from_is_err_and c.from_residual.result c.from_residual.ensures.1 in
    let e = c.in_err-read.field-0.0 in
    let said = c.in_err-read.ensures in
    rw (p.1, p.2) (record {
      told = λ fs told. said.told fs told;
      came_to = λ fs told why is. said.came_to fs told why (let same : e ≡ check.Inputs why = cc in ap Err same);
      shelf = said.shelf;
      cause = λ why is. said.cause why (let same : e ≡ check.Inputs why = cc in ap Err same);
      listed = tt;
    })

pub returns-in_err-bytes : goal.returns-in_err-bytes
returns-in_err-bytes g c =
    let p = err_from_is_err_and c.from_residual-in_err-bytes.result c.from_residual-in_err-bytes.ensures.1 in
    rw (p.1, p.2) (record {
      told = λ fs told. tt;
      came_to = λ fs told why is. (let memory : why ≡ input.Memory = cc in λ f read. absurd cc);
      shelf = c.in_ok-read.ensures.shelf;
      cause = λ why is.
          (let memory : why ≡ input.Memory = cc in record { absent = λ f h. absurd cc; too_long = λ f h. absurd cc; read_fault = λ f h. absurd cc; tree = λ f h. absurd cc });
      listed = tt;
    })

pub returns : goal.returns
returns g c =
    let said = c.in_ok-read.ensures in
    let over = c.in_ok-bytes.ensures.over_records in
    let it = said.accepted in
    record {
      told = λ fs told. listing_answers (released_of fs c.args.name.now) c.in_ok-read.read c.in_ok-bytes.bytes.items over (said.told fs told);
      came_to = λ fs told why is. absurd cc;
      shelf = said.shelf;
      cause = λ why is. absurd cc;
      listed = (it.released, over it.released it.accepted, it.sound);
    }
