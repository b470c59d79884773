use Rattle.std.proofs.Common.{refl}
use Rattle.job_inputs.proofs.Listing.{are-listed}
use Rattle.job_inputs.proofs.codes.codes_by.Goals as goal

pub returns-in-Ok : goal.returns-in-Ok
returns-in-Ok c = record {
  told = rw (c.in-Ok.ensures.exact) refl;
  sound = are-listed c.list_gives_its_codes.ensures c.args.total.now c.args.bytes.now c.in-Ok.codes.items c.in-Ok.ensures.exact;
  contents = tt;
}
