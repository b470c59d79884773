use Rattle.std.proofs.Common.{refl}
use Rattle.job_inputs.proofs.Sounding.{bound-is}
use Rattle.job_inputs.proofs.described.bound_in.Goals as goal

pub returns-in-Ok : goal.returns-in-Ok
returns-in-Ok c = record {
  told = rw (c.in-Ok.ensures.exact) refl;
  sound = record { within = c.in-Ok.ensures.within; places = bound-is c.args.job.now c.args.meta.now _ c.in-Ok.ensures.exact };
  contents = tt;
}
