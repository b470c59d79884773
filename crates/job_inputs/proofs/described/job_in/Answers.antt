use Rattle.std.proofs.Common.{sym, ◌∙◌}
use Rattle.job_inputs.proofs.Describing.{job-is-for, job-unread, job-unfit}
use Rattle.job_inputs.proofs.Refusing.{job_refuses, job-is-for-contents}
use Rattle.job_inputs.proofs.described.job_in.Goals as goal

pub returns-in-Err : goal.returns-in-Err
returns-in-Err c =
    let refuses = job_refuses c.in-Err.error _ c.in-Err.ensures.exact in
    rw (c.job_refusal.ensures) (record { told = job-unread c.args.purpose c.args.bytes.now _ refuses; sound = tt; contents = job-is-for-contents _ _ refuses })

pub returns-then-is_unfit : goal.returns-then-is_unfit
returns-then-is_unfit c = record {
  told = job-unfit c.args.purpose c.args.bytes.now c.in-Ok.job c.in-Ok.ensures.exact (sym c.is_unfit.ensures ∙ c.if-is_unfit.true);
  sound = tt;
  contents = tt;
}

pub returns : goal.returns
returns c = record {
  told = job-is-for c.args.purpose c.args.bytes.now c.in-Ok.job c.in-Ok.ensures.exact (sym c.is_unfit.ensures ∙ c.if-is_unfit.false);
  sound = c.in-Ok.ensures.within;
  contents = tt;
}
