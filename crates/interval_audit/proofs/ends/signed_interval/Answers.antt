use Rattle.std.proofs.lemmas.Result.{err_from_is_err_and}
use Rattle.std.proofs.Common.{inl, inr}
use Rattle.interval_audit.proofs.ends.signed_interval.Goals as goal

pub returns-in_err-below : goal.returns-in_err-below
returns-in_err-below c =
    let p = err_from_is_err_and c.from_residual.result c.from_residual.ensures.1 in
    rw (p.1, p.2) (record {
      below = tt;
      above = tt;
      below_read = tt;
      above_read = tt;
      below_whole = λ signs are. tt;
      above_whole = λ signs are. tt;
      cause = inl c.in_err-below.ensures.cause;
      signed = c.in_err-below.ensures.signed;
    })

pub returns-in_err-above : goal.returns-in_err-above
returns-in_err-above c =
    let p = err_from_is_err_and c.from_residual-in_err-above.result c.from_residual-in_err-above.ensures.1 in
    rw (p.1, p.2) (record {
      below = tt;
      above = tt;
      below_read = tt;
      above_read = tt;
      below_whole = λ signs are. tt;
      above_whole = λ signs are. tt;
      cause = inr (c.in_ok-below.below, c.in_ok-below.ensures.right, c.in_ok-below.ensures.read, c.in_err-above.ensures.cause);
      signed = c.in_err-above.ensures.signed;
    })

pub returns : goal.returns
returns c = record {
  below = c.in_ok-below.ensures.right;
  above = c.in_ok-above.ensures.right;
  below_read = c.in_ok-below.ensures.read;
  above_read = c.in_ok-above.ensures.read;
  below_whole = c.in_ok-below.ensures.whole;
  above_whole = c.in_ok-above.ensures.whole;
  cause = tt;
  signed = λ signs are. tt;
}
