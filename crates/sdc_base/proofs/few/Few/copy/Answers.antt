use Rattle.std.proofs.Common.{rules}
use Rattle.sdc_base.proofs.few.Few.copy.Goals as goal

-- there are as many items as fit in
pub of-requires : goal.of-requires
of-requires g c = (search rules, c.as_slice.ensures.fits)
