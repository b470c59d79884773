-- Which methods are fit for what the inputs of a job are read for (own).
use Rattle.std.specs.Prelude.{Bool, true, false}
use Rattle.sdc_base.specs.declared.method.Method.{Method}
use Rattle.sdc_base.specs.declared.method.Method.TheVariants as method
use Rattle.job_inputs.specs.declared.purpose.Purpose.{Purpose}
use Rattle.job_inputs.specs.declared.purpose.Purpose.TheVariants as purpose

-- the method rounds, so that no cell is hidden, and intervals of hidden cells are asked for; or it hides cells, so that
-- there is no rounded release, and the audit of one is asked for
abbrev pub is_unfit : Purpose → Method → Bool
is_unfit purpose.Release how = false
is_unfit purpose.Intervals (method.Rnd base) = true
is_unfit purpose.Intervals method.Modular = false
is_unfit purpose.Intervals (method.Gh passes) = false
is_unfit purpose.Audit (method.Rnd base) = false
is_unfit purpose.Audit method.Modular = true
is_unfit purpose.Audit (method.Gh passes) = true
