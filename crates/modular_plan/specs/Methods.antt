-- How a method plans (tau-ARGUS user manual).
use Rattle.std.specs.Prelude.{ℕ}
use Rattle.sdc_base.specs.declared.method.Method.{Method}
use Rattle.sdc_base.specs.declared.method.Method.TheVariants as method

-- how many passes a plan makes: as many as GH says, one under MOD
abbrev pub passes_of : Method → ℕ
passes_of (method.Gh passes) = passes
passes_of method.Modular = 1
passes_of (method.Rnd base) = 0
