-- The base to which a job rounds (zero-restricted controlled rounding; that it counts whole numbers of the response:
-- own).
use Rattle.std.specs.Prelude.{ℕ, ◌^◌, ℤ, pos, ◌*ℤ◌}
use Rattle.sdc_base.specs.declared.method.Method.{Method}
use Rattle.sdc_base.specs.declared.method.Method.TheVariants as method

-- the base to which a method rounds, in units of so many decimals; 1 where it doesn't round
abbrev pub method_base : Method → ℕ → ℤ
method_base (method.Rnd base) decimals = base *ℤ pos (10 ^ decimals)
method_base (method.Gh passes) decimals = pos 1
method_base method.Modular decimals = pos 1
