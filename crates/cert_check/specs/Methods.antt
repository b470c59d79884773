-- Whether a certificate is one of the job's method (own).
use Rattle.std.specs.Prelude.{◌≡◌, ◌==◌, ◌&&◌, ◌||◌, not, Bool, true, false, [], length, Result}
use Rattle.std.specs.Ordering.{int_eq}
use Rattle.sdc_base.specs.Steps.{refuse}
use Rattle.sdc_base.specs.declared.method.Method.{Method}
use Rattle.sdc_base.specs.declared.method.Method.TheVariants as method
use Rattle.certificate.specs.declared.certificate.Certificate.{Certificate}
use Rattle.cert_check.specs.declared.faults.CheckFault.{CheckFault}
use Rattle.cert_check.specs.declared.faults.CheckFault.TheVariants as fault

-- both methods are one, with the same number of passes or the same base
abbrev pub same_method : Method → Method → Bool
same_method method.Modular method.Modular = true
same_method method.Modular (method.Gh n) = false
same_method method.Modular (method.Rnd b) = false
same_method (method.Gh n) method.Modular = false
same_method (method.Gh n) (method.Gh m) = n == m
same_method (method.Gh n) (method.Rnd b) = false
same_method (method.Rnd a) method.Modular = false
same_method (method.Rnd a) (method.Gh m) = false
same_method (method.Rnd a) (method.Rnd b) = int_eq a b

-- the method rounds
abbrev pub rounds_cells : Method → Bool
rounds_cells method.Modular = false
rounds_cells (method.Gh n) = false
rounds_cells (method.Rnd b) = true

-- no cell is hidden, and there is no step, repair, need or world
abbrev pub lists_nothing : Certificate → Bool
lists_nothing c =
    (length c.hidden == 0) && ((length c.steps == 0)
    && ((length c.repairs == 0) && ((length c.needs == 0) && (length c.worlds == 0))))

-- the same, list by list
pub record ListsNothing (c : Certificate) : Type 0 where
  pub hidden : c.hidden ≡ []
  pub steps : c.steps ≡ []
  pub repairs : c.repairs ≡ []
  pub needs : c.needs ≡ []
  pub worlds : c.worlds ≡ []

-- a certificate of another method is refused, and one of a rounding that lists something
abbrev pub method_fault : Method → Certificate → Result (Unit {0}) CheckFault
method_fault method c =
    refuse fault.Method (not (same_method method c.method) || (rounds_cells method && not (lists_nothing c)))
