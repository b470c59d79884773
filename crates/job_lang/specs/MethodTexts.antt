-- The argument of SUPPRESS: a method (tau-ARGUS user manual; ranges own).
use Rattle.std.specs.Prelude.{ℕ, codes, if◌then◌else◌, List, Result, Ok, Err, pos}
use Rattle.std.specs.Str.{str_eq_ignore_ascii_case}
use Rattle.sdc_base.specs.Steps.{◌>>=◌}
use Rattle.sdc_base.specs.declared.method.Method.{Method}
use Rattle.sdc_base.specs.declared.method.Method.TheVariants.{Gh, Modular, Rnd}
use Rattle.job_lang.specs.declared.faults.JobWhy.{JobWhy}
use Rattle.job_lang.specs.declared.faults.JobWhy.TheVariants.{BadValue}
use Rattle.job_lang.specs.LineTokens.{behind_mark, run_of, behind_run, closing_token}
use Rattle.job_lang.specs.RuleClauses.{one_number}

-- GH(n): 1 to 8 passes
unfoldable pub passes_method : List ℕ → Result Method JobWhy
passes_method text = do
  n ← one_number 1 8 text
  Ok (Gh n)

-- MOD()
unfoldable pub modular_method : List ℕ → Result Method JobWhy
modular_method text = do
  open_ ← behind_mark 40 text
  end ← closing_token open_
  Ok Modular

-- RND(b): the base, from 1 to 10^9
unfoldable pub rounding_method : List ℕ → Result Method JobWhy
rounding_method text = do
  base ← one_number 1 1000000000 text
  Ok (Rnd (pos base))

-- how tables are protected, its word in letters of any case
unfoldable pub method_argument : List ℕ → Result Method JobWhy
method_argument text =
    if str_eq_ignore_ascii_case (run_of text) (codes "GH") then passes_method (behind_run text)
    else if str_eq_ignore_ascii_case (run_of text) (codes "MOD") then modular_method (behind_run text)
    else if str_eq_ignore_ascii_case (run_of text) (codes "RND") then rounding_method (behind_run text)
    else Err BadValue
