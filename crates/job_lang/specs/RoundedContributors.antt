-- A contributors' file of a job that rounds (own).
use Rattle.std.specs.Prelude.{ℕ, Bool, true, false, List, Option, Some, Result, Ok, Err}
use Rattle.sdc_base.specs.declared.method.Method.{Method}
use Rattle.sdc_base.specs.declared.method.Method.TheVariants.{Rnd}
use Rattle.job_lang.specs.declared.faults.JobWhy.{JobWhy}
use Rattle.job_lang.specs.declared.faults.JobWhy.TheVariants.{BadValue}
use Rattle.job_lang.specs.declared.statement.Keyword.TheVariants as keyword
use Rattle.job_lang.specs.declared.statement.Statement.{Statement}
use Rattle.job_lang.specs.ClosingLooks.{statement_by, method_of}

-- a method is given, and it rounds
abbrev pub is_rounding : Option Method → Bool
is_rounding (Some (Rnd base)) = true
is_rounding other = false

-- a line that may not stand there is a fault
abbrev pub unless_line : Bool → Option Statement → Result (Unit {0}) (ℕ × JobWhy)
unless_line true (Some s) = Err (s.line, BadValue)
unless_line unwanted other = Ok tt

-- A job that rounds hides no cells, so it can hide none from a contributor: its line of a contributors' file is a
-- fault.
unfoldable pub no_rounded_contributors : List Statement → Result (Unit {0}) (ℕ × JobWhy)
no_rounded_contributors all =
    unless_line (is_rounding (method_of (statement_by keyword.Suppress all))) (statement_by keyword.Contributors all)
