-- Commands that a job must have (own).
use Rattle.std.specs.Prelude.{ℕ, zero, suc, ◌+◌, List, [], ◌∷◌, Option, Result, Ok}
use Rattle.sdc_base.specs.Steps.{◌>>=◌, or_fault}
use Rattle.job_lang.specs.declared.faults.JobWhy.{JobWhy}
use Rattle.job_lang.specs.declared.faults.JobWhy.TheVariants.{Missing}
use Rattle.job_lang.specs.declared.faults.Command.{Command}
use Rattle.job_lang.specs.declared.faults.Command.TheVariants as command
use Rattle.job_lang.specs.declared.job.OutputLine.{OutputLine}
use Rattle.job_lang.specs.declared.statement.Statement.{Statement}
use Rattle.job_lang.specs.ClosingLooks.{file_line, output_said}

-- a job must have this command
abbrev pub needed_value : {A : Type 0} → Command → Option A → Result A (ℕ × JobWhy)
needed_value which found = or_fault (0, Missing which) found

-- the output of the table at this place, which must have one
abbrev pub output_of_table : ℕ → List Statement → Result OutputLine (ℕ × JobWhy)
output_of_table place all = needed_value command.WriteTable (file_line (output_said place all))

-- the outputs of so many tables from this place on
unfoldable pub outputs_from : ℕ → ℕ → List Statement → Result (List OutputLine) (ℕ × JobWhy)
outputs_from zero place all = Ok []
outputs_from (suc more) place all = do
  output ← output_of_table place all
  outputs ← outputs_from more (place + 1) all
  Ok (output ∷ outputs)
