-- Depths of variables that their table doesn't span (own).
use Rattle.std.specs.Prelude.{ℕ, Bool, false, not, if◌then◌else◌, List, [], ◌∷◌, Option, None, Some, slice_get, Result, Ok, Err}
use Rattle.std.specs.List.{list_any}
use Rattle.std.specs.Str.{bytes_eq}
use Rattle.job_lang.specs.declared.faults.JobWhy.{JobWhy}
use Rattle.job_lang.specs.declared.faults.JobWhy.TheVariants.{NotInTable}
use Rattle.job_lang.specs.declared.job.TableLine.{TableLine}
use Rattle.job_lang.specs.declared.statement.Instruction.{Instruction}
use Rattle.job_lang.specs.declared.statement.Instruction.TheVariants as said
use Rattle.job_lang.specs.declared.statement.Statement.{Statement}
use Rattle.job_lang.specs.ClosingLooks.{table_place}

-- the variable of this name spans the table, byte for byte
abbrev pub spans_table : List ℕ → Option TableLine → Bool
spans_table name None = false
spans_table name (Some table) = list_any (λ other. bytes_eq other name) table.variables

-- a depth of a variable that its table doesn't span
abbrev pub is_outside : List TableLine → Instruction → Bool
is_outside tables (said.Depth number variable depth) = not (spans_table variable (slice_get tables (table_place number)))
is_outside tables one = false

-- the first such line is a fault
unfoldable pub no_outside : List TableLine → List Statement → Result (Unit {0}) (ℕ × JobWhy)
no_outside tables [] = Ok tt
no_outside tables (s ∷ rest) = if is_outside tables s.said then Err (s.line, NotInTable) else no_outside tables rest
