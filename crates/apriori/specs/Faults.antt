-- The faults of a priori files with the table and the line of each, as errors name them (own); want of memory names
-- none.
use Rattle.std.specs.Prelude.{ℕ, Option, None, Some}
use Rattle.apriori.specs.declared.faults.PriorWhy.{PriorWhy}
use Rattle.apriori.specs.declared.faults.PriorError.{PriorError}
use Rattle.apriori.specs.declared.faults.PriorError.TheVariants as prior_error

-- a line of a table's a priori file: the table from 0, the line from 1
abbrev pub LineOf : Type 0
LineOf = ℕ × ℕ

-- the fault of an error, behind its line
abbrev pub prior_fault_of : PriorError → Option (LineOf × PriorWhy)
prior_fault_of prior_error.Memory = None
prior_fault_of (prior_error.At table line why) = Some ((table, line), why)

-- what is wrong with a line, whatever its number
abbrev pub fault_itself : PriorWhy → Option PriorWhy
fault_itself why = Some why
