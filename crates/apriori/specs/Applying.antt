-- The statements of an a priori file, or the first line with a fault, and the priors that they make (own).
use Rattle.std.specs.Prelude.{ℕ, ◌+◌, ◌==◌, if◌then◌else◌, List, [], ◌∷◌, ◌++◌, length, slice_index_or, Result, Ok}
use Rattle.sdc_base.specs.Steps.{◌>>=◌, refuse, map_fault}
use Rattle.sdc_base.specs.Blanks.{trim}
use Rattle.sdc_base.specs.Lines.{lines}
use Rattle.apriori.specs.declared.prior.Prior.{Prior}
use Rattle.apriori.specs.declared.statement.Statement.{Statement}
use Rattle.apriori.specs.declared.statement.Form.{Form}
use Rattle.apriori.specs.declared.faults.PriorWhy.{PriorWhy}
use Rattle.apriori.specs.declared.faults.PriorWhy.TheVariants.{Twice}
use Rattle.apriori.specs.Faults.{LineOf}
use Rattle.apriori.specs.Priors.{empty_prior}
use Rattle.apriori.specs.Statements.{statement_of}
use Rattle.apriori.specs.KnownCells.{Basis}
use Rattle.apriori.specs.CellStatements.{priors_from, contradicts}

-- what the earlier priors and the statements so far say of a cell
abbrev pub said_of : ℕ → List Prior → List Statement → ℕ → Prior
said_of table priors statements cell = slice_index_or (priors_from table 0 priors statements) cell empty_prior

-- The statement of a line behind others, which must not contradict what is said of its cell.
unfoldable pub statement_behind : Basis → Form → List Prior → List Statement → ℕ → List ℕ → Result Statement PriorWhy
statement_behind basis form priors so_far line text = do
  said ← statement_of basis form line text
  fresh ← refuse Twice (contradicts (said_of form.table priors so_far said.cell) said.claim)
  Ok said

-- one statement more, unless the line is blank
unfoldable pub line_says : Basis → Form → List Prior → List Statement → ℕ → List ℕ → Result (List Statement) PriorWhy
line_says basis form priors so_far line text = if length (trim text) == 0 then Ok so_far else do
  said ← statement_behind basis form priors so_far line text
  Ok (so_far ++ said ∷ [])

-- a fault behind its table and line
abbrev pub at_line : {A : Type 0} → ℕ → ℕ → Result A PriorWhy → Result A (LineOf × PriorWhy)
at_line table line given = map_fault (λ why. ((table, line), why)) given

-- the statements of lines behind so many others, or the first fault
unfoldable pub lines_say : Basis → Form → List Prior → List Statement → ℕ → List (List ℕ)
    → Result (List Statement) (LineOf × PriorWhy)
lines_say basis form priors so_far before [] = Ok so_far
lines_say basis form priors so_far before (text ∷ texts) = do
  next ← at_line form.table (before + 1) (line_says basis form priors so_far (before + 1) text)
  lines_say basis form priors next (before + 1) texts

-- What a file says: each prior together with the statements about its cell, or the first line with a fault.
unfoldable pub apply_of : Basis → Form → List Prior → List ℕ → Result (List Prior) (LineOf × PriorWhy)
apply_of basis form priors bytes = do
  statements ← lines_say basis form priors [] 0 (lines bytes)
  Ok (priors_from form.table 0 priors statements)

-- the same for the file of this table, whose fields this byte separates, with amounts of so many decimals
abbrev pub file_says : Basis → ℕ → ℕ → ℕ → List Prior → List ℕ → Result (List Prior) (LineOf × PriorWhy)
file_says basis table separator decimals priors bytes =
    apply_of basis (record { table = table; separator = separator; decimals = decimals }) priors bytes
