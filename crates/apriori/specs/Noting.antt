-- The same one statement after another: each is noted in the prior of its cell (own).
use Rattle.std.specs.Prelude.{ℕ, ◌+◌, ◌==◌, if◌then◌else◌, List, [], ◌∷◌, length, slice_index_or, slice_set, Result, Ok}
use Rattle.std.specs.Option.{option_or}
use Rattle.sdc_base.specs.Steps.{◌>>=◌, refuse}
use Rattle.sdc_base.specs.Blanks.{trim}
use Rattle.apriori.specs.declared.prior.Prior.{Prior}
use Rattle.apriori.specs.declared.statement.Statement.{Statement}
use Rattle.apriori.specs.declared.statement.Form.{Form}
use Rattle.apriori.specs.declared.faults.PriorWhy.{PriorWhy}
use Rattle.apriori.specs.declared.faults.PriorWhy.TheVariants.{Twice}
use Rattle.apriori.specs.Faults.{LineOf}
use Rattle.apriori.specs.Priors.{empty_prior}
use Rattle.apriori.specs.Statements.{statement_of}
use Rattle.apriori.specs.KnownCells.{Basis}
use Rattle.apriori.specs.CellStatements.{status_in, line_in, price_in, levels_in, bounds_in, contradicts}
use Rattle.apriori.specs.Applying.{at_line}

-- a prior with one statement more
abbrev pub with_statement : ℕ → Prior → Statement → Prior
with_statement table prior said = record {
  status = option_or prior.status (status_in said.claim);
  keep = option_or prior.keep (line_in table said.line said.claim);
  price = option_or prior.price (price_in said.claim);
  levels = option_or prior.levels (levels_in said.claim);
  bounds = option_or prior.bounds (bounds_in said.claim);
}

-- the statement is noted in the prior of its cell, unless it contradicts it
unfoldable pub after_statement : ℕ → List Prior → Statement → Result (List Prior) PriorWhy
after_statement table priors said = do
  fresh ← refuse Twice (contradicts (slice_index_or priors said.cell empty_prior) said.claim)
  Ok (slice_set priors said.cell (with_statement table (slice_index_or priors said.cell empty_prior) said))

-- what a line states is noted, unless the line is blank
unfoldable pub line_noted : Basis → Form → ℕ → List ℕ → List Prior → Result (List Prior) PriorWhy
line_noted basis form line text priors = if length (trim text) == 0 then Ok priors else do
  said ← statement_of basis form line text
  after_statement form.table priors said

-- the lines behind so many others, one after another
unfoldable pub lines_noted : Basis → Form → ℕ → List (List ℕ) → List Prior → Result (List Prior) (LineOf × PriorWhy)
lines_noted basis form before [] priors = Ok priors
lines_noted basis form before (text ∷ texts) priors = do
  next ← at_line form.table (before + 1) (line_noted basis form (before + 1) text priors)
  lines_noted basis form (before + 1) texts next
