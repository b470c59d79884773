-- The variables of a job looked up in metadata: the places, or the first fault with its line (own).
use Rattle.std.specs.Prelude.{ℕ, ◌+◌, ◌^◌, Bool, ◌==◌, ◌&&◌, if◌then◌else◌, List, [], ◌∷◌, map, Option, None, Some, option_map, unwrap_or, find, Result, Ok, Err}
use Rattle.std.specs.Str.{bytes_eq}
use Rattle.sdc_base.specs.CutTrees.{whole_depth}
use Rattle.sdc_base.specs.Places.{first_place}
use Rattle.sdc_base.specs.Steps.{◌>>=◌}
use Rattle.sdc_base.specs.declared.dimension.Dimension.{Dimension}
use Rattle.sdc_base.specs.declared.rule.Rules.{Rules}
use Rattle.rda_meta.specs.declared.meta.Meta.{Meta}
use Rattle.rda_meta.specs.declared.meta.Variable.{Variable}
use Rattle.job_lang.specs.declared.faults.JobWhy.{JobWhy}
use Rattle.job_lang.specs.declared.job.DepthLine.{DepthLine}
use Rattle.job_lang.specs.declared.job.Job.{Job}
use Rattle.job_lang.specs.declared.job.TableLine.{TableLine}
use Rattle.job_lang.specs.declared.bound.Bound.{Bound}
use Rattle.job_lang.specs.BindingFaults.{earliest_fault, is_named, is_spanning}

-- the places of those that pass the test, ascending, where the first of the list has this place
abbrev pub places_from : {X : Type 0} → ℕ → (X → Bool) → List X → List ℕ
places_from place test [] = []
places_from place test (x ∷ xs) = if test x then place ∷ places_from (place + 1) test xs
    else places_from (place + 1) test xs

-- the variables that span tables, in the order of the metadata
abbrev pub spanning_of : List TableLine → List Variable → List ℕ
spanning_of tables variables = places_from 0 (λ v. is_spanning tables v.name) variables

-- the place of the variable of this name
abbrev pub variable_place : List Variable → List ℕ → ℕ
variable_place variables name = unwrap_or (first_place (λ v. is_named name v) variables) 0

-- the place of the variable of this name among those that span tables
abbrev pub spanning_place : List ℕ → List Variable → List ℕ → ℕ
spanning_place spanning variables name = unwrap_or (first_place (λ k. k == variable_place variables name) spanning) 0

-- the line is of the variable of this name in the table at this place
abbrev pub is_depth_for : ℕ → List ℕ → DepthLine → Bool
is_depth_for place name line = (line.table == place) && bytes_eq line.variable name

-- the depth to which the table at this place takes the tree of the variable of this name: that of its line, and where
-- none says one the whole tree's
abbrev pub depth_of : List DepthLine → ℕ → List ℕ → ℕ
depth_of depths place name = unwrap_or (option_map (λ line. line.depth) (find (is_depth_for place name) depths)) whole_depth

-- the dimensions of the table at this place, in the order of its variables, which are places among those that span tables
abbrev pub table_dimensions : List ℕ → List Variable → List DepthLine → ℕ → TableLine → List Dimension
table_dimensions spanning variables depths place table =
    map (λ name. record { variable = spanning_place spanning variables name; depth = depth_of depths place name }) table.variables

-- the dimensions of the tables from this place on
abbrev pub dimensions_from : List ℕ → List Variable → List DepthLine → ℕ → List TableLine → List (List Dimension)
dimensions_from spanning variables depths place [] = []
dimensions_from spanning variables depths place (table ∷ tables) = table_dimensions spanning variables depths place table
    ∷ dimensions_from spanning variables depths (place + 1) tables

-- the response of the tables
abbrev pub response_of : List TableLine → List ℕ
response_of [] = []
response_of (first ∷ tables) = first.response

-- the digits behind the point of this variable
abbrev pub decimals_of : Option Variable → ℕ
decimals_of None = 0
decimals_of (Some v) = v.decimals

-- the digits behind the point of the response
abbrev pub response_decimals : List TableLine → List Variable → ℕ
response_decimals tables variables = decimals_of (find (λ v. is_named (response_of tables) v) variables)

-- the digits behind the point of the weight, where records have weights
abbrev pub weight_decimals : Rules → List Variable → ℕ
weight_decimals rules variables = if rules.weighted then decimals_of (find (λ v. v.weight) variables) else 0

-- the place of the weight, where records have weights
abbrev pub weight_place : Rules → List Variable → Option ℕ
weight_place rules variables = if rules.weighted then first_place (λ v. v.weight) variables else None

-- The variables of a job as places, each table's down to their depths. Not: the weight's digits in the unit where records have no weights.
abbrev pub places_of : Job → List Variable → Bound
places_of job variables = record {
  spanning = spanning_of job.tables variables;
  tables = dimensions_from (spanning_of job.tables variables) variables job.depths 0 job.tables;
  response = variable_place variables (response_of job.tables);
  weight = weight_place job.rules variables;
  decimals = response_decimals job.tables variables + weight_decimals job.rules variables;
  scale = 10 ^ weight_decimals job.rules variables;
}

-- nothing, or this fault
abbrev pub unless_fault : {F : Type 0} → Option F → Result (Unit {0}) F
unless_fault None = Ok tt
unless_fault (Some fault) = Err fault

-- the variables of a job as places in the metadata, or the first fault with its line
unfoldable pub bound_of : Job → Meta → Result Bound (ℕ × JobWhy)
bound_of job meta = do
  fine ← unless_fault (earliest_fault job meta.variables)
  Ok (places_of job meta.variables)
