-- What binding means: the places of a bound job are those of the variables that the job names (own).
use Rattle.std.specs.Prelude.{◌≡◌, ℕ, true, false, List, [], ◌∷◌, Some, Ok, slice_get}
use Rattle.std.specs.List.{AllByRecursion}
use Rattle.sdc_base.specs.declared.dimension.Dimension.{Dimension}
use Rattle.rda_meta.specs.declared.meta.Meta.{Meta}
use Rattle.rda_meta.specs.declared.meta.Variable.{Variable}
use Rattle.job_lang.specs.declared.job.Job.{Job}
use Rattle.job_lang.specs.declared.job.TableLine.{TableLine}
use Rattle.job_lang.specs.declared.bound.Bound.{Bound}
use Rattle.job_lang.specs.JobLimits.{AreTables}
use Rattle.job_lang.specs.Binding.{bound_of}

-- the variable at this place of the metadata has this name
abbrev pub IsNamedAt : List Variable → ℕ → List ℕ → Type 0
IsNamedAt variables place name = (v : Variable) × (slice_get variables place ≡ Some v) × (v.name ≡ name)

-- the variable at this place of those that span tables has this name
abbrev pub IsSpannedAt : List Variable → List ℕ → ℕ → List ℕ → Type 0
IsSpannedAt variables spanning k name =
    (place : ℕ) × (slice_get spanning k ≡ Some place) × IsNamedAt variables place name

-- these dimensions are, one by one, of the variables with these names
abbrev pub AreNamedAt : List Variable → List ℕ → List Dimension → List (List ℕ) → Type 0
AreNamedAt variables spanning [] [] = Unit {0}
AreNamedAt variables spanning (one ∷ dimensions) (name ∷ names) = IsSpannedAt variables spanning one.variable name
    × AreNamedAt variables spanning dimensions names
AreNamedAt variables spanning dimensions names = true ≡ false

-- each table has the dimensions of the variables that its line names, in the line's order
abbrev pub HaveNamesAt : List Variable → List ℕ → List (List Dimension) → List TableLine → Type 0
HaveNamesAt variables spanning [] [] = Unit {0}
HaveNamesAt variables spanning (dimensions ∷ rest) (table ∷ tables) = AreNamedAt variables spanning dimensions table.variables
    × HaveNamesAt variables spanning rest tables
HaveNamesAt variables spanning rest tables = true ≡ false

-- The places of a bound job are those of the variables that its lines name. Not: the first variable where a name is
-- none's.
pub record PlacesHaveNames (job : Job) (variables : List Variable) (bound : Bound) : Type 0 where
  pub tables : HaveNamesAt variables bound.spanning bound.tables job.tables
  pub response : AllByRecursion (λ table. IsNamedAt variables bound.response table.response) job.tables

-- At the places of each job that is bound stand the variables that the job names, for every table.
abbrev pub BoundAsNamed : Type 0
BoundAsNamed =
    (job : Job) (meta : Meta) (bound : Bound) → AreTables job.tables → bound_of job meta ≡ Ok bound
    → PlacesHaveNames job meta.variables bound
