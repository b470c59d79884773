-- What binding needs of metadata, and what holds of a job that is bound (own).
use Rattle.std.specs.Prelude.{◌≡◌, ◌==◌, ℕ, ◌^◌, ◌<◌, ◌≤◌, Bool, true, false, IsTrue, List, [], ◌∷◌, length, map, Some, slice_get}
use Rattle.std.specs.List.{AllByRecursion, IsDistinct, count_by}
use Rattle.std.specs.Str.{bytes_eq}
use Rattle.rda_meta.specs.declared.meta.Variable.{Variable}
use Rattle.job_lang.specs.declared.job.Job.{Job}
use Rattle.job_lang.specs.declared.bound.Bound.{Bound}
use Rattle.job_lang.specs.Binding.{weight_decimals}

-- Metadata of which a job can be bound: at most 64 variables of distinct names, one of them a weight at most; at most 9
-- digits behind the point, and of a weight at most 4.
pub record AreVariables (variables : List Variable) : Type 0 where
  pub at_most_64_variables : length variables ≤ 64
  pub names : IsDistinct bytes_eq (map (λ v. v.name) variables)
  pub weights : count_by (λ v. v.weight) variables ≤ 1
  pub decimals : AllByRecursion (λ v. v.decimals ≤ 9) variables
  pub weight_decimals : AllByRecursion (λ v. IsTrue v.weight → v.decimals ≤ 4) variables

-- each place is below those behind it
abbrev pub AreAscending : List ℕ → Type 0
AreAscending [] = Unit {0}
AreAscending (place ∷ places) = AllByRecursion (λ other. place < other) places × AreAscending places

-- the variable at this place is a number, or isn't one
abbrev pub IsNumericAt : Bool → List Variable → ℕ → Type 0
IsNumericAt numeric variables place = (v : Variable) × (slice_get variables place ≡ Some v) × (v.numeric ≡ numeric)

-- A bound job: the variables that span its tables ascend and aren't numeric, the tables have places among them, none
-- twice, and the response is numeric.
pub record IsBound (job : Job) (variables : List Variable) (bound : Bound) : Type 0 where
  pub ascending : AreAscending bound.spanning
  pub at_most_8_spanning : length bound.spanning ≤ 8
  pub spanning : AllByRecursion (IsNumericAt false variables) bound.spanning
  pub tables : map (λ dimensions. length dimensions) bound.tables ≡ map (λ t. length t.variables) job.tables
  pub within : AllByRecursion (λ dimensions. AllByRecursion (λ one. one.variable < length bound.spanning) dimensions) bound.tables
  pub once : AllByRecursion (λ dimensions. IsDistinct ◌==◌ (map (λ one. one.variable) dimensions)) bound.tables
  pub response : IsNumericAt true variables bound.response
  pub decimals : bound.decimals ≤ 13
  pub scale : (bound.scale ≡ 10 ^ weight_decimals job.rules variables) × (weight_decimals job.rules variables ≤ 4)
