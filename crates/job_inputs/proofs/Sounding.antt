-- What was read of job and metadata meets what binding wants.
use Rattle.std.proofs.Common.{◌≡◌, ℕ, suc, ◌+◌, ◌≤◌, true, false, cond, List, [], ◌∷◌, length, Some, Result, Ok, Err, refl, sym, arith}
use Rattle.std.specs.Prelude.{slice_get, IsTrue}
use Rattle.std.specs.List.{AllByRecursion, count_by}
use Rattle.std.proofs.lemmas.List.Sums.{sum_by-cons}
use Rattle.rda_meta.specs.Limits.{IsMeta, weights}
use Rattle.rda_meta.specs.declared.meta.Meta.{Meta}
use Rattle.rda_meta.specs.declared.meta.Variable.{Variable}
use Rattle.job_lang.specs.BoundLimits.{AreVariables}
use Rattle.job_lang.specs.JobLimits.{IsJob, AreTables}
use Rattle.job_lang.specs.declared.job.Job.{Job}
use Rattle.job_lang.specs.declared.bound.Bound.{Bound}
use Rattle.job_lang.specs.declared.faults.JobWhy.{JobWhy}
use Rattle.job_lang.specs.Binding.{bound_of, places_of, unless_fault}
use Rattle.job_lang.specs.BindingFaults.{earliest_fault}
use Rattle.sdc_base.specs.Steps.{◌>>=◌}

pub job_tables : (job : Job) → IsJob job → AreTables job.tables
job_tables job h = h.tables

-- what holds at each place holds of each
pub at_each : {X : Type 0} (P : X → Type 0) (xs : List X) → ((place : ℕ) (x : X) → slice_get xs place ≡ Some x → P x) → AllByRecursion P xs
at_each P [] h = tt
at_each P (x ∷ xs) h = (h 0 x refl, at_each P xs (λ place y is. h (suc place) y is))

as-many : (vs : List Variable) → count_by (λ (v : Variable). v.weight) vs ≡ length (weights vs)
as-many [] = refl
as-many (v ∷ vs) =
    let rest : count_by (λ (x : Variable). x.weight) vs ≡ length (weights vs) = as-many vs in
    rw (sum_by-cons (λ (x : Variable). cond x.weight 1 0) v vs)
    (elim v.weight as (λ t. cond t 1 0 + count_by (λ (x : Variable). x.weight) vs ≡ length (cond t (v ∷ weights vs) (weights vs))) [ true ↦ omega (arith, rest) | false ↦ omega (arith, rest) ])

pub meta_variables : (meta : Meta) → IsMeta meta → AreVariables meta.variables
meta_variables meta h = record {
  at_most_64_variables = h.at_most_64_variables;
  names = h.distinct;
  weights = rw (as-many meta.variables) h.one_weight;
  decimals = at_each (λ (v : Variable). v.decimals ≤ 9) meta.variables (λ place v is. (h.each place v is).at_most_9_decimals);
  weight_decimals = at_each (λ (v : Variable). IsTrue v.weight → v.decimals ≤ 4) meta.variables (λ place v is. (h.each place v is).weight_at_most_4_decimals);
}

pub bound-is : (job : Job) (meta : Meta) (bound : Bound) → bound_of job meta ≡ Ok bound → bound ≡ places_of job meta.variables
unfolding bound_of
bound-is job meta bound h = by-fault (unless_fault (earliest_fault job meta.variables)) h
  where
    by-fault : (r : Result (Unit {0}) (ℕ × JobWhy)) → (r >>= (λ fine. Ok (places_of job meta.variables))) ≡ Ok bound → bound ≡ places_of job meta.variables
    by-fault (Ok x) h = let same : places_of job meta.variables ≡ bound = cc in sym same
    by-fault (Err e) h = absurd cc
