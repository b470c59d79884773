-- Metadata within their limits can have a job bound to them.
use Rattle.std.proofs.Common.{◌≡◌, ℕ, suc, ◌≤◌, List, [], ◌∷◌, refl, arith}
use Rattle.std.proofs.lemmas.List.Sums.{length-filter}
use Rattle.std.specs.Prelude.{slice_get, Some, IsTrue}
use Rattle.std.specs.List.{AllByRecursion}
use Rattle.rda_meta.specs.declared.meta.Variable.{Variable}
use Rattle.job_lang.specs.Laws.{MetadataFit}

each_holds : (P : Variable → Type 0) (variables : List Variable) → ((place : ℕ) (v : Variable) → slice_get variables place ≡ Some v → P v) → AllByRecursion P variables
each_holds P [] h = tt
each_holds P (v ∷ variables) h = (h 0 v refl, each_holds P variables (λ place w at. h (suc place) w at))

pub metadata_fit : MetadataFit
metadata_fit meta is = record {
  at_most_64_variables = is.at_most_64_variables;
  names = is.distinct;
  weights = let count = length-filter (λ (v : Variable). v.weight) meta.variables in omega (arith, count, is.one_weight);
  decimals = each_holds (λ v. v.decimals ≤ 9) meta.variables (λ place v at. (is.each place v at).at_most_9_decimals);
  weight_decimals = each_holds (λ v. IsTrue v.weight → v.decimals ≤ 4) meta.variables (λ place v at. (is.each place v at).weight_at_most_4_decimals);
}
