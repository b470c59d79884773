-- The places of a bound job are those of the variables that the job names.
use Rattle.std.proofs.Common.{◌≡◌, ℕ, ◌+◌, List, [], ◌∷◌, map, Option, None, ap, ◌∙◌, subst}
use Rattle.std.proofs.lemmas.Slice.Eq.{bytes_eq-Decides}
use Rattle.std.specs.Prelude.{unwrap_or, slice_get}
use Rattle.std.specs.List.{AllByRecursion, list_any}
use Rattle.sdc_base.proofs.StepLemmas.{bind_ok}
use Rattle.rda_meta.specs.declared.meta.Variable.{Variable}
use Rattle.job_lang.specs.declared.job.DepthLine.{DepthLine}
use Rattle.job_lang.specs.declared.job.TableLine.{TableLine}
use Rattle.job_lang.specs.declared.bound.Bound.{Bound}
use Rattle.job_lang.specs.Binding.{bound_of, places_of, response_of, spanning_of, spanning_place, dimensions_from, unless_fault, variable_place}
use Rattle.job_lang.specs.BindingFaults.{earliest_fault, is_named, table_fault}
use Rattle.job_lang.specs.BoundNames.{AreNamedAt, BoundAsNamed, HaveNamesAt, IsNamedAt, PlacesHaveNames}
use Rattle.job_lang.proofs.BoundHolds.{IsSpot, dimensions_of, clean, fine, first_found, not_false, spot, tables_spots}
use Rattle.job_lang.proofs.NamesApart.{no_fault}

names_at : (spanning : List ℕ) (variables : List Variable) (depths : List DepthLine) (place : ℕ) (names : List (List ℕ)) → AllByRecursion (IsSpot spanning variables) names
    → AreNamedAt variables spanning (dimensions_of spanning variables depths place names) names
names_at spanning variables depths place [] all = tt
names_at spanning variables depths place (q ∷ names) all = ((variable_place variables q, all.0.among, (all.0.variable, all.0.at, all.0.named)), names_at spanning variables depths place names all.1)

tables_at : (spanning : List ℕ) (variables : List Variable) (depths : List DepthLine) (place : ℕ) (tables : List TableLine) → AllByRecursion (λ t. AllByRecursion (IsSpot spanning variables) t.variables) tables
    → HaveNamesAt variables spanning (dimensions_from spanning variables depths place tables) tables
tables_at spanning variables depths place [] all = tt
tables_at spanning variables depths place (t ∷ tables) all = (names_at spanning variables depths place t.variables all.0, tables_at spanning variables depths (place + 1) tables all.1)

-- the response of a table without a fault has a place, where the variable of its name stands
named_at : (variables : List Variable) (t : TableLine) → table_fault variables t ≡ None → IsNamedAt variables (variable_place variables t.response) t.response
named_at variables t none =
    let found = first_found (λ v. is_named t.response v) variables (not_false (list_any (λ v. is_named t.response v) variables) (fine variables t none).known) in
    let place : variable_place variables t.response ≡ found.0 = ap (λ (o : Option ℕ). unwrap_or o 0) found.2.first in
    (found.1, ap (slice_get variables) place ∙ found.2.at, (bytes_eq-Decides found.1.name t.response).0 found.2.passes)

responses_at : (variables : List Variable) (response : List ℕ) (tables : List TableLine) → AllByRecursion (λ t. t.response ≡ response) tables → AllByRecursion (λ t. table_fault variables t ≡ None) tables
    → AllByRecursion (λ t. IsNamedAt variables (variable_place variables response) t.response) tables
responses_at variables response [] one all = tt
responses_at variables response (t ∷ tables) one all =
    (subst (λ (name : List ℕ). IsNamedAt variables (variable_place variables name) t.response) one.0 (named_at variables t all.0), responses_at variables response tables one.1 all.1)

pub bound_as_named : BoundAsNamed
unfolding bound_of
bound_as_named job meta bound are h =
    let first = bind_ok (unless_fault (earliest_fault job meta.variables)) _ bound h in
    let free = clean job meta.variables (no_fault (earliest_fault job meta.variables) first.0 first.1) in
    let is : places_of job meta.variables ≡ bound = cc in
    let spots = tables_spots (spanning_of job.tables meta.variables) meta.variables job.tables (λ q g. spot job.tables meta.variables q free.tables g) in
    subst (λ (bound : Bound). PlacesHaveNames job meta.variables bound) is (record {
      tables = tables_at (spanning_of job.tables meta.variables) meta.variables job.depths 0 job.tables spots;
      response = responses_at meta.variables (response_of job.tables) job.tables are.response free.tables;
    })
