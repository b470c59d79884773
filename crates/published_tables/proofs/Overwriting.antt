-- Whether a variable that spans a table passes a test, by the places of these variables.
use Rattle.std.proofs.Common.{◌≡◌, ℕ, Bool, false, ◌||◌, List, [], ◌∷◌, Option, None, Some, refl, ap, sym, ◌∙◌}
use Rattle.std.specs.Prelude.{slice_get}
use Rattle.std.specs.List.{list_any}
use Rattle.std.specs.Option.{option_map_or}
use Rattle.rda_meta.specs.declared.meta.Variable.{Variable}
use Rattle.job_inputs.specs.Layouts.{with_variable, variables_at}

any_front : (test : Variable → Bool) (place : ℕ) (o : Option Variable) (rest : List (ℕ × Variable)) → list_any (λ (one : ℕ × Variable). test one.1) (with_variable place o rest) ≡ (option_map_or test o false || list_any (λ (one : ℕ × Variable). test one.1) rest)
any_front test place None rest = refl
any_front test place (Some v) rest = refl

-- one of them passes where one at a place does
pub any_spanning : (test : Variable → Bool) (variables : List Variable) (places : List ℕ) → list_any (λ (place : ℕ). option_map_or test (slice_get variables place) false) places ≡ list_any (λ (one : ℕ × Variable). test one.1) (variables_at variables places)
any_spanning test variables [] = refl
any_spanning test variables (place ∷ places) =
    ap (λ (b : Bool). option_map_or test (slice_get variables place) false || b) (any_spanning test variables places)
    ∙ sym (any_front test place (slice_get variables place) (variables_at variables places))
