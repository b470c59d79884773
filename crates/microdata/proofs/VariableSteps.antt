-- The codes of a record, one variable after another.
use Rattle.std.proofs.Common.{◌≡◌, ℕ, suc, ◌+◌, ◌≤◌, ◌<◌, List, [], ◌∷◌, ◌++◌, length, drop, Result, Ok, Err, refl, ap, sym, ◌∙◌, append_assoc, append-nil, get_or, drop-cons, add-one}
use Rattle.std.proofs.lemmas.List.{drop_all}
use Rattle.sdc_base.specs.Answers.{Fails}
use Rattle.sdc_base.specs.Steps.{◌>>=◌}
use Rattle.plain_text.specs.Stops.{why_of}
use Rattle.microdata.specs.OneRecord.{variable_says, variables_say}
use Rattle.microdata.specs.declared.faults.RowWhy.{RowWhy}
use Rattle.plain_text.specs.declared.stop.Stop.{Stop}
use Rattle.plain_text.specs.declared.stop.Stop.TheVariants as stop
use Rattle.microdata.specs.declared.record.Variable.{Variable}

-- these variables and places, and those that follow
abbrev pub with_fronts : List Variable → List ℕ → Result (List Variable × List ℕ) RowWhy → Result (List Variable × List ℕ) RowWhy
with_fronts front places read = read >>= λ rest. Ok (front ++ rest.0, places ++ rest.1)

regrouped : (front : List Variable) (places : List ℕ) (next : Variable) (place : ℕ) (read : Result (List Variable × List ℕ) RowWhy)
    → with_fronts front places (read >>= λ rest. Ok (next ∷ rest.0, place ∷ rest.1)) ≡ with_fronts (front ++ next ∷ []) (places ++ place ∷ []) read
regrouped front places next place (Err why) = refl
regrouped front places next place (Ok rest) = ap (λ (both : List Variable × List ℕ). Ok both) (rw (append_assoc front (next ∷ []) rest.0, append_assoc places (place ∷ []) rest.1) refl)

pub fronts_next : (front : List Variable) (places : List ℕ) (variable next : Variable) (place : ℕ) (rest : List Variable) (line : List ℕ) → variable_says variable line ≡ Ok (next, place)
    → with_fronts front places (variables_say (variable ∷ rest) line) ≡ with_fronts (front ++ next ∷ []) (places ++ place ∷ []) (variables_say rest line)
unfolding variables_say
fronts_next front places variable next place rest line said = rw said (regrouped front places next place (variables_say rest line))

pub fronts_stop : (e : Stop RowWhy) (front : List Variable) (places : List ℕ) (variable : Variable) (rest : List Variable) (line : List ℕ) → Fails (why_of e) (variable_says variable line)
    → Fails (why_of e) (with_fronts front places (variables_say (variable ∷ rest) line))
unfolding variables_say
fronts_stop stop.Memory front places variable rest line h = tt
fronts_stop (stop.Fault why) front places variable rest line h = rw h refl

pub fronts_end : (front : List Variable) (places : List ℕ) (rest : List Variable) (line : List ℕ) → rest ≡ [] → with_fronts front places (variables_say rest line) ≡ Ok (front, places)
unfolding variables_say
fronts_end front places rest line none = rw (none, append-nil front, append-nil places) refl

-- what stands at a place and behind it
pub at_place : {A : Type 0} (items : List A) (k : ℕ) (item : A) → k < length items → item ≡ get_or items k item → drop k items ≡ item ∷ drop (k + 1) items
at_place {A} items k item inside is = drop-cons items k item inside ∙ ap (λ (x : A). x ∷ drop (suc k) items) (sym is) ∙ ap (λ n. item ∷ drop n items) (sym (add-one k))

pub past_end : {A : Type 0} (items : List A) (k : ℕ) → length items ≤ k → drop k items ≡ []
past_end items k h = drop_all k items h
