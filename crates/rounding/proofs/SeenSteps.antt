-- The search's way through its lists: what it has seen, and what is ahead.
use Rattle.std.proofs.Common.{◌≡◌, ℕ, zero, suc, ◌+◌, ◌-◌, ◌^◌, ◌<◌, ◌≤◌, Bool, true, false, List, [], ◌∷◌, ◌++◌, length, take, All, ℤ, arith, refl, ap, sym, subst, ◌∙◌, add-one, append-nil, append_assoc, length-append, if◌then◌else◌}
use Rattle.std.proofs.lemmas.List.{take-append-le}
use Rattle.std.proofs.lemmas.List.Elements.{All-nil, All-head, All-tail, All-cons}
use Rattle.sdc_base.specs.declared.system.System.{System}
use Rattle.sdc_base.specs.Roundings.{IsRounding}
use Rattle.rounding.specs.Choices.{Choices}
use Rattle.rounding.specs.Extremes.{is_open}
use Rattle.rounding.specs.Tasks.{IsProper}
use Rattle.rounding.specs.Searches.{lists_from, lists_of, ahead_in, unrounded_count, IsRoundingList, Stops, HasSeen, lists_after}
use Rattle.rounding.proofs.SearchLemmas.{lists_few, ahead_open, after_up, after_down}
use Rattle.rounding.proofs.Opening.{none_left}
use Rattle.rounding.proofs.LeftSteps.{NoneExtends}

-- what comes after a list and those that extend it, in the search
abbrev pub after_in : System → List ℤ → ℤ → Choices → List Choices
after_in system truths base list = lists_after (is_open system truths base) (unrounded_count truths base) [] list

-- nothing has been seen
pub nothing_seen : (system : System) (truths : List ℤ) (base : ℤ) → HasSeen system truths base 0 (ahead_in system truths base [])
nothing_seen system truths base =
    let cells : ℕ = unrounded_count truths base in
    let whole : cells ≡ cells - 0 = omega arith in
    record {
      front = [];
      front_and_rest = ap (λ (k : ℕ). lists_from (is_open system truths base) k []) whole ∙ sym (append-nil (lists_from (is_open system truths base) (cells - 0) []));
      many = omega arith;
      none = All-nil (λ list. IsRoundingList system truths base list → ⊥);
    }

all_both : {X : Type 0} (P : X → Type 0) (xs ys : List X) → All P xs → All P ys → All P (xs ++ ys)
all_both {X} P [] ys first second = second
all_both {X} P (x ∷ xs) ys first second = All-cons P x (xs ++ ys) (All-head P x xs first) (all_both P xs ys (All-tail P x xs first) second)

-- further lists are behind, none of them a rounding, and so many of them are counted
pub pass : (system : System) (truths : List ℤ) (base : ℤ) (seen more : ℕ) (part rest lists : List Choices) → HasSeen system truths base seen lists → lists ≡ part ++ rest → All (λ list. IsRoundingList system truths base list → ⊥) part → more ≤ length part → HasSeen system truths base (seen + more) rest
pass system truths base seen more part rest lists has is none few = record {
  front = has.front ++ part;
  front_and_rest = has.front_and_rest ∙ ap (λ (xs : List Choices). has.front ++ xs) is ∙ sym (append_assoc has.front part rest);
  many = omega (arith, has.many, few, length-append has.front part);
  none = all_both (λ list. IsRoundingList system truths base list → ⊥) has.front part has.none none;
}

all_taken : {X : Type 0} (P : X → Type 0) (n : ℕ) (xs : List X) → All P xs → All P (take n xs)
all_taken {X} P zero xs all = All-nil P
all_taken {X} P (suc n) [] all = All-nil P
all_taken {X} P (suc n) (x ∷ xs) all = All-cons P x (take n xs) (All-head P x xs all) (all_taken P n xs (All-tail P x xs all))

-- so a search that stops here has its cause
pub seen_stops : (system : System) (truths : List ℤ) (base : ℤ) (seen : ℕ) (lists : List Choices) → HasSeen system truths base seen lists → Stops system truths base seen
seen_stops system truths base seen lists has =
    let P : Choices → Type 0 = λ list. IsRoundingList system truths base list → ⊥ in
    let all : lists_of system truths base ≡ has.front ++ lists = has.front_and_rest in
    record {
      many = omega (arith, ap (λ (xs : List Choices). length xs) all, length-append has.front lists, has.many);
      none = subst (λ (xs : List Choices). All P xs) (sym (ap (λ (xs : List Choices). take seen xs) all ∙ take-append-le seen has.front lists has.many)) (all_taken P seen has.front has.none);
    }

-- ---- what a list and those that extend it are

from_list : (opens : Choices → Bool) (left : ℕ) (list : Choices) → 1 ≤ length (lists_from opens left list)
from_list opens zero list = omega arith
from_list opens (suc left) list = omega arith

each_extends : (P : Choices → Type 0) (opens : Choices → Bool) (left : ℕ) (list : Choices) → ((rest : Choices) → P (list ++ rest)) → All P (lists_from opens left list)
each_extends P opens zero list each = All-cons P list [] (subst P (append-nil list) (each [])) (All-nil P)
each_extends P opens (suc left) list each =
    All-cons P list (if opens list then lists_from opens left (list ++ false ∷ []) ++ lists_from opens left (list ++ true ∷ []) else []) (subst P (append-nil list) (each []))
    (elim (opens list) as (λ b. All P (if b then lists_from opens left (list ++ false ∷ []) ++ lists_from opens left (list ++ true ∷ []) else [])) [
      | true ↦ all_both P (lists_from opens left (list ++ false ∷ [])) (lists_from opens left (list ++ true ∷ []))
          (each_extends P opens left (list ++ false ∷ []) (λ rest. subst P (sym (append_assoc list (false ∷ []) rest)) (each (false ∷ rest))))
          (each_extends P opens left (list ++ true ∷ []) (λ rest. subst P (sym (append_assoc list (true ∷ []) rest)) (each (true ∷ rest))))
      | false ↦ All-nil P
    ])

-- a list that no rounding extends is left out, with those that extend it
pub left_out : (system : System) (truths : List ℤ) (base : ℤ) (seen more : ℕ) (list : Choices) → NoneExtends system truths base list → more ≤ 1 → HasSeen system truths base seen (ahead_in system truths base list) → HasSeen system truths base (seen + more) (after_in system truths base list)
left_out system truths base seen more list none few has =
    let part : List Choices = lists_from (is_open system truths base) (unrounded_count truths base - length list) list in
    pass system truths base seen more part (after_in system truths base list) (ahead_in system truths base list) has refl
    (each_extends (λ one. IsRoundingList system truths base one → ⊥) (is_open system truths base) (unrounded_count truths base - length list) list none)
    (omega (arith, few, from_list (is_open system truths base) (unrounded_count truths base - length list) list))

plus_none : (system : System) (truths : List ℤ) (base : ℤ) (seen : ℕ) (lists : List Choices) → HasSeen system truths base (seen + 0) lists → HasSeen system truths base seen lists
plus_none system truths base seen lists has = let same : seen + 0 ≡ seen = omega arith in subst (λ (k : ℕ). HasSeen system truths base k lists) same has

-- past an open list with cells left the search goes on to the one with down behind it
pub on_down : (system : System) (truths : List ℤ) (base : ℤ) (seen : ℕ) (list : Choices) → is_open system truths base list ≡ true → length list < unrounded_count truths base → HasSeen system truths base seen (ahead_in system truths base list) → HasSeen system truths base (seen + 1) (ahead_in system truths base (list ++ false ∷ []))
on_down system truths base seen list opens short has =
    pass system truths base seen 1 (list ∷ []) (ahead_in system truths base (list ++ false ∷ [])) (ahead_in system truths base list) has (ahead_open (is_open system truths base) (unrounded_count truths base) list short opens)
    (All-cons (λ one. IsRoundingList system truths base one → ⊥) list [] (λ rounds. omega (arith, rounds.one_for_each, short)) (All-nil (λ one. IsRoundingList system truths base one → ⊥))) (omega arith)

-- or to the one with up, where no rounding extends the other
pub on_up : (system : System) (truths : List ℤ) (base : ℤ) (seen : ℕ) (list : Choices) → is_open system truths base list ≡ true → length list < unrounded_count truths base → NoneExtends system truths base (list ++ false ∷ []) → HasSeen system truths base seen (ahead_in system truths base list) → HasSeen system truths base (seen + 1) (ahead_in system truths base (list ++ true ∷ []))
on_up system truths base seen list opens short none has =
    subst (λ (lists : List Choices). HasSeen system truths base (seen + 1) lists) (after_down (is_open system truths base) (unrounded_count truths base) list)
    (plus_none system truths base (seen + 1) (after_in system truths base (list ++ false ∷ [])) (left_out system truths base (seen + 1) 0 (list ++ false ∷ []) none (omega arith) (on_down system truths base seen list opens short has)))

-- after a list that ends in up comes what comes after the list without it
pub back_up : (system : System) (truths : List ℤ) (base : ℤ) (list : Choices) → after_in system truths base (list ++ true ∷ []) ≡ after_in system truths base list
back_up system truths base list = after_up (is_open system truths base) (unrounded_count truths base) list

-- after one that ends in down comes the one with up, on from it
pub back_down : (system : System) (truths : List ℤ) (base : ℤ) (list : Choices) → after_in system truths base (list ++ false ∷ []) ≡ ahead_in system truths base (list ++ true ∷ [])
back_down system truths base list = after_down (is_open system truths base) (unrounded_count truths base) list

-- or what comes after the list without it, where no rounding extends the one with up
pub back_past : (system : System) (truths : List ℤ) (base : ℤ) (seen : ℕ) (list : Choices) → NoneExtends system truths base (list ++ true ∷ []) → HasSeen system truths base seen (after_in system truths base (list ++ false ∷ [])) → HasSeen system truths base seen (after_in system truths base list)
back_past system truths base seen list none has =
    let ahead : HasSeen system truths base seen (ahead_in system truths base (list ++ true ∷ [])) = subst (λ (lists : List Choices). HasSeen system truths base seen lists) (back_down system truths base list) has in
    subst (λ (lists : List Choices). HasSeen system truths base seen lists) (back_up system truths base list)
    (plus_none system truths base seen (after_in system truths base (list ++ true ∷ [])) (left_out system truths base seen 0 (list ++ true ∷ []) none (omega arith) ahead))

-- one list is looked at
pub looked_stops : (system : System) (truths : List ℤ) (base : ℤ) (seen : ℕ) (list : Choices) → (IsRoundingList system truths base list → ⊥) → HasSeen system truths base seen (ahead_in system truths base list) → Stops system truths base (seen + 1)
looked_stops system truths base seen list not has =
    let whole = first_of (is_open system truths base) (unrounded_count truths base - length list) list in
    let lists : List Choices = whole.0 ++ after_in system truths base list in
    seen_stops system truths base (seen + 1) lists
    (pass system truths base seen 1 (list ∷ []) lists (ahead_in system truths base list) has (ap (λ (xs : List Choices). xs ++ after_in system truths base list) whole.1)
    (All-cons (λ one. IsRoundingList system truths base one → ⊥) list [] not (All-nil (λ one. IsRoundingList system truths base one → ⊥))) (omega arith))
  where
    first_of : (opens : Choices → Bool) (left : ℕ) (list : Choices) → (later : List Choices) × (lists_from opens left list ≡ list ∷ later)
    first_of opens zero list = ([], refl)
    first_of opens (suc left) list = ((if opens list then lists_from opens left (list ++ false ∷ []) ++ lists_from opens left (list ++ true ∷ []) else []), refl)

-- ---- the ends

-- where nothing is ahead, there is no rounding
pub none_ahead : (system : System) (truths : List ℤ) (base : ℤ) (seen : ℕ) → IsProper system truths base → HasSeen system truths base seen [] → (values : List ℤ) → IsRounding system truths base values → ⊥
none_ahead system truths base seen proper has values rounding =
    none_left system truths base proper (subst (λ (lists : List Choices). All (λ list. IsRoundingList system truths base list → ⊥) lists) (sym (has.front_and_rest ∙ append-nil has.front)) has.none) values rounding

-- a search has fewer lists than twice 2 to the number of its cells
pub stops_below : (system : System) (truths : List ℤ) (base : ℤ) (nodes : ℕ) → 2 ^ (unrounded_count truths base + 1) ≤ nodes → Stops system truths base nodes → ⊥
stops_below system truths base nodes enough stops =
    let few = lists_few (is_open system truths base) (unrounded_count truths base) [] in
    let same : 2 ^ suc (unrounded_count truths base) ≡ 2 ^ (unrounded_count truths base + 1) = ap (λ (k : ℕ). 2 ^ k) (sym (add-one (unrounded_count truths base))) in
    omega (arith, few, same, enough, stops.many)
