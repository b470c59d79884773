-- One part, or one multiplier, more.
use Rattle.std.proofs.Common.{◌≡◌, ℕ, ◌+◌, ◌<◌, List, [], ◌∷◌, ◌++◌, length, map, drop, get_or, slice_get, Some, ℤ, neg_ℤ, ap, sym, ◌∙◌, refl}
use Rattle.std.specs.Option.{option_map_or}
use Rattle.std.proofs.lemmas.List.{drop_more, append_assoc}
use Rattle.sdc_base.specs.declared.relation.Relation.{Relation}
use Rattle.sdc_base.specs.Forms.{Term, form_times, weighted_forms}

pub part_next : (times : ℤ) (parts : List ℕ) (i d : ℕ) (rest : List Term) → i < length parts → map (λ part. (part, neg_ℤ times)) (drop i parts) ++ rest ≡ (get_or parts i d, neg_ℤ times) ∷ (map (λ part. (part, neg_ℤ times)) (drop (i + 1) parts) ++ rest)
part_next times parts i d rest inside = ap (λ (ps : List ℕ). map (λ part. (part, neg_ℤ times)) ps ++ rest) (drop_more parts i d inside)

append_nil : (l : List Term) → l ++ [] ≡ l
append_nil [] = refl
append_nil (t ∷ l) = ap (λ (r : List Term). t ∷ r) (append_nil l)

pub multiplier_next : (relations : List Relation) (multipliers : List Term) (i : ℕ) (d : Term) (rest : List Term) → i < length multipliers → weighted_forms relations (drop i multipliers) ++ rest ≡ weighted_forms relations (get_or multipliers i d ∷ []) ++ (weighted_forms relations (drop (i + 1) multipliers) ++ rest)
multiplier_next relations multipliers i d rest inside =
    let m : Term = get_or multipliers i d in
    let own : List Term = option_map_or (form_times m.1) (slice_get relations m.0) [] in
    let later : List Term = weighted_forms relations (drop (i + 1) multipliers) in
    ap (λ (ms : List Term). weighted_forms relations ms ++ rest) (drop_more multipliers i d inside)
    ∙ append_assoc own later rest
    ∙ ap (λ (l : List Term). l ++ (later ++ rest)) (sym (append_nil own))

-- the forms of one multiplier are the form that it names
pub one_form : (relations : List Relation) (m : Term) (r : Relation) (rest : List Term) → slice_get relations m.0 ≡ Some r → form_times m.1 r ++ rest ≡ weighted_forms relations (m ∷ []) ++ rest
one_form relations m r rest found =
    ap (λ (l : List Term). l ++ rest) (sym (append_nil (form_times m.1 r)) ∙ ap (λ o. option_map_or (form_times m.1) o [] ++ []) (sym found))

pub one_form_of : (times : ℤ) (relations : List Relation) (m : Term) (r : Relation) (rest : List Term) → times ≡ m.1 → slice_get relations m.0 ≡ Some r → form_times times r ++ rest ≡ weighted_forms relations (m ∷ []) ++ rest
one_form_of times relations m r rest is found = ap (λ t. form_times t r ++ rest) is ∙ one_form relations m r rest found
