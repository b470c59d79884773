-- Coefficients, one term at a time.
use Rattle.std.proofs.Common.{◌≡◌, ℕ, ◌+◌, ◌<◌, ◌==◌, Bool, true, false, List, [], ◌∷◌, ◌++◌, length, map, take, get_or, All, ℤ, pos, neg_ℤ, ◌+ℤ◌, ◌*◌, arith, ap, sym, ◌∙◌, subst, if◌then◌else◌}
use Rattle.std.proofs.lemmas.Int.{ints}
use Rattle.std.specs.List.{flat_map}
use Rattle.std.specs.Ordering.{int_eq}
use Rattle.std.proofs.lemmas.Grind.{flat_map-append}
use Rattle.std.proofs.lemmas.List.{take_more, append-nil}
use Rattle.std.proofs.lemmas.List.Elements.{All-cons, All-map}
use Rattle.sdc_base.specs.declared.relation.Relation.{Relation}
use Rattle.sdc_base.specs.Forms.{Term, form_times, coefficient}
use Rattle.sdc_base.proofs.TotalLemmas.{sum_of-cons, sum_of-append}
use Rattle.interval_audit.specs.FormSigns.{IsFormSign}
use Rattle.interval_audit.specs.Groups.{Group, members}
use Rattle.interval_audit.specs.Columns.{entries_for}
use Rattle.interval_audit.proofs.Ranks.{IsAt, member_at}

pub counted_next : (terms : List Term) (i : ℕ) (cell : ℕ) (d : Term) → i < length terms → coefficient (take (i + 1) terms) cell ≡ coefficient (take i terms) cell +ℤ (if (get_or terms i d).0 == cell then (get_or terms i d).1 else pos 0)
counted_next terms i cell d inside =
    ap (λ ts. coefficient ts cell) (take_more terms i d inside)
    ∙ sum_of-append (λ (t : Term). if t.0 == cell then t.1 else pos 0) (take i terms) (get_or terms i d ∷ [])
    ∙ omega (arith, ints, sum_of-cons (λ (t : Term). if t.0 == cell then t.1 else pos 0) (get_or terms i d) [])

pub one_if : (b : Bool) (number : ℤ) → IsFormSign number → IsFormSign (if b then number else pos 0)
one_if true number is = is
one_if false number is = record { low = omega (arith, ints); high = omega (arith, ints) }

-- entries, one member at a time
pub entries_next : (group : Group) (n : ℕ) (terms : List Term) (list : List ℕ) (place : ℕ) (k : ℤ) → list ≡ members group n → place < length list → k ≡ coefficient terms (get_or list place 0)
    → flat_map (λ cell. entries_for group cell (coefficient terms cell)) (take (place + 1) list) ≡ flat_map (λ cell. entries_for group cell (coefficient terms cell)) (take place list) ++ (if int_eq k (pos 0) then [] else (2 * place, k) ∷ (2 * place + 1, neg_ℤ k) ∷ [])
entries_next group n terms list place k is inside value =
    let cell : ℕ = get_or list place 0 in
    let F : ℕ → List Term = λ c. entries_for group c (coefficient terms c) in
    let at : IsAt group n place cell = subst (λ xs. IsAt group n place (get_or xs place 0)) (sym is) (member_at group n place 0 (subst (λ xs. place < length xs) is inside)) in
    let own : F cell ≡ (if int_eq k (pos 0) then [] else (2 * place, k) ∷ (2 * place + 1, neg_ℤ k) ∷ []) =
    ap (λ z. entries_for group cell z) (sym value) ∙ ap (λ r. if int_eq k (pos 0) then [] else (2 * r, k) ∷ (2 * r + 1, neg_ℤ k) ∷ []) at.ranked in
    ap (flat_map F) (take_more list place 0 inside) ∙ flat_map-append F (take place list) (cell ∷ []) ∙ ap (λ e. flat_map F (take place list) ++ e) (append-nil (F cell) ∙ own)

-- each term of a form is 1 or -1
pub form_ones : (times : ℤ) (r : Relation) → IsFormSign times → All (λ (t : Term). IsFormSign t.1) (form_times times r)
form_ones times r is =
    let turned : IsFormSign (neg_ℤ times) = record { low = omega (arith, ints, is.high); high = omega (arith, ints, is.low) } in
    All-cons (λ (t : Term). IsFormSign t.1) (r.total, times) (map (λ part. (part, neg_ℤ times)) r.parts) is (All-map (λ (t : Term). IsFormSign t.1) (λ (part : ℕ). (part, neg_ℤ times)) r.parts (λ k d inside. turned))
