-- Weights listed without those of 0.
use Rattle.std.proofs.Common.{◌≡◌, ℕ, ◌+◌, ◌<◌, ◌^◌, true, false, List, [], ◌∷◌, ◌++◌, length, take, get_or, All, ℤ, pos, neg_ℤ, ◌<ℤ◌, ap, sym, ◌∙◌, if◌then◌else◌}
use Rattle.std.specs.List.{flat_map}
use Rattle.std.specs.Ordering.{int_eq}
use Rattle.std.proofs.lemmas.Grind.{flat_map-append}
use Rattle.std.proofs.lemmas.List.{take_more, append-nil}
use Rattle.std.proofs.lemmas.List.Elements.{All-nil, All-cons, All-append}
use Rattle.sdc_base.specs.Forms.{Term}
use Rattle.sdc_base.specs.Systems.{Numbers}
use Rattle.interval_audit.specs.Readings.{nonzero_terms}

-- one more in the list
pub listed_next : (numbers : Numbers) (list : List ℕ) (i d : ℕ) (k : ℤ) → i < length list → k ≡ numbers (get_or list i d) → nonzero_terms numbers (take (i + 1) list) ≡ nonzero_terms numbers (take i list) ++ (if int_eq k (pos 0) then [] else (get_or list i d, k) ∷ [])
listed_next numbers list i d k inside is =
    let one : ℕ = get_or list i d in
    let F : ℕ → List Term = λ x. if int_eq (numbers x) (pos 0) then [] else (x, numbers x) ∷ [] in
    ap (flat_map F) (take_more list i d inside) ∙ flat_map-append F (take i list) (one ∷ [])
    ∙ ap (λ e. nonzero_terms numbers (take i list) ++ e) (append-nil (F one) ∙ ap (λ (z : ℤ). if int_eq z (pos 0) then [] else (one, z) ∷ []) (sym is))

-- what is pushed is above -2^127
pub held_more : (terms : List Term) (one : ℕ) (k : ℤ) → All (λ (t : Term). neg_ℤ (pos (2 ^ 127)) <ℤ t.1) terms → neg_ℤ (pos (2 ^ 127)) <ℤ k → All (λ (t : Term). neg_ℤ (pos (2 ^ 127)) <ℤ t.1) (terms ++ (if int_eq k (pos 0) then [] else (one, k) ∷ []))
held_more terms one k all above =
    let P : Term → Type 0 = λ t. neg_ℤ (pos (2 ^ 127)) <ℤ t.1 in
    All-append P terms (if int_eq k (pos 0) then [] else (one, k) ∷ []) all
    (elim (int_eq k (pos 0)) as (λ b. All P (if b then [] else (one, k) ∷ [])) [ true ↦ All-nil P | false ↦ All-cons P (one, k) [] above (All-nil P) ])
