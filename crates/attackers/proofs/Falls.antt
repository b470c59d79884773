-- Walks upward, and names compared with codes variable by variable.
use Rattle.std.proofs.Common.{◌≡◌, ℕ, zero, suc, ◌+◌, ◌-◌, ◌<◌, ◌≤◌, ◌==◌, ◌||◌, ◌&&◌, Bool, false, List, [], ◌∷◌, length, drop, get_or, Option, None, Some, slice_index_or, refl, ap, sym, ◌∙◌, arith}
use Rattle.std.specs.List.{list_any}
use Rattle.std.proofs.lemmas.List.{drop_all, length-drop}
use Rattle.sdc_base.specs.Trees.{Tree, met_in, parent_at, is_under}
use Rattle.sdc_base.specs.Records.{falls_in}

-- one step more, from a place
pub met_more : (tree : Tree) (above end step place : ℕ) → step < end → list_any (λ met. met == above) (met_in (end - step) tree (Some place)) ≡ (place == above) || list_any (λ met. met == above) (met_in (end - (step + 1)) tree (parent_at tree place))
met_more tree above end step place below =
    let here : end - step ≡ suc (end - (step + 1)) = omega arith in
    rw here refl

-- no step is left
pub met_none : (tree : Tree) (above n : ℕ) (met : Option ℕ) → n ≡ 0 → list_any (λ one. one == above) (met_in n tree met) ≡ false
met_none tree above n None is = refl
met_none tree above n (Some place) is = rw is refl

pub met_nowhere : (tree : Tree) (above n : ℕ) → list_any (λ one. one == above) (met_in n tree None) ≡ false
met_nowhere tree above n = refl

-- a place that isn't the one looked for is passed
pub met_passed : (tree : Tree) (above end step place : ℕ) (met next : Option ℕ) (v : Bool) → step < end → met ≡ Some place → (place == above) ≡ false → next ≡ parent_at tree place → list_any (λ one. one == above) (met_in (end - step) tree met) ≡ v → list_any (λ one. one == above) (met_in (end - (step + 1)) tree next) ≡ v
met_passed tree above end step place met next v below here other up is =
    rw up (sym (ap (λ b. b || list_any (λ one. one == above) (met_in (end - (step + 1)) tree (parent_at tree place))) other) ∙ sym (met_more tree above end step place below) ∙ sym (ap (λ m. list_any (λ one. one == above) (met_in (end - step) tree m)) here) ∙ is)

-- variable by variable
pub falls_more : (trees : List Tree) (name codes : List ℕ) (k : ℕ) → k < length trees → k < length name → k < length codes → falls_in (drop k trees) (drop k name) (drop k codes) ≡ (is_under (slice_index_or trees k []) (get_or codes k 0) (get_or name k 0)) && falls_in (drop (suc k) trees) (drop (suc k) name) (drop (suc k) codes)
falls_more [] name codes k one two three = absurd (omega (arith, one))
falls_more (tree ∷ trees) [] codes k one two three = absurd (omega (arith, two))
falls_more (tree ∷ trees) (above ∷ name) [] k one two three = absurd (omega (arith, three))
falls_more (tree ∷ trees) (above ∷ name) (code ∷ codes) zero one two three = refl
falls_more (tree ∷ trees) (above ∷ name) (code ∷ codes) (suc k) one two three = falls_more trees name codes k (omega (arith, one)) (omega (arith, two)) (omega (arith, three))

-- a name or codes that are too short fall nowhere
nowhere_named : (trees : List Tree) (name codes : List ℕ) → 0 < length trees → name ≡ [] → falls_in trees name codes ≡ false
nowhere_named [] name codes some none = absurd (omega (arith, some))
nowhere_named (tree ∷ trees) name codes some none = rw none refl

nowhere_coded : (trees : List Tree) (name codes : List ℕ) → 0 < length trees → 0 < length name → codes ≡ [] → falls_in trees name codes ≡ false
nowhere_coded [] name codes some named none = absurd (omega (arith, some))
nowhere_coded (tree ∷ trees) [] codes some named none = absurd (omega (arith, named))
nowhere_coded (tree ∷ trees) (above ∷ name) codes some named none = rw none refl

left_over : {A : Type 0} (xs : List A) (k : ℕ) → k < length xs → 0 < length (drop k xs)
left_over xs k below = omega (arith, below, length-drop k xs)

pub falls_past : (trees : List Tree) (name codes : List ℕ) (k : ℕ) → k < length trees → length name ≤ k → falls_in (drop k trees) (drop k name) (drop k codes) ≡ false
falls_past trees name codes k one two = nowhere_named (drop k trees) (drop k name) (drop k codes) (left_over trees k one) (drop_all k name two)

pub codes_past : (trees : List Tree) (name codes : List ℕ) (k : ℕ) → k < length trees → k < length name → length codes ≤ k → falls_in (drop k trees) (drop k name) (drop k codes) ≡ false
codes_past trees name codes k one two three = nowhere_coded (drop k trees) (drop k name) (drop k codes) (left_over trees k one) (left_over name k two) (drop_all k codes three)
