-- Questions that the last world found for them serves.
use Rattle.std.proofs.Common.{◌≡◌, ◌⊎◌, inl, inr, ℕ, zero, suc, Bool, true, false, List, [], ◌∷◌, Option, Some, None, slice_get, slice_set, All, refl, ap, subst}
use Rattle.std.specs.Option.{option_map_or}
use Rattle.std.proofs.lemmas.List.Elements.{All-head, All-tail}
use Rattle.sdc_base.specs.declared.side.Side.{Side}
use Rattle.sdc_base.specs.Worlds.{Protects}
use Rattle.worlds.specs.declared.world.World.{World}
use Rattle.repair.specs.HidingOrder.{Case, StandsAt}
use Rattle.repair.specs.CellTrials.{fits, last_fits, IsKept, AreLast}
use Rattle.repair.proofs.AtHand.{fitting_serves}
use Rattle.repair.proofs.Growing.{serving_protects}

by_last : (c : Case) (flags : List Bool) (asked : ℕ × Side) (last : Option World) → ((world : World) → last ≡ Some world → IsKept c asked world) → option_map_or (fits flags) last false ≡ true → Protects c.system c.cells flags asked.0 asked.1
by_last c flags asked (Some world) each fit = serving_protects c flags asked world (fitting_serves c flags asked world fit (each world refl))
by_last c flags asked None each fit = absurd cc

by_place : (c : Case) (flags : List Bool) (asked : ℕ × Side) (found : Option (Option World)) → ((world : World) → found ≡ Some (Some world) → IsKept c asked world) → option_map_or (λ last. option_map_or (fits flags) last false) found false ≡ true → Protects c.system c.cells flags asked.0 asked.1
by_place c flags asked (Some last) each fit = by_last c flags asked last (λ world is. each world (ap Some is)) fit
by_place c flags asked None each fit = absurd cc

-- a last world at the place of a question serves it, where it moves only hidden cells
pub last_protects : (c : Case) (flags : List Bool) (worlds : List (Option World)) (place : ℕ) (asked : ℕ × Side) → StandsAt c.cells asked place → AreLast c worlds → last_fits flags worlds place ≡ true → Protects c.system c.cells flags asked.0 asked.1
last_protects c flags worlds place asked stands are fit = by_place c flags asked (slice_get worlds place) (λ world is. are place asked world stands is) fit

get_set : {X : Type 0} (xs : List X) (i j : ℕ) (y x : X) → slice_get (slice_set xs i y) j ≡ Some x → ((j ≡ i) × (y ≡ x)) ⊎ (slice_get xs j ≡ Some x)
get_set [] i j y x is = inr is
get_set (z ∷ xs) zero zero y x is = let same : y ≡ x = cc in inl (refl, same)
get_set (z ∷ xs) zero (suc j) y x is = inr is
get_set (z ∷ xs) (suc i) zero y x is = inr is
get_set (z ∷ xs) (suc i) (suc j) y x is = elim (get_set xs i j y x is) [ inl own ↦ inl (ap suc own.0, own.1) | inr own ↦ inr own ]

-- a last world is kept in the place of its question
pub last_set : (c : Case) (worlds : List (Option World)) (place : ℕ) (asked : ℕ × Side) (world : World) → StandsAt c.cells asked place → IsKept c asked world → AreLast c worlds → AreLast c (slice_set worlds place (Some world))
last_set c worlds place asked world stands own are = λ other question found there is.
    elim (get_set worlds place other (Some world) (Some found) is) [
      | inl here ↦
          let at : StandsAt c.cells question place = subst (λ n. StandsAt c.cells question n) here.0 there in
          let one : asked ≡ question = cc in
          let same : world ≡ found = cc in
          subst (λ (q : ℕ × Side). IsKept c q found) one (subst (λ (w : World). IsKept c asked w) same own)
      | inr before ↦ are other question found there before
    ]

none_there : (worlds : List (Option World)) (place : ℕ) (world : World) → All (λ last. last ≡ None) worlds → slice_get worlds place ≡ Some (Some world) → ⊥
none_there [] place world none is = absurd cc
none_there (last ∷ worlds) zero world none is =
    let first : last ≡ None = All-head (λ (one : Option World). one ≡ None) last worlds none in
    absurd cc
none_there (last ∷ worlds) (suc place) world none is = none_there worlds place world (All-tail (λ (one : Option World). one ≡ None) last worlds none) is

-- none are last worlds
pub no_last_are : (c : Case) (worlds : List (Option World)) → All (λ last. last ≡ None) worlds → AreLast c worlds
no_last_are c worlds none = λ place asked world stands is. absurd (none_there worlds place world none is)
