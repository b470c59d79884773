-- The first of all offers that serve comes before no other one, and is that of a cube.
use Rattle.std.proofs.Common.{◌≡◌, ◌⊎◌, inl, inr, ℕ, suc, Bool, true, false, cond, if◌then◌else◌, List, [], ◌∷◌, fold, Option, None, Some, option_map, refl, ap, sym, subst, arith}
use Rattle.std.specs.List.{AllByRecursion, Contains}
use Rattle.std.specs.Option.{ForSome, MatchOption}
use Rattle.sdc_base.specs.Cubes.{corners_of, serve}
use Rattle.sdc_base.specs.CubeOrder.{Offer, better, comes_before, first_by, offer_of, offers}
use Rattle.sdc_base.specs.declared.cell.Cell.{Cell}
use Rattle.sdc_base.specs.declared.cube.Edge.{Edge}
use Rattle.sdc_base.specs.declared.facts.Levels.{Levels}
use Rattle.hypercube.specs.LeastLaws.{AreLeast, LeastIsFirst, NoneServes}
use Rattle.hypercube.proofs.OfferOrder.{before-itself, before-over, before-then}

-- what the best so far, and each offer that serves, has of the first one
abbrev pub NotBefore : Offer → Option Offer → Type 0
NotBefore first best = ForSome best (λ one. comes_before one first ≡ false)

pub differ : {b : Bool} → b ≡ true → b ≡ false → ⊥
differ one other = absurd cc

pub to-false : (b : Bool) → (b ≡ true → ⊥) → b ≡ false
to-false true h = absurd (h refl)
to-false false h = refl

-- an offer more, and the best so far, where the better of both doesn't come before the first one
better-back : (best : Option Offer) (x first : Offer) → NotBefore first (better comes_before best x) → NotBefore first best × (comes_before x first ≡ false)
better-back None x first h = ((λ one is. absurd cc), h x refl)
better-back (Some one) x first h =
    elim (comes_before x one) as (λ b. comes_before x one ≡ b → comes_before (if b then x else one) first ≡ false → NotBefore first (Some one) × (comes_before x first ≡ false)) [
      | true ↦ λ is later. (
        (λ other same. let eq : one ≡ other = cc in subst (λ o. comes_before o first ≡ false) eq (to-false (comes_before one first) (λ before. differ (before-then x one first is before) later))),
        later,
      )
      | false ↦ λ is later. (
        (λ other same. let eq : one ≡ other = cc in subst (λ o. comes_before o first ≡ false) eq later),
        to-false (comes_before x first) (λ before. differ (before-over x one first before later) is),
      )
    ] refl (h (if comes_before x one then x else one) refl)

pub contains-more : {X : Type 0} (y x : X) (xs : List X) → Contains xs x → Contains (y ∷ xs) x
contains-more y x xs (k, inside, at) = (suc k, omega (arith, inside), at)

pub contains-first : {X : Type 0} (x : X) (xs : List X) → Contains (x ∷ xs) x
contains-first x xs = (0, omega arith, refl)

-- what is known of the first of a best offer and those of cubes
pub record Found (number : List ℕ → Option ℕ) (hidden : ℕ → Bool) (price : ℕ → ℕ) (cells : List Cell) (levels : Levels) (so_far : Option Offer) (cubes : List (List Edge)) (first : Offer) : Type 0 where
  pub best : NotBefore first so_far
  pub each : AllByRecursion (λ cube. serve cells levels (corners_of number cube) ≡ true → comes_before (offer_of number hidden price cube) first ≡ false) cubes
  pub from : (so_far ≡ Some first) ⊎ ((cube : List Edge) × Contains cubes cube × (first ≡ offer_of number hidden price cube) × (serve cells levels (corners_of number cube) ≡ true))

from-better : (best : Option Offer) (x first : Offer) → better comes_before best x ≡ Some first → (best ≡ Some first) ⊎ (first ≡ x)
from-better None x first h = inr (let same : x ≡ first = cc in sym same)
from-better (Some one) x first h =
    let same : (if comes_before x one then x else one) ≡ first = cc in
    elim (comes_before x one) as (λ b. (if b then x else one) ≡ first → (Some one ≡ Some first) ⊎ (first ≡ x)) [
      | true ↦ λ is. inr (sym is)
      | false ↦ λ is. inl (ap Some is)
    ] same

pub find : (number : List ℕ → Option ℕ) (hidden : ℕ → Bool) (price : ℕ → ℕ) (cells : List Cell) (levels : Levels) (best : Option Offer) (cubes : List (List Edge)) (first : Offer)
    → fold (better comes_before) best (offers number hidden price cells levels cubes) ≡ Some first → Found number hidden price cells levels best cubes first
find number hidden price cells levels best [] first h = record {
  best = λ one is. let same : one ≡ first = cc in subst (λ o. comes_before o first ≡ false) (sym same) (before-itself first);
  each = tt;
  from = inl h;
}
find number hidden price cells levels best (cube ∷ cubes) first h =
    let mine = offer_of number hidden price cube in
    let rest = offers number hidden price cells levels cubes in
    elim (serve cells levels (corners_of number cube)) as (λ b. serve cells levels (corners_of number cube) ≡ b → fold (better comes_before) best (cond b (mine ∷ rest) rest) ≡ Some first → Found number hidden price cells levels best (cube ∷ cubes) first) [
      | true ↦ λ is met.
          let found = find number hidden price cells levels (better comes_before best mine) cubes first met in
          let two = better-back best mine first found.best in
          record { best = two.0; each = ((λ yes. two.1), found.each); from = here is found.from }
      | false ↦ λ is met.
          let found = find number hidden price cells levels best cubes first met in
          record { best = found.best; each = ((λ yes. absurd (differ yes is)), found.each); from = later found.from }
    ] refl h
  where
    later : (best ≡ Some first) ⊎ ((one : List Edge) × Contains cubes one × (first ≡ offer_of number hidden price one) × (serve cells levels (corners_of number one) ≡ true))
        → (best ≡ Some first) ⊎ ((one : List Edge) × Contains (cube ∷ cubes) one × (first ≡ offer_of number hidden price one) × (serve cells levels (corners_of number one) ≡ true))
    later (inl same) = inl same
    later (inr (one, among, same, serves)) = inr (one, contains-more cube one cubes among, same, serves)

    here : serve cells levels (corners_of number cube) ≡ true
        → (better comes_before best (offer_of number hidden price cube) ≡ Some first) ⊎ ((one : List Edge) × Contains cubes one × (first ≡ offer_of number hidden price one) × (serve cells levels (corners_of number one) ≡ true))
        → (best ≡ Some first) ⊎ ((one : List Edge) × Contains (cube ∷ cubes) one × (first ≡ offer_of number hidden price one) × (serve cells levels (corners_of number one) ≡ true))
    here is (inr (one, among, same, serves)) = inr (one, contains-more cube one cubes among, same, serves)
    here is (inl same) = either (from-better best (offer_of number hidden price cube) first same)
      where
        either : (best ≡ Some first) ⊎ (first ≡ offer_of number hidden price cube)
            → (best ≡ Some first) ⊎ ((one : List Edge) × Contains (cube ∷ cubes) one × (first ≡ offer_of number hidden price one) × (serve cells levels (corners_of number one) ≡ true))
        either (inl one) = inl one
        either (inr mine) = inr (cube, contains-first cube cubes, mine, is)

some-stays : (one : Offer) (xs : List Offer) → fold (better comes_before) (Some one) xs ≡ None → ⊥
some-stays one [] h = absurd cc
some-stays one (x ∷ xs) h = some-stays (if comes_before x one then x else one) xs h

pub none-found : (number : List ℕ → Option ℕ) (hidden : ℕ → Bool) (price : ℕ → ℕ) (cells : List Cell) (levels : Levels) (cubes : List (List Edge)) → first_by comes_before (offers number hidden price cells levels cubes) ≡ None → NoneServes number cells levels cubes
none-found number hidden price cells levels [] h = tt
none-found number hidden price cells levels (cube ∷ cubes) h =
    let mine = offer_of number hidden price cube in
    let rest = offers number hidden price cells levels cubes in
    elim (serve cells levels (corners_of number cube)) as (λ b. serve cells levels (corners_of number cube) ≡ b → fold (better comes_before) None (cond b (mine ∷ rest) rest) ≡ None → NoneServes number cells levels (cube ∷ cubes)) [
      | true ↦ λ is met. absurd (some-stays mine rest met)
      | false ↦ λ is met. (is, none-found number hidden price cells levels cubes met)
    ] refl h

pub least_is_first : LeastIsFirst
least_is_first number hidden price cells levels cubes = by (first_by comes_before (offers number hidden price cells levels cubes)) refl
  where
    by : (met : Option Offer) → first_by comes_before (offers number hidden price cells levels cubes) ≡ met → MatchOption (option_map (λ (offer : Offer). offer.1) met) (NoneServes number cells levels cubes) (AreLeast number hidden price cells levels cubes)
    by None is = none-found number hidden price cells levels cubes is
    by (Some offer) is = from (find number hidden price cells levels None cubes offer is)
      where
        from : Found number hidden price cells levels None cubes offer → AreLeast number hidden price cells levels cubes offer.1
        from found = over found.from found.each
          where
            over : (None ≡ Some offer) ⊎ ((cube : List Edge) × Contains cubes cube × (offer ≡ offer_of number hidden price cube) × (serve cells levels (corners_of number cube) ≡ true))
                → AllByRecursion (λ cube. serve cells levels (corners_of number cube) ≡ true → comes_before (offer_of number hidden price cube) offer ≡ false) cubes
                → AreLeast number hidden price cells levels cubes offer.1
            over (inl none) each = absurd cc
            over (inr (cube, among, same, serves)) each =
                subst (λ (one : Offer). AreLeast number hidden price cells levels cubes one.1) (sym same) (record {
                  cube = cube;
                  one = among;
                  theirs = refl;
                  served = serves;
                  first = subst (λ (one : Offer). AllByRecursion (λ other. serve cells levels (corners_of number other) ≡ true → comes_before (offer_of number hidden price other) one ≡ false) cubes) same each;
                })
