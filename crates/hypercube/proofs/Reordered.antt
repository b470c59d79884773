-- The first of the offers of cubes stays where their order changes, and where cubes that don't serve are left out.
use Rattle.std.proofs.Common.{◌≡◌, ◌⊎◌, inl, inr, ℕ, Bool, true, false, List, [], ◌∷◌, Option, None, Some, refl, ap, sym, ◌∙◌, subst}
use Rattle.std.specs.List.{AllByRecursion, Contains}
use Rattle.sdc_base.specs.Cubes.{corners_of, serve}
use Rattle.sdc_base.specs.CubeOrder.{Offer, comes_before, first_by, offer_of, offers}
use Rattle.sdc_base.specs.declared.cell.Cell.{Cell}
use Rattle.sdc_base.specs.declared.cube.Edge.{Edge}
use Rattle.sdc_base.specs.declared.facts.Levels.{Levels}
use Rattle.hypercube.proofs.LeastLaw.{Found, differ, find, none-found}
use Rattle.hypercube.proofs.Members.{Among, all-among, contains-among}
use Rattle.hypercube.proofs.Tied.{IsTied}

-- it is the offer of one of the cubes, which serves
abbrev Comes : (List ℕ → Option ℕ) → (ℕ → Bool) → (ℕ → ℕ) → List Cell → Levels → List (List Edge) → Offer → Type 0
Comes number hidden price cells levels cubes first = (cube : List Edge) × Among cubes cube × (first ≡ offer_of number hidden price cube) × (serve cells levels (corners_of number cube) ≡ true)

comes : (number : List ℕ → Option ℕ) (hidden : ℕ → Bool) (price : ℕ → ℕ) (cells : List Cell) (levels : Levels) (cubes : List (List Edge)) (first : Offer) → Found number hidden price cells levels None cubes first → Comes number hidden price cells levels cubes first
comes number hidden price cells levels cubes first found = by found.from
  where
    by : (None ≡ Some first) ⊎ ((cube : List Edge) × Contains cubes cube × (first ≡ offer_of number hidden price cube) × (serve cells levels (corners_of number cube) ≡ true)) → Comes number hidden price cells levels cubes first
    by (inl none) = absurd cc
    by (inr (cube, one, same, serves)) = (cube, contains-among cubes cube one, same, serves)

pub same-first : (number : List ℕ → Option ℕ) (hidden : ℕ → Bool) (price : ℕ → ℕ) (cells : List Cell) (levels : Levels) (cubes others : List (List Edge))
    → AllByRecursion (λ one. AllByRecursion (IsTied number hidden price one) cubes) cubes
    → AllByRecursion (Among cubes) others
    → AllByRecursion (λ cube. serve cells levels (corners_of number cube) ≡ true → Among others cube) cubes
    → first_by comes_before (offers number hidden price cells levels others) ≡ first_by comes_before (offers number hidden price cells levels cubes)
same-first number hidden price cells levels cubes others tied within kept =
    by (first_by comes_before (offers number hidden price cells levels others)) (first_by comes_before (offers number hidden price cells levels cubes)) refl refl
  where
    serves : List Edge → Type 0
    serves cube = serve cells levels (corners_of number cube) ≡ true

    -- a cube of the one list that serves, and none of the other does
    lost : (cubes others : List (List Edge)) (first : Offer) → AllByRecursion (λ cube. serve cells levels (corners_of number cube) ≡ true → Among others cube) cubes
        → first_by comes_before (offers number hidden price cells levels cubes) ≡ Some first → first_by comes_before (offers number hidden price cells levels others) ≡ None → ⊥
    lost cubes others first all is none =
        let one = comes number hidden price cells levels cubes first (find number hidden price cells levels None cubes first is) in
        let among = all-among (λ cube. serve cells levels (corners_of number cube) ≡ true → Among others cube) cubes one.0 all one.1 one.3 in
        differ one.3 (all-among (λ cube. serve cells levels (corners_of number cube) ≡ false) others one.0 (none-found number hidden price cells levels others none) among)

    by : (one two : Option Offer) → first_by comes_before (offers number hidden price cells levels others) ≡ one → first_by comes_before (offers number hidden price cells levels cubes) ≡ two
        → first_by comes_before (offers number hidden price cells levels others) ≡ first_by comes_before (offers number hidden price cells levels cubes)
    by None None here there = here ∙ sym there
    by None (Some first) here there = absurd (lost cubes others first kept there here)
    by (Some first) None here there = absurd (lost others cubes first (all-yes others within) here there)
      where
        all-yes : (list : List (List Edge)) → AllByRecursion (Among cubes) list → AllByRecursion (λ cube. serve cells levels (corners_of number cube) ≡ true → Among cubes cube) list
        all-yes [] all = tt
        all-yes (cube ∷ list) (one, all) = ((λ yes. one), all-yes list all)
    by (Some a) (Some b) here there =
        let found_a = find number hidden price cells levels None others a here in
        let found_b = find number hidden price cells levels None cubes b there in
        let one = comes number hidden price cells levels others a found_a in
        let two = comes number hidden price cells levels cubes b found_b in
        let one_in : Among cubes one.0 = all-among (Among cubes) others one.0 within one.1 in
        let two_in : Among others two.0 = all-among (λ cube. serve cells levels (corners_of number cube) ≡ true → Among others cube) cubes two.0 kept two.1 two.3 in
        let after_a = all-among (λ cube. serve cells levels (corners_of number cube) ≡ true → comes_before (offer_of number hidden price cube) a ≡ false) others two.0 found_a.each two_in two.3 in
        let after_b = all-among (λ cube. serve cells levels (corners_of number cube) ≡ true → comes_before (offer_of number hidden price cube) b ≡ false) cubes one.0 found_b.each one_in one.3 in
        let tie = all-among (IsTied number hidden price one.0) cubes two.0 (all-among (λ cube. AllByRecursion (IsTied number hidden price cube) cubes) cubes one.0 tied one_in) two.1 in
        let same : offer_of number hidden price one.0 ≡ offer_of number hidden price two.0 =
        tie (subst (λ (o : Offer). comes_before (offer_of number hidden price one.0) o ≡ false) two.2 after_b) (subst (λ (o : Offer). comes_before (offer_of number hidden price two.0) o ≡ false) one.2 after_a)
        in
        here ∙ ap Some (one.2 ∙ same ∙ sym two.2) ∙ sym there
