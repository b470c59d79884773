-- The places of a subtable, one code after another, and what is found at them.
use Rattle.std.proofs.Common.{◌≡◌, ℕ, ◌+◌, ◌<◌, ◌≤◌, List, [], ◌∷◌, ◌++◌, length, map, fold, drop, get_or, slice_index_or, refl, ap, sym, ◌∙◌, append_assoc, length-append}
use Rattle.std.specs.List.{flat_map}
use Rattle.std.proofs.lemmas.List.{append-nil, map-append, drop_all, drop_more}
use Rattle.std.proofs.lemmas.List.Sums.{fold-append}
use Rattle.sdc_base.specs.Cubes.{choices}
use Rattle.linked_tables.specs.BookViews.{BookView}
use Rattle.modular_plan.specs.SubtablePlaces.{places_below, with_place}

-- those that begin so, go on with one of these codes, and then with one of each list
abbrev pub places_among : List ℕ → List ℕ → List (List ℕ) → List (List ℕ)
places_among begun next rest = map (λ more. begun ++ more) (flat_map (λ one. map (λ others. one ∷ others) (choices rest)) next)

one-code : (begun : List ℕ) (code : ℕ) (found : List (List ℕ)) → map (λ more. begun ++ more) (map (λ others. code ∷ others) found) ≡ map (λ more. (begun ++ code ∷ []) ++ more) found
one-code begun code [] = refl
one-code begun code (more ∷ found) =
    ap (λ (p : List ℕ). p ∷ map (λ more. begun ++ more) (map (λ others. code ∷ others) found)) (sym (append_assoc begun (code ∷ []) more))
    ∙ ap (λ rest. ((begun ++ code ∷ []) ++ more) ∷ rest) (one-code begun code found)

-- those of the first code, and then those of the others
among-next : (begun : List ℕ) (code : ℕ) (next : List ℕ) (rest : List (List ℕ)) → places_among begun (code ∷ next) rest ≡ places_below (begun ++ code ∷ []) rest ++ places_among begun next rest
among-next begun code next rest =
    map-append (λ more. begun ++ more) (map (λ others. code ∷ others) (choices rest)) (flat_map (λ one. map (λ others. one ∷ others) (choices rest)) next)
    ∙ ap (λ found. found ++ places_among begun next rest) (one-code begun code (choices rest))

-- what is found at these places beside what was found before
abbrev pub found_at : BookView → ℕ → List ℕ → List (List ℕ) → List ℕ
found_at book t found places = fold (with_place book t) found places

-- one code on
pub found-next : (book : BookView) (t : ℕ) (begun items : List ℕ) (i : ℕ) (lists : List (List ℕ)) (found new longer : List ℕ) → i < length items → longer ≡ begun ++ slice_index_or items i 0 ∷ []
    → new ≡ found_at book t found (places_below longer (drop (length longer) lists))
    → found_at book t new (places_among begun (drop (i + 1) items) (drop (length begun + 1) lists)) ≡ found_at book t found (places_among begun (drop i items) (drop (length begun + 1) lists))
found-next book t begun items i lists found new longer inside is added =
    let code = slice_index_or items i 0 in
    let rest = drop (length begun + 1) lists in
    let left : List ℕ = drop (i + 1) items in
    let long : length longer ≡ length begun + 1 = ap (λ (p : List ℕ). length p) is ∙ length-append begun (code ∷ []) in
    let below : places_below longer (drop (length longer) lists) ≡ places_below (begun ++ code ∷ []) rest = ap (λ (p : List ℕ). places_below p (drop (length longer) lists)) is ∙ ap (λ (k : ℕ). places_below (begun ++ code ∷ []) (drop k lists)) long in
    ap (λ (one : List ℕ). found_at book t one (places_among begun left rest)) (added ∙ ap (found_at book t found) below)
    ∙ sym (fold-append (with_place book t) found (places_below (begun ++ code ∷ []) rest) (places_among begun left rest))
    ∙ ap (found_at book t found) (sym (among-next begun code left rest))
    ∙ ap (λ (next : List ℕ). found_at book t found (places_among begun next rest)) (sym (drop_more items i 0 inside))

-- where no list is left there is one place
pub below-end : (begun : List ℕ) (lists : List (List ℕ)) → length lists ≤ length begun → places_below begun (drop (length begun) lists) ≡ begun ∷ []
below-end begun lists past =
    ap (places_below begun) (drop_all (length begun) lists past) ∙ ap (λ (p : List ℕ). p ∷ []) (append-nil begun)

pub below-begun : (begun : List ℕ) (lists : List (List ℕ)) (d : List ℕ) → length begun < length lists → places_below begun (drop (length begun) lists) ≡ places_among begun (get_or lists (length begun) d) (drop (length begun + 1) lists)
below-begun begun lists d inside = ap (places_below begun) (drop_more lists (length begun) d inside)

-- all of a subtable
pub below-all : (lists : List (List ℕ)) → places_below [] lists ≡ choices lists
below-all lists = each (choices lists)
  where
    each : (places : List (List ℕ)) → map (λ rest. [] ++ rest) places ≡ places
    each [] = refl
    each (place ∷ places) = ap (λ rest. place ∷ rest) (each places)
