-- The sizes of components count the members of their cells' groups.
use Rattle.std.proofs.Common.{◌≡◌, ℕ, suc, zero, ◌+◌, ◌<◌, ◌≤◌, Bool, true, false, List, [], ◌∷◌, ◌++◌, All, Option, Some, None, filter, length, get_or, slice_index, take, if◌then◌else◌, arith, ap, refl, sym, subst, ◌∙◌}
use Rattle.std.specs.List.{range_with_len}
use Rattle.std.specs.Option.{option_map_or}
use Rattle.std.proofs.lemmas.List.{take_all, take_more}
use Rattle.std.proofs.lemmas.List.Elements.{All-get_or}
use Rattle.std.proofs.lemmas.List.Filters.{length-filter_more}
use Rattle.std.proofs.lemmas.List.FromFn.{get_or-range_with_len, length-range_with_len}
use Rattle.sdc_base.specs.declared.system.System.{System}
use Rattle.sdc_base.specs.Components.{AreComponents, component, is_of}
use Rattle.sdc_base.specs.HiddenSets.{is_hidden}
use Rattle.sdc_base.specs.Places.{count}
use Rattle.interval_audit.specs.Groups.{Group, group_of, members, most_members}
use Rattle.interval_audit.proofs.SameGroups.{everywhere, group_is}
use Rattle.cell_intervals.specs.IntervalFaults.{HasSmallComponent}

count-push : {X : Type 0} (test : X → Bool) (xs : List X) (x : X) → count test (xs ++ x ∷ []) ≡ count test xs + (if test x then 1 else 0)
count-push test [] x = omega arith
count-push test (y ∷ xs) x = let rest = count-push test xs x in omega (arith, rest)

abbrev one_if : Bool → ℕ
one_if b = if b then 1 else 0

-- the numbers of the elements that pass a test are as many as these elements, in each front of a list
front_sized : (test : Option ℕ → Bool) (of : List (Option ℕ)) (k : ℕ) → k ≤ length of → length (filter (λ c. test (component of c)) (take k (range_with_len 0 (length of)))) ≡ count test (take k of)
front_sized test of zero within = refl
front_sized test of (suc k) within =
    let numbers : List ℕ = range_with_len 0 (length of) in
    let p : ℕ → Bool = λ c. test (component of c) in
    let inside : k < length of = omega (arith, within) in
    let long : k < length numbers = omega (arith, inside, length-range_with_len 0 (length of)) in
    let place : get_or numbers k 0 ≡ k = get_or-range_with_len 0 (length of) k 0 inside ∙ omega arith in
    let one : length (filter p (take (k + 1) numbers)) ≡ length (filter p (take k numbers)) + one_if (p (get_or numbers k 0)) = length-filter_more p numbers k 0 long in
    let here : one_if (p (get_or numbers k 0)) ≡ one_if (test (get_or of k None)) = ap (λ n. one_if (p n)) place in
    let other : count test (take (k + 1) of) ≡ count test (take k of) + one_if (test (get_or of k None)) = ap (count test) (take_more of k None inside) ∙ count-push test (take k of) (get_or of k None) in
    let step : length (filter p (take (k + 1) numbers)) ≡ count test (take (k + 1) of) = omega (arith, one, here, other, front_sized test of k (omega (arith, within))) in
    let next : k + 1 ≡ suc k = omega arith in
    subst (λ m. length (filter p (take m numbers)) ≡ count test (take m of)) next step

sized : (test : Option ℕ → Bool) (of : List (Option ℕ)) → length (filter (λ c. test (component of c)) (range_with_len 0 (length of))) ≡ count test of
sized test of =
    let numbers : List ℕ = range_with_len 0 (length of) in
    let all : take (length of) numbers ≡ numbers = take_all (length of) numbers (omega (arith, length-range_with_len 0 (length of))) in
    ap (λ (ns : List ℕ). length (filter (λ c. test (component of c)) ns)) (sym all) ∙ front_sized test of (length of) (omega arith) ∙ ap (count test) (take_all (length of) of (omega arith))

-- where no component has more cells than a question can be about, none of a hidden cell has
pub in_small : (system : System) (flags : List Bool) (of : List (Option ℕ)) (sizes : List ℕ) → length flags ≡ system.cells → AreComponents system.relations flags of sizes → All (λ size. size ≤ most_members) sizes → (cell : ℕ) → is_hidden flags cell ≡ true → HasSmallComponent system flags cell
in_small system flags of sizes each are small cell hidden =
    let number : ℕ = (are.hidden cell hidden).0 in
    let own : component of cell ≡ Some number = (are.hidden cell hidden).1 in
    let group : Group = group_of of cell in
    let at : number < length sizes = are.within cell number own in
    let few : slice_index sizes number ≤ most_members = All-get_or (λ size. size ≤ most_members) sizes number 0 at small in
    let test : group ≡ (λ c. is_of number (component of c)) = everywhere group (λ c. is_of number (component of c)) (λ c. ap (λ (o : Option ℕ). option_map_or (λ n. is_of n (component of c)) o false) own) in
    let long : length of ≡ system.cells = are.each ∙ each in
    let size : length (members group system.cells) ≡ count (is_of number) of =
    ap (λ (g : Group). length (members g system.cells)) test ∙ ap (λ n. length (filter (λ c. is_of number (component of c)) (range_with_len 0 n))) (sym long) ∙ sized (is_of number) of in
    record {
      group = group;
      is_component = group_is system.relations flags of sizes cell are hidden;
      within_most_members = omega (arith, few, are.counted number, size);
    }
