-- What is read of lists.
use Rattle.std.proofs.Common.{◌≡◌, ◌≢◌, ℕ, zero, suc, ◌<◌, ◌≤◌, ◌==◌, true, false, List, [], ◌∷◌, length, All, get_or, slice_get, Some, ℤ, pos, ◌+ℤ◌, ◌-ℤ◌, arith, refl, ap, sym, subst, ◌∙◌, if◌then◌else◌, get_or-set_other, get_or-set_same}
use Rattle.std.proofs.Math.ListN.{set}
use Rattle.std.proofs.lemmas.Int.{ints}
use Rattle.std.proofs.lemmas.Bool.Decides.{Decides-eqb, nat_tests}
use Rattle.std.proofs.lemmas.List.Elements.{All-get_or}
use Rattle.std.proofs.lemmas.Option.{slice_get-get_or, slice_get_within, get_or_from_slice_get}
use Rattle.sdc_base.specs.Systems.{number_at}

-- an item where there is one, whatever is read beyond the end
pub get_or_any : {X : Type 0} (xs : List X) (k : ℕ) (d e : X) → k < length xs → get_or xs k d ≡ get_or xs k e
get_or_any {X} [] k d e inside = absurd (omega arith)
get_or_any {X} (x ∷ xs) zero d e inside = refl
get_or_any {X} (x ∷ xs) (suc k) d e inside = get_or_any xs k d e (omega arith)

-- an item that is found at a place
pub found_is : {X : Type 0} (xs : List X) (k : ℕ) (x d : X) → slice_get xs k ≡ Some x → get_or xs k d ≡ x
found_is {X} xs k x d found = get_or_any xs k d x (slice_get_within xs k x found) ∙ get_or_from_slice_get xs k x x found

-- what is read at a place is found there
pub read_found : {X : Type 0} (xs : List X) (k : ℕ) (x : X) → k < length xs → x ≡ get_or xs k x → slice_get xs k ≡ Some x
read_found {X} xs k x inside is = slice_get-get_or xs k x inside ∙ ap Some (sym is)

-- an item where there is one
pub item_there : {X : Type 0} (xs : List X) (n : ℕ) → n < length xs → (x : X) × (slice_get xs n ≡ Some x)
item_there {X} [] n inside = absurd (omega arith)
item_there {X} (x ∷ xs) n inside = (get_or (x ∷ xs) n x, slice_get-get_or (x ∷ xs) n x inside)

-- what holds of all holds of the one found
pub found_in : {X : Type 0} (P : X → Type 0) (xs : List X) (n : ℕ) (x : X) → slice_get xs n ≡ Some x → All P xs → P x
found_in {X} P xs n x found all = subst P (found_is xs n x x found) (All-get_or P xs n x (slice_get_within xs n x found) all)

-- a number that is set is changed by the difference
pub changed_by_set : (numbers : List ℤ) (cell : ℕ) (to by : ℤ) → cell < length numbers → by ≡ to -ℤ number_at numbers cell → (c : ℕ) → number_at (set numbers cell to) c ≡ number_at numbers c +ℤ (if cell == c then by else pos 0)
changed_by_set numbers cell to by inside is c =
    elim (cell == c) as (λ b. (cell == c) ≡ b → number_at (set numbers cell to) c ≡ number_at numbers c +ℤ (if b then by else pos 0)) [
      | true ↦ λ test.
          let same : cell ≡ c = (Decides-eqb cell c).0 test in
          ap (λ (j : ℕ). number_at (set numbers cell to) j) (sym same) ∙ get_or-set_same numbers cell to (pos 0) inside ∙ omega (arith, ints, is, ap (λ (j : ℕ). number_at numbers j) same)
      | false ↦ λ test.
          let apart : c ≢ cell = grind (arith, nat_tests, test) in
          get_or-set_other numbers cell c to (pos 0) apart ∙ omega (arith, ints)
    ] refl

-- beyond the end the number is 0
pub past_end : (xs : List ℤ) (c : ℕ) → length xs ≤ c → number_at xs c ≡ pos 0
past_end [] zero past = refl
past_end [] (suc c) past = refl
past_end (x ∷ xs) zero past = absurd (omega arith)
past_end (x ∷ xs) (suc c) past = past_end xs c (omega arith)
