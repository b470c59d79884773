-- Lists of places with numbers, and the rows of numbers that they stand for (own).
use Rattle.std.specs.Prelude.{◌≡◌, ◌≢◌, ℕ, zero, suc, ◌<◌, ◌≤◌, ◌==◌, List, [], ◌∷◌, ◌++◌, length, map, drop, slice_index_or, All, ℤ, pos, negsuc, neg_ℤ, ◌-ℤ◌, ◌*ℤ◌, if◌then◌else◌}
use Rattle.std.specs.List.{range_with_len}
use Rattle.std.specs.Coded.{→_prop, Π_prop, Unit-prop, le_prop}
use Rattle.sdc_base.specs.Forms.{Term, coefficient}
use Rattle.tableau.specs.ProblemForm.{AscendFrom}

-- entries ascend by their places, from the one number on and below the other, and none has the number 0
abbrev pub IsSparse : ℕ → ℕ → List Term → Type 0
IsSparse from limit [] = Unit {0}
IsSparse from limit (entry ∷ entries) =
    (from ≤ entry.0) × (entry.0 < limit) × (entry.1 ≢ pos 0) × IsSparse (suc entry.0) limit entries

none_prop : IsProp ⊥
none_prop a b = absurd a

up_prop : (a b : ℕ) → IsProp (a ≤ b)
up_prop a b = le_prop

under_prop : (a b : ℕ) → IsProp (a < b)
under_prop a b = le_prop

some_prop : (z : ℤ) → IsProp (z ≢ pos 0)
some_prop z = →_prop none_prop

pub IsSparse-prop : (from limit : ℕ) (entries : List Term) → IsProp (IsSparse from limit entries)
IsSparse-prop from limit [] = Unit-prop
IsSparse-prop from limit (entry ∷ entries) = λ a b i. (
  up_prop from entry.0 a.0 b.0 i,
  under_prop entry.0 limit a.1 b.1 i,
  some_prop entry.1 a.2 b.2 i,
  IsSparse-prop (suc entry.0) limit entries a.3 b.3 i,
)

-- all lists are such
abbrev pub AreSparse : ℕ → List (List Term) → Type 0
AreSparse width lists = All (λ entries. IsSparse 0 width entries) lists

pub AreSparse-prop : (width : ℕ) (lists : List (List Term)) → IsProp (AreSparse width lists)
AreSparse-prop width lists = Π_prop (λ k. Π_prop (λ d. →_prop (IsSparse-prop 0 width (slice_index_or lists k d))))

-- the row of so many numbers that entries stand for: 0 where there is no entry
abbrev pub row_of_entries : ℕ → List Term → List ℤ
row_of_entries width entries = map (coefficient entries) (range_with_len 0 width)

-- the entries are without zeros, and stand for this row
pub record AreEntriesOf (width : ℕ) (row : List ℤ) (entries : List Term) : Type 0 where
  pub sparse : IsSparse 0 width entries
  pub stands : row_of_entries width entries ≡ row

-- lists of entries stand for rows, one for each
pub record AreListsOf (width : ℕ) (rows : List (List ℤ)) (lists : List (List Term)) : Type 0 where
  pub long : length lists ≡ length rows
  pub each : (k : ℕ) → k < length rows → AreEntriesOf width (slice_index_or rows k []) (slice_index_or lists k [])

-- from this place on, the entries are those behind the first i
pub record AreEntriesFrom (next i : ℕ) (entries : List Term) : Type 0 where
  pub ascend : AscendFrom next (drop i entries)
  pub same : (v : ℕ) → next ≤ v → coefficient entries v ≡ coefficient (drop i entries) v

-- the entries stand for these numbers as far as this place
pub record AreEntriesBelow (next : ℕ) (numbers : ℕ → ℤ) (made : List Term) : Type 0 where
  pub sparse : IsSparse 0 next made
  pub same : (v : ℕ) → v < next → coefficient made v ≡ numbers v

-- an entry behind others, left out where its number is 0
abbrev pub put_entry : List Term → ℕ → ℤ → List Term
put_entry made place (pos zero) = made
put_entry made place (pos (suc n)) = made ++ (place, pos (suc n)) ∷ []
put_entry made place (negsuc n) = made ++ (place, negsuc n) ∷ []

-- what a number outside the pivot's row becomes, where e stands at the place and g below it in the pivot's row
abbrev pub crossed_value : ℤ → ℤ → ℤ → ℕ → ℕ → ℤ → ℤ → ℤ
crossed_value den p f column place e g = if place == column then neg_ℤ (f *ℤ den) else (e *ℤ p -ℤ f *ℤ g)

-- and the products for it
abbrev pub crossed_products : ℤ → ℤ → ℤ → ℕ → ℕ → ℤ → ℤ → List ℤ
crossed_products den p f column place e g =
    if place == column then (f *ℤ den) ∷ [] else (e *ℤ p) ∷ (f *ℤ g) ∷ (e *ℤ p -ℤ f *ℤ g) ∷ []

-- the numbers that a row becomes
abbrev pub crossed_at : ℤ → ℤ → ℤ → ℕ → List Term → List Term → ℕ → ℤ
crossed_at den p f column pivot own place =
    crossed_value den p f column place (coefficient own place) (coefficient pivot place)

-- and the products for these
abbrev pub crossed_products_at : ℤ → ℤ → ℤ → ℕ → List Term → List Term → ℕ → List ℤ
crossed_products_at den p f column pivot own place =
    crossed_products den p f column place (coefficient own place) (coefficient pivot place)

-- an entry taken so many times
abbrev pub times_entry : ℤ → Term → Term
times_entry d entry = (entry.0, entry.1 *ℤ d)
