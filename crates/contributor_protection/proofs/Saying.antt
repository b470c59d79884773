-- The rows of those that alone make up cells can be said.
use Rattle.std.proofs.Common.{◌≡◌, ℕ, suc, ◌<◌, ◌^◌, ◌||◌, true, false, List, [], ◌∷◌, length, slice_get, slice_index_or, Option, None, Some, arith, refl, ap, sym, subst, ◌∙◌}
use Rattle.std.specs.List.{list_any}
use Rattle.std.specs.Option.{option_map_or}
use Rattle.std.proofs.lemmas.Bool.Decides.{Decides-eqb}
use Rattle.std.proofs.lemmas.Option.{slice_get_within}
use Rattle.sdc_base.specs.Records.{Name, row_falls}
use Rattle.sdc_base.specs.Trees.{Tree}
use Rattle.sdc_base.specs.declared.rows.Row.{Row}
use Rattle.sdc_base.proofs.GrowingLists.{read-at}
use Rattle.repair.proofs.Flags.{by_test}
use Rattle.linked_tables.specs.BookViews.{BookView}
use Rattle.linked_tables.specs.BookCells.{cells}
use Rattle.attackers.specs.Alone.{AreSoles, IsSole, falls_at, is_sole}
use Rattle.attackers.specs.Laws.{CanBeSaid}

-- a row that is some cell's, with that cell
record IsOneOf (soles : List (Option ℕ)) (row : ℕ) : Type 0 where
  pub cell : ℕ
  pub within : cell < length soles
  pub is_row : slice_index_or soles cell None ≡ Some row

the-row : (row : ℕ) (sole : Option ℕ) → is_sole row sole ≡ true → sole ≡ Some row
the-row row None is = absurd cc
the-row row (Some one) is = ap Some ((Decides-eqb one row).0 is)

one-more : (sole : Option ℕ) (soles : List (Option ℕ)) (row : ℕ) → IsOneOf soles row → IsOneOf (sole ∷ soles) row
one-more sole soles row is = record { cell = suc is.cell; within = omega (arith, is.within); is_row = is.is_row }

one-of : (soles : List (Option ℕ)) (row : ℕ) → list_any (is_sole row) soles ≡ true → IsOneOf soles row
one-of [] row is = absurd cc
one-of (sole ∷ soles) row is =
    by_test (is_sole row sole) (IsOneOf (sole ∷ soles) row)
    (λ here. record { cell = 0; within = omega arith; is_row = the-row row sole here })
    (λ there. one-more sole soles row (one-of soles row (sym (ap (λ b. b || list_any (is_sole row) soles) there) ∙ is)))

-- a row that falls in a cell is one of the rows
falling-within : (trees : List Tree) (rows : List Row) (name : Name) (place : ℕ) → falls_at trees rows name place ≡ true → place < length rows
falling-within trees rows name place falls = by (slice_get rows place) refl falls
  where
    by : (o : Option Row) → slice_get rows place ≡ o → option_map_or (row_falls trees name) o false ≡ true → place < length rows
    by None is fell = absurd cc
    by (Some row) is fell = slice_get_within rows place row is

-- with fewer than 2^32 records all can be said
pub can-be-said : (book : BookView) (rows : List Row) (soles : List (Option ℕ)) → length soles ≡ length (cells book) → length rows < 2 ^ 32 → AreSoles book rows soles → CanBeSaid soles
can-be-said book rows soles each few are row is =
    let one = one-of soles row is in
    let inside : one.cell < length (cells book) = subst (λ n. one.cell < n) each one.within in
    let sole : IsSole book.trees rows (slice_index_or (cells book) one.cell []) (Some row) =
    subst (IsSole book.trees rows (slice_index_or (cells book) one.cell [])) one.is_row (are one.cell (slice_index_or (cells book) one.cell []) (read-at (cells book) one.cell [] inside)) in
    let within = falling-within book.trees rows (slice_index_or (cells book) one.cell []) row sole.1 in
    omega (arith, within, few)
