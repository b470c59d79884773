-- The cells with the reader's bounds, listed one by one.
use Rattle.std.proofs.Common.{◌≡◌, ◌⊎◌, ℕ, zero, suc, ◌+◌, ◌<◌, List, [], ◌∷◌, ◌++◌, length, slice_get, Some, ℤ, inl, inr, arith, refl, ap, sym, subst, ◌∙◌}
use Rattle.std.proofs.Math.Nat.{eq-or-lt_of_le}
use Rattle.std.proofs.lemmas.List.{length-append}
use Rattle.std.proofs.lemmas.Option.{slice_get_within}
use Rattle.sdc_base.specs.declared.cell.Cell.{Cell}
use Rattle.sdc_base.specs.Systems.{number_at}
use Rattle.rounding_audit.specs.Readers.{AreReaderCells, IsReaderCell}

-- what stands in a list with one more
pub in_front : {X : Type 0} (xs : List X) (x : X) (k : ℕ) → k < length xs → slice_get (xs ++ x ∷ []) k ≡ slice_get xs k
in_front [] x k inside = absurd (omega (arith, inside))
in_front (y ∷ ys) x zero inside = refl
in_front (y ∷ ys) x (suc k) inside = in_front ys x k (omega (arith, inside))

pub at_end : {X : Type 0} (xs : List X) (x : X) → slice_get (xs ++ x ∷ []) (length xs) ≡ Some x
at_end [] x = refl
at_end (y ∷ ys) x = at_end ys x

-- one cell more
pub reader_more : (cells : List Cell) (values : List ℤ) (base : ℤ) (known : List Cell) (cell one : Cell) → AreReaderCells cells values base known → IsReaderCell base (number_at values (length cells)) cell one → AreReaderCells (cells ++ cell ∷ []) values base (known ++ one ∷ [])
reader_more cells values base known cell one before own = record {
  each = length-append known (one ∷ []) ∙ ap (λ n. n + 1) before.each ∙ sym (length-append cells (cell ∷ []));
  bounded = λ number other known_one found is. by number other known_one found is (eq-or-lt_of_le {n = number} {m = length cells} (omega (arith, slice_get_within (cells ++ cell ∷ []) number other found, length-append cells (cell ∷ []))));
}
  where
    by : (number : ℕ) (other known_one : Cell) → slice_get (cells ++ cell ∷ []) number ≡ Some other → slice_get (known ++ one ∷ []) number ≡ Some known_one → (number ≡ length cells) ⊎ (number < length cells) → IsReaderCell base (number_at values number) other known_one
    by number other known_one found is (inl same) =
        let cell_is : Some cell ≡ Some other = sym (at_end cells cell) ∙ subst (λ k. slice_get (cells ++ cell ∷ []) k ≡ Some other) same found in
        let one_is : Some one ≡ Some known_one = sym (at_end known one) ∙ subst (λ k. slice_get (known ++ one ∷ []) k ≡ Some known_one) (same ∙ sym before.each) is in
        let cell_same : cell ≡ other = cc in
        let one_same : one ≡ known_one = cc in
        subst (λ k. IsReaderCell base (number_at values k) other known_one) (sym same) (subst (λ c. IsReaderCell base (number_at values (length cells)) c known_one) cell_same (subst (λ k. IsReaderCell base (number_at values (length cells)) cell k) one_same own))
    by number other known_one found is (inr less) =
        before.bounded number other known_one (sym (in_front cells cell number less) ∙ found) (sym (in_front known one number (omega (arith, less, before.each))) ∙ is)
