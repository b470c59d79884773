-- Numbers that the writer reads have the width of their types.
use Rattle.std.proofs.Common.{◌≡◌, ℕ, suc, ◌+◌, List, [], ◌∷◌, ◌++◌, flat_map, take, get_or, Fits, w32, ℤ, pos, negsuc, FitsSigned, arith}
use Rattle.std.specs.Int.{w128}
use Rattle.std.specs.List.{AllByRecursion}
use Rattle.worlds.specs.declared.world.Move.{Move}
use Rattle.certificate.specs.Texts.{pair_token, move_token}
use Rattle.std.proofs.lemmas.List.{flat_map_more}
use Rattle.sdc_base.specs.Forms.{Term}
use Rattle.certificate.specs.Spelling.{FitsIn32Bits, FitsIn128Bits}

pub short_all : (numbers : List ℕ) → ((i : ℕ) → Fits w32 (get_or numbers i 0)) → AllByRecursion FitsIn32Bits numbers
short_all [] h = tt
short_all (n ∷ numbers) h = (omega (arith, (h 0).fits), short_all numbers (λ i. h (suc i)))

pub wide_of : (z : ℤ) → FitsSigned w128 z → FitsIn128Bits z
wide_of (pos n) fits = omega (arith, fits.sfits)
wide_of (negsuc n) fits = omega (arith, fits.sfits)

pub one_more : {A : Type 0} (P : A → Type 0) (xs : List A) (x : A) → AllByRecursion P xs → P x → AllByRecursion P (xs ++ x ∷ [])
one_more P [] x h g = (g, tt)
one_more P (y ∷ xs) x h g = (h.0, one_more P xs x h.1 g)

-- ---- texts of lists that are one longer

pub pairs_more : (before : List ℕ) (pairs : List Term) (at : ℕ) (pair : Term) → take (at + 1) pairs ≡ take at pairs ++ pair ∷ [] → (before ++ flat_map (λ p. 32 ∷ pair_token p) (take at pairs)) ++ (32 ∷ pair_token pair)
    ≡ before ++ flat_map (λ p. 32 ∷ pair_token p) (take (at + 1) pairs)
pairs_more before pairs at pair more = rw more (flat_map_more (λ p. 32 ∷ pair_token p) before (take at pairs) pair)

pub moves_more : (before : List ℕ) (moves : List Move) (at : ℕ) (move : Move) → take (at + 1) moves ≡ take at moves ++ move ∷ [] → (before ++ flat_map (λ m. 32 ∷ move_token m) (take at moves)) ++ (32 ∷ move_token move)
    ≡ before ++ flat_map (λ m. 32 ∷ move_token m) (take (at + 1) moves)
moves_more before moves at move more = rw more (flat_map_more (λ m. 32 ∷ move_token m) before (take at moves) move)
