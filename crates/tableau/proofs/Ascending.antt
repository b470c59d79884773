-- Entries that ascend by their places.
use Rattle.std.proofs.Common.{◌≡◌, ◌≢◌, ◌==◌, true, false, ℕ, suc, ◌<◌, ◌≤◌, List, [], ◌∷◌, pos, arith, refl, if◌then◌else◌}
use Rattle.std.proofs.lemmas.Int.{ints}
use Rattle.std.proofs.lemmas.Bool.Decides.{nat_tests}
use Rattle.sdc_base.proofs.TotalLemmas.{sum_of-cons}
use Rattle.sdc_base.specs.Forms.{Term, coefficient}
use Rattle.tableau.specs.ProblemForm.{AscendFrom}

-- no entry below the first
pub none_below : (from c : ℕ) (entries : List Term) → AscendFrom from entries → c < from → coefficient entries c ≡ pos 0
none_below from c [] ascend below = refl
none_below from c (entry ∷ entries) ascend below =
    let test : (entry.0 == c) ≡ false = let apart : entry.0 ≢ c = omega (arith, ascend.0) in grind (arith, nat_tests) in
    let head : (if entry.0 == c then entry.1 else pos 0) ≡ pos 0 = rw test refl in
    omega (arith, ints, head, sum_of-cons (λ (t : Term). if t.0 == c then t.1 else pos 0) entry entries, none_below (suc entry.0) c entries ascend.1 (omega (arith, ascend.0)))

pub first_entry : (entry : Term) (entries : List Term) (c : ℕ) → AscendFrom 0 (entry ∷ entries) → entry.0 ≡ c → coefficient (entry ∷ entries) c ≡ entry.1
first_entry entry entries c ascend is =
    let test : (entry.0 == c) ≡ true = grind (arith, nat_tests) in
    let head : (if entry.0 == c then entry.1 else pos 0) ≡ entry.1 = rw test refl in
    omega (arith, ints, head, sum_of-cons (λ (t : Term). if t.0 == c then t.1 else pos 0) entry entries, none_below (suc entry.0) c entries ascend.1 (omega arith))

pub not_first : (entry : Term) (entries : List Term) (c : ℕ) → entry.0 ≢ c → coefficient (entry ∷ entries) c ≡ coefficient entries c
not_first entry entries c apart =
    let test : (entry.0 == c) ≡ false = grind (arith, nat_tests) in
    let head : (if entry.0 == c then entry.1 else pos 0) ≡ pos 0 = rw test refl in
    omega (arith, ints, head, sum_of-cons (λ (t : Term). if t.0 == c then t.1 else pos 0) entry entries)

pub ascend_later : (from less : ℕ) (entries : List Term) → less ≤ from → AscendFrom from entries → AscendFrom less entries
ascend_later from less [] under ascend = tt
ascend_later from less (entry ∷ entries) under ascend = (omega (arith, ascend.0), ascend.1)

-- ---- a search in ascending entries
