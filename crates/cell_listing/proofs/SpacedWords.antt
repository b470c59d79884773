-- Words with blanks between them, word after word.
use Rattle.std.proofs.Common.{◌≡◌, ℕ, zero, suc, ◌≤◌, ◌==◌, false, List, [], ◌∷◌, ◌++◌, length, take, arith, refl, ap, sym, ◌∙◌, append_assoc}
use Rattle.std.specs.List.{join_with_byte}
use Rattle.std.proofs.lemmas.Bool.Decides.{nat_tests}
use Rattle.cell_listing.specs.Columns.{blank_before, spaced}

joined-more : (x : List ℕ) (xs : List (List ℕ)) (y : List ℕ) → join_with_byte 32 (x ∷ (xs ++ y ∷ [])) ≡ join_with_byte 32 (x ∷ xs) ++ 32 ∷ y
joined-more x [] y = refl
joined-more x (z ∷ xs) y = ap (λ t. x ++ 32 ∷ t) (joined-more z xs y) ∙ sym (append_assoc x (32 ∷ join_with_byte 32 (z ∷ xs)) (32 ∷ y))

-- a word that isn't the first has a blank before it
blank-later : (n : ℕ) → blank_before (suc n) ≡ 32 ∷ []
blank-later n = let test : (suc n == 0) ≡ false = grind (arith, nat_tests) in rw test refl

-- one more word
pub spaced_more : (words : List (List ℕ)) (word : List ℕ) → spaced (words ++ word ∷ []) ≡ (spaced words ++ blank_before (length words)) ++ word
spaced_more [] word = refl
spaced_more (x ∷ words) word =
    joined-more x words word
    ∙ sym (append_assoc (spaced (x ∷ words)) (32 ∷ []) word)
    ∙ ap (λ (blank : List ℕ). (spaced (x ∷ words) ++ blank) ++ word) (sym (blank-later (length words)))

pub taken : (words : List (List ℕ)) (i : ℕ) → i ≤ length words → length (take i words) ≡ i
taken words zero h = refl
taken [] (suc i) h = absurd (omega arith)
taken (word ∷ words) (suc i) h = ap suc (taken words i (omega arith))
