-- Numbers that are read one after the other.
use Rattle.std.proofs.Common.{◌≡◌, ℕ, List, [], ◌∷◌, ◌++◌, None, Some, Result, Ok, Err, refl, ap, sym, append_assoc}
use Rattle.std.proofs.lemmas.List.{append-nil}
use Rattle.rda_meta.specs.declared.faults.MetaWhy.{MetaWhy}
use Rattle.rda_meta.specs.declared.faults.MetaWhy.TheVariants.{BadValue}
use Rattle.sdc_base.specs.Steps.{◌>>=◌}
use Rattle.sdc_base.specs.Tokens.{number_in}
use Rattle.rda_meta.specs.Arguments.{word_numbers}

-- what was read before, and what is still read
abbrev pub with_front : List ℕ → Result (List ℕ) MetaWhy → Result (List ℕ) MetaWhy
with_front front read = read >>= λ numbers. Ok (front ++ numbers)

regroup : (front : List ℕ) (n : ℕ) (read : Result (List ℕ) MetaWhy) → with_front front (read >>= λ numbers. Ok (n ∷ numbers)) ≡ with_front (front ++ n ∷ []) read
regroup front n (Ok numbers) = ap (λ (ns : List ℕ). Ok ns) (simp append_assoc)
regroup front n (Err why) = refl

pub goes_on : (front : List ℕ) (words after : List (List ℕ)) (word : List ℕ) (n : ℕ) → words ≡ word ∷ after → Some n ≡ number_in 0 255 word → with_front (front ++ n ∷ []) (word_numbers after) ≡ with_front front (word_numbers words)
unfolding word_numbers
goes_on front words after word n is number = rw (is, ← number) (sym (regroup front n (word_numbers after)))

pub stops : (front : List ℕ) (words after : List (List ℕ)) (word : List ℕ) → words ≡ word ∷ after → None ≡ number_in 0 255 word → with_front front (word_numbers words) ≡ Err BadValue
unfolding word_numbers
stops front words after word is number = rw (is, ← number) refl

pub ends : (front : List ℕ) (words : List (List ℕ)) → words ≡ [] → with_front front (word_numbers words) ≡ Ok front
unfolding word_numbers
ends front words is = rw is (ap (λ (ns : List ℕ). Ok ns) (append-nil front))
