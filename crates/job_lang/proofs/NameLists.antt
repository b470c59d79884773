-- Names in quotes that are read one after the other.
use Rattle.std.proofs.Common.{◌≡◌, ℕ, suc, true, false, List, [], ◌∷◌, ◌++◌, Result, Ok, Err, refl, ap, sym, append_assoc}
use Rattle.std.proofs.lemmas.List.{append-nil}
use Rattle.sdc_base.specs.Steps.{◌>>=◌}
use Rattle.job_lang.specs.declared.faults.JobWhy.{JobWhy}
use Rattle.job_lang.specs.LineTokens.{is_next, quoted_at}
use Rattle.job_lang.specs.TableTexts.{names_up_to}

-- what was read before, and what is still read with the text behind it
abbrev pub with_names : List (List ℕ) → Result (List (List ℕ) × List ℕ) JobWhy → Result (List (List ℕ) × List ℕ) JobWhy
with_names front (Ok read) = Ok (front ++ read.0, read.1)
with_names front (Err why) = Err why

regroup : (front : List (List ℕ)) (name : List ℕ) (read : Result (List (List ℕ) × List ℕ) JobWhy) → with_names front (read >>= λ more. Ok (name ∷ more.0, more.1)) ≡ with_names (front ++ name ∷ []) read
regroup front name (Ok read) = ap (λ (all : List (List ℕ)). Ok (all, read.1)) (simp append_assoc)
regroup front name (Err why) = refl

pub names_go_on : (most left : ℕ) (front : List (List ℕ)) (text : List ℕ) (name behind : List ℕ) → most ≡ suc left → is_next 34 text ≡ true → quoted_at text ≡ Ok (name, behind)
    → with_names (front ++ name ∷ []) (names_up_to left behind) ≡ with_names front (names_up_to most text)
unfolding names_up_to
names_go_on most left front text name behind is next read = rw (is, next, read) (sym (regroup front name (names_up_to left behind)))

pub names_stop : (most left : ℕ) (front : List (List ℕ)) (text : List ℕ) (why : JobWhy) → most ≡ suc left → is_next 34 text ≡ true → quoted_at text ≡ Err why
    → with_names front (names_up_to most text) ≡ Err why
unfolding names_up_to
names_stop most left front text why is next read = rw (is, next, read) refl

pub names_end : (most left : ℕ) (front : List (List ℕ)) (text : List ℕ) → most ≡ suc left → is_next 34 text ≡ false → with_names front (names_up_to most text) ≡ Ok (front, text)
unfolding names_up_to
names_end most left front text is next = rw (is, next) (ap (λ (all : List (List ℕ)). Ok (all, text)) (append-nil front))

pub names_full : (most : ℕ) (front : List (List ℕ)) (text : List ℕ) → most ≡ 0 → with_names front (names_up_to most text) ≡ Ok (front, text)
unfolding names_up_to
names_full most front text is = rw is (ap (λ (all : List (List ℕ)). Ok (all, text)) (append-nil front))
