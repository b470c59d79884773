-- Words that were spelled are read again.
use Rattle.std.proofs.Common.{◌≡◌, ℕ, zero, suc, ◌+◌, ◌-◌, ◌==◌, Bool, true, false, cond, ◌||◌, List, [], ◌∷◌, ◌++◌, length, drop, refl, ap, sym, subst, ◌∙◌, arith, append_assoc}
use Rattle.std.specs.List.{list_any, position_or_len, suffix_len, before_first, after_first}
use Rattle.std.proofs.lemmas.List.{append-nil, take_at, drop_at, drop_all, take_all, length-append, reverse-append}
use Rattle.std.proofs.lemmas.List.Folds.{list_any-append}
use Rattle.sdc_base.specs.Blanks.{is_blank, is_dark, trim, trim_front, trim_back}
use Rattle.rda_meta.specs.Words.{first_word, behind_word, words}
use Rattle.sdc_base.specs.Tokens.{is_quote, in_quotes}
use Rattle.rda_meta.specs.Spelling.{needs_quotes, spelling_of_word, words_behind_spaces}
use Rattle.rda_meta.specs.CanonicalMetadata.{IsPlain, ArePlain}
use Rattle.rda_meta.proofs.WordList.{words_none, words_some}

pub or-left : (a b : Bool) → (a || b) ≡ false → a ≡ false
or-left true b h = h
or-left false b h = refl

pub or-right : (a b : Bool) → (a || b) ≡ false → b ≡ false
or-right true b h = absurd cc
or-right false b h = h

-- ---- up to the first that passes

stops-at : (p : ℕ → Bool) (w : List ℕ) (b : ℕ) (rest : List ℕ) → list_any p w ≡ false → p b ≡ true → position_or_len p (w ++ b ∷ rest) ≡ length w
stops-at p [] b rest none here = rw here refl
stops-at p (x ∷ w) b rest none here = rw (or-left (p x) (list_any p w) none, stops-at p w b rest (or-right (p x) (list_any p w) none) here) (omega arith)

runs-through : (p : ℕ → Bool) (w : List ℕ) → list_any p w ≡ false → position_or_len p w ≡ length w
runs-through p [] none = refl
runs-through p (x ∷ w) none = rw (or-left (p x) (list_any p w) none, runs-through p w (or-right (p x) (list_any p w) none)) (omega arith)

before-stop : (p : ℕ → Bool) (w : List ℕ) (b : ℕ) (rest : List ℕ) → list_any p w ≡ false → p b ≡ true → before_first p (w ++ b ∷ rest) ≡ w
before-stop p w b rest none here = take_at w (b ∷ rest) (position_or_len p (w ++ b ∷ rest)) (sym (stops-at p w b rest none here))

pub after-stop : (p : ℕ → Bool) (w : List ℕ) (b : ℕ) (rest : List ℕ) → list_any p w ≡ false → p b ≡ true → after_first p (w ++ b ∷ rest) ≡ rest
after-stop p w b rest none here =
    let longer : (w ++ b ∷ []) ++ rest ≡ w ++ b ∷ rest = append_assoc w (b ∷ []) rest in
    let long : length (w ++ b ∷ []) ≡ position_or_len p (w ++ b ∷ rest) + 1 = omega (arith, stops-at p w b rest none here, length-append w (b ∷ [])) in
    ap (drop (position_or_len p (w ++ b ∷ rest) + 1)) (sym longer) ∙ drop_at (w ++ b ∷ []) rest (position_or_len p (w ++ b ∷ rest) + 1) long

-- ---- a line that begins and ends dark

abbrev pub EndsDark : List ℕ → Type 0
EndsDark line = (front : List ℕ) × (last : ℕ) × (line ≡ front ++ last ∷ []) × (is_blank last ≡ false)

pub ends-append : (a b : List ℕ) → EndsDark b → EndsDark (a ++ b)
ends-append a b h = (a ++ h.0, h.1, ap (λ (x : List ℕ). a ++ x) h.2 ∙ sym (append_assoc a h.0 (h.1 ∷ [])), h.3)

ends-bare : (b : ℕ) (word : List ℕ) → list_any is_blank (b ∷ word) ≡ false → EndsDark (b ∷ word)
ends-bare b [] none = ([], b, refl, or-left (is_blank b) false none)
ends-bare b (c ∷ word) none = ends-append (b ∷ []) (c ∷ word) (ends-bare c word (or-right (is_blank b) (list_any is_blank (c ∷ word)) none))

ends-spelled : (word : List ℕ) → EndsDark (spelling_of_word word)
ends-spelled [] = (34 ∷ [], 34, refl, refl)
ends-spelled (b ∷ word) =
    elim (needs_quotes (b ∷ word)) as (λ t. needs_quotes (b ∷ word) ≡ t → EndsDark (cond t (in_quotes (b ∷ word)) (b ∷ word))) [
      | true ↦ λ _. (34 ∷ b ∷ word, 34, refl, refl)
      | false ↦ λ bare. ends-bare b word (or-right (is_quote b || (b == 60)) (list_any is_blank (b ∷ word)) bare)
    ] refl

pub ends-spaced : (word : List ℕ) (words : List (List ℕ)) → EndsDark (spelling_of_word word ++ words_behind_spaces words)
ends-spaced word [] = subst EndsDark (sym (append-nil (spelling_of_word word))) (ends-spelled word)
ends-spaced word (next ∷ words) = ends-append (spelling_of_word word) (words_behind_spaces (next ∷ words)) (ends-append (32 ∷ []) (spelling_of_word next ++ words_behind_spaces words) (ends-spaced next words))

back-dark : (line : List ℕ) → EndsDark line → trim_back line ≡ line
back-dark line h =
    let none : suffix_len is_blank line ≡ 0 = rw (h.2, reverse-append h.0 (h.1 ∷ []), h.3) refl in
    rw none (take_all (length line - 0) line (omega arith))

pub trim_dark : (b : ℕ) (line : List ℕ) → is_blank b ≡ false → EndsDark (b ∷ line) → trim (b ∷ line) ≡ b ∷ line
trim_dark b line dark ends =
    let front : trim_front (b ∷ line) ≡ b ∷ line = rw dark refl in
    ap trim_back front ∙ back-dark (b ∷ line) ends

-- ---- words

trim-blank : (line : List ℕ) → trim (32 ∷ line) ≡ trim line
trim-blank line =
    let far : 1 + position_or_len is_dark line ≡ suc (position_or_len is_dark line) = omega arith in
    ap trim_back (ap (λ n. drop n (32 ∷ line)) far)

same-words : (a b : List ℕ) → trim a ≡ trim b → words a ≡ words b
same-words a b same =
    let of : (n : ℕ) → length (trim a) ≡ n → words a ≡ words b =
    λ n. elim n as (λ n. length (trim a) ≡ n → words a ≡ words b) [
      | zero ↦ λ none. words_none a (trim a) refl none ∙ sym (words_none b (trim a) same none)
      | suc m ↦ λ some. words_some a (trim a) (first_word (trim a)) (behind_word (trim a)) refl (omega arith) refl refl ∙ sym (words_some b (trim a) (first_word (trim a)) (behind_word (trim a)) same (omega arith) refl refl)
    ] in
    of (length (trim a)) refl

quoted-word : (word : List ℕ) (words' : List (List ℕ)) → IsPlain word → EndsDark (in_quotes word ++ words_behind_spaces words') → words (in_quotes word ++ words_behind_spaces words') ≡ word ∷ words (words_behind_spaces words')
quoted-word word words' plain ends =
    let tail : List ℕ = words_behind_spaces words' in
    let line : in_quotes word ++ tail ≡ 34 ∷ (word ++ 34 ∷ tail) = ap (λ (x : List ℕ). 34 ∷ x) (append_assoc word (34 ∷ []) tail) in
    let closed : list_any is_quote (word ++ 34 ∷ tail) ≡ true = rw (list_any-append is_quote word (34 ∷ tail), plain) refl in
    let front : word ≡ first_word (34 ∷ (word ++ 34 ∷ tail)) = rw closed (sym (before-stop is_quote word 34 tail plain refl)) in
    let back : tail ≡ behind_word (34 ∷ (word ++ 34 ∷ tail)) = rw closed (sym (after-stop is_quote word 34 tail plain refl)) in
    let clean : 34 ∷ (word ++ 34 ∷ tail) ≡ trim (34 ∷ (word ++ 34 ∷ tail)) = sym (trim_dark 34 (word ++ 34 ∷ tail) refl (subst EndsDark line ends)) in
    ap words line ∙ words_some (34 ∷ (word ++ 34 ∷ tail)) (34 ∷ (word ++ 34 ∷ tail)) word tail clean (omega arith) front back

bare-word : (b : ℕ) (word : List ℕ) (words' : List (List ℕ)) → is_quote b ≡ false → list_any is_blank (b ∷ word) ≡ false → EndsDark ((b ∷ word) ++ words_behind_spaces words') → words ((b ∷ word) ++ words_behind_spaces words') ≡ (b ∷ word) ∷ words (words_behind_spaces words')
bare-word b word [] bare dark ends =
    let whole : List ℕ = b ∷ word in
    let line : whole ++ [] ≡ whole = append-nil whole in
    let far : position_or_len is_blank whole ≡ length whole = runs-through is_blank whole dark in
    let front : whole ≡ first_word whole = rw bare (sym (take_all (position_or_len is_blank whole) whole (omega (arith, far)))) in
    let back : ◌≡◌ {A = List ℕ} [] (behind_word whole) = rw bare (sym (drop_all (position_or_len is_blank whole + 1) whole (omega (arith, far)))) in
    let clean : whole ≡ trim whole = sym (trim_dark b word (or-left (is_blank b) (list_any is_blank word) dark) (subst EndsDark line ends)) in
    ap words line ∙ words_some whole whole whole [] clean (omega arith) front back
bare-word b word (next ∷ words') bare dark ends =
    let whole : List ℕ = b ∷ word in
    let tail : List ℕ = spelling_of_word next ++ words_behind_spaces words' in
    let front : whole ≡ first_word (whole ++ 32 ∷ tail) = rw bare (sym (before-stop is_blank whole 32 tail dark refl)) in
    let back : tail ≡ behind_word (whole ++ 32 ∷ tail) = rw bare (sym (after-stop is_blank whole 32 tail dark refl)) in
    let clean : whole ++ 32 ∷ tail ≡ trim (whole ++ 32 ∷ tail) = sym (trim_dark b (word ++ 32 ∷ tail) (or-left (is_blank b) (list_any is_blank word) dark) ends) in
    words_some (whole ++ 32 ∷ tail) (whole ++ 32 ∷ tail) whole tail clean (omega arith) front back ∙ ap (λ (ws : List (List ℕ)). whole ∷ ws) (same-words tail (32 ∷ tail) (sym (trim-blank tail)))

pub words_spelled : (word : List ℕ) (words' : List (List ℕ)) → IsPlain word → words (spelling_of_word word ++ words_behind_spaces words') ≡ word ∷ words (words_behind_spaces words')
words_spelled [] words' plain = quoted-word [] words' plain (ends-spaced [] words')
words_spelled (b ∷ word) words' plain =
    elim (needs_quotes (b ∷ word)) as (λ t. needs_quotes (b ∷ word) ≡ t → EndsDark (cond t (in_quotes (b ∷ word)) (b ∷ word) ++ words_behind_spaces words') → words (cond t (in_quotes (b ∷ word)) (b ∷ word) ++ words_behind_spaces words') ≡ (b ∷ word) ∷ words (words_behind_spaces words')) [
      | true ↦ λ need ends. quoted-word (b ∷ word) words' plain ends
      | false ↦ λ bare ends. bare-word b word words' (or-left (is_quote b) (b == 60) (or-left (is_quote b || (b == 60)) (list_any is_blank (b ∷ word)) bare)) (or-right (is_quote b || (b == 60)) (list_any is_blank (b ∷ word)) bare) ends
    ] refl (ends-spaced (b ∷ word) words')

-- words that were spelled are read again
pub words_spaced : (ws : List (List ℕ)) → ArePlain ws → words (words_behind_spaces ws) ≡ ws
words_spaced [] plain = words_none [] [] refl refl
words_spaced (word ∷ ws) plain = same-words (32 ∷ (spelling_of_word word ++ words_behind_spaces ws)) (spelling_of_word word ++ words_behind_spaces ws) (trim-blank (spelling_of_word word ++ words_behind_spaces ws)) ∙ words_spelled word ws plain.0 ∙ ap (λ (xs : List (List ℕ)). word ∷ xs) (words_spaced ws plain.1)
