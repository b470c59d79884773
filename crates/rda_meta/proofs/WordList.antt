-- The words of a line: none in a blank one, else the first and those behind it.
use Rattle.std.proofs.Common.{◌≡◌, ℕ, zero, suc, ◌+◌, ◌-◌, ◌<◌, ◌≤◌, ◌==◌, true, false, cond, List, [], ◌∷◌, length, drop, refl, ap, sym, ◌∙◌, arith}
use Rattle.std.specs.List.{position_or_len, suffix_len}
use Rattle.std.proofs.lemmas.List.{length-take, length-drop}
use Rattle.sdc_base.specs.Blanks.{is_blank, is_dark, trim, trim_front}
use Rattle.rda_meta.specs.Words.{is_quoted, first_word, behind_word, words_up_to, words}
use Rattle.sdc_base.specs.Tokens.{is_quote}

trim-shorter : (line : List ℕ) → length (trim line) ≤ length line
trim-shorter line =
    omega (arith, length-take (length (trim_front line) - suffix_len is_blank (trim_front line)) (trim_front line), length-drop (position_or_len is_dark line) line)

behind-shorter : (line : List ℕ) → 0 < length line → length (behind_word line) < length line
behind-shorter line some =
    let quoted : length (drop (position_or_len is_quote (drop 1 line) + 1) (drop 1 line)) < length line = omega (arith, length-drop (position_or_len is_quote (drop 1 line) + 1) (drop 1 line), length-drop 1 line) in
    let plain : length (drop (position_or_len is_blank line + 1) line) < length line = omega (arith, length-drop (position_or_len is_blank line + 1) line) in
    elim (is_quoted line) as (λ t. length (cond t (drop (position_or_len is_quote (drop 1 line) + 1) (drop 1 line)) (drop (position_or_len is_blank line + 1) line)) < length line) [ true ↦ quoted | false ↦ plain ]

is-none : (text : List ℕ) → length text ≤ 0 → (length text == 0) ≡ true
is-none text h = grind arith

is-some : (text : List ℕ) → (length text == 0) ≡ false → 0 < length text
is-some text h = grind arith

some-is : (text : List ℕ) → 0 < length text → (length text == 0) ≡ false
some-is text h = grind arith

enough : (n m : ℕ) (line : List ℕ) → length line ≤ n → length line ≤ m → words_up_to n line ≡ words_up_to m line
unfolding words_up_to
enough zero zero line p q = refl
enough zero (suc m) line p q = rw (is-none (trim line) (omega (arith, trim-shorter line))) refl
enough (suc n) zero line p q = rw (is-none (trim line) (omega (arith, trim-shorter line))) refl
enough (suc n) (suc m) line p q =
    elim (length (trim line) == 0) as (λ t. (length (trim line) == 0) ≡ t → cond t [] (first_word (trim line) ∷ words_up_to n (behind_word (trim line))) ≡ cond t [] (first_word (trim line) ∷ words_up_to m (behind_word (trim line)))) [
      | true ↦ λ none. refl
      | false ↦ λ some.
          let less = behind-shorter (trim line) (is-some (trim line) some) in
          ap (λ (ws : List (List ℕ)). first_word (trim line) ∷ ws) (enough n m (behind_word (trim line)) (omega (arith, trim-shorter line)) (omega (arith, trim-shorter line)))
    ] refl

more : (n : ℕ) (line : List ℕ) → 0 < length (trim line) → length line ≤ suc n → words_up_to (suc n) line ≡ first_word (trim line) ∷ words_up_to n (behind_word (trim line))
unfolding words_up_to
more n line some h = rw (some-is (trim line) some) refl

none : (n : ℕ) (line : List ℕ) → length (trim line) ≤ 0 → ◌≡◌ {A = List (List ℕ)} (words_up_to n line) []
unfolding words_up_to
none zero line h = refl
none (suc n) line h = rw (is-none (trim line) h) refl

pub words_none : (line text : List ℕ) → text ≡ trim line → length text ≡ 0 → ◌≡◌ {A = List (List ℕ)} (words line) []
unfolding words
words_none line text is blank = none (length line) line (omega (arith, ap length is))

pub words_some : (line text word rest : List ℕ) → text ≡ trim line → 0 < length text → word ≡ first_word text → rest ≡ behind_word text → words line ≡ word ∷ words rest
unfolding words
words_some line text word rest is some front back =
    let there : 0 < length (trim line) = omega (arith, ap length is) in
    let less = behind-shorter (trim line) there in
    let n = length line - 1 in
    let long : length line ≡ suc n = omega (arith, trim-shorter line) in
    let whole = ap (λ (k : ℕ). words_up_to k line) long ∙ more n line there (omega arith) in
    let word-is : first_word (trim line) ≡ word = ap first_word (sym is) ∙ sym front in
    let rest-is : behind_word (trim line) ≡ rest = ap behind_word (sym is) ∙ sym back in
    let length-is : length (behind_word (trim line)) ≡ length rest = ap length rest-is in
    whole ∙ ap (λ (w : List ℕ). w ∷ words_up_to n (behind_word (trim line))) word-is ∙ ap (λ (r : List ℕ). word ∷ words_up_to n r) rest-is ∙ ap (λ (ws : List (List ℕ)). word ∷ ws) (enough n (length rest) rest (omega (arith, trim-shorter line)) (omega arith))
