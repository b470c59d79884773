-- A text before and behind its first mark.
use Rattle.std.proofs.Common.{◌≡◌, ℕ, suc, ◌+◌, ◌==◌, true, false, cond, List, [], ◌∷◌, ◌++◌, take, drop, refl, ap, sym, ◌∙◌, arith}
use Rattle.std.specs.Prelude.{not, ◌||◌}
use Rattle.std.specs.List.{list_any, before_first, after_first, position_or_len}
use Rattle.std.specs.Str.{bytes_eq}
use Rattle.std.proofs.lemmas.Slice.Eq.{bytes_eq-Decides}

-- no byte of the text is this mark
abbrev pub Avoids : ℕ → List ℕ → Type 0
Avoids mark text = list_any (λ b. b == mark) text ≡ false

pub same_mark : (mark : ℕ) → (mark == mark) ≡ true
same_mark mark = grind arith

pub same_bytes : (bytes : List ℕ) → bytes_eq bytes bytes ≡ true
same_bytes bytes = (bytes_eq-Decides bytes bytes).1 refl

pub equal_bytes : (xs ys : List ℕ) → bytes_eq xs ys ≡ true → xs ≡ ys
equal_bytes xs ys h = (bytes_eq-Decides xs ys).0 h

pub next-drop : (n b : ℕ) (text : List ℕ) → drop (1 + n + 1) (b ∷ text) ≡ drop (n + 1) text
next-drop n b text = let same : 1 + n + 1 ≡ suc (n + 1) = omega arith in rw same refl

pub next-take : (n b : ℕ) (text : List ℕ) → ◌≡◌ {A = List ℕ} (take (1 + n) (b ∷ text)) (b ∷ take n text)
next-take n b text = let same : 1 + n ≡ suc n = omega arith in rw same refl

pub before_at : (mark : ℕ) (xs ys : List ℕ) → Avoids mark xs → before_first (λ b. b == mark) (xs ++ mark ∷ ys) ≡ xs
before_at mark [] ys h = rw (same_mark mark) refl
before_at mark (b ∷ xs) ys h = elim (b == mark) as (λ t. (t || list_any (λ c. c == mark) xs) ≡ false → take (cond (not t) (1 + position_or_len (λ c. c == mark) (xs ++ mark ∷ ys)) 0) (b ∷ (xs ++ mark ∷ ys)) ≡ b ∷ xs) [
  | true ↦ λ g. absurd cc
  | false ↦ λ g. next-take (position_or_len (λ c. c == mark) (xs ++ mark ∷ ys)) b (xs ++ mark ∷ ys) ∙ ap (λ (rest : List ℕ). b ∷ rest) (before_at mark xs ys g)
] h

pub after_at : (mark : ℕ) (xs ys : List ℕ) → Avoids mark xs → after_first (λ b. b == mark) (xs ++ mark ∷ ys) ≡ ys
after_at mark [] ys h = rw (same_mark mark) refl
after_at mark (b ∷ xs) ys h = elim (b == mark) as (λ t. (t || list_any (λ c. c == mark) xs) ≡ false → drop (cond (not t) (1 + position_or_len (λ c. c == mark) (xs ++ mark ∷ ys)) 0 + 1) (b ∷ (xs ++ mark ∷ ys)) ≡ ys) [
  | true ↦ λ g. absurd cc
  | false ↦ λ g. next-drop (position_or_len (λ c. c == mark) (xs ++ mark ∷ ys)) b (xs ++ mark ∷ ys) ∙ after_at mark xs ys g
] h

pub mark_in : (mark : ℕ) (xs ys : List ℕ) → list_any (λ b. b == mark) (xs ++ mark ∷ ys) ≡ true
mark_in mark [] ys = rw (same_mark mark) refl
mark_in mark (b ∷ xs) ys = rw (mark_in mark xs ys) (elim (b == mark) as (λ t. (t || true) ≡ true) [ true ↦ refl | false ↦ refl ])

is-mark : (b mark : ℕ) → (b == mark) ≡ true → b ≡ mark
is-mark b mark h = grind arith

pub cut_again : (mark : ℕ) (text : List ℕ) → list_any (λ b. b == mark) text ≡ true → text ≡ before_first (λ b. b == mark) text ++ mark ∷ after_first (λ b. b == mark) text
cut_again mark [] h = absurd cc
cut_again mark (b ∷ text) h = elim (b == mark) as (λ t. (b == mark) ≡ t → (t || list_any (λ c. c == mark) text) ≡ true
    → b ∷ text ≡ take (cond (not t) (1 + position_or_len (λ c. c == mark) text) 0) (b ∷ text) ++ mark ∷ drop (cond (not t) (1 + position_or_len (λ c. c == mark) text) 0 + 1) (b ∷ text)) [
      | true ↦ λ is g. ap (λ (x : ℕ). x ∷ text) (is-mark b mark is)
      | false ↦ λ is g.
          ap (λ (rest : List ℕ). b ∷ rest) (cut_again mark text g)
          ∙ ap (λ (front : List ℕ). front ++ mark ∷ after_first (λ c. c == mark) text) (sym (next-take (position_or_len (λ c. c == mark) text) b text))
          ∙ ap (λ (rest : List ℕ). take (1 + position_or_len (λ c. c == mark) text) (b ∷ text) ++ mark ∷ rest) (sym (next-drop (position_or_len (λ c. c == mark) text) b text))
    ] refl h
