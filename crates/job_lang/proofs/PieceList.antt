-- The pieces of a text: the text itself where it has no bar, else the first and those behind it.
use Rattle.std.proofs.Common.{◌≡◌, ℕ, suc, ◌+◌, ◌==◌, true, false, cond, List, [], ◌∷◌, take, drop, refl, ap, sym, ◌∙◌, arith}
use Rattle.std.specs.Prelude.{not, ◌||◌}
use Rattle.std.specs.List.{list_any, before_first, after_first, position_or_len}
use Rattle.sdc_base.specs.Lines.{with_front}
use Rattle.job_lang.specs.Pieces.{pieces}

pub piece_last : (text : List ℕ) → list_any (λ b. b == 124) text ≡ false → ◌≡◌ {A = List (List ℕ)} (pieces text) (text ∷ [])
piece_last [] h = refl
piece_last (b ∷ text) h = elim (b == 124) as (λ t. (t || list_any (λ b. b == 124) text) ≡ false → cond t ([] ∷ pieces text) (with_front b (pieces text)) ≡ (b ∷ text) ∷ []) [
  | true ↦ λ g. absurd cc
  | false ↦ λ g. ap (with_front b) (piece_last text g)
] h

next-drop : (n b : ℕ) (text : List ℕ) → drop (1 + n + 1) (b ∷ text) ≡ drop (n + 1) text
next-drop n b text = let same : 1 + n + 1 ≡ suc (n + 1) = omega arith in rw same refl

next-take : (n b : ℕ) (text : List ℕ) → ◌≡◌ {A = List ℕ} (take (1 + n) (b ∷ text)) (b ∷ take n text)
next-take n b text = let same : 1 + n ≡ suc n = omega arith in rw same refl

pub piece_first : (text : List ℕ) → list_any (λ b. b == 124) text ≡ true → ◌≡◌ {A = List (List ℕ)} (pieces text) (before_first (λ b. b == 124) text ∷ pieces (after_first (λ b. b == 124) text))
piece_first [] h = absurd cc
piece_first (b ∷ text) h = elim (b == 124) as (λ t. (t || list_any (λ b. b == 124) text) ≡ true → cond t ([] ∷ pieces text) (with_front b (pieces text)) ≡ take (cond (not t) (1 + position_or_len (λ b. b == 124) text) 0) (b ∷ text) ∷ pieces (drop (cond (not t) (1 + position_or_len (λ b. b == 124) text) 0 + 1) (b ∷ text))) [
  | true ↦ λ g. refl
  | false ↦ λ g.
      let behind : drop (1 + position_or_len (λ b. b == 124) text + 1) (b ∷ text) ≡ drop (position_or_len (λ b. b == 124) text + 1) text = next-drop (position_or_len (λ b. b == 124) text) b text in
      let front = next-take (position_or_len (λ b. b == 124) text) b text in
      ap (with_front b) (piece_first text g) ∙ ap (λ (rest : List ℕ). (b ∷ before_first (λ b. b == 124) text) ∷ pieces rest) (sym behind)
      ∙ ap (λ (piece : List ℕ). piece ∷ pieces (drop (1 + position_or_len (λ b. b == 124) text + 1) (b ∷ text))) (sym front)
] h
