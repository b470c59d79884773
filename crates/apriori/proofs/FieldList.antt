-- The fields of a text: the text itself where it has no separator, else the first and those behind it.
use Rattle.std.proofs.Common.{◌≡◌, ℕ, suc, ◌+◌, ◌==◌, true, false, cond, List, [], ◌∷◌, take, drop, map, refl, ap, sym, ◌∙◌, arith}
use Rattle.std.specs.Prelude.{not, ◌||◌}
use Rattle.std.specs.List.{list_any, before_first, after_first, position_or_len}
use Rattle.sdc_base.specs.Blanks.{trim}
use Rattle.sdc_base.specs.Lines.{with_front}
use Rattle.apriori.specs.Fields.{pieces, fields}

piece_last : (separator : ℕ) (text : List ℕ) → list_any (λ b. b == separator) text ≡ false → ◌≡◌ {A = List (List ℕ)} (pieces separator text) (text ∷ [])
piece_last separator [] h = refl
piece_last separator (b ∷ text) h = elim (b == separator) as (λ t. (t || list_any (λ b. b == separator) text) ≡ false → cond t ([] ∷ pieces separator text) (with_front b (pieces separator text)) ≡ (b ∷ text) ∷ []) [
  | true ↦ λ g. absurd cc
  | false ↦ λ g. ap (with_front b) (piece_last separator text g)
] h

next-drop : (n b : ℕ) (text : List ℕ) → drop (1 + n + 1) (b ∷ text) ≡ drop (n + 1) text
next-drop n b text = let same : 1 + n + 1 ≡ suc (n + 1) = omega arith in rw same refl

next-take : (n b : ℕ) (text : List ℕ) → ◌≡◌ {A = List ℕ} (take (1 + n) (b ∷ text)) (b ∷ take n text)
next-take n b text = let same : 1 + n ≡ suc n = omega arith in rw same refl

piece_first : (separator : ℕ) (text : List ℕ) → list_any (λ b. b == separator) text ≡ true
    → ◌≡◌ {A = List (List ℕ)} (pieces separator text) (before_first (λ b. b == separator) text ∷ pieces separator (after_first (λ b. b == separator) text))
piece_first separator [] h = absurd cc
piece_first separator (b ∷ text) h = elim (b == separator) as (λ t. (t || list_any (λ b. b == separator) text) ≡ true → cond t ([] ∷ pieces separator text) (with_front b (pieces separator text)) ≡ take (cond (not t) (1 + position_or_len (λ b. b == separator) text) 0) (b ∷ text) ∷ pieces separator (drop (cond (not t) (1 + position_or_len (λ b. b == separator) text) 0 + 1) (b ∷ text))) [
  | true ↦ λ g. refl
  | false ↦ λ g.
      let behind : drop (1 + position_or_len (λ b. b == separator) text + 1) (b ∷ text) ≡ drop (position_or_len (λ b. b == separator) text + 1) text = next-drop (position_or_len (λ b. b == separator) text) b text in
      let front = next-take (position_or_len (λ b. b == separator) text) b text in
      ap (with_front b) (piece_first separator text g) ∙ ap (λ (rest : List ℕ). (b ∷ before_first (λ b. b == separator) text) ∷ pieces separator rest) (sym behind)
      ∙ ap (λ (piece : List ℕ). piece ∷ pieces separator (drop (1 + position_or_len (λ b. b == separator) text + 1) (b ∷ text))) (sym front)
] h

pub field_last : (separator : ℕ) (text : List ℕ) → list_any (λ b. b == separator) text ≡ false → ◌≡◌ {A = List (List ℕ)} (fields separator text) (trim text ∷ [])
field_last separator text h = ap (map trim) (piece_last separator text h)

pub field_first : (separator : ℕ) (text : List ℕ) → list_any (λ b. b == separator) text ≡ true
    → ◌≡◌ {A = List (List ℕ)} (fields separator text) (trim (before_first (λ b. b == separator) text) ∷ fields separator (after_first (λ b. b == separator) text))
field_first separator text h = ap (map trim) (piece_first separator text h)
