-- The lines of a certificate's text.
use Rattle.std.proofs.Common.{◌≡◌, ℕ, ◌<◌, List, [], ◌∷◌, ◌++◌, map, refl, ap, sym, ◌∙◌, arith, append_assoc, decimal}
use Rattle.std.specs.Prelude.{codes}
use Rattle.std.specs.List.{AllByRecursion, join_with_byte}
use Rattle.std.proofs.lemmas.List.{map-append}
use Rattle.certificate.specs.declared.certificate.Certificate.{Certificate}
use Rattle.certificate.specs.declared.version.Version.{Version}
use Rattle.certificate.specs.declared.version.Version.TheVariants.{One, Two}
use Rattle.certificate.specs.Pieces.{pieces}
use Rattle.certificate.specs.Certificates.{first_line}
use Rattle.certificate.specs.Texts.{method_arguments, head_tokens, hidden_tokens, step_arguments, step_tokens, refutation_arguments, refutation_tokens, world_arguments, world_tokens, token_lines, text_in}
use Rattle.certificate.specs.Spelling.{FitsIn32Bits, IsSpellable, IsWithinTypes}
use Rattle.certificate.proofs.ClearLaws.{clear_word, clear_decimal, clear_numbers, clear_method, clear_step, clear_refuted, clear_world}
use Rattle.certificate.proofs.ItemLaws.{line_by}
use Rattle.certificate.proofs.PieceLaws.{Avoids, pieces_lines, lines_again}

-- ---- facts of each item of a list

pub each_holds : {A : Type 0} (P R : A → Type 0) (xs : List A) → ((x : A) → P x → R x) → AllByRecursion P xs → AllByRecursion R xs
each_holds P R [] step h = tt
each_holds P R (x ∷ xs) step h = (step x h.0, each_holds P R xs step h.1)

pub both_hold : {A : Type 0} (P Q R : A → Type 0) (xs : List A) → ((x : A) → P x → Q x → R x) → AllByRecursion P xs → AllByRecursion Q xs → AllByRecursion R xs
both_hold P Q R [] step h g = tt
both_hold P Q R (x ∷ xs) step h g = (step x h.0 g.0, both_hold P Q R xs step h.1 g.1)

pub all-append : {A : Type 0} (P : A → Type 0) (xs ys : List A) → AllByRecursion P xs → AllByRecursion P ys → AllByRecursion P (xs ++ ys)
all-append P [] ys h g = g
all-append P (x ∷ xs) ys h g = (h.0, all-append P xs ys h.1 g)

pub all-map : {A B : Type 0} (P : B → Type 0) (f : A → B) (xs : List A) → AllByRecursion (λ x. P (f x)) xs → AllByRecursion P (map f xs)
all-map P f [] h = tt
all-map P f (x ∷ xs) h = (h.0, all-map P f xs h.1)

-- ---- the lines, from the last to the first

-- the line of the end, and nothing behind it
abbrev pub end_lines : List (List ℕ)
end_lines = line_by (codes "end") [] ∷ [] ∷ []

-- the complete tables, and what stands behind them
abbrev pub world_lines : Version → Certificate → List (List ℕ)
world_lines version c = map (λ line. line_by (codes "world") (world_arguments version c.hidden line)) c.worlds ++ end_lines

abbrev pub need_lines : Version → Certificate → List (List ℕ)
need_lines version c = map (λ r. line_by (codes "need") (refutation_arguments r)) c.needs ++ world_lines version c

abbrev pub repair_lines : Version → Certificate → List (List ℕ)
repair_lines version c = map (λ r. line_by (codes "repair") (refutation_arguments r)) c.repairs ++ need_lines version c

abbrev pub step_lines : Version → Certificate → List (List ℕ)
step_lines version c = map (λ s. line_by (codes "step") (step_arguments s)) c.steps ++ repair_lines version c

-- the line of the hidden cells
abbrev pub hidden_line : List ℕ → List (List ℕ)
hidden_line [] = []
hidden_line (cell ∷ cells) = line_by (codes "hidden") (decimal cell ∷ map decimal cells) ∷ []

abbrev pub hidden_lines : Version → Certificate → List (List ℕ)
hidden_lines version c = hidden_line c.hidden ++ step_lines version c

abbrev pub all_lines : Version → Certificate → List (List ℕ)
all_lines version c =
    first_line version ∷ line_by (codes "method") (method_arguments c.method) ∷ line_by (codes "cells") (decimal c.cells ∷ []) ∷ line_by (codes "relations") (decimal c.relations ∷ []) ∷ hidden_lines version c

abbrev pub joined : List (List ℕ) → List ℕ
joined tokens = join_with_byte 32 tokens

map-twice : {A B C : Type 0} (f : B → C) (g : A → B) (xs : List A) → map f (map g xs) ≡ map (λ x. f (g x)) xs
map-twice f g [] = refl
map-twice f g (x ∷ xs) = ap (λ rest. f (g x) ∷ rest) (map-twice f g xs)

hidden-joined : (cells : List ℕ) → map joined (hidden_tokens cells) ≡ hidden_line cells
hidden-joined [] = refl
hidden-joined (cell ∷ cells) = refl

-- one list more in front of what stands behind
pub moved : {A B : Type 0} (f : A → B) (xs ys : List A) (zs : List B) → map f (xs ++ ys) ++ zs ≡ map f xs ++ (map f ys ++ zs)
moved f xs ys zs = ap (λ all. all ++ zs) (map-append f xs ys) ∙ append_assoc (map f xs) (map f ys) zs

pub moved-by : {A B C : Type 0} (f : A → B) (g : C → A) (xs : List A) (ys : List C) (zs : List B) → map f (xs ++ map g ys) ++ zs ≡ map f xs ++ (map (λ y. f (g y)) ys ++ zs)
moved-by f g xs ys zs = moved f xs (map g ys) zs ∙ ap (λ middle. map f xs ++ (middle ++ zs)) (map-twice f g ys)

pub lines_are : (version : Version) (c : Certificate) → map joined (token_lines version c) ++ [] ∷ [] ≡ all_lines version c
lines_are version c =
    let first = head_tokens version c.method c.cells c.relations ++ hidden_tokens c.hidden in
    let second = first ++ map step_tokens c.steps in
    let third = second ++ map (refutation_tokens (codes "repair")) c.repairs in
    let fourth = third ++ map (refutation_tokens (codes "need")) c.needs in
    let fifth = fourth ++ map (world_tokens (codes "world") version c.hidden) c.worlds in
    moved joined fifth ((codes "end" ∷ []) ∷ []) ([] ∷ [])
    ∙ moved-by joined (world_tokens (codes "world") version c.hidden) fourth c.worlds end_lines
    ∙ moved-by joined (refutation_tokens (codes "need")) third c.needs (world_lines version c)
    ∙ moved-by joined (refutation_tokens (codes "repair")) second c.repairs (need_lines version c)
    ∙ moved-by joined step_tokens first c.steps (repair_lines version c)
    ∙ moved joined (head_tokens version c.method c.cells c.relations) (hidden_tokens c.hidden) (step_lines version c)
    ∙ ap (λ (lines : List (List ℕ)). map joined (head_tokens version c.method c.cells c.relations) ++ (lines ++ step_lines version c)) (hidden-joined c.hidden)

-- ---- the text is cut into these lines, and what is cut into them is the text

abbrev pub IsClear : List (List ℕ) → Type 0
IsClear tokens = AllByRecursion (Avoids 10) tokens

hidden-clear : (cells : List ℕ) → AllByRecursion FitsIn32Bits cells → AllByRecursion IsClear (hidden_tokens cells)
hidden-clear [] h = tt
hidden-clear (cell ∷ cells) h = ((clear_word 10 (codes "hidden") (omega arith) refl, clear_numbers 10 (cell ∷ cells) (omega arith) h), tt)

clear-first : (version : Version) → Avoids 10 (first_line version)
clear-first One = refl
clear-first Two = refl

pub text_cut : (version : Version) (c : Certificate) → IsSpellable c → IsWithinTypes c → pieces 10 (text_in version c) ≡ all_lines version c
text_cut version c fine wide =
    let low : 10 < 44 = omega arith in
    let head : AllByRecursion IsClear (head_tokens version c.method c.cells c.relations) = (
      (clear-first version, tt),
      (
        clear_method 10 c.method low wide.method,
        (
          (clear_word 10 (codes "cells") low refl, (clear_decimal 10 c.cells low wide.cells, tt)),
          ((clear_word 10 (codes "relations") low refl, (clear_decimal 10 c.relations low wide.relations, tt)), tt),
        ),
      ),
    ) in
    let steps = all-map IsClear step_tokens c.steps (both_hold _ _ _ c.steps (λ s f w. clear_step 10 s low f w) fine.steps wide.steps) in
    let repairs = all-map IsClear (refutation_tokens (codes "repair")) c.repairs (each_holds _ _ c.repairs (λ r w. clear_refuted 10 (codes "repair") r low refl w) wide.repairs) in
    let needs = all-map IsClear (refutation_tokens (codes "need")) c.needs (each_holds _ _ c.needs (λ r w. clear_refuted 10 (codes "need") r low refl w) wide.needs) in
    let worlds = all-map IsClear (world_tokens (codes "world") version c.hidden) c.worlds (each_holds _ _ c.worlds (λ l w. clear_world version 10 (codes "world") c.hidden l low refl w) wide.worlds) in
    let last : AllByRecursion IsClear ((codes "end" ∷ []) ∷ []) = ((clear_word 10 (codes "end") low refl, tt), tt) in
    let to_hidden = head_tokens version c.method c.cells c.relations ++ hidden_tokens c.hidden in
    let to_steps = to_hidden ++ map step_tokens c.steps in
    let to_repairs = to_steps ++ map (refutation_tokens (codes "repair")) c.repairs in
    let to_needs = to_repairs ++ map (refutation_tokens (codes "need")) c.needs in
    let to_worlds = to_needs ++ map (world_tokens (codes "world") version c.hidden) c.worlds in
    let a = all-append IsClear (head_tokens version c.method c.cells c.relations) (hidden_tokens c.hidden) head (hidden-clear c.hidden wide.hidden) in
    let b = all-append IsClear to_hidden (map step_tokens c.steps) a steps in
    let d = all-append IsClear to_steps (map (refutation_tokens (codes "repair")) c.repairs) b repairs in
    let e = all-append IsClear to_repairs (map (refutation_tokens (codes "need")) c.needs) d needs in
    let f = all-append IsClear to_needs (map (world_tokens (codes "world") version c.hidden) c.worlds) e worlds in
    pieces_lines (token_lines version c) (all-append IsClear to_worlds ((codes "end" ∷ []) ∷ []) f last) ∙ lines_are version c

pub text_again : (version : Version) (bytes : List ℕ) (c : Certificate) → pieces 10 bytes ≡ all_lines version c → bytes ≡ text_in version c
text_again version bytes c h = lines_again bytes (token_lines version c) (h ∙ sym (lines_are version c))
