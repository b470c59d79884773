-- Tokens that are appended one after the other.
use Rattle.std.proofs.Common.{◌≡◌, ℕ, ◌<◌, List, [], ◌∷◌, ◌++◌, length, map, flat_map, drop, get_or, decimal, refl, ap, sym, ◌∙◌, arith, append_assoc}
use Rattle.std.specs.Prelude.{codes}
use Rattle.std.specs.List.{join_with_byte}
use Rattle.std.proofs.lemmas.List.{append-nil}
use Rattle.std.proofs.lemmas.List.Concat.{flat_map-append}
use Rattle.std.proofs.lemmas.List.Folds.{flat_map-map}
use Rattle.sdc_base.specs.Forms.{Term}
use Rattle.certificate.specs.declared.certificate.Certificate.{Certificate}
use Rattle.worlds.specs.declared.world.Move.{Move}
use Rattle.certificate.specs.declared.version.Version.TheVariants.{Two}
use Rattle.certificate.specs.Texts.{comma_list, pair_token, move_token, head_tokens, hidden_tokens, step_tokens, refutation_tokens, world_tokens, line_text, text_of}

-- pieces joined by a mark: the first, and each other behind a mark
pub join_marked : {X : Type 0} (mark : ℕ) (f : X → List ℕ) (first : List ℕ) (xs : List X) → join_with_byte mark (first ∷ map f xs) ≡ first ++ flat_map (λ x. mark ∷ f x) xs
join_marked mark f first [] = sym (append-nil first)
join_marked mark f first (x ∷ xs) = ap (λ (rest : List ℕ). first ++ mark ∷ rest) (join_marked mark f (f x) xs)

listed_is : (numbers : List ℕ) → 0 < length numbers → comma_list numbers ≡ decimal (get_or numbers 0 0) ++ flat_map (λ n. 44 ∷ decimal n) (drop 1 numbers)
listed_is [] some = absurd (omega (arith, some))
listed_is (n ∷ numbers) some = join_marked 44 decimal (decimal n) numbers

pub listed_appended : (text numbers : List ℕ) → 0 < length numbers → (text ++ decimal (get_or numbers 0 0)) ++ flat_map (λ n. 44 ∷ decimal n) (drop 1 numbers) ≡ text ++ comma_list numbers
listed_appended text numbers some = rw (listed_is numbers some) (simp append_assoc)

pub hidden_appended : (text cells : List ℕ) → 0 < length cells → ((text ++ codes "hidden") ++ flat_map (λ n. 32 ∷ decimal n) cells) ++ 10 ∷ [] ≡ text ++ flat_map line_text (hidden_tokens cells)
hidden_appended text [] some = absurd (omega (arith, some))
hidden_appended text (cell ∷ cells) some = rw (join_marked 32 decimal (decimal cell) cells) (simp append_assoc)

pub cons_append : {A : Type 0} (x : A) (xs ys : List A) → ◌++◌ {A = A} (x ∷ xs) ys ≡ x ∷ (xs ++ ys)
cons_append x xs ys = refl

pub nil_append : {A : Type 0} (ys : List A) → ◌++◌ {A = A} [] ys ≡ ys
nil_append ys = refl

pub head_appended : (text first method counted cells related relations : List ℕ)
    → ((text ++ (first ++ (10 ∷ []))) ++ method) ++ (counted ++ (32 ∷ (cells ++ (10 ∷ (related ++ (32 ∷ (relations ++ (10 ∷ []))))))))
    ≡ text ++ (line_text (first ∷ []) ++ (method ++ (line_text (counted ∷ cells ∷ []) ++ (line_text (related ∷ relations ∷ []) ++ []))))
head_appended text first method counted cells related relations = simp (append_assoc, cons_append, nil_append)

pub refuted_appended : (text word subject cell side den : List ℕ) (terms : List Term)
    → (((((text ++ word) ++ (32 ∷ (subject ++ (32 ∷ (cell ++ (32 ∷ [])))))) ++ side) ++ (32 ∷ den)) ++ flat_map (λ pair. 32 ∷ pair_token pair) terms) ++ (10 ∷ [])
    ≡ text ++ line_text (word ∷ subject ∷ cell ∷ side ∷ den ∷ map pair_token terms)
refuted_appended text word subject cell side den terms = rw (join_marked 32 pair_token den terms) (simp (append_assoc, cons_append, nil_append))

pub world_appended : (text word cell side den : List ℕ) (moves : List Move)
    → (((((text ++ word) ++ (32 ∷ (cell ++ (32 ∷ [])))) ++ side) ++ (32 ∷ den)) ++ flat_map (λ m. 32 ∷ move_token m) moves) ++ (10 ∷ [])
    ≡ text ++ line_text (word ∷ cell ∷ side ∷ den ∷ map move_token moves)
world_appended text word cell side den moves = rw (join_marked 32 move_token den moves) (simp (append_assoc, cons_append, nil_append))

-- ---- all lines

pub more : {X : Type 0} (f : X → List ℕ) (xs ys : List X) (text : List ℕ) → flat_map f xs ≡ text → flat_map f (xs ++ ys) ≡ text ++ flat_map f ys
more f xs ys text h = flat_map-append f xs ys ∙ ap (λ (t : List ℕ). t ++ flat_map f ys) h

pub more_by : {X Y : Type 0} (f : X → List ℕ) (g : Y → X) (xs : List X) (ys : List Y) (text : List ℕ) → flat_map f xs ≡ text → flat_map f (xs ++ map g ys) ≡ text ++ flat_map (λ y. f (g y)) ys
more_by f g xs ys text h = more f xs (map g ys) text h ∙ ap (λ (t : List ℕ). text ++ t) (flat_map-map f g ys)

pub certificate_appended : (c : Certificate) →
    (((((([] ++ flat_map line_text (head_tokens Two c.method c.cells c.relations)) ++ flat_map line_text (hidden_tokens c.hidden)) ++ flat_map (λ step. line_text (step_tokens step)) c.steps)
    ++ flat_map (λ refuted. line_text (refutation_tokens (codes "repair") refuted)) c.repairs) ++ flat_map (λ refuted. line_text (refutation_tokens (codes "need") refuted)) c.needs)
    ++ flat_map (λ line. line_text (world_tokens (codes "world") Two [] line)) c.worlds) ++ codes "end\n"
    ≡ text_of c
certificate_appended c =
    let first = head_tokens Two c.method c.cells c.relations ++ hidden_tokens c.hidden in
    let second = first ++ map step_tokens c.steps in
    let third = second ++ map (refutation_tokens (codes "repair")) c.repairs in
    let fourth = third ++ map (refutation_tokens (codes "need")) c.needs in
    let fifth = fourth ++ map (world_tokens (codes "world") Two c.hidden) c.worlds in
    sym (
    more line_text fifth ((codes "end" ∷ []) ∷ []) _ (
    more_by line_text (world_tokens (codes "world") Two c.hidden) fourth c.worlds _ (
    more_by line_text (refutation_tokens (codes "need")) third c.needs _ (
    more_by line_text (refutation_tokens (codes "repair")) second c.repairs _ (
    more_by line_text step_tokens first c.steps _ (
    more line_text (head_tokens Two c.method c.cells c.relations) (hidden_tokens c.hidden) _ refl))))))
