-- The texts of terms, one after the other.
use Rattle.std.proofs.Common.{◌≡◌, ℕ, List, [], ◌∷◌, ◌++◌, append_assoc, codes, flat_map, refl, ap, sym, ◌∙◌}
use Rattle.std.proofs.lemmas.List.{append-nil}
use Rattle.std.proofs.lemmas.List.Concat.{flat_map-append}
use Rattle.sdc_base.specs.Forms.{Term}
use Rattle.job_run.specs.ReportText.{term_text}

-- one term more
pub terms-more : (text : List ℕ) (before after : List Term) (term : Term) → after ≡ before ++ term ∷ [] → text ≡ flat_map term_text before → text ++ term_text term ≡ flat_map term_text after
terms-more text before after term more is =
    ap (λ (t : List ℕ). t ++ term_text term) is
    ∙ ap (λ (t : List ℕ). flat_map term_text before ++ t) (sym (append-nil (term_text term)))
    ∙ sym (flat_map-append term_text before (term ∷ []))
    ∙ ap (flat_map term_text) (sym more)

cons-front : {A : Type 0} (x : A) (xs ys : List A) → ◌++◌ {A = A} (x ∷ xs) ys ≡ x ∷ (xs ++ ys)
cons-front x xs ys = refl

nil-front : {A : Type 0} (ys : List A) → ◌++◌ {A = A} [] ys ≡ ys
nil-front ys = refl

-- the two lines of a cell that can't be protected, as one text
pub cannot-appended : (cell side reason : List ℕ)
    → codes "cannot protect cell " ++ (cell ++ (32 ∷ (side ++ (10 ∷ (reason ++ 10 ∷ [])))))
    ≡ ((codes "cannot protect " ++ ((codes "cell " ++ (cell ++ (codes " " ++ side))) ++ 10 ∷ [])) ++ reason) ++ 10 ∷ []
cannot-appended cell side reason = simp (append_assoc, cons-front, nil-front)

-- the two lines of a cell that can't be guarded against a contributor, as one text
pub against-appended : (cell side row reason : List ℕ)
    → codes "cannot protect cell " ++ (cell ++ (32 ∷ (side ++ (codes " from row " ++ (row ++ (10 ∷ (reason ++ 10 ∷ [])))))))
    ≡ ((codes "cannot protect " ++ ((codes "cell " ++ (cell ++ (codes " " ++ side))) ++ (codes " from row " ++ (row ++ 10 ∷ [])))) ++ reason) ++ 10 ∷ []
against-appended cell side row reason = simp (append_assoc, cons-front, nil-front)

-- the line of a demonstration that was released, as one text
pub demo-appended : (status numbers : List ℕ) → codes "demo: status " ++ (status ++ (44 ∷ (32 ∷ (numbers ++ 10 ∷ [])))) ≡ codes "demo: status " ++ ((status ++ (codes ", " ++ numbers)) ++ 10 ∷ [])
demo-appended status numbers = simp (append_assoc, cons-front, nil-front)
