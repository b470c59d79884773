-- Going through the truths: the cells that aren't multiples, and the numbers to one side.
use Rattle.std.proofs.Common.{◌≡◌, ℕ, suc, ◌+◌, ◌<◌, Bool, true, false, List, [], ◌∷◌, ◌++◌, length, get_or, drop, ℤ, pos, refl, ap, sym, ◌∙◌, if◌then◌else◌, add-one, append_assoc}
use Rattle.std.proofs.Math.Seq.{drop-cons}
use Rattle.rounding.specs.Neighbours.{is_multiple, neighbour}
use Rattle.rounding.specs.Choices.{unrounded_cells, by_choices}

pub unrounded_passes : (base : ℤ) (truths : List ℤ) (k : ℕ) → k < length truths → is_multiple base (get_or truths k (pos 0)) ≡ true → unrounded_cells base k (drop k truths) ≡ unrounded_cells base (k + 1) (drop (k + 1) truths)
unrounded_passes base truths k inside is = ap (λ (ts : List ℤ). unrounded_cells base k ts) (drop-cons truths k (pos 0) inside) ∙ rw is (ap (λ (j : ℕ). unrounded_cells base (k + 1) (drop j truths)) (sym (add-one k)))

pub unrounded_takes : (base : ℤ) (truths : List ℤ) (k : ℕ) → k < length truths → is_multiple base (get_or truths k (pos 0)) ≡ false → unrounded_cells base k (drop k truths) ≡ k ∷ unrounded_cells base (k + 1) (drop (k + 1) truths)
unrounded_takes base truths k inside is = ap (λ (ts : List ℤ). unrounded_cells base k ts) (drop-cons truths k (pos 0) inside) ∙ rw is (ap (λ (j : ℕ). k ∷ unrounded_cells base (k + 1) (drop j truths)) (sym (add-one k)))

to_side : (side : Bool) (base truth : ℤ) (truths : List ℤ) → by_choices side base (truth ∷ truths) [] ≡ (if is_multiple base truth then truth else neighbour base truth side) ∷ by_choices side base truths []
to_side side base truth truths = elim (is_multiple base truth) as (λ b. (if b then truth ∷ by_choices side base truths [] else neighbour base truth side ∷ by_choices side base truths []) ≡ (if b then truth else neighbour base truth side) ∷ by_choices side base truths []) [ true ↦ refl | false ↦ refl ]

pub side_goes_on : (side : Bool) (base : ℤ) (truths : List ℤ) (k : ℕ) → k < length truths → by_choices side base (drop k truths) [] ≡ (if is_multiple base (get_or truths k (pos 0)) then get_or truths k (pos 0) else neighbour base (get_or truths k (pos 0)) side) ∷ by_choices side base (drop (k + 1) truths) []
side_goes_on side base truths k inside =
    ap (λ (ts : List ℤ). by_choices side base ts []) (drop-cons truths k (pos 0) inside)
    ∙ to_side side base (get_or truths k (pos 0)) (drop (suc k) truths)
    ∙ ap (λ (j : ℕ). (if is_multiple base (get_or truths k (pos 0)) then get_or truths k (pos 0) else neighbour base (get_or truths k (pos 0)) side) ∷ by_choices side base (drop j truths) []) (sym (add-one k))

-- one more at the end of a list, with what is still to come
pub one_on : {X : Type 0} (done : List X) (x : X) (rest rest' whole : List X) → rest ≡ x ∷ rest' → done ++ rest ≡ whole → (done ++ x ∷ []) ++ rest' ≡ whole
one_on {X} done x rest rest' whole is all = append_assoc done (x ∷ []) rest' ∙ ap (λ (xs : List X). done ++ xs) (sym is) ∙ all
