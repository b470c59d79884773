-- A name that stands at a number is found there.
use Rattle.std.proofs.Common.{◌≡◌, ℕ, zero, suc, Bool, true, false, List, [], ◌∷◌, slice_get, bytes_eq, Some, refl, ap, sym, ◌∙◌, subst, add-one}
use Rattle.std.specs.List.{IsDistinct, AllByRecursion}
use Rattle.std.proofs.lemmas.Map.Keys.{IsDistinct-head, IsDistinct-tail}
use Rattle.std.proofs.lemmas.Slice.Eq.{bytes_eq-Decides}
use Rattle.std.specs.List.{flat_map}
use Rattle.sdc_base.specs.Trees.{Tree}
use Rattle.sdc_base.specs.Records.{Name}
use Rattle.sdc_base.specs.Places.{first_place}
use Rattle.sdc_base.specs.Cells.{cells_of, named_by}
use Rattle.sdc_base.specs.declared.dimension.Dimension.{Dimension}
use Rattle.sdc_base.proofs.FirstNames.{names_are_first}

head-apart : (y x : Name) (ys : List Name) (k : ℕ) → AllByRecursion (λ other. bytes_eq y other ≡ false) ys → slice_get ys k ≡ Some x → bytes_eq y x ≡ false
head-apart y x [] k all at = cc
head-apart y x (z ∷ ys) zero all at = let same : z ≡ x = some-same at in subst (λ one. bytes_eq y one ≡ false) same all.0
  where
    some-same : Some z ≡ Some x → z ≡ x
    some-same h = cc
head-apart y x (z ∷ ys) (suc k) all at = head-apart y x ys k all.1 at

-- a name that stands once is found where it stands
pub found-where : (names : List Name) (k : ℕ) (name : Name) → IsDistinct bytes_eq names → slice_get names k ≡ Some name → first_place (bytes_eq name) names ≡ Some k
found-where [] k name once at = cc
found-where (first ∷ names) zero name once at =
    let same : first ≡ name = cc in
    let test : bytes_eq name first ≡ true = (bytes_eq-Decides name first).1 (sym same) in
    rw test refl
found-where (first ∷ names) (suc k) name once at =
    let apart : bytes_eq first name ≡ false = head-apart first name names k (IsDistinct-head bytes_eq first names once) at in
    let test : bytes_eq name first ≡ false = turned (bytes_eq name first) refl apart in
    let rest = found-where names k name (IsDistinct-tail bytes_eq first names once) at in
    rw (test, rest) (ap Some (add-one k))
  where
    turned : (b : Bool) → bytes_eq name first ≡ b → bytes_eq first name ≡ false → bytes_eq name first ≡ false
    turned true is apart = let same : bytes_eq first name ≡ true = (bytes_eq-Decides first name).1 (sym ((bytes_eq-Decides name first).0 is)) in cc
    turned false is apart = is

pub guessed : (trees : List Tree) (tables : List (List Dimension)) (names : List Name) (k : ℕ) (name other : Name) → names ≡ cells_of trees tables → slice_get names k ≡ Some other → other ≡ name → first_place (bytes_eq name) (cells_of trees tables) ≡ Some k
guessed trees tables names k name other is at same = found-where (cells_of trees tables) k name (names_are_first.once (flat_map (named_by trees) tables)) (ap (λ ns. slice_get ns k) (sym is) ∙ at ∙ ap Some same)
