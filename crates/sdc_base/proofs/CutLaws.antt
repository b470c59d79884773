-- A depth that no code of a tree exceeds.
use Rattle.std.proofs.Common.{◌≡◌, ℕ, zero, suc, ◌+◌, ◌<◌, ◌==◌, Bool, true, false, cond, List, [], ◌∷◌, length, filter, if◌then◌else◌, Option, None, Some, refl, ap, sym, ◌∙◌, arith}
use Rattle.std.specs.List.{range_with_len}
use Rattle.std.specs.Option.{option_map_or}
use Rattle.std.proofs.lemmas.Bool.Decides.{nat_tests, Decides-eqb}
use Rattle.sdc_base.specs.Trees.{IsCodeTree, children, is_child, parent_at}
use Rattle.sdc_base.specs.CutTrees.{CutTree, goes_below, is_within, whole_depth}
use Rattle.sdc_base.specs.CutLaws.{DeeperChangesNothing, HasAll}
use Rattle.sdc_base.proofs.CutTrees.{child-within, depth-nine, inside-tree}

all-kept : (keep : ℕ → Bool) (a n : ℕ) → ((k : ℕ) → k < a + n → keep k ≡ true) → filter keep (range_with_len a n) ≡ range_with_len a n
all-kept keep a zero each = refl
all-kept keep a (suc n) each =
    ap (λ b. cond b (a ∷ filter keep (range_with_len (a + 1) n)) (filter keep (range_with_len (a + 1) n))) (each a (omega arith))
    ∙ ap (λ t. a ∷ t) (all-kept keep (a + 1) n (λ k h. each k (omega (arith, h))))

none-kept : (keep : ℕ → Bool) (list : List ℕ) → ((k : ℕ) → keep k ≡ false) → filter keep list ≡ []
none-kept keep [] none = refl
none-kept keep (k ∷ list) none = ap (λ b. cond b (k ∷ filter keep list) (filter keep list)) (none k) ∙ none-kept keep list none

has-all : (cut : CutTree) → IsCodeTree cut.tree → ((code : ℕ) → code < length cut.tree → is_within cut code ≡ true) → HasAll cut
has-all cut is each = record {
  codes = all-kept (is_within cut) 0 (length cut.tree) (λ k h. each k (omega (arith, h)));
  below = λ above. by above (goes_below cut above) refl;
}
  where
    -- a code that has a child isn't on the last level
    childless : (above child : ℕ) → goes_below cut above ≡ false → (b : Bool) → is_child cut.tree above child ≡ b → b ≡ false
    childless above child ends true h = parted (parent_at cut.tree child) refl h
      where
        parted : (found : Option ℕ) → parent_at cut.tree child ≡ found → option_map_or (λ parent. parent == above) found false ≡ true → true ≡ false
        parted None at h = cc
        parted (Some parent) at h =
            let up : parent_at cut.tree child ≡ Some above = at ∙ ap Some ((Decides-eqb parent above).0 h) in
            sym (each child (inside-tree cut.tree child above up)) ∙ sym (child-within cut is child above up) ∙ ends
    childless above child ends false h = refl

    by : (above : ℕ) (b : Bool) → goes_below cut above ≡ b → (if b then children cut.tree above else []) ≡ children cut.tree above
    by above true goes = refl
    by above false ends = sym (none-kept (is_child cut.tree above) (range_with_len 0 (length cut.tree)) (λ child. childless above child ends (is_child cut.tree above child) refl))

pub deeper_changes_nothing : DeeperChangesNothing
deeper_changes_nothing = record {
  deep = has-all;
  whole = λ tree is. has-all (record { tree = tree; depth = whole_depth }) is (λ code h. let few = depth-nine tree is code in grind (arith, nat_tests, few));
}
