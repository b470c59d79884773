-- The largest contributions are the same in whatever order they come.
use Rattle.std.proofs.Common.{◌≡◌, Bool, ◌*◌, ◌≤◌, mul-le-mul_right, ℕ, zero, suc, ◌+◌, ◌-◌, ◌<◌, min, true, false, List, [], ◌∷◌, fold, length, get_or, set, ℤ, pos, ◌+ℤ◌, ◌*ℤ◌, ◌≤ℤ◌, int_lt, arith, refl, ap, sym, subst, ◌∙◌, if◌then◌else◌}
use Rattle.std.specs.Prelude.{IsPermutation}
use Rattle.std.proofs.lemmas.Int.{ints}
use Rattle.std.proofs.lemmas.List.Sorted.{IsPermutation-keeps}
use Rattle.std.proofs.lemmas.List.Edits.{swap_is}
use Rattle.sdc_base.specs.declared.tops.Unit.{Unit as Contribution}
use Rattle.sdc_base.specs.declared.tops.Tops.{Tops}
use Rattle.sdc_base.specs.Largest.{with_contribution, ranking_of, first_steps, largest_sum, AreHeavy}
use Rattle.sdc_base.specs.LargestKept.{KeepsLargest}
use Rattle.sdc_base.proofs.Kept.{kept_are_enough}
use Rattle.sdc_base.specs.Shares.{weight_from}
use Rattle.sdc_base.proofs.WholeNumbers.{distrib_right}
use Rattle.sdc_base.proofs.Fair.{IsDown, along, moved_by, along_placed, down_placed, first_along, sum_by-placed}

-- two of one value, one behind the other, come to the same in either order
abbrev Exchanges : (Contribution → ℕ → ℤ) → Type 0
Exchanges f = (a b : Contribution) (n : ℕ) → a.value ≡ b.value → f a n +ℤ f b (n + a.weight) ≡ f b n +ℤ f a (n + b.weight)

exchanges_moved : (x : Contribution) (f : Contribution → ℕ → ℤ) → Exchanges f → Exchanges (moved_by x f)
exchanges_moved x f each a b n same =
    let other : int_lt b.value x.value ≡ int_lt a.value x.value = ap (λ v. int_lt v x.value) (sym same) in
    rw other (by (int_lt a.value x.value))
  where
    first : (n + x.weight) + a.weight ≡ (n + a.weight) + x.weight
    first = omega arith

    second : (n + x.weight) + b.weight ≡ (n + b.weight) + x.weight
    second = omega arith

    by : (t : Bool) → f a (if t then n + x.weight else n) +ℤ f b (if t then (n + a.weight) + x.weight else n + a.weight) ≡ f b (if t then n + x.weight else n) +ℤ f a (if t then (n + b.weight) + x.weight else n + b.weight)
    by true = ap (λ m. f a (n + x.weight) +ℤ f b m) (sym first) ∙ each a b (n + x.weight) same ∙ ap (λ m. f b (n + x.weight) +ℤ f a m) second
    by false = each a b n same

-- lists of which all such functions come to the same
record Alike (zs ys : List Contribution) : Type 0 where
  down : IsDown zs
  other : IsDown ys
  weights : (v : ℤ) → weight_from v zs ≡ weight_from v ys
  sums : (f : Contribution → ℕ → ℤ) → Exchanges f → (before : ℕ) → along f before zs ≡ along f before ys

alike-refl : (zs : List Contribution) → IsDown zs → Alike zs zs
alike-refl zs down = record { down = down; other = down; weights = λ v. refl; sums = λ f each before. refl }

alike-trans : (xs ys zs : List Contribution) → Alike xs ys → Alike ys zs → Alike xs zs
alike-trans xs ys zs a b = record { down = a.down; other = b.other; weights = λ v. a.weights v ∙ b.weights v; sums = λ f each before. a.sums f each before ∙ b.sums f each before }

weight-placed : (v : ℤ) (zs : List Contribution) (x : Contribution) → weight_from v (with_contribution zs x) ≡ (if int_lt x.value v then 0 else x.weight) + weight_from v zs
weight-placed v zs x = sum_by-placed (λ (u : Contribution). if int_lt u.value v then 0 else u.weight) zs x

alike-placed : (zs ys : List Contribution) (x : Contribution) → Alike zs ys → Alike (with_contribution zs x) (with_contribution ys x)
alike-placed zs ys x alike = record {
  down = down_placed zs x alike.down;
  other = down_placed ys x alike.other;
  weights = λ v. weight-placed v zs x ∙ ap (λ n. (if int_lt x.value v then 0 else x.weight) + n) (alike.weights v) ∙ sym (weight-placed v ys x);
  sums = λ f each before.
      along_placed f before zs x alike.down
      ∙ ap (λ n. f x (before + n) +ℤ along (moved_by x f) before zs) (alike.weights x.value)
      ∙ ap (λ t. f x (before + weight_from x.value ys) +ℤ t) (alike.sums (moved_by x f) (exchanges_moved x f each) before)
      ∙ sym (along_placed f before ys x alike.other);
}

along-same : (f g : Contribution → ℕ → ℤ) (before : ℕ) (zs : List Contribution) → ((u : Contribution) (n : ℕ) → f u n ≡ g u n) → along f before zs ≡ along g before zs
along-same f g before [] same = refl
along-same f g before (z ∷ zs) same = ap (λ t. t +ℤ along f (before + z.weight) zs) (same z before) ∙ ap (λ t. g z before +ℤ t) (along-same f g (before + z.weight) zs same)

moved-both : (a b : Contribution) (f : Contribution → ℕ → ℤ) (u : Contribution) (n : ℕ) → moved_by a (moved_by b f) u n ≡ moved_by b (moved_by a f) u n
moved-both a b f u n = by (int_lt u.value a.value) (int_lt u.value b.value)
  where
    turned : (n + a.weight) + b.weight ≡ (n + b.weight) + a.weight
    turned = omega arith

    by : (s t : Bool) → f u (if t then (if s then n + a.weight else n) + b.weight else (if s then n + a.weight else n)) ≡ f u (if s then (if t then n + b.weight else n) + a.weight else (if t then n + b.weight else n))
    by true true = ap (λ m. f u m) turned
    by true false = refl
    by false true = refl
    by false false = refl

-- two that are placed one after the other
along-both : (f : Contribution → ℕ → ℤ) (before : ℕ) (zs : List Contribution) (a b : Contribution) → IsDown zs
    → along f before (with_contribution (with_contribution zs a) b) ≡ (f b (before + ((if int_lt a.value b.value then 0 else a.weight) + weight_from b.value zs)) +ℤ f a (if int_lt a.value b.value then (before + weight_from a.value zs) + b.weight else before + weight_from a.value zs)) +ℤ along (moved_by a (moved_by b f)) before zs
along-both f before zs a b down =
    let first = along_placed f before (with_contribution zs a) b (down_placed zs a down) in
    let second = along_placed (moved_by b f) before zs a down in
    let weight = ap (λ n. f b (before + n)) (weight-placed b.value zs a) in
    omega (arith, ints, first, second, weight)

none : (n m : ℕ) → n + (0 + m) ≡ n + m
none n m = omega arith

more : (n w m : ℕ) → (n + m) + w ≡ n + (w + m)
more n w m = omega arith

alike-turned : (zs : List Contribution) (a b : Contribution) → IsDown zs → Alike (with_contribution (with_contribution zs a) b) (with_contribution (with_contribution zs b) a)
alike-turned zs a b down = record {
  down = down_placed (with_contribution zs a) b (down_placed zs a down);
  other = down_placed (with_contribution zs b) a (down_placed zs b down);
  weights = λ v.
      let one = weight-placed v (with_contribution zs a) b in
      let two = weight-placed v zs a in
      let three = weight-placed v (with_contribution zs b) a in
      let four = weight-placed v zs b in
      omega (arith, one, two, three, four);
  sums = λ f each before.
      along-both f before zs a b down
      ∙ ap (λ t. t +ℤ along (moved_by a (moved_by b f)) before zs) (pair f each before (int_lt a.value b.value) refl (int_lt b.value a.value) refl)
      ∙ ap (λ t. (f a (before + ((if int_lt b.value a.value then 0 else b.weight) + weight_from a.value zs)) +ℤ f b (if int_lt b.value a.value then (before + weight_from b.value zs) + a.weight else before + weight_from b.value zs)) +ℤ t) (along-same (moved_by a (moved_by b f)) (moved_by b (moved_by a f)) before zs (moved-both a b f))
      ∙ sym (along-both f before zs b a down);
}
  where
    pair : (f : Contribution → ℕ → ℤ) → Exchanges f → (before : ℕ) (s : Bool) → int_lt a.value b.value ≡ s → (t : Bool) → int_lt b.value a.value ≡ t
        → f b (before + ((if s then 0 else a.weight) + weight_from b.value zs)) +ℤ f a (if s then (before + weight_from a.value zs) + b.weight else before + weight_from a.value zs)
        ≡ f a (before + ((if t then 0 else b.weight) + weight_from a.value zs)) +ℤ f b (if t then (before + weight_from b.value zs) + a.weight else before + weight_from b.value zs)
    pair f each before true below true above = absurd (grind (arith, ints, below, above))
    pair f each before true below false above =
        let one = ap (λ n. f b n) (none before (weight_from b.value zs)) in
        let two = ap (λ n. f a n) (more before b.weight (weight_from a.value zs)) in
        omega (arith, ints, one, two)
    pair f each before false below true above =
        let one = ap (λ n. f a n) (none before (weight_from a.value zs)) in
        let two = ap (λ n. f b n) (more before a.weight (weight_from b.value zs)) in
        omega (arith, ints, one, two)
    pair f each before false below false above =
        let at_least : b.value ≤ℤ a.value = grind (arith, ints, below) in
        let at_most : a.value ≤ℤ b.value = grind (arith, ints, above) in
        let same : a.value ≡ b.value = omega (arith, ints, at_least, at_most) in
        let weight : weight_from b.value zs ≡ weight_from a.value zs = ap (λ v. weight_from v zs) (sym same) in
        let turned = each a b (before + weight_from a.value zs) same in
        let one = ap (λ n. f b (before + (a.weight + n))) weight in
        let two = ap (λ n. f b n) (sym (more before a.weight (weight_from a.value zs))) in
        let three = ap (λ n. f a n) (sym (more before b.weight (weight_from a.value zs))) in
        let four = ap (λ n. f b (before + n)) weight in
        omega (arith, ints, turned, one, two, three, four)

fold-alike : (us zs ys : List Contribution) → Alike zs ys → Alike (fold with_contribution zs us) (fold with_contribution ys us)
fold-alike [] zs ys alike = alike
fold-alike (u ∷ us) zs ys alike = fold-alike us (with_contribution zs u) (with_contribution ys u) (alike-placed zs ys u alike)

-- ---- two of a list change places

far : (l : List Contribution) (j : ℕ) (x d : Contribution) (zs : List Contribution) → IsDown zs → j < length l → Alike (fold with_contribution zs (get_or l j d ∷ set l j x)) (fold with_contribution zs (x ∷ l))
far [] j x d zs down h = absurd (omega (arith, h))
far (y ∷ l) zero x d zs down h = fold-alike l (with_contribution (with_contribution zs y) x) (with_contribution (with_contribution zs x) y) (alike-turned zs y x down)
far (y ∷ l) (suc j) x d zs down h =
    let z : Contribution = get_or l j d in
    let rest : List Contribution = set l j x in
    alike-trans (fold with_contribution (with_contribution (with_contribution zs z) y) rest) (fold with_contribution (with_contribution (with_contribution zs y) z) rest) (fold with_contribution (with_contribution (with_contribution zs x) y) l)
    (fold-alike rest (with_contribution (with_contribution zs z) y) (with_contribution (with_contribution zs y) z) (alike-turned zs z y down))
    (alike-trans (fold with_contribution (with_contribution (with_contribution zs y) z) rest) (fold with_contribution (with_contribution (with_contribution zs y) x) l) (fold with_contribution (with_contribution (with_contribution zs x) y) l)
    (far l j x d (with_contribution zs y) (down_placed zs y down) (omega (arith, h)))
    (fold-alike l (with_contribution (with_contribution zs y) x) (with_contribution (with_contribution zs x) y) (alike-turned zs y x down)))

exchanged : (l : List Contribution) (i j : ℕ) (d : Contribution) (zs : List Contribution) → IsDown zs → i < length l → j < length l → Alike (fold with_contribution zs (set (set l i (get_or l j d)) j (get_or l i d))) (fold with_contribution zs l)
exchanged [] i j d zs down h k = absurd (omega (arith, h))
exchanged (x ∷ l) zero zero d zs down h k = alike-refl (fold with_contribution zs (x ∷ l)) (down-fold (x ∷ l) zs down)
  where
    down-fold : (us zs : List Contribution) → IsDown zs → IsDown (fold with_contribution zs us)
    down-fold [] zs down = down
    down-fold (u ∷ us) zs down = down-fold us (with_contribution zs u) (down_placed zs u down)
exchanged (x ∷ l) zero (suc j) d zs down h k = far l j x d zs down (omega (arith, k))
exchanged (x ∷ l) (suc i) zero d zs down h k = far l i x d zs down (omega (arith, h))
exchanged (x ∷ l) (suc i) (suc j) d zs down h k = exchanged l i j d (with_contribution zs x) (down_placed zs x down) (omega (arith, h)) (omega (arith, k))

down-ranked : (us zs : List Contribution) → IsDown zs → IsDown (fold with_contribution zs us)
down-ranked [] zs down = down
down-ranked (u ∷ us) zs down = down-ranked us (with_contribution zs u) (down_placed zs u down)

alike_ranked : (xs ys : List Contribution) → IsPermutation xs ys → Alike (ranking_of ys) (ranking_of xs)
alike_ranked xs ys = IsPermutation-keeps xs (λ l. Alike (ranking_of l) (ranking_of xs)) (alike-refl (ranking_of xs) (down-ranked xs [] tt)) (λ l i j p q h.
    let d : Contribution = record { value = pos 0; weight = 0 } in
    let turned = exchanged l i j d [] tt p q in
    alike-trans _ (ranking_of l) (ranking_of xs) (subst (λ t. Alike (ranking_of t) (ranking_of l)) (swap_is l i j d p q) turned) h) ys

-- ---- the steps

pub same_steps : (steps : ℕ) (xs ys : List Contribution) → IsPermutation xs ys → first_steps steps (ranking_of xs) ≡ first_steps steps (ranking_of ys)
same_steps steps xs ys permuted =
    let none : steps - 0 ≡ steps = omega arith in
    let f : Contribution → ℕ → ℤ = λ unit n. pos (min unit.weight (steps - n)) *ℤ unit.value in
    ap (λ n. first_steps n (ranking_of xs)) (sym none)
    ∙ first_along steps 0 (ranking_of xs)
    ∙ sym ((alike_ranked xs ys permuted).sums f (exchanges_steps steps) 0)
    ∙ sym (first_along steps 0 (ranking_of ys))
    ∙ ap (λ n. first_steps n (ranking_of ys)) none
  where
    exchanges_steps : (steps : ℕ) → Exchanges (λ unit n. pos (min unit.weight (steps - n)) *ℤ unit.value)
    exchanges_steps steps a b n same =
        let all : pos (min a.weight (steps - n)) +ℤ pos (min b.weight (steps - (n + a.weight))) ≡ pos (min b.weight (steps - n)) +ℤ pos (min a.weight (steps - (n + b.weight))) = omega (arith, ints) in
        let left = distrib_right b.value (pos (min a.weight (steps - n))) (pos (min b.weight (steps - (n + a.weight)))) in
        let right = distrib_right b.value (pos (min b.weight (steps - n))) (pos (min a.weight (steps - (n + b.weight)))) in
        let both = ap (λ k. k *ℤ b.value) all in
        rw same (sym left ∙ both ∙ right)

-- ---- what a short list tells

pub tells_largest : (n : ℕ) (units : List Contribution) (tops : Tops) → KeepsLargest tops units → AreHeavy tops.scale tops.list → n ≤ tops.keep → first_steps (n * tops.scale) tops.list ≡ largest_sum tops.scale n units
tells_largest n units tops told heavy few =
    ap (first_steps (n * tops.scale)) told.kept
    ∙ kept_are_enough tops.scale tops.keep (n * tops.scale) (ranking_of told.order) (subst (AreHeavy tops.scale) told.kept heavy) (mul-le-mul_right tops.scale few)
    ∙ sym (same_steps (n * tops.scale) units told.order told.same)
