-- Sums of products under an exchange.
use Rattle.std.proofs.Common.{◌≡◌, ℕ, zero, suc, ◌<◌, List, [], ◌∷◌, length, map, get_or, set, ℤ, pos, neg_ℤ, ◌+ℤ◌, ◌-ℤ◌, ◌*ℤ◌, arith, refl, ap, ◌∙◌}
use Rattle.std.proofs.Math.IntN.{*ℤ_comm}
use Rattle.std.proofs.lemmas.Int.{ints}
use Rattle.std.proofs.lemmas.List.{get_or-map, length-map}
use Rattle.sdc_base.proofs.WholeNumbers.{distrib, distrib_right, assoc, minus_times}
use Rattle.tableau.specs.Tables.{dot, crossed_numbers, row_form, exchanged_row, exchanged_pivot}
use Rattle.sdc_base.specs.Systems.{number_at}

pub back : (a b : ℤ) → (a -ℤ b) +ℤ b ≡ a
back a b = omega (arith, ints)

-- (e * p) * x is p * (e * x)
pub moved : (e p x : ℤ) → (e *ℤ p) *ℤ x ≡ p *ℤ (e *ℤ x)
moved e p x = ap (λ t. t *ℤ x) (*ℤ_comm e p) ∙ assoc p e x

pub minus_right : (x a b : ℤ) → (a -ℤ b) *ℤ x ≡ a *ℤ x -ℤ b *ℤ x
minus_right x a b = omega (arith, ints, distrib_right x (a -ℤ b) b, ap (λ t. t *ℤ x) (back a b))

-- one number and one amount replaced
pub dot-set : (row xs : List ℤ) (s : ℕ) (k y : ℤ) → length row ≡ length xs → s < length row → dot (set row s k) (set xs s y) ≡ dot row xs -ℤ get_or row s (pos 0) *ℤ get_or xs s (pos 0) +ℤ k *ℤ y
dot-set [] xs s k y same within = absurd (omega arith)
dot-set (a ∷ row) [] s k y same within = absurd (omega arith)
dot-set (a ∷ row) (x ∷ xs) zero k y same within = omega (arith, ints)
dot-set (a ∷ row) (x ∷ xs) (suc s) k y same within = omega (arith, ints, dot-set row xs s k y (omega arith) (omega arith))

pub dot-crossed_numbers : (p f : ℤ) (row pivot xs : List ℤ) → length row ≡ length pivot → dot (crossed_numbers p f row pivot) xs ≡ p *ℤ dot row xs -ℤ f *ℤ dot pivot xs
dot-crossed_numbers p f [] [] xs same = omega (arith, ints)
dot-crossed_numbers p f [] (g ∷ pivot) xs same = absurd (omega arith)
dot-crossed_numbers p f (e ∷ row) [] xs same = absurd (omega arith)
dot-crossed_numbers p f (e ∷ row) (g ∷ pivot) [] same = omega (arith, ints)
dot-crossed_numbers p f (e ∷ row) (g ∷ pivot) (x ∷ xs) same =
    omega (arith, ints, dot-crossed_numbers p f row pivot xs (omega arith), distrib p (e *ℤ x) (dot row xs), distrib f (g *ℤ x) (dot pivot xs), minus_right x (e *ℤ p) (f *ℤ g), assoc f g x, moved e p x)

pub length-crossed_numbers : (p f : ℤ) (row pivot : List ℤ) → length row ≡ length pivot → length (crossed_numbers p f row pivot) ≡ length row
length-crossed_numbers p f [] pivot same = refl
length-crossed_numbers p f (e ∷ row) [] same = absurd (omega arith)
length-crossed_numbers p f (e ∷ row) (g ∷ pivot) same = ap suc (length-crossed_numbers p f row pivot (omega arith))

pub get_or-crossed_numbers : (p f : ℤ) (row pivot : List ℤ) (s : ℕ) → length row ≡ length pivot → s < length row → get_or (crossed_numbers p f row pivot) s (pos 0) ≡ get_or row s (pos 0) *ℤ p -ℤ f *ℤ get_or pivot s (pos 0)
get_or-crossed_numbers p f [] pivot s same within = absurd (omega arith)
get_or-crossed_numbers p f (e ∷ row) [] s same within = absurd (omega arith)
get_or-crossed_numbers p f (e ∷ row) (g ∷ pivot) zero same within = refl
get_or-crossed_numbers p f (e ∷ row) (g ∷ pivot) (suc s) same within = get_or-crossed_numbers p f row pivot s (omega arith) (omega arith)

pub dot-times : (k : ℤ) (row xs : List ℤ) → dot (map (λ g. g *ℤ k) row) xs ≡ k *ℤ dot row xs
dot-times k [] xs = omega (arith, ints)
dot-times k (g ∷ row) [] = omega (arith, ints)
dot-times k (g ∷ row) (x ∷ xs) = omega (arith, ints, dot-times k row xs, distrib k (g *ℤ x) (dot row xs), moved g k x)

nothing : (a x : ℤ) → a ≡ pos 0 → a *ℤ x ≡ pos 0
nothing a x is = ap (λ t. t *ℤ x) is ∙ omega (arith, ints)

-- an exchange takes another row p times, less its number times the pivot's row
pub row_change : (den member leaving : ℤ) (row pivot xs : List ℤ) (s : ℕ) → length row ≡ length xs → length pivot ≡ length xs → s < length xs →
    row_form (den *ℤ number_at pivot s) member (exchanged_row den pivot s row) (set xs s leaving) ≡ number_at pivot s *ℤ row_form den member row xs -ℤ number_at row s *ℤ row_form den leaving pivot xs
row_change den member leaving row pivot xs s long also within =
    let p : ℤ = number_at pivot s in
    let f : ℤ = number_at row s in
    let cross : List ℤ = crossed_numbers p f row pivot in
    let cross_long : length cross ≡ length row = length-crossed_numbers p f row pivot (omega arith) in
    let replaced : dot (exchanged_row den pivot s row) (set xs s leaving) ≡ dot cross xs -ℤ get_or cross s (pos 0) *ℤ get_or xs s (pos 0) +ℤ neg_ℤ (f *ℤ den) *ℤ leaving = dot-set cross xs s (neg_ℤ (f *ℤ den)) leaving (cross_long ∙ long) (omega arith) in
    let across : dot cross xs ≡ p *ℤ dot row xs -ℤ f *ℤ dot pivot xs = dot-crossed_numbers p f row pivot xs (omega arith) in
    let own : get_or cross s (pos 0) ≡ pos 0 = get_or-crossed_numbers p f row pivot s (omega arith) (omega arith) ∙ omega (arith, ints) in
    let gone : get_or cross s (pos 0) *ℤ get_or xs s (pos 0) ≡ pos 0 = nothing (get_or cross s (pos 0)) (get_or xs s (pos 0)) own in
    let left : (den *ℤ p) *ℤ member ≡ p *ℤ (den *ℤ member) = moved den p member in
    let turned : neg_ℤ (f *ℤ den) *ℤ leaving ≡ neg_ℤ (f *ℤ (den *ℤ leaving)) = minus_times (f *ℤ den) leaving ∙ ap neg_ℤ (assoc f den leaving) in
    ap (λ t. (den *ℤ p) *ℤ member +ℤ t) replaced ∙ omega (arith, ints, distrib p (den *ℤ member) (dot row xs), distrib f (den *ℤ leaving) (dot pivot xs))

-- and the pivot's row den times: it is now the row of the entering one
pub pivot_change : (den leaving : ℤ) (pivot xs : List ℤ) (s : ℕ) → length pivot ≡ length xs → s < length xs →
    row_form (den *ℤ number_at pivot s) (get_or xs s (pos 0)) (exchanged_pivot den pivot s) (set xs s leaving) ≡ den *ℤ row_form den leaving pivot xs
pivot_change den leaving pivot xs s long within =
    let p : ℤ = number_at pivot s in
    let entering : ℤ = get_or xs s (pos 0) in
    let scaled : List ℤ = map (λ g. g *ℤ den) pivot in
    let scaled_long : length scaled ≡ length pivot = length-map pivot (λ (g : ℤ). g *ℤ den) in
    let replaced : dot (exchanged_pivot den pivot s) (set xs s leaving) ≡ dot scaled xs -ℤ get_or scaled s (pos 0) *ℤ entering +ℤ (den *ℤ den) *ℤ leaving = dot-set scaled xs s (den *ℤ den) leaving (scaled_long ∙ long) (omega arith) in
    let own : get_or scaled s (pos 0) ≡ p *ℤ den = get_or-map (λ (g : ℤ). g *ℤ den) pivot s (pos 0) (pos 0) (omega arith) in
    let left : get_or scaled s (pos 0) *ℤ entering ≡ (den *ℤ p) *ℤ entering = ap (λ t. t *ℤ entering) (own ∙ *ℤ_comm p den) in
    ap (λ t. (den *ℤ p) *ℤ entering +ℤ t) replaced ∙ omega (arith, ints, dot-times den pivot xs, distrib den (den *ℤ leaving) (dot pivot xs), assoc den den leaving)
