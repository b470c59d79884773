-- Where multiples stay and a cell more becomes one, fewer are left.
use Rattle.std.proofs.Common.{◌≡◌, ℕ, zero, suc, ◌+◌, ◌<◌, ◌≤◌, Bool, true, false, List, [], ◌∷◌, length, ℤ, arith, refl, if◌then◌else◌}
use Rattle.sdc_base.specs.Systems.{number_at}
use Rattle.rounding.specs.Neighbours.{is_multiple}
use Rattle.rounding.specs.Choices.{unrounded_cells}

counted : Bool → ℕ → ℕ
counted b n = if b then n else suc n

unrounded_count_is : (base : ℤ) (n : ℕ) (truth : ℤ) (truths : List ℤ) → length (unrounded_cells base n (truth ∷ truths)) ≡ counted (is_multiple base truth) (length (unrounded_cells base (n + 1) truths))
unfolding counted
unrounded_count_is base n truth truths = elim (is_multiple base truth) as (λ b. length (if b then unrounded_cells base (n + 1) truths else n ∷ unrounded_cells base (n + 1) truths) ≡ (if b then length (unrounded_cells base (n + 1) truths) else suc (length (unrounded_cells base (n + 1) truths)))) [ true ↦ refl | false ↦ refl ]

counted_no_more : (b c : Bool) (m n : ℕ) → (c ≡ true → b ≡ true) → m ≤ n → counted b m ≤ counted c n
unfolding counted
counted_no_more true true m n same less = less
counted_no_more true false m n same less = omega arith
counted_no_more false true m n same less = absurd (let clash : false ≡ true = same refl in cc)
counted_no_more false false m n same less = omega arith

counted_fewer : (b c : Bool) (m n : ℕ) → (c ≡ true → b ≡ true) → m < n → counted b m < counted c n
unfolding counted
counted_fewer true true m n same less = less
counted_fewer true false m n same less = omega arith
counted_fewer false true m n same less = absurd (let clash : false ≡ true = same refl in cc)
counted_fewer false false m n same less = omega arith

counted_one : (b c : Bool) (m n : ℕ) → b ≡ true → c ≡ false → m ≤ n → counted b m < counted c n
unfolding counted
counted_one true false m n becomes isnt less = omega arith
counted_one true true m n becomes isnt less = absurd (let clash : true ≡ false = isnt in cc)
counted_one false c m n becomes isnt less = absurd (let clash : false ≡ true = becomes in cc)

no_more : (base : ℤ) (n : ℕ) (before after : List ℤ) → length after ≡ length before → ((c : ℕ) → c < length before → is_multiple base (number_at before c) ≡ true → is_multiple base (number_at after c) ≡ true) → length (unrounded_cells base n after) ≤ length (unrounded_cells base n before)
no_more base n [] [] long stay = omega arith
no_more base n [] (a ∷ after) long stay = absurd (omega arith)
no_more base n (b ∷ before) [] long stay = absurd (omega arith)
no_more base n (b ∷ before) (a ∷ after) long stay =
    let rest = no_more base (n + 1) before after (omega arith) (λ c below. stay (suc c) (omega arith)) in
    let here = counted_no_more (is_multiple base a) (is_multiple base b) (length (unrounded_cells base (n + 1) after)) (length (unrounded_cells base (n + 1) before)) (stay 0 (omega arith)) rest in
    omega (arith, here, unrounded_count_is base n a after, unrounded_count_is base n b before)

pub fewer_from : (base : ℤ) (n : ℕ) (before after : List ℤ) (cell : ℕ) → length after ≡ length before → ((c : ℕ) → c < length before → is_multiple base (number_at before c) ≡ true → is_multiple base (number_at after c) ≡ true)
    → cell < length before → is_multiple base (number_at before cell) ≡ false → is_multiple base (number_at after cell) ≡ true → length (unrounded_cells base n after) < length (unrounded_cells base n before)
fewer_from base n [] after cell long stay below isnt becomes = absurd (omega arith)
fewer_from base n (b ∷ before) [] cell long stay below isnt becomes = absurd (omega arith)
fewer_from base n (b ∷ before) (a ∷ after) zero long stay below isnt becomes =
    let rest = no_more base (n + 1) before after (omega arith) (λ c under. stay (suc c) (omega arith)) in
    let here = counted_one (is_multiple base a) (is_multiple base b) (length (unrounded_cells base (n + 1) after)) (length (unrounded_cells base (n + 1) before)) becomes isnt rest in
    omega (arith, here, unrounded_count_is base n a after, unrounded_count_is base n b before)
fewer_from base n (b ∷ before) (a ∷ after) (suc cell) long stay below isnt becomes =
    let rest = fewer_from base (n + 1) before after cell (omega arith) (λ c under. stay (suc c) (omega arith)) (omega arith) isnt becomes in
    let here = counted_fewer (is_multiple base a) (is_multiple base b) (length (unrounded_cells base (n + 1) after)) (length (unrounded_cells base (n + 1) before)) (stay 0 (omega arith)) rest in
    omega (arith, here, unrounded_count_is base n a after, unrounded_count_is base n b before)
