-- Divisors of whole numbers and of lists of them.
use Rattle.std.proofs.Common.{◌≡◌, ◌||◌, Bool, true, false, ℕ, zero, suc, ◌+◌, ◌*◌, ◌<◌, ◌^◌, ◌%◌, List, [], ◌∷◌, length, length-take, take, get_or, All, ℤ, pos, negsuc, ◌-ℤ◌, ◌*ℤ◌, ◌≤ℤ◌, unsigned_abs, arith, refl, ap, sym, subst, ◌∙◌, to_z, FitsSigned}
use Prim.Native.Nat.{◌∣◌}
use Rattle.std.specs.Int.{w128, IsGcd}
use Rattle.std.specs.Int.RustNames.{int_div, int_rem}
use Rattle.std.specs.List.{list_any}
use Rattle.std.proofs.Math.Nat.{eq-zero_of_zero-dvd}
use Rattle.std.proofs.lemmas.Int.{ints, quot-rem, to_z_pos}
use Rattle.std.proofs.lemmas.Nat.Gcd.{le_of_dvd, dvd_trans, mod-eq-zero_of_dvd}
use Rattle.std.proofs.lemmas.List.{take-take, get_or-take}
use Rattle.std.proofs.lemmas.List.Elements.{All-get_or, All-take, All-more, All-weaker}
use Rattle.sdc_base.specs.Forms.{Term}
use Rattle.tableau.specs.CommonDivisors.{DividesEach}
use Rattle.tableau.specs.Widths.{is_wide}

rem_none : (a d : ℤ) → unsigned_abs d ∣ unsigned_abs a → int_rem a d ≡ pos 0
rem_none (pos n) d divides = ap pos (mod-eq-zero_of_dvd (unsigned_abs d) divides)
rem_none (negsuc n) d divides = let none : suc n % unsigned_abs d ≡ 0 = mod-eq-zero_of_dvd (unsigned_abs d) divides in rw none refl

pub exact : (a d : ℤ) → unsigned_abs d ∣ unsigned_abs a → int_div a d *ℤ d ≡ a
exact a d divides = omega (arith, ints, quot-rem a d, rem_none a d divides)

pub abs_up : (z : ℤ) → pos 1 ≤ℤ z → 0 < unsigned_abs z
abs_up (pos n) up = omega (arith, ints)
abs_up (negsuc n) up = absurd (omega (arith, ints))

pub dvd_up : (g n : ℕ) → g ∣ n → 0 < n → 0 < g
dvd_up zero n divides up = let none : n ≡ 0 = eq-zero_of_zero-dvd divides in absurd (omega arith)
dvd_up (suc g) n divides up = omega arith

pub abs_common : (n : ℕ) → n < 2 ^ 127 → unsigned_abs (to_z w128 n) ≡ n
abs_common n small = ap unsigned_abs (to_z_pos w128 n small)

-- the same of lists of what has numbers
module _ {X : Type 0} (D : ℕ → X → Type 0) (weaker : (g h : ℕ) (x : X) → g ∣ h → D h x → D g x) where
  pub each_more_of : (xs : List X) (i g common : ℕ) (d : X) → i < length xs → g ∣ common → D g (get_or xs i d) → All (λ x. D common x) (take i xs) → All (λ x. D g x) (take (i + 1) xs)
  each_more_of xs i g common d within divides here before = All-more (λ x. D g x) xs i d within (All-weaker (λ x. D common x) (λ x. D g x) (λ x is. weaker g common x divides is) (take i xs) before) here

  pub each_before_of : (xs : List X) (i e : ℕ) → All (λ x. D e x) (take (i + 1) xs) → All (λ x. D e x) (take i xs)
  each_before_of xs i e all = subst (λ t. All (λ x. D e x) t) (take-take i (i + 1) xs (omega arith)) (All-take (λ x. D e x) i (take (i + 1) xs) all)

  pub each_last_of : (xs : List X) (i e : ℕ) (d : X) → i < length (take (i + 1) xs) → All (λ x. D e x) (take (i + 1) xs) → D e (get_or xs i d)
  each_last_of xs i e d within all = subst (λ t. D e t) (get_or-take (i + 1) xs i d (omega arith)) (All-get_or (λ x. D e x) (take (i + 1) xs) i d within all)

-- an entry's number, and all numbers of a row
pub entry_weaker : (g h : ℕ) (entry : Term) → g ∣ h → h ∣ unsigned_abs entry.1 → g ∣ unsigned_abs entry.1
entry_weaker g h entry divides is = dvd_trans g divides is

pub row_weaker : (g h : ℕ) (row : List Term) → g ∣ h → DividesEach h row → DividesEach g row
row_weaker g h row divides is = All-weaker (λ (entry : Term). h ∣ unsigned_abs entry.1) (λ (entry : Term). g ∣ unsigned_abs entry.1) (λ entry here. dvd_trans g divides here) row is

-- ---- a wide difference

or_last : (a b d : Bool) → d ≡ true → (a || (b || (d || false))) ≡ true
or_last true b d is = refl
or_last false true d is = refl
or_last false false d is = rw is refl

pub last_wide : (one other x y : ℤ) → x ≡ one → y ≡ other → is_wide (x -ℤ y) ≡ true → list_any is_wide (one ∷ other ∷ (one -ℤ other) ∷ []) ≡ true
last_wide one other x y ex ey wide = or_last (is_wide one) (is_wide other) (is_wide (one -ℤ other)) (ap (λ t. is_wide (t -ℤ other)) (sym ex) ∙ ap (λ t. is_wide (x -ℤ t)) (sym ey) ∙ wide)

pub abs_small : (z : ℤ) → pos 1 ≤ℤ z → FitsSigned w128 z → unsigned_abs z < 2 ^ 127
abs_small (pos n) up fits = fits.sfits
abs_small (negsuc n) up fits = absurd (omega (arith, ints))

-- ---- all of some first things

pub All-get_or-take : {X : Type 0} (P : X → Type 0) (i : ℕ) (xs : List X) (d : X) → i < length xs → All P (take (i + 1) xs) → P (get_or xs i d)
All-get_or-take P i xs d within all = subst P (get_or-take (i + 1) xs i d (omega arith)) (All-get_or P (take (i + 1) xs) i d (omega (arith, length-take (i + 1) xs)) all)

pub times_before : (e times i : ℕ) (xs : List Term) → All (λ (entry : Term). e ∣ times * unsigned_abs entry.1) (take (i + 1) xs) → All (λ (entry : Term). e ∣ times * unsigned_abs entry.1) (take i xs)
times_before e times i xs all = subst (λ (t : List Term). All (λ (entry : Term). e ∣ times * unsigned_abs entry.1) t) (take-take i (i + 1) xs (omega arith)) (All-take (λ (entry : Term). e ∣ times * unsigned_abs entry.1) i (take (i + 1) xs) all)

-- a common divisor of two numbers, one of which is above 0
pub record IsCommon (g : ℕ) (f p : ℤ) : Type 0 where
  pub small : g < 2 ^ 127
  pub up : 0 < g
  pub first : g ∣ unsigned_abs f
  pub second : g ∣ unsigned_abs p

pub common_of : (g a b : ℕ) (f p : ℤ) → IsGcd a b g → a ≡ unsigned_abs f → b ≡ unsigned_abs p → pos 1 ≤ℤ p → FitsSigned w128 p → IsCommon g f p
common_of g a b f p gcd a_is b_is up fits =
    let second : g ∣ unsigned_abs p = subst (λ n. g ∣ n) b_is gcd.1 in
    record {
      small = omega (arith, le_of_dvd (abs_up p up) second, abs_small p up fits);
      up = dvd_up g (unsigned_abs p) second (abs_up p up);
      first = subst (λ n. g ∣ n) a_is gcd.0;
      second = second;
    }

pub cast_up : (g : ℕ) → g < 2 ^ 127 → 0 < g → pos 1 ≤ℤ to_z w128 g
cast_up g small up = omega (arith, ints, to_z_pos w128 g small)

pub cast_divides : (g : ℕ) (z y : ℤ) → g < 2 ^ 127 → y ≡ z → g ∣ unsigned_abs z → unsigned_abs (to_z w128 g) ∣ unsigned_abs y
cast_divides g z y small is divides = subst (λ n. n ∣ unsigned_abs y) (sym (abs_common g small)) (subst (λ t. g ∣ unsigned_abs t) (sym is) divides)
