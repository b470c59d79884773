-- What divides multiples of two numbers, and of their remainder.
use Rattle.std.proofs.Common.{◌≡◌, ℕ, ◌+◌, ◌*◌, ◌/◌, ◌%◌, ap, sym, subst, ◌∙◌}
use Prim.Native.Nat.{◌∣◌}
use Rattle.std.proofs.Math.Nat.{div-add-mod, mul-add, mul_assoc, dvd-mul_right_of_dvd, dvd-add_iff_right}

-- what divides multiples of two numbers divides the same multiple of their remainder
pub rest_divides : (d times a b : ℕ) → d ∣ times * a → d ∣ times * b → d ∣ times * (a % b)
rest_divides d times a b ha hb =
    let front : d ∣ times * b * (a / b) = dvd-mul_right_of_dvd d hb (a / b) in
    let whole : times * a ≡ times * b * (a / b) + times * (a % b) =
    ap (λ n. times * n) (sym (div-add-mod a b)) ∙ mul-add times (b * (a / b)) (a % b) ∙ ap (λ n. n + times * (a % b)) (sym (mul_assoc times b (a / b))) in
    (dvd-add_iff_right d front).1 (subst (λ n. d ∣ n) whole ha)
