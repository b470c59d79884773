-- Signs that oppose at each cell are signs for the relations, and the other way.
use Rattle.std.proofs.Common.{◌≡◌, ◌≢◌, ◌⊎◌, inl, inr, ℕ, ◌+◌, ◌<◌, ◌≤◌, ◌==◌, not, nat_lt, Bool, true, false, List, length, ℤ, pos, negsuc, neg_ℤ, ◌+ℤ◌, arith, refl, ap, sym, ◌∙◌, subst}
use Rattle.std.specs.Option.{option_map_or}
use Rattle.std.proofs.lemmas.Int.{ints}
use Rattle.std.proofs.lemmas.Bool.Decides.{nat_tests}
use Rattle.std.proofs.lemmas.Bool.{eqb-true, eqb-false}
use Rattle.std.proofs.lemmas.List.{get_or_past}
use Rattle.std.proofs.lemmas.Option.{slice_get_past}
use Rattle.sdc_base.specs.declared.relation.Relation.{Relation}
use Rattle.sdc_base.specs.declared.ends.End.{End}
use Rattle.sdc_base.specs.declared.ends.Ends.{Ends}
use Rattle.sdc_base.specs.declared.ends.Ends.TheVariants.{Free, One, Two}
use Rattle.sdc_base.specs.Forms.{count_of}
use Rattle.sdc_base.specs.Signs.{AreSigns, times_counted, sign_of, number_with_sign}
use Rattle.sdc_base.specs.Ends.{AreApart, AreEnds, AreKnown, by_end, by_ends, ends_at}
use Rattle.sdc_base.specs.Links.{Oppose, sign_by_link}
use Rattle.sdc_base.proofs.SignLemmas.{opposite}
use Rattle.sdc_base.proofs.EndLemmas.{end-other, end-this, signed-some}

opposed-by : (s t p q : Bool) → number_with_sign s (number_with_sign p (pos 1)) ≡ neg_ℤ (number_with_sign t (number_with_sign q (pos 1))) → s ≡ sign_by_link (sign_by_link p (not q)) t
opposed-by true true true true h = absurd (omega (arith, ints, h))
opposed-by true true true false h = refl
opposed-by true true false true h = refl
opposed-by true true false false h = absurd (omega (arith, ints, h))
opposed-by true false true true h = refl
opposed-by true false true false h = absurd (omega (arith, ints, h))
opposed-by true false false true h = absurd (omega (arith, ints, h))
opposed-by true false false false h = refl
opposed-by false true true true h = refl
opposed-by false true true false h = absurd (omega (arith, ints, h))
opposed-by false true false true h = absurd (omega (arith, ints, h))
opposed-by false true false false h = refl
opposed-by false false true true h = absurd (omega (arith, ints, h))
opposed-by false false true false h = refl
opposed-by false false false true h = refl
opposed-by false false false false h = absurd (omega (arith, ints, h))

opposed-back : (t p q : Bool) → number_with_sign (sign_by_link (sign_by_link p (not q)) t) (number_with_sign p (pos 1)) ≡ neg_ℤ (number_with_sign t (number_with_sign q (pos 1)))
opposed-back true true true = refl
opposed-back true true false = refl
opposed-back true false true = refl
opposed-back true false false = refl
opposed-back false true true = refl
opposed-back false true false = refl
opposed-back false false true = refl
opposed-back false false false = refl

-- how often two ends count for the relation of each
two-first : (one other : End) → one.relation ≢ other.relation → by_ends (Two one other) one.relation ≡ number_with_sign one.plus (pos 1)
two-first one other apart = omega (arith, ints, end-this one one.relation refl, end-other other one.relation (λ same. apart (sym same)))

two-second : (one other : End) → one.relation ≢ other.relation → by_ends (Two one other) other.relation ≡ number_with_sign other.plus (pos 1)
two-second one other apart = omega (arith, ints, end-this other other.relation refl, end-other one other.relation apart)

-- signs for the relations oppose at each cell
pub signs-oppose : (relations : List Relation) (signs : List Bool) (cell : ℕ) (e : Ends) → AreApart e → ((number : ℕ) → by_ends e number ≡ times_counted relations number cell) → AreSigns relations signs → Oppose signs e
signs-oppose relations signs cell Free apart all are = tt
signs-oppose relations signs cell (One one) apart all are = tt
signs-oppose relations signs cell (Two one other) apart all are =
    let first : times_counted relations one.relation cell ≡ number_with_sign one.plus (pos 1) = sym (all one.relation) ∙ two-first one other apart in
    let second : times_counted relations other.relation cell ≡ number_with_sign other.plus (pos 1) = sym (all other.relation) ∙ two-second one other apart in
    let against = opposite relations signs are one.relation other.relation cell apart (λ none. signed-some one.plus (sym first ∙ none)) (λ none. signed-some other.plus (sym second ∙ none)) in
    opposed-by (sign_of signs one.relation) (sign_of signs other.relation) one.plus other.plus
    (ap (number_with_sign (sign_of signs one.relation)) (sym first) ∙ against ∙ ap (λ z. neg_ℤ (number_with_sign (sign_of signs other.relation) z)) second)

-- relations that count a cell are among the relations
pub ends-known : (relations : List Relation) (cell : ℕ) (e : Ends) → AreApart e → ((number : ℕ) → by_ends e number ≡ times_counted relations number cell) → AreKnown (length relations) e
ends-known relations cell Free apart all = tt
ends-known relations cell (One one) apart all = tt
ends-known relations cell (Two one other) apart all =
    (known one.relation (λ none. signed-some one.plus (sym (two-first one other apart) ∙ all one.relation ∙ none)), known other.relation (λ none. signed-some other.plus (sym (two-second one other apart) ∙ all other.relation ∙ none)))
  where
    known : (number : ℕ) → times_counted relations number cell ≢ pos 0 → number < length relations
    known number some = elim (nat_lt number (length relations)) as (λ b. nat_lt number (length relations) ≡ b → number < length relations) [
      | true ↦ λ test. grind (arith, nat_tests, test)
      | false ↦ λ test. absurd (some (ap (λ found. option_map_or (λ (one : Relation). count_of one cell) found (pos 0)) (slice_get_past relations number (grind (arith, nat_tests, test)))))
    ] refl

-- ---- the other way

end-is : (end : End) (number : ℕ) → ((end.relation ≡ number) × (by_end end number ≡ number_with_sign end.plus (pos 1))) ⊎ ((end.relation ≢ number) × (by_end end number ≡ pos 0))
end-is end number =
    elim (end.relation == number) as (λ b. (end.relation == number) ≡ b → ((end.relation ≡ number) × (by_end end number ≡ number_with_sign end.plus (pos 1))) ⊎ ((end.relation ≢ number) × (by_end end number ≡ pos 0))) [
      | true ↦ λ test. inl (eqb-true end.relation number test, end-this end number (eqb-true end.relation number test))
      | false ↦ λ test. inr (eqb-false end.relation number test, end-other end number (eqb-false end.relation number test))
    ] refl

abbrev IsOnce : ℤ → Type 0
IsOnce z = (z ≡ pos 0) ⊎ ((z ≡ pos 1) ⊎ (z ≡ negsuc 0))

none-once : (sign : Bool) → IsOnce (number_with_sign sign (pos 0))
none-once true = inl refl
none-once false = inl refl

some-once : (sign plus : Bool) → IsOnce (number_with_sign sign (number_with_sign plus (pos 1)))
some-once true true = inr (inl refl)
some-once true false = inr (inr refl)
some-once false true = inr (inr refl)
some-once false false = inr (inl refl)

signed-zero : (sign : Bool) (z : ℤ) → z ≡ pos 0 → number_with_sign sign z ≡ pos 0
signed-zero true z h = h
signed-zero false z h = omega (arith, ints, h)

ends-once : (sign : Bool) (e : Ends) (number : ℕ) → AreApart e → IsOnce (number_with_sign sign (by_ends e number))
ends-once sign Free number apart = none-once sign
ends-once sign (One one) number apart =
    elim (end-is one number) as (λ _. IsOnce (number_with_sign sign (by_end one number))) [
      | inl is ↦ rw is.1 (some-once sign one.plus)
      | inr not_it ↦ rw not_it.1 (none-once sign)
    ]
ends-once sign (Two one other) number apart =
    elim (end-is one number) as (λ _. IsOnce (number_with_sign sign (by_end one number +ℤ by_end other number))) [
      | inl is ↦
          let whole : by_end one number +ℤ by_end other number ≡ number_with_sign one.plus (pos 1) = omega (arith, ints, is.1, end-other other number (λ too. apart (is.0 ∙ sym too))) in
          rw whole (some-once sign one.plus)
      | inr not_it ↦
          elim (end-is other number) as (λ _. IsOnce (number_with_sign sign (by_end one number +ℤ by_end other number))) [
            | inl is ↦ let whole : by_end one number +ℤ by_end other number ≡ number_with_sign other.plus (pos 1) = omega (arith, ints, is.1, not_it.1) in rw whole (some-once sign other.plus)
            | inr neither ↦ let whole : by_end one number +ℤ by_end other number ≡ pos 0 = omega (arith, ints, neither.1, not_it.1) in rw whole (none-once sign)
          ]
    ]

-- a relation that counts a cell with two ends is that of one of them
two-is : (signs : List Bool) (one other : End) (number : ℕ) (z : ℤ) → one.relation ≢ other.relation → Oppose signs (Two one other) → z ≢ pos 0 → number_with_sign (sign_of signs number) (by_ends (Two one other) number) ≡ z → ((one.relation ≡ number) × (number_with_sign (sign_of signs one.relation) (number_with_sign one.plus (pos 1)) ≡ z)) ⊎ ((other.relation ≡ number) × (neg_ℤ (number_with_sign (sign_of signs one.relation) (number_with_sign one.plus (pos 1))) ≡ z))
two-is signs one other number z apart oppose some is =
    elim (end-is one number) as (λ _. ((one.relation ≡ number) × (number_with_sign (sign_of signs one.relation) (number_with_sign one.plus (pos 1)) ≡ z)) ⊎ ((other.relation ≡ number) × (neg_ℤ (number_with_sign (sign_of signs one.relation) (number_with_sign one.plus (pos 1))) ≡ z))) [
      | inl here ↦ inl (here.0, ap (number_with_sign (sign_of signs one.relation)) (sym (two-first one other apart)) ∙ subst (λ n. number_with_sign (sign_of signs n) (by_ends (Two one other) n) ≡ z) (sym here.0) is)
      | inr not_one ↦
          elim (end-is other number) as (λ _. ((one.relation ≡ number) × (number_with_sign (sign_of signs one.relation) (number_with_sign one.plus (pos 1)) ≡ z)) ⊎ ((other.relation ≡ number) × (neg_ℤ (number_with_sign (sign_of signs one.relation) (number_with_sign one.plus (pos 1))) ≡ z))) [
            | inl here ↦
                let second : number_with_sign (sign_of signs other.relation) (number_with_sign other.plus (pos 1)) ≡ z = ap (number_with_sign (sign_of signs other.relation)) (sym (two-second one other apart)) ∙ subst (λ n. number_with_sign (sign_of signs n) (by_ends (Two one other) n) ≡ z) (sym here.0) is in
                let against : number_with_sign (sign_of signs one.relation) (number_with_sign one.plus (pos 1)) ≡ neg_ℤ (number_with_sign (sign_of signs other.relation) (number_with_sign other.plus (pos 1))) =
                ap (λ s. number_with_sign s (number_with_sign one.plus (pos 1))) oppose ∙ opposed-back (sign_of signs other.relation) one.plus other.plus
                in
                inr (here.0, omega (arith, ints, second, against))
            | inr not_other ↦ absurd (some (sym is ∙ signed-zero (sign_of signs number) (by_end one number +ℤ by_end other number) (omega (arith, ints, not_one.1, not_other.1))))
          ]
    ]

-- two relations that count a cell alike are one
ends-alike : (signs : List Bool) (e : Ends) (first second : ℕ) (z : ℤ) → AreApart e → Oppose signs e → z ≢ pos 0 → number_with_sign (sign_of signs first) (by_ends e first) ≡ z → number_with_sign (sign_of signs second) (by_ends e second) ≡ z → first ≡ second
ends-alike signs Free first second z apart oppose some one_is other_is = absurd (some (sym one_is ∙ signed-zero (sign_of signs first) (pos 0) refl))
ends-alike signs (One one) first second z apart oppose some one_is other_is = sym (itself first one_is) ∙ itself second other_is
  where
    itself : (number : ℕ) → number_with_sign (sign_of signs number) (by_end one number) ≡ z → one.relation ≡ number
    itself number is = elim (end-is one number) as (λ _. one.relation ≡ number) [
      | inl here ↦ here.0
      | inr there ↦ absurd (some (sym is ∙ signed-zero (sign_of signs number) (by_end one number) there.1))
    ]
ends-alike signs (Two one other) first second z apart oppose some one_is other_is =
    elim (two-is signs one other first z apart oppose some one_is) as (λ _. first ≡ second) [
      | inl a ↦
          elim (two-is signs one other second z apart oppose some other_is) as (λ _. first ≡ second) [
            | inl b ↦ sym a.0 ∙ b.0
            | inr b ↦ absurd (some (omega (arith, ints, a.1, b.1)))
          ]
      | inr a ↦
          elim (two-is signs one other second z apart oppose some other_is) as (λ _. first ≡ second) [
            | inl b ↦ absurd (some (omega (arith, ints, a.1, b.1)))
            | inr b ↦ sym a.0 ∙ b.0
          ]
    ]

-- signs that oppose at each cell are signs for the relations
pub signs-are : (relations : List Relation) (signs : List Bool) (ends : List Ends) → length signs ≡ length relations → AreEnds relations ends → ((cell : ℕ) → Oppose signs (ends_at ends cell)) → AreSigns relations signs
signs-are relations signs ends each are oppose =
    record {
      each = each;
      once = λ number cell. subst (λ z. IsOnce (number_with_sign (sign_of signs number) z)) (are.all cell number) (ends-once (sign_of signs number) (ends_at ends cell) number (are.apart cell));
      one_plus = λ one other cell first second. ends-alike signs (ends_at ends cell) one other (pos 1) (are.apart cell) (oppose cell) (λ h. absurd (omega (arith, ints, h)))
          (ap (number_with_sign (sign_of signs one)) (are.all cell one) ∙ first) (ap (number_with_sign (sign_of signs other)) (are.all cell other) ∙ second);
      one_minus = λ one other cell first second. ends-alike signs (ends_at ends cell) one other (negsuc 0) (are.apart cell) (oppose cell) (λ h. absurd (omega (arith, ints, h)))
          (ap (number_with_sign (sign_of signs one)) (are.all cell one) ∙ first) (ap (number_with_sign (sign_of signs other)) (are.all cell other) ∙ second);
    }

-- ---- from cell to cell

pub opposed-next : (signs : List Bool) (ends : List Ends) (cell : ℕ) → Oppose signs (ends_at ends cell) → ((one : ℕ) → one < cell → Oppose signs (ends_at ends one)) → (one : ℕ) → one < cell + 1 → Oppose signs (ends_at ends one)
opposed-next signs ends cell here before one low =
    elim (one == cell) as (λ b. (one == cell) ≡ b → Oppose signs (ends_at ends one)) [
      | true ↦ λ test. subst (λ n. Oppose signs (ends_at ends n)) (sym (eqb-true one cell test)) here
      | false ↦ λ test. before one (grind (arith, low, eqb-false one cell test))
    ] refl

pub opposed-all : (signs : List Bool) (ends : List Ends) (count : ℕ) → length ends ≤ count → ((one : ℕ) → one < count → Oppose signs (ends_at ends one)) → (cell : ℕ) → Oppose signs (ends_at ends cell)
opposed-all signs ends count whole before cell =
    elim (nat_lt cell count) as (λ b. nat_lt cell count ≡ b → Oppose signs (ends_at ends cell)) [
      | true ↦ λ test. before cell (grind (arith, nat_tests, test))
      | false ↦ λ test. let beyond : ends_at ends cell ≡ Free = get_or_past ends cell Free (grind (arith, nat_tests, test, whole)) in rw beyond tt
    ] refl
