-- The arc of a cell, from the relations that count it.
use Rattle.std.proofs.Common.{◌≡◌, ◌≢◌, ℕ, zero, suc, ◌+◌, ◌<◌, ◌≤◌, ◌==◌, Bool, true, false, List, [], ◌∷◌, ◌++◌, length, slice_get, None, ℤ, pos, negsuc, neg_ℤ, ◌+ℤ◌, arith, refl, ap, sym, subst, ◌∙◌, inl, inr, if◌then◌else◌}
use Rattle.std.specs.Option.{option_map_or}
use Rattle.std.proofs.lemmas.Int.{ints}
use Rattle.std.proofs.lemmas.Bool.{cases_lt}
use Rattle.std.proofs.lemmas.Bool.Decides.{Decides-eqb, nat_tests}
use Rattle.sdc_base.specs.declared.ends.End.{End}
use Rattle.sdc_base.specs.declared.ends.Ends.{Ends}
use Rattle.sdc_base.specs.declared.ends.Ends.TheVariants.{Free, One, Two}
use Rattle.sdc_base.specs.declared.relation.Relation.{Relation}
use Rattle.sdc_base.specs.Ends.{AreApart, AreEnds, by_end, by_ends, ends_at}
use Rattle.sdc_base.specs.Forms.{count_of}
use Rattle.sdc_base.specs.Signs.{AreSigns, number_with_sign, sign_of, signed_count, times_counted}
use Rattle.signed_network.specs.declared.arcs.Arc.{Arc}
use Rattle.signed_network.specs.Arcs.{at_point, IsArcOf, arc_at, AreArcsOf, is_same, arc_of, arc_with}

pub at_own : (point number : ℕ) → point ≡ number → at_point point number ≡ pos 1
at_own point number same = let test : (point == number) ≡ true = grind (arith, nat_tests, same) in rw test refl

pub at_other : (point number : ℕ) → point ≢ number → at_point point number ≡ pos 0
at_other point number apart = let test : (point == number) ≡ false = grind (arith, nat_tests, apart) in rw test refl

-- what an end brings to a point by the sign of its relation
end_brings : Bool → ℕ → ℕ → ℤ
end_brings true relation number = at_point relation number
end_brings false relation number = neg_ℤ (at_point relation number)

signed_one : (plus sign : Bool) → number_with_sign sign (number_with_sign plus (pos 1)) ≡ number_with_sign (is_same plus sign) (pos 1)
signed_one true true = refl
signed_one true false = refl
signed_one false true = refl
signed_one false false = refl

own_brings : (b : Bool) (relation number : ℕ) → relation ≡ number → end_brings b relation number ≡ number_with_sign b (pos 1)
unfolding end_brings
own_brings true relation number same = at_own relation number same
own_brings false relation number same = omega (arith, ints, at_own relation number same)

other_brings : (b : Bool) (relation number : ℕ) → relation ≢ number → end_brings b relation number ≡ pos 0
unfolding end_brings
other_brings true relation number apart = at_other relation number apart
other_brings false relation number apart = omega (arith, ints, at_other relation number apart)

signed_none : (sign : Bool) → number_with_sign sign (pos 0) ≡ pos 0
signed_none true = refl
signed_none false = refl

signed_sum : (sign : Bool) (a b : ℤ) → number_with_sign sign (a +ℤ b) ≡ number_with_sign sign a +ℤ number_with_sign sign b
signed_sum true a b = refl
signed_sum false a b = omega (arith, ints)

signed_end : (signs : List Bool) (end : End) (number : ℕ) → number_with_sign (sign_of signs number) (by_end end number) ≡ end_brings (is_same end.plus (sign_of signs end.relation)) end.relation number
signed_end signs end number =
    elim (end.relation == number) as (λ b. (end.relation == number) ≡ b → number_with_sign (sign_of signs number) (if b then number_with_sign end.plus (pos 1) else pos 0) ≡ end_brings (is_same end.plus (sign_of signs end.relation)) end.relation number) [
      | true ↦ λ test.
          let same : end.relation ≡ number = (Decides-eqb end.relation number).0 test in
          ap (λ (n : ℕ). number_with_sign (sign_of signs n) (number_with_sign end.plus (pos 1))) (sym same)
          ∙ signed_one end.plus (sign_of signs end.relation)
          ∙ sym (own_brings (is_same end.plus (sign_of signs end.relation)) end.relation number same)
      | false ↦ λ test.
          let apart : end.relation ≢ number = grind (arith, nat_tests, test) in
          signed_none (sign_of signs number) ∙ sym (other_brings (is_same end.plus (sign_of signs end.relation)) end.relation number apart)
    ] refl

past_none : {X : Type 0} (xs : List X) (k : ℕ) → length xs ≤ k → slice_get xs k ≡ None
past_none {X} [] zero past = refl
past_none {X} [] (suc k) past = refl
past_none {X} (x ∷ xs) zero past = absurd (omega arith)
past_none {X} (x ∷ xs) (suc k) past = past_none xs k (omega arith)

counted_known : (relations : List Relation) (number cell : ℕ) → times_counted relations number cell ≢ pos 0 → number < length relations
counted_known relations number cell some =
    elim (cases_lt number (length relations)) as (λ _. number < length relations) [
      | inl below ↦ below
      | inr past ↦ absurd (some (ap (λ o. option_map_or (λ (r : Relation). count_of r cell) o (pos 0)) (past_none relations number past)))
    ]

signed_some : (plus : Bool) → number_with_sign plus (pos 1) ≢ pos 0
signed_some true h = absurd (omega (arith, ints, h))
signed_some false h = absurd (omega (arith, ints, h))

by_own : (end : End) (number : ℕ) → end.relation ≡ number → by_end end number ≡ number_with_sign end.plus (pos 1)
by_own end number same = let test : (end.relation == number) ≡ true = grind (arith, nat_tests, same) in rw test refl

by_other : (end : End) (number : ℕ) → end.relation ≢ number → by_end end number ≡ pos 0
by_other end number apart = let test : (end.relation == number) ≡ false = grind (arith, nat_tests, apart) in rw test refl

-- what a signed count is by ends
signed_is : (relations : List Relation) (signs : List Bool) (cell number : ℕ) (e : Ends) → ((n : ℕ) → by_ends e n ≡ times_counted relations n cell) → signed_count relations signs number cell ≡ number_with_sign (sign_of signs number) (by_ends e number)
signed_is relations signs cell number e all = ap (λ z. number_with_sign (sign_of signs number) z) (sym (all number))

arc_joined : (signs : List Bool) (arc : Arc) (end : End) (b : Bool) → is_same end.plus (sign_of signs end.relation) ≡ b → arc_with signs arc end ≡ (if b then record { from = arc.from; to = end.relation } else record { from = end.relation; to = arc.to })
arc_joined signs arc end b is = ap (λ (t : Bool). if t then record { from = arc.from; to = end.relation } else record { from = end.relation; to = arc.to }) is

one_arc : (relations : List Relation) (signs : List Bool) (cell : ℕ) (one : End) (b : Bool) → ((n : ℕ) → by_ends (One one) n ≡ times_counted relations n cell) → is_same one.plus (sign_of signs one.relation) ≡ b → IsArcOf relations signs cell (if b then record { from = length relations; to = one.relation } else record { from = one.relation; to = length relations })
unfolding end_brings
one_arc relations signs cell one true all is =
    let known = counted_known relations one.relation cell (λ none. signed_some one.plus (sym (by_own one one.relation refl) ∙ all one.relation ∙ none)) in
    record {
      from_point = omega arith;
      to_point = omega (arith, known);
      counted = λ number below.
          let other = at_other (length relations) number (λ same. absurd (omega (arith, same, below))) in
          signed_is relations signs cell number (One one) all ∙ signed_end signs one number ∙ ap (λ (b : Bool). end_brings b one.relation number) is ∙ omega (arith, ints, other);
    }
one_arc relations signs cell one false all is =
    let known = counted_known relations one.relation cell (λ none. signed_some one.plus (sym (by_own one one.relation refl) ∙ all one.relation ∙ none)) in
    record {
      from_point = omega (arith, known);
      to_point = omega arith;
      counted = λ number below.
          let other = at_other (length relations) number (λ same. absurd (omega (arith, same, below))) in
          signed_is relations signs cell number (One one) all ∙ signed_end signs one number ∙ ap (λ (b : Bool). end_brings b one.relation number) is ∙ omega (arith, ints, other);
    }

-- two ends of a cell
pub record HasTwo (relations : List Relation) (signs : List Bool) (cell : ℕ) (one other : End) (b c : Bool) : Type 0 where
  pub are_signs : AreSigns relations signs
  pub apart : one.relation ≢ other.relation
  pub all : (n : ℕ) → by_ends (Two one other) n ≡ times_counted relations n cell
  pub one_is : is_same one.plus (sign_of signs one.relation) ≡ b
  pub other_is : is_same other.plus (sign_of signs other.relation) ≡ c

two_counts : (relations : List Relation) (signs : List Bool) (cell : ℕ) (one other : End) (b c : Bool) → HasTwo relations signs cell one other b c → (number : ℕ) → signed_count relations signs number cell ≡ end_brings b one.relation number +ℤ end_brings c other.relation number
two_counts relations signs cell one other b c two number =
    signed_is relations signs cell number (Two one other) two.all ∙ signed_sum (sign_of signs number) (by_end one number) (by_end other number)
    ∙ omega (arith, ints, signed_end signs one number, signed_end signs other number, ap (λ (b : Bool). end_brings b one.relation number) two.one_is, ap (λ (b : Bool). end_brings b other.relation number) two.other_is)

two_known : (relations : List Relation) (signs : List Bool) (cell : ℕ) (one other : End) (b c : Bool) → HasTwo relations signs cell one other b c → (one.relation < length relations) × (other.relation < length relations)
two_known relations signs cell one other b c two = (
  counted_known relations one.relation cell (λ none. signed_some one.plus (omega (arith, ints, by_own one one.relation refl, by_other other one.relation (λ same. two.apart (sym same)), two.all one.relation, none))),
  counted_known relations other.relation cell (λ none. signed_some other.plus (omega (arith, ints, by_own other other.relation refl, by_other one other.relation two.apart, two.all other.relation, none))),
)

two_arc : (relations : List Relation) (signs : List Bool) (cell : ℕ) (one other : End) (b c : Bool) → HasTwo relations signs cell one other b c
    → IsArcOf relations signs cell (if c then record { from = (if b then length relations else one.relation); to = other.relation } else record { from = other.relation; to = (if b then one.relation else length relations) })
unfolding end_brings
two_arc relations signs cell one other true true two =
    let first : signed_count relations signs one.relation cell ≡ pos 1 = two_counts relations signs cell one other true true two one.relation ∙ omega (arith, ints, at_own one.relation one.relation refl, at_other other.relation one.relation (λ same. two.apart (sym same))) in
    let second : signed_count relations signs other.relation cell ≡ pos 1 = two_counts relations signs cell one other true true two other.relation ∙ omega (arith, ints, at_own other.relation other.relation refl, at_other one.relation other.relation two.apart) in
    absurd (two.apart (two.are_signs.one_plus one.relation other.relation cell first second))
two_arc relations signs cell one other true false two =
    let known = two_known relations signs cell one other true false two in
    record {
      from_point = omega (arith, known.1);
      to_point = omega (arith, known.0);
      counted = λ number below. two_counts relations signs cell one other true false two number ∙ omega (arith, ints);
    }
two_arc relations signs cell one other false true two =
    let known = two_known relations signs cell one other false true two in
    record {
      from_point = omega (arith, known.0);
      to_point = omega (arith, known.1);
      counted = λ number below. two_counts relations signs cell one other false true two number ∙ omega (arith, ints);
    }
two_arc relations signs cell one other false false two =
    let first : signed_count relations signs one.relation cell ≡ negsuc 0 = two_counts relations signs cell one other false false two one.relation ∙ omega (arith, ints, at_own one.relation one.relation refl, at_other other.relation one.relation (λ same. two.apart (sym same))) in
    let second : signed_count relations signs other.relation cell ≡ negsuc 0 = two_counts relations signs cell one other false false two other.relation ∙ omega (arith, ints, at_own other.relation other.relation refl, at_other one.relation other.relation two.apart) in
    absurd (two.apart (two.are_signs.one_minus one.relation other.relation cell first second))

arc_from_two : (signs : List Bool) (outside : ℕ) (one other : End) (b c : Bool) → is_same one.plus (sign_of signs one.relation) ≡ b → is_same other.plus (sign_of signs other.relation) ≡ c
    → arc_of signs outside (Two one other) ≡ (if c then record { from = (if b then outside else one.relation); to = other.relation } else record { from = other.relation; to = (if b then one.relation else outside) })
arc_from_two signs outside one other true c first second = arc_joined signs (arc_with signs (record { from = outside; to = outside }) one) other c second ∙ ap (λ (a : Arc). if c then record { from = a.from; to = other.relation } else record { from = other.relation; to = a.to }) (arc_joined signs (record { from = outside; to = outside }) one true first)
arc_from_two signs outside one other false c first second = arc_joined signs (arc_with signs (record { from = outside; to = outside }) one) other c second ∙ ap (λ (a : Arc). if c then record { from = a.from; to = other.relation } else record { from = other.relation; to = a.to }) (arc_joined signs (record { from = outside; to = outside }) one false first)

arc_by_ends : (relations : List Relation) (signs : List Bool) (cell : ℕ) (e : Ends) → AreSigns relations signs → AreApart e → ((n : ℕ) → by_ends e n ≡ times_counted relations n cell) → IsArcOf relations signs cell (arc_of signs (length relations) e)
arc_by_ends relations signs cell Free are apart all = record {
  from_point = omega arith;
  to_point = omega arith;
  counted = λ number below. signed_is relations signs cell number Free all ∙ signed_none (sign_of signs number) ∙ omega (arith, ints);
}
arc_by_ends relations signs cell (One one) are apart all =
    subst (IsArcOf relations signs cell) (sym (arc_joined signs (record { from = length relations; to = length relations }) one (is_same one.plus (sign_of signs one.relation)) refl)) (one_arc relations signs cell one (is_same one.plus (sign_of signs one.relation)) all refl)
arc_by_ends relations signs cell (Two one other) are apart all =
    subst (IsArcOf relations signs cell) (sym (arc_from_two signs (length relations) one other (is_same one.plus (sign_of signs one.relation)) (is_same other.plus (sign_of signs other.relation)) refl refl))
    (two_arc relations signs cell one other (is_same one.plus (sign_of signs one.relation)) (is_same other.plus (sign_of signs other.relation)) (record { are_signs = are; apart = apart; all = all; one_is = refl; other_is = refl }))

-- the arc by the ends of a cell is that by how often relations count it
pub ends_arc : (relations : List Relation) (signs : List Bool) (ends : List Ends) (cell : ℕ) → AreSigns relations signs → AreEnds relations ends → IsArcOf relations signs cell (arc_of signs (length relations) (ends_at ends cell))
ends_arc relations signs ends cell are of = arc_by_ends relations signs cell (ends_at ends cell) are (of.apart cell) (λ n. of.all cell n)

-- ---- one arc more

arc_before : (arcs : List Arc) (arc : Arc) (cell : ℕ) → cell < length arcs → arc_at (arcs ++ arc ∷ []) cell ≡ arc_at arcs cell
arc_before [] arc cell below = absurd (omega arith)
arc_before (one ∷ arcs) arc zero below = refl
arc_before (one ∷ arcs) arc (suc cell) below = arc_before arcs arc cell (omega arith)

arc_last : (arcs : List Arc) (arc : Arc) → arc_at (arcs ++ arc ∷ []) (length arcs) ≡ arc
arc_last [] arc = refl
arc_last (one ∷ arcs) arc = arc_last arcs arc

pub one_more_arc : (relations : List Relation) (signs : List Bool) (arcs after : List Arc) (arc : Arc) (k : ℕ) → after ≡ arcs ++ arc ∷ [] → length arcs ≡ k → IsArcOf relations signs k arc → ((cell : ℕ) → cell < k → IsArcOf relations signs cell (arc_at arcs cell)) → (cell : ℕ) → cell < k + 1 → IsArcOf relations signs cell (arc_at after cell)
one_more_arc relations signs arcs after arc k is many last before cell below =
    elim (cases_lt cell k) as (λ _. IsArcOf relations signs cell (arc_at after cell)) [
      | inl less ↦ subst (λ (a : Arc). IsArcOf relations signs cell a) (sym (ap (λ (list : List Arc). arc_at list cell) is ∙ arc_before arcs arc cell (omega (arith, many, less)))) (before cell less)
      | inr not_less ↦
          let same : length arcs ≡ cell = omega (arith, many, below, not_less) in
          let here : arc_at after cell ≡ arc = ap (λ (list : List Arc). arc_at list cell) is ∙ ap (λ (i : ℕ). arc_at (arcs ++ arc ∷ []) i) (sym same) ∙ arc_last arcs arc in
          let own : k ≡ cell = omega (arith, many, same) in
          subst (λ (a : Arc). IsArcOf relations signs cell a) (sym here) (subst (λ (i : ℕ). IsArcOf relations signs i arc) own last)
    ]

pub all_arcs : (relations : List Relation) (signs : List Bool) (arcs : List Arc) (k cells : ℕ) → length arcs ≡ k → k ≡ cells → ((cell : ℕ) → cell < k → IsArcOf relations signs cell (arc_at arcs cell)) → AreArcsOf relations signs cells arcs
all_arcs relations signs arcs k cells many all before = record { each = many ∙ all; arced = λ cell below. before cell (omega (arith, all, below)) }

-- the points of arcs
pub arcs_within : (relations : List Relation) (signs : List Bool) (cells : ℕ) (arcs : List Arc) → AreArcsOf relations signs cells arcs → (cell : ℕ) → cell < length arcs → ((arc_at arcs cell).from < length relations + 1) × ((arc_at arcs cell).to < length relations + 1)
arcs_within relations signs cells arcs are cell below =
    let arc = are.arced cell (omega (arith, are.each, below)) in
    (omega (arith, arc.from_point), omega (arith, arc.to_point))
