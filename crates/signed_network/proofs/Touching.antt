-- Cells with a flag, put into the lists of the points that their arcs touch.
use Rattle.std.proofs.Common.{◌≡◌, ◌≢◌, ◌⊎◌, inl, inr, ℕ, zero, suc, ◌+◌, ◌-◌, ◌<◌, ◌≤◌, ◌==◌, Bool, true, false, List, [], ◌∷◌, ◌++◌, length, get_or, arith, refl, ap, sym, subst, ◌∙◌, if◌then◌else◌, get_or-set_other, get_or-set_same}
use Rattle.std.proofs.Math.ListN.{set}
use Rattle.std.specs.List.{Contains}
use Rattle.std.specs.List.Sorted.{IsNonDecreasing}
use Rattle.std.proofs.lemmas.Bool.{cases_lt}
use Rattle.std.proofs.lemmas.Bool.Decides.{Decides-eqb, nat_tests}
use Rattle.std.proofs.lemmas.List.Elements.{Contains-append_left, Contains-push, Contains-push_cases, Contains-get_or}
use Rattle.std.proofs.lemmas.List.Sorted.{IsNonDecreasingBy-short, IsNonDecreasingBy-push}
use Rattle.sdc_base.specs.HiddenSets.{is_hidden}
use Rattle.signed_network.specs.declared.arcs.Arc.{Arc}
use Rattle.signed_network.specs.Arcs.{arc_at}
use Rattle.signed_network.specs.Networks.{Touches, cells_at, AreTouching}

pub empty_more : (lists : List (List ℕ)) (one : List ℕ) (cell : ℕ) → one ≡ [] → ((c : ℕ) → get_or lists c [] ≡ []) → get_or (lists ++ one ∷ []) cell [] ≡ []
empty_more [] one zero is all = is
empty_more [] one (suc cell) is all = refl
empty_more (list ∷ lists) one zero is all = all 0
empty_more (list ∷ lists) one (suc cell) is all = empty_more lists one cell is (λ c. all (suc c))

-- a cell is put at the end of the list of one point
abbrev pub IsAdded : ℕ → ℕ → List (List ℕ) → List (List ℕ) → Type 0
IsAdded point cell before after = (other : ℕ) → cells_at after other ≡ (if other == point then cells_at before other ++ cell ∷ [] else cells_at before other)

pub added_set : (touching : List (List ℕ)) (point cell : ℕ) (old now : List ℕ) → point < length touching → old ≡ get_or touching point [] → now ≡ old ++ cell ∷ [] → IsAdded point cell touching (set touching point now)
added_set touching point cell old now inside is so other =
    elim (other == point) as (λ b. (other == point) ≡ b → get_or (set touching point now) other [] ≡ (if b then get_or touching other [] ++ cell ∷ [] else get_or touching other [])) [
      | true ↦ λ test.
          let same : other ≡ point = (Decides-eqb other point).0 test in
          ap (λ (i : ℕ). get_or (set touching point now) i []) same ∙ get_or-set_same touching point now [] inside ∙ so ∙ ap (λ (xs : List ℕ). xs ++ cell ∷ []) (is ∙ ap (λ (i : ℕ). get_or touching i []) (sym same))
      | false ↦ λ test.
          let apart : other ≢ point = grind (arith, nat_tests, test) in
          get_or-set_other touching point other now [] apart
    ] refl

kept_in : (b : Bool) (xs : List ℕ) (cell x : ℕ) → Contains xs x → Contains (if b then xs ++ cell ∷ [] else xs) x
kept_in true xs cell x has = Contains-append_left xs (cell ∷ []) x has
kept_in false xs cell x has = has

keeps : (point cell : ℕ) (before after : List (List ℕ)) (other x : ℕ) → IsAdded point cell before after → Contains (cells_at before other) x → Contains (cells_at after other) x
keeps point cell before after other x added has = subst (λ (xs : List ℕ). Contains xs x) (sym (added other)) (kept_in (other == point) (cells_at before other) cell x has)

has_new : (point cell : ℕ) (before after : List (List ℕ)) → IsAdded point cell before after → Contains (cells_at after point) cell
has_new point cell before after added =
    let test : (point == point) ≡ true = (Decides-eqb point point).1 refl in
    let is : cells_at after point ≡ cells_at before point ++ cell ∷ [] = added point ∙ rw test refl in
    subst (λ (xs : List ℕ). Contains xs cell) (sym is) (Contains-push (cells_at before point) cell)

new_or_old : (b : Bool) (xs : List ℕ) (cell x : ℕ) → Contains (if b then xs ++ cell ∷ [] else xs) x → Contains xs x ⊎ ((b ≡ true) × (cell ≡ x))
new_or_old true xs cell x has = elim (Contains-push_cases xs cell x has) as (λ _. Contains xs x ⊎ ((true ≡ true) × (cell ≡ x))) [ inl old ↦ inl old | inr new ↦ inr (refl, new) ]
new_or_old false xs cell x has = inl has

only_new : (point cell : ℕ) (before after : List (List ℕ)) (other x : ℕ) → IsAdded point cell before after → Contains (cells_at after other) x → Contains (cells_at before other) x ⊎ ((other ≡ point) × (cell ≡ x))
only_new point cell before after other x added has =
    elim (new_or_old (other == point) (cells_at before other) cell x (subst (λ (xs : List ℕ). Contains xs x) (added other) has)) as (λ _. Contains (cells_at before other) x ⊎ ((other ≡ point) × (cell ≡ x))) [
      | inl old ↦ inl old
      | inr (test, new) ↦ inr ((Decides-eqb other point).0 test, new)
    ]

sorted_in : (b : Bool) (xs : List ℕ) (cell : ℕ) → IsNonDecreasing xs → ((x : ℕ) → Contains xs x → x ≤ cell) → IsNonDecreasing (if b then xs ++ cell ∷ [] else xs)
sorted_in true xs cell sorted most = IsNonDecreasingBy-push (λ (x : ℕ). x) xs cell sorted (λ d some. most (get_or xs (length xs - 1) d) (Contains-get_or xs (length xs - 1) d (omega (arith, some))))
sorted_in false xs cell sorted most = sorted

added_ascends : (point cell : ℕ) (before after : List (List ℕ)) (other : ℕ) → IsAdded point cell before after → IsNonDecreasing (cells_at before other) → ((x : ℕ) → Contains (cells_at before other) x → x ≤ cell) → IsNonDecreasing (cells_at after other)
added_ascends point cell before after other added sorted most = subst IsNonDecreasing (sym (added other)) (sorted_in (other == point) (cells_at before other) cell sorted most)

pub none_touching : (flags : List Bool) (arcs : List Arc) (touching : List (List ℕ)) → ((point : ℕ) → cells_at touching point ≡ []) → AreTouching flags arcs 0 touching
none_touching flags arcs touching empty = record {
  all = λ point cell below. absurd (omega (arith, below));
  ascending = λ point. subst IsNonDecreasing (sym (empty point)) (IsNonDecreasingBy-short (λ (x : ℕ). x) [] (omega arith));
  only = λ point cell has.
      let none : Contains [] cell = subst (λ (xs : List ℕ). Contains xs cell) (empty point) has in
      absurd (omega (arith, none.1));
}

-- a cell without a flag is passed over
pub passed_touching : (flags : List Bool) (arcs : List Arc) (k : ℕ) (touching : List (List ℕ)) → is_hidden flags k ≡ false → AreTouching flags arcs k touching → AreTouching flags arcs (k + 1) touching
passed_touching flags arcs k touching shown are = record {
  all = λ point cell below hidden touches.
      elim (cases_lt cell k) as (λ _. Contains (cells_at touching point) cell) [
        | inl less ↦ are.all point cell less hidden touches
        | inr not_less ↦
            let same : k ≡ cell = omega arith in
            absurd (let clash : true ≡ false = sym hidden ∙ ap (λ (c : ℕ). is_hidden flags c) (sym same) ∙ shown in cc)
      ];
  ascending = are.ascending;
  only = λ point cell has. let one = are.only point cell has in (omega (arith, one.0), one.1, one.2);
}

-- one with a flag is put into two lists
pub one_more_touching : (flags : List Bool) (arcs : List Arc) (k : ℕ) (before between after : List (List ℕ)) → is_hidden flags k ≡ true → IsAdded (arc_at arcs k).from k before between → IsAdded (arc_at arcs k).to k between after → AreTouching flags arcs k before → AreTouching flags arcs (k + 1) after
one_more_touching flags arcs k before between after hidden_k first second are = record {
  all = λ point cell below hidden touches.
      elim (cases_lt cell k) as (λ _. Contains (cells_at after point) cell) [
        | inl less ↦ keeps (arc_at arcs k).to k between after point cell second (keeps (arc_at arcs k).from k before between point cell first (are.all point cell less hidden touches))
        | inr not_less ↦
            let same : k ≡ cell = omega arith in
            subst (λ (c : ℕ). Contains (cells_at after point) c) same (here point (subst (λ (c : ℕ). Touches (arc_at arcs c) point) (sym same) touches))
      ];
  ascending = λ point.
      added_ascends (arc_at arcs k).to k between after point second
      (added_ascends (arc_at arcs k).from k before between point first (are.ascending point) (λ x has. older point x has))
      (λ x has. elim (only_new (arc_at arcs k).from k before between point x first has) as (λ _. x ≤ k) [ inl old ↦ older point x old | inr (at, new) ↦ omega (arith, new) ]);
  only = λ point cell has.
      elim (only_new (arc_at arcs k).to k between after point cell second has) as (λ _. (cell < k + 1) × (is_hidden flags cell ≡ true) × Touches (arc_at arcs cell) point) [
        | inl old ↦
            elim (only_new (arc_at arcs k).from k before between point cell first old) as (λ _. (cell < k + 1) × (is_hidden flags cell ≡ true) × Touches (arc_at arcs cell) point) [
              | inl older ↦ let one = are.only point cell older in (omega (arith, one.0), one.1, one.2)
              | inr (at, new) ↦ (omega (arith, new), subst (λ (c : ℕ). is_hidden flags c ≡ true) new hidden_k, subst (λ (c : ℕ). Touches (arc_at arcs c) point) new (inl (sym at)))
            ]
        | inr (at, new) ↦ (omega (arith, new), subst (λ (c : ℕ). is_hidden flags c ≡ true) new hidden_k, subst (λ (c : ℕ). Touches (arc_at arcs c) point) new (inr (sym at)))
      ];
}
  where
    older : (point x : ℕ) → Contains (cells_at before point) x → x ≤ k
    older point x has = let below = (are.only point x has).0 in omega (arith, below)

    here : (point : ℕ) → Touches (arc_at arcs k) point → Contains (cells_at after point) k
    here point (inl from) = keeps (arc_at arcs k).to k between after point k second (subst (λ (p : ℕ). Contains (cells_at between p) k) from (has_new (arc_at arcs k).from k before between first))
    here point (inr to) = subst (λ (p : ℕ). Contains (cells_at after p) k) to (has_new (arc_at arcs k).to k between after second)
