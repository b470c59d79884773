-- Every cell has a component.
use Rattle.std.proofs.Common.{◌≡◌, ◌⊎◌, inl, inr, ℕ, zero, suc, ◌+◌, ◌<◌, ◌≤◌, ◌==◌, ◌&&◌, ◌||◌, Bool, true, false, List, [], ◌∷◌, length, slice_get, Some, arith, refl, ap, sym, ◌∙◌, length-append, if◌then◌else◌}
use Rattle.std.specs.List.{list_any}
use Rattle.std.proofs.lemmas.Bool.Decides.{Decides-eqb}
use Rattle.sdc_base.specs.declared.relation.Relation.{Relation}
use Rattle.sdc_base.specs.Components.{AreLinked, AreRelated, IsChain, mentions}
use Rattle.sdc_base.specs.HiddenSets.{is_hidden}
use Rattle.sdc_base.proofs.Chains.{linked-same, linked-related, linked-then}
use Rattle.sdc_base.proofs.Connecting.{hidden-inside}
use Rattle.interval_audit.specs.Columns.{rank}
use Rattle.interval_audit.specs.FewerHidden.{ComponentExists}
use Rattle.interval_audit.specs.Groups.{Group, members}
use Rattle.interval_audit.specs.Labels.{is_met}
use Rattle.interval_audit.proofs.Proper.{rank-most}
use Rattle.interval_audit.proofs.Ranks.{members-more}
use Rattle.interval_audit.proofs.SmallerProblems.{any_found}

-- ---- tests over lists

both : (a b : Bool) → (a && b) ≡ true → (a ≡ true) × (b ≡ true)
both true b is = (refl, is)
both false b is = absurd cc

and_true : (a b : Bool) → a ≡ true → b ≡ true → (a && b) ≡ true
and_true a b one other = ap (λ t. t && b) one ∙ other

either : (a b : Bool) → (a || b) ≡ true → (a ≡ true) ⊎ (b ≡ true)
either true b is = inl refl
either false b is = inr is

or_first : (a b : Bool) → a ≡ true → (a || b) ≡ true
or_first a b is = ap (λ t. t || b) is

or_second : (a b : Bool) → b ≡ true → (a || b) ≡ true
or_second true b is = refl
or_second false b is = is

any_place : (p : Relation → Bool) (rs : List Relation) → list_any p rs ≡ true → (k : ℕ) × (r : Relation) × (slice_get rs k ≡ Some r) × (p r ≡ true)
any_place p [] any = absurd cc
any_place p (r ∷ rs) any =
    elim (either (p r) (list_any p rs) any) as (λ _. (k : ℕ) × (x : Relation) × (slice_get (r ∷ rs) k ≡ Some x) × (p x ≡ true)) [
      | inl is ↦ (0, r, refl, is)
      | inr rest ↦ let found : (k : ℕ) × (x : Relation) × (slice_get rs k ≡ Some x) × (p x ≡ true) = any_place p rs rest in (suc found.0, found.1, found.2, found.3)
    ]

place_any : (p : Relation → Bool) (rs : List Relation) (k : ℕ) (r : Relation) → slice_get rs k ≡ Some r → p r ≡ true → list_any p rs ≡ true
place_any p [] k r found is = absurd cc
place_any p (x ∷ rs) zero r found is = let same : x ≡ r = cc in or_first (p x) (list_any p rs) (ap p same ∙ is)
place_any p (x ∷ rs) (suc k) r found is = or_second (p x) (list_any p rs) (place_any p rs k r found is)

met_by_one : (p : ℕ → Bool) (xs : List ℕ) (c : ℕ) → list_any (λ y. y == c) xs ≡ true → p c ≡ true → list_any p xs ≡ true
met_by_one p [] c named is = named
met_by_one p (x ∷ xs) c named is =
    elim (either (x == c) (list_any (λ y. y == c) xs) named) as (λ _. (p x || list_any p xs) ≡ true) [
      | inl same ↦ or_first (p x) (list_any p xs) (ap p ((Decides-eqb x c).0 same) ∙ is)
      | inr rest ↦ or_second (p x) (list_any p xs) (met_by_one p xs c rest is)
    ]

-- ---- what is reached in so many steps

joined : List Relation → List Bool → Group → Group
joined relations flags group cell = group cell || (is_hidden flags cell && list_any (λ r. mentions r cell && is_met group r) relations)

reached : List Relation → List Bool → ℕ → ℕ → Group
reached relations flags asked zero cell = (cell == asked) && is_hidden flags cell
reached relations flags asked (suc steps) cell = joined relations flags (reached relations flags asked steps) cell

-- a group of hidden cells that are linked with the asked one
record IsLinkedGroup (relations : List Relation) (flags : List Bool) (asked : ℕ) (group : Group) : Type 0 where
  hidden : (cell : ℕ) → group cell ≡ true → is_hidden flags cell ≡ true
  linked : (cell : ℕ) → group cell ≡ true → AreLinked relations flags asked cell

one_joins : (relations : List Relation) (flags : List Bool) (asked : ℕ) (group : Group) (cell : ℕ) → IsLinkedGroup relations flags asked group → is_hidden flags cell ≡ true → list_any (λ r. mentions r cell && is_met group r) relations ≡ true → AreLinked relations flags asked cell
one_joins relations flags asked group cell are hides any =
    let found : (k : ℕ) × (r : Relation) × (slice_get relations k ≡ Some r) × ((mentions r cell && is_met group r) ≡ true) = any_place (λ r. mentions r cell && is_met group r) relations any in
    let r : Relation = found.1 in
    let tests : (mentions r cell ≡ true) × (is_met group r ≡ true) = both (mentions r cell) (is_met group r) found.3 in
    let one : (x : ℕ) × (group x ≡ true) × (list_any (λ y. y == x) (r.total ∷ r.parts) ≡ true) = any_found group (r.total ∷ r.parts) tests.1 in
    let related : AreRelated relations flags one.0 cell = record { one_hidden = are.hidden one.0 one.1; other_hidden = hides; number = found.0; relation = r; at = found.2; names_one = one.2; names_other = tests.0 } in
    linked-then relations flags asked one.0 cell (are.linked one.0 one.1) (linked-related relations flags one.0 cell related)

joined_linked : (relations : List Relation) (flags : List Bool) (asked : ℕ) (group : Group) → IsLinkedGroup relations flags asked group → IsLinkedGroup relations flags asked (joined relations flags group)
unfolding joined
joined_linked relations flags asked group are = record {
  hidden = λ cell is.
      elim (either (group cell) (is_hidden flags cell && list_any (λ r. mentions r cell && is_met group r) relations) is) as (λ _. is_hidden flags cell ≡ true) [
        | inl own ↦ are.hidden cell own
        | inr joins ↦ (both (is_hidden flags cell) (list_any (λ r. mentions r cell && is_met group r) relations) joins).0
      ];
  linked = λ cell is.
      elim (either (group cell) (is_hidden flags cell && list_any (λ r. mentions r cell && is_met group r) relations) is) as (λ _. AreLinked relations flags asked cell) [
        | inl own ↦ are.linked cell own
        | inr joins ↦
            let tests = both (is_hidden flags cell) (list_any (λ r. mentions r cell && is_met group r) relations) joins in
            one_joins relations flags asked group cell are tests.0 tests.1
      ];
}

reached_linked : (relations : List Relation) (flags : List Bool) (asked steps : ℕ) → IsLinkedGroup relations flags asked (reached relations flags asked steps)
unfolding reached
reached_linked relations flags asked zero = record {
  hidden = λ cell is. (both (cell == asked) (is_hidden flags cell) is).1;
  linked = λ cell is. linked-same relations flags asked cell (sym ((Decides-eqb cell asked).0 (both (cell == asked) (is_hidden flags cell) is).0));
}
reached_linked relations flags asked (suc steps) = joined_linked relations flags asked (reached relations flags asked steps) (reached_linked relations flags asked steps)

reached_more : (relations : List Relation) (flags : List Bool) (asked steps cell : ℕ) → reached relations flags asked steps cell ≡ true → reached relations flags asked (suc steps) cell ≡ true
unfolding reached joined
reached_more relations flags asked steps cell is = or_first (reached relations flags asked steps cell) (is_hidden flags cell && list_any (λ r. mentions r cell && is_met (reached relations flags asked steps) r) relations) is

reached_asked : (relations : List Relation) (flags : List Bool) (asked steps : ℕ) → is_hidden flags asked ≡ true → reached relations flags asked steps asked ≡ true
unfolding reached
reached_asked relations flags asked zero hides = and_true (asked == asked) (is_hidden flags asked) ((Decides-eqb asked asked).1 refl) hides
reached_asked relations flags asked (suc steps) hides = reached_more relations flags asked steps asked (reached_asked relations flags asked steps hides)

reached_next : (relations : List Relation) (flags : List Bool) (asked steps one other : ℕ) → reached relations flags asked steps one ≡ true → AreRelated relations flags one other → reached relations flags asked (suc steps) other ≡ true
unfolding reached joined
reached_next relations flags asked steps one other is related =
    let group : Group = reached relations flags asked steps in
    let r : Relation = related.relation in
    let met : is_met group r ≡ true = met_by_one group (r.total ∷ r.parts) one related.names_one is in
    or_second (group other) (is_hidden flags other && list_any (λ r. mentions r other && is_met group r) relations)
    (and_true (is_hidden flags other) (list_any (λ r. mentions r other && is_met group r) relations) related.other_hidden
    (place_any (λ r. mentions r other && is_met group r) relations related.number r related.at (and_true (mentions r other) (is_met group r) related.names_other met)))

-- ---- no more are reached at last

tail_of : Group → ℕ → List ℕ
tail_of group n = if group n then n ∷ [] else []

rank_next : (group : Group) (n : ℕ) → rank group (suc n) ≡ rank group n + length (tail_of group n)
unfolding tail_of
rank_next group n = ap length (members-more group n) ∙ length-append (members group n) (tail_of group n)

tail_within : (one more : Group) (n : ℕ) → (one n ≡ true → more n ≡ true) → length (tail_of one n) ≤ length (tail_of more n)
unfolding tail_of
tail_within one more n each =
    elim (one n) as (λ b. one n ≡ b → length (if b then n ∷ [] else []) ≤ length (if more n then n ∷ [] else [])) [
      | true ↦ λ is. let own : length (if more n then n ∷ [] else []) ≡ 1 = ap (λ b. length (if b then n ∷ [] else [])) (each is) in omega (arith, own)
      | false ↦ λ is. omega arith
    ] refl

tail_less : (one more : Group) (n : ℕ) → one n ≡ false → more n ≡ true → length (tail_of one n) < length (tail_of more n)
unfolding tail_of
tail_less one more n out is =
    let none : length (if one n then n ∷ [] else []) ≡ 0 = ap (λ b. length (if b then n ∷ [] else [])) out in
    let own : length (if more n then n ∷ [] else []) ≡ 1 = ap (λ b. length (if b then n ∷ [] else [])) is in
    omega (arith, none, own)

rank_most_of : (one more : Group) (n : ℕ) → ((c : ℕ) → one c ≡ true → more c ≡ true) → rank one n ≤ rank more n
rank_most_of one more zero each = omega arith
rank_most_of one more (suc n) each = omega (arith, rank_next one n, rank_next more n, rank_most_of one more n each, tail_within one more n (each n))

same_more : (one more : Group) (n : ℕ) → ((c : ℕ) → c < n → more c ≡ true → one c ≡ true) → (more n ≡ true → one n ≡ true) → (c : ℕ) → c < suc n → more c ≡ true → one c ≡ true
same_more one more n before here c below is =
    elim (c == n) as (λ b. (c == n) ≡ b → one c ≡ true) [
      | true ↦ λ test. let same : c ≡ n = (Decides-eqb c n).0 test in ap one same ∙ here (sym (ap more same) ∙ is)
      | false ↦ λ test. before c (let apart : c ≡ n → ⊥ = λ same. absurd (let yes_test : true ≡ false = sym ((Decides-eqb c n).1 same) ∙ test in cc) in grind (arith, apart, below)) is
    ] refl

-- the same group below n, or a larger one
same_or_more : (one more : Group) (n : ℕ) → ((c : ℕ) → one c ≡ true → more c ≡ true) → ((c : ℕ) → c < n → more c ≡ true → one c ≡ true) ⊎ (rank one n < rank more n)
same_or_more one more zero each = inl (λ c below. absurd (omega arith))
same_or_more one more (suc n) each =
    elim (same_or_more one more n each) as (λ _. ((c : ℕ) → c < suc n → more c ≡ true → one c ≡ true) ⊎ (rank one (suc n) < rank more (suc n))) [
      | inr less ↦ inr (omega (arith, rank_next one n, rank_next more n, tail_within one more n (each n)))
      | inl before ↦
          elim (one n) as (λ b. one n ≡ b → ((c : ℕ) → c < suc n → more c ≡ true → one c ≡ true) ⊎ (rank one (suc n) < rank more (suc n))) [
            | true ↦ λ is. inl (same_more one more n before (λ _. is))
            | false ↦ λ out.
                elim (more n) as (λ b. more n ≡ b → ((c : ℕ) → c < suc n → more c ≡ true → one c ≡ true) ⊎ (rank one (suc n) < rank more (suc n))) [
                  | true ↦ λ is. inr (omega (arith, rank_next one n, rank_next more n, rank_most_of one more n each, tail_less one more n out is))
                  | false ↦ λ none. inl (same_more one more n before (λ is. absurd (let clash : true ≡ false = sym is ∙ none in cc)))
                ] refl
          ] refl
    ]

-- no more are reached after so many steps
IsWholeAfter : List Relation → List Bool → ℕ → ℕ → Type 0
IsWholeAfter relations flags asked steps = (c : ℕ) → reached relations flags asked (suc steps) c ≡ true → reached relations flags asked steps c ≡ true

whole_from : (relations : List Relation) (flags : List Bool) (asked fuel steps : ℕ) → length flags < rank (reached relations flags asked steps) (length flags) + fuel → (last : ℕ) × IsWholeAfter relations flags asked last
unfolding IsWholeAfter
whole_from relations flags asked zero steps enough = absurd (omega (arith, rank-most (reached relations flags asked steps) (length flags)))
whole_from relations flags asked (suc fuel) steps enough =
    let n : ℕ = length flags in
    let one : Group = reached relations flags asked steps in
    let more : Group = reached relations flags asked (suc steps) in
    elim (same_or_more one more n (reached_more relations flags asked steps)) as (λ _. (last : ℕ) × IsWholeAfter relations flags asked last) [
      | inl same ↦ (steps, λ c is. same c (hidden-inside flags c ((reached_linked relations flags asked (suc steps)).hidden c is)) is)
      | inr less ↦ whole_from relations flags asked fuel (suc steps) (omega (arith, less, enough))
    ]

chain_inside : (relations : List Relation) (flags : List Bool) (asked last steps one other : ℕ) → IsWholeAfter relations flags asked last → reached relations flags asked last one ≡ true → IsChain relations flags steps one other → reached relations flags asked last other ≡ true
unfolding IsWholeAfter
chain_inside relations flags asked last zero one other whole is chain = sym (ap (reached relations flags asked last) chain) ∙ is
chain_inside relations flags asked last (suc steps) one other whole is chain =
    chain_inside relations flags asked last steps chain.0 other whole (whole chain.0 (reached_next relations flags asked last one chain.0 is chain.1)) chain.2

pub component_exists : ComponentExists
component_exists relations flags asked hides =
    let end : (last : ℕ) × IsWholeAfter relations flags asked last = whole_from relations flags asked (length flags + 1) 0 (omega arith) in
    let group : Group = reached relations flags asked end.0 in
    let are : IsLinkedGroup relations flags asked group = reached_linked relations flags asked end.0 in (
      group,
      λ cell. (
        (λ is. (are.hidden cell is, are.linked cell is)),
        (λ is. chain_inside relations flags asked end.0 is.1.0 asked cell end.1 (reached_asked relations flags asked end.0 hides) is.1.1),
      ),
    )
