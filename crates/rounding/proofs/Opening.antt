-- A list that a rounding extends is open, and a whole open list is a rounding.
use Rattle.std.proofs.Common.{◌≡◌, ℕ, true, false, ◌&&◌, List, [], ◌∷◌, ◌++◌, length, All, ℤ, pos, ◌≤ℤ◌, int_le, arith, refl, sym, subst, ◌∙◌}
use Rattle.std.specs.List.{list_all}
use Rattle.std.proofs.lemmas.Int.{ints}
use Rattle.std.proofs.lemmas.List.Sums.{AllPass-from_list_all, list_all-from_AllPass}
use Rattle.std.proofs.lemmas.List.Elements.{All-nil, All-head, All-tail, All-cons, All-weaker}
use Rattle.sdc_base.specs.declared.relation.Relation.{Relation}
use Rattle.sdc_base.specs.declared.system.System.{System}
use Rattle.sdc_base.specs.Systems.{Numbers, form, NamesCells, HoldOn, number_at}
use Rattle.sdc_base.specs.Roundings.{IsRounding}
use Rattle.rounding.specs.Choices.{Choices, by_choices}
use Rattle.rounding.specs.Extremes.{extreme_of_form, spans_none, is_open}
use Rattle.rounding.specs.Searches.{lists_of, unrounded_count, IsRoundingList}
use Rattle.rounding.specs.Tasks.{IsProper}
use Rattle.rounding.proofs.FormLemmas.{Between, least_is, greatest_is, extreme_same}
use Rattle.rounding.proofs.Choosing.{length-by_choices, whole_leaves_one}
use Rattle.rounding.proofs.Betweenness.{longer_lies}
use Rattle.rounding.proofs.Completeness.{by_choices_adjacent, adjacent_are_made}
use Rattle.rounding.proofs.SearchLemmas.{each_reached}

pub spans : (a b : ℤ) → a ≤ℤ pos 0 → pos 0 ≤ℤ b → (int_le a (pos 0) && int_le (pos 0) b) ≡ true
spans a b low high = let first : int_le a (pos 0) ≡ true = grind (arith, ints) in let second : int_le (pos 0) b ≡ true = grind (arith, ints) in rw (first, second) refl

span_is_none : (a : ℤ) → (int_le a (pos 0) && int_le (pos 0) a) ≡ true → a ≡ pos 0
span_is_none a is =
    elim (int_le a (pos 0)) as (λ b. int_le a (pos 0) ≡ b → (b && int_le (pos 0) a) ≡ true → a ≡ pos 0) [
      | true ↦ λ low high. let below : a ≤ℤ pos 0 = grind (arith, ints, low) in let above : pos 0 ≤ℤ a = grind (arith, ints, high) in omega (arith, ints)
      | false ↦ λ _ clash. absurd cc
    ] refl is

pub each_spans : (n : ℕ) (lower upper numbers : Numbers) (relations : List Relation) → Between lower upper numbers → All (NamesCells n) relations → HoldOn numbers relations → All (λ r. spans_none lower upper r ≡ true) relations
each_spans n lower upper numbers [] between named hold = All-nil (λ r. spans_none lower upper r ≡ true)
each_spans n lower upper numbers (r ∷ relations) between named hold =
    let here : NamesCells n r = All-head (NamesCells n) r relations named in
    let holds : form numbers r ≡ pos 0 = All-head (λ r. form numbers r ≡ pos 0) r relations hold in
    let low = least_is n r lower upper numbers here between in
    let high = greatest_is n r lower upper numbers here between in
    All-cons (λ r. spans_none lower upper r ≡ true) r relations
    (spans (extreme_of_form lower upper r) (extreme_of_form upper lower r) (omega (arith, ints, low, holds)) (omega (arith, ints, high, holds)))
    (each_spans n lower upper numbers relations between (All-tail (NamesCells n) r relations named) (All-tail (λ r. form numbers r ≡ pos 0) r relations hold))

-- a list that choices with relations that hold extend is open
pub extended_is_open : (system : System) (truths : List ℤ) (base : ℤ) (list rest : Choices) → pos 1 ≤ℤ base → HoldOn (number_at (by_choices false base truths (list ++ rest))) system.relations → is_open system truths base list ≡ true
extended_is_open system truths base list rest positive hold =
    let lower : Numbers = number_at (by_choices false base truths list) in
    let upper : Numbers = number_at (by_choices true base truths list) in
    list_all-from_AllPass (spans_none lower upper) system.relations
    (each_spans system.cells lower upper (number_at (by_choices false base truths (list ++ rest))) system.relations (λ c. longer_lies false base truths list rest positive c) system.named hold)

-- the choices of a whole open list are a rounding
pub open_whole_rounds : (system : System) (truths : List ℤ) (base : ℤ) (list : Choices) → IsProper system truths base → length list ≡ unrounded_count truths base → is_open system truths base list ≡ true → IsRoundingList system truths base list
open_whole_rounds system truths base list proper whole is =
    let values : List ℤ = by_choices false base truths list in
    let one : by_choices true base truths list ≡ values = whole_leaves_one base 0 truths list (omega (arith, whole)) in
    let at_values : list_all (spans_none (number_at values) (number_at values)) system.relations ≡ true = subst (λ (upper : List ℤ). list_all (spans_none (number_at values) (number_at upper)) system.relations ≡ true) one is in
    let each : All (λ r. spans_none (number_at values) (number_at values) r ≡ true) system.relations = AllPass-from_list_all (spans_none (number_at values) (number_at values)) system.relations at_values in
    record {
      one_for_each = whole;
      rounding = record {
        each = length-by_choices false base truths list ∙ proper.each;
        adjacent = λ cell below. by_choices_adjacent false base truths list proper.from_one proper.within cell (omega (arith, proper.each));
        hold = All-weaker (λ r. spans_none (number_at values) (number_at values) r ≡ true) (λ r. form (number_at values) r ≡ pos 0) (λ r spans. sym (extreme_same r (number_at values)) ∙ span_is_none (extreme_of_form (number_at values) (number_at values) r) spans) system.relations each;
      };
    }

-- where no list of the search is a rounding, there is none
pub none_left : (system : System) (truths : List ℤ) (base : ℤ) → IsProper system truths base → All (λ list. IsRoundingList system truths base list → ⊥) (lists_of system truths base) → (values : List ℤ) → IsRounding system truths base values → ⊥
none_left system truths base proper none values rounding =
    let found = adjacent_are_made base 0 truths values proper.from_one proper.within (rounding.each ∙ sym proper.each) (λ k below. rounding.adjacent k (omega (arith, proper.each))) in
    let list : Choices = found.0 in
    let made : by_choices false base truths list ≡ values = found.1.made in
    let P : Choices → Type 0 = λ list. IsRoundingList system truths base list → ⊥ in
    let hold : HoldOn (number_at (by_choices false base truths list)) system.relations = subst (λ (numbers : List ℤ). HoldOn (number_at numbers) system.relations) (sym made) rounding.hold in
    each_reached P (is_open system truths base) (unrounded_count truths base) [] list found.1.whole
    (λ first last is. extended_is_open system truths base first last proper.from_one (subst (λ (whole : Choices). HoldOn (number_at (by_choices false base truths whole)) system.relations) is hold))
    none (record { one_for_each = found.1.whole; rounding = subst (λ (numbers : List ℤ). IsRounding system truths base numbers) (sym made) rounding })
