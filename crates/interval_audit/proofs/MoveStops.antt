-- A question where fewer cells are hidden has the multipliers of a pair of moves and multipliers.
use Rattle.std.proofs.Common.{◌≡◌, ℕ, ◌+◌, ◌<◌, ◌≤◌, ◌==◌, Bool, true, false, List, [], ◌∷◌, ◌++◌, length, map, zip, filter, All, ℤ, pos, neg_ℤ, ◌+ℤ◌, ◌-ℤ◌, ◌*ℤ◌, ◌<ℤ◌, ◌≤ℤ◌, arith, refl, ap, sym, ◌∙◌, subst, if◌then◌else◌}
use Rattle.std.specs.List.{flat_map}
use Rattle.std.specs.Ordering.{int_eq}
use Rattle.std.proofs.lemmas.Int.{ints}
use Rattle.std.proofs.lemmas.Bool.Decides.{Decides-eqb}
use Rattle.std.proofs.lemmas.List.{length-map}
use Rattle.std.proofs.lemmas.List.Elements.{All-head, All-tail}
use Rattle.sdc_base.specs.declared.cell.Cell.{Cell}
use Rattle.sdc_base.specs.declared.system.System.{System}
use Rattle.sdc_base.specs.Forms.{Term, coefficient}
use Rattle.sdc_base.specs.Systems.{Numbers, number_at}
use Rattle.sdc_base.specs.Totals.{sum_of}
use Rattle.sdc_base.proofs.TotalLemmas.{sum_of-cons, sum_of-map, sum_below-same, only}
use Rattle.tableau.specs.OptimalPairs.{IsReadIn, pair_value}
use Rattle.tableau.specs.ProblemForm.{IsWellFormed}
use Rattle.tableau.specs.Readings.{slacks_of}
use Rattle.tableau.specs.Tables.{Table}
use Rattle.tableau.specs.Walks.{IsTableOf}
use Rattle.tableau.specs.declared.problem.Problem.{Problem}
use Rattle.tableau.specs.Problems as problems
use Rattle.tableau.proofs.PartPairs.{pair_in_ends}
use Rattle.tableau.proofs.WellFormedProblems.{well_formed_problem, well_formed_bounds, well_formed_keeps, length-slacks}
use Rattle.worlds.specs.declared.multipliers.Multipliers.{Multipliers}
use Rattle.interval_audit.specs.declared.question.Question.{Question}
use Rattle.interval_audit.specs.Groups.{Group, IsComponentOf, IsGroup, members, most_members}
use Rattle.interval_audit.specs.Labels.{Label, CapAbove, CapBelow, Form, Negated, caps_for, forms_for, labels, met_relations, multiplier, terms_of_label}
use Rattle.interval_audit.specs.LowestTerms.{times_each}
use Rattle.interval_audit.specs.MovePairs.{MovePairStops, labels_of, pressure}
use Rattle.interval_audit.specs.Problems.{problem_of}
use Rattle.interval_audit.specs.Readings.{AreMultipliersOf, HasLowestTerms, nonzero_terms}
use Rattle.interval_audit.proofs.FewerQuestions.{component_is_group, problem_long, rank_within, slack_read, stops_with, unmet_multiplier, within_component}
use Rattle.interval_audit.proofs.MovePairs.{lists_of, objective_at, pair_in}
use Rattle.interval_audit.proofs.MoveSums.{coefficient_flat, labels_sum, one_at, sum_none, two_sides, weighed}
use Rattle.interval_audit.proofs.MoveWeights.{weight_at, weight_of}
use Rattle.interval_audit.proofs.Points.{meets}
use Rattle.interval_audit.proofs.Proper.{problem_is}
use Rattle.interval_audit.proofs.Ranks.{All-members, sum_members}
use Rattle.interval_audit.proofs.Reaching.{component_exists}
use Rattle.interval_audit.proofs.Selecting.{passes_at, place_of}
use Rattle.interval_audit.proofs.SmallerMultipliers.{label_sum, label_sum-same, lowest_moves, multiplier_sum, nonzero_scaled}
use Rattle.interval_audit.proofs.SmallerProblems.{AreGroups, keeps, labels_kept, meets_more, question_part, selection}
use Rattle.interval_audit.proofs.Spread.{sum_two}
use Rattle.interval_audit.proofs.Weights.{Weighed, is_bounded}

-- ---- the weights make the multipliers

zip_same : (w : Label → ℤ) (xs : List Label) → zip (map w xs) xs ≡ weighed w xs
zip_same w [] = refl
zip_same w (x ∷ xs) = ap (λ (ys : List Weighed). (w x, x) ∷ ys) (zip_same w xs)

met_multiplier : (system : System) (cells : List Cell) (flags : List Bool) (group : Group) (question : Question) (q : ℤ) (l : Numbers) (r : ℕ) → r < length system.relations → meets group system.relations r ≡ true →
    multiplier (map (λ label. weight_of (pressure system flags group question q l label)) (labels_of system cells group)) (labels_of system cells group) r ≡ l r
met_multiplier system cells flags group question q l r below met =
    let all : List Label = labels_of system cells group in
    let w : Label → ℤ = λ label. weight_of (pressure system flags group question q l label) in
    let n : ℕ = length system.relations in
    let f : Label → ℤ = λ label. coefficient (terms_of_label (w label) label) r in
    let caps : (d : ℕ) → sum_of f (caps_for cells d) ≡ pos 0 = λ d.
    elim (is_bounded cells d) as (λ b. sum_of f (if b then CapAbove d ∷ CapBelow d ∷ [] else CapBelow d ∷ []) ≡ pos 0) [
      | true ↦ sum_two f (CapAbove d) (CapBelow d) ∙ omega (arith, ints)
      | false ↦ sum_of-cons f (CapBelow d) [] ∙ omega (arith, ints)
    ] in
    let forms : (k : ℕ) → sum_of f (forms_for k) ≡ (if r == k then l k else pos 0) = λ k.
    let plus : ℤ = weight_of (l k) in
    let minus : ℤ = weight_of (neg_ℤ (l k)) in
    let sides : plus -ℤ minus ≡ l k = two_sides (l k) in
    sum_two f (Form k) (Negated k)
    ∙ ap (λ z. z +ℤ coefficient ((k, plus) ∷ []) r) (one_at r k (neg_ℤ minus))
    ∙ ap (λ z. (if r == k then neg_ℤ minus else pos 0) +ℤ z) (one_at r k plus)
    ∙ elim (r == k) as (λ b. (if b then neg_ℤ minus else pos 0) +ℤ (if b then plus else pos 0) ≡ (if b then l k else pos 0)) [
      | true ↦ omega (arith, ints, sides)
      | false ↦ omega (arith, ints)
    ] in
    let chosen : (k : ℕ) → (if meets group system.relations k then sum_of f (forms_for k) else pos 0) ≡ (if r == k then l k else pos 0) = λ k.
    elim (meets group system.relations k) as (λ b. meets group system.relations k ≡ b → (if b then sum_of f (forms_for k) else pos 0) ≡ (if r == k then l k else pos 0)) [
      | true ↦ λ _. forms k
      | false ↦ λ out.
          elim (r == k) as (λ b. (r == k) ≡ b → pos 0 ≡ (if b then l k else pos 0)) [
            | true ↦ λ same. absurd (let eq : r ≡ k = (Decides-eqb r k).0 same in let no : true ≡ false = sym met ∙ ap (meets group system.relations) eq ∙ out in cc)
            | false ↦ λ _. refl
          ] refl
    ] refl in
    let relations_are : sum_of (λ k. sum_of f (forms_for k)) (met_relations group system.relations) ≡ l r =
    sum_members (meets group system.relations) (λ k. sum_of f (forms_for k)) n
    ∙ sum_below-same n (λ k. if meets group system.relations k then sum_of f (forms_for k) else pos 0) (λ k. if r == k then l k else pos 0) (λ k _. chosen k)
    ∙ only n r l below in
    ap (λ (rows : List Weighed). coefficient (flat_map (λ (w : Weighed). terms_of_label w.0 w.1) rows) r) (zip_same w all)
    ∙ coefficient_flat (λ w. terms_of_label w.0 w.1) (weighed w all) r
    ∙ sum_of-map (λ (w : Weighed). coefficient (terms_of_label w.0 w.1) r) (λ (label : Label). (w label, label)) all
    ∙ labels_sum system cells group f
    ∙ omega (arith, ints, sum_none (λ d. sum_of f (caps_for cells d)) (members group system.cells) caps, relations_are)

nonzero_same : (f g : Numbers) (list : List ℕ) → All (λ k. f k ≡ g k) list → nonzero_terms f list ≡ nonzero_terms g list
nonzero_same f g [] all = refl
nonzero_same f g (k ∷ list) all =
    ap (λ (z : ℤ). (if int_eq z (pos 0) then [] else (k, z) ∷ []) ++ nonzero_terms f list) (All-head (λ k. f k ≡ g k) k list all)
    ∙ ap (λ (ts : List Term). (if int_eq (g k) (pos 0) then [] else (k, g k) ∷ []) ++ ts) (nonzero_same f g list (All-tail (λ k. f k ≡ g k) k list all))

-- ---- those of the smaller problem's table

multipliers_are : (system : System) (cells : List Cell) (flags : List Bool) (group smaller : Group) (question : Question) (d q : ℤ) (moves : ℕ → ℕ → ℤ) (l : Numbers) (last : Table) (r : ℕ) → AreGroups system flags group smaller question.cell →
    IsReadIn (selection system cells flags group smaller) (problem_of system cells smaller question) (problem_of system cells group question) d q (lists_of system cells group question d moves) (weight_at system cells flags group question q l) last →
    multiplier (map (λ label. weight_of (pressure system flags group question q l label)) (labels_of system cells group)) (labels_of system cells group) r *ℤ last.den
    ≡ multiplier (slacks_of (problem_of system cells smaller question) last) (labels system.relations cells smaller system.cells) r *ℤ q
multipliers_are system cells flags group smaller question d q moves l last r are one =
    let whole : Problem = problem_of system cells group question in
    let part : Problem = problem_of system cells smaller question in
    let t : Label → Bool = keeps smaller system.relations in
    let all : List Label = labels_of system cells group in
    let few : List Label = labels system.relations cells smaller system.cells in
    let kept : filter t all ≡ few = labels_kept system cells group smaller are.within in
    let weights : List ℤ = map (λ label. weight_of (pressure system flags group question q l label)) all in
    let f : Numbers = number_at weights in
    let g : Numbers = number_at (slacks_of part last) in
    let whole_long : length (problems.rows_of whole) ≡ length all + 1 = problem_long system cells group question in
    let part_long : length (problems.rows_of part) ≡ length few + 1 = problem_long system cells smaller question in
    let kept_long : length (filter t all) ≡ length few = ap length kept in
    let each : (k : ℕ) → k < length (filter t all) → f (place_of t all k) *ℤ last.den ≡ g k *ℤ q = λ k below.
    let here : k < length (problems.rows_of part) = omega arith in
    one.numbers k here ∙ sym (ap (λ z. z *ℤ q) (slack_read part last k here)) in
    let none : (k : ℕ) → k < length all → passes_at t all k ≡ false → f k ≡ pos 0 = λ k below out.
    let here : k < length (problems.rows_of whole) = omega arith in
    one.others k here out in
    let long : length all ≤ length weights = omega (arith, length-map all (λ label. weight_of (pressure system flags group question q l label))) in
    ap (λ z. z *ℤ last.den) (multiplier_sum weights all r long)
    ∙ label_sum-same t all f g last.den q r each none
    ∙ ap (λ (ls : List Label). label_sum g ls r *ℤ q) kept
    ∙ sym (ap (λ z. z *ℤ q) (multiplier_sum (slacks_of part last) few r (omega (arith, length-slacks part last))))

multipliers_move : (system : System) (cells : List Cell) (flags : List Bool) (group smaller : Group) (question : Question) (d q : ℤ) (moves : ℕ → ℕ → ℤ) (l : Numbers) (last : Table) (m : Multipliers) → AreGroups system flags group smaller question.cell → pos 1 ≤ℤ q → pos 1 ≤ℤ last.den →
    IsReadIn (selection system cells flags group smaller) (problem_of system cells smaller question) (problem_of system cells group question) d q (lists_of system cells group question d moves) (weight_at system cells flags group question q l) last →
    HasLowestTerms m q l (met_relations group system.relations) → AreMultipliersOf system cells smaller last.den (slacks_of (problem_of system cells smaller question) last) m
multipliers_move system cells flags group smaller question d q moves l last m are up also one read =
    let w : Label → ℤ = λ label. weight_of (pressure system flags group question q l label) in
    let whole : Numbers = multiplier (map w (labels_of system cells group)) (labels_of system cells group) in
    let part : Numbers = multiplier (slacks_of (problem_of system cells smaller question) last) (labels system.relations cells smaller system.cells) in
    let met : List ℕ = met_relations group system.relations in
    let own : nonzero_terms whole met ≡ nonzero_terms l met = nonzero_same whole l met (All-members (meets group system.relations) (λ k. whole k ≡ l k) (length system.relations) (λ k below is. met_multiplier system cells flags group question q l k below is)) in
    let same : times_each last.den (nonzero_terms whole met) ≡ times_each q (nonzero_terms part (met_relations smaller system.relations)) =
    nonzero_scaled (meets group system.relations) (meets smaller system.relations) whole part last.den q (length system.relations) also up (λ k. meets_more group smaller system.relations k are.within) (λ k. multipliers_are system cells flags group smaller question d q moves l last k are one) (λ k out. unmet_multiplier system cells smaller question last k out) in
    lowest_moves q last.den (nonzero_terms l met) (nonzero_terms part (met_relations smaller system.relations)) m.den m.by_relation up also (sym (ap (times_each last.den) own) ∙ same) read

-- ---- the answer

pub move_pair_stops : MovePairStops
move_pair_stops system cells larger flags question group d q moves l m ground hidden more whole_own few pair read =
    let component : (smaller : Group) × IsComponentOf system.relations flags question.cell smaller = component_exists system.relations flags question.cell hidden in
    let smaller : Group = component.0 in
    let own : IsComponentOf system.relations flags question.cell smaller = component.1 in
    let whole : Problem = problem_of system cells group question in
    let part : Problem = problem_of system cells smaller question in
    let within : (c : ℕ) → smaller c ≡ true → group c ≡ true = within_component system.relations flags larger question.cell group smaller more whole_own own in
    let is_group : IsGroup system flags smaller question.cell = component_is_group system flags question.cell smaller ground.each_flag hidden own in
    let are : AreGroups system flags group smaller question.cell = record { is_group = is_group; within = within } in
    let part_few : length (members smaller system.cells) ≤ most_members = omega (arith, few, rank_within group smaller system.cells within) in
    let whole_formed : IsWellFormed whole = problem_is system cells group question few in
    let part_formed : IsWellFormed part = problem_is system cells smaller question part_few in
    let named : problems.NamesColumns whole = well_formed_problem whole whole_formed in
    let below : pair_value whole (lists_of system cells group question d moves) <ℤ (d *ℤ whole.target) =
    subst (λ z. z <ℤ (d *ℤ question.target)) (sym (objective_at system cells flags group question d q moves l named pair is_group.asked_known)) pair.below in
    let end = pair_in_ends (selection system cells flags group smaller) part whole d q (lists_of system cells group question d moves) (weight_at system cells flags group question q l) (well_formed_problem part part_formed) named (well_formed_bounds whole whole_formed)
    (question_part system cells flags group smaller question are) (pair_in system cells flags group smaller question d q moves l are named pair) below in
    let last_kept : IsTableOf part end.1 = well_formed_keeps part end.0 end.1 part_formed end.2 in
    stops_with system cells flags question smaller end.0 end.1 m ground is_group own part_few end.2 end.3 (multipliers_move system cells flags group smaller question d q moves l end.1 m are pair.q_above last_kept.above_zero end.4 read)
