-- A question where fewer cells are hidden has the multipliers that a table for more gives.
use Rattle.std.proofs.Common.{◌≡◌, ℕ, zero, suc, ◌+◌, ◌<◌, ◌≤◌, ◌==◌, Bool, true, false, List, [], ◌∷◌, length, ℤ, pos, negsuc, ◌≤ℤ◌, arith, refl, ap, sym, ◌∙◌, subst, length-append, if◌then◌else◌}
use Rattle.std.specs.List.{flat_map}
use Rattle.std.proofs.lemmas.Bool.Decides.{Decides-eqb}
use Rattle.std.proofs.lemmas.List.{length-map}
use Rattle.std.proofs.lemmas.List.FromFn.{get_or-map-range_with_len}
use Rattle.std.proofs.lemmas.List.Elements.{All-weaker}
use Rattle.sdc_base.specs.declared.cell.Cell.{Cell}
use Rattle.sdc_base.specs.declared.fraction.Fraction.{Fraction}
use Rattle.sdc_base.specs.declared.relation.Relation.{Relation}
use Rattle.sdc_base.specs.declared.system.System.{System}
use Rattle.sdc_base.specs.Components.{AreLinked, AreRelated, IsChain}
use Rattle.sdc_base.specs.Forms.{Term, coefficient}
use Rattle.sdc_base.specs.Patterns.{IsPattern}
use Rattle.sdc_base.specs.HiddenSets.{is_hidden}
use Rattle.sdc_base.specs.Systems.{Numbers, number_at}
use Rattle.sdc_base.proofs.Chains.{linked-same, linked-related, linked-then, linked-turned}
use Rattle.sdc_base.proofs.Connecting.{hidden-inside}
use Rattle.tableau.specs.declared.problem.Problem.{Problem}
use Rattle.tableau.specs.ProblemForm.{IsWellFormed}
use Rattle.tableau.specs.Problems.{NamesColumns, number_for}
use Rattle.tableau.specs.Problems as problems
use Rattle.tableau.specs.Readings.{values_of, slacks_of}
use Rattle.tableau.specs.Steps.{IsBlocked}
use Rattle.tableau.specs.Tableaus.{TableauWalk}
use Rattle.tableau.specs.Tables.{Table}
use Rattle.tableau.specs.Walks.{IsTableOf, IsWalk}
use Rattle.tableau.proofs.OneObjective.{duals_of}
use Rattle.tableau.proofs.Solved.{none_below, target_is_free, values_are_allowed}
use Rattle.tableau.proofs.WellFormedProblems.{well_formed_problem, well_formed_keeps, length-slacks}
use Rattle.worlds.specs.declared.multipliers.Multipliers.{Multipliers}
use Rattle.worlds.specs.declared.world.World.{World}
use Rattle.interval_audit.specs.declared.question.Question.{Question}
use Rattle.interval_audit.specs.declared.answer.Answer.TheVariants.{Stops}
use Rattle.interval_audit.specs.Answers.{IsWalkAnswer, asked_move_in}
use Rattle.interval_audit.specs.Columns.{moves_of, rank}
use Rattle.interval_audit.specs.FewerHidden.{StopsWith, ComponentIsShared}
use Rattle.interval_audit.specs.Groups.{Group, IsComponentOf, IsGroup, members, most_members}
use Rattle.interval_audit.specs.Labels.{Label, CapAbove, CapBelow, Form, Negated, labels, met_relations, multiplier, relation_terms, terms_of_label}
use Rattle.interval_audit.specs.LowestTerms.{AreLowestTermsOf}
use Rattle.interval_audit.specs.Problems.{problem_of, row_of, rows_of}
use Rattle.interval_audit.specs.Readings.{AreMultipliersOf, IsWorldOf, nonzero_terms}
use Rattle.interval_audit.specs.WalkStates.{state_of, IsAtOptimum}
use Rattle.interval_audit.proofs.Points.{meets}
use Rattle.interval_audit.proofs.Proper.{problem_is, rows_long}
use Rattle.interval_audit.proofs.QuestionAnswers.{does_stop, has_slacks, HasSlacks, zip_longer}
use Rattle.interval_audit.proofs.Ranks.{members-more}
use Rattle.interval_audit.proofs.ReadStates.{blocked_is}
use Rattle.interval_audit.proofs.SmallerMultipliers.{sign_of, multiplier_sum, label_sum-none, some_lowest, moves_for, terms_back}
use Rattle.interval_audit.proofs.WalkAnswers.{walked_answer}
use Rattle.interval_audit.proofs.Weights.{IsLabel, labels_are}

-- ---- components where fewer cells are hidden

pub component_is_group : (system : System) (flags : List Bool) (asked : ℕ) (group : Group) → length flags ≡ system.cells → is_hidden flags asked ≡ true → IsComponentOf system.relations flags asked group → IsGroup system flags group asked
component_is_group system flags asked group each hidden own = record {
  asked_known = omega (arith, hidden-inside flags asked hidden, each);
  asked_inside = (own asked).1 (hidden, linked-same system.relations flags asked asked refl);
  hidden = λ c is. ((own c).0 is).0;
  closed = λ k r one other found names_one names_other is hides.
      let related : AreRelated system.relations flags one other = record { one_hidden = ((own one).0 is).0; other_hidden = hides; number = k; relation = r; at = found; names_one = names_one; names_other = names_other } in
      (own other).1 (hides, linked-then system.relations flags asked one other ((own one).0 is).1 (linked-related system.relations flags one other related));
}

chain_more : (relations : List Relation) (flags larger : List Bool) (steps one other : ℕ) → ((c : ℕ) → is_hidden flags c ≡ true → is_hidden larger c ≡ true) → IsChain relations flags steps one other → IsChain relations larger steps one other
chain_more relations flags larger zero one other more chain = chain
chain_more relations flags larger (suc steps) one other more chain =
    let related : AreRelated relations flags one chain.0 = chain.1 in (
      chain.0,
      record { one_hidden = more one related.one_hidden; other_hidden = more chain.0 related.other_hidden; number = related.number; relation = related.relation; at = related.at; names_one = related.names_one; names_other = related.names_other },
      chain_more relations flags larger steps chain.0 other more chain.2,
    )

pub within_component : (relations : List Relation) (flags larger : List Bool) (asked : ℕ) (group smaller : Group) → ((c : ℕ) → is_hidden flags c ≡ true → is_hidden larger c ≡ true) → IsComponentOf relations larger asked group → IsComponentOf relations flags asked smaller → (c : ℕ) → smaller c ≡ true → group c ≡ true
within_component relations flags larger asked group smaller more whole part c is =
    let linked = ((part c).0 is).1 in
    (whole c).1 (more c ((part c).0 is).0, (linked.0, chain_more relations flags larger linked.0 asked c more linked.1))

pub rank_within : (group smaller : Group) (n : ℕ) → ((c : ℕ) → smaller c ≡ true → group c ≡ true) → rank smaller n ≤ rank group n
rank_within group smaller zero each = omega arith
rank_within group smaller (suc n) each =
    let before : rank smaller n ≤ rank group n = rank_within group smaller n each in
    let whole : rank group (suc n) ≡ rank group n + length (if group n then n ∷ [] else []) = ap length (members-more group n) ∙ length-append (members group n) (if group n then n ∷ [] else []) in
    let part : rank smaller (suc n) ≡ rank smaller n + length (if smaller n then n ∷ [] else []) = ap length (members-more smaller n) ∙ length-append (members smaller n) (if smaller n then n ∷ [] else []) in
    let one : length (if smaller n then n ∷ [] else []) ≤ length (if group n then n ∷ [] else []) =
    elim (smaller n) as (λ b. smaller n ≡ b → length (if b then n ∷ [] else []) ≤ length (if group n then n ∷ [] else [])) [
      | true ↦ λ is. let own : length (if group n then n ∷ [] else []) ≡ 1 = ap (λ b. length (if b then n ∷ [] else [])) (each n is) in omega (arith, own)
      | false ↦ λ is. omega arith
    ] refl in
    omega (arith, before, whole, part, one)

-- ---- the table is blocked in the smaller problem

-- ---- the multipliers

pub slack_read : (problem : Problem) (table : Table) (k : ℕ) → k < length (problems.rows_of problem) → number_at (slacks_of problem table) k ≡ number_for table (problem.columns + k)
slack_read problem table k below = get_or-map-range_with_len (λ k. number_for table (problem.columns + k)) 0 (length (problems.rows_of problem)) k k (pos 0) below (omega arith)

pub problem_long : (system : System) (cells : List Cell) (group : Group) (question : Question) → length (problems.rows_of (problem_of system cells group question)) ≡ length (labels system.relations cells group system.cells) + 1
problem_long system cells group question = length-append (rows_of system cells group) (problems.target_row (problem_of system cells group question) ∷ []) ∙ ap (λ n. n + 1) (length-map (labels system.relations cells group system.cells) (row_of system cells group))

apart_sign : (system : System) (cells : List Cell) (group : Group) (r : ℕ) (label : Label) → meets group system.relations r ≡ false → IsLabel system cells group label → sign_of label r ≡ pos 0
apart_sign system cells group r (CapAbove c) out is = refl
apart_sign system cells group r (CapBelow c) out is = refl
apart_sign system cells group r (Form k) out is =
    elim (k == r) as (λ b. (k == r) ≡ b → (if b then negsuc 0 else pos 0) ≡ pos 0) [
      | true ↦ λ same. absurd (let at : k ≡ r = (Decides-eqb k r).0 same in let clash : true ≡ false = sym is ∙ ap (meets group system.relations) at ∙ out in cc)
      | false ↦ λ _. refl
    ] refl
apart_sign system cells group r (Negated k) out is =
    elim (k == r) as (λ b. (k == r) ≡ b → (if b then pos 1 else pos 0) ≡ pos 0) [
      | true ↦ λ same. absurd (let at : k ≡ r = (Decides-eqb k r).0 same in let clash : true ≡ false = sym is ∙ ap (meets group system.relations) at ∙ out in cc)
      | false ↦ λ _. refl
    ] refl

-- a relation that isn't met has none
pub unmet_multiplier : (system : System) (cells : List Cell) (group : Group) (question : Question) (table : Table) (r : ℕ) → meets group system.relations r ≡ false → multiplier (slacks_of (problem_of system cells group question) table) (labels system.relations cells group system.cells) r ≡ pos 0
unmet_multiplier system cells group question table r out =
    let problem : Problem = problem_of system cells group question in
    let all : List Label = labels system.relations cells group system.cells in
    multiplier_sum (slacks_of problem table) all r (omega (arith, length-slacks problem table, problem_long system cells group question))
    ∙ label_sum-none (number_at (slacks_of problem table)) all r (All-weaker (IsLabel system cells group) (λ label. sign_of label r ≡ pos 0) (λ label is. apart_sign system cells group r label out is) all (labels_are system cells group))

-- ---- the answer

-- the weights make the multipliers that the slacks make
weights_read : (system : System) (cells : List Cell) (group : Group) (den : ℤ) (slacks weights : List ℤ) (m : Multipliers) → HasSlacks system cells group slacks weights → AreMultipliersOf system cells group den slacks m → AreMultipliersOf system cells group den weights m
weights_read system cells group den slacks weights m has read =
    let rows : List Label = labels system.relations cells group system.cells in
    let long : length rows ≤ length weights = omega (arith, has.long, rows_long system cells group, length-map rows (row_of system cells group)) in
    let same : relation_terms slacks rows ≡ relation_terms weights rows = ap (λ ws. relation_terms ws rows) has.slacks_are ∙ ap (flat_map (λ (w : ℤ × Label). terms_of_label w.0 w.1)) (zip_longer weights (pos 0 ∷ []) rows long) in
    subst (λ ts. AreLowestTermsOf den (nonzero_terms (coefficient ts) (met_relations group system.relations)) m.den m.by_relation) same read

some_world : (system : System) (group : Group) (den : ℤ) (amounts : Numbers) → pos 1 ≤ℤ den → (world : World) × IsWorldOf system group den amounts world
some_world system group den amounts up =
    let terms : List Term = nonzero_terms (moves_of group amounts) (members group system.cells) in
    let lowest : (lower : ℤ) × (less : List Term) × AreLowestTermsOf den terms lower less = some_lowest den terms up in
    (record { den = lowest.0; moves = moves_for lowest.1 }, subst (λ (ts : List Term). AreLowestTermsOf den terms lowest.0 ts) (sym (terms_back lowest.1)) lowest.2)

at_optimum : (walk : TableauWalk) → IsWellFormed walk.problem → IsTableOf walk.problem walk.table → IsBlocked walk.problem walk.table → IsAtOptimum (state_of walk)
at_optimum walk well_formed kept blocked =
    let formed : NamesColumns walk.problem = well_formed_problem walk.problem well_formed in
    blocked_is walk well_formed kept.above_zero (values_are_allowed walk.problem walk.table formed kept) (duals_of walk.problem walk.table formed kept) (none_below walk.table kept.shaped blocked.none_below) (target_is_free walk.problem walk.table formed kept blocked.below) blocked

pub stops_with : (system : System) (cells : List Cell) (flags : List Bool) (question : Question) (smaller : Group) (n : ℕ) (last : Table) (m : Multipliers) → IsPattern system cells flags → IsGroup system flags smaller question.cell → IsComponentOf system.relations flags question.cell smaller → length (members smaller system.cells) ≤ most_members →
    IsWalk (problem_of system cells smaller question) n last → IsBlocked (problem_of system cells smaller question) last → AreMultipliersOf system cells smaller last.den (slacks_of (problem_of system cells smaller question) last) m → StopsWith system cells flags question m
stops_with system cells flags question smaller n last m ground is_group own few steps blocked read =
    let part : Problem = problem_of system cells smaller question in
    let well_formed : IsWellFormed part = problem_is system cells smaller question few in
    let walk : TableauWalk = record { problem = part; improved = n; table = last } in
    let kept : IsTableOf part last = well_formed_keeps part n last well_formed steps in
    let optimum : IsAtOptimum (state_of walk) = at_optimum walk well_formed kept blocked in
    let world : (world : World) × IsWorldOf system smaller last.den (number_at (values_of part last)) world = some_world system smaller last.den (number_at (values_of part last)) kept.above_zero in
    let best : Fraction = record { num = asked_move_in question world.0; den = world.0.den } in
    let is_walked : IsWalkAnswer system cells flags question (Stops best world.0 m) = (smaller, own, few, (walk, record { well_formed = well_formed; steps = steps }, refl, (blocked, world.1, read))) in
    record {
      best = best;
      world = world.0;
      is_walked = is_walked;
      is_read = λ none. walked_answer system cells flags question (Stops best world.0 m) none is_walked;
      is_right = λ sum held.
          does_stop system cells flags smaller question (state_of walk) world.0 m best ground.each_cell is_group refl optimum world.1
          (weights_read system cells smaller last.den (slacks_of part last) optimum.weights m (has_slacks system cells smaller question (state_of walk) refl optimum) read) refl refl sum held;
    }

pub component_is_shared : ComponentIsShared
component_is_shared relations flags asked other group own is cell =
    let from : AreLinked relations flags other asked = linked-turned relations flags asked other ((own other).0 is).1 in (
      (λ inside. (((own cell).0 inside).0, linked-then relations flags other asked cell from ((own cell).0 inside).1)),
      (λ h. (own cell).1 (h.0, linked-then relations flags asked other cell ((own other).0 is).1 h.1)),
    )
