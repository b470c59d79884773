-- What is read where a walk has ended.
use Rattle.std.proofs.Common.{◌≡◌, ℕ, ◌+◌, ◌*◌, ◌<◌, ◌≤◌, ◌^◌, Bool, true, false, List, [], ◌∷◌, ◌++◌, length, get_or, slice_index, All, ℤ, pos, neg_ℤ, ◌-ℤ◌, ◌*ℤ◌, ◌≤ℤ◌, ◌<ℤ◌, FitsSigned, arith, ap, sym, ◌∙◌, refl, subst, length-append, ◌==◌, fold, if◌then◌else◌, inl, inr, Option, None, Some}
use Rattle.std.specs.Int.{w128}
use Rattle.std.specs.List.{flat_map, zip}
use Rattle.std.specs.Prelude.{Result, Ok, Err, IfOk, IfErr}
use Rattle.std.proofs.Math.IntN.{*ℤ_comm}
use Rattle.std.proofs.lemmas.Int.{ints}
use Rattle.std.proofs.lemmas.List.{get_or-drop, get_or_append_left, length-map}
use Rattle.std.proofs.lemmas.List.Elements.{All-nil, All-cons, All-head, All-tail, All-append}
use Rattle.sdc_base.specs.declared.cell.Cell.{Cell}
use Rattle.sdc_base.specs.declared.side.Side.{Side}
use Rattle.sdc_base.specs.declared.system.System.{System}
use Rattle.sdc_base.specs.Forms.{Term, coefficient}
use Rattle.sdc_base.specs.Refutations.{bound_sum, AreBounded}
use Rattle.sdc_base.specs.Worlds.{amount_toward}
use Rattle.sdc_base.proofs.WholeNumbers.{assoc, swap_times, times_more, below_from_times}
use Rattle.tableau.specs.declared.problem.Problem.{Problem}
use Rattle.interval_audit.specs.Points.{IsPoint, AreDualWeights, comes_to, weighed_bounds}
use Rattle.sdc_base.specs.Systems.{number_at}
use Rattle.interval_audit.specs.WalkStates.{WalkState, IsAtPoint, IsAtTarget, IsAtOptimum, objective_of}
use Rattle.worlds.specs.declared.world.World.{World}
use Rattle.worlds.specs.declared.multipliers.Multipliers.{Multipliers}
use Rattle.worlds.specs.NumberLists.{terms_of, number_given}
use Rattle.worlds.specs.WorldFaults.{IsGivenWorld}
use Rattle.worlds.specs.RefutationFaults.{IsGivenSum, terms_added}
use Rattle.interval_audit.specs.declared.question.Question.{Question}
use Rattle.sdc_base.specs.declared.fraction.Fraction.{Fraction}
use Rattle.interval_audit.specs.Answers.{asked_move_in, StopsShort}
use Rattle.interval_audit.specs.QuestionLaws.{IsBest, refuting_by, dual_value}
use Rattle.interval_audit.specs.Columns.{rank, down_column, moves_of}
use Rattle.interval_audit.specs.Groups.{Group, IsGroup, members, most_members}
use Rattle.interval_audit.specs.Labels.{Label, caps_for, met_relations, labels, multiplier, terms_of_label, relation_terms}
use Rattle.interval_audit.specs.LowestTerms.{AreLowestTermsOf}
use Rattle.interval_audit.specs.Problems.{problem_of, row_of}
use Rattle.interval_audit.specs.Readings.{nonzero_terms, IsWorldOf, AreMultipliersOf}
use Rattle.interval_audit.proofs.Ranks.{IsAt, member_at}
use Rattle.interval_audit.proofs.Moves.{moves_in}
use Rattle.interval_audit.proofs.Points.{points_are_worlds, meets}
use Rattle.interval_audit.proofs.Shares.{duals_bound}
use Rattle.interval_audit.proofs.Best.{attained_is_best, cancel_le, cancel_same}
use Rattle.interval_audit.proofs.Lowering.{read_moves, read_is_world, toward_times_by}
use Rattle.interval_audit.proofs.Pairing.{behind, multiplier_is}
use Rattle.interval_audit.proofs.Scaling.{AreLong, scaled, sum_times, bounded_less}
use Rattle.interval_audit.proofs.Proper.{rows_long, caps_few, rank-most}
use Rattle.interval_audit.proofs.ReadStates.{IsAtEnd}

-- ---- moves and multipliers by their places

pub moves_by_place : (group : Group) (n : ℕ) (values : List ℤ) (list : List ℕ) → list ≡ members group n → (place : ℕ) → place < length list → moves_of group (number_at values) (slice_index list place) ≡ number_at values (0 + 2 * place) -ℤ number_at values (1 + 2 * place)
moves_by_place group n values list is place inside =
    let at : IsAt group n place (get_or list place 0) = subst (λ xs. IsAt group n place (get_or xs place 0)) (sym is) (member_at group n place 0 (subst (λ xs. place < length xs) is inside)) in
    let first : 2 * rank group (get_or list place 0) ≡ 0 + 2 * place = omega (arith, at.ranked) in
    let second : 2 * rank group (get_or list place 0) + 1 ≡ 1 + 2 * place = omega (arith, at.ranked) in
    moves_in group (number_at values) (get_or list place 0) at.inside ∙ ap (λ j. number_at values j -ℤ number_at values (down_column group (get_or list place 0))) first ∙ ap (λ j. number_at values (0 + 2 * place) -ℤ number_at values j) second

-- the slacks of a blocked walk on the problem of a question
pub record HasSlacks (system : System) (cells : List Cell) (group : Group) (slacks weights : List ℤ) : Type 0 where
  pub slacks_are : slacks ≡ weights ++ pos 0 ∷ []
  pub long : length weights ≡ length (flat_map (caps_for cells) (members group system.cells)) + 2 * length (met_relations group system.relations)
  pub from_zero : All (λ slack. pos 0 ≤ℤ slack) slacks

pub has_slacks : (system : System) (cells : List Cell) (group : Group) (question : Question) (walk : WalkState) → walk.problem ≡ problem_of system cells group question → (blocked : IsAtOptimum walk) → HasSlacks system cells group walk.slacks blocked.weights
has_slacks system cells group question walk is blocked = record {
  slacks_are = blocked.slacks;
  long = blocked.duals.each ∙ ap (λ (p : Problem). length p.rows) is ∙ rows_long system cells group;
  from_zero = subst (All (λ slack. pos 0 ≤ℤ slack)) (sym blocked.slacks) (All-append (λ slack. pos 0 ≤ℤ slack) blocked.weights (pos 0 ∷ []) blocked.duals.from_zero (All-cons (λ slack. pos 0 ≤ℤ slack) (pos 0) [] (omega (arith, ints)) (All-nil (λ slack. pos 0 ≤ℤ slack))));
}

pub slacks_long : (system : System) (cells : List Cell) (group : Group) (slacks weights : List ℤ) → HasSlacks system cells group slacks weights → length slacks ≡ length (flat_map (caps_for cells) (members group system.cells)) + 2 * length (met_relations group system.relations) + 1
slacks_long system cells group slacks weights has = ap length has.slacks_are ∙ length-append weights (pos 0 ∷ []) ∙ omega (arith, has.long)

pub slacks_few : (system : System) (cells : List Cell) (group : Group) (slacks weights : List ℤ) → length (members group system.cells) ≤ most_members → HasSlacks system cells group slacks weights → length slacks < 2 ^ 32
slacks_few system cells group slacks weights few has =
    omega (arith, few, slacks_long system cells group slacks weights has, caps_few cells (members group system.cells), rank-most (meets group system.relations) (length system.relations), system.at_most_2_30)

pub multipliers_by_place : (system : System) (cells : List Cell) (group : Group) (slacks weights : List ℤ) (list : List ℕ) (caps : ℕ) → HasSlacks system cells group slacks weights → list ≡ met_relations group system.relations → caps + 2 * length list + 1 ≡ length slacks → (place : ℕ) → place < length list
    → multiplier weights (labels system.relations cells group system.cells) (slice_index list place) ≡ number_at slacks (caps + 1 + 2 * place) -ℤ number_at slacks (caps + 2 * place)
multipliers_by_place system cells group slacks weights list caps has is count place inside =
    let test : Group = meets group system.relations in
    let k : ℕ = get_or list place 0 in
    let at : IsAt test (length system.relations) place k = subst (λ xs. IsAt test (length system.relations) place (get_or xs place 0)) (sym is) (member_at test (length system.relations) place 0 (subst (λ xs. place < length xs) is inside)) in
    let own : ℕ = length (flat_map (caps_for cells) (members group system.cells)) in
    let same : own ≡ caps = omega (arith, count, slacks_long system cells group slacks weights has, ap length is) in
    let read : (j : ℕ) → j < 2 * length list → number_at (behind cells group system.cells weights) j ≡ number_at slacks (caps + j) = (λ j below.
    let within : own + j < length weights = omega (arith, below, has.long, ap length is) in
    get_or-drop own weights j (pos 0) ∙ sym (get_or_append_left weights (pos 0 ∷ []) (pos 0) (own + j) within) ∙ ap (λ ws. number_at ws (own + j)) (sym has.slacks_are) ∙ ap (λ m. number_at slacks (m + j)) same) in
    let rest : AreLong system cells group weights = omega (arith, has.long) in
    let first : number_at (behind cells group system.cells weights) (2 * rank test k + 1) ≡ number_at slacks (caps + 1 + 2 * place) =
    ap (λ j. number_at (behind cells group system.cells weights) (2 * j + 1)) at.ranked ∙ read (2 * place + 1) (omega (arith, inside)) ∙ ap (number_at slacks) (omega arith) in
    let second : number_at (behind cells group system.cells weights) (2 * rank test k) ≡ number_at slacks (caps + 2 * place) =
    ap (λ j. number_at (behind cells group system.cells weights) (2 * j)) at.ranked ∙ read (2 * place) (omega (arith, inside)) in
    multiplier_is system.relations cells group system.cells weights rest k at.below at.inside
    ∙ ap (λ z. z -ℤ number_at (behind cells group system.cells weights) (2 * rank test k)) first ∙ ap (λ z. number_at slacks (caps + 1 + 2 * place) -ℤ z) second

-- the slacks make the multipliers that the weights make, since the target's is left over
pub zip_longer : {X Y : Type 0} (ws more : List X) (ls : List Y) → length ls ≤ length ws → zip (ws ++ more) ls ≡ zip ws ls
zip_longer [] more [] few = zip_none more
  where
    zip_none : {X Y : Type 0} (xs : List X) → zip {X = Y} xs [] ≡ []
    zip_none [] = refl
    zip_none (x ∷ xs) = refl
zip_longer [] more (l ∷ ls) few = absurd (omega (arith, few))
zip_longer (w ∷ ws) more [] few = refl
zip_longer (w ∷ ws) more (l ∷ ls) few = ap (λ t. (w, l) ∷ t) (zip_longer ws more ls (omega (arith, few)))

pub slacks_read : (system : System) (cells : List Cell) (group : Group) (den : ℤ) (slacks weights : List ℤ) (m : Multipliers) → HasSlacks system cells group slacks weights → AreMultipliersOf system cells group den weights m → AreMultipliersOf system cells group den slacks m
slacks_read system cells group den slacks weights m has read =
    let rows : List Label = labels system.relations cells group system.cells in
    let long : length rows ≤ length weights = omega (arith, has.long, rows_long system cells group, length-map rows (row_of system cells group)) in
    let same : relation_terms slacks rows ≡ relation_terms weights rows = ap (λ ws. relation_terms ws rows) has.slacks_are ∙ ap (flat_map (λ (w : ℤ × Label). terms_of_label w.0 w.1)) (zip_longer weights (pos 0 ∷ []) rows long) in
    subst (λ ts. AreLowestTermsOf den (nonzero_terms (coefficient ts) (met_relations group system.relations)) m.den m.by_relation) (sym same) read

-- a fact of what is read, whatever it is
pub if_ok_more : {X E : Type 0} (P Q : X → Type 0) (r : Result X E) → ((x : X) → P x → Q x) → IfOk r P → IfOk r Q
if_ok_more P Q (Ok x) f p = f x p
if_ok_more P Q (Err e) f p = p

-- the same for each of several facts
pub all_if_ok : {X E : Type 0} (I : Type 0) (P Q : I → X → Type 0) (r : Result X E) → ((i : I) (x : X) → P i x → Q i x) → ((i : I) → IfOk r (P i)) → IfOk r (λ x. (i : I) → Q i x)
all_if_ok I P Q (Ok x) f p = λ i. f i x (p i)
all_if_ok I P Q (Err e) f p = tt

-- ---- the world at the end

pub ended_stands : (walk : WalkState) → IsAtEnd walk → IsAtPoint walk
ended_stands walk (inl reached) = reached.stands
ended_stands walk (inr blocked) = blocked.stands

-- what the world that is read has to do with the walk's objective
pub record IsWorldReading (system : System) (cells : List Cell) (flags : List Bool) (question : Question) (walk : WalkState) (world : World) : Type 0 where
  pub is_world : IsGivenWorld system cells flags world
  pub by : ℤ
  pub positive : pos 1 ≤ℤ by
  pub den : walk.den ≡ by *ℤ world.den
  pub objective : objective_of walk ≡ by *ℤ asked_move_in question world

pub read_off : (system : System) (cells : List Cell) (flags : List Bool) (group : Group) (question : Question) (walk : WalkState) (world : World) → length cells ≡ system.cells → IsGroup system flags group question.cell → walk.problem ≡ problem_of system cells group question → IsAtPoint walk → IsWorldOf system group walk.den (number_at walk.values) world → IsWorldReading system cells flags question walk world
read_off system cells flags group question walk world each is problem stands read =
    let point : IsPoint (problem_of system cells group question) walk.den (number_at walk.values) = subst (λ p. IsPoint p walk.den (number_at walk.values)) problem stands.point in
    let made = points_are_worlds system cells flags group question walk.den (number_at walk.values) each is point in
    let moved : moves_of group (number_at walk.values) question.cell ≡ read.by *ℤ number_given (terms_of world.moves) question.cell = read_moves system group walk.den (number_at walk.values) world read question.cell is.asked_known in
    record {
      is_world = read_is_world system cells flags group walk.den (number_at walk.values) world each made.0 read;
      by = read.by;
      positive = read.by_positive;
      den = read.den_same;
      objective = ap (λ (p : Problem). comes_to (number_at walk.values) p.objective) problem ∙ sym made.1 ∙ ap (amount_toward question.side) moved ∙ toward_times_by question.side read.by (number_given (terms_of world.moves) question.cell);
    }

-- den times the target, by the world's den
target_times : (by whole den target : ℤ) → whole ≡ by *ℤ den → whole *ℤ target ≡ by *ℤ (den *ℤ target)
target_times by whole den target is = ap (λ z. z *ℤ target) is ∙ assoc by den target

at_target : (system : System) (cells : List Cell) (group : Group) (question : Question) (walk : WalkState) (world : World) (by : ℤ) → walk.problem ≡ problem_of system cells group question → walk.den ≡ by *ℤ world.den → walk.den *ℤ walk.problem.target ≡ by *ℤ (world.den *ℤ question.target)
at_target system cells group question walk world by problem den = ap (λ (p : Problem). walk.den *ℤ p.target) problem ∙ target_times by walk.den world.den question.target den

pub reached_where : (system : System) (cells : List Cell) (flags : List Bool) (group : Group) (question : Question) (walk : WalkState) (world : World) → walk.problem ≡ problem_of system cells group question → IsWorldReading system cells flags question walk world → IsAtEnd walk → asked_move_in question world ≡ world.den *ℤ question.target → IsAtTarget walk
reached_where system cells flags group question walk world problem read (inl reached) same = reached
reached_where system cells flags group question walk world problem read (inr blocked) same =
    absurd (omega (arith, ints, blocked.short, read.objective, ap (λ z. read.by *ℤ z) same, at_target system cells group question walk world read.by problem read.den))

pub blocked_where : (system : System) (cells : List Cell) (flags : List Bool) (group : Group) (question : Question) (walk : WalkState) (world : World) → walk.problem ≡ problem_of system cells group question → IsWorldReading system cells flags question walk world → IsAtEnd walk → (asked_move_in question world ≡ world.den *ℤ question.target → ⊥) → IsAtOptimum walk
blocked_where system cells flags group question walk world problem read (inr blocked) apart = blocked
blocked_where system cells flags group question walk world problem read (inl reached) apart =
    absurd (apart (cancel_same read.by (asked_move_in question world) (world.den *ℤ question.target) read.positive (sym read.objective ∙ reached.reached ∙ at_target system cells group question walk world read.by problem read.den)))

-- ---- where a walk is blocked

-- the multipliers that are read can be checked
pub read_bounded : (system : System) (cells : List Cell) (flags : List Bool) (group : Group) (question : Question) (walk : WalkState) (multipliers : Multipliers) → length cells ≡ system.cells → IsGroup system flags group question.cell → walk.problem ≡ problem_of system cells group question → (blocked : IsAtOptimum walk) → AreMultipliersOf system cells group walk.den blocked.weights multipliers
    → AreBounded cells flags (coefficient (terms_added system question.cell question.side multipliers))
read_bounded system cells flags group question walk multipliers each is problem blocked read =
    let duals : AreDualWeights (problem_of system cells group question) walk.den blocked.weights = subst (λ p. AreDualWeights p walk.den blocked.weights) problem blocked.duals in
    let long : AreLong system cells group blocked.weights = omega (arith, (has_slacks system cells group question walk problem blocked).long) in
    bounded_less cells flags read.by (coefficient (refuting_by system cells group question walk.den blocked.weights)) (coefficient (terms_added system question.cell question.side multipliers)) read.by_positive
    (scaled system cells group question walk.den blocked.weights multipliers read long) (duals_bound system cells flags group question walk.den blocked.weights each is duals).0

-- the best value over the walk's den is that over the world's
best_lower : (system : System) (cells : List Cell) (flags : List Bool) (asked : ℕ) (side : Side) (by num den less lower : ℤ) → pos 1 ≤ℤ by → num ≡ by *ℤ less → den ≡ by *ℤ lower → IsBest system cells flags asked side num den → IsBest system cells flags asked side less lower
best_lower system cells flags asked side by num den less lower positive num_is den_is best = record {
  attained_den = best.attained_den;
  attained_moves = best.attained_moves;
  attained_world = best.attained_world;
  attained =
      let t : ℤ = amount_toward side (best.attained_moves asked) in
      cancel_same by (t *ℤ lower) (less *ℤ best.attained_den) positive
      (sym (swap_times t by lower) ∙ ap (λ z. t *ℤ z) (sym den_is) ∙ best.attained ∙ ap (λ z. z *ℤ best.attained_den) num_is ∙ assoc by less best.attained_den);
  furthest = λ other moves world.
      let t : ℤ = amount_toward side (moves asked) in
      let left : t *ℤ den ≡ by *ℤ (t *ℤ lower) = ap (λ z. t *ℤ z) den_is ∙ swap_times t by lower in
      let right : num *ℤ other ≡ by *ℤ (less *ℤ other) = ap (λ z. z *ℤ other) num_is ∙ assoc by less other in
      cancel_le by (t *ℤ lower) (less *ℤ other) positive (omega (arith, ints, best.furthest other moves world, left, right));
}

-- sums and values by what they are divided by
sums_lower : (one two sum less q q_less den lower num num_less : ℤ) → pos 1 ≤ℤ one → pos 1 ≤ℤ two → sum ≡ one *ℤ less → q ≡ one *ℤ q_less → den ≡ two *ℤ lower → num ≡ two *ℤ num_less → sum *ℤ den ≡ q *ℤ num → less *ℤ lower ≡ q_less *ℤ num_less
sums_lower one two sum less q q_less den lower num num_less one_positive two_positive sum_is q_is den_is num_is equal =
    let left : sum *ℤ den ≡ one *ℤ (two *ℤ (less *ℤ lower)) = ap (λ z. z *ℤ den) sum_is ∙ ap (λ z. (one *ℤ less) *ℤ z) den_is ∙ assoc one less (two *ℤ lower) ∙ ap (λ z. one *ℤ z) (swap_times less two lower) in
    let right : q *ℤ num ≡ one *ℤ (two *ℤ (q_less *ℤ num_less)) = ap (λ z. z *ℤ num) q_is ∙ ap (λ z. (one *ℤ q_less) *ℤ z) num_is ∙ assoc one q_less (two *ℤ num_less) ∙ ap (λ z. one *ℤ z) (swap_times q_less two num_less) in
    cancel_same two (less *ℤ lower) (q_less *ℤ num_less) two_positive (cancel_same one (two *ℤ (less *ℤ lower)) (two *ℤ (q_less *ℤ num_less)) one_positive (sym left ∙ equal ∙ right))

-- what a best value below the target says of the sum
pub sum_below_target : (sum den q num target : ℤ) → pos 1 ≤ℤ den → pos 1 ≤ℤ q → sum *ℤ den ≡ q *ℤ num → num <ℤ (den *ℤ target) → sum <ℤ (q *ℤ target)
sum_below_target sum den q num target den_positive q_positive equal short =
    let more : (q *ℤ num) <ℤ (q *ℤ (den *ℤ target)) = times_more q num (den *ℤ target) q_positive short in
    below_from_times den sum (q *ℤ target) den_positive (omega (arith, ints, more, equal, *ℤ_comm den sum, swap_times q den target))

pub does_stop : (system : System) (cells : List Cell) (flags : List Bool) (group : Group) (question : Question) (walk : WalkState) (world : World) (multipliers : Multipliers) (best : Fraction) → length cells ≡ system.cells → IsGroup system flags group question.cell → walk.problem ≡ problem_of system cells group question
    → (blocked : IsAtOptimum walk) → IsWorldOf system group walk.den (number_at walk.values) world → AreMultipliersOf system cells group walk.den blocked.weights multipliers → best.den ≡ world.den → best.num ≡ asked_move_in question world
    → IsGivenSum system cells flags question.cell question.side multipliers → FitsSigned w128 (multipliers.den *ℤ question.target) → StopsShort system cells flags question best world multipliers
does_stop system cells flags group question walk world multipliers best each is problem blocked world_read read den_is num_is sum held =
    let given_world : IsWorldReading system cells flags question walk world = read_off system cells flags group question walk world each is problem blocked.stands world_read in
    let point : IsPoint (problem_of system cells group question) walk.den (number_at walk.values) = subst (λ p. IsPoint p walk.den (number_at walk.values)) problem blocked.stands.point in
    let duals : AreDualWeights (problem_of system cells group question) walk.den blocked.weights = subst (λ p. AreDualWeights p walk.den blocked.weights) problem blocked.duals in
    let objective : objective_of walk ≡ comes_to (number_at walk.values) (problem_of system cells group question).objective = ap (λ (p : Problem). comes_to (number_at walk.values) p.objective) problem in
    let value : comes_to (number_at walk.values) (problem_of system cells group question).objective ≡ dual_value system cells group blocked.weights = sym objective ∙ sym blocked.value ∙ ap (λ (p : Problem). weighed_bounds (zip blocked.weights p.rows)) problem in
    let both = attained_is_best system cells flags group question walk.den (number_at walk.values) walk.den blocked.weights each is point duals (ap (λ z. walk.den *ℤ z) value) in
    let num : comes_to (number_at walk.values) (problem_of system cells group question).objective ≡ given_world.by *ℤ asked_move_in question world = sym objective ∙ given_world.objective in
    let long : AreLong system cells group blocked.weights = omega (arith, (has_slacks system cells group question walk problem blocked).long) in
    let sums : bound_sum cells flags (coefficient (refuting_by system cells group question walk.den blocked.weights)) ≡ read.by *ℤ bound_sum cells flags (coefficient (terms_added system question.cell question.side multipliers)) =
    sum_times cells flags read.by (coefficient (refuting_by system cells group question walk.den blocked.weights)) (coefficient (terms_added system question.cell question.side multipliers)) read.by_positive (scaled system cells group question walk.den blocked.weights multipliers read long) in
    let lower : IsBest system cells flags question.cell question.side (asked_move_in question world) world.den =
    best_lower system cells flags question.cell question.side given_world.by (comes_to (number_at walk.values) (problem_of system cells group question).objective) walk.den (asked_move_in question world) world.den given_world.positive num given_world.den both.0 in
    let short : asked_move_in question world <ℤ (world.den *ℤ question.target) =
    below_from_times given_world.by (asked_move_in question world) (world.den *ℤ question.target) given_world.positive (omega (arith, ints, blocked.short, given_world.objective, at_target system cells group question walk world given_world.by problem given_world.den)) in
    let equal : bound_sum cells flags (coefficient (terms_added system question.cell question.side multipliers)) *ℤ world.den ≡ multipliers.den *ℤ asked_move_in question world =
    sums_lower read.by given_world.by (bound_sum cells flags (coefficient (refuting_by system cells group question walk.den blocked.weights))) (bound_sum cells flags (coefficient (terms_added system question.cell question.side multipliers))) walk.den multipliers.den walk.den world.den (comes_to (number_at walk.values) (problem_of system cells group question).objective) (asked_move_in question world)
    read.by_positive given_world.positive sums read.den_same given_world.den num both.1 in
    record {
      is_world = given_world.is_world;
      den = den_is;
      num = num_is;
      below = subst (λ z. best.num <ℤ (z *ℤ question.target)) (sym den_is) (subst (λ z. z <ℤ (world.den *ℤ question.target)) (sym num_is) short);
      is_best = subst (λ z. IsBest system cells flags question.cell question.side best.num z) (sym den_is) (subst (λ z. IsBest system cells flags question.cell question.side z world.den) (sym num_is) lower);
      is_sum = sum;
      equal = ap (λ z. bound_sum cells flags (coefficient (terms_added system question.cell question.side multipliers)) *ℤ z) den_is ∙ equal ∙ ap (λ z. multipliers.den *ℤ z) (sym num_is);
      product_held = held;
      refutes = record { q_positive = sum.positive; bounded = sum.bounded; below = sum_below_target (bound_sum cells flags (coefficient (terms_added system question.cell question.side multipliers))) world.den multipliers.den (asked_move_in question world) question.target given_world.is_world.is_world.positive sum.positive equal short };
    }

-- what is given of numbers above -2^127 is so itself
pub given_held : (terms : List Term) (c : ℕ) (most : ℤ) → pos 1 ≤ℤ most → All (λ (t : Term). neg_ℤ most <ℤ t.1) terms → neg_ℤ most <ℤ number_given terms c
given_held terms c most positive all = from terms (pos 0) (omega (arith, ints, positive)) all
  where
    from : (terms : List Term) (a : ℤ) → neg_ℤ most <ℤ a → All (λ (t : Term). neg_ℤ most <ℤ t.1) terms → neg_ℤ most <ℤ fold (λ number (t : Term). if t.0 == c then t.1 else number) a terms
    from [] a here all = here
    from (t ∷ terms) a here all =
        from terms (if t.0 == c then t.1 else a)
        (elim (t.0 == c) as (λ b. neg_ℤ most <ℤ (if b then t.1 else a)) [ true ↦ All-head (λ (t : Term). neg_ℤ most <ℤ t.1) t terms all | false ↦ here ])
        (All-tail (λ (t : Term). neg_ℤ most <ℤ t.1) t terms all)

pub none_else : {X : Type 0} (o : Option X) → ((x : X) → o ≡ Some x → ⊥) → o ≡ None
none_else None h = refl
none_else (Some x) h = absurd (h x refl)

pub if_err_more : {X E : Type 0} (P Q : E → Type 0) (r : Result X E) → ((e : E) → P e → Q e) → IfErr r P → IfErr r Q
if_err_more P Q (Ok x) f p = p
if_err_more P Q (Err e) f p = f e p
