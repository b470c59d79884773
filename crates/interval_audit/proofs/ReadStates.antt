-- Where a walk stands, told by its table.
use Rattle.std.proofs.Common.{◌≡◌, ℕ, zero, suc, ◌+◌, ◌<◌, List, [], ◌∷◌, ◌++◌, length, map, get_or, slice_index_or, All, ℤ, pos, ◌+ℤ◌, ◌*ℤ◌, ◌≤ℤ◌, ◌<ℤ◌, arith, ap, sym, ◌∙◌, refl, subst, length-append, add-one, true, false, inl, inr, ◌⊎◌}
use Rattle.std.specs.List.{range_with_len, zip}
use Rattle.std.specs.Ordering.{int_eq}
use Rattle.std.proofs.lemmas.Int.{ints, by_lt_z}
use Rattle.std.proofs.lemmas.Bool.Decides.{Decides-int_eq}
use Rattle.std.proofs.Math.Seq.{get_or-append_seam}
use Rattle.std.proofs.lemmas.List.{get_or_append_left, get_or_default, map-append}
use Rattle.std.proofs.lemmas.List.FromFn.{get_or-map-range_with_len, length-map-range_with_len}
use Rattle.std.proofs.lemmas.List.Elements.{All-head, All-tail, All-map}
use Rattle.sdc_base.specs.Totals.{sum_of, sum_below}
use Rattle.sdc_base.specs.Forms.{Term, coefficient}
use Rattle.sdc_base.specs.Systems.{Numbers, number_at}
use Rattle.sdc_base.proofs.Connecting.{alone-more}
use Rattle.sdc_base.proofs.TotalLemmas.{sum_of-cons, sum_below-same}
use Rattle.tableau.specs.declared.problem.LinRow.{LinRow}
use Rattle.tableau.specs.declared.problem.Problem.{Problem}
use Rattle.tableau.specs.ProblemForm.{IsWellFormed}
use Rattle.tableau.specs.Problems.{rows_of, row_at, target_row, no_row, number_for, AreDuals}
use Rattle.tableau.specs.Readings.{value_for, values_of, slacks_of}
use Rattle.tableau.specs.Solutions.{AreFeasible}
use Rattle.tableau.specs.Steps.{IsReached, IsBlocked}
use Rattle.tableau.specs.Tableaus.{TableauWalk}
use Rattle.tableau.specs.TableLaws.{value}
use Rattle.interval_audit.specs.Points.{comes_to}
use Rattle.interval_audit.specs.Answers.{HasEnded}
use Rattle.interval_audit.specs.WalkStates.{state_of, objective_of, IsAtPoint, WalkState}
use Rattle.interval_audit.specs.WalkStates.{IsAtTarget, IsAtOptimum}

-- it stands at its end: at the target, or stuck
abbrev pub IsAtEnd : WalkState → Type 0
IsAtEnd walk = IsAtTarget walk ⊎ IsAtOptimum walk

-- ---- the values

value_read : (walk : TableauWalk) (c : ℕ) → c < walk.problem.columns → number_at (values_of walk.problem walk.table) c ≡ value_for walk.table c
value_read walk c inside = get_or-map-range_with_len (value_for walk.table) 0 walk.problem.columns c c (pos 0) inside (omega arith)

comes_same : (f g : Numbers) (columns : ℕ) (entries : List Term) → ((c : ℕ) → c < columns → f c ≡ g c) → All (λ (e : Term). e.0 < columns) entries → comes_to f entries ≡ comes_to g entries
comes_same f g columns [] same named = refl
comes_same f g columns (e ∷ entries) same named =
    let here : f e.0 ≡ g e.0 = same e.0 (All-head (λ (e : Term). e.0 < columns) e entries named) in
    omega (arith, ints, ap (λ z. e.1 *ℤ z) here, comes_same f g columns entries same (All-tail (λ (e : Term). e.0 < columns) e entries named), sum_of-cons (λ (t : Term). t.1 *ℤ f t.0) e entries, sum_of-cons (λ (t : Term). t.1 *ℤ g t.0) e entries)

-- one of the problem's own rows
own_row : (problem : Problem) (k : ℕ) (d : LinRow) → k < length problem.rows → row_at problem k ≡ slice_index_or problem.rows k d
own_row problem k d inside = get_or_append_left problem.rows (target_row problem ∷ []) no_row k inside ∙ get_or_default problem.rows k no_row d inside

all_rows_long : (problem : Problem) → length (rows_of problem) ≡ suc (length problem.rows)
all_rows_long problem = length-append problem.rows (target_row problem ∷ []) ∙ add-one (length problem.rows)

pub stands_is : (walk : TableauWalk) → IsWellFormed walk.problem → pos 1 ≤ℤ walk.table.den → AreFeasible walk.problem walk.table → IsAtPoint (state_of walk)
stands_is walk posed positive allowed = record {
  each = length-map-range_with_len (value_for walk.table) 0 walk.problem.columns;
  point = record {
    positive = positive;
    from_zero = λ c inside. subst (λ z. pos 0 ≤ℤ z) (sym (value_read walk c inside)) (allowed.from_zero c);
    within = λ k d inside. row k d inside;
  };
}
  where
    row : (k : ℕ) (d : LinRow) → k < length walk.problem.rows → comes_to (number_at (values_of walk.problem walk.table)) (slice_index_or walk.problem.rows k d).entries ≤ℤ (walk.table.den *ℤ (slice_index_or walk.problem.rows k d).bound)
    row k d inside =
        let one : LinRow = slice_index_or walk.problem.rows k d in
        let same : row_at walk.problem k ≡ one = own_row walk.problem k d inside in
        let own : comes_to (value_for walk.table) one.entries +ℤ value_for walk.table (walk.problem.columns + k) ≡ walk.table.den *ℤ one.bound =
        subst (λ (r : LinRow). comes_to (value_for walk.table) r.entries +ℤ value_for walk.table (walk.problem.columns + k) ≡ walk.table.den *ℤ r.bound) same (allowed.rows k (omega (arith, inside, all_rows_long walk.problem))) in
        let read : comes_to (number_at (values_of walk.problem walk.table)) one.entries ≡ comes_to (value_for walk.table) one.entries =
        comes_same (number_at (values_of walk.problem walk.table)) (value_for walk.table) walk.problem.columns one.entries (value_read walk) (posed.rows k d inside).named in
        omega (arith, ints, own, read, allowed.from_zero (walk.problem.columns + k))

pub objective_is : (walk : TableauWalk) → IsWellFormed walk.problem → AreFeasible walk.problem walk.table → objective_of (state_of walk) ≡ value walk.table
objective_is walk posed allowed = comes_same (number_at (values_of walk.problem walk.table)) (value_for walk.table) walk.problem.columns walk.problem.objective (value_read walk) posed.objective.named ∙ allowed.objective

-- ---- the numbers at the slacks

-- the numbers at the slacks of the problem's own rows
abbrev pub weights_of : TableauWalk → List ℤ
weights_of walk = map (λ k. number_for walk.table (walk.problem.columns + k)) (range_with_len 0 (length walk.problem.rows))

first_of_sum : (n : ℕ) (f : ℕ → ℤ) → sum_below (suc n) f ≡ f 0 +ℤ sum_below n (λ k. f (suc k))
first_of_sum zero f = omega (arith, ints)
first_of_sum (suc n) f = omega (arith, ints, first_of_sum n f)

-- sums over rows by their places, and over rows beside their weights
zipped : (w : ℕ → ℤ) (g : LinRow → ℤ) (rows : List LinRow) (a : ℕ) → sum_of (λ (p : ℤ × LinRow). p.0 *ℤ g p.1) (zip (map w (range_with_len a (length rows))) rows) ≡ sum_below (length rows) (λ k. w (a + k) *ℤ g (get_or rows k no_row))
zipped w g [] a = refl
zipped w g (row ∷ rows) a =
    let here : a + 0 ≡ a = omega arith in
    sum_of-cons (λ (p : ℤ × LinRow). p.0 *ℤ g p.1) (w a, row) (zip (map w (range_with_len (a + 1) (length rows))) rows)
    ∙ ap (λ z. w a *ℤ g row +ℤ z) (zipped w g rows (a + 1) ∙ sum_below-same (length rows) (λ k. w (a + 1 + k) *ℤ g (get_or rows k no_row)) (λ k. w (a + suc k) *ℤ g (get_or rows k no_row)) (λ k inside. ap (λ j. w j *ℤ g (get_or rows k no_row)) (omega arith)))
    ∙ sym (first_of_sum (length rows) (λ k. w (a + k) *ℤ g (get_or (row ∷ rows) k no_row)) ∙ ap (λ j. w j *ℤ g row +ℤ sum_below (length rows) (λ k. w (a + suc k) *ℤ g (get_or rows k no_row))) here)

-- over all rows, the last with the weight 0
all_weighed : (walk : TableauWalk) (g : LinRow → ℤ) → number_for walk.table (walk.problem.columns + length walk.problem.rows) ≡ pos 0 → sum_below (length (rows_of walk.problem)) (λ k. number_for walk.table (walk.problem.columns + k) *ℤ g (row_at walk.problem k)) ≡ sum_of (λ (p : ℤ × LinRow). p.0 *ℤ g p.1) (zip (weights_of walk) walk.problem.rows)
all_weighed walk g free =
    let R : ℕ = length walk.problem.rows in
    let w : ℕ → ℤ = λ k. number_for walk.table (walk.problem.columns + k) in
    let last : w R *ℤ g (row_at walk.problem R) ≡ pos 0 = ap (λ z. z *ℤ g (row_at walk.problem R)) free ∙ omega (arith, ints) in
    ap (λ n. sum_below n (λ k. w k *ℤ g (row_at walk.problem k))) (all_rows_long walk.problem)
    ∙ omega (arith, ints, last)
    ∙ sum_below-same R (λ k. w k *ℤ g (row_at walk.problem k)) (λ k. w (0 + k) *ℤ g (get_or walk.problem.rows k no_row)) (λ k inside. ap (λ (r : LinRow). w k *ℤ g r) (own_row walk.problem k no_row inside) ∙ ap (λ j. w j *ℤ g (get_or walk.problem.rows k no_row)) (omega arith))
    ∙ sym (zipped w g walk.problem.rows 0)

slacks_split : (walk : TableauWalk) → number_for walk.table (walk.problem.columns + length walk.problem.rows) ≡ pos 0 → slacks_of walk.problem walk.table ≡ weights_of walk ++ pos 0 ∷ []
slacks_split walk free =
    let w : ℕ → ℤ = λ k. number_for walk.table (walk.problem.columns + k) in
    ap (λ n. map w (range_with_len 0 n)) (length-append walk.problem.rows (target_row walk.problem ∷ [])) ∙ ap (map w) (alone-more (length walk.problem.rows)) ∙ map-append w (range_with_len 0 (length walk.problem.rows)) (length walk.problem.rows ∷ [])
    ∙ ap (λ z. weights_of walk ++ z ∷ []) free

pub blocked_is : (walk : TableauWalk) → IsWellFormed walk.problem → pos 1 ≤ℤ walk.table.den → AreFeasible walk.problem walk.table → AreDuals walk.problem walk.table → ((v : ℕ) → pos 0 ≤ℤ number_for walk.table v) → number_for walk.table (walk.problem.columns + length walk.problem.rows) ≡ pos 0 → IsBlocked walk.problem walk.table → IsAtOptimum (state_of walk)
blocked_is walk posed positive allowed duals from_zero free blocked =
    let objective : objective_of (state_of walk) ≡ value walk.table = objective_is walk posed allowed in
    record {
      stands = stands_is walk posed positive allowed;
      short = subst (λ z. z <ℤ (walk.table.den *ℤ walk.problem.target)) (sym objective) blocked.below;
      weights = weights_of walk;
      slacks = slacks_split walk free;
      duals = record {
        positive = positive;
        each = length-map-range_with_len (λ k. number_for walk.table (walk.problem.columns + k)) 0 (length walk.problem.rows);
        from_zero = All-map (λ weight. pos 0 ≤ℤ weight) (λ k. number_for walk.table (walk.problem.columns + k)) (range_with_len 0 (length walk.problem.rows)) (λ i d inside. from_zero (walk.problem.columns + slice_index_or (range_with_len 0 (length walk.problem.rows)) i d));
        enough = λ column inside. omega (arith, ints, duals.entries column inside, from_zero column, all_weighed walk (λ row. coefficient row.entries column) free);
      };
      value = sym (all_weighed walk (λ row. row.bound) free) ∙ duals.bounds ∙ sym objective;
    }

pub reached_is : (walk : TableauWalk) → IsWellFormed walk.problem → pos 1 ≤ℤ walk.table.den → AreFeasible walk.problem walk.table → IsReached walk.problem walk.table → IsAtTarget (state_of walk)
reached_is walk posed positive allowed reached = record { stands = stands_is walk posed positive allowed; reached = objective_is walk posed allowed ∙ reached }

-- the objective is at most the target
pub value_bounded : (walk : TableauWalk) → AreFeasible walk.problem walk.table → value walk.table ≤ℤ (walk.table.den *ℤ walk.problem.target)
value_bounded walk allowed =
    let R : ℕ = length walk.problem.rows in
    let last : row_at walk.problem R ≡ target_row walk.problem = get_or-append_seam walk.problem.rows (target_row walk.problem) [] no_row in
    let own : comes_to (value_for walk.table) walk.problem.objective +ℤ value_for walk.table (walk.problem.columns + R) ≡ walk.table.den *ℤ walk.problem.target =
    subst (λ (r : LinRow). comes_to (value_for walk.table) r.entries +ℤ value_for walk.table (walk.problem.columns + R) ≡ walk.table.den *ℤ r.bound) last (allowed.rows R (omega (arith, all_rows_long walk.problem))) in
    omega (arith, ints, own, allowed.from_zero (walk.problem.columns + R), allowed.objective)

-- a walk that is not neither reached nor blocked is one of them
pub ended_where : (walk : TableauWalk) → value walk.table ≤ℤ (walk.table.den *ℤ walk.problem.target) → ((IsReached walk.problem walk.table → ⊥) × (IsBlocked walk.problem walk.table → ⊥) → ⊥) → HasEnded walk
ended_where walk bounded not_neither =
    elim (int_eq (value walk.table) (walk.table.den *ℤ walk.problem.target)) as (λ b. int_eq (value walk.table) (walk.table.den *ℤ walk.problem.target) ≡ b → HasEnded walk) [
      | true ↦ λ is. inl ((Decides-int_eq (value walk.table) (walk.table.den *ℤ walk.problem.target)).0 is)
      | false ↦ λ is. inr (stuck is)
    ] refl
  where
    apart : int_eq (value walk.table) (walk.table.den *ℤ walk.problem.target) ≡ false → IsReached walk.problem walk.table → ⊥
    apart is reached = absurd (let no : true ≡ false = sym ((Decides-int_eq (value walk.table) (walk.table.den *ℤ walk.problem.target)).1 reached) ∙ is in cc)

    stuck : int_eq (value walk.table) (walk.table.den *ℤ walk.problem.target) ≡ false → IsBlocked walk.problem walk.table
    stuck is = record {
      below = by_lt_z (value walk.table) (walk.table.den *ℤ walk.problem.target) (λ r. r) (λ back. absurd (apart is (omega (arith, ints, bounded, back))));
      none_below = λ k inside. by_lt_z (number_at walk.table.objective k) (pos 0)
          (λ below. absurd (not_neither (apart is, (λ blocked. absurd (omega (arith, ints, below, blocked.none_below k inside))))))
          (λ from. from);
    }

-- a walk that has ended stands at its end
pub at_end : (walk : TableauWalk) → (IsReached walk.problem walk.table → IsAtTarget (state_of walk)) → (IsBlocked walk.problem walk.table → IsAtOptimum (state_of walk)) → HasEnded walk → IsAtEnd (state_of walk)
at_end walk one other (inl reached) = inl (one reached)
at_end walk one other (inr blocked) = inr (other blocked)

-- one that is stuck there is blocked
pub blocked_really : (walk : TableauWalk) → objective_of (state_of walk) ≡ value walk.table → IsAtOptimum (state_of walk) → HasEnded walk → IsBlocked walk.problem walk.table
blocked_really walk objective stuck (inr blocked) = blocked
blocked_really walk objective stuck (inl reached) = absurd (omega (arith, ints, stuck.short, objective, reached))
