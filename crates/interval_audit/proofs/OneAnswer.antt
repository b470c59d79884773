-- A question has one answer: walks on its problem have one end, and what is read there in lowest terms is one.
use Rattle.std.proofs.Common.{◌≡◌, ℕ, ◌*◌, ◌/◌, ◌<◌, Bool, List, [], ◌∷◌, map, All, ℤ, pos, negsuc, ◌*ℤ◌, ◌≤ℤ◌, unsigned_abs, arith, refl, ap, sym, subst, ◌∙◌}
use Prim.Native.Nat.{◌∣◌}
use Rattle.std.proofs.Math.IntN.{*ℤ_comm}
use Rattle.std.proofs.Math.Nat.{dvd-mul_right, dvd_of_mul-dvd-mul_left, mul-div_cancel'}
use Rattle.std.proofs.lemmas.Int.{ints, unsigned_abs-mul}
use Rattle.std.proofs.lemmas.List.Elements.{All-nil, All-cons, All-head, All-tail}
use Rattle.sdc_base.specs.declared.cell.Cell.{Cell}
use Rattle.sdc_base.specs.declared.system.System.{System}
use Rattle.sdc_base.specs.Forms.{Term}
use Rattle.tableau.specs.declared.problem.Problem.{Problem}
use Rattle.tableau.specs.Tables.{Table}
use Rattle.tableau.specs.Readings.{values_of, slacks_of}
use Rattle.tableau.specs.Steps.{CanImprove, IsReached, IsBlocked}
use Rattle.tableau.specs.Tableaus.{TableauWalk}
use Rattle.tableau.specs.Walks.{IsWalk}
use Rattle.tableau.proofs.WellFormedProblems.{well_formed_problem, well_formed_bounds, reached_stays, cannot_stays}
use Rattle.tableau.proofs.OneStep.{same_from_times, end_is_one}
use Rattle.tableau.proofs.SomeStep.{IsCommon, common_of}
use Rattle.worlds.specs.declared.world.Move.{Move}
use Rattle.worlds.specs.declared.world.World.{World}
use Rattle.worlds.specs.declared.multipliers.Multipliers.{Multipliers}
use Rattle.worlds.specs.NumberLists.{terms_of}
use Rattle.interval_audit.specs.declared.question.Question.{Question}
use Rattle.sdc_base.specs.declared.fraction.Fraction.{Fraction}
use Rattle.interval_audit.specs.declared.answer.Answer.{Answer}
use Rattle.interval_audit.specs.declared.answer.Answer.TheVariants.{Reaches, Stops}
use Rattle.interval_audit.specs.Answers.{IsTrueAnswer, IsReadOff, IsWalkAnswerIn, asked_move_in, AnswerIsOne}
use Rattle.interval_audit.specs.Groups.{Group}
use Rattle.interval_audit.specs.LowestTerms.{AreLowestTermsOf, times_each}
use Rattle.sdc_base.specs.Systems.{number_at}
use Rattle.interval_audit.specs.Readings.{IsWorldOf, AreMultipliersOf}
use Rattle.interval_audit.proofs.SameGroups.{groups_alike}

-- ---- lowest terms are one

abbrev pub sizes : List Term → List ℤ
sizes terms = map (λ term. term.1) terms

each_times : (by : ℤ) (less : List Term) → All (λ number. unsigned_abs by ∣ unsigned_abs number) (sizes (times_each by less))
each_times by [] = All-nil (λ number. unsigned_abs by ∣ unsigned_abs number)
each_times by (x ∷ xs) = All-cons (λ number. unsigned_abs by ∣ unsigned_abs number) (by *ℤ x.1) (sizes (times_each by xs)) (subst (λ n. unsigned_abs by ∣ n) (sym (unsigned_abs-mul by x.1)) (dvd-mul_right (unsigned_abs by) (unsigned_abs x.1))) (each_times by xs)

-- what is left of a divisor of multiples divides what they are multiples of
left_divides : (by : ℤ) (k : ℕ) (z : ℤ) → 0 < unsigned_abs by → (unsigned_abs by * k) ∣ unsigned_abs (by *ℤ z) → k ∣ unsigned_abs z
left_divides by k z up h = dvd_of_mul-dvd-mul_left k up (subst (λ n. (unsigned_abs by * k) ∣ n) (unsigned_abs-mul by z) h)

each_left : (by : ℤ) (k : ℕ) (less : List Term) → 0 < unsigned_abs by → All (λ number. (unsigned_abs by * k) ∣ unsigned_abs number) (sizes (times_each by less)) → All (λ (term : Term). k ∣ unsigned_abs term.1) less
each_left by k [] up all = All-nil (λ (term : Term). k ∣ unsigned_abs term.1)
each_left by k (x ∷ xs) up all =
    let P : ℤ → Type 0 = λ number. (unsigned_abs by * k) ∣ unsigned_abs number in
    All-cons (λ (term : Term). k ∣ unsigned_abs term.1) x xs (left_divides by k x.1 up (All-head P (by *ℤ x.1) (sizes (times_each by xs)) all)) (each_left by k xs up (All-tail P (by *ℤ x.1) (sizes (times_each by xs)) all))

size_up : (z : ℤ) → pos 1 ≤ℤ z → 0 < unsigned_abs z
size_up (pos n) up = omega (arith, ints, up)
size_up (negsuc n) up = absurd (omega (arith, ints, up))

same_size : (x y : ℤ) → pos 1 ≤ℤ x → pos 1 ≤ℤ y → unsigned_abs x ≡ unsigned_abs y → x ≡ y
same_size (pos n) (pos m) up also is = ap pos is
same_size (negsuc n) y up also is = absurd (omega (arith, ints, up))
same_size x (negsuc m) up also is = absurd (omega (arith, ints, also))

-- numbers are brought to lowest terms by their greatest divisor
greatest_by : (den : ℤ) (terms : List Term) (lower : ℤ) (less : List Term) (g : ℕ) → (reduced : AreLowestTermsOf den terms lower less) → IsCommon (unsigned_abs den) (sizes terms) g → unsigned_abs reduced.by ≡ g
greatest_by den terms lower less g reduced common =
    let by : ℤ = reduced.by in
    let b : ℕ = unsigned_abs by in
    let up : 0 < b = size_up by reduced.by_positive in
    let den_divided : b ∣ unsigned_abs den = subst (λ z. b ∣ unsigned_abs z) (sym reduced.den_same) (subst (λ n. b ∣ n) (sym (unsigned_abs-mul by lower)) (dvd-mul_right b (unsigned_abs lower))) in
    let each : All (λ number. b ∣ unsigned_abs number) (sizes terms) = subst (λ (ts : List Term). All (λ number. b ∣ unsigned_abs number) (sizes ts)) (sym reduced.each_same) (each_times by less) in
    let divides : b ∣ g = common.greatest b den_divided each in
    let k : ℕ = g / b in
    let whole : b * k ≡ g = mul-div_cancel' b divides in
    let lower_left : k ∣ unsigned_abs lower = left_divides by k lower up (subst (λ z. (b * k) ∣ unsigned_abs z) reduced.den_same (subst (λ n. n ∣ unsigned_abs den) (sym whole) common.start_divides)) in
    let less_left : All (λ (term : Term). k ∣ unsigned_abs term.1) less =
    each_left by k less up (subst (λ (ts : List Term). All (λ number. (b * k) ∣ unsigned_abs number) (sizes ts)) reduced.each_same (subst (λ n. All (λ number. n ∣ unsigned_abs number) (sizes terms)) (sym whole) common.each)) in
    let one : k ≡ 1 = reduced.lowest.alone k (record { den_divided = lower_left; each_divided = less_left }) in
    let same : b * 1 ≡ b = omega arith in
    sym same ∙ ap (λ n. b * n) (sym one) ∙ whole

same_term : (x y : Term) → x.0 ≡ y.0 → x.1 ≡ y.1 → x ≡ y
same_term x y name number = ap (λ n. (n, x.1)) name ∙ ap (λ z. (y.0, z)) number

same_front : (x y : Term) (xs ys : List Term) → x ≡ y → xs ≡ ys → (x ∷ xs) ≡ (y ∷ ys)
same_front x y xs ys one rest = ap (λ (t : Term). t ∷ xs) one ∙ ap (λ (ts : List Term). y ∷ ts) rest

same_terms : (by : ℤ) → pos 1 ≤ℤ by → (xs ys : List Term) → times_each by xs ≡ times_each by ys → xs ≡ ys
same_terms by up [] [] is = refl
same_terms by up [] (y ∷ ys) is = cc
same_terms by up (x ∷ xs) [] is = cc
same_terms by up (x ∷ xs) (y ∷ ys) is =
    let mine : Term = (x.0, by *ℤ x.1) in
    let theirs : Term = (y.0, by *ℤ y.1) in
    let head : mine ≡ theirs = cc in
    let tail : times_each by xs ≡ times_each by ys = cc in
    let times : by *ℤ x.1 ≡ by *ℤ y.1 = ap (λ (t : Term). t.1) head in
    let number : x.1 ≡ y.1 = same_from_times by x.1 y.1 up (*ℤ_comm x.1 by ∙ times ∙ *ℤ_comm by y.1) in
    same_front x y xs ys (same_term x y (ap (λ (t : Term). t.0) head) number) (same_terms by up xs ys tail)

pub one_lowest : (den : ℤ) (terms : List Term) (one : ℤ) (those : List Term) (other : ℤ) (these : List Term) → AreLowestTermsOf den terms one those → AreLowestTermsOf den terms other these → (one ≡ other) × (those ≡ these)
one_lowest den terms one those other these a b =
    let common : (g : ℕ) × IsCommon (unsigned_abs den) (sizes terms) g = common_of (unsigned_abs den) (sizes terms) in
    let same : a.by ≡ b.by = same_size a.by b.by a.by_positive b.by_positive (greatest_by den terms one those common.0 a common.1 ∙ sym (greatest_by den terms other these common.0 b common.1)) in (
      same_from_times b.by one other b.by_positive (*ℤ_comm one b.by ∙ ap (λ z. z *ℤ one) (sym same) ∙ sym a.den_same ∙ b.den_same ∙ *ℤ_comm b.by other),
      same_terms b.by b.by_positive those these (ap (λ z. times_each z those) (sym same) ∙ sym a.each_same ∙ b.each_same),
    )

-- ---- worlds, multipliers and fractions by their parts

same_moves : (xs ys : List Move) → terms_of xs ≡ terms_of ys → xs ≡ ys
same_moves [] [] is = refl
same_moves [] (y ∷ ys) is = cc
same_moves (x ∷ xs) [] is = cc
same_moves (x ∷ xs) (y ∷ ys) is =
    let Made : ℕ → ℤ → Move = λ c b. record { cell = c; by = b } in
    let mine : Term = (x.cell, x.by) in
    let theirs : Term = (y.cell, y.by) in
    let head : mine ≡ theirs = cc in
    let tail : terms_of xs ≡ terms_of ys = cc in
    let own : x ≡ y = ap (λ c. Made c x.by) (ap (λ (t : Term). t.0) head) ∙ ap (λ b. Made y.cell b) (ap (λ (t : Term). t.1) head) in
    ap (λ (t : Move). t ∷ xs) own ∙ ap (λ (ts : List Move). y ∷ ts) (same_moves xs ys tail)

same_world : (x y : World) → x.den ≡ y.den → terms_of x.moves ≡ terms_of y.moves → x ≡ y
same_world x y den moves =
    let Made : ℤ → List Move → World = λ d m. record { den = d; moves = m } in
    ap (λ d. Made d x.moves) den ∙ ap (λ (m : List Move). Made y.den m) (same_moves x.moves y.moves moves)

same_multipliers : (x y : Multipliers) → x.den ≡ y.den → x.by_relation ≡ y.by_relation → x ≡ y
same_multipliers x y den listed =
    let Made : ℤ → List Term → Multipliers = λ d m. record { den = d; by_relation = m } in
    ap (λ d. Made d x.by_relation) den ∙ ap (λ (m : List Term). Made y.den m) listed

same_fraction : (x y : Fraction) → x.num ≡ y.num → x.den ≡ y.den → x ≡ y
same_fraction x y num den =
    let Made : ℤ → ℤ → Fraction = λ n d. record { num = n; den = d } in
    ap (λ n. Made n x.den) num ∙ ap (λ d. Made y.num d) den

-- ---- what is read off one table is one answer

one_world : (system : System) (group : Group) (problem other : Problem) (table last : Table) (x y : World) → problem ≡ other → table ≡ last → IsWorldOf system group table.den (number_at (values_of problem table)) x → IsWorldOf system group last.den (number_at (values_of other last)) y → x ≡ y
one_world system group problem other table last x y same_problem same_table a b =
    let own : IsWorldOf system group last.den (number_at (values_of other last)) x =
    subst (λ (p : Problem). IsWorldOf system group last.den (number_at (values_of p last)) x) same_problem
    (subst (λ (t : Table). IsWorldOf system group t.den (number_at (values_of problem t)) x) same_table a) in
    let one = one_lowest last.den _ x.den (terms_of x.moves) y.den (terms_of y.moves) own b in
    same_world x y one.0 one.1

one_multipliers : (system : System) (cells : List Cell) (group : Group) (problem other : Problem) (table last : Table) (x y : Multipliers) → problem ≡ other → table ≡ last → AreMultipliersOf system cells group table.den (slacks_of problem table) x → AreMultipliersOf system cells group last.den (slacks_of other last) y → x ≡ y
one_multipliers system cells group problem other table last x y same_problem same_table a b =
    let own : AreMultipliersOf system cells group last.den (slacks_of other last) x =
    subst (λ (p : Problem). AreMultipliersOf system cells group last.den (slacks_of p last) x) same_problem
    (subst (λ (t : Table). AreMultipliersOf system cells group t.den (slacks_of problem t) x) same_table a) in
    let one = one_lowest last.den _ x.den x.by_relation y.den y.by_relation own b in
    same_multipliers x y one.0 one.1

-- a table isn't reached and blocked
not_both : (problem other : Problem) (table last : Table) → problem ≡ other → table ≡ last → IsReached problem table → IsBlocked other last → ⊥
not_both problem other table last same_problem same_table reached blocked =
    let own : IsReached other last = subst (λ (p : Problem). IsReached p last) same_problem (subst (λ (t : Table). IsReached problem t) same_table reached) in
    absurd (omega (arith, ints, own, blocked.below))

one_read : (system : System) (cells : List Cell) (flags : List Bool) (group : Group) (question : Question) (one other : TableauWalk) → one.problem ≡ other.problem → one.table ≡ other.table → (a b : Answer) → IsReadOff system cells group one a → IsReadOff system cells group other b → IsTrueAnswer system cells flags question a → IsTrueAnswer system cells flags question b → a ≡ b
one_read system cells flags group question one other same_problem same_table (Reaches x) (Reaches y) ra rb right_a right_b =
    ap (λ (w : World). Reaches w) (one_world system group one.problem other.problem one.table other.table x y same_problem same_table ra.1 rb.1)
one_read system cells flags group question one other same_problem same_table (Reaches x) (Stops best y m) ra rb right_a right_b =
    absurd (not_both one.problem other.problem one.table other.table same_problem same_table ra.0 rb.0)
one_read system cells flags group question one other same_problem same_table (Stops best x m) (Reaches y) ra rb right_a right_b =
    absurd (not_both other.problem one.problem other.table one.table (sym same_problem) (sym same_table) rb.0 ra.0)
one_read system cells flags group question one other same_problem same_table (Stops best x m) (Stops last y k) ra rb right_a right_b =
    let world : x ≡ y = one_world system group one.problem other.problem one.table other.table x y same_problem same_table ra.1 rb.1 in
    let weights : m ≡ k = one_multipliers system cells group one.problem other.problem one.table other.table m k same_problem same_table ra.2 rb.2 in
    let fraction : best ≡ last = same_fraction best last (right_a.num ∙ ap (λ (w : World). asked_move_in question w) world ∙ sym right_b.num) (right_a.den ∙ ap (λ (w : World). w.den) world ∙ sym right_b.den) in
    ap (λ (f : Fraction). Stops f x m) fraction ∙ ap (λ (w : World). Stops last w m) world ∙ ap (λ (n : Multipliers). Stops last y n) weights

-- where a walk has ended its table can't be improved
ended : (system : System) (cells : List Cell) (group : Group) (walk : TableauWalk) (answer : Answer) → IsReadOff system cells group walk answer → CanImprove walk.problem walk.table → ⊥
ended system cells group walk (Reaches world) read can = reached_stays walk.problem walk.table read.0 can
ended system cells group walk (Stops best world multipliers) read can = cannot_stays walk.problem walk.table read.0.none_below can

one_answer_of : (system : System) (cells : List Cell) (flags : List Bool) (group : Group) (question : Question) (a b : Answer) → IsWalkAnswerIn system cells group question a → IsWalkAnswerIn system cells group question b → IsTrueAnswer system cells flags question a → IsTrueAnswer system cells flags question b → a ≡ b
one_answer_of system cells flags group question a b of_a of_b right_a right_b =
    let one : TableauWalk = of_a.0 in
    let other : TableauWalk = of_b.0 in
    let same : one.problem ≡ other.problem = of_a.2 ∙ sym of_b.2 in
    let walk : IsWalk other.problem one.improved one.table = subst (λ (p : Problem). IsWalk p one.improved one.table) same of_a.1.steps in
    let stays : CanImprove other.problem one.table → ⊥ = subst (λ (p : Problem). CanImprove p one.table → ⊥) same (ended system cells group one a of_a.3) in
    let end = end_is_one other.problem one.improved other.improved one.table other.table (well_formed_problem other.problem of_b.1.well_formed) (well_formed_bounds other.problem of_b.1.well_formed) walk of_b.1.steps stays (ended system cells group other b of_b.3) in
    one_read system cells flags group question one other same end.1 a b of_a.3 of_b.3 right_a right_b

pub answer_is_one : AnswerIsOne
answer_is_one system cells flags question a b read_a read_b right_a right_b =
    let same : read_a.0 ≡ read_b.0 = groups_alike system.relations flags question.cell read_a.0 read_b.0 read_a.1 read_b.1 in
    one_answer_of system cells flags read_b.0 question a b (subst (λ (g : Group). IsWalkAnswerIn system cells g question a) same read_a.3) read_b.3 right_a right_b
