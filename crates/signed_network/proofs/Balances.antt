-- Relations hold exactly where their arcs are balanced, and going round keeps the balance.
use Rattle.std.proofs.Common.{◌≡◌, inl, inr, ℕ, zero, suc, ◌+◌, ◌<◌, ◌≤◌, Bool, true, false, List, [], ◌∷◌, length, All, get_or, slice_get, Some, ℤ, pos, neg_ℤ, ◌+ℤ◌, ◌*ℤ◌, arith, refl, ap, sym, subst, ◌∙◌}
use Rattle.std.specs.Option.{option_map_or}
use Rattle.std.proofs.Math.IntN.{*ℤ_comm}
use Rattle.std.proofs.lemmas.Int.{ints}
use Rattle.std.proofs.lemmas.Bool.{cases_lt}
use Rattle.std.proofs.lemmas.List.Elements.{All-get_or}
use Rattle.std.proofs.lemmas.Option.{slice_get-get_or}
use Rattle.sdc_base.specs.declared.relation.Relation.{Relation}
use Rattle.sdc_base.specs.Totals.{sum_below}
use Rattle.sdc_base.specs.Forms.{count_of, form_times}
use Rattle.sdc_base.specs.Systems.{Numbers, NamesCells, HoldOn, form}
use Rattle.sdc_base.specs.Signs.{number_with_sign, signed_count}
use Rattle.sdc_base.proofs.WholeNumbers.{distrib_right, minus_times, assoc}
use Rattle.sdc_base.proofs.TotalLemmas.{sum_below-add, sum_below-times, sum_below-same, only}
use Rattle.sdc_base.proofs.WeakDual.{value_of-form_times, by_cells, terms_inside}
use Rattle.signed_network.specs.declared.arcs.Arc.{Arc}
use Rattle.signed_network.specs.Arcs.{at_point, brings_to, arc_at, AreArcsOf}
use Rattle.signed_network.specs.Balances.{IsBalanced, numbers_after_turns}

-- ---- sums

zeros : (n : ℕ) → sum_below n (λ c. pos 0) ≡ pos 0
zeros zero = refl
zeros (suc n) = omega (arith, ints, zeros n)

none_below : (n : ℕ) (f : ℕ → ℤ) → ((c : ℕ) → c < n → f c ≡ pos 0) → sum_below n f ≡ pos 0
none_below n f none = sum_below-same n f (λ c. pos 0) none ∙ zeros n

minus_below : (n : ℕ) (f : ℕ → ℤ) → sum_below n (λ c. neg_ℤ (f c)) ≡ neg_ℤ (sum_below n f)
minus_below zero f = refl
minus_below (suc n) f = omega (arith, ints, minus_below n f)

exchange : (m n : ℕ) (f : ℕ → ℕ → ℤ) → sum_below m (λ p. sum_below n (λ c. f p c)) ≡ sum_below n (λ c. sum_below m (λ p. f p c))
exchange zero n f = sym (zeros n)
exchange (suc m) n f = ap (λ z. z +ℤ sum_below n (λ c. f m c)) (exchange m n f) ∙ sym (sum_below-add n (λ c. sum_below m (λ p. f p c)) (λ c. f m c))

-- an arc brings 0 to all points together
brought_none : (arc : Arc) (points : ℕ) → arc.from < points → arc.to < points → sum_below points (λ p. brings_to arc p) ≡ pos 0
brought_none arc points from to =
    sum_below-add points (λ p. at_point arc.to p) (λ p. neg_ℤ (at_point arc.from p))
    ∙ omega (arith, ints, minus_below points (λ p. at_point arc.from p), only points arc.to (λ _. pos 1) to, only points arc.from (λ _. pos 1) from)

-- ---- relations

-- a relation's form, cell by cell
pub form_by_cells : (n : ℕ) (numbers : Numbers) (r : Relation) → NamesCells n r → form numbers r ≡ sum_below n (λ c. count_of r c *ℤ numbers c)
form_by_cells n numbers r named =
    let once : pos 1 *ℤ form numbers r ≡ form numbers r = omega (arith, ints) in
    sym once ∙ sym (value_of-form_times numbers (pos 1) r) ∙ sym (by_cells n numbers (form_times (pos 1) r) (terms_inside n (pos 1) r named))

count_is : (relations : List Relation) (signs : List Bool) (number cell : ℕ) (r : Relation) → slice_get relations number ≡ Some r → signed_count relations signs number cell ≡ number_with_sign (get_or signs number true) (count_of r cell)
count_is relations signs number cell r found = ap (λ o. number_with_sign (get_or signs number true) (option_map_or (λ (q : Relation). count_of q cell) o (pos 0))) found

-- an item where there is one
item_there : {X : Type 0} (xs : List X) (n : ℕ) → n < length xs → (x : X) × (slice_get xs n ≡ Some x)
item_there {X} [] n inside = absurd (omega arith)
item_there {X} (x ∷ xs) n inside = (get_or (x ∷ xs) n x, slice_get-get_or (x ∷ xs) n x inside)

carried_signed : (s : Bool) (count number : ℤ) → number *ℤ number_with_sign s count ≡ number_with_sign s (count *ℤ number)
carried_signed true count number = *ℤ_comm number count
carried_signed false count number = *ℤ_comm number (neg_ℤ count) ∙ minus_times count number

signed_below : (s : Bool) (n : ℕ) (f : ℕ → ℤ) → sum_below n (λ c. number_with_sign s (f c)) ≡ number_with_sign s (sum_below n f)
signed_below true n f = refl
signed_below false n f = minus_below n f

signed_none : (s : Bool) (n : ℤ) → n ≡ pos 0 → number_with_sign s n ≡ pos 0
signed_none true n none = none
signed_none false n none = omega (arith, ints, none)

unsigned_none : (s : Bool) (n : ℤ) → number_with_sign s n ≡ pos 0 → n ≡ pos 0
unsigned_none true n none = none
unsigned_none false n none = omega (arith, ints, none)

-- what comes in at a relation, less what goes out, is its signed form
balance_is : (relations : List Relation) (signs : List Bool) (cells : ℕ) (arcs : List Arc) (numbers : Numbers) (number : ℕ) (r : Relation) → AreArcsOf relations signs cells arcs → NamesCells cells r → number < length relations → slice_get relations number ≡ Some r
    → sum_below (length arcs) (λ cell. numbers cell *ℤ brings_to (arc_at arcs cell) number) ≡ number_with_sign (get_or signs number true) (form numbers r)
balance_is relations signs cells arcs numbers number r are named below found =
    let s : Bool = get_or signs number true in
    ap (λ n. sum_below n (λ cell. numbers cell *ℤ brings_to (arc_at arcs cell) number)) are.each
    ∙ sum_below-same cells (λ cell. numbers cell *ℤ brings_to (arc_at arcs cell) number) (λ cell. number_with_sign s (count_of r cell *ℤ numbers cell))
    (λ cell inside. ap (λ z. numbers cell *ℤ z) (sym ((are.arced cell inside).counted number below) ∙ count_is relations signs number cell r found) ∙ carried_signed s (count_of r cell) (numbers cell))
    ∙ signed_below s cells (λ cell. count_of r cell *ℤ numbers cell)
    ∙ ap (λ z. number_with_sign s z) (sym (form_by_cells cells numbers r named))

found_in : {X : Type 0} (P : X → Type 0) (xs : List X) (n : ℕ) (x : X) → n < length xs → slice_get xs n ≡ Some x → All P xs → P x
found_in {X} P xs n x inside found all =
    let same : get_or xs n x ≡ x = (let there : slice_get xs n ≡ Some (get_or xs n x) = slice_get-get_or xs n x inside in cc) in
    subst P same (All-get_or P xs n x inside all)

all_points : (arcs : List Arc) (points : ℕ) (numbers : Numbers) → ((cell : ℕ) → cell < length arcs → ((arc_at arcs cell).from < points) × ((arc_at arcs cell).to < points)) → sum_below points (λ p. sum_below (length arcs) (λ cell. numbers cell *ℤ brings_to (arc_at arcs cell) p)) ≡ pos 0
all_points arcs points numbers within =
    exchange points (length arcs) (λ p cell. numbers cell *ℤ brings_to (arc_at arcs cell) p)
    ∙ none_below (length arcs) (λ cell. sum_below points (λ p. numbers cell *ℤ brings_to (arc_at arcs cell) p))
    (λ cell inside. sum_below-times points (numbers cell) (λ p. brings_to (arc_at arcs cell) p)
    ∙ ap (λ z. numbers cell *ℤ z) (brought_none (arc_at arcs cell) points (within cell inside).0 (within cell inside).1)
    ∙ *ℤ_comm (numbers cell) (pos 0) ∙ omega (arith, ints))

pub held_balanced : (relations : List Relation) (signs : List Bool) (cells : ℕ) (arcs : List Arc) (points : ℕ) (numbers : Numbers) → AreArcsOf relations signs cells arcs → All (NamesCells cells) relations → points ≡ length relations + 1
    → ((cell : ℕ) → cell < length arcs → ((arc_at arcs cell).from < points) × ((arc_at arcs cell).to < points)) → HoldOn numbers relations → IsBalanced arcs points numbers
held_balanced relations signs cells arcs points numbers are named many within hold point inside =
    let relation_balanced : (number : ℕ) → number < length relations → sum_below (length arcs) (λ cell. numbers cell *ℤ brings_to (arc_at arcs cell) number) ≡ pos 0 = λ number below.
    (let one = item_there relations number below in
    balance_is relations signs cells arcs numbers number one.0 are (found_in (NamesCells cells) relations number one.0 below one.1 named) below one.1
    ∙ signed_none (get_or signs number true) (form numbers one.0) (found_in (λ (r : Relation). form numbers r ≡ pos 0) relations number one.0 below one.1 hold)) in
    elim (cases_lt point (length relations)) as (λ _. sum_below (length arcs) (λ cell. numbers cell *ℤ brings_to (arc_at arcs cell) point) ≡ pos 0) [
      | inl below ↦ relation_balanced point below
      | inr not_below ↦
          let last : point ≡ length relations = omega (arith, many, inside, not_below) in
          let next : suc (length relations) ≡ points = omega (arith, many) in
          let all : sum_below (suc (length relations)) (λ p. sum_below (length arcs) (λ cell. numbers cell *ℤ brings_to (arc_at arcs cell) p)) ≡ pos 0 =
          subst (λ (n : ℕ). sum_below n (λ p. sum_below (length arcs) (λ cell. numbers cell *ℤ brings_to (arc_at arcs cell) p)) ≡ pos 0) (sym next) (all_points arcs points numbers within) in
          let others : sum_below (length relations) (λ p. sum_below (length arcs) (λ cell. numbers cell *ℤ brings_to (arc_at arcs cell) p)) ≡ pos 0 = none_below (length relations) (λ p. sum_below (length arcs) (λ cell. numbers cell *ℤ brings_to (arc_at arcs cell) p)) relation_balanced in
          subst (λ (p : ℕ). sum_below (length arcs) (λ cell. numbers cell *ℤ brings_to (arc_at arcs cell) p) ≡ pos 0) (sym last) (omega (arith, ints, all, others))
    ]

pub balanced_holds : (relations : List Relation) (signs : List Bool) (cells : ℕ) (arcs : List Arc) (points : ℕ) (numbers : Numbers) → AreArcsOf relations signs cells arcs → All (NamesCells cells) relations → length relations ≤ points → IsBalanced arcs points numbers → HoldOn numbers relations
balanced_holds relations signs cells arcs points numbers are named many balanced = λ k d below.
    let r : Relation = get_or relations k d in
    let found : slice_get relations k ≡ Some r = slice_get-get_or relations k d below in
    unsigned_none (get_or signs k true) (form numbers r) (sym (balance_is relations signs cells arcs numbers k r are (named k d below) below found) ∙ balanced k (omega (arith, many, below)))

-- ---- going round

gone_carried : (number by turn weight : ℤ) → (number +ℤ by *ℤ turn) *ℤ weight ≡ number *ℤ weight +ℤ by *ℤ (turn *ℤ weight)
gone_carried number by turn weight = distrib_right weight number (by *ℤ turn) ∙ ap (λ z. number *ℤ weight +ℤ z) (assoc by turn weight)

pub gone_balanced : (arcs : List Arc) (points : ℕ) (by : ℤ) (numbers turns after : Numbers) → IsBalanced arcs points numbers → IsBalanced arcs points turns → ((c : ℕ) → after c ≡ numbers_after_turns by numbers turns c) → IsBalanced arcs points after
gone_balanced arcs points by numbers turns after before turning is point inside =
    let w : ℕ → ℤ = λ cell. brings_to (arc_at arcs cell) point in
    let none : by *ℤ sum_below (length arcs) (λ cell. turns cell *ℤ w cell) ≡ pos 0 = ap (λ z. by *ℤ z) (turning point inside) ∙ *ℤ_comm by (pos 0) ∙ omega (arith, ints) in
    sum_below-same (length arcs) (λ cell. after cell *ℤ w cell) (λ cell. numbers cell *ℤ w cell +ℤ by *ℤ (turns cell *ℤ w cell)) (λ cell _. ap (λ z. z *ℤ w cell) (is cell) ∙ gone_carried (numbers cell) by (turns cell) (w cell))
    ∙ sum_below-add (length arcs) (λ cell. numbers cell *ℤ w cell) (λ cell. by *ℤ (turns cell *ℤ w cell))
    ∙ omega (arith, ints, before point inside, sum_below-times (length arcs) by (λ cell. turns cell *ℤ w cell), none)
