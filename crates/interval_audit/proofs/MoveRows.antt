-- The lists of a problem's columns, and the weights of its rows, by lists of moves and multipliers.
use Rattle.std.proofs.Common.{◌≡◌, ℕ, zero, suc, ◌%◌, ◌<◌, ◌==◌, not, Bool, true, false, List, [], slice_get, Option, None, Some, All, ℤ, pos, negsuc, neg_ℤ, ◌-ℤ◌, ◌*ℤ◌, ◌≤ℤ◌, arith, refl, ap, sym, ◌∙◌, subst, if◌then◌else◌}
use Rattle.std.specs.Option.{option_map_or}
use Rattle.std.proofs.Math.IntN.{*ℤ_comm}
use Rattle.std.proofs.lemmas.Int.{ints}
use Rattle.std.proofs.lemmas.Bool.Decides.{Decides-eqb, nat_tests}
use Rattle.std.proofs.lemmas.List.Elements.{All-weaker}
use Rattle.sdc_base.specs.declared.cell.Cell.{Cell}
use Rattle.sdc_base.specs.declared.relation.Relation.{Relation}
use Rattle.sdc_base.specs.declared.system.System.{System}
use Rattle.sdc_base.specs.Forms.{Term, form_times}
use Rattle.sdc_base.specs.Refutations.{rise}
use Rattle.sdc_base.specs.Systems.{Numbers}
use Rattle.sdc_base.proofs.WholeNumbers.{times_up}
use Rattle.tableau.specs.OptimalPairs.{IsNotBelowZeros}
use Rattle.tableau.proofs.Exchanges.{times_none}
use Rattle.interval_audit.specs.Groups.{Group}
use Rattle.interval_audit.specs.Columns.{rank, up_column, down_column, moves_of, entries_of}
use Rattle.interval_audit.specs.Labels.{Label, CapAbove, CapBelow, Form, Negated, is_met, form_at, fall}
use Rattle.interval_audit.specs.MovePairs.{bound_of, form_list, limit, places, toward}
use Rattle.interval_audit.specs.Points.{comes_to}
use Rattle.interval_audit.specs.Problems.{row_of}
use Rattle.interval_audit.proofs.LexSigns.{is_below, not_below, turned_not_below, not_below_same, not_below_zeros}
use Rattle.interval_audit.proofs.Moves.{found_inside, form_comes_to, terms_inside, moves_in, moves_out, cap_comes_to}
use Rattle.interval_audit.proofs.Points.{meets}
use Rattle.interval_audit.proofs.Shares.{rise_from}
use Rattle.interval_audit.proofs.SmallerProblems.{cell_up, cell_down, rest_up, rest_down, same_on, found_met, cell_of_column}
use Rattle.interval_audit.proofs.Spread.{entries_are_value}
use Rattle.interval_audit.proofs.Weights.{IsLabel}

-- ---- the lists of columns

abbrev pub up_list : ℕ → (ℕ → ℕ → ℤ) → ℕ → ℕ → ℤ
up_list size moves c i = if is_below size (moves c) then pos 0 else moves c i

abbrev pub down_list : ℕ → (ℕ → ℕ → ℤ) → ℕ → ℕ → ℤ
down_list size moves c i = if is_below size (moves c) then neg_ℤ (moves c i) else pos 0

abbrev pub column_list : Group → ℕ → ℕ → (ℕ → ℕ → ℤ) → ℕ → ℕ → ℤ
column_list group n size moves column i =
    if column % 2 == 0 then up_list size moves (cell_of_column group n column) i else down_list size moves (cell_of_column group n column) i

pub column_up : (group : Group) (n size : ℕ) (moves : ℕ → ℕ → ℤ) (c i : ℕ) → c < n → group c ≡ true → column_list group n size moves (up_column group c) i ≡ up_list size moves c i
column_up group n size moves c i below own =
    let at : ℕ = cell_of_column group n (up_column group c) in
    ap (λ m. if m == 0 then up_list size moves at i else down_list size moves at i) (rest_up (rank group c))
    ∙ ap (λ d. up_list size moves d i) (cell_up group n c below own)

pub column_down : (group : Group) (n size : ℕ) (moves : ℕ → ℕ → ℤ) (c i : ℕ) → c < n → group c ≡ true → column_list group n size moves (down_column group c) i ≡ down_list size moves c i
column_down group n size moves c i below own =
    let at : ℕ = cell_of_column group n (down_column group c) in
    ap (λ m. if m == 0 then up_list size moves at i else down_list size moves at i) (rest_down (rank group c))
    ∙ ap (λ d. down_list size moves d i) (cell_down group n c below own)

up_above : (size : ℕ) (moves : ℕ → ℕ → ℤ) (c : ℕ) → IsNotBelowZeros size (up_list size moves c)
up_above size moves c =
    elim (is_below size (moves c)) as (λ b. is_below size (moves c) ≡ b → IsNotBelowZeros size (λ i. if b then pos 0 else moves c i)) [
      | true ↦ λ is. not_below_zeros size
      | false ↦ λ is. not_below size (moves c) is
    ] refl

down_above : (size : ℕ) (moves : ℕ → ℕ → ℤ) (c : ℕ) → IsNotBelowZeros size (down_list size moves c)
down_above size moves c =
    elim (is_below size (moves c)) as (λ b. is_below size (moves c) ≡ b → IsNotBelowZeros size (λ i. if b then neg_ℤ (moves c i) else pos 0)) [
      | true ↦ λ is. turned_not_below size (moves c) is
      | false ↦ λ is. not_below_zeros size
    ] refl

pub column_above : (group : Group) (n size : ℕ) (moves : ℕ → ℕ → ℤ) (column : ℕ) → IsNotBelowZeros size (column_list group n size moves column)
column_above group n size moves column =
    let c : ℕ = cell_of_column group n column in
    elim (column % 2 == 0) as (λ b. IsNotBelowZeros size (λ i. if b then up_list size moves c i else down_list size moves c i)) [
      | true ↦ up_above size moves c
      | false ↦ down_above size moves c
    ]

-- up less down is the move
pub moves_back : (group : Group) (n size : ℕ) (moves : ℕ → ℕ → ℤ) (c i : ℕ) → (group c ≡ false → moves c i ≡ pos 0) → c < n → moves_of group (λ v. column_list group n size moves v i) c ≡ moves c i
moves_back group n size moves c i outside below =
    let x : Numbers = λ v. column_list group n size moves v i in
    let m : ℤ = moves c i in
    elim (group c) as (λ b. group c ≡ b → moves_of group x c ≡ m) [
      | true ↦ λ own.
          moves_in group x c own
          ∙ ap (λ z. z -ℤ x (down_column group c)) (column_up group n size moves c i below own)
          ∙ ap (λ z. up_list size moves c i -ℤ z) (column_down group n size moves c i below own)
          ∙ elim (is_below size (moves c)) as (λ b. (if b then pos 0 else m) -ℤ (if b then neg_ℤ m else pos 0) ≡ m) [ true ↦ omega (arith, ints) | false ↦ omega (arith, ints) ]
      | false ↦ λ out. moves_out group x c out ∙ sym (outside out)
    ] refl

-- ---- what rows come to

-- whether the row's cap is on the side to which its cell doesn't move
abbrev pub idle : ℕ → (ℕ → ℕ → ℤ) → Label → Bool
idle size moves (CapAbove c) = is_below size (moves c)
idle size moves (CapBelow c) = not (is_below size (moves c))
idle size moves (Form k) = false
idle size moves (Negated k) = false

abbrev pub come : System → List Cell → Group → (ℕ → ℕ → ℤ) → List Term → ℕ → ℤ
come system cells group moves entries i = comes_to (λ v. column_list group system.cells (places system cells group) moves v i) entries

form_inside : (system : System) (group : Group) (times : ℤ) (k : ℕ) → meets group system.relations k ≡ true → All (λ (t : Term). t.0 < system.cells) (form_at system.relations times k)
form_inside system group times k met =
    let found : (r : Relation) × (slice_get system.relations k ≡ Some r) × (is_met group r ≡ true) = found_met group system.relations k met in
    let r : Relation = found.0 in
    let terms_are : form_at system.relations times k ≡ form_times times r = ap (λ o. option_map_or (form_times times) o []) found.1 in
    subst (All (λ (t : Term). t.0 < system.cells)) (sym terms_are) (terms_inside system.cells times r (found_inside system k r found.1))

form_come : (system : System) (cells : List Cell) (group : Group) (moves : ℕ → ℕ → ℤ) (k i : ℕ) → ((c i : ℕ) → group c ≡ false → moves c i ≡ pos 0) → meets group system.relations k ≡ true →
    come system cells group moves (entries_of group system.cells (form_at system.relations (pos 1) k)) i ≡ form_list system moves k i
form_come system cells group moves k i outside met =
    let x : Numbers = λ v. column_list group system.cells (places system cells group) moves v i in
    let terms : List Term = form_at system.relations (pos 1) k in
    let inside : All (λ (t : Term). t.0 < system.cells) terms = form_inside system group (pos 1) k met in
    entries_are_value group system.cells x terms inside
    ∙ same_on (moves_of group x) (λ c. moves c i) terms (All-weaker (λ (t : Term). t.0 < system.cells) (λ (t : Term). moves_of group x t.0 ≡ moves t.0 i) (λ t below. moves_back group system.cells (places system cells group) moves t.0 i (outside t.0 i) below) terms inside)

negated_come : (system : System) (group : Group) (x : Numbers) (k : ℕ) → meets group system.relations k ≡ true →
    comes_to x (entries_of group system.cells (form_at system.relations (negsuc 0) k)) ≡ neg_ℤ (comes_to x (entries_of group system.cells (form_at system.relations (pos 1) k)))
negated_come system group x k met =
    let found : (r : Relation) × (slice_get system.relations k ≡ Some r) × (is_met group r ≡ true) = found_met group system.relations k met in
    let r : Relation = found.0 in
    omega (arith, ints, form_comes_to system group x (negsuc 0) k r found.1, form_comes_to system group x (pos 1) k r found.1)

pub come_is : (system : System) (cells : List Cell) (group : Group) (moves : ℕ → ℕ → ℤ) (label : Label) (i : ℕ) → ((c i : ℕ) → group c ≡ false → moves c i ≡ pos 0) → IsLabel system cells group label →
    come system cells group moves (row_of system cells group label).entries i ≡ (if idle (places system cells group) moves label then pos 0 else toward system moves label i)
come_is system cells group moves (CapAbove c) i outside is =
    cap_comes_to (λ v. column_list group system.cells (places system cells group) moves v i) (up_column group c) ∙ column_up group system.cells (places system cells group) moves c i is.0 is.1
come_is system cells group moves (CapBelow c) i outside is =
    let m : ℤ = moves c i in
    cap_comes_to (λ v. column_list group system.cells (places system cells group) moves v i) (down_column group c) ∙ column_down group system.cells (places system cells group) moves c i is.0 is.1
    ∙ elim (is_below (places system cells group) (moves c)) as (λ b. (if b then neg_ℤ m else pos 0) ≡ (if not b then pos 0 else neg_ℤ m)) [ true ↦ refl | false ↦ refl ]
come_is system cells group moves (Form k) i outside is = form_come system cells group moves k i outside is
come_is system cells group moves (Negated k) i outside is =
    negated_come system group (λ v. column_list group system.cells (places system cells group) moves v i) k is
    ∙ ap neg_ℤ (form_come system cells group moves k i outside is)

pub idle_turned : (system : System) (size : ℕ) (moves : ℕ → ℕ → ℤ) (label : Label) → idle size moves label ≡ true → IsNotBelowZeros size (λ i. neg_ℤ (toward system moves label i))
idle_turned system size moves (CapAbove c) is = turned_not_below size (moves c) is
idle_turned system size moves (CapBelow c) is =
    let back : is_below size (moves c) ≡ false = elim (is_below size (moves c)) as (λ b. not b ≡ true → b ≡ false) [ true ↦ λ no. absurd cc | false ↦ λ _. refl ] is in
    not_below_same size (moves c) (λ i. neg_ℤ (neg_ℤ (moves c i))) (λ i _. omega (arith, ints)) (not_below size (moves c) back)
idle_turned system size moves (Form k) is = absurd cc
idle_turned system size moves (Negated k) is = absurd cc

-- ---- bounds' lists

bound_above : (cells : List Cell) (label : Label) → pos 0 ≤ℤ bound_of cells label
bound_above cells (CapAbove c) = by (slice_get cells c)
  where
    by : (o : Option Cell) → pos 0 ≤ℤ option_map_or rise o (pos 0)
    by None = omega (arith, ints)
    by (Some cell) = rise_from cell
bound_above cells (CapBelow c) = by (slice_get cells c)
  where
    by : (o : Option Cell) → pos 0 ≤ℤ option_map_or fall o (pos 0)
    by None = omega (arith, ints)
    by (Some cell) = omega (arith, ints, cell.low_within)
bound_above cells (Form k) = omega (arith, ints)
bound_above cells (Negated k) = omega (arith, ints)

times_above : (d b : ℤ) → pos 1 ≤ℤ d → pos 0 ≤ℤ b → pos 0 ≤ℤ (d *ℤ b)
times_above d b up also = omega (arith, ints, times_up d (pos 0) b (omega (arith, ints)) also, times_none d)

pub limit_above : (cells : List Cell) (d : ℤ) (k : ℕ) (label : Label) (i : ℕ) → pos 1 ≤ℤ d → pos 0 ≤ℤ (d *ℤ limit cells k label i)
limit_above cells d k label zero up = times_above d (bound_of cells label) up (bound_above cells label)
limit_above cells d k label (suc s) up = times_above d (if k == s then pos 1 else pos 0) up (elim (k == s) as (λ b. pos 0 ≤ℤ (if b then pos 1 else pos 0)) [ true ↦ omega (arith, ints) | false ↦ omega (arith, ints) ])

-- they are above 0
pub limit_not_below : (cells : List Cell) (size : ℕ) (d : ℤ) (k : ℕ) (label : Label) → pos 1 ≤ℤ d → suc k < size → IsNotBelowZeros size (λ i. neg_ℤ (d *ℤ limit cells k label i)) → ⊥
limit_not_below cells size d k label up inside turned =
    let first : neg_ℤ (d *ℤ limit cells k label 0) ≡ pos 0 = omega (arith, ints, limit_above cells d k label 0 up, turned 0 (omega arith) (λ j less. absurd (omega arith))) in
    let unit : (s : ℕ) → s < k → (k == s) ≡ false = λ s less. grind (arith, nat_tests, less) in
    let later : (s : ℕ) → s < k → neg_ℤ (d *ℤ limit cells k label (suc s)) ≡ pos 0 = λ s less. ap (λ b. neg_ℤ (d *ℤ (if b then pos 1 else pos 0))) (unit s less) ∙ ap neg_ℤ (times_none d) in
    let own : d *ℤ limit cells k label (suc k) ≡ d *ℤ pos 1 = ap (λ b. d *ℤ (if b then pos 1 else pos 0)) ((Decides-eqb k k).1 refl) in
    let at : pos 0 ≤ℤ neg_ℤ (d *ℤ limit cells k label (suc k)) = turned (suc k) inside (before (λ j. neg_ℤ (d *ℤ limit cells k label j) ≡ pos 0) k first later) in
    omega (arith, ints, at, own, *ℤ_comm d (pos 1))
  where
    before : (P : ℕ → Type 0) (k : ℕ) → P 0 → ((s : ℕ) → s < k → P (suc s)) → (j : ℕ) → j < suc k → P j
    before P k first later zero less = first
    before P k first later (suc s) less = later s (omega arith)
