-- A basis determines the objective's list.
use Rattle.std.proofs.Common.{◌≡◌, ◌≢◌, ℕ, zero, suc, ◌<◌, ◌==◌, true, false, List, [], ◌∷◌, ◌++◌, length, map, slice_index, slice_index_or, get_or, ℤ, pos, neg_ℤ, ◌+ℤ◌, ◌*ℤ◌, arith, refl, ap, sym, ◌∙◌, if◌then◌else◌}
use Rattle.std.proofs.Math.IntN.{*ℤ_comm}
use Rattle.std.proofs.lemmas.Int.{ints}
use Rattle.std.proofs.lemmas.Bool.Decides.{nat_tests}
use Rattle.std.proofs.lemmas.List.{get_or-map, length-map}
use Rattle.sdc_base.proofs.WholeNumbers.{distrib, minus_times, swap_times}
use Rattle.tableau.specs.Tables.{Holds, dot, under_row, row_form}
use Rattle.tableau.specs.RowLists.{objective_list, BasisDetermines}
use Rattle.tableau.proofs.Exchanges.{times_none}
use Rattle.tableau.proofs.Rising.{probe_amounts, probe_whole, objective_is_form}

-- amounts with those of some members replaced
abbrev pub replaced : List ℕ → List ℤ → (ℕ → ℤ) → ℕ → ℤ
replaced [] values base v = base v
replaced (m ∷ members) [] base v = base v
replaced (m ∷ members) (a ∷ values) base v = if m == v then a else replaced members values base v

pub not_replaced : (members : List ℕ) (values : List ℤ) (base : ℕ → ℤ) (v : ℕ) → ((k : ℕ) → k < length members → slice_index members k ≢ v) → replaced members values base v ≡ base v
not_replaced [] values base v apart = refl
not_replaced (m ∷ members) [] base v apart = refl
not_replaced (m ∷ members) (a ∷ values) base v apart =
    let first : m ≢ v = apart 0 (omega arith) in
    let test : (m == v) ≡ false = grind (arith, nat_tests) in
    rw test (not_replaced members values base v (λ k below. apart (suc k) (omega arith)))

pub replaced_at : (members : List ℕ) (values : List ℤ) (base : ℕ → ℤ) (k : ℕ) → k < length members → length values ≡ length members → ((i j : ℕ) → i < length members → j < length members → slice_index members i ≡ slice_index members j → i ≡ j) → replaced members values base (slice_index members k) ≡ get_or values k (pos 0)
replaced_at [] values base k within long distinct = absurd (omega arith)
replaced_at (m ∷ members) [] base k within long distinct = absurd (omega arith)
replaced_at (m ∷ members) (a ∷ values) base zero within long distinct = let test : (m == m) ≡ true = grind (arith, nat_tests) in rw test refl
replaced_at (m ∷ members) (a ∷ values) base (suc k) within long distinct =
    let other : m ≢ slice_index members k = λ same. absurd (let clash : 0 ≡ suc k = distinct 0 (suc k) (omega arith) within same in omega arith) in
    let test : (m == slice_index members k) ≡ false = grind (arith, nat_tests) in
    rw test (replaced_at members values base k (omega arith) (omega arith) (λ i j i_below j_below same. let next : suc i ≡ suc j = distinct (suc i) (suc j) (omega arith) (omega arith) same in omega arith))

pub dot_nil : (row : List ℤ) → dot row [] ≡ pos 0
dot_nil [] = refl
dot_nil (a ∷ row) = refl

-- a row on amounts all taken d times
pub dot_scaled : (d : ℤ) (row : List ℤ) (others : List ℕ) (amounts scaled : ℕ → ℤ) (w : ℤ) → ((k : ℕ) → k < length others → scaled (slice_index others k) ≡ d *ℤ amounts (slice_index others k)) → dot row (map scaled others ++ (d *ℤ w) ∷ []) ≡ d *ℤ dot row (map amounts others ++ w ∷ [])
dot_scaled d [] others amounts scaled w same = sym (times_none d)
dot_scaled d (a ∷ row) [] amounts scaled w same = omega (arith, ints, dot_nil row, swap_times a d w, distrib d (a *ℤ w) (dot row []), ap (λ t. d *ℤ t) (dot_nil row), times_none d)
dot_scaled d (a ∷ row) (v ∷ others) amounts scaled w same =
    omega (arith, ints, dot_scaled d row others amounts scaled w (λ k below. same (suc k) (omega arith)), ap (λ t. a *ℤ t) (same 0 (omega arith)), swap_times a d (amounts v), distrib d (a *ℤ amounts v) (dot row (map amounts others ++ w ∷ [])))

pub times_minus : (a b : ℤ) → a *ℤ neg_ℤ b ≡ neg_ℤ (a *ℤ b)
times_minus a b = *ℤ_comm a (neg_ℤ b) ∙ minus_times b a ∙ ap neg_ℤ (*ℤ_comm b a)

-- a row whose member takes up what the others leave
pub taken_up : (d member sum : ℤ) (row scaled : List ℤ) → member ≡ neg_ℤ sum → dot row scaled ≡ d *ℤ sum → row_form d member row scaled ≡ pos 0
taken_up d member sum row scaled is whole = omega (arith, ints, ap (λ t. d *ℤ t) is, times_minus d sum, whole)

pub basis_determines : BasisDetermines
basis_determines problem one other shaped also basis says apart i =
    let d : ℤ = one.den in
    let u : ℕ → ℤ = probe_amounts problem i in
    let w : ℤ = probe_whole i in
    let sum_at : List ℤ → ℤ = λ row. dot row (map u one.others ++ neg_ℤ w ∷ []) in
    let values : List ℤ = map (λ (row : List ℤ). neg_ℤ (sum_at row)) one.rows in
    let base : ℕ → ℤ = λ v. d *ℤ u v in
    let x : ℕ → ℤ = replaced one.members values base in
    let whole : ℤ = d *ℤ w in
    let z : ℤ = neg_ℤ (sum_at one.objective) in
    let last : neg_ℤ whole ≡ d *ℤ neg_ℤ w = sym (times_minus d w) in
    let long : length values ≡ length one.members = length-map one.rows (λ (row : List ℤ). neg_ℤ (sum_at row)) ∙ shaped.rows in
    let on_others : (k : ℕ) → k < length one.others → x (slice_index one.others k) ≡ d *ℤ u (slice_index one.others k) = λ k below. not_replaced one.members values base (slice_index one.others k) (λ j j_below. basis.apart j k j_below below) in
    let scaled : (row : List ℤ) → dot row (under_row one x whole) ≡ d *ℤ sum_at row = λ row. ap (λ t. dot row (map x one.others ++ t ∷ [])) last ∙ dot_scaled d row one.others u x (neg_ℤ w) on_others in
    let held : Holds one x z whole = record {
      rows = λ k below.
          let row : List ℤ = slice_index_or one.rows k [] in
          let own : x (slice_index one.members k) ≡ neg_ℤ (sum_at row) = replaced_at one.members values base k below long basis.distinct ∙ get_or-map (λ (row : List ℤ). neg_ℤ (sum_at row)) one.rows k [] (pos 0) (omega (arith, shaped.rows)) in
          taken_up d (x (slice_index one.members k)) (sum_at row) row (under_row one x whole) own (scaled row);
      objective_row = taken_up d z (sum_at one.objective) one.objective (under_row one x whole) refl (scaled one.objective);
    } in
    let after : Holds other x z whole = says x z whole held in
    let sum_other : ℤ = dot other.objective (map u other.others ++ neg_ℤ w ∷ []) in
    let other_scaled : dot other.objective (under_row other x whole) ≡ d *ℤ sum_other = ap (λ t. dot other.objective (map x other.others ++ t ∷ [])) last ∙ dot_scaled d other.objective other.others u x (neg_ℤ w) (λ k below. not_replaced one.members values base (slice_index other.others k) (λ j j_below. apart j k j_below below)) in
    let row : other.den *ℤ z +ℤ dot other.objective (under_row other x whole) ≡ pos 0 = after.objective_row in
    let first : objective_list problem one i ≡ sum_at one.objective = objective_is_form problem one i shaped.objective ∙ omega (arith, ints, times_none one.den) in
    let second : objective_list problem other i ≡ sum_other = objective_is_form problem other i also.objective ∙ omega (arith, ints, times_none other.den) in
    ap (λ t. other.den *ℤ t) first ∙ omega (arith, ints, times_minus other.den (sum_at one.objective), row, other_scaled) ∙ sym (ap (λ t. one.den *ℤ t) second)
