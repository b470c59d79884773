-- Whole tables under an exchange.
use Rattle.std.proofs.Common.{◌≡◌, ◌≢◌, ◌==◌, true, false, ℕ, suc, ◌+◌, ◌<◌, List, [], ◌∷◌, ◌++◌, length, map, slice_index, slice_index_or, get_or, set, ℤ, pos, neg_ℤ, ◌+ℤ◌, ◌-ℤ◌, ◌*ℤ◌, ◌≤ℤ◌, ◌<ℤ◌, arith, refl, ap, sym, subst, ◌∙◌, length-append, length-set}
use Rattle.std.proofs.Math.IntN.{*ℤ_comm}
use Rattle.std.proofs.lemmas.Int.{ints}
use Rattle.std.proofs.lemmas.List.{get_or-map, length-map, map-set, set-append_left, get_or_append_left, get_or-set_same, get_or-set_other}
use Rattle.std.proofs.lemmas.Bool.Decides.{Decides-eqb, nat_tests}
use Rattle.sdc_base.proofs.WholeNumbers.{distrib, times_up, minus_times, below_from_times}
use Rattle.tableau.specs.Tables.{RowHolds, row_form, form_at, objective_form, under_row, dot, exchanged_table, exchanged_row, exchanged_pivot, times_row}
use Rattle.sdc_base.specs.Systems.{number_at}
use Rattle.tableau.specs.TableLaws.{IsRowOperation, ExchangeOperates, ExchangeKeepsBack, ExchangeKeeps, value, BlockedIsBest, DivisionKeeps}
use Rattle.tableau.proofs.Dots.{row_change, pivot_change, dot-times, moved}

-- what stands under the rows of the exchanged table
under_exchanged : (others : List ℕ) (column leaving : ℕ) (amounts : ℕ → ℤ) (whole : ℤ) → column < length others → map amounts (set others column leaving) ++ neg_ℤ whole ∷ [] ≡ set (map amounts others ++ neg_ℤ whole ∷ []) column (amounts leaving)
under_exchanged others column leaving amounts whole within =
    ap (λ t. t ++ neg_ℤ whole ∷ []) (map-set amounts others column leaving) ∙ sym (set-append_left (map amounts others) (neg_ℤ whole ∷ []) column (amounts leaving) (omega (arith, length-map others amounts)))

length_under : (others : List ℕ) (amounts : ℕ → ℤ) (whole : ℤ) → length (map amounts others ++ neg_ℤ whole ∷ []) ≡ length others + 1
length_under others amounts whole = length-append (map amounts others) (neg_ℤ whole ∷ []) ∙ ap (λ n. n + 1) (length-map others amounts)

under_at : (others : List ℕ) (amounts : ℕ → ℤ) (whole : ℤ) (column : ℕ) → column < length others → get_or (map amounts others ++ neg_ℤ whole ∷ []) column (pos 0) ≡ amounts (get_or others column 0)
under_at others amounts whole column within =
    get_or_append_left (map amounts others) (neg_ℤ whole ∷ []) (pos 0) column (omega (arith, length-map others amounts)) ∙ get_or-map amounts others column 0 (pos 0) within

pub by_place : {P : Type 0} (j k : ℕ) → (j ≡ k → P) → (j ≢ k → P) → P
by_place {P = P} j k same other = elim (j == k) as (λ b. (j == k) ≡ b → P) [ true ↦ λ is. same ((Decides-eqb j k).0 is) | false ↦ λ is. other (grind (arith, nat_tests, is)) ] refl

same_row : (den m m' : ℤ) (r r' xs xs' : List ℤ) → m ≡ m' → r ≡ r' → xs ≡ xs' → RowHolds den m r xs → RowHolds den m' r' xs'
same_row den m m' r r' xs xs' em er ex holds =
    let first : RowHolds den m' r xs = subst (λ t. RowHolds den t r xs) em holds in
    let second : RowHolds den m' r' xs = subst (λ (t : List ℤ). RowHolds den m' t xs) er first in
    subst (λ (t : List ℤ). RowHolds den m' r' t) ex second

pub same_form : (den m m' : ℤ) (r r' xs xs' : List ℤ) → m ≡ m' → r ≡ r' → xs ≡ xs' → row_form den m r xs ≡ row_form den m' r' xs'
same_form den m m' r r' xs xs' em er ex = ap (λ t. row_form den t r xs) em ∙ ap (λ t. row_form den m' t xs) er ∙ ap (λ t. row_form den m' r' t) ex

pub exchange_operates : ExchangeOperates
exchange_operates table row column shaped row_within column_within amounts objective whole =
    let xs : List ℤ = under_row table amounts whole in
    let pivot : List ℤ = slice_index_or table.rows row [] in
    let leaving : ℕ = slice_index table.members row in
    let entering : ℕ = slice_index table.others column in
    let p : ℤ = number_at pivot column in
    let long : length xs ≡ length table.others + 1 = length_under table.others amounts whole in
    let pivot_long : length pivot ≡ length xs = shaped.each row row_within ∙ sym long in
    let within : column < length xs = omega arith in
    let change : List ℤ → List ℤ = exchanged_row table.den pivot column in
    let changed : List (List ℤ) = map change table.rows in
    let new_pivot : List ℤ = exchanged_pivot table.den pivot column in
    let in_rows : row < length changed = omega (arith, length-map table.rows change, shaped.rows) in
    let under : under_row (exchanged_table table row column) amounts whole ≡ set xs column (amounts leaving) = under_exchanged table.others column leaving amounts whole column_within in
    record {
      pivot_row =
          same_form (table.den *ℤ p) (amounts (slice_index (set table.members row entering) row)) (get_or xs column (pos 0)) (get_or (set changed row new_pivot) row []) new_pivot (under_row (exchanged_table table row column) amounts whole) (set xs column (amounts leaving))
          (ap amounts (get_or-set_same table.members row entering 0 row_within) ∙ sym (under_at table.others amounts whole column column_within)) (get_or-set_same changed row new_pivot [] in_rows) under
          ∙ pivot_change table.den (amounts leaving) pivot xs column pivot_long within;
      other_rows = λ k k_within other.
          let old : List ℤ = get_or table.rows k [] in
          same_form (table.den *ℤ p) (amounts (slice_index (set table.members row entering) k)) (amounts (slice_index table.members k)) (get_or (set changed row new_pivot) k []) (change old) (under_row (exchanged_table table row column) amounts whole) (set xs column (amounts leaving))
          (ap amounts (get_or-set_other table.members row k entering 0 other)) (get_or-set_other changed row k new_pivot [] other ∙ get_or-map change table.rows k [] [] (omega (arith, shaped.rows))) under
          ∙ row_change table.den (amounts (slice_index table.members k)) (amounts leaving) old pivot xs column (shaped.each k k_within ∙ sym long) pivot_long within;
      objective_row =
          ap (λ t. row_form (table.den *ℤ p) objective (change table.objective) t) under
          ∙ row_change table.den objective (amounts leaving) table.objective pivot xs column (shaped.objective ∙ sym long) pivot_long within;
    }

both_none : (a b x y : ℤ) → x ≡ pos 0 → y ≡ pos 0 → a *ℤ x -ℤ b *ℤ y ≡ pos 0
both_none a b x y ex ey = ap (λ t. a *ℤ t -ℤ b *ℤ y) ex ∙ ap (λ t. a *ℤ pos 0 -ℤ b *ℤ t) ey ∙ omega (arith, ints)

pub exchange_keeps : ExchangeKeeps
exchange_keeps table row column shaped row_within column_within amounts objective whole holds =
    let operates : IsRowOperation table (exchanged_table table row column) row column amounts objective whole = exchange_operates table row column shaped row_within column_within amounts objective whole in
    let pivot_holds : form_at table amounts whole row ≡ pos 0 = holds.rows row row_within in
    let entering : ℕ = slice_index table.others column in
    record {
      rows = λ k below.
          let k_within : k < length table.members = omega (arith, length-set table.members row entering) in
          by_place k row
          (λ same. ap (form_at (exchanged_table table row column) amounts whole) same ∙ operates.pivot_row ∙ ap (λ t. table.den *ℤ t) pivot_holds ∙ omega (arith, ints))
          (λ other. operates.other_rows k k_within other ∙ both_none _ _ (form_at table amounts whole k) (form_at table amounts whole row) (holds.rows k k_within) pivot_holds);
      objective_row = operates.objective_row ∙ both_none _ _ (objective_form table amounts objective whole) (form_at table amounts whole row) holds.objective_row pivot_holds;
    }

pub times_none : (a : ℤ) → a *ℤ pos 0 ≡ pos 0
times_none a = omega (arith, ints)

pub none_from_times : (d x : ℤ) → pos 1 ≤ℤ d → d *ℤ x ≡ pos 0 → x ≡ pos 0
none_from_times d x above none =
    let up : x <ℤ pos 1 = below_from_times d x (pos 1) above (omega (arith, ints)) in
    let down : neg_ℤ (pos 1) <ℤ x = below_from_times d (neg_ℤ (pos 1)) x above (omega (arith, ints)) in
    omega (arith, ints)

first_none : (a b x y : ℤ) → pos 1 ≤ℤ a → y ≡ pos 0 → a *ℤ x -ℤ b *ℤ y ≡ pos 0 → x ≡ pos 0
first_none a b x y above ey is = none_from_times a x above (omega (arith, ints, is, ap (λ t. b *ℤ t) ey, times_none b))

pub exchange_keeps_back : ExchangeKeepsBack
exchange_keeps_back table row column shaped row_within column_within den_above p_above amounts objective whole holds =
    let operates : IsRowOperation table (exchanged_table table row column) row column amounts objective whole = exchange_operates table row column shaped row_within column_within amounts objective whole in
    let entering : ℕ = slice_index table.others column in
    let size : length (set table.members row entering) ≡ length table.members = length-set table.members row entering in
    let pivot_holds : form_at table amounts whole row ≡ pos 0 = none_from_times table.den (form_at table amounts whole row) den_above (sym operates.pivot_row ∙ holds.rows row (omega arith)) in
    record {
      rows = λ k below.
          by_place k row
          (λ same. ap (form_at table amounts whole) same ∙ pivot_holds)
          (λ other. first_none _ _ (form_at table amounts whole k) (form_at table amounts whole row) p_above pivot_holds (sym (operates.other_rows k below other) ∙ holds.rows k (omega arith)));
      objective_row = first_none _ _ (objective_form table amounts objective whole) (form_at table amounts whole row) p_above pivot_holds (sym operates.objective_row ∙ holds.objective_row);
    }

minus_whole : (a whole : ℤ) → a *ℤ neg_ℤ whole ≡ neg_ℤ (a *ℤ whole)
minus_whole a whole = *ℤ_comm a (neg_ℤ whole) ∙ minus_times whole a ∙ ap neg_ℤ (*ℤ_comm whole a)

product_not_below : (a x : ℤ) → pos 0 ≤ℤ a → pos 0 ≤ℤ x → pos 0 ≤ℤ (a *ℤ x)
product_not_below a x up amount = omega (arith, ints, times_up a (pos 0) x up amount)

pub dot_bound : (row xs : List ℤ) (whole : ℤ) → length row ≡ length xs + 1 → ((k : ℕ) → k < length xs → pos 0 ≤ℤ get_or row k (pos 0)) → ((k : ℕ) → k < length xs → pos 0 ≤ℤ get_or xs k (pos 0)) → pos 0 ≤ℤ (dot row (xs ++ neg_ℤ whole ∷ []) +ℤ get_or row (length xs) (pos 0) *ℤ whole)
dot_bound [] [] whole long up amounts = absurd (omega arith)
dot_bound (a ∷ []) [] whole long up amounts = omega (arith, ints, minus_whole a whole)
dot_bound (a ∷ b ∷ row) [] whole long up amounts = absurd (omega arith)
dot_bound [] (x ∷ xs) whole long up amounts = absurd (omega arith)
dot_bound (a ∷ row) (x ∷ xs) whole long up amounts =
    let first : pos 0 ≤ℤ (a *ℤ x) = product_not_below a x (up 0 (omega arith)) (amounts 0 (omega arith)) in
    let rest : pos 0 ≤ℤ (dot row (xs ++ neg_ℤ whole ∷ []) +ℤ get_or row (length xs) (pos 0) *ℤ whole) = dot_bound row xs whole (omega arith) (λ k below. up (suc k) (omega arith)) (λ k below. amounts (suc k) (omega arith)) in
    omega (arith, ints)

pub blocked : BlockedIsBest
blocked table shaped den up amounts objective whole allowed holds =
    let xs : List ℤ = map amounts table.others in
    let long : length xs ≡ length table.others = length-map table.others amounts in
    let bound : pos 0 ≤ℤ (dot table.objective (xs ++ neg_ℤ whole ∷ []) +ℤ get_or table.objective (length xs) (pos 0) *ℤ whole) =
    dot_bound table.objective xs whole (omega (arith, shaped.objective)) (λ k below. up k (omega arith)) (λ k below. subst (λ t. pos 0 ≤ℤ t) (sym (get_or-map amounts table.others k 0 (pos 0) (omega arith))) (allowed.1 (get_or table.others k 0))) in
    let at : get_or table.objective (length xs) (pos 0) ≡ value table = ap (λ n. get_or table.objective n (pos 0)) long in
    let times : get_or table.objective (length xs) (pos 0) *ℤ whole ≡ value table *ℤ whole = ap (λ t. t *ℤ whole) at in
    omega (arith, ints, holds.objective_row)

divided_row : (d den member : ℤ) (row xs : List ℤ) → pos 1 ≤ℤ d → RowHolds (den *ℤ d) member (times_row d row) xs → RowHolds den member row xs
divided_row d den member row xs above holds =
    none_from_times d (den *ℤ member +ℤ dot row xs) above
    (distrib d (den *ℤ member) (dot row xs) ∙ omega (arith, ints, holds, dot-times d row xs, moved den d member))

pub division_keeps : DivisionKeeps
division_keeps d table part shaped divided amounts objective whole holds =
    let under : under_row table amounts whole ≡ under_row part amounts whole = ap (λ t. map amounts t ++ neg_ℤ whole ∷ []) (sym divided.others) in
    record {
      rows = λ k below.
          let k_within : k < length part.rows = omega (arith, shaped.rows) in
          let own : get_or table.rows k [] ≡ times_row d (get_or part.rows k []) = ap (λ t. get_or t k []) (sym divided.rows) ∙ get_or-map (times_row d) part.rows k [] [] k_within in
          let member : amounts (slice_index table.members k) ≡ amounts (slice_index part.members k) = ap (λ t. amounts (slice_index t k)) (sym divided.members) in
          let was : RowHolds table.den (amounts (slice_index table.members k)) (get_or table.rows k []) (under_row table amounts whole) = holds.rows k (subst (λ t. k < length t) divided.members below) in
          divided_row d part.den (amounts (slice_index part.members k)) (get_or part.rows k []) (under_row part amounts whole) divided.divisor
          (subst (λ t. RowHolds t (amounts (slice_index part.members k)) (times_row d (get_or part.rows k [])) (under_row part amounts whole)) (sym divided.den) (same_row table.den (amounts (slice_index table.members k)) (amounts (slice_index part.members k)) (get_or table.rows k []) (times_row d (get_or part.rows k [])) (under_row table amounts whole) (under_row part amounts whole) member own under was));
      objective_row =
          divided_row d part.den objective part.objective (under_row part amounts whole) divided.divisor
          (subst (λ t. RowHolds t objective (times_row d part.objective) (under_row part amounts whole)) (sym divided.den) (same_row table.den objective objective table.objective (times_row d part.objective) (under_row table amounts whole) (under_row part amounts whole) refl (sym divided.objective) under holds.objective_row));
    }
