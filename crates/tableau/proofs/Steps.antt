-- What a step keeps.
use Rattle.std.proofs.Common.{◌≡◌, ◌≢◌, ℕ, suc, ◌+◌, ◌<◌, List, [], ◌∷◌, ◌++◌, length, map, slice_index, slice_index_or, get_or, set, ℤ, pos, neg_ℤ, ◌*ℤ◌, ◌≤ℤ◌, ◌<ℤ◌, arith, refl, ap, sym, subst, ◌∙◌, length-set}
use Rattle.std.proofs.Math.IntN.{*ℤ_comm}
use Rattle.std.proofs.lemmas.Int.{ints}
use Rattle.std.proofs.lemmas.List.Elements.{All-from_get_or}
use Rattle.std.proofs.lemmas.List.{get_or-map, length-map, get_or-set_same, get_or-set_other}
use Rattle.sdc_base.proofs.WholeNumbers.{distrib, times_more, below_from_times}
use Rattle.tableau.specs.Amounts.{value_of}
use Rattle.tableau.specs.Tables.{Table, HasShape, IsQuotient, RowHolds, row_form, under_row, times_row, dot, form_at, exchanged_table}
use Rattle.sdc_base.specs.Systems.{number_at}
use Rattle.tableau.specs.Problems.{IsTrueOf, all_amounts, rows_of, variable_count}
use Rattle.tableau.specs.RowLists.{Leaves, RowsAreLexPositive, Rises, AreZeros, list_of, list_size, Implies}
use Rattle.tableau.specs.Walks.{IsBasisOf, StepGivesTable}
use Rattle.tableau.proofs.Dots.{dot-times, moved}
use Rattle.tableau.proofs.Exchanges.{by_place, same_form, times_none, exchange_keeps, exchange_keeps_back, division_keeps}
use Rattle.tableau.proofs.Independent.{no_row_is_none}
use Rattle.tableau.proofs.Rising.{shaped_exchanged, exchange_rises, above_same, list_is_form, probe_amounts, probe_whole}
use Rattle.tableau.proofs.Chains.{above_unscaled, division_rises}

next_place : (s : ℕ) → suc s ≡ 1 + s
next_place s = omega arith

-- an item of a list with one replaced
replaced_item : (P : ℕ → Type 0) (xs : List ℕ) (i k v : ℕ) → i < length xs → (k ≡ i → P v) → (k ≢ i → P (slice_index xs k)) → P (slice_index (set xs i v) k)
replaced_item P xs i k v within same other =
    by_place k i
    (λ is. subst P (sym (ap (λ j. slice_index (set xs i v) j) is ∙ get_or-set_same xs i v 0 within)) (same is))
    (λ apart. subst P (sym (get_or-set_other xs i k v 0 apart)) (other apart))

-- an exchange keeps a basis
pub exchange_keeps_basis : (numbers : ℕ) (table : Table) (row column : ℕ) → row < length table.members → column < length table.others → IsBasisOf numbers table.members table.others → IsBasisOf numbers (exchanged_table table row column).members (exchanged_table table row column).others
exchange_keeps_basis numbers table row column row_within column_within basis =
    let entering : ℕ = slice_index table.others column in
    let leaving : ℕ = slice_index table.members row in
    let members : List ℕ = set table.members row entering in
    let others : List ℕ = set table.others column leaving in
    let members_long : length members ≡ length table.members = length-set table.members row entering in
    let others_long : length others ≡ length table.others = length-set table.others column leaving in
    record {
      members = λ j k j_below k_below.
          replaced_item (λ a. a ≡ slice_index members k → j ≡ k) table.members row j entering row_within
          (λ j_is. replaced_item (λ b. entering ≡ b → j ≡ k) table.members row k entering row_within (λ k_is _. j_is ∙ sym k_is) (λ _ clash. absurd (basis.apart k column (omega arith) column_within (sym clash))))
          (λ j_apart. replaced_item (λ b. slice_index table.members j ≡ b → j ≡ k) table.members row k entering row_within (λ _ clash. absurd (basis.apart j column (omega arith) column_within clash)) (λ _ same. basis.members j k (omega arith) (omega arith) same));
      others = λ j k j_below k_below.
          replaced_item (λ a. a ≡ slice_index others k → j ≡ k) table.others column j leaving column_within
          (λ j_is. replaced_item (λ b. leaving ≡ b → j ≡ k) table.others column k leaving column_within (λ k_is _. j_is ∙ sym k_is) (λ _ clash. absurd (basis.apart row k row_within (omega arith) clash)))
          (λ j_apart. replaced_item (λ b. slice_index table.others j ≡ b → j ≡ k) table.others column k leaving column_within (λ _ clash. absurd (basis.apart row j row_within (omega arith) (sym clash))) (λ _ same. basis.others j k (omega arith) (omega arith) same));
      apart = λ j k j_below k_below.
          replaced_item (λ a. a ≢ slice_index others k) table.members row j entering row_within
          (λ j_is. replaced_item (λ b. entering ≢ b) table.others column k leaving column_within (λ _ clash. basis.apart row column row_within column_within (sym clash)) (λ k_apart clash. absurd (k_apart (sym (basis.others column k column_within (omega arith) clash)))))
          (λ j_apart. replaced_item (λ b. slice_index table.members j ≢ b) table.others column k leaving column_within (λ _ clash. absurd (j_apart (basis.members j row (omega arith) row_within clash))) (λ k_apart. basis.apart j k (omega arith) (omega arith)));
      members_below = λ k below. replaced_item (λ a. a < numbers) table.members row k entering row_within (λ _. basis.others_below column column_within) (λ _. basis.members_below k (omega arith));
      others_below = λ k below. replaced_item (λ a. a < numbers) table.others column k leaving column_within (λ _. basis.members_below row row_within) (λ _. basis.others_below k (omega arith));
    }

multiplied_form : (d den member : ℤ) (row xs : List ℤ) → row_form (den *ℤ d) member (times_row d row) xs ≡ d *ℤ row_form den member row xs
multiplied_form d den member row xs = omega (arith, ints, dot-times d row xs, moved den d member, distrib d (den *ℤ member) (dot row xs))

multiplied_row : (d den member : ℤ) (row xs : List ℤ) → RowHolds den member row xs → RowHolds (den *ℤ d) member (times_row d row) xs
multiplied_row d den member row xs holds = multiplied_form d den member row xs ∙ ap (λ t. d *ℤ t) holds ∙ times_none d

-- a division takes nothing away
pub division_keeps_back : (d : ℤ) (table part : Table) → HasShape part → IsQuotient d table part → Implies part table
division_keeps_back d table part shaped divided amounts objective whole holds =
    let under : under_row part amounts whole ≡ under_row table amounts whole = ap (λ t. map amounts t ++ neg_ℤ whole ∷ []) divided.others in
    record {
      rows = λ k below.
          let k_part : k < length part.members = subst (λ t. k < length t) (sym divided.members) below in
          let k_within : k < length part.rows = omega (arith, shaped.rows) in
          let own : times_row d (get_or part.rows k []) ≡ get_or table.rows k [] = sym (get_or-map (times_row d) part.rows k [] [] k_within) ∙ ap (λ t. get_or t k []) divided.rows in
          let member : amounts (slice_index part.members k) ≡ amounts (slice_index table.members k) = ap (λ t. amounts (slice_index t k)) divided.members in
          sym (ap (λ t. row_form t (amounts (slice_index part.members k)) (times_row d (get_or part.rows k [])) (under_row part amounts whole)) divided.den
          ∙ same_form table.den (amounts (slice_index part.members k)) (amounts (slice_index table.members k)) (times_row d (get_or part.rows k [])) (get_or table.rows k []) (under_row part amounts whole) (under_row table amounts whole) member own under)
          ∙ multiplied_row d part.den (amounts (slice_index part.members k)) (get_or part.rows k []) (under_row part amounts whole) (holds.rows k k_part);
      objective_row =
          sym (ap (λ t. row_form t objective (times_row d part.objective) (under_row part amounts whole)) divided.den
          ∙ same_form table.den objective objective (times_row d part.objective) table.objective (under_row part amounts whole) (under_row table amounts whole) refl divided.objective under)
          ∙ multiplied_row d part.den objective part.objective (under_row part amounts whole) holds.objective_row;
    }

-- a divided table's forms are those of the whole, d times less
form_divided : (d : ℤ) (table part : Table) → HasShape part → IsQuotient d table part → (amounts : ℕ → ℤ) (whole : ℤ) (k : ℕ) → k < length part.members → form_at table amounts whole k ≡ d *ℤ form_at part amounts whole k
form_divided d table part shaped divided amounts whole k below =
    let under : under_row part amounts whole ≡ under_row table amounts whole = ap (λ t. map amounts t ++ neg_ℤ whole ∷ []) divided.others in
    let own : times_row d (get_or part.rows k []) ≡ get_or table.rows k [] = sym (get_or-map (times_row d) part.rows k [] [] (omega (arith, shaped.rows))) ∙ ap (λ t. get_or t k []) divided.rows in
    let member : amounts (slice_index part.members k) ≡ amounts (slice_index table.members k) = ap (λ t. amounts (slice_index t k)) divided.members in
    sym (ap (λ t. row_form t (amounts (slice_index part.members k)) (times_row d (get_or part.rows k [])) (under_row part amounts whole)) divided.den
    ∙ same_form table.den (amounts (slice_index part.members k)) (amounts (slice_index table.members k)) (times_row d (get_or part.rows k [])) (get_or table.rows k []) (under_row part amounts whole) (under_row table amounts whole) member own under)
    ∙ multiplied_form d part.den (amounts (slice_index part.members k)) (get_or part.rows k []) (under_row part amounts whole)

shaped_part : (d : ℤ) (table part : Table) → IsQuotient d table part → HasShape table → HasShape part
shaped_part d table part divided shaped =
    let rows : length part.rows ≡ length table.rows = sym (length-map part.rows (times_row d)) ∙ ap length divided.rows in
    let members : length part.members ≡ length table.members = ap length divided.members in
    let others : length part.others ≡ length table.others = ap length divided.others in
    record {
      rows = omega (arith, shaped.rows);
      each = λ k below.
          let own : times_row d (get_or part.rows k []) ≡ get_or table.rows k [] = sym (get_or-map (times_row d) part.rows k [] [] (omega (arith, shaped.rows))) ∙ ap (λ t. get_or t k []) divided.rows in
          sym (length-map (get_or part.rows k []) (λ (n : ℤ). n *ℤ d)) ∙ ap length own ∙ shaped.each k (omega arith) ∙ ap (λ n. n + 1) (sym others);
      objective = sym (length-map part.objective (λ (n : ℤ). n *ℤ d)) ∙ ap length divided.objective ∙ shaped.objective ∙ ap (λ n. n + 1) (sym others);
    }

pub step_keeps : StepGivesTable
step_keeps problem table after row column d formed kept step =
    let pivot : List ℤ = slice_index_or table.rows row [] in
    let p : ℤ = number_at pivot column in
    let whole : Table = exchanged_table table row column in
    let leaves : Leaves problem table row column = step.leaves in
    let divided : IsQuotient d whole after = step.reduced.divided in
    let whole_shaped : HasShape whole = shaped_exchanged table row column kept.shaped leaves.row_within in
    let shaped : HasShape after = shaped_part d whole after divided whole_shaped in
    let whole_den : pos 1 ≤ℤ whole.den = omega (arith, ints, times_more table.den (pos 0) p kept.above_zero (omega (arith, ints, leaves.above)), times_none table.den) in
    let den : pos 0 <ℤ after.den = below_from_times d (pos 0) after.den divided.divisor (omega (arith, ints, times_none d, divided.den, *ℤ_comm after.den d)) in
    let whole_basis : IsBasisOf (variable_count problem) whole.members whole.others = exchange_keeps_basis (variable_count problem) table row column leaves.row_within step.enters.within kept.basis in
    let first : IsBasisOf (variable_count problem) after.members whole.others = subst (λ (t : List ℕ). IsBasisOf (variable_count problem) t whole.others) (sym divided.members) whole_basis in
    let whole_true : IsTrueOf problem whole = λ amounts one. exchange_keeps table row column kept.shaped leaves.row_within step.enters.within (all_amounts problem amounts one) (value_of amounts problem.objective) one (kept.true_of amounts one) in
    let members_long : length after.members ≡ length whole.members = ap length divided.members in
    let size : length whole.members ≡ length table.members = length-set table.members row (slice_index table.others column) in
    let not_none : (k : ℕ) → k < length table.members → AreZeros (length (rows_of problem)) 1 (list_of problem whole k) → ⊥ = λ k below none.
    no_row_is_none problem whole k formed whole_shaped whole_den (omega arith)
    (All-from_get_or (λ v. v < variable_count problem) whole.others 0 whole_basis.others_below)
    (whole_basis.members_below k (omega arith))
    (All-from_get_or (λ v. v ≢ slice_index whole.members k) whole.others 0 (λ j j_below clash. whole_basis.apart k j (omega arith) j_below (sym clash)))
    whole_true
    (λ s s_below. ap (list_of problem whole k) (next_place s) ∙ none s s_below) in
    let rising : RowsAreLexPositive problem whole × Rises problem table whole = exchange_rises problem table row column kept.shaped kept.above_zero step.enters.within leaves kept.rows_above not_none step.enters.below in (
      record {
        shaped = shaped;
        sized = record { members = members_long ∙ size ∙ kept.sized.members; others = ap length divided.others ∙ length-set table.others column (slice_index table.members row) ∙ kept.sized.others };
        above_zero = omega (arith, ints);
        basis = subst (λ (t : List ℕ). IsBasisOf (variable_count problem) after.members t) (sym divided.others) first;
        true_of = λ amounts one. division_keeps d whole after shaped divided (all_amounts problem amounts one) (value_of amounts problem.objective) one (whole_true amounts one);
        from_start = λ amounts objective one holds. division_keeps d whole after shaped divided amounts objective one (exchange_keeps table row column kept.shaped leaves.row_within step.enters.within amounts objective one (kept.from_start amounts objective one holds));
        to_start = λ amounts objective one holds. kept.to_start amounts objective one (exchange_keeps_back table row column kept.shaped leaves.row_within step.enters.within kept.above_zero leaves.above amounts objective one (division_keeps_back d whole after shaped divided amounts objective one holds));
        rows_above = λ k below.
            above_unscaled (list_size problem) 0 d (list_of problem after k) divided.divisor
            (above_same (list_size problem) 0 (list_of problem whole k) (λ i. d *ℤ list_of problem after k i)
            (λ i. list_is_form problem whole k i (whole_shaped.each k (omega arith)) ∙ form_divided d whole after shaped divided (probe_amounts problem i) (probe_whole i) k below ∙ ap (λ t. d *ℤ t) (sym (list_is_form problem after k i (shaped.each k below))))
            (rising.0 k (omega arith)));
      },
      division_rises problem d table whole after shaped divided rising.1,
    )
