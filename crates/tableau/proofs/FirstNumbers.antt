-- The rows of the first table.
use Rattle.std.proofs.Common.{◌≡◌, ℕ, ◌+◌, ◌<◌, ◌≤◌, List, [], ◌∷◌, ◌++◌, length, map, take, slice_index_or, All, ℤ, pos, ◌*ℤ◌, ◌*◌, ◌/◌, unsigned_abs, arith, refl, ap, sym, subst, ◌∙◌, length-append, ext_get_or}
use Prim.Native.Nat.{◌∣◌}
use Rattle.std.proofs.Math.Nat.{one-dvd}
use Rattle.std.proofs.lemmas.Nat.Gcd.{dvd_refl}
use Rattle.std.proofs.lemmas.Int.{ints}
use Rattle.tableau.specs.OwnRows.{own_den, factor_of, row_over, with_den, IsOwnRow, AreOwnRows}
use Rattle.tableau.proofs.OwnRows.{over_at, length-row_over}
use Rattle.std.specs.List.{range_with_len}
use Rattle.std.proofs.lemmas.List.{map-id, length-map, get_or-map, get_or_default, get_or_append_left, get_or_at, take_at, take-map, map-append, drop_all}
use Rattle.std.proofs.lemmas.List.Elements.{All-get_or, All-from_get_or}
use Rattle.std.proofs.lemmas.List.FromFn.{map-range_with_len_more, length-map-range_with_len, get_or-map-range_with_len}
use Rattle.sdc_base.specs.Forms.{Term, coefficient}
use Rattle.tableau.specs.declared.problem.Problem.{Problem}
use Rattle.tableau.specs.declared.problem.LinRow.{LinRow}
use Rattle.tableau.specs.ProblemForm.{AscendFrom}
use Rattle.tableau.specs.Problems.{rows_of, no_row, target_row, numbers_then_value, first_table}
use Rattle.tableau.specs.Tables.{Table, HasShape}
use Rattle.sdc_base.specs.Systems.{number_at}
use Rattle.tableau.specs.Widths.{all_rows}
use Rattle.tableau.specs.Entries.{IsSparse, AreSparse, AreEntriesOf, AreListsOf, AreEntriesFrom, AreEntriesBelow, row_of_entries, put_entry}
use Rattle.tableau.proofs.Beginnings.{start_shaped}
use Rattle.tableau.proofs.Independent.{by_less}
use Rattle.tableau.proofs.Places.{ascend_of, from_start, from_place, from_none, from_later, from_here, from_taken, made_none, made_on, made_more, made_row, number_spread, length-numbers_then_value}

pub range_more : (from n : ℕ) → range_with_len from (n + 1) ≡ range_with_len from n ++ (from + n) ∷ []
range_more from n =
    sym (map-id (range_with_len from (n + 1))) ∙ map-range_with_len_more (λ (k : ℕ). k) from n (from + n) refl ∙ ap (λ t. t ++ (from + n) ∷ []) (map-id (range_with_len from n))

-- ---- entries that are copied, each number changed by h

-- the first i entries are copied
pub record IsCopied (columns i : ℕ) (h : ℤ → ℤ) (entries made : List Term) : Type 0 where
  pub next : ℕ
  pub within : next ≤ columns
  pub from : AreEntriesFrom next i entries
  pub so_far : AreEntriesBelow next (λ v. h (coefficient entries v)) made

pub copied_none : (columns : ℕ) (h : ℤ → ℤ) (entries : List Term) → AscendFrom 0 entries → IsCopied columns 0 h entries []
copied_none columns h entries ascend = record { next = 0; within = omega arith; from = from_start entries ascend; so_far = made_none (λ v. h (coefficient entries v)) }

pub copied_more : (columns i : ℕ) (h : ℤ → ℤ) (d : Term) (entries made now : List Term) (number : ℤ) → h (pos 0) ≡ pos 0 → All (λ entry. entry.0 < columns) entries → i < length entries → IsCopied columns i h entries made →
    now ≡ put_entry made (slice_index_or entries i d).0 number → number ≡ h (slice_index_or entries i d).1 → IsCopied columns (i + 1) h entries now
copied_more columns i h d entries made now number none named less copied put is =
    let place : ℕ = (slice_index_or entries i d).0 in
    let next : ℕ = copied.next in
    let same : slice_index_or entries i (columns, pos 0) ≡ slice_index_or entries i d = get_or_default entries i (columns, pos 0) d less in
    let up : next ≤ place = subst (λ (t : Term). next ≤ t.0) same (from_place next i columns entries copied.from copied.within) in
    let later : AreEntriesFrom place i entries = from_later next i columns place entries copied.from up (subst (λ (t : Term). place ≤ t.0) (sym same) (omega arith)) in
    let inside : place < columns = All-get_or (λ (entry : Term). entry.0 < columns) entries i d less named in
    record {
      next = place + 1;
      within = omega arith;
      from = from_taken i place d entries later less refl;
      so_far = made_more next place (λ v. h (coefficient entries v)) made now number copied.so_far up
          (λ v over under. ap h (from_none next i columns v entries copied.from over (subst (λ (t : Term). v < t.0) (sym same) under)) ∙ none)
          (is ∙ ap h (from_here i place d entries later less refl)) put;
    }

copied_ended : (columns i : ℕ) (h : ℤ → ℤ) (entries made : List Term) → h (pos 0) ≡ pos 0 → length entries ≤ i → IsCopied columns i h entries made → AreEntriesBelow columns (λ v. h (coefficient entries v)) made
copied_ended columns i h entries made none ended copied =
    made_on copied.next columns (λ v. h (coefficient entries v)) made copied.so_far copied.within
    (λ v over under. ap h (copied.from.same v over ∙ ap (λ (t : List Term). coefficient t v) (drop_all i entries ended)) ∙ none)

pub length-whole : (columns : ℕ) (f : ℕ → ℤ) (b : ℤ) → length (numbers_then_value columns f b) ≡ columns + 1
length-whole columns f b = length-append (map f (range_with_len 0 columns)) (b ∷ []) ∙ omega (arith, length-map-range_with_len f 0 columns)

pub spread_at : (columns : ℕ) (f : ℕ → ℤ) (b : ℤ) (v : ℕ) → v < columns → number_at (numbers_then_value columns f b) v ≡ f v
spread_at columns f b v below = get_or_append_left (map f (range_with_len 0 columns)) (b ∷ []) (pos 0) v (omega (arith, length-map-range_with_len f 0 columns)) ∙ get_or-map-range_with_len f 0 columns v v (pos 0) below (omega arith)

pub spread_last : (columns : ℕ) (f : ℕ → ℤ) (b : ℤ) (v : ℕ) → v ≡ columns → number_at (numbers_then_value columns f b) v ≡ b
spread_last columns f b v is = get_or_at (map f (range_with_len 0 columns)) b [] (pos 0) v (omega (arith, length-map-range_with_len f 0 columns))

-- the copied entries, and the value behind them
pub copied_row : (columns i : ℕ) (h : ℤ → ℤ) (entries made now : List Term) (b number : ℤ) → h (pos 0) ≡ pos 0 → length entries ≤ i → IsCopied columns i h entries made → now ≡ put_entry made columns number → number ≡ b →
    AreEntriesOf (columns + 1) (numbers_then_value columns (λ v. h (coefficient entries v)) b) now
copied_row columns i h entries made now b number none ended copied put is =
    let f : ℕ → ℤ = λ v. h (coefficient entries v) in
    let row : List ℤ = numbers_then_value columns f b in
    let before : AreEntriesBelow columns f made = copied_ended columns i h entries made none ended copied in
    let same : AreEntriesBelow columns (number_at row) made = record { sparse = before.sparse; same = λ v below. before.same v below ∙ sym (spread_at columns f b v below) } in
    made_row (columns + 1) (number_at row) row now
    (made_more columns columns (number_at row) made now number same (omega arith) (λ v over under. absurd (omega arith)) (is ∙ sym (spread_last columns f b columns refl)) put)
    (length-whole columns f b) (λ v below. refl)

-- the copied entries, where the value is 0
pub copied_whole : (columns i : ℕ) (h : ℤ → ℤ) (entries made : List Term) → h (pos 0) ≡ pos 0 → length entries ≤ i → IsCopied columns i h entries made → AreEntriesOf (columns + 1) (numbers_then_value columns (λ v. h (coefficient entries v)) (pos 0)) made
copied_whole columns i h entries made none ended copied = copied_row columns i h entries made made (pos 0) (pos 0) none ended copied refl refl

-- ---- the rows of the table

pub rows_push : (width : ℕ) (rows : List (List ℤ)) (row : List ℤ) (lists now : List (List Term)) (made : List Term) → AreListsOf width rows lists → AreEntriesOf width row made → now ≡ lists ++ made ∷ [] → AreListsOf width (rows ++ row ∷ []) now
rows_push width rows row lists now made are is put = record {
  long = ap length put ∙ length-append lists (made ∷ []) ∙ omega (arith, are.long, length-append rows (row ∷ []));
  each = λ i below.
      subst (λ (t : List (List Term)). AreEntriesOf width (slice_index_or (rows ++ row ∷ []) i []) (slice_index_or t i [])) (sym put)
      (by_less i (length rows)
      (λ less.
      subst (λ (r : List ℤ). AreEntriesOf width r (slice_index_or (lists ++ made ∷ []) i [])) (sym (get_or_append_left rows (row ∷ []) [] i less))
      (subst (λ (t : List Term). AreEntriesOf width (slice_index_or rows i []) t) (sym (get_or_append_left lists (made ∷ []) [] i (omega (arith, are.long)))) (are.each i less)))
      (λ more.
      let last : i ≡ length rows = omega (arith, length-append rows (row ∷ [])) in
      subst (λ (r : List ℤ). AreEntriesOf width r (slice_index_or (lists ++ made ∷ []) i [])) (sym (get_or_at rows row [] [] i (sym last)))
      (subst (λ (t : List Term). AreEntriesOf width row t) (sym (get_or_at lists made [] [] i (omega (arith, are.long)))) is)));
}

pub rows_stand : (width : ℕ) (rows : List (List ℤ)) (lists : List (List Term)) → AreListsOf width rows lists → map (row_of_entries width) lists ≡ rows
rows_stand width rows lists are =
    ext_get_or [] (map (row_of_entries width) lists) rows (length-map lists (row_of_entries width) ∙ are.long)
    (λ k below.
    let inside : k < length lists = omega (arith, length-map lists (row_of_entries width)) in
    get_or-map (row_of_entries width) lists k [] [] inside ∙ (are.each k (omega (arith, are.long))).stands)

pub rows_sparse : (width : ℕ) (rows : List (List ℤ)) (lists : List (List Term)) → AreListsOf width rows lists → AreSparse width lists
rows_sparse width rows lists are = All-from_get_or (λ (entries : List Term). IsSparse 0 width entries) lists [] (λ k below. (are.each k (omega (arith, are.long))).sparse)

-- a slack's row in the first table, with the den behind it
abbrev pub slack_row : ℕ → LinRow → List ℤ
slack_row columns row = with_den (numbers_then_value columns (coefficient row.entries) row.bound)

-- the den is put behind a row
pub den_put : (width : ℕ) (row : List ℤ) (entries now : List Term) (one : ℤ) → AreEntriesOf width row entries → now ≡ put_entry entries width one → one ≡ pos 1 → AreEntriesOf (width + 1) (with_den row) now
den_put width row entries now one is put one_is =
    let long : length row ≡ width = ap length (sym is.stands) ∙ length-numbers_then_value width entries in
    let same : AreEntriesBelow width (number_at (with_den row)) entries = record {
      sparse = is.sparse;
      same = λ v below. sym (number_spread width v entries below) ∙ ap (λ (r : List ℤ). number_at r v) is.stands ∙ sym (get_or_append_left row (pos 1 ∷ []) (pos 0) v (omega (arith, long)));
    } in
    made_row (width + 1) (number_at (with_den row)) (with_den row) now
    (made_more width width (number_at (with_den row)) entries now one same (omega arith) (λ v over under. absurd (omega arith)) (one_is ∙ sym (get_or_at row (pos 1) [] (pos 0) width long)) put)
    (length-append row (pos 1 ∷ []) ∙ ap (λ n. n + 1) long) (λ v below. refl)

module _ (width : ℕ) (row : List ℤ) (entries : List Term) (long : length row ≡ width) (is : AreEntriesOf (width + 1) (with_den row) entries) where
  pub den_here : own_den width entries ≡ pos 1
  den_here = sym (number_spread (width + 1) width entries (omega arith)) ∙ ap (λ (r : List ℤ). number_at r width) is.stands ∙ get_or_at row (pos 1) [] (pos 0) width long

  pub stands_here : row_of_entries width entries ≡ row
  stands_here =
      ext_get_or (pos 0) (row_of_entries width entries) row (length-numbers_then_value width entries ∙ sym long)
      (λ j below.
      let inside : j < width = omega (arith, length-numbers_then_value width entries) in
      number_spread width j entries inside ∙ sym (number_spread (width + 1) j entries (omega arith)) ∙ ap (λ (r : List ℤ). number_at r j) is.stands ∙ get_or_append_left row (pos 1 ∷ []) (pos 0) j (omega (arith, long)))

  pub factor_here : factor_of (pos 1) width entries ≡ pos 1
  factor_here = ap (λ (z : ℤ). pos (unsigned_abs (pos 1) / unsigned_abs z)) den_here

  pub over_here : row_over (pos 1) width entries ≡ row
  over_here =
      ext_get_or (pos 0) (row_over (pos 1) width entries) row (length-row_over (pos 1) width entries ∙ sym long)
      (λ j below.
      let inside : j < width = omega (arith, length-row_over (pos 1) width entries) in
      let once : coefficient entries j *ℤ pos 1 ≡ coefficient entries j = omega (arith, ints) in
      over_at (pos 1) width j entries inside ∙ ap (λ z. coefficient entries j *ℤ z) factor_here ∙ once ∙ sym (number_spread width j entries inside) ∙ ap (λ (r : List ℤ). number_at r j) stands_here)

  pub own_here : IsOwnRow 1 width entries
  own_here = record {
    above = omega (arith, ints, den_here);
    divides = subst (λ (z : ℤ). unsigned_abs z ∣ 1) (sym den_here) (dvd_refl 1);
    lowest = λ d times all.
        let whole : times * unsigned_abs (coefficient entries width) ≡ times = ap (λ (z : ℤ). times * unsigned_abs z) den_here ∙ omega arith in
        subst (λ n. d ∣ n) whole (all width);
  }

-- the rows of the first table, with their dens
abbrev pub rows_with_dens : Problem → List (List ℤ)
rows_with_dens problem = map (slack_row problem.columns) (rows_of problem) ++ with_den (first_table problem).objective ∷ []

pub first_rows : (problem : Problem) (slacks with_target lists : List (List Term)) (target objective : List Term) →
    AreListsOf (problem.columns + 2) (map (slack_row problem.columns) problem.rows) slacks →
    AreEntriesOf (problem.columns + 2) (with_den (numbers_then_value problem.columns (coefficient problem.objective) problem.target)) target →
    AreEntriesOf (problem.columns + 2) (with_den (first_table problem).objective) objective →
    with_target ≡ slacks ++ target ∷ [] → lists ≡ with_target ++ objective ∷ [] → AreListsOf (problem.columns + 2) (rows_with_dens problem) lists
first_rows problem slacks with_target lists target objective are target_is objective_is target_put objective_put =
    let width : ℕ = problem.columns + 2 in
    let f : LinRow → List ℤ = slack_row problem.columns in
    let more : AreListsOf width (map f problem.rows ++ f (target_row problem) ∷ []) with_target = rows_push width (map f problem.rows) (f (target_row problem)) slacks with_target target are target_is target_put in
    let rows_are : map f problem.rows ++ f (target_row problem) ∷ [] ≡ map f (rows_of problem) = sym (map-append f problem.rows (target_row problem ∷ [])) in
    rows_push width (map f (rows_of problem)) (with_den (first_table problem).objective) with_target lists objective (subst (λ (r : List (List ℤ)). AreListsOf width r with_target) rows_are more) objective_is objective_put

module _ (problem : Problem) (lists : List (List Term)) (are : AreListsOf (problem.columns + 2) (rows_with_dens problem) lists) where
  pub length-first : length lists ≡ length (rows_of problem) + 1
  length-first = are.long ∙ length-append (map (slack_row problem.columns) (rows_of problem)) (with_den (first_table problem).objective ∷ []) ∙ ap (λ n. n + 1) (length-map (rows_of problem) (slack_row problem.columns))

  -- the k-th list stands for the k-th row with its den
  row_with_den : (k : ℕ) → k < length lists → AreEntriesOf (problem.columns + 1 + 1) (with_den (slice_index_or (all_rows (first_table problem)) k [])) (slice_index_or lists k [])
  row_with_den k below =
      let here : AreEntriesOf (problem.columns + 2) (slice_index_or (rows_with_dens problem) k []) (slice_index_or lists k []) = are.each k (omega (arith, are.long)) in
      let size : problem.columns + 2 ≡ problem.columns + 1 + 1 = omega arith in
      let shaped : HasShape (first_table problem) = start_shaped problem in
      let dense : LinRow → List ℤ = λ row. numbers_then_value problem.columns (coefficient row.entries) row.bound in
      let is : slice_index_or (rows_with_dens problem) k [] ≡ with_den (slice_index_or (all_rows (first_table problem)) k []) =
      by_less k (length (rows_of problem))
      (λ less.
      get_or_append_left (map (slack_row problem.columns) (rows_of problem)) (with_den (first_table problem).objective ∷ []) [] k (omega (arith, length-map (rows_of problem) (slack_row problem.columns)))
      ∙ get_or-map (slack_row problem.columns) (rows_of problem) k no_row [] less
      ∙ ap with_den (sym (get_or-map dense (rows_of problem) k no_row [] less) ∙ sym (get_or_append_left (first_table problem).rows ((first_table problem).objective ∷ []) [] k (omega (arith, length-map (rows_of problem) dense)))))
      (λ more.
      let last : k ≡ length (rows_of problem) = omega (arith, length-first) in
      get_or_at (map (slack_row problem.columns) (rows_of problem)) (with_den (first_table problem).objective) [] [] k (omega (arith, last, length-map (rows_of problem) (slack_row problem.columns)))
      ∙ ap with_den (sym (get_or_at (first_table problem).rows (first_table problem).objective [] [] k (omega (arith, last, length-map (rows_of problem) dense))))) in
      subst (λ n. AreEntriesOf n (with_den (slice_index_or (all_rows (first_table problem)) k [])) (slice_index_or lists k [])) size (subst (λ (r : List ℤ). AreEntriesOf (problem.columns + 2) r (slice_index_or lists k [])) is here)

  length-all : length (all_rows (first_table problem)) ≡ length lists
  length-all = length-append (first_table problem).rows ((first_table problem).objective ∷ []) ∙ ap (λ n. n + 1) (length-map (rows_of problem) (λ (row : LinRow). numbers_then_value problem.columns (coefficient row.entries) row.bound)) ∙ sym length-first

  row_long : (k : ℕ) → k < length lists → length (slice_index_or (all_rows (first_table problem)) k []) ≡ problem.columns + 1
  row_long k below =
      let is = row_with_den k below in
      let whole : length (with_den (slice_index_or (all_rows (first_table problem)) k [])) ≡ problem.columns + 1 + 1 = ap length (sym is.stands) ∙ length-numbers_then_value (problem.columns + 1 + 1) (slice_index_or lists k []) in
      omega (arith, whole, length-append (slice_index_or (all_rows (first_table problem)) k []) (pos 1 ∷ []))

  pub over_first : map (row_over (pos 1) (problem.columns + 1)) lists ≡ all_rows (first_table problem)
  over_first =
      ext_get_or [] (map (row_over (pos 1) (problem.columns + 1)) lists) (all_rows (first_table problem)) (length-map lists (row_over (pos 1) (problem.columns + 1)) ∙ sym length-all)
      (λ k below.
      let inside : k < length lists = omega (arith, length-map lists (row_over (pos 1) (problem.columns + 1))) in
      get_or-map (row_over (pos 1) (problem.columns + 1)) lists k [] [] inside ∙ over_here (problem.columns + 1) (slice_index_or (all_rows (first_table problem)) k []) (slice_index_or lists k []) (row_long k inside) (row_with_den k inside))

  pub own_first : AreOwnRows (pos 1) (problem.columns + 1) lists
  own_first = record {
    above = omega (arith, ints);
    each = λ k below. own_here (problem.columns + 1) (slice_index_or (all_rows (first_table problem)) k []) (slice_index_or lists k []) (row_long k below) (row_with_den k below);
    least = λ m divide. one-dvd m;
  }

  pub number_first : (k j : ℕ) → k < length lists → j < problem.columns + 1 → coefficient (slice_index_or lists k []) j ≡ number_at (row_over (pos 1) (problem.columns + 1) (slice_index_or lists k [])) j
  number_first k j below within =
      let own : List Term = slice_index_or lists k [] in
      let dense : List ℤ = slice_index_or (all_rows (first_table problem)) k [] in
      sym (number_spread (problem.columns + 1) j own within) ∙ ap (λ (r : List ℤ). number_at r j) (stands_here (problem.columns + 1) dense own (row_long k below) (row_with_den k below) ∙ sym (over_here (problem.columns + 1) dense own (row_long k below) (row_with_den k below)))

  pub spread_first : (k : ℕ) → k < length lists → row_of_entries (problem.columns + 1) (slice_index_or lists k []) ≡ row_over (pos 1) (problem.columns + 1) (slice_index_or lists k [])
  spread_first k below =
      let own : List Term = slice_index_or lists k [] in
      let dense : List ℤ = slice_index_or (all_rows (first_table problem)) k [] in
      stands_here (problem.columns + 1) dense own (row_long k below) (row_with_den k below) ∙ sym (over_here (problem.columns + 1) dense own (row_long k below) (row_with_den k below))

-- the members' values of the first table
pub values_first : (problem : Problem) (with_target lists : List (List Term)) (objective : List Term) (n : ℕ) → AreListsOf (problem.columns + 2) (rows_with_dens problem) lists → lists ≡ with_target ++ objective ∷ [] → n ≡ length with_target →
    map (λ (entries : List Term). coefficient entries problem.columns) with_target ≡ map (λ (row : List ℤ). number_at row problem.columns) (map (row_over (pos 1) (problem.columns + 1)) (take n lists))
values_first problem with_target lists objective n are put n_is =
    let taken : take n lists ≡ with_target = ap (take n) put ∙ take_at with_target (objective ∷ []) n (sym n_is) in
    let g : List Term → List ℤ = row_over (pos 1) (problem.columns + 1) in
    let f : List ℤ → ℤ = λ row. number_at row problem.columns in
    let h : List Term → ℤ = λ entries. coefficient entries problem.columns in
    ext_get_or (pos 0) (map h with_target) (map f (map g (take n lists))) (length-map with_target h ∙ ap length (sym taken) ∙ sym (length-map (map g (take n lists)) f ∙ length-map (take n lists) g))
    (λ k below.
    let inside : k < length with_target = omega (arith, length-map with_target h) in
    let also : k < length (take n lists) = subst (λ (t : List (List Term)). k < length t) (sym taken) inside in
    let own : slice_index_or with_target k [] ≡ slice_index_or lists k [] = sym (ap (λ (t : List (List Term)). slice_index_or t k []) put ∙ get_or_append_left with_target (objective ∷ []) [] k inside) in
    let whole : k < length lists = omega (arith, ap length put, length-append with_target (objective ∷ [])) in
    get_or-map h with_target k [] (pos 0) inside ∙ ap h own ∙ number_first problem lists are k problem.columns whole (omega arith)
    ∙ sym (get_or-map f (map g (take n lists)) k [] (pos 0) (omega (arith, length-map (take n lists) g)) ∙ ap f (get_or-map g (take n lists) k [] [] also ∙ ap g (ap (λ (t : List (List Term)). slice_index_or t k []) taken ∙ own))))

pub first_is : (problem : Problem) (members others : List ℕ) (lists : List (List Term)) → members ≡ (first_table problem).members → others ≡ (first_table problem).others → AreListsOf (problem.columns + 2) (rows_with_dens problem) lists → length others ≡ problem.columns →
    record { den = pos 1; members = members; others = others; rows = map (row_over (pos 1) (length others + 1)) (take (length members) lists); objective = row_over (pos 1) (length others + 1) (slice_index_or lists (length members) []) } ≡ first_table problem
first_is problem members others lists members_are others_are are wide =
    let t : Table = first_table problem in
    let width : ℕ = problem.columns + 1 in
    let shaped : HasShape t = start_shaped problem in
    let height : length t.rows ≡ length members = shaped.rows ∙ ap length (sym members_are) in
    let rows_long : length t.rows ≡ length (rows_of problem) = length-map (rows_of problem) (λ (row : LinRow). numbers_then_value problem.columns (coefficient row.entries) row.bound) in
    let size : length lists ≡ length t.rows + 1 = length-first problem lists are ∙ ap (λ n. n + 1) (sym rows_long) in
    let rows_are : map (row_over (pos 1) width) (take (length members) lists) ≡ t.rows = sym (take-map (row_over (pos 1) width) (length members) lists) ∙ ap (take (length members)) (over_first problem lists are) ∙ take_at t.rows (t.objective ∷ []) (length members) height in
    let objective_is : row_over (pos 1) width (slice_index_or lists (length members) []) ≡ t.objective =
    sym (get_or-map (row_over (pos 1) width) lists (length members) [] [] (omega arith)) ∙ ap (λ (r : List (List ℤ)). slice_index_or r (length members) []) (over_first problem lists are) ∙ get_or_at t.rows t.objective [] [] (length members) (omega arith) in
    let table : List ℕ → List ℕ → List (List ℤ) → List ℤ → Table = λ m o r j. record { den = pos 1; members = m; others = o; rows = r; objective = j } in
    ap (λ n. table members others (map (row_over (pos 1) (n + 1)) (take (length members) lists)) (row_over (pos 1) (n + 1) (slice_index_or lists (length members) []))) wide
    ∙ ap (λ (r : List (List ℤ)). table members others r (row_over (pos 1) width (slice_index_or lists (length members) []))) rows_are
    ∙ ap (λ (j : List ℤ). table members others t.rows j) objective_is
    ∙ ap (λ (m : List ℕ). table m others t.rows t.objective) members_are
    ∙ ap (λ (o : List ℕ). table t.members o t.rows t.objective) others_are

pub rows_ascend : (width : ℕ) (rows : List (List ℤ)) (lists : List (List Term)) → AreListsOf width rows lists → All (λ (entries : List Term). AscendFrom 0 entries) lists
rows_ascend width rows lists are = All-from_get_or (λ (entries : List Term). AscendFrom 0 entries) lists [] (λ k below. ascend_of 0 width (slice_index_or lists k []) (are.each k (omega (arith, are.long))).sparse)
