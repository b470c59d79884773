-- The rows, one after another, with the places of their codes.
use Rattle.std.proofs.Common.{◌≡◌, ℕ, ◌+◌, ◌<◌, ◌≤◌, List, [], ◌∷◌, ◌++◌, length, take, drop, get_or, slice_set, Result, Ok, Err, refl, ap, sym, ◌∙◌, arith, append_assoc, append-nil}
use Rattle.std.proofs.lemmas.List.{take_more_set, drop-set-lt, take_all}
use Rattle.sdc_base.specs.Answers.{Fails}
use Rattle.sdc_base.specs.Steps.{◌>>=◌}
use Rattle.sdc_base.specs.declared.rows.Row.{Row}
use Rattle.microdata.specs.Closing.{leaves_of, row_of, rows_of}
use Rattle.plain_text.specs.Stops.{why_of}
use Rattle.microdata.specs.Faults.{row_fault_of, at_record, error_of}
use Rattle.microdata.specs.KeptRows.{KeptRow, kept_of, kept_rows}
use Rattle.microdata.specs.declared.closing.ClosedVariable.{ClosedVariable}
use Rattle.microdata.specs.declared.faults.RowError.{RowError}
use Rattle.microdata.specs.declared.faults.RowError.TheVariants as row_error
use Rattle.microdata.specs.declared.faults.RowWhy.{RowWhy}
use Rattle.plain_text.specs.declared.stop.Stop.{Stop}
use Rattle.plain_text.specs.declared.stop.Stop.TheVariants as stop
use Rattle.microdata.proofs.VariableSteps.{at_place, past_end}

-- one record more
pub kept_more : (numbers : List ℕ) (rows : List Row) (number : ℕ) (row : Row) → length numbers ≡ length rows → kept_rows (numbers ++ number ∷ []) (rows ++ row ∷ []) ≡ kept_rows numbers rows ++ kept_of number row ∷ []
kept_more [] [] number row same = refl
kept_more [] (first ∷ rows) number row same = absurd (omega (arith, same))
kept_more (one ∷ numbers) [] number row same = absurd (omega (arith, same))
kept_more (one ∷ numbers) (first ∷ rows) number row same = ap (λ (kept : List KeptRow). kept_of one first ∷ kept) (kept_more numbers rows number row (omega (arith, same)))

-- a row whose codes have no places has the fault of these, with the number of its record
pub fails_placed : (number : ℕ) (e : Stop RowWhy) (closed : List ClosedVariable) (kept : KeptRow) → Fails (why_of e) (leaves_of closed kept.places) → Fails (row_fault_of (error_of number e)) (at_record number (row_of closed kept))
unfolding row_of
fails_placed number stop.Memory closed kept h = tt
fails_placed number (stop.Fault why) closed kept h = rw h refl

-- these rows, and those that follow
abbrev pub with_front : List Row → Result (List Row) (ℕ × RowWhy) → Result (List Row) (ℕ × RowWhy)
with_front front read = read >>= λ rest. Ok (front ++ rest)

regrouped : (front : List Row) (next : Row) (read : Result (List Row) (ℕ × RowWhy)) → with_front front (read >>= λ rest. Ok (next ∷ rest)) ≡ with_front (front ++ next ∷ []) read
regrouped front next (Err fault) = refl
regrouped front next (Ok rest) = ap Ok (sym (append_assoc front (next ∷ []) rest))

front_next : (closed : List ClosedVariable) (front : List Row) (number : ℕ) (row next : Row) (numbers : List ℕ) (rows : List Row) → at_record number (row_of closed (kept_of number row)) ≡ Ok next
    → with_front front (rows_of closed (kept_rows (number ∷ numbers) (row ∷ rows))) ≡ with_front (front ++ next ∷ []) (rows_of closed (kept_rows numbers rows))
unfolding rows_of
front_next closed front number row next numbers rows said = rw said (regrouped front next (rows_of closed (kept_rows numbers rows)))

front_stop : (e : RowError) (closed : List ClosedVariable) (front : List Row) (number : ℕ) (row : Row) (numbers : List ℕ) (rows : List Row) → Fails (row_fault_of e) (at_record number (row_of closed (kept_of number row)))
    → Fails (row_fault_of e) (with_front front (rows_of closed (kept_rows (number ∷ numbers) (row ∷ rows))))
unfolding rows_of
front_stop row_error.Memory closed front number row numbers rows h = tt
front_stop (row_error.At at why) closed front number row numbers rows h = rw h refl

-- the rows up to a place, and what becomes of those from it on
abbrev pub placed_to : List ClosedVariable → List ℕ → List Row → ℕ → Result (List Row) (ℕ × RowWhy)
placed_to closed numbers rows k = with_front (take k rows) (rows_of closed (kept_rows (drop k numbers) (drop k rows)))

-- a row at its place, and the row that is written there
pub record StandAt (numbers : List ℕ) (rows : List Row) (k number : ℕ) (row : Row) : Type 0 where
  pub inside : k < length rows
  pub beside : k < length numbers
  pub numbered : number ≡ get_or numbers k number
  pub there : row ≡ get_or rows k row

pub placed_next : (closed : List ClosedVariable) (numbers : List ℕ) (rows : List Row) (k number : ℕ) (row next : Row) → StandAt numbers rows k number row → at_record number (row_of closed (kept_of number row)) ≡ Ok next
    → placed_to closed numbers rows k ≡ placed_to closed numbers (slice_set rows k next) (k + 1)
placed_next closed numbers rows k number row next stand said =
    rw (at_place numbers k number stand.beside stand.numbered, at_place rows k row stand.inside stand.there)
    (front_next closed (take k rows) number row next (drop (k + 1) numbers) (drop (k + 1) rows) said
    ∙ rw (take_more_set rows k next stand.inside, drop-set-lt (k + 1) rows k next (omega arith)) refl)

pub placed_stop : (e : RowError) (closed : List ClosedVariable) (numbers : List ℕ) (rows : List Row) (k number : ℕ) (row : Row) → StandAt numbers rows k number row → Fails (row_fault_of e) (at_record number (row_of closed (kept_of number row)))
    → Fails (row_fault_of e) (placed_to closed numbers rows k)
placed_stop e closed numbers rows k number row stand fails =
    rw (at_place numbers k number stand.beside stand.numbered, at_place rows k row stand.inside stand.there)
    (front_stop e closed (take k rows) number row (drop (k + 1) numbers) (drop (k + 1) rows) fails)

pub placed_all : (closed : List ClosedVariable) (numbers : List ℕ) (rows : List Row) (k : ℕ) → length rows ≤ k → placed_to closed numbers rows k ≡ Ok rows
unfolding rows_of
placed_all closed numbers rows k end = rw (take_all k rows end, past_end rows k end) (by (drop k numbers))
  where
    by : (numbers : List ℕ) → with_front rows (rows_of closed (kept_rows numbers [])) ≡ Ok rows
    by [] = ap Ok (append-nil rows)
    by (number ∷ numbers) = ap Ok (append-nil rows)
