-- The lines of an interval file, one after another.
use Rattle.std.proofs.Common.{◌≡◌, ℕ, ◌+◌, ◌<◌, ◌==◌, true, false, List, [], ◌∷◌, ◌++◌, length, Result, Ok, Err, refl, ap, sym, append_assoc, append-nil, arith, decimal}
use Rattle.std.specs.List.{after_first, before_first, list_any}
use Rattle.sdc_base.specs.Answers.{Fails}
use Rattle.sdc_base.specs.Steps.{◌>>=◌, or_fault}
use Rattle.plain_text.specs.Stops.{why_of}
use Rattle.plain_text.specs.declared.stop.Stop.{Stop}
use Rattle.plain_text.specs.declared.stop.Stop.TheVariants as stop
use Rattle.sdc_base.specs.Lines.{is_line_feed}
use Rattle.cell_listing.specs.IntervalFiles.{is_comma, is_range, range_in, ranges_read}
use Rattle.cell_listing.specs.declared.cell_range.CellRange.{CellRange}

-- ---- one line

pub refused : (number cell : ℕ) (line digits ends low high own : List ℕ) → digits ≡ before_first is_comma line → ends ≡ after_first is_comma line → low ≡ before_first is_comma ends → high ≡ after_first is_comma ends → own ≡ decimal cell
    → is_range own digits low high ≡ false → or_fault number (range_in cell line) ≡ Err number
refused number cell line digits ends low high own d e l h o bad = rw (sym d, sym e, sym l, sym h, sym o, bad) refl

pub taken : (number cell : ℕ) (line digits ends low high own : List ℕ) → digits ≡ before_first is_comma line → ends ≡ after_first is_comma line → low ≡ before_first is_comma ends → high ≡ after_first is_comma ends → own ≡ decimal cell
    → is_range own digits low high ≡ true → or_fault number (range_in cell line) ≡ Ok (record { cell = cell; low = low; high = high })
taken number cell line digits ends low high own d e l h o good = rw (sym d, sym e, sym l, sym h, sym o, good) refl

-- ---- lines one after another

-- what is read of the rest, behind what was read before
abbrev pub on_with : List CellRange → Result (List CellRange) ℕ → Result (List CellRange) ℕ
on_with done read = read >>= λ more. Ok (done ++ more)

more : (done : List CellRange) (range : CellRange) (read : Result (List CellRange) ℕ) → on_with done (read >>= λ ranges. Ok (range ∷ ranges)) ≡ on_with (done ++ range ∷ []) read
more done range (Ok ranges) = ap (λ (all : List CellRange). Ok all) (sym (append_assoc done (range ∷ []) ranges))
more done range (Err e) = refl

pub line_next : (cell number : ℕ) (hidden text : List ℕ) (done : List CellRange) (range : CellRange) → list_any is_line_feed text ≡ true → or_fault number (range_in cell (before_first is_line_feed text)) ≡ Ok range
    → on_with (done ++ range ∷ []) (ranges_read hidden (after_first is_line_feed text) (number + 1)) ≡ on_with done (ranges_read (cell ∷ hidden) text number)
unfolding ranges_read
line_next cell number hidden text done range ended is = rw (ended, is) (sym (more done range (ranges_read hidden (after_first is_line_feed text) (number + 1))))

pub line_open : (cell number : ℕ) (hidden text : List ℕ) (done : List CellRange) → list_any is_line_feed text ≡ false → on_with done (ranges_read (cell ∷ hidden) text number) ≡ Err number
unfolding ranges_read
line_open cell number hidden text done none = rw none refl

pub line_stops : (cell number : ℕ) (hidden text : List ℕ) (done : List CellRange) (e : Stop ℕ) → list_any is_line_feed text ≡ true → Fails (why_of e) (or_fault number (range_in cell (before_first is_line_feed text))) → Fails (why_of e) (on_with done (ranges_read (cell ∷ hidden) text number))
unfolding ranges_read
line_stops cell number hidden text done stop.Memory ended h = tt
line_stops cell number hidden text done (stop.Fault why) ended h = rw (ended, h) refl

not_zero : (n : ℕ) → 0 < n → (n == 0) ≡ false
not_zero n some = grind arith

pub is_zero : (n : ℕ) → (n == 0) ≡ true → n ≡ 0
is_zero n test = grind arith

pub above_zero : (n : ℕ) → (n == 0) ≡ false → 0 < n
above_zero n test = grind arith

pub lines_over : (number : ℕ) (text : List ℕ) (done : List CellRange) → length text ≡ 0 → on_with done (ranges_read [] text number) ≡ Ok done
unfolding ranges_read
lines_over number text done none = rw none (ap (λ (all : List CellRange). Ok all) (append-nil done))

pub lines_left : (number : ℕ) (text : List ℕ) (done : List CellRange) → 0 < length text → on_with done (ranges_read [] text number) ≡ Err number
unfolding ranges_read
lines_left number text done some = rw (not_zero (length text) some) refl

pub from_start : (read : Result (List CellRange) ℕ) → on_with [] read ≡ read
from_start (Ok ranges) = refl
from_start (Err e) = refl
