-- Tables have one file of intervals, whatever job of the settled inputs they are read by.
use Rattle.std.proofs.Common.{◌≡◌, ◌*ℤ◌, ◌+ℤ◌, ℕ, zero, suc, Bool, List, [], ◌∷◌, length, map, Some, Result, Ok, refl, ap, sym, subst, ◌∙◌, arith, ℤ, pos}
use Rattle.std.specs.Prelude.{slice_get}
use Rattle.std.proofs.lemmas.List.{length-map}
use Rattle.std.proofs.lemmas.List.Elements.{All-nil, All-cons, All-head, All-tail, All-weaker}
use Rattle.sdc_base.specs.Relations.{Sum, relations_among}
use Rattle.sdc_base.specs.Systems.{Numbers, HoldOn, form}
use Rattle.sdc_base.specs.Worlds.{IsWithinBounds, IsWorld, value_over}
use Rattle.sdc_base.specs.declared.cell.Cell.{Cell}
use Rattle.sdc_base.specs.declared.relation.Relation.{Relation}
use Rattle.sdc_base.specs.declared.system.System.{System}
use Rattle.apriori.specs.Settling.{SettledCell, view_of_cell}
use Rattle.linked_tables.specs.BookCells.{cells as cells_in}
use Rattle.relations.specs.Holding.{IsSystemOf, sum_in}
use Rattle.cell_intervals.specs.IntervalTexts.{interval_text}
use Rattle.cell_intervals.specs.Laws.{FileIsOne}
use Rattle.cell_intervals.specs.Intervals.{AreIntervals, IsAttained, IsGreatestValue, IsIntervalOf, IsLeastValue, IsUpperEnd}
use Rattle.cell_intervals.specs.declared.interval.CellInterval.{CellInterval}
use Rattle.cell_intervals.specs.declared.interval.UpperEnd.{UpperEnd}
use Rattle.cell_intervals.specs.declared.interval.UpperEnd.TheVariants.{At, Open}
use Rattle.cell_intervals.specs.declared.ratio.Ratio.{Ratio}
use Rattle.cert_check.specs.declared.faults.CheckFault.{CheckFault}
use Rattle.job_inputs.specs.ClassifiedJobs.{SettledInputs, IsSettledOf}
use Rattle.job_inputs.specs.declared.settled.ClassifiedJob.{ClassifiedJob}
use Rattle.published_tables.proofs.ReadingAlike.{flags_alike}
use Rattle.published_tables.specs.TableFiles.{IsFileOf}
use Rattle.published_tables.specs.HiddenLines.{flags_in}
use Rattle.published_tables.specs.TableIntervals.{intervals_of_tables}
use Rattle.published_tables.specs.TablesOnShelf.{ShelvedTables}
use Rattle.published_tables.specs.declared.interval_file.IntervalFile.{IntervalFile}

-- two systems have the same cells and relations, and two lists of cells the same amounts and kinds
pub record AreAlike (one other : System) (cells others : List Cell) : Type 0 where
  pub as_many : one.cells ≡ other.cells
  pub sums : map sum_in one.relations ≡ map sum_in other.relations
  pub amounts : map view_of_cell cells ≡ map view_of_cell others

alike_back : (one other : System) (cells others : List Cell) → AreAlike one other cells others → AreAlike other one others cells
alike_back one other cells others alike = record { as_many = sym alike.as_many; sums = sym alike.sums; amounts = sym alike.amounts }

-- at each place there is a cell of the same amounts
cell_alike : (cells others : List Cell) (number : ℕ) (other : Cell) → map view_of_cell cells ≡ map view_of_cell others → slice_get others number ≡ Some other → (cell : Cell) × (slice_get cells number ≡ Some cell) × (view_of_cell cell ≡ view_of_cell other)
cell_alike [] [] number other same at = absurd cc
cell_alike [] (next ∷ others) number other same at = absurd cc
cell_alike (cell ∷ cells) [] number other same at = absurd cc
cell_alike (cell ∷ cells) (next ∷ others) zero other same at =
    let heads : view_of_cell cell ≡ view_of_cell next = cc in
    let is : next ≡ other = cc in
    (cell, refl, heads ∙ ap view_of_cell is)
cell_alike (cell ∷ cells) (next ∷ others) (suc number) other same at =
    let tails : map view_of_cell cells ≡ map view_of_cell others = cc in
    cell_alike cells others number other tails at

holds_alike : (moves : Numbers) (ones others : List Relation) → map sum_in ones ≡ map sum_in others → HoldOn moves ones → HoldOn moves others
holds_alike moves ones [] same holds = All-nil (λ (r : Relation). form moves r ≡ pos 0)
holds_alike moves [] (r ∷ others) same holds = absurd cc
holds_alike moves (one ∷ ones) (r ∷ others) same holds =
    let heads : sum_in one ≡ sum_in r = cc in
    let tails : map sum_in ones ≡ map sum_in others = cc in
    let forms : form moves one ≡ form moves r = rw (ap (λ (s : Sum). s.0) heads, ap (λ (s : Sum). s.1) heads) refl in
    All-cons (λ (q : Relation). form moves q ≡ pos 0) r others (sym forms ∙ All-head (λ (q : Relation). form moves q ≡ pos 0) one ones holds)
    (holds_alike moves ones others tails (All-tail (λ (q : Relation). form moves q ≡ pos 0) one ones holds))

bounds_alike : (cell other : Cell) (den move : ℤ) → view_of_cell cell ≡ view_of_cell other → IsWithinBounds cell den move → IsWithinBounds other den move
bounds_alike cell other den move same within =
    let truth : cell.truth ≡ other.truth = ap (λ (one : SettledCell). one.truth) same in
    let low : cell.low ≡ other.low = ap (λ (one : SettledCell). one.low) same in
    let high : cell.high ≡ other.high = ap (λ (one : SettledCell). one.high) same in
    record {
      from_low = rw (← low, ← truth) within.from_low;
      to_high = λ bound is. rw (← truth) (within.to_high bound (high ∙ is));
    }

-- a world of the one is a world of the other
world_alike : (one other : System) (cells others : List Cell) (flags : List Bool) (den : ℤ) (moves : Numbers) → AreAlike one other cells others → IsWorld one cells flags den moves → IsWorld other others flags den moves
world_alike one other cells others flags den moves alike world = record {
  positive = world.positive;
  shown_stay = λ cell inside shown. world.shown_stay cell (omega (arith, inside, alike.as_many)) shown;
  relations_hold = holds_alike moves one.relations other.relations alike.sums world.relations_hold;
  bounds_hold = λ number cell at.
      let here = cell_alike cells others number cell alike.amounts at in
      bounds_alike here.0 cell den (moves number) here.2 (world.bounds_hold number here.0 here.1);
}

value_alike : (cell other : Cell) (den move : ℤ) → view_of_cell cell ≡ view_of_cell other → value_over den cell move ≡ value_over den other move
value_alike cell other den move same = ap (λ (one : SettledCell). den *ℤ one.truth +ℤ move) same

attained_alike : (one other : System) (cells others : List Cell) (flags : List Bool) (number : ℕ) (cell another : Cell) (value : Ratio) → AreAlike one other cells others → view_of_cell cell ≡ view_of_cell another
    → IsAttained one cells flags number cell value → IsAttained other others flags number another value
attained_alike one other cells others flags number cell another value alike same it = (
  it.0,
  it.1,
  world_alike one other cells others flags it.0 it.1 alike it.2,
  rw (← value_alike cell another it.0 (it.1 number) same) it.3,
)

least_alike : (one other : System) (cells others : List Cell) (flags : List Bool) (number : ℕ) (cell another : Cell) (value : Ratio) → AreAlike one other cells others → view_of_cell cell ≡ view_of_cell another
    → IsLeastValue one cells flags number cell value → IsLeastValue other others flags number another value
least_alike one other cells others flags number cell another value alike same it = record {
  attained = attained_alike one other cells others flags number cell another value alike same it.attained;
  least = λ den moves world. rw (← value_alike cell another den (moves number) same) (it.least den moves (world_alike other one others cells flags den moves (alike_back one other cells others alike) world));
}

greatest_alike : (one other : System) (cells others : List Cell) (flags : List Bool) (number : ℕ) (cell another : Cell) (value : Ratio) → AreAlike one other cells others → view_of_cell cell ≡ view_of_cell another
    → IsGreatestValue one cells flags number cell value → IsGreatestValue other others flags number another value
greatest_alike one other cells others flags number cell another value alike same it = record {
  attained = attained_alike one other cells others flags number cell another value alike same it.attained;
  greatest = λ den moves world. rw (← value_alike cell another den (moves number) same) (it.greatest den moves (world_alike other one others cells flags den moves (alike_back one other cells others alike) world));
}

upper_alike : (one other : System) (cells others : List Cell) (flags : List Bool) (number : ℕ) (cell another : Cell) (high : UpperEnd) → AreAlike one other cells others → view_of_cell cell ≡ view_of_cell another
    → IsUpperEnd one cells flags number cell high → IsUpperEnd other others flags number another high
upper_alike one other cells others flags number cell another (At high) alike same it =
    let truth : cell.truth ≡ another.truth = ap (λ (one : SettledCell). one.truth) same in
    (greatest_alike one other cells others flags number cell another high alike same it.0, rw (← truth) it.1)
upper_alike one other cells others flags number cell another Open alike same it =
    let truth : cell.truth ≡ another.truth = ap (λ (one : SettledCell). one.truth) same in
    (it.0, it.1, world_alike one other cells others flags it.0 it.1 alike it.2, rw (← value_alike cell another it.0 (it.1 number) same, ← truth) it.3)

interval_alike : (one other : System) (cells others : List Cell) (flags : List Bool) (interval : CellInterval) → AreAlike one other cells others → IsIntervalOf one cells flags interval → IsIntervalOf other others flags interval
interval_alike one other cells others flags interval alike it =
    let there = cell_alike others cells interval.cell it.cell (sym alike.amounts) it.known in
    record {
      cell = there.0;
      known = there.1;
      low = least_alike one other cells others flags interval.cell it.cell there.0 interval.low alike (sym there.2) it.low;
      high = upper_alike one other cells others flags interval.cell it.cell there.0 interval.high alike (sym there.2) it.high;
    }

-- intervals of the one are intervals of the other
pub intervals_alike : (one other : System) (cells others : List Cell) (flags : List Bool) (intervals : List CellInterval) → AreAlike one other cells others → AreIntervals one cells flags intervals → AreIntervals other others flags intervals
intervals_alike one other cells others flags intervals alike are = record {
  numbers = are.numbers;
  each = All-weaker (IsIntervalOf one cells flags) (IsIntervalOf other others flags) (λ interval it. interval_alike one other cells others flags interval alike it) intervals are.each;
}

same_file : (one other : IntervalFile) → one.cells ≡ other.cells → one.bytes ≡ other.bytes → one ≡ other
same_file one other cells bytes = let same : one ≡ (record { cells = other.cells; bytes = other.bytes }) = rw (← cells, ← bytes) refl in same

-- the systems and the cells of two jobs of the same settled inputs
jobs_alike : (settled : SettledInputs) (one other : ClassifiedJob) (first second : System) → IsSettledOf settled one → IsSettledOf settled other → IsSystemOf one.book first → IsSystemOf other.book second → AreAlike second first other.cells one.cells
jobs_alike settled one other first second is_one is_other is_first is_second =
    let trees : other.book.trees ≡ one.book.trees = is_other.book.trees ∙ sym is_one.book.trees in
    let tables : other.book.tables ≡ one.book.tables = is_other.book.tables ∙ sym is_one.book.tables in
    let books : length (cells_in other.book) ≡ length (cells_in one.book) = rw (trees, tables) refl in
    let sums : relations_among other.book.trees other.book.tables ≡ relations_among one.book.trees one.book.tables = rw (trees, tables) refl in
    record {
      as_many = is_second.cells ∙ books ∙ sym is_first.cells;
      sums = is_second.relations ∙ sums ∙ sym is_first.relations;
      amounts = is_other.cells ∙ sym is_one.cells;
    }

same_flags : (meant more : Result (List Bool) CheckFault) (one other : List Bool) → meant ≡ more → meant ≡ Ok one → more ≡ Ok other → other ≡ one
same_flags meant more one other same first second = let both : ◌≡◌ {A = Result (List Bool) CheckFault} (Ok other) (Ok one) = sym second ∙ sym same ∙ first in cc

-- so the tables have one file
pub one_file : FileIsOne → (shelved : ShelvedTables) (one other : IntervalFile) → IsFileOf intervals_of_tables shelved one → IsFileOf intervals_of_tables shelved other → one ≡ other
one_file text_is_one shelved one other is_one is_other =
    let mine = is_one.holds in
    let yours = is_other.holds in
    let flags : is_other.shown ≡ is_one.shown = same_flags (flags_in is_one.job shelved.tables) (flags_in is_other.job shelved.tables) is_one.shown is_other.shown
    (flags_alike shelved.settled is_one.job is_other.job shelved.tables is_one.job_is is_other.job_is) is_one.shown_is is_other.shown_is in
    let are = subst (λ (set : List Bool). AreIntervals yours.system is_other.job.cells set yours.intervals) flags yours.are in
    let moved = intervals_alike yours.system mine.system is_other.job.cells is_one.job.cells is_one.shown yours.intervals (jobs_alike shelved.settled is_one.job is_other.job mine.system yours.system is_one.job_is is_other.job_is mine.system_is yours.system_is) are in
    let text : interval_text mine.intervals ≡ interval_text yours.intervals = text_is_one mine.system is_one.job.cells is_one.shown mine.intervals yours.intervals mine.are moved in
    let numbers : map (λ (one : CellInterval). one.cell) mine.intervals ≡ map (λ (one : CellInterval). one.cell) yours.intervals = mine.are.numbers ∙ sym moved.numbers in
    let many : length mine.intervals ≡ length yours.intervals = sym (length-map mine.intervals (λ (one : CellInterval). one.cell)) ∙ ap (λ (ns : List ℕ). length ns) numbers ∙ length-map yours.intervals (λ (one : CellInterval). one.cell) in
    same_file one other (mine.cells ∙ many ∙ sym yours.cells) (mine.bytes ∙ text ∙ sym yours.bytes)
