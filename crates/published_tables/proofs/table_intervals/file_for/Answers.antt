use Rattle.std.proofs.Common.{◌≤ℤ◌, ◌^◌, All, pos, List, length, ap, subst, sym, ◌∙◌, arith}
use Rattle.std.proofs.lemmas.Result.{err_from_is_err_and}
use Rattle.sdc_base.specs.HiddenSets.{is_hidden}
use Rattle.sdc_base.specs.declared.cell.Cell.{Cell}
use Rattle.cell_intervals.specs.IntervalFaults.{IsFaultOf}
use Rattle.cell_intervals.specs.IntervalTexts.{interval_text}
use Rattle.cell_intervals.specs.Intervals.{AreIntervals, HasWholeEnds}
use Rattle.cell_intervals.specs.declared.interval.CellInterval.{CellInterval}
use Rattle.relations.proofs.SignedTables.{one_or_two_way_has_signs}
use Rattle.relations.specs.Holding.{IsSystemOf}
use Rattle.published_tables.proofs.Counting.{few_listed}
use Rattle.published_tables.proofs.IntervalStopping.{question_stops}
use Rattle.published_tables.proofs.Readying.{truths_within}
use Rattle.published_tables.proofs.table_intervals.file_for.Goals as goal

pub intervals_of-requires-clause-truths : goal.intervals_of-requires-clause-truths
intervals_of-requires-clause-truths c = subst (λ (cells : List Cell). All (λ (cell : Cell). cell.truth ≤ℤ pos (10 ^ 29)) cells) (sym c.as_slice.ensures) (truths_within c.args.shelved.now.job c.requires.ready.job)

pub returns-in_err-intervals : goal.returns-in_err-intervals
returns-in_err-intervals c =
    let p = err_from_is_err_and c.from_residual-in_err-intervals.result c.from_residual-in_err-intervals.ensures.1 in
    let e = c.in_err-intervals.field-0.0 in
    let job = c.args.shelved.now.job in
    let flags = c.args.hidden.now.flags in
    rw (p.1, p.2)
    (question_stops job c.in_ok-system.system flags e c.cells-known.ensures.book (record { cells = c.in_ok-system.ensures.cells; relations = c.in_ok-system.ensures.exact })
    (subst (λ (cells : List Cell). IsFaultOf c.in_ok-system.system cells flags job.described.job.steps e) c.as_slice.ensures c.in_err-intervals.ensures.cause)
    c.size_is_large.ensures
    c.in_err-intervals.ensures.signed)

pub overflow_cast-cells : goal.overflow_cast-cells
overflow_cast-cells c =
    let all = ap (λ (intervals : List CellInterval). length intervals) c.as_slice-3.ensures in
    let flags = c.args.hidden.now.flags in
    let few = few_listed (λ (one : CellInterval). one.cell) (is_hidden flags) (length flags) c.in_ok-intervals.intervals c.in_ok-intervals.ensures.intervals.numbers in
    omega (arith, all, few, c.requires.each, c.requires.ready.job.fewer_than_2_32)

pub returns : goal.returns
returns c = record {
  one_each = c.requires.each;
  system = c.in_ok-system.system;
  intervals = c.in_ok-intervals.intervals;
  system_is = record { cells = c.in_ok-system.ensures.cells; relations = c.in_ok-system.ensures.exact };
  are = subst (λ (cells : List Cell). AreIntervals c.in_ok-system.system cells c.args.hidden.now.flags c.in_ok-intervals.intervals) c.as_slice.ensures c.in_ok-intervals.ensures.intervals;
  whole = λ shape.
      (let is : IsSystemOf c.args.shelved.now.job.book c.in_ok-system.system = record { cells = c.in_ok-system.ensures.cells; relations = c.in_ok-system.ensures.exact } in
      let signs = one_or_two_way_has_signs c.args.shelved.now.job.book c.in_ok-system.system shape c.cells-known.ensures.book is in
      subst (λ (cells : List Cell). All (HasWholeEnds c.in_ok-system.system cells c.args.hidden.now.flags) c.in_ok-intervals.intervals) c.as_slice.ensures (c.in_ok-intervals.ensures.whole signs.0 signs.1));
  small = c.in_ok-intervals.ensures.small;
  bytes = c.in_ok-bytes.ensures ∙ ap (λ (intervals : List CellInterval). interval_text intervals) c.as_slice-2.ensures;
  cells = ap (λ (intervals : List CellInterval). length intervals) c.as_slice-3.ensures;
}
