use Rattle.std.proofs.Common.{◌≡◌, ◌<◌, ◌∙◌, ap, length, ℕ, All, arith}
use Rattle.linked_tables.specs.BookViews.{BookView}
use Rattle.tabulate.proofs.PassSteps.{even-kept}
use Rattle.tabulate.proofs.Finish.{all-given, even-started, read-within, started-given, started-kept, table-given}
use Rattle.tabulate.proofs.Whole.{IsOf}
use Rattle.tabulate.proofs.tabulating.tabulate.Goals as goal

pub tables-init : goal.tables-init
tables-init c =
    let old = c.args.book.now in
    let new = c.start.new.book in
    record {
      frame = c.start.ensures.started.frame;
      kept = started-kept old new c.args.keep c.args.scale c.start.ensures.started;
      given = started-given old new c.args.keep c.args.scale c.args.rows.now c.start.ensures.started c.requires.none;
    }

pub fold_table-requires : goal.fold_table-requires
fold_table-requires c =
    record {
      even = even-kept c.tables.book.marks c.give_rows.new.book.marks c.give_rows.ensures.kept (even-started c.args.book.now c.tables.book c.args.keep c.args.scale c.tables.invariant.kept);
    }

pub tables-preserved : goal.tables-preserved
tables-preserved c =
    let book = c.args.book.now in
    let now = c.tables.book in
    let mid = c.give_rows.new.book in
    let next = c.fold_table.new.book in
    let t = c.tables.t in
    let same : length c.start.new.book.tables ≡ length book.tables = ap (λ (b : BookView). length b.tables) c.start.ensures.started.frame in
    let below : t < length book.tables = omega (arith, c.tables-test.true, c.tables-t-end.ensures, same) in
    let table = read-within book.tables t below in
    let good : All (IsOf book.trees) c.args.rows.now = λ k d h. let row = c.requires.rows.each k d h in record { coded = row.each; inside = row.inside } in
    let kept = λ (cell : ℕ). c.fold_table.ensures.kept cell ∙ c.give_rows.ensures.kept cell ∙ c.tables.invariant.kept cell in
    record {
      frame = c.fold_table.ensures.frame ∙ ap (λ (b : BookView). record b { marks = next.marks }) (c.give_rows.ensures.frame ∙ ap (λ (b : BookView). record b { marks = mid.marks }) c.tables.invariant.frame);
      kept = kept;
      given =
          table-given book now mid next c.args.keep c.args.scale c.args.rows.now t c.first_own-first.result c.first_own-past.result table.0 c.start.ensures.book good table.1 c.tables.invariant.frame kept c.first_own-first.ensures c.first_own-past.ensures c.give_rows.ensures
          c.fold_table.ensures c.tables.invariant.given;
    }

pub returns-clause-marks : goal.returns-clause-marks
returns-clause-marks c =
    let book = c.args.book.now in
    let same : length c.start.new.book.tables ≡ length book.tables = ap (λ (b : BookView). length b.tables) c.start.ensures.started.frame in
    all-given book c.tables.book c.args.keep c.args.scale c.args.rows.now c.tables.t (omega (arith, c.tables-test.false, c.tables-t-end.ensures, same)) c.start.ensures.book c.requires.rows.each c.requires.rows.at_most_1000000 c.tables.invariant.frame c.tables.invariant.kept c.tables.invariant.given
