use Rattle.std.proofs.Common.{rules, ◌≡◌, ◌<◌, ℕ, List, slice_get, length, Some, Ok, drop, sym, ◌∙◌, subst, arith}
use Rattle.std.proofs.lemmas.Result.{err_from_is_err_and}
use Rattle.sdc_base.specs.Answers.{Fails}
use Rattle.release_writer.specs.ReleaseReading.{release_read, read_table}
use Rattle.release_writer.specs.LineChoices.{Template}
use Rattle.release_writer.specs.Sheets.{release_fault_of}
use Rattle.release_writer.proofs.ReadTables.{tables-next, tables-bad, tables-end}
use Rattle.release_writer.proofs.release.release_shown.Goals as goal

pub returns-in_err-shown : goal.returns-in_err-shown
returns-in_err-shown c =
    let book = c.args.book.now in
    let t = c.tables.t in
    let table = c.in-Some.table.now in
    let own = c.index-names-t.result in
    let bytes = c.index-tables-t.result in
    let fault = release_fault_of c.in_err-shown.field-0.0 in
    let form : Template = record { book = book; t = t; table = table; decimals = c.args.decimals; rounded = c.args.rounded } in
    let at : slice_get book.tables t ≡ Some table = search rules in
    let long : t < length c.args.names.now = omega (arith, c.tables-test.true, c.tables-t-end.ensures, c.requires.names.lists) in
    let more : t < length c.args.tables.now = omega (arith, c.tables-test.true, c.tables-t-end.ensures, c.requires.tables) in
    let first : Fails fault (read_table form own c.as_slice-in-tables.result.now c.tables.shown) = subst (λ (o : List (List ℕ)). Fails fault (read_table form o c.as_slice-in-tables.result.now c.tables.shown)) c.as_slice.ensures c.in_err-shown.ensures.exact in
    let bad : Fails fault (read_table form own bytes c.tables.shown) = subst (λ (b : List ℕ). Fails fault (read_table form own b c.tables.shown)) c.as_slice-in-tables.ensures first in
    let p = err_from_is_err_and c.from_residual.result c.from_residual.ensures.1 in
    record {
      exact = rw (p.1, p.2) (tables-bad book c.args.decimals c.args.rounded t book.tables c.args.names.now c.args.tables.now c.tables.shown table own bytes (release_read book c.args.names.now c.args.decimals c.args.rounded c.args.tables.now) fault at long c.index-names-t.is more c.index-tables-t.is c.tables.invariant.read bad);
    }

pub tables-preserved : goal.tables-preserved
tables-preserved c =
    let book = c.args.book.now in
    let t = c.tables.t in
    let table = c.in-Some.table.now in
    let own = c.index-names-t.result in
    let bytes = c.index-tables-t.result in
    let next = c.in_ok-shown.shown in
    let form : Template = record { book = book; t = t; table = table; decimals = c.args.decimals; rounded = c.args.rounded } in
    let at : slice_get book.tables t ≡ Some table = search rules in
    let long : t < length c.args.names.now = omega (arith, c.tables-test.true, c.tables-t-end.ensures, c.requires.names.lists) in
    let more : t < length c.args.tables.now = omega (arith, c.tables-test.true, c.tables-t-end.ensures, c.requires.tables) in
    let first : read_table form own c.as_slice-in-tables.result.now c.tables.shown ≡ Ok next = subst (λ (o : List (List ℕ)). read_table form o c.as_slice-in-tables.result.now c.tables.shown ≡ Ok next) c.as_slice.ensures c.in_ok-shown.ensures.exact in
    let read : read_table form own bytes c.tables.shown ≡ Ok next = subst (λ (b : List ℕ). read_table form own b c.tables.shown ≡ Ok next) c.as_slice-in-tables.ensures first in
    record {
      read = tables-next book c.args.decimals c.args.rounded t book.tables c.args.names.now c.args.tables.now c.tables.shown next table own bytes (release_read book c.args.names.now c.args.decimals c.args.rounded c.args.tables.now) at long c.index-names-t.is more c.index-tables-t.is c.tables.invariant.read read;
      shown = c.in_ok-shown.ensures.shown;
    }

pub returns : goal.returns
returns c = record {
  exact = sym c.tables.invariant.read ∙ tables-end c.args.book.now c.args.decimals c.args.rounded c.tables.t c.args.book.now.tables (drop c.tables.t c.args.names.now) (drop c.tables.t c.args.tables.now) c.tables.shown (omega (arith, c.tables-test.false, c.tables-t-end.ensures, c.tables.auto.t-end));
}
