use Rattle.std.proofs.Common.{◌≡◌, ◌≤◌, ◌+◌, ◌++◌, ◌∷◌, [], ℕ, List, length, fold, take, slice_get, Some, None, refl, ap, sym, ◌∙◌, subst, arith, All}
use Rattle.std.proofs.lemmas.List.{take_all}
use Rattle.std.proofs.lemmas.Option.{slice_get_read}
use Rattle.std.proofs.lemmas.Result.{err_from_is_err_and}
use Rattle.sdc_base.specs.Records.{Name}
use Rattle.sdc_base.specs.Answers.{Fails}
use Rattle.sdc_base.specs.Cells.{cells_of, named_by, with_name}
use Rattle.sdc_base.specs.declared.dimension.Dimension.{Dimension}
use Rattle.linked_tables.specs.Tables.{most_cells, book_fault_of, variables_fault}
use Rattle.linked_tables.specs.BookCells.{IsTable}
use Rattle.linked_tables.specs.BookKeeping.{names_within_limit, starts_of}
use Rattle.linked_tables.proofs.CellLists.{starts-more}
use Rattle.linked_tables.proofs.Faults.{capped-Ok}
use Rattle.linked_tables.proofs.TableSteps.{cells-next, cells-stop, sound-next, table-next, with_table}
use Rattle.linked_tables.proofs.numbering.number_cells.Goals as goal

pub returns-in_err-name_below-clause-fault : goal.returns-in_err-name_below-clause-fault
returns-in_err-name_below-clause-fault c =
    let trees = c.args.trees.now in
    let tables = c.args.tables.now in
    let t = c.tables.t in
    let table = c.index-tables-t.result in
    let at : slice_get tables t ≡ Some table = slice_get_read tables (length tables) t table refl c.tables-test.true c.index-tables-t.is in
    let none : variables_fault (length trees) t table ≡ None = ap (variables_fault (length trees) t) (sym c.as_slice.ensures) ∙ c.in_ok-check_variables.ensures.none in
    let p = err_from_is_err_and c.from_residual-in_err-name_below.result c.from_residual-in_err-name_below.ensures.1 in
    rw (p.1, p.2)
    (cells-stop trees tables t table (book_fault_of c.in_err-name_below.field-0.0) at c.tables.invariant.rest none
    (subst (λ (names : List Name). Fails (book_fault_of c.in_err-name_below.field-0.0) (names_within_limit t (fold with_name names (named_by trees table)))) c.tables.invariant.named c.in_err-name_below.ensures.fault))

pub tables-preserved : goal.tables-preserved
tables-preserved c =
    let trees = c.args.trees.now in
    let tables = c.args.tables.now in
    let t = c.tables.t in
    let table = c.index-tables-t.result in
    let at : slice_get tables t ≡ Some table = slice_get_read tables (length tables) t table refl c.tables-test.true c.index-tables-t.is in
    let none : variables_fault (length trees) t table ≡ None = ap (variables_fault (length trees) t) (sym c.as_slice.ensures) ∙ c.in_ok-check_variables.ensures.none in
    let made = capped-Ok t (fold with_name c.tables.names (named_by trees table)) c.name_below.new.names c.in_ok-name_below.ensures.names in
    let same : fold with_name c.tables.names (named_by trees table) ≡ with_table trees tables t table = ap (λ (names : List Name). fold with_name names (named_by trees table)) c.tables.invariant.named in
    let named : c.name_below.new.names ≡ cells_of trees (take (t + 1) tables) = sym made.0 ∙ same ∙ sym (cells-next trees tables t table at) in
    record {
      rest = c.tables.invariant.rest ∙ table-next trees tables t table at none (subst (λ (names : List Name). length names ≤ most_cells) same made.1);
      sound = sound-next (length trees) tables t table at c.tables.invariant.sound none;
      named = named;
      room = subst (λ (names : List Name). length names ≤ most_cells) made.0 made.1;
      begun = c.in_ok-push-3.ensures.items
          ∙ ap (λ (starts : List ℕ). starts ++ c.len-in-tables.result ∷ []) c.tables.invariant.begun
          ∙ ap (λ (n : ℕ). starts_of trees tables (t + 1) ++ n ∷ []) (c.len-in-tables.ensures ∙ ap (λ (names : List Name). length names) named)
          ∙ sym (starts-more trees tables (t + 1));
    }

pub returns-clause-numbered : goal.returns-clause-numbered
returns-clause-numbered c =
    let trees = c.args.trees.now in
    let tables = c.args.tables.now in
    let t = c.tables.t in
    let whole : take t tables ≡ tables = take_all t tables c.tables-test.false in
    let end : t ≡ length tables = omega (arith, c.tables-test.false, c.tables.auto.t-end) in
    record {
      sound = subst (λ (some : List (List Dimension)). All (IsTable (length trees)) some) whole c.tables.invariant.sound;
      named = c.tables.invariant.named ∙ ap (cells_of trees) whole;
      at_most = c.tables.invariant.room;
      begun = c.tables.invariant.begun ∙ ap (λ n. starts_of trees tables (n + 1)) end;
    }
