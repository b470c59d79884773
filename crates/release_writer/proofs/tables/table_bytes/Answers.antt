use Rattle.std.proofs.Common.{rules, ◌≡◌, ◌++◌, [], slice_get, slice_index_or, Some, option_map, ap, sym, ◌∙◌}
use Rattle.std.proofs.lemmas.Result.{IfOk-weaker}
use Rattle.sdc_base.specs.TableText.{line_text, table_text}
use Rattle.release_writer.specs.ShownCells.{number_shown, release_text}
use Rattle.release_writer.specs.Lines.{bytes_written, lines_below}
use Rattle.release_writer.proofs.BegunPlaces.{read-at, same-some}
use Rattle.release_writer.proofs.tables.table_bytes.Goals as goal

pub returns : goal.returns
returns c =
    let book = c.args.book.now in
    let table = c.in-Some.table.now in
    let at : slice_get book.tables c.args.t ≡ Some table = search rules in
    let here : slice_index_or book.tables c.args.t [] ≡ table = read-at book.tables c.args.t table at in
    let all : bytes_written c.write_below.new.writer ≡ Some (line_text c.args.names.now ++ lines_below book table c.args.decimals c.args.shown []) =
    c.in_ok-write_below.ensures.text ∙ ap (λ t. option_map (λ text. text ++ lines_below book table c.args.decimals c.args.shown []) t) c.in_ok-writer.ensures.text in
    record {
      text = IfOk-weaker c.bytes_of.result (λ bytes. Some bytes.items ≡ bytes_written c.write_below.new.writer) (λ bytes. bytes.items ≡ release_text book c.args.t c.args.names.now c.args.decimals c.args.shown)
          (λ bytes is. same-some bytes.items (line_text c.args.names.now ++ lines_below book table c.args.decimals c.args.shown []) (is ∙ all) ∙ ap (λ t. table_text book.trees t c.args.names.now c.args.decimals (number_shown book c.args.shown)) (sym here))
          c.bytes_of.ensures.text;
    }
