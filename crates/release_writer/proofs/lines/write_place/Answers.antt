use Rattle.std.proofs.Common.{◌≡◌, ℕ, ◌+◌, ◌<◌, ◌++◌, ◌∷◌, [], List, length, take, ap, sym, ◌∙◌, option_map, arith}
use Rattle.std.proofs.lemmas.List.{take_all}
use Rattle.std.proofs.lemmas.Result.{on_ok_weaker}
use Rattle.csv.specs.Writing.{default_writer, fields_written, next_sep}
use Rattle.csv.specs.Writing.{field_text as csv_text}
use Rattle.sdc_base.specs.Cells.{trees_of}
use Rattle.sdc_base.specs.TableText.{codes_of_place}
use Rattle.release_writer.specs.Lines.{bytes_written}
use Rattle.release_writer.proofs.BegunLines.{put-more, end-more, codes-more, codes-length, begun_line}
use Rattle.release_writer.proofs.lines.write_place.Goals as goal

pub codes-preserved : goal.codes-preserved
codes-preserved c =
    let trees = c.args.book.now.trees in
    let table = c.args.table.now in
    let place = c.args.place.now in
    let k = c.codes.k in
    let field = c.code_at.result.now in
    let fields : List (List ℕ) = codes_of_place (trees_of trees (take k table)) (take k place) in
    let long : k < length place = omega (arith, c.codes-test.true, c.requires.code_for_each_variable) in
    let count : fields_written c.codes.writer ≡ length fields = c.codes.invariant.fields ∙ sym (codes-length trees table place k (omega (arith, c.codes-test.true)) (omega (arith, long))) in
    let more : fields ++ field ∷ [] ≡ codes_of_place (trees_of trees (take (k + 1) table)) (take (k + 1) place) = ap (λ f. fields ++ f ∷ []) c.code_at.ensures ∙ sym (codes-more trees table place k c.codes-test.true long) in
    let after = c.in_ok-put_field.ensures.text ∙ ap (λ n. option_map (λ text. text ++ (next_sep default_writer n ++ csv_text default_writer field)) (bytes_written c.codes.writer)) count in
    record {
      setup = c.in_ok-put_field.ensures.setup;
      fields = c.in_ok-put_field.ensures.fields ∙ ap (λ n. n + 1) c.codes.invariant.fields;
      text = put-more fields field (bytes_written c.args.writer.now) (bytes_written c.codes.writer) (bytes_written c.put_field.new.writer) c.codes.invariant.text after
          ∙ ap (λ f. option_map (λ text. text ++ begun_line f) (bytes_written c.args.writer.now)) more;
    }

pub returns-clause-text : goal.returns-clause-text
returns-clause-text c =
    let trees = c.args.book.now.trees in
    let table = c.args.table.now in
    let place = c.args.place.now in
    let number = c.args.number.now in
    let k = c.codes.k in
    let start = bytes_written c.args.writer.now in
    let fields : List (List ℕ) = codes_of_place (trees_of trees table) place in
    let all : take k table ≡ table = take_all k table c.codes-test.false in
    let end : k ≡ length table = omega (arith, c.codes-test.false, c.codes.auto.k-end) in
    let whole : take k place ≡ place = take_all k place (omega (arith, end, c.requires.code_for_each_variable)) in
    let here : codes_of_place (trees_of trees (take k table)) (take k place) ≡ fields = ap (λ t. codes_of_place (trees_of trees t) (take k place)) all ∙ ap (λ p. codes_of_place (trees_of trees table) p) whole in
    let before : bytes_written c.codes.writer ≡ option_map (λ text. text ++ begun_line fields) start = c.codes.invariant.text ∙ ap (λ f. option_map (λ text. text ++ begun_line f) start) here in
    let size : length fields ≡ length table = ap (λ t. length t) (sym here) ∙ codes-length trees table place k (omega (arith, end)) (omega (arith, end, c.requires.code_for_each_variable)) ∙ end in
    let count : fields_written c.codes.writer ≡ length fields = c.codes.invariant.fields ∙ end ∙ sym size in
    let after = c.in_ok-put_field-2.ensures.text ∙ ap (λ n. option_map (λ text. text ++ (next_sep default_writer n ++ csv_text default_writer number)) (bytes_written c.codes.writer)) count in
    let put = put-more fields number start (bytes_written c.codes.writer) (bytes_written c.put_field-2.new.writer) before after in
    on_ok_weaker c.end_line.result (λ ended. end-more (fields ++ number ∷ []) start (bytes_written c.put_field-2.new.writer) (bytes_written c.end_line.new.writer) put ended) c.end_line.ensures.text
