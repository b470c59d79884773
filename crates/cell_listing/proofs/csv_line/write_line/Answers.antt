use Rattle.std.proofs.Common.{◌≡◌, ◌+◌, ◌++◌, ◌∷◌, [], length, take, ap, sym, ◌∙◌, option_map, arith}
use Rattle.std.proofs.lemmas.List.{take_all, take_more}
use Rattle.std.proofs.lemmas.Result.{on_ok_weaker}
use Rattle.csv.specs.Writing.{default_writer, fields_written, next_sep}
use Rattle.csv.specs.Writing.{field_text as csv_text}
use Rattle.release_writer.specs.Lines.{bytes_written}
use Rattle.release_writer.proofs.BegunLines.{put-more, end-more, taken, begun_line}
use Rattle.cell_listing.proofs.csv_line.write_line.Goals as goal

pub fields-preserved : goal.fields-preserved
fields-preserved c =
    let fields = c.args.fields.now in
    let i = c.fields.field-index in
    let field = c.field-item.result in
    let lent : c.as_slice.result.now ≡ field = c.as_slice.ensures in
    let count : fields_written c.fields.writer ≡ length (take i fields) = c.fields.invariant.fields ∙ sym (taken fields i (omega arith)) in
    let more : take (i + 1) fields ≡ take i fields ++ field ∷ [] = take_more fields i field c.fields-test.true ∙ ap (λ n. take i fields ++ n ∷ []) (sym c.field-item.is) in
    let after = c.in_ok-put_field.ensures.text ∙ ap (λ n. option_map (λ text. text ++ (next_sep default_writer n ++ csv_text default_writer c.as_slice.result.now)) (bytes_written c.fields.writer)) count ∙ ap (λ f. option_map (λ text. text ++ (next_sep default_writer (length (take i fields)) ++ csv_text default_writer f)) (bytes_written c.fields.writer)) lent in
    record {
      setup = c.in_ok-put_field.ensures.setup;
      fields = c.in_ok-put_field.ensures.fields ∙ ap (λ n. n + 1) c.fields.invariant.fields;
      text = put-more (take i fields) field (bytes_written c.args.writer.now) (bytes_written c.fields.writer) (bytes_written c.put_field.new.writer) c.fields.invariant.text after
          ∙ ap (λ f. option_map (λ text. text ++ begun_line f) (bytes_written c.args.writer.now)) (sym more);
    }

pub returns-clause-text : goal.returns-clause-text
returns-clause-text c =
    let fields = c.args.fields.now in
    let start = bytes_written c.args.writer.now in
    let all : take c.fields.field-index fields ≡ fields = take_all c.fields.field-index fields c.fields-test.false in
    let before : bytes_written c.fields.writer ≡ option_map (λ text. text ++ begun_line fields) start = c.fields.invariant.text ∙ ap (λ f. option_map (λ text. text ++ begun_line f) start) all in
    on_ok_weaker c.end_line.result (λ ended. end-more fields start (bytes_written c.fields.writer) (bytes_written c.end_line.new.writer) before ended) c.end_line.ensures.text
