use Rattle.std.proofs.Common.{◌≡◌, ◌+◌, ◌<◌, ◌++◌, ◌∷◌, [], length, take, ap, sym, ◌∙◌, subst, option_map, arith}
use Rattle.std.proofs.lemmas.List.{take_more}
use Rattle.csv.specs.Writing.{default_writer, fields_written, next_sep}
use Rattle.csv.specs.Writing.{field_text as csv_text}
use Rattle.release_writer.specs.Lines.{bytes_written}
use Rattle.release_writer.proofs.BegunLines.{put-more, first-shows, taken, begun_line}
use Rattle.release_writer.proofs.lines.write_names.Goals as goal

pub names-preserved : goal.names-preserved
names-preserved c =
    let names = c.args.names.now in
    let i = c.names.name-index in
    let name = c.name-item.result in
    let lent : c.as_slice.result.now ≡ name = c.as_slice.ensures in
    let count : fields_written c.names.writer ≡ length (take i names) = c.names.invariant.fields ∙ sym (taken names i (omega arith)) in
    let more : take (i + 1) names ≡ take i names ++ name ∷ [] = take_more names i name c.names-test.true ∙ ap (λ n. take i names ++ n ∷ []) (sym c.name-item.is) in
    let after = c.in_ok-put_field.ensures.text ∙ ap (λ n. option_map (λ text. text ++ (next_sep default_writer n ++ csv_text default_writer c.as_slice.result.now)) (bytes_written c.names.writer)) count ∙ ap (λ f. option_map (λ text. text ++ (next_sep default_writer (length (take i names)) ++ csv_text default_writer f)) (bytes_written c.names.writer)) lent in
    record {
      setup = c.in_ok-put_field.ensures.setup;
      fields = c.in_ok-put_field.ensures.fields ∙ ap (λ n. n + 1) c.names.invariant.fields;
      shown = λ one some. c.in_ok-put_field.ensures.shown (subst (λ n. 0 < length n) (sym lent) (first-shows names name i one c.name-item.is some));
      text = put-more (take i names) name (bytes_written c.args.writer.now) (bytes_written c.names.writer) (bytes_written c.put_field.new.writer) c.names.invariant.text after
          ∙ ap (λ f. option_map (λ text. text ++ begun_line f) (bytes_written c.args.writer.now)) (sym more);
    }
