use Rattle.std.proofs.Common.{◌≡◌, ◌<◌, ◌≤◌, ◌+◌, List, ◌∷◌, [], ◌++◌, length, take, ap, sym, subst, ◌∙◌, arith, append_assoc}
use Rattle.std.specs.Prelude.{slice_index_or}
use Rattle.sdc_base.specs.declared.dimension.Dimension.{Dimension}
use Rattle.job_lang.specs.declared.job.OutputLine.{OutputLine}
use Rattle.job_lang.specs.declared.job.TableLine.{TableLine}
use Rattle.job_run.specs.Books.{shown_by}
use Rattle.job_run.specs.Releases.{tables_from}
use Rattle.job_run.specs.declared.put.FilePut.{FilePut}
use Rattle.job_inputs.proofs.FieldSteps.{one-longer}
use Rattle.job_run.proofs.TableSteps.{put_at, same-width, tables-all, tables-more}
use Rattle.job_run.proofs.release_texts.add_tables.Goals as goal

pub table_put-requires-clause-header : goal.table_put-requires-clause-header
table_put-requires-clause-header c =
    let described = c.args.described.now in
    let lines = described.job.tables in
    let here = subst (λ (xs : List TableLine). c.tables.t < length xs) c.as_slice-line-items.ensures c.tables-test.true in
    let line = subst (λ (xs : List TableLine). c.line-item.result ≡ slice_index_or xs c.tables.t c.line-item.result) c.as_slice-line-items.ensures c.line-item.is in
    same-width described.bound.tables lines c.tables.t c.line-item.result c.requires.shown.sound.bound.tables here line
    ∙ ap (λ (tables : List (List Dimension)). length (slice_index_or tables c.tables.t [])) (sym c.requires.shown.ready.tables)

pub tables-preserved : goal.tables-preserved
tables-preserved c = record {
  puts = λ inputs is whole.
      let shown = shown_by inputs c.args.shown in
      let lines = c.args.described.now.job.tables in
      let outputs = c.args.described.now.job.outputs in
      let here = subst (λ (xs : List TableLine). c.tables.t < length xs) c.as_slice-line-items.ensures c.tables-test.true in
      let line = subst (λ (xs : List TableLine). c.line-item.result ≡ slice_index_or xs c.tables.t c.line-item.result) c.as_slice-line-items.ensures c.line-item.is in
      let output = subst (λ (xs : List OutputLine). c.index-outputs-t.result ≡ slice_index_or xs c.tables.t c.index-outputs-t.result) c.as_slice-outputs.ensures c.index-outputs-t.is in
      let more = tables-more inputs shown c.tables.t lines outputs c.line-item.result c.index-outputs-t.result here c.requires.shown.sound.job.outputs line output in
      c.in_ok-push.ensures.ok
      ∙ ap (λ (put : FilePut). c.tables.puts ++ put ∷ []) (c.in_ok-put.ensures inputs is whole)
      ∙ ap (λ (puts : List FilePut). puts ++ put_at inputs shown c.tables.t c.line-item.result c.index-outputs-t.result ∷ []) (c.tables.invariant.puts inputs is whole)
      ∙ append_assoc c.args.puts.now (tables_from inputs shown 0 (take c.tables.t lines) (take c.tables.t outputs)) (put_at inputs shown c.tables.t c.line-item.result c.index-outputs-t.result ∷ [])
      ∙ ap (λ (puts : List FilePut). c.args.puts.now ++ puts) (sym more);
  each = ap length c.in_ok-push.ensures.ok ∙ one-longer c.tables.puts c.in_ok-put.put (length c.args.puts.now + c.tables.t) c.tables.invariant.each ∙ omega arith;
}

pub returns-clause-puts : goal.returns-clause-puts
returns-clause-puts c = λ inputs is whole.
    let shown = shown_by inputs c.args.shown in
    let lines = c.args.described.now.job.tables in
    let outputs = c.args.described.now.job.outputs in
    let past = subst (λ (xs : List TableLine). length xs ≤ c.tables.t) c.as_slice-line-items.ensures c.tables-test.false in
    c.tables.invariant.puts inputs is whole ∙ ap (λ (puts : List FilePut). c.args.puts.now ++ puts) (tables-all inputs shown c.tables.t lines outputs past c.requires.shown.sound.job.outputs)
