use Rattle.std.proofs.Common.{◌≡◌, ◌<◌, Ok, List, ℕ, ◌++◌, ◌∷◌, [], length, ap, refl, subst, sym, ◌∙◌}
use Rattle.std.specs.Prelude.{slice_index_or}
use Rattle.std.proofs.lemmas.Option.{slice_get_read}
use Rattle.std.proofs.lemmas.Result.{err_from_is_err_and}
use Rattle.job_lang.specs.declared.job.OutputLine.{OutputLine}
use Rattle.job_inputs.proofs.Causes.{look-stops, memory-stops, nothing-looked, look-on}
use Rattle.job_inputs.proofs.FieldSteps.{one-longer}
use Rattle.job_inputs.proofs.Shelving.{tables-none, tables-more, tables-stop, tables-come}
use Rattle.job_inputs.proofs.tables.read_tables.Goals as goal

pub outputs-init : goal.outputs-init
outputs-init g c = record {
  told = λ fs told. tables-none fs c.args.job.now.outputs c.empty-tables.result c.empty-tables.ensures;
  each = ap length c.empty-tables.ensures;
  shelf = nothing-looked _ _;
}

pub returns-in_err-bytes : goal.returns-in_err-bytes
returns-in_err-bytes g c =
    let p = err_from_is_err_and c.from_residual.result c.from_residual.ensures.1 in
    let e = c.in_err-bytes.field-0.0 in
    let job = c.args.job.now in
    let output = c.output-item.result in
    let here = subst (λ (xs : List OutputLine). c.outputs.t < length xs) c.as_slice-output-items.ensures c.outputs-test.true in
    let is = subst (λ (xs : List OutputLine). output ≡ slice_index_or xs c.outputs.t output) c.as_slice-output-items.ensures c.output-item.is in
    let at = slice_get_read job.outputs (length job.outputs) c.outputs.t output refl here is in
    rw (p.1, p.2)
    (look-stops _ _ _ _ _ _ e _ _ _ c.outputs.invariant.shelf c.in_err-bytes.ensures
    (λ fs told fails. tables-stop fs job c.outputs.t output c.outputs.tables _ at (c.outputs.invariant.told fs told) fails)
    (λ fs told f held comes. (c.outputs.t, comes.is_file, tables-come fs job c.outputs.t output c.outputs.tables held at (c.outputs.invariant.told fs told) comes.is_name)))

pub returns-in_err-push : goal.returns-in_err-push
returns-in_err-push g c =
    let p = err_from_is_err_and c.from_residual-in_err-push.result c.from_residual-in_err-push.ensures.1 in
    rw (p.1, p.2) (memory-stops _ _ _ _ _ (look-on _ _ _ _ c.outputs.invariant.shelf c.in_ok-bytes.ensures.shelf))

pub outputs-preserved : goal.outputs-preserved
outputs-preserved g c =
    let job = c.args.job.now in
    let output = c.output-item.result in
    let here = subst (λ (xs : List OutputLine). c.outputs.t < length xs) c.as_slice-output-items.ensures c.outputs-test.true in
    let is = subst (λ (xs : List OutputLine). output ≡ slice_index_or xs c.outputs.t output) c.as_slice-output-items.ensures c.output-item.is in
    let at = slice_get_read job.outputs (length job.outputs) c.outputs.t output refl here is in
    let pushed = c.in_ok-push.ensures.ok ∙ ap (λ (text : List ℕ). c.outputs.tables ++ text ∷ []) c.new.ensures in
    record {
      told = λ fs told.
          tables-more fs job.outputs c.outputs.t output c.outputs.tables c.in_ok-bytes.bytes.items at (c.outputs.invariant.told fs told) (c.in_ok-bytes.ensures.told fs (c.outputs.invariant.shelf.only_read.files ∙ told))
          ∙ ap Ok (sym pushed);
      each = ap length pushed ∙ one-longer c.outputs.tables c.in_ok-bytes.bytes.items c.outputs.t c.outputs.invariant.each;
      shelf = look-on _ _ _ _ c.outputs.invariant.shelf c.in_ok-bytes.ensures.shelf;
    }
