use Rattle.std.proofs.Common.{◌≡◌, ℕ, false, List, length, Some, Ok, ap, sym, subst, ◌∙◌}
use Rattle.std.specs.Prelude.{slice_get, slice_index_or}
use Rattle.std.specs.List.{AllByRecursion}
use Rattle.std.proofs.lemmas.Result.{err_from_is_err_and}
use Rattle.sdc_base.specs.Answers.{Fails}
use Rattle.rda_meta.specs.declared.meta.Variable.{Variable}
use Rattle.job_lang.specs.BoundLimits.{IsNumericAt}
use Rattle.microdata.specs.declared.layout.Field.{Field}
use Rattle.job_inputs.specs.CodeSources.{fields_of}
use Rattle.job_inputs.specs.Layouts.{variables_at}
use Rattle.job_inputs.specs.Looks.{FieldsComeTo}
use Rattle.job_inputs.specs.PlacedFields.{IsPlacedField}
use Rattle.job_inputs.specs.Reading.{stopped_for}
use Rattle.job_inputs.proofs.Causes.{look-stops, memory-stops, nothing-looked, look-on}
use Rattle.job_inputs.proofs.FieldSteps.{known, fields-none, fields-more, fields-stop, fields-come, all-more, one-longer}
use Rattle.job_inputs.proofs.fields.read_fields.Goals as goal

pub places-init : goal.places-init
places-init g c = record {
  told = λ fs told. fields-none fs c.as_slice-variables.result.now c.as_slice-place-items.result.now c.empty-fields.result c.empty-fields.ensures;
  placed = subst (λ (fields : List Field). AllByRecursion IsPlacedField fields) (sym c.empty-fields.ensures) tt;
  count = ap length c.empty-fields.ensures;
  shelf = nothing-looked _ _;
}

pub variable_at-variable-requires : goal.variable_at-variable-requires
variable_at-variable-requires g c =
    let here = subst (λ (vs : List Variable). AllByRecursion (IsNumericAt false vs) c.args.described.now.bound.spanning) (sym c.as_slice-variables.ensures) c.requires.bound.spanning in
    let all = subst (λ (places : List ℕ). AllByRecursion (IsNumericAt false c.as_slice-variables.result.now) places) (sym c.as_slice-place-items.ensures) here in
    known false c.as_slice-variables.result.now c.as_slice-place-items.result.now c.places.place-index all c.places-test.true

pub read_field-requires : goal.read_field-requires
read_field-requires g c =
    c.requires.meta.each (slice_index_or c.as_slice-place-items.result.now c.places.place-index 0) c.variable_at-variable.result.now
    (subst (λ (vs : List Variable). slice_get vs (slice_index_or c.as_slice-place-items.result.now c.places.place-index 0) ≡ Some c.variable_at-variable.result.now) c.as_slice-variables.ensures c.variable_at-variable.ensures)

pub returns-in_err-field : goal.returns-in_err-field
returns-in_err-field g c =
    let p = err_from_is_err_and c.from_residual.result c.from_residual.ensures.1 in
    let e = c.in_err-field.field-0.0 in
    let variables = c.as_slice-variables.result.now in
    let places = c.as_slice-place-items.result.now in
    let v = c.variable_at-variable.result.now in
    rw (p.1, p.2)
    (look-stops _ _ _ _ _ _ e _ _ _ c.places.invariant.shelf c.in_err-field.ensures
    (λ fs told fails.
    subst (λ (vs : List Variable). Fails (stopped_for e) (fields_of fs (variables_at vs c.args.described.now.bound.spanning))) c.as_slice-variables.ensures
    (subst (λ (ps : List ℕ). Fails (stopped_for e) (fields_of fs (variables_at variables ps))) c.as_slice-place-items.ensures
    (fields-stop fs variables places c.places.place-index v c.places.fields (stopped_for e) c.places-test.true c.variable_at-variable.ensures (c.places.invariant.told fs told) fails)))
    (λ fs told f held comes.
    subst (λ (vs : List Variable). FieldsComeTo fs (variables_at vs c.args.described.now.bound.spanning) f held) c.as_slice-variables.ensures
    (subst (λ (ps : List ℕ). FieldsComeTo fs (variables_at variables ps) f held) c.as_slice-place-items.ensures
    (fields-come fs variables places c.places.place-index v c.places.fields f held c.places-test.true c.variable_at-variable.ensures (c.places.invariant.told fs told) comes))))

pub returns-in_err-push : goal.returns-in_err-push
returns-in_err-push g c =
    let p = err_from_is_err_and c.from_residual-in_err-push.result c.from_residual-in_err-push.ensures.1 in
    rw (p.1, p.2) (memory-stops _ _ _ _ _ (look-on _ _ _ _ c.places.invariant.shelf c.in_ok-field.ensures.shelf))

pub places-preserved : goal.places-preserved
places-preserved g c = record {
  told = λ fs told.
      fields-more fs c.as_slice-variables.result.now c.as_slice-place-items.result.now c.places.place-index c.variable_at-variable.result.now c.places.fields c.in_ok-field.field
      c.places-test.true c.variable_at-variable.ensures (c.places.invariant.told fs told) (c.in_ok-field.ensures.told fs (c.places.invariant.shelf.only_read.files ∙ told)) ∙ ap Ok (sym c.in_ok-push.ensures.ok);
  placed = subst (λ (fields : List Field). AllByRecursion IsPlacedField fields) (sym c.in_ok-push.ensures.ok) (all-more IsPlacedField c.places.fields c.in_ok-field.field c.places.invariant.placed c.in_ok-field.ensures.sound);
  count = ap length c.in_ok-push.ensures.ok ∙ one-longer c.places.fields c.in_ok-field.field c.places.place-index c.places.invariant.count;
  shelf = look-on _ _ _ _ c.places.invariant.shelf c.in_ok-field.ensures.shelf;
}
