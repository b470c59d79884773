use Rattle.std.proofs.Common.{◌∙◌}
use Rattle.std.proofs.lemmas.Result.{err_from_is_err_and}
use Rattle.job_inputs.specs.Reading.{stopped_for}
use Rattle.job_inputs.proofs.Causes.{look-stops, look-ends, memory-stops, nothing-looked, look-on}
use Rattle.job_inputs.proofs.Coming.{first-comes, fields-come-to, microdata-comes}
use Rattle.job_inputs.proofs.Laying.{described-stops-all, fields-stop-all, records-stop-all, inputs-are}
use Rattle.job_inputs.proofs.Placing.{are-records}
use Rattle.job_inputs.proofs.inputs.read_inputs.Goals as goal

pub returns-in_err-described : goal.returns-in_err-described
returns-in_err-described g c =
    let p = err_from_is_err_and c.from_residual.result c.from_residual.ensures.1 in
    let e = c.in_err-described.field-0.0 in
    rw (p.1, p.2)
    (look-stops _ _ _ _ _ _ e _ _ _ (nothing-looked _ _) c.in_err-described.ensures
    (λ fs told fails. described-stops-all c.args.purpose fs c.args.name.now (stopped_for e) fails)
    (λ fs told f held comes. first-comes c.args.purpose fs c.args.name.now f held comes))

pub returns-in_err-fields : goal.returns-in_err-fields
returns-in_err-fields g c =
    let p = err_from_is_err_and c.from_residual-in_err-fields.result c.from_residual-in_err-fields.ensures.1 in
    let e = c.in_err-fields.field-0.0 in
    let described = c.in_ok-described.described in
    let first = c.in_ok-described.ensures in
    rw (p.1, p.2)
    (look-stops _ _ _ _ _ _ e _ _ _ first.shelf c.in_err-fields.ensures
    (λ fs told fails. fields-stop-all c.args.purpose fs c.args.name.now described (stopped_for e) (first.told fs told) fails)
    (λ fs told f held comes. fields-come-to c.args.purpose fs c.args.name.now described f held (first.told fs told) comes))

pub returns-in_err-layout : goal.returns-in_err-layout
returns-in_err-layout g c =
    let p = err_from_is_err_and c.from_residual-in_err-layout.result c.from_residual-in_err-layout.ensures.1 in
    rw (p.1, p.2) (memory-stops _ _ _ _ _ (look-on _ _ _ _ c.in_ok-described.ensures.shelf c.in_ok-fields.ensures.shelf))

pub returns-in_err-records : goal.returns-in_err-records
returns-in_err-records g c =
    let p = err_from_is_err_and c.from_residual-in_err-records.result c.from_residual-in_err-records.ensures.1 in
    let e = c.in_err-records.field-0.0 in
    let described = c.in_ok-described.described in
    let fields = c.in_ok-fields.fields in
    let first = c.in_ok-described.ensures in
    let then = c.in_ok-fields.ensures in
    rw (p.1, p.2)
    (look-stops _ _ _ _ _ _ e _ _ _ (look-on _ _ _ _ first.shelf then.shelf) c.in_err-records.ensures
    (λ fs told fails.
    records-stop-all c.args.purpose fs c.args.name.now described fields c.in_ok-layout.layout (stopped_for e) (first.told fs told) (then.told fs (first.shelf.only_read.files ∙ told)) c.in_ok-layout.ensures.exact fails)
    (λ fs told f held comes. microdata-comes c.args.purpose fs c.args.name.now described fields f held (first.told fs told) (then.told fs (first.shelf.only_read.files ∙ told)) comes))

pub returns : goal.returns
returns g c =
    let first = c.in_ok-described.ensures in
    let then = c.in_ok-fields.ensures in
    let last = c.in_ok-records.ensures in
    let before = look-on _ _ _ _ first.shelf then.shelf in
    look-ends _ _ _ _ _ _ before last.shelf
    (λ fs told.
    inputs-are c.args.purpose fs c.args.name.now c.in_ok-described.described c.in_ok-fields.fields c.in_ok-layout.layout c.in_ok-records.records (first.told fs told) (then.told fs (first.shelf.only_read.files ∙ told)) c.in_ok-layout.ensures.exact
    (last.told fs (before.only_read.files ∙ told)))
    (record {
      described = first.sound;
      records = are-records c.in_ok-described.described c.in_ok-fields.fields c.in_ok-layout.layout c.in_ok-records.records first.sound then.sound.as_many c.in_ok-layout.ensures.exact last.sound.within last.sound.trees last.sound.leaves;
    })
