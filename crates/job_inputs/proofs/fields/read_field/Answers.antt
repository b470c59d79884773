use Rattle.std.proofs.Common.{◌∙◌}
use Rattle.std.proofs.lemmas.Result.{err_from_is_err_and}
use Rattle.job_inputs.proofs.Causes.{look-stops, look-ends, nothing-looked}
use Rattle.job_inputs.proofs.Coming.{comes-to-list, comes-to-hierarchy}
use Rattle.job_inputs.proofs.FieldSteps.{list-stops, source-stops, field-is}
use Rattle.job_inputs.specs.Reading.{stopped_for}
use Rattle.job_inputs.proofs.fields.read_field.Goals as goal

pub returns-in_err-codes : goal.returns-in_err-codes
returns-in_err-codes g c =
    let p = err_from_is_err_and c.from_residual.result c.from_residual.ensures.1 in
    let e = c.in_err-codes.field-0.0 in
    rw (p.1, p.2)
    (look-stops _ _ _ _ _ _ e _ _ _ (nothing-looked _ _) c.in_err-codes.ensures
    (λ fs told fails. list-stops fs c.args.place c.args.variable.now (stopped_for e) fails)
    (λ fs told f held comes. comes-to-list fs c.args.place c.args.variable.now f held comes.is_file comes.is_name))

pub returns-in_err-source : goal.returns-in_err-source
returns-in_err-source g c =
    let p = err_from_is_err_and c.from_residual-in_err-source.result c.from_residual-in_err-source.ensures.1 in
    let e = c.in_err-source.field-0.0 in
    let codes = c.in_ok-codes.codes.items in
    let first = c.in_ok-codes.ensures in
    rw (p.1, p.2)
    (look-stops _ _ _ _ _ _ e _ _ _ first.shelf c.in_err-source.ensures
    (λ fs told fails. source-stops fs c.args.place c.args.variable.now codes (stopped_for e) (first.told fs told) fails)
    (λ fs told f held comes. comes-to-hierarchy fs c.args.place c.args.variable.now f held codes (first.told fs told) comes.is_file comes.listed))

pub returns : goal.returns
returns g c =
    let first = c.in_ok-codes.ensures in
    let then = c.in_ok-source.ensures in
    look-ends _ _ _ _ _ _ first.shelf then.shelf
    (λ fs told. field-is fs c.args.place c.args.variable.now c.in_ok-codes.codes.items c.in_ok-source.source (first.told fs told) (then.told fs (first.shelf.only_read.files ∙ told)))
    record { placed = record { from_one = c.requires.first_from_one; width_from_one = c.requires.width_from_one; inside = c.requires.inside }; codes = c.in_ok-source.ensures.sound }
