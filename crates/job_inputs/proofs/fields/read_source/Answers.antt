use Rattle.std.proofs.lemmas.Result.{err_from_is_err_and}
use Rattle.job_inputs.proofs.Causes.{look-stops, nothing-looked}
use Rattle.job_inputs.proofs.Coming.{listed-comes}
use Rattle.job_inputs.proofs.Listing.{listed-stops}
use Rattle.job_inputs.specs.Reading.{stopped_for}
use Rattle.job_inputs.proofs.fields.read_source.Goals as goal

pub returns-in_err-tree-in-Listed : goal.returns-in_err-tree-in-Listed
returns-in_err-tree-in-Listed g c =
    let p = err_from_is_err_and c.from_residual-in_err-tree-in-Listed.result c.from_residual-in_err-tree-in-Listed.ensures.1 in
    let e = c.in_err-tree-in-Listed.field-0.0 in
    let v = c.args.variable.now in
    rw (p.1, p.2)
    (look-stops _ _ _ _ _ _ e _ _ _ (nothing-looked _ _) c.in_err-tree-in-Listed.ensures
    (λ fs told fails. listed-stops fs c.args.place v c.args.codes.items c.in-Listed.file c.in-Listed.lead v.shape (stopped_for e) c.in-Listed.is fails)
    (λ fs told f held comes. listed-comes c.args.place c.in-Listed.file c.in-Listed.lead v.shape f held c.in-Listed.is comes))
