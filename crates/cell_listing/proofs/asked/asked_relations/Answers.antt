use Rattle.std.proofs.Common.{Ok, Err, refl}
use Rattle.std.proofs.lemmas.Result.{err_from_is_err_and}
use Rattle.cell_listing.proofs.asked.asked_relations.Goals as goal

pub returns-in_err-bytes-clause-answers : goal.returns-in_err-bytes-clause-answers
returns-in_err-bytes-clause-answers g c =
    let p = err_from_is_err_and c.from_residual.result c.from_residual.ensures.1 in
    rw (p.1, p.2) (record { listing = Err c.in_err-bytes.field-0.0; same = refl; run = record { looked = c.in_err-bytes.ensures.looked; listed = c.in_err-bytes.ensures.listed } })

pub returns-clause-answers : goal.returns-clause-answers
returns-clause-answers g c = record { listing = Ok c.in_ok-bytes.bytes; same = refl; run = record { looked = c.in_ok-bytes.ensures.looked; listed = c.in_ok-bytes.ensures.listed } }
