use Rattle.std.proofs.Common.{◌≡◌, List, ℕ, Ok, subst}
use Rattle.std.proofs.lemmas.Result.{err_from_is_err_and}
use Rattle.sdc_base.specs.Answers.{Fails}
use Rattle.sdc_base.specs.Steps.{map_fault}
use Rattle.certificate.specs.ExtraReadings.{extra_of}
use Rattle.job_inputs.proofs.Causes.{look-stops, contents-stop, look-ends, nothing-looked}
use Rattle.job_inputs.proofs.ContributorsFiles.{file-stops, contents-stop-it, extra-is}
use Rattle.job_inputs.specs.ContributorsFile.{contributors_fault}
use Rattle.job_inputs.specs.Reading.{stopped_for}
use Rattle.plain_text.specs.Stops.{why_of}
use Rattle.job_inputs.proofs.contributors_file.read_contributors_file.Goals as goal

pub returns-in_err-bytes : goal.returns-in_err-bytes
returns-in_err-bytes g c =
    let p = err_from_is_err_and c.from_residual.result c.from_residual.ensures.1 in
    let e = c.in_err-bytes.field-0.0 in
    rw (p.1, p.2)
    (look-stops _ _ _ _ _ _ e _ _ _ (nothing-looked _ _) c.in_err-bytes.ensures
    (λ fs told fails. file-stops fs c.args.name.now (stopped_for e) fails)
    (λ fs told f held comes. comes))

pub returns-in_err-extra : goal.returns-in_err-extra
returns-in_err-extra g c =
    let p = err_from_is_err_and c.from_residual-in_err-extra.result c.from_residual-in_err-extra.ensures.1 in
    let r = c.in_err-extra.field-0.0 in
    let first = c.in_ok-bytes.ensures in
    let refused = subst (λ (bytes : List ℕ). Fails (why_of r) (map_fault contributors_fault (extra_of bytes))) c.as_slice.ensures.value c.in_err-extra.ensures.told in
    rw (p.1, p.2)
    (contents-stop _ _ _ r _ _ first.shelf c.in_err-extra.ensures.contents
    (λ fs told. contents-stop-it fs c.args.name.now c.in_ok-bytes.bytes.items (why_of r) (first.told fs told) refused))

pub returns : goal.returns
returns g c =
    let first = c.in_ok-bytes.ensures in
    let extra = c.in_ok-extra.extra in
    let given = subst (λ (bytes : List ℕ). map_fault contributors_fault (extra_of bytes) ≡ Ok extra) c.as_slice.ensures.value c.in_ok-extra.ensures.told in
    look-ends _ _ _ _ _ _ first.shelf (nothing-looked _ _)
    (λ fs told. extra-is fs c.args.name.now c.in_ok-bytes.bytes.items extra (first.told fs told) given)
    c.in_ok-extra.ensures.sound
