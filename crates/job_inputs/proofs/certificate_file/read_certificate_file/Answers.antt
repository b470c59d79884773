use Rattle.std.proofs.Common.{◌≡◌, List, ℕ, Ok, subst}
use Rattle.std.proofs.lemmas.Result.{err_from_is_err_and}
use Rattle.sdc_base.specs.Answers.{Fails}
use Rattle.sdc_base.specs.Steps.{map_fault}
use Rattle.certificate.specs.Certificates.{certificate_of}
use Rattle.job_inputs.proofs.Causes.{look-stops, contents-stop, look-ends, nothing-looked}
use Rattle.job_inputs.proofs.CertificateFiles.{file-stops, contents-stop-it, certificate-is}
use Rattle.job_inputs.specs.CertificateFile.{certificate_fault}
use Rattle.job_inputs.specs.Reading.{stopped_for}
use Rattle.plain_text.specs.Stops.{why_of}
use Rattle.job_inputs.proofs.certificate_file.read_certificate_file.Goals as goal

pub returns-in_err-bytes : goal.returns-in_err-bytes
returns-in_err-bytes g c =
    let p = err_from_is_err_and c.from_residual.result c.from_residual.ensures.1 in
    let e = c.in_err-bytes.field-0.0 in
    rw (p.1, p.2)
    (look-stops _ _ _ _ _ _ e _ _ _ (nothing-looked _ _) c.in_err-bytes.ensures
    (λ fs told fails. file-stops fs c.args.name.now (stopped_for e) fails)
    (λ fs told f held comes. comes))

pub returns-in_err-certificate : goal.returns-in_err-certificate
returns-in_err-certificate g c =
    let p = err_from_is_err_and c.from_residual-in_err-certificate.result c.from_residual-in_err-certificate.ensures.1 in
    let r = c.in_err-certificate.field-0.0 in
    let first = c.in_ok-bytes.ensures in
    let refused = subst (λ (bytes : List ℕ). Fails (why_of r) (map_fault certificate_fault (certificate_of bytes))) c.as_slice.ensures.value c.in_err-certificate.ensures.told in
    rw (p.1, p.2)
    (contents-stop _ _ _ r _ _ first.shelf c.in_err-certificate.ensures.contents
    (λ fs told. contents-stop-it fs c.args.name.now c.in_ok-bytes.bytes.items (why_of r) (first.told fs told) refused))

pub returns : goal.returns
returns g c =
    let first = c.in_ok-bytes.ensures in
    let certificate = c.in_ok-certificate.certificate in
    let given = subst (λ (bytes : List ℕ). map_fault certificate_fault (certificate_of bytes) ≡ Ok certificate) c.as_slice.ensures.value c.in_ok-certificate.ensures.told in
    look-ends _ _ _ _ _ _ first.shelf (nothing-looked _ _)
    (λ fs told. certificate-is fs c.args.name.now c.in_ok-bytes.bytes.items certificate (first.told fs told) given)
    c.in_ok-certificate.ensures.sound
