use Rattle.std.proofs.Common.{ap, ◌∙◌, rules}
use Rattle.certificate.specs.Certificates.{certificate_of}
use Rattle.certificate.specs.Spelling.{IsWithinTypes}
use Rattle.certificate.specs.declared.version.Version.TheVariants.{Two}
use Rattle.certificate.proofs.ReadBack.{read_back, has_second}
use Rattle.certificate.proofs.AppendSteps.{certificate_appended}
use Rattle.certificate.proofs.writing.write_certificate.Goals as goal

pub returns-clause-text : goal.returns-clause-text
returns-clause-text c =
    rw (c.into_vec.ensures, c.in_ok-add.ensures, c.in_ok-add_worlds.ensures.text, c.in_ok-add_refutations-2.ensures.text, c.in_ok-add_refutations.ensures.text, c.in_ok-add_steps.ensures.text, c.in_ok-add_hidden.ensures.text, c.in_ok-add_head.ensures.text, c.empty-text.ensures, c.as_slice.ensures, c.as_slice-2.ensures, c.as_slice-3.ensures, c.as_slice-4.ensures, c.as_slice-5.ensures) (certificate_appended c.args.certificate.now)

pub returns-clause-read_back : goal.returns-clause-read_back
returns-clause-read_back c =
    let within : IsWithinTypes c.args.certificate.now = search rules in
    rw (c.into_vec.ensures, c.in_ok-add.ensures, c.in_ok-add_worlds.ensures.text, c.in_ok-add_refutations-2.ensures.text, c.in_ok-add_refutations.ensures.text, c.in_ok-add_steps.ensures.text, c.in_ok-add_hidden.ensures.text, c.in_ok-add_head.ensures.text, c.empty-text.ensures, c.as_slice.ensures, c.as_slice-2.ensures, c.as_slice-3.ensures, c.as_slice-4.ensures, c.as_slice-5.ensures) (ap certificate_of (certificate_appended c.args.certificate.now) ∙ read_back Two c.args.certificate.now (has_second c.args.certificate.now c.requires) within)
