use Rattle.std.proofs.Common.{ap, ◌∙◌, rules}
use Rattle.certificate.specs.ExtraReadings.{extra_of}
use Rattle.certificate.specs.ExtraTexts.{IsExtraWithinTypes}
use Rattle.certificate.proofs.ExtraBack.{extra_read_back}
use Rattle.certificate.proofs.ExtraSteps.{extra_appended}
use Rattle.certificate.proofs.extra_writing.write_extra.Goals as goal

pub returns-clause-text : goal.returns-clause-text
returns-clause-text c =
    rw (c.into_vec.ensures, c.in_ok-add-2.ensures, c.in_ok-add_worlds.ensures.text, c.in_ok-add_needs.ensures.text, c.in_ok-add_cells.ensures.text, c.in_ok-add.ensures, c.empty-text.ensures, c.as_slice.ensures, c.as_slice-2.ensures, c.as_slice-3.ensures) (extra_appended c.args.extra.now)

pub returns-clause-read_back : goal.returns-clause-read_back
returns-clause-read_back c =
    let within : IsExtraWithinTypes c.args.extra.now = search rules in
    rw (c.into_vec.ensures, c.in_ok-add-2.ensures, c.in_ok-add_worlds.ensures.text, c.in_ok-add_needs.ensures.text, c.in_ok-add_cells.ensures.text, c.in_ok-add.ensures, c.empty-text.ensures, c.as_slice.ensures, c.as_slice-2.ensures, c.as_slice-3.ensures) (ap extra_of (extra_appended c.args.extra.now) ∙ extra_read_back c.args.extra.now c.requires within)
