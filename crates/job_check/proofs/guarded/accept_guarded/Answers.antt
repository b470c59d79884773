use Rattle.std.proofs.Common.{◌≡◌, Bool, List, Ok, refl, ap, sym, subst, ◌∙◌, All}
use Rattle.std.proofs.lemmas.Result.{err_from_is_err_and}
use Rattle.attackers.specs.ExtraFaults.{extra_fault as first_extra_fault, extra_fault_of}
use Rattle.sdc_base.specs.HiddenSets.{hide_cells}
use Rattle.repair.specs.HidingOrder.{protected_case}
use Rattle.sdc_base.specs.Answers.{Fails}
use Rattle.cert_check.proofs.OwnTables.{own_case}
use Rattle.cert_check.specs.OwnTexts.{own_set}
use Rattle.cert_check.specs.declared.case.Case.{Case}
use Rattle.certificate.specs.declared.certificate.WorldLine.{WorldLine}
use Rattle.worlds.specs.ProtectFaults.{asked_of}
use Rattle.worlds.specs.WorldFaults.{IsGivenWorld}
use Rattle.job_check.proofs.GuardedParts.{given-worlds, own-ground, shown-guarding}
use Rattle.job_check.proofs.Judgements.{certificate-stops, tables-stop, extra-stops, none-stops}
use Rattle.job_check.proofs.guarded.accept_guarded.Goals as goal

pub accept_certificate-requires-clause-is_case : goal.accept_certificate-requires-clause-is_case
accept_certificate-requires-clause-is_case c = own_case c.args.case.now c.args.tables.now c.args.certificate.now c.requires.is_case

pub returns-in_err-hidden-clause-exact : goal.returns-in_err-hidden-clause-exact
returns-in_err-hidden-clause-exact c =
    let p = err_from_is_err_and c.from_residual.result c.from_residual.ensures.1 in
    rw (p.1, p.2) (certificate-stops c.args.case.now c.args.soles.now c.args.tables.now c.args.certificate.now c.args.extra.now c.in_err-hidden.field-0.0 c.in_err-hidden.ensures.exact)

pub check_tables-requires-clause-flags : goal.check_tables-requires-clause-flags
check_tables-requires-clause-flags c =
    c.in_ok-larger.ensures.each ∙ (own-ground c.args.case.now c.args.certificate.now c.in_ok-hidden.hidden.flags c.requires.is_case.each_cell c.in_ok-hidden.ensures.set).each_flag

pub returns-in_err-check_tables-clause-exact : goal.returns-in_err-check_tables-clause-exact
returns-in_err-check_tables-clause-exact c =
    let p = err_from_is_err_and c.from_residual-in_err-check_tables.result c.from_residual-in_err-check_tables.ensures.1 in
    rw (p.1, p.2)
    (tables-stop c.args.case.now c.args.soles.now c.args.tables.now c.args.certificate.now c.args.extra.now c.in_ok-larger.larger.flags c.in_err-check_tables.field-0.0 c.in_ok-hidden.ensures.exact
    (c.in_ok-larger.ensures.flags ∙ ap (hide_cells c.in_ok-hidden.hidden.flags) c.as_slice.ensures ∙ ap (λ (flags : List Bool). hide_cells flags c.args.extra.now.cells) c.in_ok-hidden.ensures.set) c.in_err-check_tables.ensures.exact)

pub accept_extra-requires-clause-ground : goal.accept_extra-requires-clause-ground
accept_extra-requires-clause-ground c = own-ground c.args.case.now c.args.certificate.now c.in_ok-hidden.hidden.flags c.requires.is_case.each_cell c.in_ok-hidden.ensures.set

pub accept_extra-requires-clause-worlds : goal.accept_extra-requires-clause-worlds
accept_extra-requires-clause-worlds c =
    let case : Case = c.args.case.now in
    subst (λ (flags : List Bool). All (λ (line : WorldLine). IsGivenWorld case.system.now case.cells.now flags line.world) c.as_slice-worlds.result.now) (sym c.in_ok-hidden.ensures.set)
    (subst (λ (lines : List WorldLine). All (λ (line : WorldLine). IsGivenWorld case.system.now case.cells.now (own_set case c.args.certificate.now) line.world) lines) (sym c.as_slice-worlds.ensures)
    (given-worlds case.system.now case.cells.now (own_set case c.args.certificate.now) (asked_of 0 case.cells.now) c.args.certificate.now.worlds c.in_ok-hidden.ensures.shown.worlds))

pub returns-in_err-accept_extra-clause-exact : goal.returns-in_err-accept_extra-clause-exact
returns-in_err-accept_extra-clause-exact c =
    let case : Case = c.args.case.now in
    let p = err_from_is_err_and c.from_residual-in_err-accept_extra.result c.from_residual-in_err-accept_extra.ensures.1 in
    let why = c.in_err-accept_extra.field-0.0 in
    rw (p.1, p.2)
    (extra-stops case c.args.soles.now c.args.tables.now c.args.certificate.now c.args.extra.now c.in_ok-hidden.hidden.flags c.in_ok-larger.larger.flags why c.in_ok-hidden.ensures.exact c.in_ok-hidden.ensures.set
    (c.in_ok-larger.ensures.flags ∙ ap (hide_cells c.in_ok-hidden.hidden.flags) c.as_slice.ensures ∙ ap (λ (flags : List Bool). hide_cells flags c.args.extra.now.cells) c.in_ok-hidden.ensures.set) c.in_ok-check_tables.ensures.exact
    (subst (λ (lines : List WorldLine). Fails (extra_fault_of why) (first_extra_fault (protected_case case.system.now case.cells.now) c.args.soles.now c.in_ok-hidden.hidden.flags lines c.args.extra.now)) c.as_slice-worlds.ensures c.in_err-accept_extra.ensures.exact))

pub returns-clause-exact : goal.returns-clause-exact
returns-clause-exact c =
    let case : Case = c.args.case.now in
    none-stops case c.args.soles.now c.args.tables.now c.args.certificate.now c.args.extra.now c.in_ok-hidden.hidden.flags c.in_ok-larger.larger.flags c.in_ok-hidden.ensures.exact c.in_ok-hidden.ensures.set
    (c.in_ok-larger.ensures.flags ∙ ap (hide_cells c.in_ok-hidden.hidden.flags) c.as_slice.ensures ∙ ap (λ (flags : List Bool). hide_cells flags c.args.extra.now.cells) c.in_ok-hidden.ensures.set) c.in_ok-check_tables.ensures.exact
    (subst (λ (lines : List WorldLine). first_extra_fault (protected_case case.system.now case.cells.now) c.args.soles.now c.in_ok-hidden.hidden.flags lines c.args.extra.now ≡ Ok tt) c.as_slice-worlds.ensures c.in_ok-accept_extra.ensures.exact)

pub returns-clause-shows : goal.returns-clause-shows
returns-clause-shows c = λ fine.
    shown-guarding c.args.case.now c.args.soles.now c.args.tables.now c.args.certificate.now c.args.extra.now c.in_ok-hidden.hidden.flags c.in_ok-larger.larger.flags c.in_ok-hidden.ensures.set
    (c.in_ok-larger.ensures.flags ∙ ap (hide_cells c.in_ok-hidden.hidden.flags) c.as_slice.ensures ∙ ap (λ (flags : List Bool). hide_cells flags c.args.extra.now.cells) c.in_ok-hidden.ensures.set) c.in_ok-hidden.ensures.of_case c.in_ok-hidden.ensures.shown (c.in_ok-check_tables.ensures.texts refl)
    (c.in_ok-accept_extra.ensures.accepted refl)
