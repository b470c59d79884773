use Rattle.release_writer.specs.ReadingLaws.{AreTexts}
use Rattle.release_writer.specs.ShownCells.{open_truth}
use Rattle.cert_check.specs.OwnTexts.{release_fault}
use Rattle.cert_check.specs.declared.case.Case.{Case}
use Rattle.cert_check.proofs.Accepted.{tables_good}
use Rattle.cert_check.proofs.AcceptedWhole.{accepted_by}
use Rattle.cert_check.proofs.SetLengths.{truths_from_zero}
use Rattle.cert_check.proofs.release.check_tables.Goals as goal

pub check_release-requires-clause-truths : goal.check_release-requires-clause-truths
check_release-requires-clause-truths c = truths_from_zero c.args.case.now.book.now.marks c.args.case.now.cells.now c.requires.is_case.truths

pub returns-clause-texts : goal.returns-clause-texts
returns-clause-texts c =
    let case : Case = c.args.case.now in
    let flags = c.args.hidden.now.flags in
    accepted_by c.check_release.result (release_fault case flags c.args.release.now) (AreTexts case.book.now case.decimals (open_truth case.book.now.marks flags) case.book.now.tables case.names.now c.args.release.now) c.check_release.ensures
    (tables_good case.book.now flags case.decimals 0 case.book.now.tables case.names.now c.args.release.now c.requires.is_case.names.lists c.requires.is_case.tables)
