use Rattle.std.proofs.Common.{arith, length, refl, sym, ◌∙◌}
use Rattle.cell_protection.specs.declared.protection.ProtectionOutcome.TheVariants as protection
use Rattle.job_run.specs.Books.{job_of}
use Rattle.job_run.proofs.SameBook.{as-many-marks, still-book, still-ready}
use Rattle.job_run.proofs.Releasing.{outcome-for, few-hidden, each-flag, with-hidden, suppressed-comes}
use Rattle.job_run.proofs.GuardedJobs.{unnamed-files}
use Rattle.job_run.proofs.release.protected_release.Goals as goal

pub suppressed_release-requires-clause-shown : goal.suppressed_release-requires-clause-shown
suppressed_release-requires-clause-shown c =
    let planned = c.requires.protected.planned in
    let certified = c.requires.protected.certified in
    let book = c.args.protected.now.book.now in
    let flags = each-flag _ certified.prices certified.method certified.steps 0 (protection.Protected c.args.protected.now.hidden_set.now c.args.certificate) c.args.protected.now.hidden_set.now c.args.certificate refl certified.protects in
    record {
      sound = planned.ready.sound;
      ready = still-ready c.args.described.now planned.before book planned.same planned.ready.book;
      each_flag = flags ∙ planned.ready.settled ∙ sym (as-many-marks planned.before book planned.same);
    }

pub suppressed_release-requires-clause-few : goal.suppressed_release-requires-clause-few
suppressed_release-requires-clause-few c =
    let certified = c.requires.protected.certified in
    let few = few-hidden _ certified.prices certified.method certified.steps 0 (protection.Protected c.args.protected.now.hidden_set.now c.args.certificate) c.args.protected.now.hidden_set.now c.args.certificate refl certified.protects in
    omega (arith, few, c.requires.protected.one_each, c.requires.protected.planned.ready.fewer_than_2_32)

pub returns-in_ok-release-in-None-clause-comes : goal.returns-in_ok-release-in-None-clause-comes
returns-in_ok-release-in-None-clause-comes c = λ settled is numbers.
    let protected = c.args.protected.now in
    let job = job_of c.args.described.now is.before protected.cells.now protected.rows.now is.records is.skipped in
    let one = protection.Protected protected.hidden_set.now c.args.certificate in
    let made = c.in_ok-release-in-None.ensures in
    suppressed-comes settled job _ is.hides c.in-None.is is.is_of (record {
      hidden_set = protected.hidden_set.now;
      certificate = c.args.certificate;
      protects = outcome-for settled job protected.system.now protected.cells.now one one is.hides is.is_of is.is_book is.is_system refl refl is.protects;
      read_back = made.read_back;
      puts = made.puts settled.inputs (sym is.is_of.described) (still-book settled.inputs is.before protected.book.now is.same is.is_of.book);
      numbers = made.numbers ∙ with-hidden settled c.args.summary (length c.args.certificate.hidden) (length c.args.certificate.hidden) numbers refl;
      certificate_is = made.certificate;
    })

pub returns-in_ok-release-in-None-clause-each_file : goal.returns-in_ok-release-in-None-clause-each_file
returns-in_ok-release-in-None-clause-each_file c = unnamed-files c.args.described.now.job _ c.in-None.is c.in_ok-release-in-None.ensures.each
