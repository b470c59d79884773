use Rattle.std.proofs.Common.{List, Bool, Err, Ok, arith, length, refl, ap, sym, subst, ◌∙◌}
use Rattle.std.proofs.lemmas.Result.{err_from_is_err_and}
use Rattle.sdc_base.specs.RuleLevels.{keep_of}
use Rattle.certificate.specs.Spelling.{IsSpellable}
use Rattle.cell_protection.specs.declared.protection.ProtectionOutcome.TheVariants as protection
use Rattle.sdc_base.specs.Records.{Name}
use Rattle.job_run.specs.Books.{job_of}
use Rattle.job_run.specs.GuardedReleases.{count_hidden}
use Rattle.job_run.proofs.SameBook.{as-many-marks, same-cells, still-book, still-ready, still-told}
use Rattle.job_run.proofs.Releasing.{each-flag, with-hidden}
use Rattle.job_run.proofs.GuardedJobs.{certificate-kept, each-guarded, guard-for, guarded-comes, guarded-is, file-named, named-files, guard-failure-comes}
use Rattle.job_run.proofs.guarded.guarded_release.Goals as goal

-- ---- what guarding wants

pub guard_cells-requires : goal.guard_cells-requires
guard_cells-requires c =
    let protected = c.requires.protected in
    let planned = protected.planned in
    let ready = planned.ready in
    let book = c.args.protected.now.book.now in
    record {
      can = record {
        one_each = protected.one_each;
        named = ready.settled ∙ ready.one_each ∙ ap (λ (names : List Name). length names) (sym (same-cells planned.before book planned.same));
        marks = ready.settled ∙ sym (as-many-marks planned.before book planned.same);
        costed = (still-ready c.args.described.now planned.before book planned.same ready.book).costed;
        levels = ready.levels;
        told = still-told planned.before book c.args.protected.now.rows.now (keep_of c.args.described.now.job.rules.list) c.args.described.now.bound.scale planned.same ready.told;
        fewer_than_2_32 = omega (arith, ready.at_most_1000000);
        certified = protected.certified;
        some_steps = ready.sound.job.steps.0;
      };
    }

-- ---- what the texts want

pub guarded_puts-requires-clause-extra_text : goal.guarded_puts-requires-clause-extra_text
guarded_puts-requires-clause-extra_text c = c.in_ok-guarded.ensures.text

pub guarded_puts-requires-clause-shown : goal.guarded_puts-requires-clause-shown
guarded_puts-requires-clause-shown c =
    let ready = c.requires.protected.planned.ready in
    let certified = c.requires.protected.certified in
    let flags = each-flag _ certified.prices certified.method certified.steps 0 (protection.Protected c.args.protected.now.hidden_set.now c.args.certificate) c.args.protected.now.hidden_set.now c.args.certificate refl certified.protects in
    let each = each-guarded _ _ _ _ _ c.args.protected.now.hidden_set.now c.args.certificate c.in_ok-guarded.guarded c.in_ok-guarded.ensures.outcome in
    record {
      sound = ready.sound;
      ready = still-ready c.args.described.now c.requires.protected.planned.before c.args.protected.now.book.now c.requires.protected.planned.same ready.book;
      each_flag = each ∙ flags ∙ ready.settled ∙ sym (as-many-marks c.requires.protected.planned.before c.args.protected.now.book.now c.requires.protected.planned.same);
    }

pub guarded_puts-requires-clause-text : goal.guarded_puts-requires-clause-text
guarded_puts-requires-clause-text c =
    subst IsSpellable (sym (certificate-kept _ _ _ _ _ c.args.protected.now.hidden_set.now c.args.certificate c.in_ok-guarded.guarded c.in_ok-guarded.ensures.outcome)) c.requires.protected.text

pub count_hidden-hidden-requires : goal.count_hidden-hidden-requires
count_hidden-hidden-requires c =
    let ready = c.requires.protected.planned.ready in
    let certified = c.requires.protected.certified in
    let flags = each-flag _ certified.prices certified.method certified.steps 0 (protection.Protected c.args.protected.now.hidden_set.now c.args.certificate) c.args.protected.now.hidden_set.now c.args.certificate refl certified.protects in
    let each = each-guarded _ _ _ _ _ c.args.protected.now.hidden_set.now c.args.certificate c.in_ok-guarded.guarded c.in_ok-guarded.ensures.outcome in
    let listed = ap (λ (flags : List Bool). length flags) c.as_slice.ensures in
    omega (arith, listed, each, flags, ready.fewer_than_2_32)

-- ---- what the job comes to

pub returns-clause-comes : goal.returns-clause-comes
returns-clause-comes c = λ settled is numbers.
    let job = job_of c.args.described.now is.before c.args.protected.now.cells.now c.args.protected.now.rows.now is.records is.skipped in
    let guarded = c.in_ok-guarded.guarded in
    let guards = guard-for settled job c.args.protected.now.system.now c.args.protected.now.book.now c.args.protected.now.cells.now c.args.protected.now.rows.now c.args.name (protection.Protected c.args.protected.now.hidden_set.now c.args.certificate) c.args.protected.now.hidden_set.now c.args.certificate (Ok guarded)
    is.hides c.requires.named is.is_of is.is_book is.is_system refl refl refl is.same is.protects c.in_ok-guarded.ensures.outcome c.in_ok-guarded.ensures.whole in
    guarded-comes settled job c.args.name _ is.hides c.requires.named is.is_of
    (guarded-is settled _ c.args.protected.now.hidden_set.now c.args.certificate guarded c.args.name guards (file-named settled job c.args.name is.is_of c.requires.named)
    (certificate-kept _ _ _ _ _ c.args.protected.now.hidden_set.now c.args.certificate guarded c.in_ok-guarded.ensures.outcome)
    c.in_ok-puts.ensures.read_back c.in_ok-puts.ensures.extra_read_back
    (c.in_ok-puts.ensures.puts settled.inputs (sym is.is_of.described) (still-book settled.inputs is.before c.args.protected.now.book.now is.same is.is_of.book))
    (with-hidden settled c.args.summary c.count_hidden-hidden.result _ numbers (c.count_hidden-hidden.ensures ∙ ap (λ (flags : List Bool). count_hidden flags) c.as_slice.ensures))
    refl)

pub returns-clause-each_file : goal.returns-clause-each_file
returns-clause-each_file c = named-files c.args.described.now.job _ c.args.name c.requires.named c.in_ok-puts.ensures.each

pub returns-in_err-guarded-clause-comes : goal.returns-in_err-guarded-clause-comes
returns-in_err-guarded-clause-comes c = λ settled is numbers.
    let job = job_of c.args.described.now is.before c.args.protected.now.cells.now c.args.protected.now.rows.now is.records is.skipped in
    let p = err_from_is_err_and c.from_residual.result c.from_residual.ensures.1 in
    let why = c.in_err-guarded.field-0.0 in
    let guards = guard-for settled job c.args.protected.now.system.now c.args.protected.now.book.now c.args.protected.now.cells.now c.args.protected.now.rows.now c.args.name (protection.Protected c.args.protected.now.hidden_set.now c.args.certificate) c.args.protected.now.hidden_set.now c.args.certificate (Err why)
    is.hides c.requires.named is.is_of is.is_book is.is_system refl refl refl is.same is.protects c.in_err-guarded.ensures.outcome c.in_err-guarded.ensures.whole in
    rw (p.1, p.2) (guard-failure-comes settled c.args.protected.now.hidden_set.now c.args.certificate why guards)
