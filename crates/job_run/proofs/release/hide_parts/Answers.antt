use Rattle.std.proofs.Common.{arith, refl, subst}
use Rattle.cell_protection.specs.Protections.{HasText, IsProtectionOf}
use Rattle.cell_protection.specs.declared.protection.ProtectionOutcome.{ProtectionOutcome}
use Rattle.cell_protection.specs.declared.protection.ProtectionOutcome.TheVariants as protection
use Rattle.modular_plan.specs.Methods.{passes_of}
use Rattle.modular_plan.specs.Plans.{trail_of}
use Rattle.repair.specs.HidingOrder.{protected_case, prices_of}
use Rattle.job_run.specs.Books.{job_of}
use Rattle.job_run.proofs.SameBook.{narrow}
use Rattle.job_run.proofs.Releasing.{outcome-for, stopped-comes}
use Rattle.job_run.proofs.GuardedJobs.{certified}
use Rattle.job_run.proofs.release.hide_parts.Goals as goal

pub protect_cells-requires-clause-narrow : goal.protect_cells-requires-clause-narrow
protect_cells-requires-clause-narrow c = narrow c.args.described.now c.args.book.now c.requires.ready.sound c.requires.ready.book

pub protected_release-requires : goal.protected_release-requires
protected_release-requires c =
    let text : HasText (protection.Protected c.in-Protected.protected c.in-Protected.certificate) = subst HasText c.in-Protected.is c.in_ok-protection.ensures.text in
    let counted = c.in_ok-system.ensures.cells in
    record {
      protected = record {
        planned = record { before = c.args.book.now; ready = c.requires.ready; same = c.protect_cells.ensures.same };
        one_each = omega (arith, counted, c.requires.ready.one_each, c.requires.ready.settled);
        certified = certified _ _ _ _ _ c.in_ok-protection.protection c.in-Protected.protected c.in-Protected.certificate c.in-Protected.is c.in_ok-protection.ensures.outcome;
        text = text;
      };
    }

pub returns-in-Protected-clause-comes : goal.returns-in-Protected-clause-comes
returns-in-Protected-clause-comes c = λ records skipped settled is numbers.
    let described = c.args.described.now in
    let book = c.args.book.now in
    let cells = c.args.cells.now in
    c.protected_release.ensures.comes settled (record {
      before = book;
      records = records;
      skipped = skipped;
      hides = c.requires.hides;
      is_of = is;
      is_book = c.cells-known.ensures.book;
      is_system = record { cells = c.in_ok-system.ensures.cells; relations = c.in_ok-system.ensures.exact };
      same = c.protect_cells.ensures.same;
      protects = subst (λ (one : ProtectionOutcome). IsProtectionOf (protected_case c.in_ok-system.system cells) (prices_of described.job.cost cells book.marks) described.job.method (trail_of book cells described.job.cost (passes_of described.job.method)) described.job.steps one) c.in-Protected.is c.in_ok-protection.ensures.outcome;
    }) numbers

pub returns-in-Cannot-clause-comes : goal.returns-in-Cannot-clause-comes
returns-in-Cannot-clause-comes c = λ records skipped settled is numbers.
    outcome-for settled (job_of c.args.described.now c.args.book.now c.args.cells.now c.args.rows.now records skipped) c.in_ok-system.system c.args.cells.now c.in_ok-protection.protection (protection.Cannot c.in-Cannot.unprotected) c.requires.hides is c.cells-known.ensures.book
    (record { cells = c.in_ok-system.ensures.cells; relations = c.in_ok-system.ensures.exact }) refl c.in-Cannot.is c.in_ok-protection.ensures.outcome

pub returns-clause-comes : goal.returns-clause-comes
returns-clause-comes c = λ records skipped settled is numbers.
    let stopped = outcome-for settled (job_of c.args.described.now c.args.book.now c.args.cells.now c.args.rows.now records skipped) c.in_ok-system.system c.args.cells.now c.in_ok-protection.protection (protection.Undecided c.in-Undecided.stopped) c.requires.hides is c.cells-known.ensures.book
    (record { cells = c.in_ok-system.ensures.cells; relations = c.in_ok-system.ensures.exact }) refl c.in-Undecided.is c.in_ok-protection.ensures.outcome in
    rw (c.from.ensures) (stopped-comes settled c.in-Undecided.stopped stopped)
