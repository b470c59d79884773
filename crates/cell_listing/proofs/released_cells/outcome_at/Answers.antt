use Rattle.std.proofs.Common.{◌≡◌, ◌<◌, List, ℤ, FitsSigned, ap, rules, sym, subst, ◌∙◌}
use Rattle.std.proofs.lemmas.Int.{to_z-of_z}
use Rattle.std.specs.Int.{w128}
use Rattle.std.specs.Prelude.{slice_index_or, pos}
use Rattle.linked_tables.specs.BookCells.{cells as cells_in}
use Rattle.std.specs.Prelude.{length}
use Rattle.cell_listing.specs.ReleasedCells.{amounts_in, AreReleasedIn, HasAmount, IsPrintable}
use Rattle.cell_listing.specs.declared.outcome.Outcome.TheVariants as outcome
use Rattle.cell_listing.specs.declared.released_cells.ReleasedCells.{ReleasedCells}
use Rattle.cell_listing.proofs.Flagged.{outcome_by, printable_by}
use Rattle.cell_listing.proofs.HiddenRows.{rounded_outcome, suppressed_outcome}
use Rattle.cell_listing.proofs.ShownRows.{printable_at}
use Rattle.cell_listing.proofs.released_cells.outcome_at.Goals as goal

pub returns-in-Suppressed-clause-exact : goal.returns-in-Suppressed-clause-exact
returns-in-Suppressed-clause-exact c = λ read are within.
    let own = subst (AreReleasedIn read) c.in-Suppressed.is are in
    c.hidden_or_shown.ensures
    ∙ outcome_by read.certificate read.extra (length (cells_in read.job.book)) c.args.number c.args.kind c.in-Suppressed.flags own.1 within
    ∙ sym (suppressed_outcome read.certificate read.extra (amounts_in c.args.cells.now) c.args.number c.args.kind own.0)

pub returns-in-Suppressed-clause-printable : goal.returns-in-Suppressed-clause-printable
returns-in-Suppressed-clause-printable c = λ read are. subst IsPrintable (sym c.hidden_or_shown.ensures) (printable_by c.in-Suppressed.flags c.args.number c.args.kind)

pub amount_at-requires : goal.amount_at-requires
amount_at-requires c =
    let there = subst (λ (made : ReleasedCells). HasAmount made c.args.number) c.in-Rounded.is c.requires.amount in
    subst (λ (all : List ℤ). c.args.number < length all) (sym c.as_slice.ensures) there

pub returns-in-Rounded-clause-exact : goal.returns-in-Rounded-clause-exact
returns-in-Rounded-clause-exact c = λ read are within.
    let own = subst (AreReleasedIn read) c.in-Rounded.is are in
    let same : c.as_slice.result.now ≡ amounts_in c.args.cells.now = c.as_slice.ensures ∙ sym (ap amounts_in c.in-Rounded.is) in
    let fits : FitsSigned w128 c.amount_at.result = search rules in
    ap (λ (amount : ℤ). outcome.Rounded amount) (to_z-of_z w128 c.amount_at.result fits ∙ c.amount_at.ensures ∙ ap (λ (all : List ℤ). slice_index_or all c.args.number (pos 0)) same)
    ∙ sym (rounded_outcome read.certificate read.extra (amounts_in c.args.cells.now) c.args.number c.args.kind own.0)

pub returns-in-Rounded-clause-printable : goal.returns-in-Rounded-clause-printable
returns-in-Rounded-clause-printable c = λ read are.
    let own = subst (AreReleasedIn read) c.in-Rounded.is are in
    let fits : FitsSigned w128 c.amount_at.result = search rules in
    let there = to_z-of_z w128 c.amount_at.result fits ∙ c.amount_at.ensures ∙ ap (λ (all : List ℤ). slice_index_or all c.args.number (pos 0)) c.as_slice.ensures in
    subst (λ (amount : ℤ). IsPrintable (outcome.Rounded amount)) (sym there) (printable_at c.in-Rounded.amounts c.args.number own.1.released)
