use Rattle.job_lang.proofs.PlacesFit.{widths_few, spanning_few, response_few, weight_few}
use Rattle.std.proofs.Common.{◌≡◌, None, ap, sym, ◌∙◌}
use Rattle.job_lang.specs.BindingFaults.{earliest_fault}
use Rattle.job_lang.proofs.BoundHolds.{bound_known}
use Rattle.job_lang.proofs.binding.bind.Goals as goal

pub places_of-requires-clause-spanning : goal.places_of-requires-clause-spanning
places_of-requires-clause-spanning c = rw c.as_slice-variables.ensures (spanning_few c.args.job.now.tables c.args.meta.now.variables c.requires.tables c.requires.variables)

pub places_of-requires-clause-widths : goal.places_of-requires-clause-widths
places_of-requires-clause-widths c = widths_few c.args.job.now.tables c.requires.tables

pub places_of-requires-clause-decimals : goal.places_of-requires-clause-decimals
places_of-requires-clause-decimals c = rw c.as_slice-variables.ensures (response_few c.args.job.now.tables c.args.meta.now.variables c.requires.variables)

pub places_of-requires-clause-weight : goal.places_of-requires-clause-weight
places_of-requires-clause-weight c = rw c.as_slice-variables.ensures (weight_few c.args.job.now.rules c.args.meta.now.variables c.requires.variables)

pub returns-clause-within : goal.returns-clause-within
returns-clause-within c =
    let none : earliest_fault c.args.job.now c.as_slice-variables.result.now ≡ None = cc in
    let free : earliest_fault c.args.job.now c.args.meta.now.variables ≡ None = ap (earliest_fault c.args.job.now) (sym c.as_slice-variables.ensures) ∙ none in
    rw (c.in_ok-places_of.ensures, c.as_slice-variables.ensures) (bound_known c.args.job.now c.args.meta.now.variables c.requires.tables c.requires.variables free)
