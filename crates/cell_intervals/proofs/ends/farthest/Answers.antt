use Rattle.std.proofs.Common.{◌≡◌, ap, ◌∙◌, rules, subst, FitsSigned, unsigned_abs}
use Rattle.std.specs.Int.{w128}
use Rattle.std.proofs.lemmas.Int.{to_z-of_z}
use Rattle.interval_audit.specs.declared.answer.Answer.{Answer}
use Rattle.interval_audit.specs.Ends.{IsTrueEnd, IsWholeEnd}
use Rattle.cell_intervals.proofs.Reaching.{stops_far}
use Rattle.cell_intervals.proofs.WholeIntervals.{whole_stop}
use Rattle.cell_intervals.proofs.ends.farthest.Goals as goal

pub returns-in-Stops-clause-stops : goal.returns-in-Stops-clause-stops
returns-in-Stops-clause-stops c =
    let s = c.in-Stops in
    let num_fits : FitsSigned w128 s.best.num = search rules in
    let den_fits : FitsSigned w128 s.best.den = search rules in
    let num : c.unsigned_abs.result ≡ unsigned_abs s.best.num = c.unsigned_abs.ensures.value ∙ ap unsigned_abs (to_z-of_z w128 s.best.num num_fits) in
    let den : c.unsigned_abs-in-Stops.result ≡ unsigned_abs s.best.den = c.unsigned_abs-in-Stops.ensures.value ∙ ap unsigned_abs (to_z-of_z w128 s.best.den den_fits) in
    let end = subst (λ (answer : Answer). IsTrueEnd c.args.system.now c.args.cells.now c.args.hidden.now.flags c.args.cell c.args.side answer) s.is c.requires.end in
    stops_far c.args.system.now c.args.cells.now c.args.hidden.now.flags c.args.cell c.args.side end.0 s.best s.world s.multipliers c.unsigned_abs.result c.unsigned_abs-in-Stops.result c.lowest_terms_of.result
    end.1 end.2 num den c.lowest_terms_of.ensures.same c.lowest_terms_of.ensures.least

pub returns-in-Stops-clause-whole : goal.returns-in-Stops-clause-whole
returns-in-Stops-clause-whole c = λ whole.
    let s = c.in-Stops in
    let num_fits : FitsSigned w128 s.best.num = search rules in
    let den_fits : FitsSigned w128 s.best.den = search rules in
    let num : c.unsigned_abs.result ≡ unsigned_abs s.best.num = c.unsigned_abs.ensures.value ∙ ap unsigned_abs (to_z-of_z w128 s.best.num num_fits) in
    let den : c.unsigned_abs-in-Stops.result ≡ unsigned_abs s.best.den = c.unsigned_abs-in-Stops.ensures.value ∙ ap unsigned_abs (to_z-of_z w128 s.best.den den_fits) in
    let end = subst (λ (answer : Answer). IsTrueEnd c.args.system.now c.args.cells.now c.args.hidden.now.flags c.args.cell c.args.side answer) s.is c.requires.end in
    let own = subst (λ (answer : Answer). IsWholeEnd c.args.system.now c.args.cells.now c.args.hidden.now.flags c.args.cell c.args.side answer) s.is whole in
    whole_stop c.args.system.now c.args.cells.now c.args.hidden.now.flags c.args.cell c.args.side end.0 s.best s.world s.multipliers c.unsigned_abs.result c.unsigned_abs-in-Stops.result c.lowest_terms_of.result
    end.1 end.2 num den c.lowest_terms_of.ensures.same c.lowest_terms_of.ensures.least own
