use Rattle.std.proofs.Common.{ℤ, pos, slice_index_or, ◌∙◌, rules, FitsSigned}
use Rattle.std.specs.Int.{w128}
use Rattle.std.proofs.lemmas.Int.{to_z-of_z}
use Rattle.tableau.proofs.Places.{from_here, from_none_here}
use Rattle.tableau.proofs.entries.entry_here.Goals as goal

pub returns-then-entries-i-clause-number : goal.returns-then-entries-i-clause-number
returns-then-entries-i-clause-number c =
    let x : ℤ = (slice_index_or c.args.entries.now c.args.i (0, pos 0)).1 in
    let fits : FitsSigned w128 x = search rules in
    to_z-of_z w128 x fits ∙ from_here c.args.i c.args.place (0, pos 0) c.args.entries.now c.requires c.if-i-entries.true c.if-entries-i.true

pub returns-else-entries-i-clause-number : goal.returns-else-entries-i-clause-number
returns-else-entries-i-clause-number c = from_none_here c.args.i c.args.place (0, pos 0) c.args.entries.now c.requires c.if-i-entries.true c.if-entries-i.false
