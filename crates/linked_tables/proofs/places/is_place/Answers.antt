use Rattle.std.proofs.Common.{sym, ◌∙◌}
use Rattle.linked_tables.proofs.PlaceSteps.{no_dimension, place-short, place-end}
use Rattle.linked_tables.proofs.places.is_place.Goals as goal

pub returns-then-k-place : goal.returns-then-k-place
returns-then-k-place c = sym (place-short c.args.trees.now c.args.table.now c.args.place.now c.loop-k.k no_dimension c.if-k-place.true c.loop-k-test.true) ∙ c.loop-k.invariant.rest

pub returns : goal.returns
returns c = sym (place-end c.args.trees.now c.args.table.now c.args.place.now c.loop-k.k c.loop-k-test.false c.loop-k.auto.k-end c.loop-k.invariant.within) ∙ c.loop-k.invariant.rest
