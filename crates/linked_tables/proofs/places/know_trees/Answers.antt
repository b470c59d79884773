use Rattle.std.proofs.Common.{length, refl}
use Rattle.std.proofs.lemmas.Option.{slice_get_read}
use Rattle.sdc_base.specs.Trees.{IsCodeTree}
use Rattle.linked_tables.proofs.TableSteps.{each-next}
use Rattle.linked_tables.proofs.places.know_trees.Goals as goal

pub trees-preserved : goal.trees-preserved
trees-preserved c =
    each-next IsCodeTree c.args.trees.now c.trees.tree-index c.tree-item.result (slice_get_read c.args.trees.now (length c.args.trees.now) c.trees.tree-index c.tree-item.result refl c.trees-test.true c.tree-item.is) c.len.ensures.tree
    c.trees.invariant
