use Rattle.std.proofs.Common.{subst, sym, arith}
use Rattle.sdc_base.specs.Trees.{IsCodeTree, codes}
use Rattle.code_trees.specs.Faults.{code_fault}
use Rattle.code_trees.proofs.CodeFaults.{fault-known, fault-new, fault-many, tells-known}
use Rattle.code_trees.proofs.Growth.{grown-is_tree, under-inside}
use Rattle.code_trees.proofs.growing.add.Goals as goal

pub returns-in-Some-clause-told : goal.returns-in-Some-clause-told
returns-in-Some-clause-told c =
    let told = fault-known c.args.nodes.now c.args.code.now c.args.number c.in-Some.place (sym c.in-Some.ensures.place) in
    rw c.known_code.ensures.fault (tells-known c.in-Some.place c.args.number (code_fault (codes c.args.nodes.now) c.args.code.now c.args.number) told)

pub returns-then-len-gt-MOST-clause-told : goal.returns-then-len-gt-MOST-clause-told
returns-then-len-gt-MOST-clause-told c = fault-many c.args.nodes.now c.args.code.now c.args.number c.requires.tree.has_total (sym c.in_default.ensures.place) (omega arith)

pub returns-clause-told : goal.returns-clause-told
returns-clause-told c = fault-new c.args.nodes.now c.args.code.now c.args.number c.requires.tree.has_total (sym c.in_default.ensures.place) (omega arith)

pub returns-clause-tree : goal.returns-clause-tree
returns-clause-tree c =
    subst IsCodeTree (sym c.in_ok-push.ensures)
    (grown-is_tree c.args.nodes.now c.requires.tree c.args.code.now c.args.parent (sym c.in_default.ensures.place) (omega arith) c.requires.under c.requires.room (under-inside c.args.nodes.now c.requires.tree c.args.parent c.requires.under))
