use Rattle.std.proofs.Common.{Option, Some, ap, sym, ◌∙◌, subst, arith}
use Rattle.sdc_base.specs.Trees.{codes}
use Rattle.code_trees.specs.Faults.{AnswersFault}
use Rattle.code_trees.specs.declared.tree_fault.TreeFault.{TreeFault}
use Rattle.code_trees.proofs.LackedCodes.{missing-total, missing-there, missing-new, with-there, tells-kind}
use Rattle.code_trees.proofs.missing_codes.add_missing.Goals as goal

pub returns-then-place-eq0-clause-told : goal.returns-then-place-eq0-clause-told
returns-then-place-eq0-clause-told c = missing-total c.args.nodes.now c.args.code.now c.args.number (sym c.in-Some.ensures.place ∙ ap Some c.if-place-eq0.true)

pub returns-in-Some-clause-told : goal.returns-in-Some-clause-told
returns-in-Some-clause-told c = missing-there c.args.nodes.now c.args.code.now c.args.number c.in-Some.place (sym c.in-Some.ensures.place) (omega arith)

pub returns-in-Some-clause-grows : goal.returns-in-Some-clause-grows
returns-in-Some-clause-grows c = with-there c.args.nodes.now c.args.code.now c.in-Some.place (sym c.in-Some.ensures.place)

pub returns-clause-told : goal.returns-clause-told
returns-clause-told c = subst (λ (told : Option TreeFault). AnswersFault c.add.result told) (missing-new c.args.nodes.now c.args.code.now c.args.number (sym c.in_default.ensures.place)) c.add.ensures.told

pub returns-clause-kind : goal.returns-clause-kind
returns-clause-kind c =
    tells-kind c.add.result (codes c.args.nodes.now) c.args.code.now c.args.number
    (subst (λ (told : Option TreeFault). AnswersFault c.add.result told) (missing-new c.args.nodes.now c.args.code.now c.args.number (sym c.in_default.ensures.place)) c.add.ensures.told)
