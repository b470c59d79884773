use Rattle.std.proofs.Common.{◌∙◌, sym, ◌<◌, length, arith}
use Rattle.attackers.proofs.Falls.{falls_past, codes_past}
use Rattle.attackers.proofs.falling.are_under.Goals as goal

pub returns-then-k-name : goal.returns-then-k-name
returns-then-k-name c =
    let inside : c.variables.variable < length c.args.book.now.trees = omega arith in
    sym (falls_past c.args.book.now.trees c.args.name.now c.args.codes.now c.variables.variable inside c.if-k-name.true) ∙ c.variables.invariant

pub returns-then-k-codes : goal.returns-then-k-codes
returns-then-k-codes c =
    let inside : c.variables.variable < length c.args.book.now.trees = omega arith in
    sym (codes_past c.args.book.now.trees c.args.name.now c.args.codes.now c.variables.variable inside c.if-k-name.false c.if-k-codes.true) ∙ c.variables.invariant
