use Rattle.std.proofs.Common.{◌≡◌, true, sym, subst, pos, ◌≤ℤ◌, FitsSigned, arith, rules}
use Rattle.std.specs.Int.{w128}
use Rattle.std.proofs.lemmas.Int.{ints, to_z-of_z}
use Rattle.kept_questions.specs.TermLists.{ascends}
use Rattle.kept_questions.proofs.TermSums.{not_below}
use Rattle.kept_questions.proofs.terms.check_not_below.Goals as goal

pub returns : goal.returns
returns c = λ size.
    let fits : FitsSigned w128 c.first_of-first.result = search rules in
    let ascending : ascends 0 c.args.terms.now ≡ true = sym c.if-not-ascending.ensures in
    let no = simp to_z-of_z at c.if-first-lt0.false in
    let from : pos 0 ≤ℤ c.first_of-first.result = omega (arith, ints, no) in
    not_below size c.args.terms.now ascending (subst (λ z. pos 0 ≤ℤ z) c.first_of-first.ensures from)
