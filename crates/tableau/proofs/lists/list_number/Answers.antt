use Rattle.std.proofs.Common.{◌≡◌, ℕ, ◌+◌, ◌-◌, ◌<◌, ◌*ℤ◌, length, slice_index, sym, ◌∙◌, arith, rules, ap, refl, FitsSigned}
use Rattle.std.specs.Int.{w128}
use Rattle.std.proofs.Math.IntN.{zero-*ℤ}
use Rattle.std.proofs.lemmas.Int.{to_z-of_z}
use Rattle.std.proofs.lemmas.List.{get_or_read}
use Rattle.tableau.specs.Tables.{Table}
use Rattle.tableau.specs.SparseTables.{table_of, factor_at}
use Rattle.tableau.proofs.Numbers.{list_own, list_other, list_none}
use Rattle.tableau.proofs.lists.list_number.Goals as goal

pub returns-then-index-problem : goal.returns-then-index-problem
returns-then-index-problem c =
    let d = c.args.table.now in
    let problem = c.args.problem.now in
    let fits : FitsSigned w128 c.row_den.result = search rules in
    let own : c.index.result.now ≡ slice_index d.members.items c.args.k = get_or_read d.members.items c.args.k c.index.result.now c.requires.row c.index.ensures 0 in
    ap (λ x. x *ℤ factor_at d c.args.k) (to_z-of_z w128 c.row_den.result fits) ∙ c.row_den.ensures
    ∙ list_own problem (table_of d) c.args.k c.args.place (problem.columns + (c.args.place - 1)) c.requires.kept c.requires.row c.if-place-eq0.false refl (sym own ∙ c.if-index-problem.true)

pub returns-then-j-len : goal.returns-then-j-len
returns-then-j-len c =
    let d = c.args.table.now in
    let problem = c.args.problem.now in
    let slack : ℕ = c.args.place - 1 in
    let v : ℕ = problem.columns + slack in
    let j : ℕ = slice_index c.args.places.now slack in
    let fits : FitsSigned w128 c.own_number-then-j-len.result = search rules in
    let own : c.index.result.now ≡ slice_index d.members.items c.args.k = get_or_read d.members.items c.args.k c.index.result.now c.requires.row c.index.ensures 0 in
    let within : j < length d.others.items = omega (arith, c.len-2.ensures, c.if-j-len.true) in
    let slack_within : slack < length c.args.places.now = omega (arith, c.requires.places.long, c.requires.kept.sized.members) in
    ap (λ x. x *ℤ factor_at d c.args.k) (to_z-of_z w128 c.own_number-then-j-len.result fits)
    ∙ c.own_number-then-j-len.ensures.over
    ∙ list_other problem (table_of d) c.args.k c.args.place v j c.requires.kept c.requires.row c.if-place-eq0.false refl (λ is. c.if-index-problem.false (own ∙ is)) within (c.requires.places.back slack slack_within within)

pub returns : goal.returns
returns c =
    let d = c.args.table.now in
    let t : Table = table_of d in
    let problem = c.args.problem.now in
    let slack : ℕ = c.args.place - 1 in
    let v : ℕ = problem.columns + slack in
    let own : c.index.result.now ≡ slice_index d.members.items c.args.k = get_or_read d.members.items c.args.k c.index.result.now c.requires.row c.index.ensures 0 in
    zero-*ℤ (factor_at d c.args.k) ∙ list_none problem t c.args.k c.args.place v c.if-place-eq0.false refl (λ is. c.if-index-problem.false (own ∙ is))
    (λ j below is.
    let at : slice_index t.others j - problem.columns ≡ slack = omega (arith, is) in
    let here : slice_index c.args.places.now slack ≡ j = ap (slice_index c.args.places.now) (sym at) ∙ c.requires.places.each j below (omega (arith, is)) in
    absurd (omega (arith, here, below, c.len-2.ensures, c.if-j-len.false)))
