use Rattle.std.proofs.Common.{◌++◌, ◌∷◌, [], ℤ, List, pos, take, ap, sym, ◌∙◌, arith, rules, FitsSigned, to_z, of_z}
use Rattle.std.specs.Int.{w128}
use Rattle.std.proofs.lemmas.Int.{to_z-of_z}
use Rattle.std.proofs.lemmas.List.{take_more, take_all}
use Rattle.tableau.specs.Entries.{row_of_entries}
use Rattle.tableau.proofs.Places.{from_start, number_spread, length-numbers_then_value}
use Rattle.tableau.proofs.first_table.spread.Goals as goal

pub loop-j-init : goal.loop-j-init
loop-j-init c = record { from = from_start c.args.entries.now c.requires; numbers = c.in_ok-numbers.ensures.items }

pub number_here-requires : goal.number_here-requires
number_here-requires c = c.loop-j.invariant.from

pub past_place-i-requires : goal.past_place-i-requires
past_place-i-requires c = c.loop-j.invariant.from

pub loop-j-preserved : goal.loop-j-preserved
loop-j-preserved c =
    let l = c.loop-j in
    let row : List ℤ = row_of_entries c.args.width c.args.entries.now in
    let x : ℤ = c.number_here.result in
    let fits : FitsSigned w128 x = search rules in
    record {
      from = c.past_place-i.ensures;
      numbers = c.in_ok-push.ensures.items ∙ ap (λ (t : List ℤ). t ++ to_z w128 (of_z w128 x) ∷ []) l.invariant.numbers ∙ ap (λ z. take l.j row ++ z ∷ []) (to_z-of_z w128 x fits ∙ c.number_here.ensures ∙ sym (number_spread c.args.width l.j c.args.entries.now c.loop-j-test.true)) ∙ sym (take_more row l.j (pos 0) (omega (arith, length-numbers_then_value c.args.width c.args.entries.now, c.loop-j-test.true)));
    }

pub returns : goal.returns
returns c =
    let row : List ℤ = row_of_entries c.args.width c.args.entries.now in
    c.loop-j.invariant.numbers ∙ take_all c.loop-j.j row (omega (arith, length-numbers_then_value c.args.width c.args.entries.now, c.loop-j-test.false))
