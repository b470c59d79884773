use Rattle.std.proofs.Common.{◌≡◌, ◌+◌, List, ℤ, pos, neg_ℤ, ◌-ℤ◌, slice_index_or, refl, sym, subst, arith, rules, FitsSigned, to_z, of_z}
use Rattle.std.specs.Int.{w128}
use Rattle.std.proofs.lemmas.Int.{ints}
use Rattle.sdc_base.specs.Forms.{Term, coefficient}
use Rattle.tableau.specs.Problems.{numbers_then_value}
use Rattle.tableau.specs.Entries.{AreEntriesOf}
use Rattle.tableau.proofs.FirstNumbers.{IsCopied, copied_none, copied_more, copied_whole, den_put}
use Rattle.tableau.specs.OwnRows.{with_den}
use Rattle.tableau.proofs.first_table.objective_row.Goals as goal

pub loop-entry-init : goal.loop-entry-init
loop-entry-init c = subst (λ (t : List Term). IsCopied c.args.columns 0 neg_ℤ c.args.entries.now t) (sym c.new-made.ensures.items) (copied_none c.args.columns neg_ℤ c.args.entries.now c.requires.entries.ascend)

pub loop-entry-preserved : goal.loop-entry-preserved
loop-entry-preserved c =
    let l = c.loop-entry in
    let x : ℤ = (slice_index_or c.args.entries.now l.entry-index (0, pos 0)).1 in
    let fits : FitsSigned w128 x = search rules in
    let above = c.requires.entries.narrow l.entry-index (0, pos 0) c.loop-entry-test.true in
    let turned : to_z w128 (of_z w128 (pos 0 -ℤ to_z w128 (of_z w128 x))) ≡ neg_ℤ x = omega (arith, ints, above) in
    copied_more c.args.columns l.entry-index neg_ℤ (0, pos 0) c.args.entries.now l.made.items c.put.new.entries.items (to_z w128 (of_z w128 (pos 0 -ℤ to_z w128 (of_z w128 x)))) refl c.requires.entries.named c.loop-entry-test.true l.invariant c.in-Ok.ensures turned

pub returns : goal.returns
returns c =
    let l = c.loop-entry in
    let columns = c.args.columns in
    let row : List ℤ = numbers_then_value columns (λ column. neg_ℤ (coefficient c.args.entries.now column)) (pos 0) in
    let size : columns + 1 + 1 ≡ columns + 2 = omega arith in
    subst (λ (t : List Term). AreEntriesOf (columns + 2) (with_den row) t) (sym c.new.ensures)
    (subst (λ n. AreEntriesOf n (with_den row) c.put-2.new.entries.items) size
    (den_put (columns + 1) row l.made.items c.put-2.new.entries.items (pos 1)
    (copied_whole columns l.entry-index neg_ℤ c.args.entries.now l.made.items refl c.loop-entry-test.false l.invariant)
    c.in-Ok-put.ensures refl))
