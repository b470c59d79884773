use Rattle.std.proofs.Common.{◌≡◌, ◌+◌, List, ℤ, pos, slice_index_or, refl, sym, subst, arith, rules, FitsSigned, to_z, of_z}
use Rattle.std.specs.Int.{w128}
use Rattle.std.proofs.lemmas.Int.{to_z-of_z}
use Rattle.sdc_base.specs.Forms.{Term, coefficient}
use Rattle.tableau.specs.Problems.{numbers_then_value}
use Rattle.tableau.specs.Entries.{AreEntriesOf}
use Rattle.tableau.proofs.FirstNumbers.{IsCopied, copied_none, copied_more, copied_row, den_put}
use Rattle.tableau.specs.OwnRows.{with_den}
use Rattle.tableau.proofs.first_table.slack_row.Goals as goal

pub loop-entry-init : goal.loop-entry-init
loop-entry-init c = subst (λ (t : List Term). IsCopied c.args.columns 0 (λ n. n) c.args.entries.now t) (sym c.new-made.ensures.items) (copied_none c.args.columns (λ n. n) c.args.entries.now c.requires.entries.ascend)

pub loop-entry-preserved : goal.loop-entry-preserved
loop-entry-preserved c =
    let l = c.loop-entry in
    let x : ℤ = (slice_index_or c.args.entries.now l.entry-index (0, pos 0)).1 in
    let fits : FitsSigned w128 x = search rules in
    copied_more c.args.columns l.entry-index (λ n. n) (0, pos 0) c.args.entries.now l.made.items c.put.new.entries.items (to_z w128 (of_z w128 x)) refl c.requires.entries.named c.loop-entry-test.true l.invariant c.in-Ok.ensures (to_z-of_z w128 x fits)

pub returns : goal.returns
returns c =
    let l = c.loop-entry in
    let columns = c.args.columns in
    let row : List ℤ = numbers_then_value columns (coefficient c.args.entries.now) c.args.bound in
    let size : columns + 1 + 1 ≡ columns + 2 = omega arith in
    subst (λ (t : List Term). AreEntriesOf (columns + 2) (with_den row) t) (sym c.new.ensures)
    (subst (λ n. AreEntriesOf n (with_den row) c.put-3.new.entries.items) size
    (den_put (columns + 1) row c.put-2.new.entries.items c.put-3.new.entries.items (pos 1)
    (copied_row columns l.entry-index (λ n. n) c.args.entries.now l.made.items c.put-2.new.entries.items c.args.bound (to_z w128 (of_z w128 c.args.bound)) refl c.loop-entry-test.false l.invariant c.in-Ok-put.ensures (to_z-of_z w128 c.args.bound c.ranges.bound))
    c.in-Ok-put-2.ensures refl))
