use Rattle.std.proofs.Common.{◌≡◌, ◌<◌, ◌≤◌, ◌^◌, ◌+◌, ℕ, suc, List, pos, neg_ℤ, ◌<ℤ◌, [], ◌∷◌, drop, take, All, slice_index_or, sym, subst, arith, rules, FitsSigned}
use Rattle.std.specs.Int.{w128}
use Rattle.std.proofs.lemmas.Int.{ints}
use Rattle.std.proofs.lemmas.List.{drop_more, take_all, drop_all}
use Rattle.std.proofs.lemmas.List.Elements.{All-more}
use Rattle.sdc_base.specs.Forms.{Term}
use Rattle.tableau.specs.ProblemForm.{AscendFrom}
use Rattle.tests_tableau.proofs.form_check.are_entries.Goals as goal

pub loop-entry-preserved : goal.loop-entry-preserved
loop-entry-preserved c =
    let l = c.loop-entry in
    let i : ℕ = l.entry-index in
    let xs : List Term = c.args.entries.now in
    let entry : Term = slice_index_or xs i (0, pos 0) in
    let more : drop i xs ≡ entry ∷ drop (i + 1) xs = drop_more xs i (0, pos 0) c.loop-entry-test.true in
    let fits : FitsSigned w128 entry.1 = search rules in
    let from : c.from-next.result + 1 ≡ suc entry.0 = omega (arith, c.from-next.ensures) in
    let order : l.next ≤ entry.0 = omega (arith, c.from.ensures, c.if-from-next.false) in
    record {
      ascend = λ rest. l.invariant.ascend (subst (λ (t : List Term). AscendFrom l.next t) (sym more) (order, subst (λ n. AscendFrom n (drop (i + 1) xs)) from rest));
      named = All-more (λ (e : Term). e.0 < c.args.columns) xs i (0, pos 0) c.loop-entry-test.true l.invariant.named (omega arith);
      narrow = All-more (λ (e : Term). neg_ℤ (pos (2 ^ 127)) <ℤ e.1) xs i (0, pos 0) c.loop-entry-test.true l.invariant.narrow (omega (arith, ints, c.if-entry.false));
    }

pub returns : goal.returns
returns c _ =
    let l = c.loop-entry in
    let xs : List Term = c.args.entries.now in
    let all : take l.entry-index xs ≡ xs = take_all l.entry-index xs c.loop-entry-test.false in
    let none : drop l.entry-index xs ≡ [] = drop_all l.entry-index xs c.loop-entry-test.false in
    record {
      ascend = l.invariant.ascend (subst (λ (t : List Term). AscendFrom l.next t) (sym none) tt);
      named = subst (λ (t : List Term). All (λ e. e.0 < c.args.columns) t) all l.invariant.named;
      narrow = subst (λ (t : List Term). All (λ e. neg_ℤ (pos (2 ^ 127)) <ℤ e.1) t) all l.invariant.narrow;
    }
