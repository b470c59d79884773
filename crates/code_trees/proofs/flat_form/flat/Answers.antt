use Rattle.std.proofs.lemmas.Grind.{common_steps}
use Rattle.std.proofs.Common.{◌≡◌, ℕ, ◌+◌, ◌-◌, List, ◌∷◌, take, length, slice_get, Option, Some, refl, ap, sym, ◌∙◌, subst, arith}
use Rattle.std.proofs.lemmas.Option.{slice_get_read}
use Rattle.std.proofs.lemmas.Result.{err_from_is_err_and}
use Rattle.sdc_base.specs.Trees.{Tree, codes, flat_tree}
use Rattle.code_trees.specs.Growing.{tree_with_node}
use Rattle.code_trees.specs.Faults.{code_fault, Names}
use Rattle.code_trees.proofs.FlatSteps.{flat-grown, codes-flat, flat-next, flat-stop, take-at}
use Rattle.code_trees.proofs.flat_form.flat.Goals as goal

pub add-requires-clause-under : goal.add-requires-clause-under
add-requires-clause-under c = let s = c.codes.invariant.tree.shallow (length c.codes.nodes - 1) (omega (arith, c.codes.invariant.tree.has_total)) in (s.0, s.2)

pub returns-in_err-add-clause-exact : goal.returns-in_err-add-clause-exact
returns-in_err-add-clause-exact c =
    let p = err_from_is_err_and c.from_residual-in_err-add.result c.from_residual-in_err-add.ensures.1 in
    let all = c.args.codes.now in
    let at : slice_get all c.codes.i ≡ Some c.index-codes-i.result = slice_get_read all (length all) c.codes.i c.index-codes-i.result refl c.codes-test.true c.index-codes-i.is in
    let before = ap codes c.codes.invariant.nodes ∙ codes-flat c.args.total.now (take c.codes.i all) in
    let named = subst (λ (told : Option _). Names c.in_err-add.field-0.0 told) (ap (λ (b : List (List ℕ)). code_fault b c.as_slice-in-codes.result.now (c.codes.i + 1)) before ∙ ap (λ (code : List ℕ). code_fault (c.args.total.now ∷ take c.codes.i all) code (c.codes.i + 1)) c.as_slice-in-codes.ensures) c.in_err-add.ensures.told in
    rw (p.1, p.2) (flat-stop c.args.total.now all c.codes.i c.index-codes-i.result c.in_err-add.field-0.0 at c.codes.invariant.rest named)

pub codes-preserved : goal.codes-preserved
codes-preserved c =
    let all = c.args.codes.now in
    let at : slice_get all c.codes.i ≡ Some c.index-codes-i.result = slice_get_read all (length all) c.codes.i c.index-codes-i.result refl c.codes-test.true c.index-codes-i.is in
    let before = ap codes c.codes.invariant.nodes ∙ codes-flat c.args.total.now (take c.codes.i all) in
    let same = ap (λ (b : List (List ℕ)). code_fault b c.as_slice-in-codes.result.now (c.codes.i + 1)) before ∙ ap (λ (code : List ℕ). code_fault (c.args.total.now ∷ take c.codes.i all) code (c.codes.i + 1)) c.as_slice-in-codes.ensures in
    record {
      tree = c.in_ok-add.ensures.tree;
      nodes = c.in_ok-add.ensures.grows
          ∙ ap (λ (tree : Tree). tree_with_node tree c.as_slice-in-codes.result.now 0) c.codes.invariant.nodes
          ∙ ap (λ (code : List ℕ). tree_with_node (flat_tree c.args.total.now (take c.codes.i all)) code 0) c.as_slice-in-codes.ensures
          ∙ flat-grown c.args.total.now (take c.codes.i all) c.index-codes-i.result
          ∙ ap (flat_tree c.args.total.now) (sym (take-at all c.codes.i c.index-codes-i.result at));
      rest = c.codes.invariant.rest ∙ flat-next c.args.total.now all c.codes.i c.index-codes-i.result at (sym same ∙ c.in_ok-add.ensures.told);
    }

pub overflow_cast-i : goal.overflow_cast-i
overflow_cast-i c = grind (arith, common_steps)

pub overflow_add-i : goal.overflow_add-i
overflow_add-i c = grind (arith, common_steps)

pub returns-clause-exact : goal.returns-clause-exact
returns-clause-exact c = grind (arith, common_steps)
