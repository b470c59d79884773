use Rattle.std.proofs.lemmas.Grind.{common_steps}
use Rattle.std.proofs.Common.{◌≡◌, ℕ, suc, ◌+◌, List, [], ◌∷◌, ◌++◌, drop, length, slice_get, slice_index, get_or, Option, None, Some, refl, ap, sym, ◌∙◌, subst, arith, length-take, add-one}
use Rattle.std.proofs.lemmas.Option.{slice_get_read, get_or_from_slice_get, slice_get-get_or}
use Rattle.sdc_base.specs.Trees.{Tree, codes, find}
use Rattle.code_trees.specs.Growing.{tree_with_node}
use Rattle.code_trees.specs.Path.{next_path}
use Rattle.code_trees.specs.Levels.{level, tree_of_codes}
use Rattle.code_trees.proofs.FlatSteps.{drop-at, take-at}
use Rattle.code_trees.proofs.Growth.{codes-grown}
use Rattle.code_trees.proofs.CodeFaults.{length-codes}
use Rattle.code_trees.proofs.Prefixes.{index-in}
use Rattle.code_trees.proofs.LevelSteps.{next-new, next-shares, held-next, parent-next, last_chain, ArePlacesOf}
use Rattle.code_trees.proofs.level_form.place_codes.Goals as goal

pub place_code-requires-clause-new : goal.place_code-requires-clause-new
place_code-requires-clause-new c =
    let all = c.args.codes.now in
    let i = c.codes.code-index in
    let at : slice_get all i ≡ Some c.code-item.result = slice_get_read all (length all) i c.code-item.result refl c.codes-test.true c.code-item.is in
    let item : c.as_slice-in-codes.result.now ≡ get_or all i [] = c.as_slice-in-codes.ensures ∙ sym (get_or_from_slice_get all i c.code-item.result [] at) in
    subst (λ (code : List ℕ). find c.codes.nodes code ≡ None) (sym item) (next-new c.codes.nodes c.args.total.now all i c.requires.sorted c.requires.apart c.codes-test.true c.codes.invariant.known)

pub place_code-requires-clause-fewer_than_5001 : goal.place_code-requires-clause-fewer_than_5001
place_code-requires-clause-fewer_than_5001 c = omega (arith, length-codes c.codes.nodes, ap length c.codes.invariant.known, length-take c.codes.code-index c.args.codes.now)

pub place_code-requires-clause-level : goal.place_code-requires-clause-level
place_code-requires-clause-level c =
    let all = c.args.codes.now in
    let i = c.codes.code-index in
    let at : slice_get all i ≡ Some c.code-item.result = slice_get_read all (length all) i c.code-item.result refl c.codes-test.true c.code-item.is in
    let first : c.as_slice.result.now ≡ get_or all i [] = c.as_slice.ensures ∙ sym (get_or_from_slice_get all i c.code-item.result [] at) in
    let place : c.level_of-place.result ≡ level c.args.bounds.now (get_or all i []) = c.level_of-place.ensures.level (get_or all i []) (ap length (sym first)) in
    let next = next-shares c.args.total.now c.args.bounds.now all i c.requires.sorted c.requires.closed c.requires.ascending c.codes-test.true in
    (omega (arith, place, next.within, c.codes.invariant.held.each), omega (arith, place, c.requires.shallow (get_or all i []) (index-in all i c.codes-test.true)))

pub codes-preserved : goal.codes-preserved
codes-preserved c =
    let all = c.args.codes.now in
    let i = c.codes.code-index in
    let total = c.args.total.now in
    let bounds = c.args.bounds.now in
    let tree = c.codes.nodes in
    let path = c.codes.path.items in
    let code = get_or all i [] in
    let at : slice_get all i ≡ Some c.code-item.result = slice_get_read all (length all) i c.code-item.result refl c.codes-test.true c.code-item.is in
    let at_code : slice_get all i ≡ Some code = slice_get-get_or all i [] c.codes-test.true in
    let first : c.as_slice.result.now ≡ code = c.as_slice.ensures ∙ sym (get_or_from_slice_get all i c.code-item.result [] at) in
    let item : c.as_slice-in-codes.result.now ≡ code = c.as_slice-in-codes.ensures ∙ sym (get_or_from_slice_get all i c.code-item.result [] at) in
    let place : c.level_of-place.result ≡ level bounds code = c.level_of-place.ensures.level code (ap length (sym first)) in
    let next = next-shares total bounds all i c.requires.sorted c.requires.closed c.requires.ascending c.codes-test.true in
    let parent = slice_index path (level bounds code) in
    let nodes : c.place_code.new.nodes ≡ tree_with_node tree code parent =
    c.in_ok-place_code.ensures.grows ∙ ap (λ (x : List ℕ). tree_with_node tree x (slice_index path c.level_of-place.result)) item ∙ ap (λ (n : ℕ). tree_with_node tree code (slice_index path n)) place in
    let paths : c.place_code.new.path.items ≡ next_path path (level bounds code) (length tree) = c.in_ok-place_code.ensures.next ∙ ap (λ (n : ℕ). next_path path n (length tree)) place in
    let held : ArePlacesOf (tree_with_node tree code parent) (next_path path (level bounds code) (length tree)) (last_chain total bounds all (suc i)) = held-next tree path (last_chain total bounds all i) total bounds code parent c.codes.invariant.held next in
    record {
      tree = c.in_ok-place_code.ensures.tree;
      path = c.in_ok-place_code.ensures.path;
      known = ap codes nodes ∙ codes-grown tree code parent ∙ ap (λ (known : List (List ℕ)). known ++ code ∷ []) c.codes.invariant.known ∙ ap (λ (rest : List (List ℕ)). total ∷ rest) (sym (take-at all i code at_code));
      held = subst (λ (n : ℕ). ArePlacesOf c.place_code.new.nodes c.place_code.new.path.items (last_chain total bounds all n)) (sym (add-one i))
          (subst (λ (t : Tree). ArePlacesOf t c.place_code.new.path.items (last_chain total bounds all (suc i))) (sym nodes)
          (subst (λ (p : List ℕ). ArePlacesOf (tree_with_node tree code parent) p (last_chain total bounds all (suc i))) (sym paths) held));
      rest = c.codes.invariant.rest
          ∙ ap (tree_of_codes total bounds tree) (drop-at all i code at_code)
          ∙ ap (λ (o : Option ℕ). tree_of_codes total bounds (tree ++ (code, o) ∷ []) (drop (i + 1) all)) (parent-next tree path (last_chain total bounds all i) total bounds code c.codes.invariant.tree.distinct c.codes.invariant.held next)
          ∙ ap (λ (t : Tree). tree_of_codes total bounds t (drop (i + 1) all)) (sym nodes);
    }

pub returns-clause-nodes : goal.returns-clause-nodes
returns-clause-nodes c = grind (arith, common_steps)
