use Rattle.std.proofs.Common.{◌≡◌, ◌≤◌, ℕ, List, [], sum, drop, length, ap, sym, ◌∙◌, subst, arith}
use Rattle.code_trees.specs.Levels.{boundaries, codes_with_prefixes, level, IsAscending, IsClosed}
use Rattle.code_trees.specs.Among.{IsIn}
use Rattle.code_trees.proofs.Gathered.{closed-gathered, gathered-short, ascending-boundaries, level-bounded}
use Rattle.std.specs.Cmp.Lexicographic.{slice_cmp}
use Rattle.std.specs.List.Sorted.{IsStrictlySortedBy}
use Rattle.std.specs.Ordering.{nat_cmp}
use Rattle.sdc_base.specs.Trees.{codes}
use Rattle.code_trees.specs.LevelNodes.{AreLevelNodes}
use Rattle.code_trees.proofs.LevelLaw.{nodes-are}
use Rattle.code_trees.proofs.Prefixes.{in-index}
use Rattle.code_trees.proofs.level_form.from_levels.Goals as goal

pub place_codes-requires-clause-closed : goal.place_codes-requires-clause-closed
place_codes-requires-clause-closed c =
    let bounds : c.deref-2.result.now ≡ boundaries 0 c.args.widths.now = c.deref-2.ensures.value ∙ c.in_ok-bounds.ensures in
    let kept : c.deref.result.now ≡ codes_with_prefixes (boundaries 0 c.args.widths.now) [] c.args.codes.now = c.deref.ensures.value ∙ c.in_ok-kept.ensures.kept in
    let closed = closed-gathered 0 (boundaries 0 c.args.widths.now) c.args.codes.now [] (ascending-boundaries 0 c.args.widths.now (λ k h. c.requires.positive k 0 h)) (λ code bound h inside short. absurd h) in
    subst (λ (b : List ℕ). IsClosed b c.deref.result.now) (sym bounds) (subst (IsClosed (boundaries 0 c.args.widths.now)) (sym kept) closed)

pub place_codes-requires-clause-ascending : goal.place_codes-requires-clause-ascending
place_codes-requires-clause-ascending c = subst (IsAscending 0) (sym (c.deref-2.ensures.value ∙ c.in_ok-bounds.ensures)) (ascending-boundaries 0 c.args.widths.now (λ k h. c.requires.positive k 0 h))

pub place_codes-requires-clause-shallow : goal.place_codes-requires-clause-shallow
place_codes-requires-clause-shallow c = λ code inside.
    let bounds : c.deref-2.result.now ≡ boundaries 0 c.args.widths.now = c.deref-2.ensures.value ∙ c.in_ok-bounds.ensures in
    let kept : c.deref.result.now ≡ codes_with_prefixes (boundaries 0 c.args.widths.now) [] c.args.codes.now = c.deref.ensures.value ∙ c.in_ok-kept.ensures.kept in
    let short : length code ≤ sum c.args.widths.now = gathered-short (sum c.args.widths.now) (boundaries 0 c.args.widths.now) c.args.codes.now [] (λ x h. absurd h) (λ x h. let i = in-index x c.args.codes.now h in omega (arith, ap length i.2, c.requires.short i.0 [] i.1)) code (subst (IsIn code) kept inside) in
    let low = level-bounded 0 c.args.widths.now code c.requires.at_least_one_width (omega (arith, short)) in
    let same : level c.deref-2.result.now code ≡ level (boundaries 0 c.args.widths.now) code = ap (λ (b : List ℕ). level b code) bounds in
    omega (arith, same, low, c.requires.levels)

pub returns-clause-nodes : goal.returns-clause-nodes
returns-clause-nodes c =
    let bounds : c.deref-2.result.now ≡ boundaries 0 c.args.widths.now = c.deref-2.ensures.value ∙ c.in_ok-bounds.ensures in
    let kept : c.deref.result.now ≡ codes_with_prefixes c.deref-2.result.now [] c.args.codes.now = c.deref.ensures.value ∙ c.in_ok-kept.ensures.kept ∙ ap (λ (b : List ℕ). codes_with_prefixes b [] c.args.codes.now) (sym bounds) in
    let sorted = subst (IsStrictlySortedBy (slice_cmp nat_cmp)) (sym c.deref.ensures.value) c.in_ok-kept.ensures.sorted in
    subst (λ (b : List ℕ). AreLevelNodes b c.args.codes.now (drop 1 (codes c.in_ok-tree.tree))) bounds
    (nodes-are _ c.deref-2.result.now c.args.codes.now c.deref.result.now c.in_ok-tree.tree (c.in_ok-tree.ensures ∙ c.in_ok-nodes.ensures.nodes) kept sorted)
