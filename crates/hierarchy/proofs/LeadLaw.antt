-- The text of a tree is read as that tree.
use Rattle.std.proofs.Common.{◌≡◌, ◌≢◌, ℕ, suc, zero, ◌+◌, ◌-◌, ◌==◌, ◌<◌, ◌≤◌, nat_lt, nat_le, false, List, [], ◌∷◌, ◌++◌, length, drop, slice_index, Option, None, Some, Result, Ok, refl, ap, sym, ◌∙◌, subst, arith, append_assoc, append-nil, length-append}
use Rattle.std.specs.List.{AllByRecursion}
use Rattle.std.specs.Option.{option_and_then}
use Rattle.std.specs.Str.{bytes_eq}
use Rattle.std.proofs.lemmas.Bool.Decides.{nat_tests}
use Rattle.std.proofs.lemmas.Cmp.{nat_list_eq_equiv}
use Rattle.std.proofs.lemmas.Map.Keys.{IsDistinct-head, IsDistinct-tail}
use Rattle.std.proofs.lemmas.Option.{option_and_then_some}
use Rattle.sdc_base.specs.Lines.{HasNoFeed}
use Rattle.sdc_base.specs.Trees.{Tree, codes, find, parent_at, climb, code_in, IsCodeTree, HasDistinctCodes}
use Rattle.code_trees.specs.Growing.{tree_with_node}
use Rattle.code_trees.specs.Faults.{tree_unless, code_fault}
use Rattle.hierarchy.specs.Lead.{LeadLine, line_fault, first_line_fault, lead_lines, lead_tree, lead_of}
use Rattle.code_trees.specs.Path.{IsPath, next_path}
use Rattle.hierarchy.specs.LeadPath.{tree_with_lines}
use Rattle.code_trees.specs.Depths.{depth_of}
use Rattle.hierarchy.specs.LeadText.{lead_text, IsWritable, LeadTextIsRead}
use Rattle.code_trees.specs.declared.tree_fault.TreeFault.{TreeFault}
use Rattle.code_trees.proofs.CodeFaults.{fault-new}
use Rattle.code_trees.proofs.Depths.{one-depth, depth-is}
use Rattle.code_trees.proofs.Growth.{climb-grown}
use Rattle.hierarchy.proofs.LeadLines.{read_nodes, nodes-read, text-lines}
use Rattle.hierarchy.proofs.LeadSteps.{read-step}
use Rattle.code_trees.proofs.Paths.{climb-add, path-next, path-total}
use Rattle.hierarchy.proofs.LeadPaths.{same-start}

at-seam : (front : Tree) (node : List ℕ × Option ℕ) (rest : Tree) → parent_at (front ++ node ∷ rest) (length front) ≡ node.1
at-seam [] node rest = refl
at-seam (first ∷ front) node rest = at-seam front node rest

apart-at : (first code : List ℕ) (front : Tree) (parent : Option ℕ) (rest : Tree) → AllByRecursion (λ other. bytes_eq first other ≡ false) (codes (front ++ (code, parent) ∷ rest)) → bytes_eq first code ≡ false
apart-at first code [] parent rest all = all.0
apart-at first code (node ∷ front) parent rest all = apart-at first code front parent rest all.1

-- the codes before a code of the tree are others
new-code : (front : Tree) (code : List ℕ) (parent : Option ℕ) (rest : Tree) → HasDistinctCodes (front ++ (code, parent) ∷ rest) → find front code ≡ None
new-code [] code parent rest h = refl
new-code (first ∷ front) code parent rest h =
    let other : bytes_eq code first.0 ≡ false = nat_list_eq_equiv.symm code first.0 ∙ apart-at first.0 code front parent rest (IsDistinct-head bytes_eq first.0 (codes (front ++ (code, parent) ∷ rest)) h) in
    let later : find front code ≡ None = new-code front code parent rest (IsDistinct-tail bytes_eq first.0 (codes (front ++ (code, parent) ∷ rest)) h) in
    rw (other, later) refl

-- a line that has a code, a depth and room has no fault but that of its code
no-line-fault : (last : ℕ) (before : List (List ℕ)) (line : LeadLine) → (length line.code == 0) ≡ false → line.leads ≤ last → line.leads ≤ 8 → line_fault last before line ≡ code_fault before line.code line.number
no-line-fault last before line some deep shallow =
    let near : nat_lt last line.leads ≡ false = grind (arith, nat_tests) in
    let room : nat_le 9 line.leads ≡ false = grind (arith, nat_tests) in
    rw (some, near, room) refl

-- What the next node of the tree is, after the nodes in front, whose path is known.
record IsNext (tree front : Tree) (path : List ℕ) (line : LeadLine) (parent : Option ℕ) : Type 0 where
  pub none : line_fault (length path - 1) (codes front) line ≡ None
  pub inside : line.leads < length path
  pub above : parent ≡ Some (slice_index path line.leads)

code-some : (code : List ℕ) → code ≢ [] → (length code == 0) ≡ false
code-some [] h = absurd (h refl)
code-some (b ∷ code) h = other-than-none (length code)
  where
    other-than-none : (n : ℕ) → (suc n == 0) ≡ false
    other-than-none n = grind (arith, nat_tests)

-- the next node goes below the place of the path that is one level higher
next-is : (tree front : Tree) (code : List ℕ) (parent : Option ℕ) (rest : Tree) (path : List ℕ) → IsCodeTree tree → tree ≡ front ++ (code, parent) ∷ rest → 0 < length front → IsPath front path → code ≢ []
    → IsNext tree front path (record { number = length front; leads = depth_of tree (length front) - 1; code = code }) parent
next-is tree front code parent rest path is whole some at there =
    option_and_then_some (climb tree up) (parent_at tree k) 0 far (λ above to beyond.
    let walk = is.preorder (k - 1) above (subst (λ n. parent_at tree n ≡ Some above) (sym before) to) in
    let fits = by-walk above beyond walk.0 walk.1 in
    record {
      none = no-line-fault (length path - 1) (codes front) line (code-some code there) (omega (arith, leads, fits.0)) (omega (arith, leads, deep.1))
          ∙ fault-new front code k some (new-code front code parent rest (subst HasDistinctCodes whole is.distinct)) (omega (arith, is.at_most_5001, longer));
      inside = omega (arith, leads, fits.0, at.has_total);
      above = sym (at-seam front (code, parent) rest) ∙ ap (λ (t : Tree). parent_at t k) (sym whole) ∙ to ∙ ap Some fits.1 ∙ ap (λ (n : ℕ). Some (slice_index path n)) (sym leads);
    })
  where
    k : ℕ
    k = length front

    longer : length tree ≡ k + suc (length rest)
    longer = ap length whole ∙ length-append front ((code, parent) ∷ rest)

    before : k - 1 + 1 ≡ k
    before = omega (arith, some)

    deep : (depth : ℕ) × (depth ≤ 9) × (climb tree depth k ≡ Some 0)
    deep = is.shallow k (omega (arith, longer))

    up : ℕ
    up = deep.0 - 1

    line : LeadLine
    line = record { number = length front; leads = depth_of tree (length front) - 1; code = code }

    leads : line.leads ≡ up
    leads = ap (λ n. n - 1) (depth-is tree is deep.0 k (omega (arith, longer)) deep.2)

    -- the next place isn't the total
    positive : (depth : ℕ) → climb tree depth k ≡ Some 0 → depth ≡ suc (depth - 1)
    positive zero h = absurd (let zeroth : k ≡ 0 = cc in omega (arith, some, zeroth))
    positive (suc depth) h = omega arith

    far : climb tree (suc up) k ≡ Some 0
    far = subst (λ n. climb tree n k ≡ Some 0) (positive deep.0 deep.2) deep.2

    last : ℕ
    last = length path - 1

    -- the path, in the whole tree
    above-in : (depth : ℕ) → depth < length path → climb tree (length path - 1 - depth) (k - 1) ≡ Some (slice_index path depth)
    above-in depth h = subst (λ (t : Tree). climb t (length path - 1 - depth) (k - 1) ≡ Some (slice_index path depth)) (sym whole) (climb-grown front ((code, parent) ∷ rest) _ (k - 1) (slice_index path depth) (at.above depth h))

    deep-in : climb tree last (k - 1) ≡ Some 0
    deep-in =
        let top : length path - 1 - 0 ≡ last = omega arith in
        let root : slice_index path 0 ≡ 0 = some-is-zero (slice_index path 0) (at.deep 0 at.has_total) in
        subst (λ n. climb tree n (k - 1) ≡ Some 0) top (above-in 0 at.has_total ∙ ap Some root)
      where
        some-is-zero : (place : ℕ) → Some place ≡ Some 0 → place ≡ 0
        some-is-zero place h = cc

    by-walk : (above : ℕ) → climb tree up above ≡ Some 0 → (steps : ℕ) → climb tree steps (k - 1) ≡ Some above → (up ≤ last) × (above ≡ slice_index path up)
    by-walk above beyond steps to =
        let whole-way : climb tree (steps + up) (k - 1) ≡ Some 0 = climb-add tree steps up (k - 1) ∙ ap (option_and_then (climb tree up)) to ∙ beyond in
        let same : last ≡ steps + up = one-depth tree is.total last (steps + up) (k - 1) deep-in whole-way in
        let left : length path - 1 - up ≡ steps = omega (arith, same) in
        (omega (arith, same), some-same above (slice_index path up) (sym to ∙ subst (λ n. climb tree n (k - 1) ≡ Some (slice_index path up)) left (above-in up (omega (arith, same, at.has_total)))))
      where
        some-same : (a b : ℕ) → Some a ≡ Some b → a ≡ b
        some-same a b h = cc

-- the nodes that are left are read
nodes-on : (tree : Tree) (lead : List ℕ) → IsCodeTree tree → (rest front : Tree) (path : List ℕ) (place : ℕ) → tree ≡ front ++ rest → place ≡ length front → 0 < length front → IsPath front path
    → AllByRecursion (IsWritable lead) (codes rest) → tree_with_lines front path (read_nodes tree place rest) ≡ Ok tree
nodes-on tree lead is [] front path place whole count some at can = ap (λ (t : Tree). Ok t) (sym (whole ∙ append-nil front))
nodes-on tree lead is ((code, parent) ∷ rest) front path place whole count some at can =
    let line : LeadLine = record { number = length front; leads = depth_of tree (length front) - 1; code = code } in
    let next = next-is tree front code parent rest path is whole some at can.0.has_byte in
    let node : Tree = tree_with_node front code (slice_index path line.leads) in
    let longer : length node ≡ length front + 1 = length-append front ((code, Some (slice_index path line.leads)) ∷ []) in
    let one : tree ≡ node ++ rest = whole ∙ ap (λ (up : Option ℕ). front ++ (code, up) ∷ rest) next.above ∙ sym (append_assoc front ((code, Some (slice_index path line.leads)) ∷ []) rest) in
    ap (λ (n : ℕ). tree_with_lines front path (record { number = n; leads = depth_of tree n - 1; code = code } ∷ read_nodes tree (n + 1) rest)) count
    ∙ read-step front path line (read_nodes tree (length front + 1) rest) at.has_total next.none
    ∙ nodes-on tree lead is rest node (next_path path line.leads (length front)) (length front + 1) one (sym longer) (omega (arith, longer)) (path-next front some path at code line.leads next.inside) can.1

from-total : (lead : List ℕ) (tree : Tree) → 0 < length lead → HasNoFeed lead → IsCodeTree tree → AllByRecursion (IsWritable lead) (codes (drop 1 tree)) → lead_of lead (code_in tree 0) (lead_text lead tree) ≡ Ok tree
from-total lead [] some h is can = absurd (let none = is.has_total in omega (arith, none))
from-total lead ((total, parent) ∷ rest) some h is can =
    let tree : Tree = (total, parent) ∷ rest in
    let root : parent ≡ None = is.total in
    let whole : tree ≡ ((total, None) ∷ []) ++ rest = ap (λ (up : Option ℕ). (total, up) ∷ rest) root in
    ap (λ (texts : List (List ℕ)). unless-of tree lead total texts) (text-lines lead tree 1 rest h can)
    ∙ ap (λ (read : List LeadLine). start total read) (nodes-read lead tree 1 rest some can)
    ∙ same-start total (read_nodes tree 1 rest)
    ∙ nodes-on tree lead is rest ((total, None) ∷ []) (0 ∷ []) 1 whole refl (omega arith) (path-total total) can
  where
    start : List ℕ → List LeadLine → Result Tree TreeFault
    start total read = tree_unless (first_line_fault 0 (total ∷ []) read) (lead_tree total read)

    unless-of : Tree → List ℕ → List ℕ → List (List ℕ) → Result Tree TreeFault
    unless-of tree lead total texts = start total (lead_lines lead 1 texts)

pub lead_text_is_read : LeadTextIsRead
lead_text_is_read lead tree some h is can = from-total lead tree some h is can
