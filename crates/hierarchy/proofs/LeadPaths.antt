-- The tree of the lines by the path is the tree by the depths.
use Rattle.std.proofs.Common.{◌≡◌, ℕ, suc, ◌+◌, ◌-◌, ◌<◌, ◌≤◌, ◌==◌, nat_lt, nat_le, true, false, cond, List, [], ◌∷◌, ◌++◌, length, Option, None, Some, option_map, slice_index, refl, ap, sym, ◌∙◌, subst, arith, add-one, inl, inr, length-append}
use Rattle.std.proofs.lemmas.Bool.Decides.{nat_tests}
use Rattle.sdc_base.specs.Trees.{Tree}
use Rattle.code_trees.specs.Faults.{code_fault, or_else, tree_unless}
use Rattle.code_trees.specs.Growing.{tree_with_node}
use Rattle.code_trees.specs.Path.{next_path}
use Rattle.code_trees.specs.declared.tree_fault.TreeFault.TheVariants as fault
use Rattle.code_trees.proofs.Paths.{last_or_below, length-next, next-below, next-last}
use Rattle.hierarchy.specs.Lead.{LeadLine, line_fault, first_line_fault, last_at, place_or, tree_below}
use Rattle.hierarchy.specs.LeadPath.{tree_by_path, tree_with_lines}

-- at each depth of the path the last place of that depth
pub record IsDepthPath (depths path : List ℕ) (n : ℕ) : Type 0 where
  pub each : length depths ≡ n
  pub held : (depth : ℕ) → depth < length path → last_at depth depths ≡ Some (slice_index path depth)

last_at-push : (depth : ℕ) (depths : List ℕ) (d : ℕ) → last_at depth (depths ++ d ∷ []) ≡ cond (d == depth) (Some (length depths)) (last_at depth depths)
last_at-push depth [] d = refl
last_at-push depth (x ∷ depths) d =
    ap (λ later. place_or (option_map (λ k. k + 1) later) (cond (x == depth) (Some 0) None)) (last_at-push depth depths d)
    ∙ elim (d == depth) as (λ b. place_or (option_map (λ k. k + 1) (cond b (Some (length depths)) (last_at depth depths))) (cond (x == depth) (Some 0) None) ≡ cond b (Some (suc (length depths))) (place_or (option_map (λ k. k + 1) (last_at depth depths)) (cond (x == depth) (Some 0) None))) [
      | true ↦ ap Some (add-one (length depths))
      | false ↦ refl
    ]

other_place : (a b : ℕ) → b < a → (a == b) ≡ false
other_place a b h = grind (arith, nat_tests)

same_place : (a b : ℕ) → a ≡ b → (a == b) ≡ true
same_place a b h = grind (arith, nat_tests)

next-depths : (depths path : List ℕ) (n leads : ℕ) → IsDepthPath depths path n → leads < length path → IsDepthPath (depths ++ (leads + 1) ∷ []) (next_path path leads n) (n + 1)
next-depths depths path n leads is h = record {
  each = omega (arith, is.each, length-append depths ((leads + 1) ∷ []));
  held = λ depth below. last_at-push depth depths (leads + 1) ∙ elim (last_or_below depth (leads + 1) (omega (arith, below, length-next path leads n h))) [
    | inl old ↦ rw (other_place (leads + 1) depth old, next-below path leads n depth h old) (is.held depth (omega (arith, h, old)))
    | inr last ↦ rw (same_place (leads + 1) depth (sym last), last, next-last path leads n h) (ap Some is.each)
  ];
}

not_lt : (a b : ℕ) → nat_lt a b ≡ false → b ≤ a
not_lt a b h = grind (arith, nat_tests)

-- a line without fault goes below a place of the path
pub within-path : (last : ℕ) (before : List (List ℕ)) (line : LeadLine) → line_fault last before line ≡ None → line.leads ≤ last
within-path last before line h =
    elim (length line.code == 0) as (λ b. cond b (Some (fault.NoCode line.number)) (cond (nat_lt last line.leads) (Some (fault.Jump line.number)) (cond (nat_le 9 line.leads) (Some (fault.TooDeep line.number)) (code_fault before line.code line.number))) ≡ None → line.leads ≤ last) [
      | true ↦ λ e. cc
      | false ↦ λ e.
          elim (nat_lt last line.leads) as (λ b. nat_lt last line.leads ≡ b → cond b (Some (fault.Jump line.number)) (cond (nat_le 9 line.leads) (Some (fault.TooDeep line.number)) (code_fault before line.code line.number)) ≡ None → line.leads ≤ last) [
            | true ↦ λ t f. cc
            | false ↦ λ t f. not_lt last line.leads t
          ] refl e
    ] h

-- where no line has a fault, the tree by the path is the tree by the depths
pub same-tree : (lines : List LeadLine) (tree : Tree) (depths path : List ℕ) (before : List (List ℕ)) → IsDepthPath depths path (length tree) → 0 < length path
    → tree_unless (first_line_fault (length path - 1) before lines) (tree_below tree depths lines) ≡ tree_unless (first_line_fault (length path - 1) before lines) (tree_by_path tree path lines)
same-tree [] tree depths path before is some = refl
same-tree (line ∷ lines) tree depths path before is some =
    let rest = first_line_fault (line.leads + 1) (before ++ line.code ∷ []) lines in
    elim (line_fault (length path - 1) before line) as (λ o. line_fault (length path - 1) before line ≡ o → tree_unless (or_else o rest) (tree_below tree depths (line ∷ lines)) ≡ tree_unless (or_else o rest) (tree_by_path tree path (line ∷ lines))) [
      | Some one ↦ λ e. refl
      | None ↦ λ e.
          let h : line.leads < length path = omega (arith, some, within-path (length path - 1) before line e) in
          let next = next_path path line.leads (length tree) in
          let last : length next - 1 ≡ line.leads + 1 = omega (arith, length-next path line.leads (length tree) h) in
          let longer : length tree + 1 ≡ length (tree_with_node tree line.code (slice_index path line.leads)) = omega (arith, length-append tree ((line.code, Some (slice_index path line.leads)) ∷ [])) in
          let later = same-tree lines (tree_with_node tree line.code (slice_index path line.leads)) (depths ++ (line.leads + 1) ∷ []) next (before ++ line.code ∷ []) (subst (IsDepthPath (depths ++ (line.leads + 1) ∷ []) next) longer (next-depths depths path (length tree) line.leads is h)) (omega (arith, length-next path line.leads (length tree) h)) in
          ap (λ (parent : Option ℕ). tree_unless rest (tree_below (tree ++ (line.code, parent) ∷ []) (depths ++ (line.leads + 1) ∷ []) lines)) (is.held line.leads h)
          ∙ subst (λ n. tree_unless (first_line_fault n (before ++ line.code ∷ []) lines) (tree_below (tree_with_node tree line.code (slice_index path line.leads)) (depths ++ (line.leads + 1) ∷ []) lines) ≡ tree_unless (first_line_fault n (before ++ line.code ∷ []) lines) (tree_by_path (tree_with_node tree line.code (slice_index path line.leads)) next lines)) last later
    ] refl

-- at the start
pub same-start : (total : List ℕ) (lines : List LeadLine)
    → tree_unless (first_line_fault 0 (total ∷ []) lines) (tree_below ((total, None) ∷ []) (0 ∷ []) lines) ≡ tree_with_lines ((total, None) ∷ []) (0 ∷ []) lines
same-start total lines = same-tree lines ((total, None) ∷ []) (0 ∷ []) (0 ∷ []) (total ∷ []) (record { each = refl; held = λ depth below. let zeroth : depth ≡ 0 = omega arith in rw zeroth refl }) (omega arith)
