-- Steps of the reader of the lead form.
use Rattle.std.proofs.Common.{◌≡◌, ◌≢◌, ℕ, ◌==◌, false, suc, zero, ◌+◌, ◌-◌, ◌<◌, true, List, [], ◌∷◌, ◌++◌, length, drop, slice_index, Option, None, Result, Ok, Err, OnOk, refl, ap, sym, ◌∙◌, arith}
use Rattle.sdc_base.specs.Blanks.{trim}
use Rattle.sdc_base.specs.Trees.{Tree, codes}
use Rattle.code_trees.specs.Growing.{tree_with_node}
use Rattle.code_trees.specs.Faults.{or_else, tree_unless, AnswersFault}
use Rattle.hierarchy.specs.Lead.{LeadLine, line_fault, first_line_fault, lead_line, leads_of, unless_blank, leads_within, begins_with, one_more}
use Rattle.code_trees.specs.Path.{next_path}
use Rattle.hierarchy.specs.LeadPath.{tree_by_path, tree_with_lines}
use Rattle.code_trees.specs.declared.tree_fault.TreeFault.{TreeFault}
use Rattle.code_trees.proofs.Growth.{codes-grown}
use Rattle.code_trees.proofs.Paths.{length-next}
use Rattle.hierarchy.proofs.LeadPaths.{within-path}

-- one lead more
pub leads-next : (most n : ℕ) (lead bytes : List ℕ) → n + 1 ≡ most → begins_with lead bytes ≡ true → leads_within most lead bytes ≡ one_more (leads_within n lead (drop (length lead) bytes))
leads-next zero n lead bytes e h = absurd (omega arith)
leads-next (suc most) n lead bytes e h = let same : most ≡ n = omega arith in rw h (ap (λ k. one_more (leads_within k lead (drop (length lead) bytes))) same)

-- a line without fault is one node more
pub read-step : (tree : Tree) (path : List ℕ) (line : LeadLine) (lines : List LeadLine) → 0 < length path → line_fault (length path - 1) (codes tree) line ≡ None
    → tree_with_lines tree path (line ∷ lines) ≡ tree_with_lines (tree_with_node tree line.code (slice_index path line.leads)) (next_path path line.leads (length tree)) lines
read-step tree path line lines some none =
    let h : line.leads < length path = omega (arith, some, within-path (length path - 1) (codes tree) line none) in
    let last : line.leads + 1 ≡ length (next_path path line.leads (length tree)) - 1 = omega (arith, length-next path line.leads (length tree) h) in
    let next : Tree = tree_with_node tree line.code (slice_index path line.leads) in
    let rest : Tree = tree_by_path next (next_path path line.leads (length tree)) lines in
    ap (λ (told : Option TreeFault). tree_unless (or_else told (first_line_fault (line.leads + 1) (codes tree ++ line.code ∷ []) lines)) rest) none
    ∙ ap (λ (known : List (List ℕ)). tree_unless (first_line_fault (line.leads + 1) known lines) rest) (sym (codes-grown tree line.code (slice_index path line.leads)))
    ∙ ap (λ (deep : ℕ). tree_unless (first_line_fault deep (codes next) lines) rest) last

-- the line that a step added
pub read-ok : (r : Result (Unit {0}) TreeFault) (tree new : Tree) (path next : List ℕ) (line : LeadLine) (here : List LeadLine) → here ≡ line ∷ [] → 0 < length path
    → AnswersFault r (line_fault (length path - 1) (codes tree) line) → OnOk r (new ≡ tree_with_node tree line.code (slice_index path line.leads)) → OnOk r (next ≡ next_path path line.leads (length tree))
    → OnOk r ((lines : List LeadLine) → tree_with_lines tree path (here ++ lines) ≡ tree_with_lines new next lines)
read-ok (Err one) tree new path next line here same some told grows after = tt
read-ok (Ok x) tree new path next line here same some told grows after = λ lines.
    ap (λ (front : List LeadLine). tree_with_lines tree path (front ++ lines)) same
    ∙ read-step tree path line lines some told
    ∙ ap (λ (t : Tree). tree_with_lines t (next_path path line.leads (length tree)) lines) (sym grows)
    ∙ ap (λ (p : List ℕ). tree_with_lines new p lines) (sym after)

-- a line with a lead or a code is one line
pub line-by-leads : (number leads : ℕ) (code : List ℕ) → leads ≢ 0 → unless_blank number leads code ≡ record { number = number; leads = leads; code = code } ∷ []
line-by-leads number zero code h = absurd (h refl)
line-by-leads number (suc leads) code h = refl

pub line-by-code : (number leads : ℕ) (code : List ℕ) → code ≢ [] → unless_blank number leads code ≡ record { number = number; leads = leads; code = code } ∷ []
line-by-code number zero [] h = absurd (h refl)
line-by-code number (suc leads) [] h = refl
line-by-code number zero (b ∷ code) h = refl
line-by-code number (suc leads) (b ∷ code) h = refl

-- what a line is, by its leads and its code
pub line-split : (lead line : List ℕ) (number leads : ℕ) (rest code : List ℕ) → leads ≡ (leads_of lead line).0 → rest ≡ (leads_of lead line).1 → code ≡ trim rest
    → lead_line lead number line ≡ unless_blank number leads code
line-split lead line number leads rest code front behind value =
    ap (λ (n : ℕ). unless_blank number n (trim (leads_of lead line).1)) (sym front)
    ∙ ap (λ (r : List ℕ). unless_blank number leads (trim r)) (sym behind)
    ∙ ap (unless_blank number leads) (sym value)

pub code-there : (code : List ℕ) → (length code == 0) ≡ false → code ≢ []
code-there [] h = λ e. absurd cc
code-there (b ∷ code) h = λ e. cc
