-- The lead form: a code a line, after as many leads as the code is levels below the first (tau-ARGUS user manual,
-- hierarchy files; blanks and the order of faults own).
use Rattle.std.specs.Prelude.{ℕ, zero, suc, ◌+◌, ◌==◌, nat_lt, nat_le, Bool, List, [], ◌∷◌, ◌++◌, length, take, drop, if◌then◌else◌, Option, None, Some, option_map, Result}
use Rattle.std.specs.Str.{bytes_eq}
use Rattle.sdc_base.specs.Lines.{lines as lines_of}
use Rattle.sdc_base.specs.Blanks.{trim}
use Rattle.sdc_base.specs.Trees.{Tree}
use Rattle.code_trees.specs.Faults.{code_fault, or_else, tree_unless}
use Rattle.code_trees.specs.declared.tree_fault.TreeFault.{TreeFault}
use Rattle.code_trees.specs.declared.tree_fault.TreeFault.TheVariants as fault

-- the lead stands at the front
abbrev pub begins_with : List ℕ → List ℕ → Bool
begins_with lead bytes = bytes_eq (take (length lead) bytes) lead

-- one lead more
abbrev pub one_more : ℕ × List ℕ → ℕ × List ℕ
one_more found = (found.0 + 1, found.1)

-- how many leads stand at the front, at most so many, and what follows them
abbrev pub leads_within : ℕ → List ℕ → List ℕ → ℕ × List ℕ
leads_within zero lead bytes = (0, bytes)
leads_within (suc most) lead bytes = if begins_with lead bytes
    then one_more (leads_within most lead (drop (length lead) bytes)) else (0, bytes)

-- how many leads stand at the front of a line, and what follows them
abbrev pub leads_of : List ℕ → List ℕ → ℕ × List ℕ
leads_of lead line = leads_within (length line) lead line

-- a line that has a lead or a code: its number from 1, how many leads it has, and its code
pub record LeadLine : Type 0 where
  pub number : ℕ
  pub leads : ℕ
  pub code : List ℕ

-- a line with neither lead nor code is passed over
abbrev pub unless_blank : ℕ → ℕ → List ℕ → List LeadLine
unless_blank number zero [] = []
unless_blank number leads code = record { number = number; leads = leads; code = code } ∷ []

-- the line, without its leads and the blanks round its code
abbrev pub lead_line : List ℕ → ℕ → List ℕ → List LeadLine
lead_line lead number line = unless_blank number (leads_of lead line).0 (trim (leads_of lead line).1)

-- the lines, numbered from n
abbrev pub lead_lines : List ℕ → ℕ → List (List ℕ) → List LeadLine
lead_lines lead n [] = []
lead_lines lead n (line ∷ lines) = lead_line lead n line ++ lead_lines lead (n + 1) lines

-- The fault of a line, after a line of this depth and these codes, of which the first is the total:
-- no code, more than one level deeper than the line before, the tenth level, or that of its code.
abbrev pub line_fault : ℕ → List (List ℕ) → LeadLine → Option TreeFault
line_fault last before line =
    if length line.code == 0 then Some (fault.NoCode line.number)
    else if nat_lt last line.leads then Some (fault.Jump line.number)
    else if nat_le 9 line.leads then Some (fault.TooDeep line.number)
    else code_fault before line.code line.number

-- the first fault of the lines; a line's depth is one more than its leads
abbrev pub first_line_fault : ℕ → List (List ℕ) → List LeadLine → Option TreeFault
first_line_fault last before [] = None
first_line_fault last before (line ∷ lines) = or_else (line_fault last before line)
    (first_line_fault (line.leads + 1) (before ++ line.code ∷ []) lines)

-- the place, or else the other
abbrev pub place_or : Option ℕ → Option ℕ → Option ℕ
place_or None other = other
place_or (Some place) other = Some place

-- the last place of this depth
abbrev pub last_at : ℕ → List ℕ → Option ℕ
last_at depth [] = None
last_at depth (d ∷ depths) = place_or (option_map (λ k. k + 1) (last_at depth depths))
    (if d == depth then Some 0 else None)

-- Each line is a node, in order. Its parent is the last place before it that is one level higher: a line with d leads
-- is at depth d + 1, and the total at depth 0. `depths` are those of the nodes so far.
abbrev pub tree_below : Tree → List ℕ → List LeadLine → Tree
tree_below tree depths [] = tree
tree_below tree depths (line ∷ lines) = tree_below (tree ++ (line.code, last_at line.leads depths) ∷ [])
    (depths ++ (line.leads + 1) ∷ []) lines

-- the tree of lines below the total
abbrev pub lead_tree : List ℕ → List LeadLine → Tree
lead_tree total lines = tree_below ((total, None) ∷ []) (0 ∷ []) lines

-- the tree of a file in lead form, or its first fault
abbrev pub lead_of : List ℕ → List ℕ → List ℕ → Result Tree TreeFault
lead_of lead total bytes =
    let lines = lead_lines lead 1 (lines_of bytes) in
    tree_unless (first_line_fault 0 (total ∷ []) lines) (lead_tree total lines)

-- what the lead form can be refused for: all but a blank inside a code
abbrev pub IsLeadFault : TreeFault → Type 0
IsLeadFault (fault.Blank n) = ⊥
IsLeadFault other = Unit {0}
