-- The lines of a tree's text, as the lead form reads them.
use Rattle.std.proofs.Common.{◌≡◌, ◌≢◌, ℕ, suc, zero, ◌+◌, ◌-◌, ◌<◌, ◌≤◌, true, false, ◌||◌, List, [], ◌∷◌, ◌++◌, length, drop, refl, ap, sym, ◌∙◌, arith, add-one, append_assoc, length-append}
use Rattle.std.specs.List.{AllByRecursion, list_any}
use Rattle.std.specs.Str.{bytes_eq}
use Rattle.std.specs.Str.Lines.{strip_carriage_return}
use Rattle.std.proofs.lemmas.Cmp.{nat_list_eq_equiv}
use Rattle.std.proofs.lemmas.List.Folds.{list_any-append}
use Rattle.std.proofs.Math.Seq.{take-append_seam, drop-append_seam}
use Rattle.plain_text.proofs.FirstLine.{strip-cons}
use Rattle.plain_text.proofs.Joined.{read_again}
use Rattle.sdc_base.specs.Lines.{lines, text_of_lines, is_line_feed, IsLine, HasNoFeed}
use Rattle.sdc_base.specs.Trees.{Tree, codes}
use Rattle.hierarchy.specs.Lead.{LeadLine, begins_with, one_more, leads_within, leads_of, lead_line, lead_lines}
use Rattle.code_trees.specs.Depths.{depth_of}
use Rattle.hierarchy.specs.LeadText.{leads_text, node_line, node_lines, IsWritable}
use Rattle.hierarchy.proofs.LeadSteps.{line-split, line-by-code}

-- the lines of nodes, read
abbrev pub read_nodes : Tree → ℕ → Tree → List LeadLine
read_nodes tree place [] = []
read_nodes tree place (node ∷ nodes) = record { number = place; leads = depth_of tree place - 1; code = node.0 } ∷ read_nodes tree (place + 1) nodes

leads-long : (lead : List ℕ) (n : ℕ) → 0 < length lead → n ≤ length (leads_text lead n)
leads-long lead zero some = omega arith
leads-long lead (suc n) some = omega (arith, leads-long lead n some, length-append lead (leads_text lead n))

-- the leads at the front are counted, and the code is left
leads-read : (lead code : List ℕ) (n most : ℕ) → n ≤ most → begins_with lead code ≡ false → leads_within most lead (leads_text lead n ++ code) ≡ (n, code)
leads-read lead code zero zero few own = refl
leads-read lead code zero (suc most) few own = rw own refl
leads-read lead code (suc n) zero few own = absurd (omega arith)
leads-read lead code (suc n) (suc most) few own =
    let rest = leads_text lead n ++ code in
    let front : begins_with lead (lead ++ rest) ≡ true = ap (λ (taken : List ℕ). bytes_eq taken lead) (take-append_seam lead rest) ∙ nat_list_eq_equiv.refl lead in
    let test : leads_within (suc most) lead (lead ++ rest) ≡ one_more (leads_within most lead (drop (length lead) (lead ++ rest))) = rw front refl in
    ap (leads_within (suc most) lead) (append_assoc lead (leads_text lead n) code)
    ∙ test
    ∙ ap (λ (behind : List ℕ). one_more (leads_within most lead behind)) (drop-append_seam lead rest)
    ∙ ap one_more (leads-read lead code n most (omega arith) own)
    ∙ ap (λ (k : ℕ). (k, code)) (add-one n)

line-read : (lead : List ℕ) (tree : Tree) (number place : ℕ) (code : List ℕ) → 0 < length lead → IsWritable lead code
    → lead_line lead number (node_line lead tree place code) ≡ record { number = number; leads = depth_of tree place - 1; code = code } ∷ []
line-read lead tree number place code some can =
    let n = depth_of tree place - 1 in
    let line = leads_text lead n ++ code in
    let found : leads_of lead line ≡ (n, code) = leads-read lead code n (length line) (omega (arith, leads-long lead n some, length-append (leads_text lead n) code)) can.front in
    line-split lead line number n code code (sym (ap (λ (f : ℕ × List ℕ). f.0) found)) (sym (ap (λ (f : ℕ × List ℕ). f.1) found)) (sym can.trimmed)
    ∙ line-by-code number n code can.has_byte

-- the lines of nodes are read as lines with leads and codes
pub nodes-read : (lead : List ℕ) (tree : Tree) (place : ℕ) (nodes : Tree) → 0 < length lead → AllByRecursion (IsWritable lead) (codes nodes) → lead_lines lead place (node_lines lead tree place nodes) ≡ read_nodes tree place nodes
nodes-read lead tree place [] some can = refl
nodes-read lead tree place (node ∷ nodes) some can =
    ap (λ (here : List LeadLine). here ++ lead_lines lead (place + 1) (node_lines lead tree (place + 1) nodes)) (line-read lead tree place place node.0 some can.0)
    ∙ ap (λ (rest : List LeadLine). record { number = place; leads = depth_of tree place - 1; code = node.0 } ∷ rest) (nodes-read lead tree (place + 1) nodes some can.1)

feeds-append : (front code : List ℕ) → HasNoFeed front → HasNoFeed code → HasNoFeed (front ++ code)
feeds-append front code h k = list_any-append is_line_feed front code ∙ ap (λ b. b || list_any is_line_feed code) h ∙ k

feeds-leads : (lead : List ℕ) (n : ℕ) → HasNoFeed lead → HasNoFeed (leads_text lead n)
feeds-leads lead zero h = refl
feeds-leads lead (suc n) h = feeds-append lead (leads_text lead n) h (feeds-leads lead n h)

behind-some : (front code : List ℕ) → code ≢ [] → front ++ code ≢ []
behind-some [] code some = some
behind-some (b ∷ front) code some = λ e. cc

strip-more : (b : ℕ) (line : List ℕ) → line ≢ [] → strip_carriage_return line ≡ line → strip_carriage_return (b ∷ line) ≡ b ∷ line
strip-more b [] some h = absurd (some refl)
strip-more b (c ∷ line) some h = strip-cons b c line ∙ ap (λ rest. b ∷ rest) h

strip-append : (front code : List ℕ) → code ≢ [] → strip_carriage_return code ≡ code → strip_carriage_return (front ++ code) ≡ front ++ code
strip-append [] code some h = h
strip-append (b ∷ front) code some h = strip-more b (front ++ code) (behind-some front code some) (strip-append front code some h)

lines-are : (lead : List ℕ) (tree : Tree) (place : ℕ) (nodes : Tree) → HasNoFeed lead → AllByRecursion (IsWritable lead) (codes nodes) → AllByRecursion IsLine (node_lines lead tree place nodes)
lines-are lead tree place [] h can = tt
lines-are lead tree place (node ∷ nodes) h can =
    let n = depth_of tree place - 1 in (
      record {
        no_feed = feeds-append (leads_text lead n) node.0 (feeds-leads lead n h) can.0.line.no_feed;
        no_return = strip-append (leads_text lead n) node.0 can.0.has_byte can.0.line.no_return;
      },
      lines-are lead tree (place + 1) nodes h can.1,
    )

-- the lines of the text of nodes
pub text-lines : (lead : List ℕ) (tree : Tree) (place : ℕ) (nodes : Tree) → HasNoFeed lead → AllByRecursion (IsWritable lead) (codes nodes) → lines (text_of_lines (node_lines lead tree place nodes)) ≡ node_lines lead tree place nodes
text-lines lead tree place nodes h can = read_again (node_lines lead tree place nodes) (lines-are lead tree place nodes h can)
