use Rattle.std.proofs.Common.{◌≡◌, ℕ, ◌+◌, List, [], ◌∷◌, ◌++◌, None, length, ap, sym, ◌∙◌, subst, arith}
use Rattle.sdc_base.specs.Lines.{lines}
use Rattle.plain_text.specs.Reading.{LinesView}
use Rattle.sdc_base.specs.Trees.{Tree}
use Rattle.hierarchy.specs.Lead.{lead_lines}
use Rattle.code_trees.specs.Path.{IsPath}
use Rattle.hierarchy.specs.LeadPath.{tree_with_lines}
use Rattle.code_trees.proofs.Paths.{path-total}
use Rattle.hierarchy.proofs.LeadPaths.{same-start}
use Rattle.hierarchy.proofs.lead_form.from_lead.Goals as goal

pub lines-init : goal.lines-init
lines-init c =
    let total = c.args.total.now in
    let start : Tree = (total, None) ∷ [] in
    let nodes : c.in_ok-nodes.nodes ≡ start = c.in_ok-nodes.ensures.nodes ∙ ap (λ (code : List ℕ). (code, None) ∷ []) c.as_slice.ensures in
    let items : c.push.new.self.items ≡ 0 ∷ [] = c.in_ok-push.ensures.items ∙ ap (λ (front : List ℕ). front ++ 0 ∷ []) c.new-path.ensures.items in
    let left = lead_lines c.args.lead.now 1 (lines c.args.bytes.now) in
    record {
      tree = c.in_ok-nodes.ensures.tree;
      path = subst (λ (tree : Tree). IsPath tree c.push.new.self.items) (sym nodes) (subst (IsPath start) (sym items) (path-total total));
      numbers = ap (λ (reader : LinesView). reader.given + length (lines reader.rest)) c.lines-reader.ensures.start ∙ (omega arith);
      rest = same-start total left
          ∙ ap (λ (tree : Tree). tree_with_lines tree (0 ∷ []) left) (sym nodes)
          ∙ ap (λ (path : List ℕ). tree_with_lines c.in_ok-nodes.nodes path left) (sym items)
          ∙ ap (λ (reader : LinesView). tree_with_lines c.in_ok-nodes.nodes c.push.new.self.items (lead_lines c.args.lead.now (reader.given + 1) (lines reader.rest))) (sym c.lines-reader.ensures.start);
    }

pub overflow_cast-line : goal.overflow_cast-line
overflow_cast-line c = omega (arith, c.lines-reader.ensures.no_more_than_bytes, ap length c.in-Some.ensures.text, c.in-Some.ensures.number, c.lines.invariant.numbers)
