use Rattle.std.proofs.Common.{◌≡◌, [], ◌∷◌, sym, ◌∙◌}
use Rattle.hierarchy.specs.Lead.{LeadLine, lead_line}
use Rattle.hierarchy.proofs.LeadSteps.{read-ok, line-split, line-by-leads, line-by-code, code-there}
use Rattle.hierarchy.proofs.lead_form.read_line.Goals.{else-leads-eq0-via-then-leads-eq0+else-is_empty, else-leads-eq0-via-else-leads-eq0}
use Rattle.hierarchy.proofs.lead_form.read_line.Goals as goal

pub returns-clause-ok : goal.returns-clause-ok
returns-clause-ok c =
    let line : LeadLine = record { number = c.args.number; leads = c.split_leads-leads.result.0; code = c.trim-code.result.now } in
    let split = line-split c.args.lead.now c.args.line.now c.args.number c.split_leads-leads.result.0 c.split_leads-leads.result.1.now c.trim-code.result.now c.split_leads-leads.ensures.leads c.split_leads-leads.ensures.rest c.trim-code.ensures.value in
    let here : lead_line c.args.lead.now c.args.number c.args.line.now ≡ line ∷ [] = elim c.else-leads-eq0.branch [
      | else-leads-eq0-via-then-leads-eq0+else-is_empty w ↦ split ∙ line-by-code c.args.number c.split_leads-leads.result.0 c.trim-code.result.now (code-there c.trim-code.result.now (sym w.is_empty.ensures ∙ w.if-is_empty.false))
      | else-leads-eq0-via-else-leads-eq0 w ↦ split ∙ line-by-leads c.args.number c.split_leads-leads.result.0 c.trim-code.result.now w.if-leads-eq0.false
    ] in
    read-ok c.add_line.result c.args.nodes.now c.add_line.new.nodes c.args.path.now.items c.add_line.new.path.items line _ here c.requires.path.has_total c.add_line.ensures.told c.add_line.ensures.grows c.add_line.ensures.next
