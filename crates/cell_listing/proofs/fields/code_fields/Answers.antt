use Rattle.std.proofs.Common.{append-nil, arith, sym, ◌∙◌}
use Rattle.cell_listing.proofs.Codes.{codes_end}
use Rattle.cell_listing.proofs.fields.code_fields.Goals as goal

pub returns-in_default : goal.returns-in_default
returns-in_default c =
    let fields = c.variables.fields in
    sym (append-nil fields) ∙ sym (codes_end c.args.book.now.trees c.args.name.now c.variables.variable fields (omega (arith, c.in_default.ensures.lookup.3))) ∙ c.variables.invariant
