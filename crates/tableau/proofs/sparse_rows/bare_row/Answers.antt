use Rattle.std.proofs.Common.{List, ap, sym, subst, ◌∙◌}
use Rattle.sdc_base.specs.Forms.{Term, coefficient}
use Rattle.tableau.specs.Entries.{IsSparse}
use Rattle.tableau.proofs.OwnRows.{last_of, bare_is, bare_same}
use Rattle.tableau.proofs.sparse_rows.bare_row.Goals as goal

pub returns-clause-sparse : goal.returns-clause-sparse
returns-clause-sparse c =
    let last = last_of c.args.width c.args.entries.now c.requires.sparse c.requires.above in
    subst (λ (t : List Term). IsSparse 0 c.args.width t) (sym (bare_is c.args.width c.args.entries.now last)) last.sparse

pub returns-clause-same : goal.returns-clause-same
returns-clause-same c v below =
    let last = last_of c.args.width c.args.entries.now c.requires.sparse c.requires.above in
    ap (λ (t : List Term). coefficient t v) (bare_is c.args.width c.args.entries.now last) ∙ bare_same c.args.width v c.args.entries.now last below
