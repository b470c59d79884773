use Rattle.std.proofs.Common.{◌≡◌, false, map, sym, ◌∙◌, rules}
use Rattle.certificate.specs.Numerals.{ascends}
use Rattle.std.specs.Int.{w128}
use Rattle.std.proofs.lemmas.Int.{to_z-of_z}
use Rattle.certificate.proofs.ExtraEntries.{need_reads, need_disordered}
use Rattle.certificate.proofs.extra_lines.need_by.Goals as goal

pub returns : goal.returns
returns c =
    rw (to_z-of_z w128 c.in_ok-den.den (search rules))
    (need_reads c.args.subject.now c.args.row.now c.args.cell.now c.args.side.now c.args.den.now c.args.pairs.now _ _ _ _ _ _ (search rules) (search rules) (search rules) (search rules) (search rules)
    (search rules) c.in_ok-by_relation.ensures (search rules))

pub returns-then-not-are_ascending : goal.returns-then-not-are_ascending
returns-then-not-are_ascending c =
    let disorder : ascends (map (λ term. term.0) c.in_ok-by_relation.by_relation) ≡ false = rw (← c.as_slice.ensures) (sym c.are_ascending.ensures ∙ c.if-not-are_ascending.true) in
    need_disordered c.args.subject.now c.args.row.now c.args.cell.now c.args.side.now c.args.den.now c.args.pairs.now c.in_ok-side.side c.in_ok-subject.subject c.in_ok-row.row c.in_ok-cell.cell c.in_ok-den.den _ (search rules) (search rules) (search rules) (search rules) (search rules)
    (search rules) c.in_ok-by_relation.ensures (search rules)
