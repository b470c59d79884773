use Rattle.std.proofs.Common.{◌≡◌, length}
use Rattle.certificate.specs.Certificates.{items_from}
use Rattle.certificate.proofs.LineSteps.{with_items}
use Rattle.certificate.proofs.line_kind.read_items.Given as goal

abbrev pub invariant-lines : goal.invariant-lines
invariant-lines g l =
    let word = g.K.LineKind.word l.kind in
    let meaning = g.K.LineKind.meaning l.kind in
    with_items l.items (items_from word meaning l.reader.given l.reader.lines) ≡ items_from word meaning l.fn.reader.given l.fn.reader.lines

abbrev pub decreases-lines : goal.decreases-lines
decreases-lines g l = length l.reader.lines
