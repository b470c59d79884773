use Rattle.std.proofs.Common.{◌≡◌, ◌∙◌, ℕ, get_or, length, not, arith, ap, refl}
use Rattle.rounding.proofs.PartialSteps.{read_cell, next_of}
use Rattle.rounding.proofs.SearchSteps.{go_allowed, leads_on}
use Rattle.rounding.proofs.partial.Partial.go_on.Goals as goal

pub allows-down-requires : goal.allows-down-requires
allows-down-requires c =
    let s = c.args.self.now in
    let last : c.len.result ≡ length s.steps.items = omega (arith, c.len.ensures, s.steps.ok) in
    let read = read_cell s.cells.items c.len.result c.index-cell.result.now (omega (arith, last, c.requires.room)) c.index-cell.ensures in
    let next = next_of s.bounds s.naming.items s.cells.items s.steps.items s.viable c.len.result c.index-cell.result.now c.requires.kept c.requires.room last read in
    next.inside_cells

pub choose-requires-clause-kept : goal.choose-requires-clause-kept
choose-requires-clause-kept c = c.requires.kept

pub choose-requires-clause-allowed : goal.choose-requires-clause-allowed
choose-requires-clause-allowed c =
    let s = c.args.self.now in
    let last : c.len.result ≡ length s.steps.items = omega (arith, c.len.ensures, s.steps.ok) in
    let read = read_cell s.cells.items c.len.result c.index-cell.result.now (omega (arith, last, c.requires.room)) c.index-cell.ensures in
    let next = next_of s.bounds s.naming.items s.cells.items s.steps.items s.viable c.len.result c.index-cell.result.now c.requires.kept c.requires.room last read in
    go_allowed s.bounds c.index-cell.result.now (length s.steps.items) s.cells.items c.allows-down.result (not c.allows-down.result) c.requires.kept.proper next.inside next.off (read ∙ ap (λ (k : ℕ). get_or s.cells.items k 0) last) c.allows-down.ensures refl

pub returns-clause-kept : goal.returns-clause-kept
returns-clause-kept c = c.in_ok-choose.ensures.kept

pub returns-clause-same : goal.returns-clause-same
returns-clause-same c = c.in_ok-choose.ensures.same

pub returns-clause-on : goal.returns-clause-on
returns-clause-on c =
    let s = c.args.self.now in
    let last : c.len.result ≡ length s.steps.items = omega (arith, c.len.ensures, s.steps.ok) in
    let read = read_cell s.cells.items c.len.result c.index-cell.result.now (omega (arith, last, c.requires.room)) c.index-cell.ensures in
    let next = next_of s.bounds s.naming.items s.cells.items s.steps.items s.viable c.len.result c.index-cell.result.now c.requires.kept c.requires.room last read in
    leads_on s.bounds s.naming.items s.cells.items s.steps.items c.choose.new.self.steps.items s.viable c.allows-down.result (not c.allows-down.result) c.index-cell.result.now c.requires.kept c.requires.viable next c.allows-down.ensures refl c.in_ok-choose.ensures.choices
