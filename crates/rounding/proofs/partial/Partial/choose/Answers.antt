use Rattle.std.proofs.Common.{◌≡◌, ◌∙◌, ℕ, List, true, get_or, length, arith, ap, sym, subst}
use Rattle.rounding.specs.Namings.{IsNaming}
use Rattle.rounding.specs.Tasks.{IsProper}
use Rattle.rounding.specs.Fixes.{FixedCells, allows}
use Rattle.rounding.specs.PartialLists.{Step, choices_of}
use Rattle.rounding.proofs.NamingSteps.{listed_at}
use Rattle.rounding.proofs.PartialSteps.{read_cell, next_of, choices_more, partial_on, taken_ready, taken_from, on_same}
use Rattle.rounding.proofs.partial.Partial.choose.Goals as goal

pub index-requires : goal.index-requires
index-requires c =
    let s = c.args.self.now in
    let last : c.len.result ≡ length s.steps.items = omega (arith, c.len.ensures, s.steps.ok) in
    let read = read_cell s.cells.items c.len.result c.index-cell.result.now (omega (arith, last, c.requires.room)) c.index-cell.ensures in
    let next = next_of s.bounds s.naming.items s.cells.items s.steps.items s.viable c.len.result c.index-cell.result.now c.requires.kept c.requires.room last read in
    omega (arith, next.inside_naming, s.naming.ok)

pub take_side-requires-clause-cell : goal.take_side-requires-clause-cell
take_side-requires-clause-cell c =
    let s = c.args.self.now in
    let last : c.len.result ≡ length s.steps.items = omega (arith, c.len.ensures, s.steps.ok) in
    let read = read_cell s.cells.items c.len.result c.index-cell.result.now (omega (arith, last, c.requires.room)) c.index-cell.ensures in
    let next = next_of s.bounds s.naming.items s.cells.items s.steps.items s.viable c.len.result c.index-cell.result.now c.requires.kept c.requires.room last read in
    next.inside_cells

pub take_side-requires-clause-unrounded : goal.take_side-requires-clause-unrounded
take_side-requires-clause-unrounded c =
    let s = c.args.self.now in
    let last : c.len.result ≡ length s.steps.items = omega (arith, c.len.ensures, s.steps.ok) in
    let read = read_cell s.cells.items c.len.result c.index-cell.result.now (omega (arith, last, c.requires.room)) c.index-cell.ensures in
    let next = next_of s.bounds s.naming.items s.cells.items s.steps.items s.viable c.len.result c.index-cell.result.now c.requires.kept c.requires.room last read in
    next.off

pub take_side-requires-clause-proper : goal.take_side-requires-clause-proper
take_side-requires-clause-proper c = c.requires.kept.proper

pub take_side-requires-clause-allowed : goal.take_side-requires-clause-allowed
take_side-requires-clause-allowed c =
    let s = c.args.self.now in
    let last : c.len.result ≡ length s.steps.items = omega (arith, c.len.ensures, s.steps.ok) in
    let read = read_cell s.cells.items c.len.result c.index-cell.result.now (omega (arith, last, c.requires.room)) c.index-cell.ensures in
    let next = next_of s.bounds s.naming.items s.cells.items s.steps.items s.viable c.len.result c.index-cell.result.now c.requires.kept c.requires.room last read in
    subst (λ (cell : ℕ). allows s.bounds cell c.args.up ≡ true) (sym (read ∙ ap (λ (k : ℕ). get_or s.cells.items k 0) last)) c.requires.allowed

pub take_side-requires-clause-naming : goal.take_side-requires-clause-naming
take_side-requires-clause-naming c =
    let s = c.args.self.now in
    let last : c.len.result ≡ length s.steps.items = omega (arith, c.len.ensures, s.steps.ok) in
    let read = read_cell s.cells.items c.len.result c.index-cell.result.now (omega (arith, last, c.requires.room)) c.index-cell.ensures in
    let next = next_of s.bounds s.naming.items s.cells.items s.steps.items s.viable c.len.result c.index-cell.result.now c.requires.kept c.requires.room last read in
    listed_at s.bounds.system s.naming.items c.index-cell.result.now c.index.result.now c.as_slice-named.result.now c.requires.kept.listed next.inside_cells c.index.ensures c.as_slice-named.ensures

pub propagate-requires-clause-proper : goal.propagate-requires-clause-proper
propagate-requires-clause-proper c = subst (λ (a : FixedCells). IsProper a.system a.truths a.base) (sym c.in_ok-take_side.ensures.grown) c.requires.kept.proper

pub propagate-requires-clause-naming : goal.propagate-requires-clause-naming
propagate-requires-clause-naming c =
    subst (λ (lists : List (List ℕ)). IsNaming c.take_side.new.self.system lists) (sym c.as_slice.ensures.value) (subst (λ (a : FixedCells). IsNaming a.system c.args.self.now.naming.items) (sym c.in_ok-take_side.ensures.grown) c.requires.kept.listed)

pub propagate-requires-clause-from : goal.propagate-requires-clause-from
propagate-requires-clause-from c = taken_from c.args.self.now.bounds c.take_side.new.self c.index-cell.result.now c.args.up c.fix_count-mark.result c.fix_count-mark.ensures.value c.in_ok-take_side.ensures

pub propagate-requires-clause-ready : goal.propagate-requires-clause-ready
propagate-requires-clause-ready c = taken_ready c.args.self.now.bounds c.take_side.new.self c.index-cell.result.now c.args.up c.fix_count-mark.result c.fix_count-mark.ensures.value (c.requires.kept.hold c.requires.viable) c.in_ok-take_side.ensures

pub returns-clause-kept : goal.returns-clause-kept
returns-clause-kept c =
    let s = c.args.self.now in
    let last : c.len.result ≡ length s.steps.items = omega (arith, c.len.ensures, s.steps.ok) in
    let read = read_cell s.cells.items c.len.result c.index-cell.result.now (omega (arith, last, c.requires.room)) c.index-cell.ensures in
    let next = next_of s.bounds s.naming.items s.cells.items s.steps.items s.viable c.len.result c.index-cell.result.now c.requires.kept c.requires.room last read in
    partial_on s.bounds c.take_side.new.self c.propagate.new.bounds s.naming.items s.cells.items s.steps.items c.push.new.self.items s.viable c.in_ok-viable.viable c.args.up c.fix_count-mark.result c.index-cell.result.now
    c.requires.kept c.requires.viable c.requires.room next c.in_ok-push.ensures.items c.fix_count-mark.ensures.value c.in_ok-take_side.ensures c.in_ok-viable.ensures.forced c.in_ok-viable.ensures.hold c.in_ok-viable.ensures.none

pub returns-clause-same : goal.returns-clause-same
returns-clause-same c = on_same c.args.self.now.bounds c.take_side.new.self c.propagate.new.bounds c.index-cell.result.now c.args.up c.in_ok-take_side.ensures c.in_ok-viable.ensures.forced

pub returns-clause-choices : goal.returns-clause-choices
returns-clause-choices c = ap (λ (steps : List Step). choices_of steps) c.in_ok-push.ensures.items ∙ choices_more c.args.self.now.steps.items (c.args.up, c.fix_count-mark.result)
