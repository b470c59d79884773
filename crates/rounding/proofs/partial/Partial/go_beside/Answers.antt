use Rattle.std.proofs.Common.{◌≡◌, ◌∙◌, ℕ, false, true, get_or, length, arith, ap, sym, subst, refl}
use Rattle.rounding.specs.Fixes.{allows}
use Rattle.rounding.specs.PartialLists.{choices_of}
use Rattle.rounding.proofs.PartialSteps.{read_cell, next_of}
use Rattle.rounding.proofs.SearchSteps.{leads_back, leads_up, leads_past, leads_beside, leads_end, same_then}
use Rattle.rounding.proofs.partial.Partial.go_beside.Goals as goal

pub back-init : goal.back-init
back-init c =
    let s = c.args.self.now in
    record {
      kept = c.requires.kept;
      same = refl;
      leads = leads_back s.bounds s.naming.items s.cells.items s.steps.items s.viable c.requires.kept c.requires.barred;
    }

pub take_back-requires : goal.take_back-requires
take_back-requires c = c.back.invariant.kept

pub returns-in_default-clause-kept : goal.returns-in_default-clause-kept
returns-in_default-clause-kept c = λ clash. absurd (let no : false ≡ true = clash in cc)

pub returns-in_default-clause-same : goal.returns-in_default-clause-same
returns-in_default-clause-same c = λ clash. absurd (let no : false ≡ true = clash in cc)

pub returns-in_default-clause-on : goal.returns-in_default-clause-on
returns-in_default-clause-on c = λ clash. absurd (let no : false ≡ true = clash in cc)

pub returns-in_default-clause-end : goal.returns-in_default-clause-end
returns-in_default-clause-end c = λ _. leads_end c.args.self.now.bounds c.back.self.steps.items (choices_of c.args.self.now.steps.items) c.in_default.ensures.none c.back.invariant.leads

pub back-preserved-then-up : goal.back-preserved-then-up
back-preserved-then-up c =
    let first = c.args.self.now.bounds in
    let q = c.take_back.new.self in
    record {
      kept = c.in-Some.ensures.kept;
      same = same_then first c.back.self.bounds q.bounds c.back.invariant.same c.in-Some.ensures.same;
      leads = leads_up first (choices_of c.args.self.now.steps.items) (choices_of c.back.self.steps.items) (choices_of q.steps.items) c.in-Some.up c.in-Some.ensures.last_choice c.if-up.true c.back.invariant.leads;
    }

pub allows-other-requires : goal.allows-other-requires
allows-other-requires c =
    let first = c.args.self.now.bounds in
    let q = c.take_back.new.self in
    let last : c.len.result ≡ length q.steps.items = omega (arith, c.len.ensures, q.steps.ok) in
    let read = read_cell q.cells.items c.len.result c.index-cell.result.now (omega (arith, last, c.in-Some.ensures.room)) c.index-cell.ensures in
    let next = next_of q.bounds q.naming.items q.cells.items q.steps.items q.viable c.len.result c.index-cell.result.now c.in-Some.ensures.kept c.in-Some.ensures.room last read in
    next.inside_cells

pub back-preserved : goal.back-preserved
back-preserved c =
    let first = c.args.self.now.bounds in
    let q = c.take_back.new.self in
    let last : c.len.result ≡ length q.steps.items = omega (arith, c.len.ensures, q.steps.ok) in
    let read = read_cell q.cells.items c.len.result c.index-cell.result.now (omega (arith, last, c.in-Some.ensures.room)) c.index-cell.ensures in
    let next = next_of q.bounds q.naming.items q.cells.items q.steps.items q.viable c.len.result c.index-cell.result.now c.in-Some.ensures.kept c.in-Some.ensures.room last read in
    let same = same_then first c.back.self.bounds q.bounds c.back.invariant.same c.in-Some.ensures.same in
    record {
      kept = c.in-Some.ensures.kept;
      same = same;
      leads = leads_past first q.bounds q.naming.items q.cells.items q.steps.items q.viable c.in-Some.up (choices_of c.args.self.now.steps.items) (choices_of c.back.self.steps.items) c.index-cell.result.now c.in-Some.ensures.kept same next c.in-Some.ensures.last_choice c.if-up.false c.if-not-other.ensures c.back.invariant.leads;
    }

pub choose-requires-clause-kept : goal.choose-requires-clause-kept
choose-requires-clause-kept c = c.in-Some.ensures.kept

pub choose-requires-clause-viable : goal.choose-requires-clause-viable
choose-requires-clause-viable c = c.in-Some.ensures.viable

pub choose-requires-clause-room : goal.choose-requires-clause-room
choose-requires-clause-room c = c.in-Some.ensures.room

pub choose-requires-clause-allowed : goal.choose-requires-clause-allowed
choose-requires-clause-allowed c =
    let first = c.args.self.now.bounds in
    let q = c.take_back.new.self in
    let last : c.len.result ≡ length q.steps.items = omega (arith, c.len.ensures, q.steps.ok) in
    let read = read_cell q.cells.items c.len.result c.index-cell.result.now (omega (arith, last, c.in-Some.ensures.room)) c.index-cell.ensures in
    let next = next_of q.bounds q.naming.items q.cells.items q.steps.items q.viable c.len.result c.index-cell.result.now c.in-Some.ensures.kept c.in-Some.ensures.room last read in
    subst (λ (cell : ℕ). allows q.bounds cell true ≡ true) (read ∙ ap (λ (k : ℕ). get_or q.cells.items k 0) last) (sym c.if-not-other.ensures)

pub returns-in-back-clause-kept : goal.returns-in-back-clause-kept
returns-in-back-clause-kept c = λ _. c.in_ok-choose.ensures.kept

pub returns-in-back-clause-same : goal.returns-in-back-clause-same
returns-in-back-clause-same c = λ _.
    let first = c.args.self.now.bounds in
    let q = c.take_back.new.self in
    same_then first q.bounds c.choose.new.self.bounds (same_then first c.back.self.bounds q.bounds c.back.invariant.same c.in-Some.ensures.same) c.in_ok-choose.ensures.same

pub returns-in-back-clause-on : goal.returns-in-back-clause-on
returns-in-back-clause-on c = λ _.
    leads_beside c.args.self.now.bounds c.take_back.new.self.steps.items c.choose.new.self.steps.items c.in-Some.up (choices_of c.args.self.now.steps.items) (choices_of c.back.self.steps.items) c.in-Some.ensures.last_choice c.if-up.false c.in_ok-choose.ensures.choices c.back.invariant.leads

pub returns-in-back-clause-end : goal.returns-in-back-clause-end
returns-in-back-clause-end c = λ clash. absurd (let no : true ≡ false = clash in cc)
