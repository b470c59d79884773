use Rattle.std.proofs.Common.{◌≡◌, ◌<◌, Bool, List, Some, arith, length, slice_get, slice_index_or, subst}
use Rattle.std.proofs.lemmas.Option.{slice_get-get_or}
use Rattle.sdc_base.specs.declared.cell.Cell.{Cell}
use Rattle.interval_audit.specs.declared.answer.Answer.{Answer}
use Rattle.interval_audit.specs.Ends.{IsTrueEnd, IsWholeEnd}
use Rattle.rounding_audit.specs.EndValues.{IsEndValue}
use Rattle.rounding_audit.specs.Readers.{all_hidden}
use Rattle.rounding_audit.proofs.Ending.{audited_end, reached_never, truth_few}
use Rattle.rounding_audit.proofs.auditing.end_from.Goals as goal

pub unreachable-requires : goal.unreachable-requires
unreachable-requires c =
    let r = c.args.reader.now in
    let value = subst (λ (flags : List Bool). IsEndValue r.system.now r.known.now flags c.args.number c.args.side c.args.value) r.flags c.requires.value in
    let told = subst (λ (flags : List Bool). IsTrueEnd r.system.now r.known.now flags c.args.number c.args.side c.args.answer) r.flags c.requires.end in
    let end = subst (λ (answer : Answer). IsTrueEnd r.system.now r.known.now (all_hidden r.system.now.cells) c.args.number c.args.side answer) c.in-Reaches.is told in
    reached_never r.system.now r.cells.now r.values.now r.base r.known.now c.args.number value.0 c.args.side end.0 c.in-Reaches.field-0 r.known_are value.1 (truth_few r.known.now c.args.number value.0 value.1 r.truths) end.1 end.2

pub returns-clause-right : goal.returns-clause-right
returns-clause-right c =
    let r = c.args.reader.now in
    let s = c.in-Stops in
    let value = subst (λ (flags : List Bool). IsEndValue r.system.now r.known.now flags c.args.number c.args.side c.args.value) r.flags c.requires.value in
    let told = subst (λ (flags : List Bool). IsTrueEnd r.system.now r.known.now flags c.args.number c.args.side c.args.answer) r.flags c.requires.end in
    let end = subst (λ (answer : Answer). IsTrueEnd r.system.now r.known.now (all_hidden r.system.now.cells) c.args.number c.args.side answer) s.is told in
    let cell : Cell = slice_index_or r.cells.now c.args.number c.index-reader-number.result in
    let inside : c.args.number < length r.cells.now = omega (arith, c.requires.inside, r.each_cell) in
    let own : slice_get r.cells.now c.args.number ≡ Some cell = slice_get-get_or r.cells.now c.args.number c.index-reader-number.result inside in
    audited_end r.system.now r.cells.now r.values.now r.base r.known.now c.args.number cell value.0 c.args.side end.0 s.best s.world s.multipliers c.args.value c.reaches-covered.result r.known_are own value.1 end.1 end.2 value.2 c.reaches-covered.ensures

pub returns-clause-whole : goal.returns-clause-whole
returns-clause-whole c = λ whole one.
    let r = c.args.reader.now in
    let own = subst (λ (answer : Answer). IsWholeEnd r.system.now r.known.now r.hidden.now.flags c.args.number c.args.side answer) c.in-Stops.is whole in
    record { value = one; world = own.1.whole }
