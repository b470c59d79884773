use Rattle.std.proofs.Common.{◌<◌, length, arith, refl}
use Rattle.std.proofs.lemmas.Option.{slice_get_read}
use Rattle.rounding.proofs.bounds.Bounds.fixed_cell.Goals as goal

pub returns-clause-inside : goal.returns-clause-inside
returns-clause-inside c =
    let s = c.self.inside in
    let below : c.args.place < length s.fixes.items = rw (← c.self.view_is) at c.requires in
    let free = c.self.invariant.free c.args.place c.index.result.now (slice_get_read s.fixes.items (length s.fixes.items) c.args.place c.index.result.now refl below c.index.ensures) in
    rw (← c.self.view_is) (omega (arith, free.inside, c.self.invariant.proper.each))
