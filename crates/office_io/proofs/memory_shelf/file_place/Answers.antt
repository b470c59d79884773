use Rattle.std.proofs.Common.{refl, sym, ◌∙◌}
use Rattle.office_io.proofs.Places.{found_first}
use Rattle.office_io.proofs.memory_shelf.file_place.Goals as goal

pub returns-then-equals-clause-has_name : goal.returns-then-equals-clause-has_name
returns-then-equals-clause-has_name c = found_first _ _ c.loop-i.i _ c.loop-i-test.true c.index-files-i.is c.loop-i.invariant (sym c.equals.ensures.value ∙ c.if-equals.true) (c.if-equals.ensures.same.0 refl)
