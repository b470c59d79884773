use Rattle.std.proofs.Common.{List, length, subst, ◌∙◌, arith}
use Rattle.std.specs.Int.{w128}
use Rattle.std.proofs.lemmas.Int.{to_z-of_z}
use Rattle.sdc_base.specs.declared.relation.Relation.{Relation}
use Rattle.sdc_base.specs.Systems.{HoldOn, number_at}
use Rattle.rounding_audit.specs.ReaderFaults.{AreRoundedBelow, IsFirstBroken}
use Rattle.rounding_audit.proofs.Adjacent.{all_from_zero}
use Rattle.rounding_audit.proofs.reading.reader_cells.Goals as goal

pub first_broken-requires-clause-from_zero : goal.first_broken-requires-clause-from_zero
first_broken-requires-clause-from_zero c =
    let rounded = subst (λ b. AreRoundedBelow c.args.cells.now c.args.values.now b (length c.args.cells.now)) (to_z-of_z w128 c.args.base c.ranges.base) c.in_default.ensures.none in
    all_from_zero c.args.cells.now c.args.values.now c.args.base c.requires.from_one c.requires.each_value rounded

pub returns-in-Some-first_broken-clause-fault : goal.returns-in-Some-first_broken-clause-fault
returns-in-Some-first_broken-clause-fault c = record {
  rounded = subst (λ b. AreRoundedBelow c.args.cells.now c.args.values.now b (length c.args.cells.now)) (to_z-of_z w128 c.args.base c.ranges.base) c.in_default.ensures.none;
  first = subst (λ (relations : List Relation). IsFirstBroken relations c.args.values.now c.in-Some-first_broken.number) c.as_slice.ensures c.in-Some-first_broken.ensures.first;
}

pub returns-clause-rounded : goal.returns-clause-rounded
returns-clause-rounded c =
    let rounded = subst (λ b. AreRoundedBelow c.args.cells.now c.args.values.now b (length c.args.cells.now)) (to_z-of_z w128 c.args.base c.ranges.base) c.in_default.ensures.none in
    λ ok. record {
      each = c.requires.each_value ∙ c.requires.each_cell;
      adjacent = λ number inside. rounded number (omega (arith, inside, c.requires.each_cell));
      hold = subst (HoldOn (number_at c.args.values.now)) c.as_slice.ensures c.in_default-first_broken.ensures.none;
    }

pub first_unrounded-requires-clause-fewer_than_2_32 : goal.first_unrounded-requires-clause-fewer_than_2_32
first_unrounded-requires-clause-fewer_than_2_32 c = omega (arith, c.requires.each_cell, c.args.system.now.below_2_32)
