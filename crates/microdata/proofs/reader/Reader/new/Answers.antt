use Rattle.std.proofs.Common.{refl, arith}
use Rattle.microdata.proofs.SeenFirst.{variables-sound, as-many}
use Rattle.microdata.proofs.reader.Reader.new.Goals as goal

pub invariant_of-result : goal.invariant_of-result
invariant_of-result c = rw (c.new.ensures, c.in_ok-variables.ensures, c.new-2.ensures.items) (
  record {
    numbers = c.requires.measures;
    variables = variables-sound c.args.layout.needed c.args.layout.spanning c.requires.fields;
    at_most_8_variables = omega (arith, c.requires.at_most_8_spanning, as-many c.args.layout.spanning);
    records = omega arith;
    skipped = omega arith;
  },
  refl,
  refl,
)
