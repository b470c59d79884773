use Rattle.std.proofs.Common.{length, ap, arith}
use Rattle.hierarchy.proofs.code_list.read_codes.Goals as goal

pub overflow_cast-line : goal.overflow_cast-line
overflow_cast-line c = omega (arith, c.lines-reader.ensures.no_more_than_bytes, ap length c.in-Some.ensures.text, c.in-Some.ensures.number, c.lines.invariant.numbers)
