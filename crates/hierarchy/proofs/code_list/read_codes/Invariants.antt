use Rattle.std.proofs.Common.{◌≡◌, ◌+◌, ◌∷◌, length}
use Rattle.sdc_base.specs.Lines.{lines}
use Rattle.sdc_base.specs.Trees.{codes}
use Rattle.hierarchy.specs.CodeList.{codes_of, codes_listed}
use Rattle.hierarchy.proofs.code_list.read_codes.Given as goal

abbrev pub invariant-lines : goal.invariant-lines
invariant-lines l = record {
  known : codes l.known ≡ l.total ∷ l.kept.items;
  numbers : l.reader.given + length (lines l.reader.rest) ≡ length (lines l.bytes);
  rest : codes_of l.total l.bytes ≡ codes_listed l.total (l.reader.given + 1) l.kept.items (lines l.reader.rest);
}

abbrev pub decreases-lines : goal.decreases-lines
decreases-lines l = length (lines l.reader.rest)
