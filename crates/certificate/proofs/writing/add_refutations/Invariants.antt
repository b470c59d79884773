use Rattle.std.proofs.Common.{◌≡◌, ◌++◌, take, flat_map}
use Rattle.std.specs.List.{AllByRecursion}
use Rattle.certificate.specs.Spelling.{IsRefutationWithinTypes}
use Rattle.certificate.specs.Texts.{line_text, refutation_tokens}
use Rattle.certificate.proofs.writing.add_refutations.Given as goal

abbrev pub invariant-all : goal.invariant-all
invariant-all l = record {
  text : l.text ≡ l.fn.text ++ flat_map (λ refuted. line_text (refutation_tokens l.word refuted)) (take l.refuted-index l.all);
  wide : AllByRecursion IsRefutationWithinTypes (take l.refuted-index l.all);
}
