use Rattle.std.proofs.Common.{◌≡◌, [], ◌++◌, take, flat_map}
use Rattle.std.specs.List.{AllByRecursion}
use Rattle.certificate.specs.declared.version.Version.TheVariants.{Two}
use Rattle.certificate.specs.Spelling.{IsWorldWithinTypes}
use Rattle.certificate.specs.Texts.{line_text, world_tokens}
use Rattle.certificate.proofs.writing.add_worlds.Given as goal

abbrev pub invariant-worlds : goal.invariant-worlds
invariant-worlds l = record {
  text : l.text ≡ l.fn.text ++ flat_map (λ line. line_text (world_tokens l.word Two [] line)) (take l.line-index l.worlds);
  wide : AllByRecursion IsWorldWithinTypes (take l.line-index l.worlds);
}
