use Rattle.std.proofs.Common.{◌≡◌, None, All}
use Rattle.repair.proofs.last_worlds.no_last.Given as goal

abbrev pub invariant-questions : goal.invariant-questions
invariant-questions l = record {
  none : All (λ last. last ≡ None) l.worlds.items;
}
