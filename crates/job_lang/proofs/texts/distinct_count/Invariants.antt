use Rattle.std.proofs.Common.{◌≡◌, ◌+◌, ◌≤◌, drop}
use Rattle.std.specs.Set.{distinct_count}
use Rattle.std.specs.Str.{bytes_eq}
use Rattle.job_lang.proofs.texts.distinct_count.Given as goal

abbrev pub invariant-loop-k : goal.invariant-loop-k
invariant-loop-k l = (l.count + distinct_count bytes_eq (drop l.k l.texts) ≡ distinct_count bytes_eq l.texts) × (l.count ≤ l.k)
