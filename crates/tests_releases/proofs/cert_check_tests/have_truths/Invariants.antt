use Rattle.std.proofs.Common.{◌≡◌, map, drop}
use Rattle.tests_releases.proofs.cert_check_tests.have_truths.Given as goal

abbrev pub invariant-loop-k : goal.invariant-loop-k
invariant-loop-k l = map (λ mark. mark.facts.truth) (drop l.k l.marks) ≡ map (λ cell. cell.truth) (drop l.k l.cells) → map (λ mark. mark.facts.truth) l.marks ≡ map (λ cell. cell.truth) l.cells
