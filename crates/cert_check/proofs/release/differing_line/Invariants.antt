use Rattle.std.proofs.Common.{◌≡◌, ◌+◌, ◌≤◌, drop}
use Rattle.cert_check.specs.ReleaseLines.{differing_line}
use Rattle.cert_check.proofs.release.differing_line.Given as goal

abbrev pub invariant-loop-place : goal.invariant-loop-place
invariant-loop-place l = record {
  few : l.line ≤ l.place + 1;
  rest : differing_line 1 l.one l.other ≡ differing_line l.line (drop l.place l.one) (drop l.place l.other);
}
