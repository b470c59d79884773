use Rattle.std.proofs.Common.{◌≡◌}
use Rattle.interval_audit.specs.Groups.{group_of}
use Rattle.interval_audit.specs.Problems.{problem_of}
use Rattle.interval_audit.proofs.asking.walk_on.Given as goal

abbrev pub invariant-walk : goal.invariant-walk
invariant-walk l = record {
  problem : l.tableau.problem ≡ problem_of l.inquiry.pattern.system.now l.inquiry.pattern.cells.now (group_of l.inquiry.of.now l.inquiry.question.cell) l.inquiry.question;
  improved : l.tableau.improved ≡ l.made;
}
