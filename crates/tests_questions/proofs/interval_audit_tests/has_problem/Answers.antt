use Rattle.std.proofs.Common.{◌≡◌, ℕ, ◌+◌, ◌≤◌, length, filter, not, arith, refl}
use Rattle.std.specs.List.{range_with_len}
use Rattle.std.proofs.lemmas.List.Filters.{length-filter_both}
use Rattle.std.proofs.lemmas.List.FromFn.{length-range_with_len}
use Rattle.interval_audit.specs.Groups.{Group, group_of, members}
use Rattle.tests_questions.proofs.interval_audit_tests.has_problem.Goals as goal

pub problem_of-requires-clause-within_most_members : goal.problem_of-requires-clause-within_most_members
problem_of-requires-clause-within_most_members c =
    let group : Group = group_of c.as_slice-of.result.now c.args.cell in
    let cells : ℕ = c.args.case.now.system.cells in
    let all : length (members group cells) + length (filter (λ x. not (group x)) (range_with_len 0 cells)) ≡ length (range_with_len 0 cells) = length-filter_both group (λ x. not (group x)) (λ x. refl) (range_with_len 0 cells) in
    omega (arith, all, length-range_with_len 0 cells)
