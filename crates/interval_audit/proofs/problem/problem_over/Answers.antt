use Rattle.std.proofs.lemmas.Grind.{common_steps}
use Rattle.std.proofs.Common.{◌≡◌, ◌∙◌, ◌*◌, ◌<◌, ℕ, List, All, length, ap, sym, subst, rules, FitsSigned, to_z, of_z, arith}
use Rattle.std.specs.Int.{w128}
use Rattle.std.proofs.lemmas.Int.{to_z-of_z}
use Rattle.interval_audit.specs.Groups.{Group, group_of, members}
use Rattle.interval_audit.specs.Columns.{entries_of}
use Rattle.interval_audit.specs.Problems.{rows_of, asked_move}
use Rattle.interval_audit.proofs.RowLists.{members_below, met_below, whole_rows, same_problem}
use Rattle.interval_audit.proofs.problem.problem_over.Goals as goal

pub push_all_caps-requires-clause-known : goal.push_all_caps-requires-clause-known
push_all_caps-requires-clause-known c =
    let group : Group = group_of c.args.of.now c.args.question.cell in
    let list : c.as_slice-list.result.now ≡ members group c.args.system.now.cells = c.as_slice-list.ensures.value ∙ c.in_ok-members.ensures in
    let all : All (λ cell. cell < length c.args.cells.now) (members group c.args.system.now.cells) = subst (λ n. All (λ cell. cell < n) (members group c.args.system.now.cells)) (sym c.requires.cells) (members_below group c.args.system.now.cells) in
    subst (λ xs. All (λ cell. cell < length c.args.cells.now) xs) (sym list) all

pub push_all_forms-requires-clause-known : goal.push_all_forms-requires-clause-known
push_all_forms-requires-clause-known c =
    let group : Group = group_of c.args.of.now c.args.question.cell in
    let list : c.as_slice-list.result.now ≡ members group c.args.system.now.cells = c.as_slice-list.ensures.value ∙ c.in_ok-members.ensures in
    let long : length c.as_mut_slice-numbers.result.now ≡ c.args.system.now.cells = search rules in
    subst (λ n. All (λ cell. cell < n) c.as_slice-list.result.now) (sym long) (subst (λ xs. All (λ cell. cell < c.args.system.now.cells) xs) (sym list) (members_below group c.args.system.now.cells))

pub push_all_forms-requires-clause-met : goal.push_all_forms-requires-clause-met
push_all_forms-requires-clause-met c =
    let relations = c.args.system.now.relations in
    subst (λ (xs : List ℕ). All (λ number. number < length relations) xs) (sym c.requires.met) (met_below (group_of c.args.of.now c.args.question.cell) relations)

pub objective_of-requires-clause-known : goal.objective_of-requires-clause-known
objective_of-requires-clause-known c =
    let group : Group = group_of c.args.of.now c.args.question.cell in
    let list : c.as_slice-list.result.now ≡ members group c.args.system.now.cells = c.as_slice-list.ensures.value ∙ c.in_ok-members.ensures in
    let long : length c.as_mut_slice-numbers.result.now ≡ c.args.system.now.cells = search rules in
    subst (λ n. All (λ cell. cell < n) c.as_slice-list.result.now) (sym (c.push_all_forms.ensures.length ∙ long)) (subst (λ xs. All (λ cell. cell < c.args.system.now.cells) xs) (sym list) (members_below group c.args.system.now.cells))

pub returns : goal.returns
returns c =
    let group : Group = group_of c.args.of.now c.args.question.cell in
    let list : c.as_slice-list.result.now ≡ members group c.args.system.now.cells = c.as_slice-list.ensures.value ∙ c.in_ok-members.ensures in
    let target : FitsSigned w128 c.args.question.target = search rules in
    let caps = c.in_ok-push_all_caps.ensures c.args.system.now group c.args.system.now.cells list in
    let forms = c.in_ok-push_all_forms.ensures.rows c.args.cells.now group list c.requires.met in
    let objective = c.in_ok-objective.ensures group c.args.system.now.cells list in
    let rows = c.new.ensures ∙ whole_rows c.args.system.now c.args.cells.now group c.as_slice-list.result.now c.new-rows.result.items c.push_all_caps.new.rows.items c.push_all_forms.new.rows.items list c.new-rows.ensures.items caps forms in
    same_problem (2 * length c.as_slice-list.result.now) (2 * length (members group c.args.system.now.cells)) c.new.result (rows_of c.args.system.now c.args.cells.now group) c.new-2.result (entries_of group c.args.system.now.cells (asked_move c.args.question.cell c.args.question.side)) (to_z w128 (of_z w128 c.args.question.target)) c.args.question.target
    (ap (λ (xs : List ℕ). 2 * length xs) list) rows (c.new-2.ensures ∙ objective) (to_z-of_z w128 c.args.question.target target)

pub push_all_forms-requires-clause-zeros : goal.push_all_forms-requires-clause-zeros
push_all_forms-requires-clause-zeros c = grind (arith, common_steps)
