use Rattle.std.proofs.Common.{◌≡◌, ◌∙◌, ◌≤◌, ℕ, List, Option, length, ap, sym, subst, refl, arith, rules, Fits, w32}
use Rattle.sdc_base.specs.Components.{AreComponents}
use Rattle.sdc_base.specs.ComponentRows.{lists_in, rows_of}
use Rattle.interval_audit.specs.declared.answer.Answer.{Answer}
use Rattle.interval_audit.specs.Answers.{IsWalkAnswerIn, IsWalkAnswer}
use Rattle.interval_audit.specs.Groups.{Group, IsComponentOf, group_of, members, most_members}
use Rattle.interval_audit.proofs.ComponentLists.{known_list, many_rows}
use Rattle.interval_audit.proofs.CutOff.{if_ample}
use Rattle.interval_audit.proofs.ProblemSizes.{ample_for_size}
use Rattle.interval_audit.specs.WalkLimits.{IsWalkAnswerWithin, IsAnswerWithin}
use Rattle.interval_audit.proofs.Connected.{components_are_groups}
use Rattle.interval_audit.proofs.SameGroups.{group_is}
use Rattle.interval_audit.proofs.QuestionAnswers.{if_ok_more}
use Rattle.interval_audit.proofs.OwnGroup.{if_caused}
use Rattle.interval_audit.proofs.Proper.{rank-most}
use Rattle.interval_audit.proofs.asking.ask_walk.Goals as goal

pub rows_of-requires : goal.rows_of-requires
rows_of-requires c = record { components = (c.args.hidden.now.flags, c.requires.asked.ground.each_flag, c.in_ok-grouping.ensures) }

pub list_of-met-requires : goal.list_of-met-requires
list_of-met-requires c =
    let relations = c.args.system.now.relations in
    let flags = c.args.hidden.now.flags in
    let sizes = c.in_ok-grouping.grouping.sizes in
    let of : List (Option ℕ) = c.as_slice-of.result.now in
    let are : AreComponents relations flags of sizes = subst (λ (of : List (Option ℕ)). AreComponents relations flags of sizes) (sym c.as_slice-of.ensures) c.in_ok-grouping.ensures in
    let long : length c.as_slice-rows.result.now ≡ length sizes = many_rows c.as_slice-rows.result.now relations c.in_ok-grouping.grouping.of (length sizes) (ap lists_in c.as_slice-rows.ensures.value ∙ c.in_ok-lists.ensures) in
    record { known = known_list relations flags of sizes c.args.question.cell are (length c.as_slice-rows.result.now) long }

pub invariant_of-inquiry : goal.invariant_of-inquiry
invariant_of-inquiry c =
    let of : List (Option ℕ) = c.as_slice-of.result.now in
    let are : AreComponents c.args.system.now.relations c.args.hidden.now.flags of c.in_ok-grouping.grouping.sizes =
    subst (λ (of : List (Option ℕ)). AreComponents c.args.system.now.relations c.args.hidden.now.flags of c.in_ok-grouping.grouping.sizes) (sym c.as_slice-of.ensures) c.in_ok-grouping.ensures in
    let size : c.len-size.result ≡ length c.in_ok-members.members.items = search rules in
    record {
      met_are = c.list_of-met.ensures c.args.system.now.relations (length c.in_ok-grouping.grouping.sizes)
          (ap lists_in c.as_slice-rows.ensures.value ∙ c.in_ok-lists.ensures ∙ ap (λ (of : List (Option ℕ)). rows_of c.args.system.now.relations of (length c.in_ok-grouping.grouping.sizes)) (sym c.as_slice-of.ensures));
      within_most_members = omega (arith, size, ap (λ (xs : List ℕ). length xs) c.in_ok-members.ensures, c.if-size-gt-MOST_MEMBERS.false);
      group = components_are_groups c.args.system.now c.args.hidden.now.flags of c.in_ok-grouping.grouping.sizes c.args.question.cell c.requires.asked.ground.each_flag are c.requires.asked.hidden;
    }

pub overflow_cast-result : goal.overflow_cast-result
overflow_cast-result c =
    let group : Group = group_of c.as_slice-of.result.now c.args.question.cell in
    let fits : Fits w32 c.args.system.now.cells = search rules in
    let size : c.len-size.result ≡ length c.in_ok-members.members.items = search rules in
    omega (arith, fits, size, ap (λ (xs : List ℕ). length xs) c.in_ok-members.ensures, rank-most group c.args.system.now.cells)

pub returns-then-size-gt-MOST_MEMBERS-clause-cause : goal.returns-then-size-gt-MOST_MEMBERS-clause-cause
returns-then-size-gt-MOST_MEMBERS-clause-cause c =
    let of : List (Option ℕ) = c.as_slice-of.result.now in
    let are : AreComponents c.args.system.now.relations c.args.hidden.now.flags of c.in_ok-grouping.grouping.sizes =
    subst (λ (of : List (Option ℕ)). AreComponents c.args.system.now.relations c.args.hidden.now.flags of c.in_ok-grouping.grouping.sizes) (sym c.as_slice-of.ensures) c.in_ok-grouping.ensures in
    let own : IsComponentOf c.args.system.now.relations c.args.hidden.now.flags c.args.question.cell (group_of of c.args.question.cell) = group_is c.args.system.now.relations c.args.hidden.now.flags of c.in_ok-grouping.grouping.sizes c.args.question.cell are c.requires.asked.hidden in
    let size : c.len-size.result ≡ length c.in_ok-members.members.items = search rules in
    (group_of of c.args.question.cell, own, (refl, size ∙ ap (λ (xs : List ℕ). length xs) c.in_ok-members.ensures, c.if-size-gt-MOST_MEMBERS.true))

pub returns-clause-read : goal.returns-clause-read
returns-clause-read c =
    let of : List (Option ℕ) = c.as_slice-of.result.now in
    let are : AreComponents c.args.system.now.relations c.args.hidden.now.flags of c.in_ok-grouping.grouping.sizes =
    subst (λ (of : List (Option ℕ)). AreComponents c.args.system.now.relations c.args.hidden.now.flags of c.in_ok-grouping.grouping.sizes) (sym c.as_slice-of.ensures) c.in_ok-grouping.ensures in
    let own : IsComponentOf c.args.system.now.relations c.args.hidden.now.flags c.args.question.cell (group_of of c.args.question.cell) = group_is c.args.system.now.relations c.args.hidden.now.flags of c.in_ok-grouping.grouping.sizes c.args.question.cell are c.requires.asked.hidden in
    let size : c.len-size.result ≡ length c.in_ok-members.members.items = search rules in
    let few : length (members (group_of of c.args.question.cell) c.args.system.now.cells) ≤ most_members = omega (arith, size, ap (λ (xs : List ℕ). length xs) c.in_ok-members.ensures, c.if-size-gt-MOST_MEMBERS.false) in
    if_ok_more (λ (answer : Answer). IsWalkAnswerIn c.args.system.now c.args.cells.now (group_of of c.args.question.cell) c.args.question answer)
    (λ (answer : Answer). IsWalkAnswer c.args.system.now c.args.cells.now c.args.hidden.now.flags c.args.question answer)
    c.walk_on.result (λ answer is. (group_of of c.args.question.cell, own, few, is)) c.walk_on.ensures.read

pub returns-clause-cause : goal.returns-clause-cause
returns-clause-cause c =
    let of : List (Option ℕ) = c.as_slice-of.result.now in
    let are : AreComponents c.args.system.now.relations c.args.hidden.now.flags of c.in_ok-grouping.grouping.sizes =
    subst (λ (of : List (Option ℕ)). AreComponents c.args.system.now.relations c.args.hidden.now.flags of c.in_ok-grouping.grouping.sizes) (sym c.as_slice-of.ensures) c.in_ok-grouping.ensures in
    let own : IsComponentOf c.args.system.now.relations c.args.hidden.now.flags c.args.question.cell (group_of of c.args.question.cell) = group_is c.args.system.now.relations c.args.hidden.now.flags of c.in_ok-grouping.grouping.sizes c.args.question.cell are c.requires.asked.hidden in
    if_caused c.args.system.now c.args.cells.now c.args.hidden.now.flags (group_of of c.args.question.cell) c.args.question c.args.limit c.walk_on.result own c.requires.no_signs c.walk_on.ensures.cause

pub returns-clause-short : goal.returns-clause-short
returns-clause-short c = λ ample.
    let of : List (Option ℕ) = c.as_slice-of.result.now in
    let are : AreComponents c.args.system.now.relations c.args.hidden.now.flags of c.in_ok-grouping.grouping.sizes =
    subst (λ (of : List (Option ℕ)). AreComponents c.args.system.now.relations c.args.hidden.now.flags of c.in_ok-grouping.grouping.sizes) (sym c.as_slice-of.ensures) c.in_ok-grouping.ensures in
    let own : IsComponentOf c.args.system.now.relations c.args.hidden.now.flags c.args.question.cell (group_of of c.args.question.cell) = group_is c.args.system.now.relations c.args.hidden.now.flags of c.in_ok-grouping.grouping.sizes c.args.question.cell are c.requires.asked.hidden in
    if_ample c.args.system.now c.args.cells.now (group_of of c.args.question.cell) c.args.question c.args.limit c.walk_on.result (ample (group_of of c.args.question.cell) own) c.walk_on.ensures.short

pub returns-clause-size : goal.returns-clause-size
returns-clause-size c = λ ample.
    let of : List (Option ℕ) = c.as_slice-of.result.now in
    let are : AreComponents c.args.system.now.relations c.args.hidden.now.flags of c.in_ok-grouping.grouping.sizes =
    subst (λ (of : List (Option ℕ)). AreComponents c.args.system.now.relations c.args.hidden.now.flags of c.in_ok-grouping.grouping.sizes) (sym c.as_slice-of.ensures) c.in_ok-grouping.ensures in
    let own : IsComponentOf c.args.system.now.relations c.args.hidden.now.flags c.args.question.cell (group_of of c.args.question.cell) = group_is c.args.system.now.relations c.args.hidden.now.flags of c.in_ok-grouping.grouping.sizes c.args.question.cell are c.requires.asked.hidden in
    if_ample c.args.system.now c.args.cells.now (group_of of c.args.question.cell) c.args.question c.args.limit c.walk_on.result
    (ample_for_size c.args.system.now c.args.cells.now (group_of of c.args.question.cell) c.args.question c.args.limit (ample (group_of of c.args.question.cell) own)) c.walk_on.ensures.short

pub returns-clause-made : goal.returns-clause-made
returns-clause-made c =
    let of : List (Option ℕ) = c.as_slice-of.result.now in
    let are : AreComponents c.args.system.now.relations c.args.hidden.now.flags of c.in_ok-grouping.grouping.sizes =
    subst (λ (of : List (Option ℕ)). AreComponents c.args.system.now.relations c.args.hidden.now.flags of c.in_ok-grouping.grouping.sizes) (sym c.as_slice-of.ensures) c.in_ok-grouping.ensures in
    let own : IsComponentOf c.args.system.now.relations c.args.hidden.now.flags c.args.question.cell (group_of of c.args.question.cell) = group_is c.args.system.now.relations c.args.hidden.now.flags of c.in_ok-grouping.grouping.sizes c.args.question.cell are c.requires.asked.hidden in
    if_ok_more (λ (answer : Answer). IsWalkAnswerWithin c.args.system.now c.args.cells.now (group_of of c.args.question.cell) c.args.question c.args.limit answer)
    (λ (answer : Answer). IsAnswerWithin c.args.system.now c.args.cells.now c.args.hidden.now.flags c.args.question c.args.limit answer)
    c.walk_on.result (λ answer is. (group_of of c.args.question.cell, own, is)) c.walk_on.ensures.made
