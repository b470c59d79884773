use Rattle.std.proofs.Common.{◌≡◌, ◌<◌, ◌*◌, ◌+◌, ◌-◌, ℕ, List, length, All, pos, ap, sym, subst, rules, arith, ℤ, ◌≤ℤ◌, FitsSigned, IfOk}
use Rattle.std.specs.Int.{w128}
use Rattle.std.proofs.lemmas.Int.{to_z-of_z}
use Rattle.tableau.specs.Readings.{slacks_of}
use Rattle.interval_audit.specs.WalkStates.{state_of, IsAtOptimum}
use Rattle.worlds.specs.declared.multipliers.Multipliers.{Multipliers}
use Rattle.interval_audit.specs.Groups.{Group, group_of}
use Rattle.interval_audit.specs.Labels.{labels, met_relations, multiplier}
use Rattle.interval_audit.specs.LowestTerms.{AreLowestTermsOf}
use Rattle.interval_audit.specs.Readings.{nonzero_terms, AreMultipliersOf}
use Rattle.interval_audit.proofs.QuestionAnswers.{HasSlacks, has_slacks, slacks_long, slacks_few, multipliers_by_place, all_if_ok}
use Rattle.interval_audit.proofs.finish.multipliers_of.Goals as goal

pub overflow_sub-caps-2 : goal.overflow_sub-caps-2
overflow_sub-caps-2 c =
    let group : Group = group_of c.args.inquiry.now.of.now c.args.inquiry.now.question.cell in
    let has : HasSlacks c.args.inquiry.now.pattern.system.now c.args.inquiry.now.pattern.cells.now group (slacks_of c.args.tableau.now.problem c.args.tableau.now.table) c.requires.stuck.weights = has_slacks c.args.inquiry.now.pattern.system.now c.args.inquiry.now.pattern.cells.now group c.args.inquiry.now.question (state_of c.args.tableau.now) c.requires.problem c.requires.stuck in
    let long = slacks_long c.args.inquiry.now.pattern.system.now c.args.inquiry.now.pattern.cells.now group (slacks_of c.args.tableau.now.problem c.args.tableau.now.table) c.requires.stuck.weights has in
    let slacks : c.slacks-slacks.result.now ≡ (slacks_of c.args.tableau.now.problem c.args.tableau.now.table) = c.slacks-slacks.ensures.slacks in
    let list : c.args.inquiry.now.met.now ≡ met_relations group c.args.inquiry.now.pattern.system.now.relations = c.args.inquiry.now.met_are in
    omega (arith, long, ap (λ (xs : List ℤ). length xs) slacks, ap (λ (xs : List ℕ). length xs) list)

pub read_multipliers-requires-clause-fewer_than_2_32 : goal.read_multipliers-requires-clause-fewer_than_2_32
read_multipliers-requires-clause-fewer_than_2_32 c =
    let group : Group = group_of c.args.inquiry.now.of.now c.args.inquiry.now.question.cell in
    let has : HasSlacks c.args.inquiry.now.pattern.system.now c.args.inquiry.now.pattern.cells.now group (slacks_of c.args.tableau.now.problem c.args.tableau.now.table) c.requires.stuck.weights = has_slacks c.args.inquiry.now.pattern.system.now c.args.inquiry.now.pattern.cells.now group c.args.inquiry.now.question (state_of c.args.tableau.now) c.requires.problem c.requires.stuck in
    subst (λ (xs : List ℤ). length xs < 4294967296) (sym c.slacks-slacks.ensures.slacks) (slacks_few c.args.inquiry.now.pattern.system.now c.args.inquiry.now.pattern.cells.now group (slacks_of c.args.tableau.now.problem c.args.tableau.now.table) c.requires.stuck.weights c.args.inquiry.now.within_most_members has)

pub read_multipliers-requires-clause-from_zero : goal.read_multipliers-requires-clause-from_zero
read_multipliers-requires-clause-from_zero c =
    let group : Group = group_of c.args.inquiry.now.of.now c.args.inquiry.now.question.cell in
    let has : HasSlacks c.args.inquiry.now.pattern.system.now c.args.inquiry.now.pattern.cells.now group (slacks_of c.args.tableau.now.problem c.args.tableau.now.table) c.requires.stuck.weights = has_slacks c.args.inquiry.now.pattern.system.now c.args.inquiry.now.pattern.cells.now group c.args.inquiry.now.question (state_of c.args.tableau.now) c.requires.problem c.requires.stuck in
    subst (λ (xs : List ℤ). All (λ slack. pos 0 ≤ℤ slack) xs) (sym c.slacks-slacks.ensures.slacks) has.from_zero

pub read_multipliers-requires-clause-long : goal.read_multipliers-requires-clause-long
read_multipliers-requires-clause-long c =
    let group : Group = group_of c.args.inquiry.now.of.now c.args.inquiry.now.question.cell in
    let has : HasSlacks c.args.inquiry.now.pattern.system.now c.args.inquiry.now.pattern.cells.now group (slacks_of c.args.tableau.now.problem c.args.tableau.now.table) c.requires.stuck.weights = has_slacks c.args.inquiry.now.pattern.system.now c.args.inquiry.now.pattern.cells.now group c.args.inquiry.now.question (state_of c.args.tableau.now) c.requires.problem c.requires.stuck in
    let long = slacks_long c.args.inquiry.now.pattern.system.now c.args.inquiry.now.pattern.cells.now group (slacks_of c.args.tableau.now.problem c.args.tableau.now.table) c.requires.stuck.weights has in
    let list : c.args.inquiry.now.met.now ≡ met_relations group c.args.inquiry.now.pattern.system.now.relations = c.args.inquiry.now.met_are in
    omega (arith, long, ap (λ (xs : List ℤ). length xs) c.slacks-slacks.ensures.slacks, ap (λ (xs : List ℕ). length xs) list)

pub returns : goal.returns
returns c =
    let group : Group = group_of c.args.inquiry.now.of.now c.args.inquiry.now.question.cell in
    let list : c.args.inquiry.now.met.now ≡ met_relations group c.args.inquiry.now.pattern.system.now.relations = c.args.inquiry.now.met_are in
    let slacks : c.slacks-slacks.result.now ≡ (slacks_of c.args.tableau.now.problem c.args.tableau.now.table) = c.slacks-slacks.ensures.slacks in
    let fits : FitsSigned w128 c.den.result = search rules in
    let has : (ended : IsAtOptimum (state_of c.args.tableau.now)) → HasSlacks c.args.inquiry.now.pattern.system.now c.args.inquiry.now.pattern.cells.now group c.slacks-slacks.result.now ended.weights =
    (λ ended. subst (λ (xs : List ℤ). HasSlacks c.args.inquiry.now.pattern.system.now c.args.inquiry.now.pattern.cells.now group xs ended.weights) (sym slacks) (has_slacks c.args.inquiry.now.pattern.system.now c.args.inquiry.now.pattern.cells.now group c.args.inquiry.now.question (state_of c.args.tableau.now) c.requires.problem ended)) in
    let long = slacks_long c.args.inquiry.now.pattern.system.now c.args.inquiry.now.pattern.cells.now group c.slacks-slacks.result.now c.requires.stuck.weights (has c.requires.stuck) in
    let whole : length c.slacks-slacks.result.now - 1 - 2 * length c.args.inquiry.now.met.now + 2 * length c.args.inquiry.now.met.now + 1 ≡ length c.slacks-slacks.result.now = omega (arith, long, ap (λ (xs : List ℕ). length xs) list) in
    let Read : IsAtOptimum (state_of c.args.tableau.now) → Multipliers → Type 0 = λ ended read. AreLowestTermsOf c.den.result (nonzero_terms (multiplier ended.weights (labels c.args.inquiry.now.pattern.system.now.relations c.args.inquiry.now.pattern.cells.now group c.args.inquiry.now.pattern.system.now.cells)) c.args.inquiry.now.met.now) read.den read.by_relation in
    let told : (ended : IsAtOptimum (state_of c.args.tableau.now)) → IfOk c.read_multipliers.result (Read ended) =
    (λ ended. (simp to_z-of_z at (c.read_multipliers.ensures (multiplier ended.weights (labels c.args.inquiry.now.pattern.system.now.relations c.args.inquiry.now.pattern.cells.now group c.args.inquiry.now.pattern.system.now.cells))
    (multipliers_by_place c.args.inquiry.now.pattern.system.now c.args.inquiry.now.pattern.cells.now group c.slacks-slacks.result.now ended.weights c.args.inquiry.now.met.now (length c.slacks-slacks.result.now - 1 - 2 * length c.args.inquiry.now.met.now) (has ended) list whole)))) in
    all_if_ok (IsAtOptimum (state_of c.args.tableau.now)) Read (λ ended read. AreMultipliersOf c.args.inquiry.now.pattern.system.now c.args.inquiry.now.pattern.cells.now group c.args.tableau.now.table.den ended.weights read) c.read_multipliers.result
    (λ ended read is. subst (λ d. AreLowestTermsOf d (nonzero_terms (multiplier ended.weights (labels c.args.inquiry.now.pattern.system.now.relations c.args.inquiry.now.pattern.cells.now group c.args.inquiry.now.pattern.system.now.cells)) (met_relations group c.args.inquiry.now.pattern.system.now.relations)) read.den read.by_relation) c.den.ensures.den
    (subst (λ xs. AreLowestTermsOf c.den.result (nonzero_terms (multiplier ended.weights (labels c.args.inquiry.now.pattern.system.now.relations c.args.inquiry.now.pattern.cells.now group c.args.inquiry.now.pattern.system.now.cells)) xs) read.den read.by_relation) list is))
    told
