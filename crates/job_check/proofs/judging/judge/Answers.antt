use Rattle.std.proofs.Common.{◌≤ℤ◌, ◌≤◌, List, length, pos, refl, ap, sym, ◌∙◌, subst, arith}
use Rattle.sdc_base.specs.RuleLevels.{keep_of}
use Rattle.sdc_base.specs.declared.cell.Cell.{Cell}
use Rattle.sdc_base.specs.declared.rows.Row.{Row}
use Rattle.attackers.specs.Alone.{TellFrequencies}
use Rattle.modular_plan.specs.Methods.{passes_of}
use Rattle.modular_plan.specs.Plans.{trail_of}
use Rattle.job_inputs.proofs.Units.{held}
use Rattle.job_check.proofs.CaseParts.{can-be-judged}
use Rattle.job_check.proofs.GuardedParts.{hides-where}
use Rattle.job_check.proofs.Judgements.{as-released}
use Rattle.job_check.proofs.SameBook.{still-tells}
use Rattle.job_check.proofs.judging.judge.Goals as goal

pub judge_case-requires-clause-is_case : goal.judge_case-requires-clause-is_case
judge_case-requires-clause-is_case c =
    let base = c.base_in_units.ensures in
    can-be-judged c.args.read.now c.as_slice.result.now c.requires c.as_slice.ensures c.as_slice-2.ensures c.in_ok-system.ensures.cells c.trail_for.ensures.same c.in_ok-trail.ensures.corners refl
    (c.as_slice-3.ensures ∙ c.in_ok-names.ensures) c.as_slice-5.ensures (subst (λ z. pos 1 ≤ℤ z) (sym (held c.base_in_units.result base.from_one base.at_most)) base.from_one)

pub judge_case-requires-clause-hides : goal.judge_case-requires-clause-hides
judge_case-requires-clause-hides c =
    hides-where c.args.read.now.job.described.job.method c.args.read.now.job.described.job.contributors c.args.read.now.extra c.requires.job.sound.job.contributors c.requires.extra

pub judge_case-requires-clause-told : goal.judge_case-requires-clause-told
judge_case-requires-clause-told c =
    let job = c.args.read.now.job in
    subst (λ (rows : List Row). TellFrequencies c.trail_for.new.book rows) (sym c.as_slice-4.ensures)
    (still-tells job.book c.trail_for.new.book job.rows (keep_of job.described.job.rules.list) job.described.bound.scale c.trail_for.ensures.same c.requires.job.told)

pub judge_case-requires-clause-fewer_than_2_32 : goal.judge_case-requires-clause-fewer_than_2_32
judge_case-requires-clause-fewer_than_2_32 c =
    let few : length c.args.read.now.job.rows ≤ 1000000 = c.requires.job.at_most_1000000 in
    omega (arith, ap length c.as_slice-4.ensures, few)

pub returns-clause-judged : goal.returns-clause-judged
returns-clause-judged c = λ released is.
    let job = c.args.read.now.job in
    let base = c.base_in_units.ensures in
    let units = held c.base_in_units.result base.from_one base.at_most in
    as-released released c.args.read.now _ c.judge_case.result c.as_slice-5.ensures is
    (c.judge_case.ensures released.settled (record {
      job = job;
      job_is = is.settled;
      book = c.trail_for.ensures.same;
      system = record { cells = c.in_ok-system.ensures.cells; relations = c.in_ok-system.ensures.exact };
      cells = c.as_slice-2.ensures;
      trail = c.in_ok-trail.ensures.trail ∙ ap (λ (cells : List Cell). trail_of job.book cells job.described.job.cost (passes_of job.described.job.method)) c.as_slice.ensures;
      method = refl;
      base = units ∙ base.base;
      names = c.as_slice-3.ensures ∙ c.in_ok-names.ensures;
      decimals = refl;
    }) (c.as_slice-4.ensures ∙ is.settled.rows))
