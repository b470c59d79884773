use Rattle.std.proofs.lemmas.Grind.{common_steps}
use Rattle.std.proofs.Common.{◌≡◌, ℕ, ◌+◌, List, [], ◌∷◌, ◌++◌, length, drop, slice_get, Option, Some, refl, ap, sym, ◌∙◌, arith}
use Rattle.std.proofs.lemmas.Option.{slice_get_read}
use Rattle.sdc_base.specs.Trees.{codes}
use Rattle.code_trees.specs.Faults.{or_else}
use Rattle.code_trees.specs.Levels.{boundaries, codes_with_prefixes, with_prefixes, level_fault, first_level_fault}
use Rattle.code_trees.specs.declared.tree_fault.TreeFault.{TreeFault}
use Rattle.code_trees.proofs.FlatSteps.{drop-at}
use Rattle.code_trees.proofs.level_form.gather.Goals as goal

pub codes-preserved : goal.codes-preserved
codes-preserved c =
    let total = c.args.total.now in
    let bounds = boundaries 0 c.args.widths.now in
    let all = c.args.codes.now in
    let i = c.codes.code-index in
    let rest = drop (i + 1) all in
    let seen = codes c.codes.seen in
    let keys = c.codes.kept in
    let code = c.as_slice.result.now in
    let n = length c.codes.seen + 1 in
    let at : slice_get all i ≡ Some c.code-item.result = slice_get_read all (length all) i c.code-item.result refl c.codes-test.true c.code-item.is in
    let more = drop-at all i c.code-item.result at ∙ ap (λ (x : List ℕ). x ∷ rest) (sym c.as_slice.ensures) in
    let step = c.in_ok-take_code.ensures in
    let told : level_fault total bounds seen keys code n ≡ _ = ap (level_fault total bounds seen keys code) (sym c.next_number-number.ensures) ∙ step.told in
    record {
      few = step.at_most_5000;
      apart = step.apart;
      among = step.among c.codes.invariant.among;
      kept = c.codes.invariant.kept ∙ ap (codes_with_prefixes bounds keys) more ∙ ap (λ (k : List (List ℕ)). codes_with_prefixes bounds k rest) (sym step.kept);
      told = c.codes.invariant.told
          ∙ ap (first_level_fault total bounds n seen keys) more
          ∙ ap (λ (t : Option TreeFault). or_else t (first_level_fault total bounds (n + 1) (seen ++ code ∷ []) (with_prefixes bounds keys code) rest)) told
          ∙ ap (λ (m : ℕ). first_level_fault total bounds (m + 1) (seen ++ code ∷ []) (with_prefixes bounds keys code) rest) (sym step.count)
          ∙ ap (λ (s : List (List ℕ)). first_level_fault total bounds (length c.take_code.new.seen + 1) s (with_prefixes bounds keys code) rest) (sym step.seen)
          ∙ ap (λ (k : List (List ℕ)). first_level_fault total bounds (length c.take_code.new.seen + 1) (codes c.take_code.new.seen) k rest) (sym step.kept);
    }

pub returns-in_err-take_code-clause-told : goal.returns-in_err-take_code-clause-told
returns-in_err-take_code-clause-told c = grind (arith, common_steps)

pub returns-clause-told : goal.returns-clause-told
returns-clause-told c = grind (arith, common_steps)

pub returns-clause-kept : goal.returns-clause-kept
returns-clause-kept c = grind (arith, common_steps)
