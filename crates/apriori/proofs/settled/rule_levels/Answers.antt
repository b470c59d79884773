use Rattle.std.proofs.Common.{◌≡◌, rules, subst, sym, ◌∙◌}
use Rattle.std.specs.Int.{w128}
use Rattle.std.specs.Prelude.{FitsSigned}
use Rattle.std.proofs.lemmas.Int.{to_z-of_z}
use Rattle.sdc_base.specs.declared.facts.Levels.{Levels}
use Rattle.apriori.specs.CellLevels.{AreOpen}
use Rattle.apriori.proofs.Open.{wider_open}
use Rattle.apriori.proofs.settled.rule_levels.Goals as goal

pub returns-in-Some-Unsafe-clause-open : goal.returns-in-Some-Unsafe-clause-open
returns-in-Some-Unsafe-clause-open c = λ x h.
    let is : c.wider_levels.result ≡ x = cc in
    let fits : FitsSigned w128 c.args.facts.now.truth = search rules in
    let made = c.manual.ensures.levels in
    let made = simp to_z-of_z at made in
    subst (λ (levels : Levels). AreOpen c.args.facts.now.truth levels) (sym c.wider_levels.ensures ∙ is)
    (wider_open c.args.facts.now.truth c.manual.result c.level.result made c.level.ensures.levels)
