-- What a cell is rests on no more of its largest contributions than the rules look at.
use Rattle.std.proofs.Common.{◌≡◌, ◌≤◌, ◌==◌, ◌||◌, ℕ, suc, List, [], ◌∷◌, length, map, fold, cond, Option, None, Some, option_map, ℤ, refl, ap, sym, subst, ◌∙◌, arith}
use Rattle.std.specs.Prelude.{All, slice_get, is_some, unwrap_or, pos}
use Rattle.std.specs.List.{zip}
use Rattle.std.proofs.lemmas.List.Elements.{All-head, All-tail}
use Rattle.sdc_base.specs.Records.{Name}
use Rattle.sdc_base.specs.RuleLevels.{Figures, figures_of_facts, figures_in, level_of, keep_of, manual_of}
use Rattle.sdc_base.specs.Trees.{Tree}
use Rattle.sdc_base.specs.declared.cell.Kind.TheVariants.{Primary, Fixed, Free}
use Rattle.sdc_base.specs.declared.facts.Levels.{Levels}
use Rattle.sdc_base.specs.declared.rows.Row.{Row}
use Rattle.sdc_base.specs.declared.rule.Rules.{Rules}
use Rattle.primary_rules.proofs.KeptFigures.{same_levels, facts_agree}
use Rattle.primary_rules.specs.EnoughForRules.{AreFactsOf, AgreeUpTo}
use Rattle.linked_tables.specs.declared.mark.Mark.{Mark}
use Rattle.apriori.specs.declared.prior.Prior.{Prior}
use Rattle.apriori.specs.declared.prior.Status.{Status}
use Rattle.apriori.specs.declared.prior.Status.TheVariants.{Unsafe, Safe}
use Rattle.apriori.specs.Faults.{LineOf}
use Rattle.apriori.specs.Settling.{SettledCell, settled_cell, low_of, high_of, told_of, figures_of, AreFactsIn, IsReadyFor, settle_of}
use Rattle.apriori.specs.PrimaryShown.{clash_of, first_of}
use Rattle.apriori.specs.CellLevels.{wider_levels, rule_levels, levels_in_force}

-- the cells of two lists agree up to so many of their largest contributions
abbrev pub AgreeAll : ℕ → List Figures → List Figures → Type 0
AgreeAll kept [] [] = Unit {0}
AgreeAll kept [] (other ∷ others) = ⊥
AgreeAll kept (cell ∷ cells) [] = ⊥
AgreeAll kept (cell ∷ cells) (other ∷ others) = AgreeUpTo kept cell other × AgreeAll kept cells others

same-rules : (rules : Rules) (cell other : Figures) (status : Option Status) → AgreeUpTo (keep_of rules.list) cell other → rule_levels rules cell status ≡ rule_levels rules other status
same-rules rules cell other (Some Unsafe) agree =
    let named = same_levels (keep_of rules.list) rules.list cell other (omega arith) agree in
    ap (λ (truth : ℤ). Some (wider_levels (manual_of rules.man truth) (level_of rules.list cell))) agree.truth ∙ ap (λ (levels : Option Levels). Some (wider_levels (manual_of rules.man other.truth) levels)) named
same-rules rules cell other (Some Safe) agree = refl
same-rules rules cell other None agree = same_levels (keep_of rules.list) rules.list cell other (omega arith) agree

-- what a cell is, from its truth, its number of records and its levels by the rules
settled-with : ℤ → ℕ → Option Levels → Prior → SettledCell
settled-with truth freq by-rules prior =
    let levels : Option Levels = option_map (levels_in_force truth prior.levels) by-rules in
    record {
      truth = truth;
      low = low_of prior.bounds;
      high = high_of prior.bounds;
      up = (unwrap_or levels (record { up = pos 0; down = pos 0 })).up;
      down = (unwrap_or levels (record { up = pos 0; down = pos 0 })).down;
      kind = cond (is_some levels) Primary (cond ((freq == 0) || is_some prior.keep) Fixed Free);
      price = prior.price;
    }

settled-is : (rules : Rules) (cell : Figures) (prior : Prior) → settled_cell rules cell prior ≡ settled-with cell.truth cell.freq (rule_levels rules cell prior.status) prior
unfolding settled-with
settled-is rules cell prior = refl

same-settled : (rules : Rules) (cell other : Figures) (prior : Prior) → AgreeUpTo (keep_of rules.list) cell other → settled_cell rules cell prior ≡ settled_cell rules other prior
same-settled rules cell other prior agree =
    settled-is rules cell prior
    ∙ ap (λ (truth : ℤ). settled-with truth cell.freq (rule_levels rules cell prior.status) prior) agree.truth
    ∙ ap (λ (freq : ℕ). settled-with other.truth freq (rule_levels rules cell prior.status) prior) agree.freq
    ∙ ap (λ (levels : Option Levels). settled-with other.truth other.freq levels prior) (same-rules rules cell other prior.status agree)
    ∙ sym (settled-is rules other prior)

same-clash : (rules : Rules) (cell other : Figures) (prior : Prior) → AgreeUpTo (keep_of rules.list) cell other → clash_of rules cell prior ≡ clash_of rules other prior
same-clash rules cell other prior agree =
    ap (λ (truth : ℤ). cond (is_some (option_map (levels_in_force truth prior.levels) (rule_levels rules cell prior.status))) prior.keep None) agree.truth
    ∙ ap (λ (levels : Option Levels). cond (is_some (option_map (levels_in_force other.truth prior.levels) levels)) prior.keep None) (same-rules rules cell other prior.status agree)

same-cells : (rules : Rules) (cells others : List Figures) (priors : List Prior) → AgreeAll (keep_of rules.list) cells others
    → map (λ (cell : Figures × Prior). settled_cell rules cell.0 cell.1) (zip cells priors) ≡ map (λ (cell : Figures × Prior). settled_cell rules cell.0 cell.1) (zip others priors)
same-cells rules [] [] priors agree = refl
same-cells rules [] (other ∷ others) priors agree = absurd agree
same-cells rules (cell ∷ cells) [] priors agree = absurd agree
same-cells rules (cell ∷ cells) (other ∷ others) [] agree = refl
same-cells rules (cell ∷ cells) (other ∷ others) (prior ∷ priors) agree =
    ap (λ (x : SettledCell). x ∷ map (λ (pair : Figures × Prior). settled_cell rules pair.0 pair.1) (zip cells priors)) (same-settled rules cell other prior agree.0)
    ∙ ap (λ (xs : List SettledCell). settled_cell rules other prior ∷ xs) (same-cells rules cells others priors agree.1)

same-clashes : (rules : Rules) (cells others : List Figures) (priors : List Prior) (first : Option LineOf) → AgreeAll (keep_of rules.list) cells others
    → fold (λ first (cell : Figures × Prior). first_of first (clash_of rules cell.0 cell.1)) first (zip cells priors) ≡ fold (λ first (cell : Figures × Prior). first_of first (clash_of rules cell.0 cell.1)) first (zip others priors)
same-clashes rules [] [] priors first agree = refl
same-clashes rules [] (other ∷ others) priors first agree = absurd agree
same-clashes rules (cell ∷ cells) [] priors first agree = absurd agree
same-clashes rules (cell ∷ cells) (other ∷ others) [] first agree = refl
same-clashes rules (cell ∷ cells) (other ∷ others) (prior ∷ priors) first agree =
    ap (λ (clash : Option LineOf). fold (λ first (pair : Figures × Prior). first_of first (clash_of rules pair.0 pair.1)) (first_of first clash) (zip cells priors)) (same-clash rules cell other prior agree.0)
    ∙ same-clashes rules cells others priors (first_of first (clash_of rules other prior)) agree.1

-- cells that agree are settled alike
pub settle-agrees : (rules : Rules) (cells others : List Figures) (priors : List Prior) → AgreeAll (keep_of rules.list) cells others → settle_of rules cells priors ≡ settle_of rules others priors
unfolding settle_of
settle-agrees rules cells others priors agree = rw (same-clashes rules cells others priors None agree, same-cells rules cells others priors agree) refl

less : (kept more : ℕ) (cell other : Figures) → kept ≤ more → AgreeUpTo more cell other → AgreeUpTo kept cell other
less kept more cell other small agree = record { truth = agree.truth; freq = agree.freq; largest = λ n h. agree.largest n (omega (arith, small, h)) }

-- the figures that marks tell agree with those of the records
pub told-agrees : (rules : Rules) (marks : List Mark) (trees : List Tree) (names : List Name) (rows : List Row) (scale : ℕ) → length names ≡ length marks
    → ((cell : ℕ) (name : Name) (mark : Mark) → slice_get names cell ≡ Some name → slice_get marks cell ≡ Some mark → AreFactsOf mark.facts trees name rows × (mark.facts.tops.scale ≡ scale))
    → All (IsReadyFor rules) marks → AgreeAll (keep_of rules.list) (told_of marks) (figures_of trees names rows scale)
told-agrees rules [] trees [] rows scale many each ready = tt
told-agrees rules [] trees (name ∷ names) rows scale many each ready = absurd (omega (arith, many))
told-agrees rules (mark ∷ marks) trees [] rows scale many each ready = absurd (omega (arith, many))
told-agrees rules (mark ∷ marks) trees (name ∷ names) rows scale many each ready =
    let here = each 0 name mark refl refl in
    let kept = (All-head (IsReadyFor rules) mark marks ready).kept in
    let one = less (keep_of rules.list) mark.facts.tops.keep (figures_of_facts mark.facts) (figures_in trees name rows mark.facts.tops.scale) kept (facts_agree mark.facts trees name rows here.0) in (
      subst (λ (n : ℕ). AgreeUpTo (keep_of rules.list) (figures_of_facts mark.facts) (figures_in trees name rows n)) here.1 one,
      told-agrees rules marks trees names rows scale (omega (arith, many)) (λ cell n m at holds. each (suc cell) n m at holds) (All-tail (IsReadyFor rules) mark marks ready),
    )

-- so cells are settled by their records
pub settled-by-records : (rules : Rules) (marks : List Mark) (trees : List Tree) (names : List Name) (rows : List Row) (scale : ℕ) (priors : List Prior) → AreFactsIn marks trees names rows scale → All (IsReadyFor rules) marks
    → settle_of rules (told_of marks) priors ≡ settle_of rules (figures_of trees names rows scale) priors
settled-by-records rules marks trees names rows scale priors facts ready =
    settle-agrees rules (told_of marks) (figures_of trees names rows scale) priors (told-agrees rules marks trees names rows scale facts.one_each facts.each ready)
