-- The rules look at no more contributions than they say.
use Rattle.std.proofs.Common.{◌≡◌, ℕ, ◌≤◌, max, List, [], ◌∷◌, fold, arith, refl, ap}
use Rattle.sdc_base.specs.RuleLevels.{Figures, is_sensitive_by, wanted_level, upper_of, level_of, keep_of, looks_at, figures_of_facts, figures_in}
use Rattle.sdc_base.specs.Trees.{Tree}
use Rattle.sdc_base.specs.Records.{Name}
use Rattle.sdc_base.specs.Largest.{contributions}
use Rattle.sdc_base.specs.declared.rows.Row.{Row}
use Rattle.sdc_base.specs.declared.facts.CellFacts.{CellFacts}
use Rattle.sdc_base.specs.declared.rule.Rule.{Rule}
use Rattle.sdc_base.specs.declared.rule.Rule.TheVariants as rule
use Rattle.sdc_base.proofs.Reordering.{tells_largest}
use Rattle.primary_rules.specs.EnoughForRules.{AreFactsOf, AgreeUpTo, KeptAreEnough}

from_start : (most : ℕ) (rules : List Rule) → most ≤ fold (λ most one. max most (looks_at one)) most rules
from_start most [] = omega arith
from_start most (one ∷ rules) = omega (arith, from_start (max most (looks_at one)) rules)

-- one rule says the same of both
same_names : (kept : ℕ) (one : Rule) (cell other : Figures) → 2 ≤ kept → looks_at one ≤ kept → AgreeUpTo kept cell other → is_sensitive_by one cell ≡ is_sensitive_by one other
same_names kept (rule.Freq n r) cell other two looks same = ap (λ f. is_sensitive_by (rule.Freq n r) (record cell { freq = f })) same.freq
same_names kept (rule.Nk n k) cell other two looks same = rw (same.truth, same.largest n looks) refl
same_names kept (rule.Percent p) cell other two looks same = rw (same.truth, same.largest 1 (omega arith), same.largest 2 two) refl
same_names kept (rule.Pq p q) cell other two looks same = rw (same.truth, same.largest 1 (omega arith), same.largest 2 two) refl
same_names kept (rule.Zero r) cell other two looks same = rw (same.truth, same.freq) refl

same_wanted : (kept : ℕ) (one : Rule) (cell other : Figures) → 2 ≤ kept → looks_at one ≤ kept → AgreeUpTo kept cell other → wanted_level one cell ≡ wanted_level one other
same_wanted kept (rule.Freq n r) cell other two looks same = rw same.truth refl
same_wanted kept (rule.Nk n k) cell other two looks same = rw (same.truth, same.largest n looks) refl
same_wanted kept (rule.Percent p) cell other two looks same = rw (same.truth, same.largest 1 (omega arith), same.largest 2 two) refl
same_wanted kept (rule.Pq p q) cell other two looks same = rw (same.truth, same.largest 1 (omega arith), same.largest 2 two) refl
same_wanted kept (rule.Zero r) cell other two looks same = refl

same_upper : (kept most : ℕ) (rules : List Rule) (cell other : Figures) → 2 ≤ most → fold (λ most one. max most (looks_at one)) most rules ≤ kept → AgreeUpTo kept cell other → upper_of rules cell ≡ upper_of rules other
same_upper kept most [] cell other two enough same = refl
same_upper kept most (one ∷ rules) cell other two enough same =
    let next : ℕ = max most (looks_at one) in
    let start : next ≤ fold (λ most one. max most (looks_at one)) next rules = from_start next rules in
    let rest : upper_of rules cell ≡ upper_of rules other = same_upper kept next rules cell other (omega arith) enough same in
    let naming : is_sensitive_by one cell ≡ is_sensitive_by one other = same_names kept one cell other (omega arith) (omega arith) same in
    let wanting : wanted_level one cell ≡ wanted_level one other = same_wanted kept one cell other (omega arith) (omega arith) same in
    rw (naming, wanting, rest) refl

pub same_levels : (kept : ℕ) (rules : List Rule) (cell other : Figures) → keep_of rules ≤ kept → AgreeUpTo kept cell other → level_of rules cell ≡ level_of rules other
same_levels kept rules cell other enough same = rw (same_upper kept 2 rules cell other (omega arith) enough same, same.truth) refl

pub kept_are_enough : KeptAreEnough
kept_are_enough rules cell other same = same_levels (keep_of rules) rules cell other (omega arith) same

pub facts_agree : (facts : CellFacts) (trees : List Tree) (name : Name) (rows : List Row) → AreFactsOf facts trees name rows → AgreeUpTo facts.tops.keep (figures_of_facts facts) (figures_in trees name rows facts.tops.scale)
facts_agree facts trees name rows are = record {
  truth = are.truth;
  freq = are.freq;
  largest = λ n few. tells_largest n (contributions trees name rows) facts.tops are.tops facts.tops.heavy few;
}
