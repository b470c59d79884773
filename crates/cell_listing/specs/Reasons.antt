-- What makes a cell what it is to its protection: the rules that name it, and a statement of the office (own).
use Rattle.std.specs.Prelude.{ℕ, ◌==◌, ◌&&◌, List, [], ◌∷◌, length, map, filter, codes, if◌then◌else◌}
use Rattle.sdc_base.specs.Kinds.{is_primary}
use Rattle.sdc_base.specs.RuleLevels.{Figures, is_sensitive_by}
use Rattle.sdc_base.specs.declared.cell.Kind.{Kind}
use Rattle.sdc_base.specs.declared.cell.Kind.TheVariants.{Primary, Free, Fixed}
use Rattle.sdc_base.specs.declared.rule.Rule.{Rule}
use Rattle.sdc_base.specs.declared.rule.Rule.TheVariants as rule

-- the word of a kind
abbrev pub kind_word : Kind → List ℕ
kind_word Primary = codes "primary"
kind_word Free = codes "free"
kind_word Fixed = codes "fixed"

-- the word of a rule, as a job has it
abbrev pub rule_word : Rule → List ℕ
rule_word (rule.Freq n r) = codes "FREQ"
rule_word (rule.Nk n k) = codes "NK"
rule_word (rule.Percent p) = codes "P"
rule_word (rule.Pq p q) = codes "PQ"
rule_word (rule.Zero r) = codes "ZERO"

-- the words of the rules that name a cell with these figures, in the order of the job
abbrev pub naming_words : List Rule → Figures → List (List ℕ)
naming_words rules figures = map rule_word (filter (λ one. is_sensitive_by one figures) rules)

-- `u` for a cell that is primary though no rule names it. Not: for each that is declared unsafe.
abbrev pub with_stated : Kind → List (List ℕ) → List (List ℕ)
with_stated kind words = if is_primary kind && (length words == 0) then codes "u" ∷ [] else words

-- what names a cell of this kind with these figures: rules, or an a priori file alone
abbrev pub reasons : List Rule → Kind → Figures → List (List ℕ)
reasons rules kind figures = with_stated kind (naming_words rules figures)
