-- The argument of SAFETYRULE: rules joined by bars (tau-ARGUS user manual; how often each kind may stand: own).
use Rattle.std.specs.Prelude.{ℕ, Bool, true, false, not, ◌&&◌, nat_lt, List, [], ◌∷◌, length, Result, Ok}
use Rattle.std.specs.List.{count_by}
use Rattle.sdc_base.specs.Steps.{◌>>=◌, refuse}
use Rattle.sdc_base.specs.declared.rule.Rule.{Rule}
use Rattle.sdc_base.specs.declared.rule.Rule.TheVariants.{Freq, Zero}
use Rattle.sdc_base.specs.declared.rule.Rules.{Rules}
use Rattle.job_lang.specs.declared.faults.JobWhy.{JobWhy}
use Rattle.job_lang.specs.declared.faults.JobWhy.TheVariants.{BadValue}
use Rattle.job_lang.specs.declared.rule_clauses.RuleClause.{RuleClause}
use Rattle.job_lang.specs.declared.rule_clauses.RuleClause.TheVariants.{Named, Man, Weights}
use Rattle.job_lang.specs.Pieces.{pieces}
use Rattle.job_lang.specs.RuleClauses.{clauses_in}

-- the rules that name cells
abbrev pub named_in : List RuleClause → List Rule
named_in [] = []
named_in (Named one ∷ clauses) = one ∷ named_in clauses
named_in (Man r ∷ clauses) = named_in clauses
named_in (Weights flag ∷ clauses) = named_in clauses

-- a rule on frequencies
abbrev pub is_frequency : RuleClause → Bool
is_frequency (Named (Freq n r)) = true
is_frequency clause = false

-- a rule on zeros
abbrev pub is_zero : RuleClause → Bool
is_zero (Named (Zero r)) = true
is_zero clause = false

-- a level of cells that are declared unsafe
abbrev pub is_man : RuleClause → Bool
is_man (Man r) = true
is_man clause = false

-- a word on weights
abbrev pub is_weights : RuleClause → Bool
is_weights (Weights flag) = true
is_weights clause = false

-- one to eight rules that name cells, at most one of them on frequencies and one on zeros, and at most one MAN and one
-- WGT
abbrev pub are_rules : List RuleClause → Bool
are_rules clauses =
    nat_lt 0 (length (named_in clauses)) && nat_lt (length (named_in clauses)) 9
    && nat_lt (count_by is_frequency clauses) 2 && nat_lt (count_by is_zero clauses) 2
    && nat_lt (count_by is_man clauses) 2
    && nat_lt (count_by is_weights clauses) 2

-- the level of cells that are declared unsafe, 20 percent where no rule says so
abbrev pub man_of : List RuleClause → ℕ
man_of [] = 20
man_of (Man r ∷ clauses) = r
man_of (Named one ∷ clauses) = man_of clauses
man_of (Weights flag ∷ clauses) = man_of clauses

-- whether records have weights; they have none where no rule says so
abbrev pub weighted_of : List RuleClause → Bool
weighted_of [] = false
weighted_of (Weights flag ∷ clauses) = flag
weighted_of (Named one ∷ clauses) = weighted_of clauses
weighted_of (Man r ∷ clauses) = weighted_of clauses

-- the rules of a job
unfoldable pub rules_in : List ℕ → Result Rules JobWhy
rules_in text = do
  clauses ← clauses_in (pieces text)
  fine ← refuse BadValue (not (are_rules clauses))
  Ok (record { list = named_in clauses; man = man_of clauses; weighted = weighted_of clauses })
