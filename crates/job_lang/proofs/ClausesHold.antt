-- The numbers of rules, methods and work are in their ranges.
use Rattle.std.proofs.Common.{◌≡◌, ℕ, ◌<◌, ◌≤◌, Bool, false, List, [], ◌∷◌, length, pos, ◌≤ℤ◌, arith}
use Rattle.std.proofs.lemmas.Int.{ints}
use Rattle.sdc_base.specs.Steps.{or_fault, refuse}
use Rattle.std.specs.Prelude.{nat_lt, not, ◌&&◌, codes}
use Rattle.std.specs.Result.{IfOk}
use Rattle.std.specs.List.{AllByRecursion, count_by}
use Rattle.std.specs.Str.{str_eq_ignore_ascii_case}
use Rattle.sdc_base.specs.Tokens.{number_in}
use Rattle.job_lang.specs.declared.faults.JobWhy.TheVariants.{BadValue}
use Rattle.job_lang.specs.declared.rule_clauses.RuleClause.{RuleClause}
use Rattle.job_lang.specs.declared.rule_clauses.RuleClause.TheVariants.{Named, Man, Weights}
use Rattle.job_lang.specs.LineTokens.{behind_mark, run_of, behind_run, number_at, closing_token, end_of_tokens}
use Rattle.job_lang.specs.Pieces.{pieces}
use Rattle.job_lang.specs.RuleTexts.{named_in, is_frequency, is_zero, is_man, is_weights, are_rules, man_of, rules_in}
use Rattle.job_lang.specs.RuleClauses.{one_number, frequency_clause, dominance_clause, percent_behind, percent_clause, prior_posterior_clause, zero_clause, man_clause, weights_clause, clause_in, clauses_in}
use Rattle.job_lang.specs.Arguments.{work_argument, most_work}
use Rattle.job_lang.specs.MethodTexts.{passes_method, modular_method, rounding_method, method_argument}
use Rattle.job_lang.specs.JobLimits.{IsInRange, AreInRange, IsMethod, IsWork}
use Rattle.job_lang.proofs.Known.{then_known, known, either_known, not_refused, was_some, number_range}

-- a number with the text behind it is in these bounds
abbrev IsFrom : ℕ → ℕ → (ℕ × List ℕ) → Type 0
IsFrom low high read = (low ≤ read.0) × (read.0 ≤ high)

pub number_known : (low high : ℕ) (text : List ℕ) → IfOk (number_at low high text) (λ read. (low ≤ read.0) × (read.0 ≤ high))
unfolding number_at
number_known low high text = then_known (IsFrom low high) (or_fault BadValue (number_in low high (run_of text))) _ (λ number h. number_range low high (run_of text) number (was_some BadValue (number_in low high (run_of text)) number h))

pub one_known : (low high : ℕ) (text : List ℕ) → IfOk (one_number low high text) (λ n. (low ≤ n) × (n ≤ high))
unfolding one_number
one_known low high text =
    then_known (λ n. (low ≤ n) × (n ≤ high)) (behind_mark 40 text) _ (λ open_ h.
    then_known (λ n. (low ≤ n) × (n ≤ high)) (number_at low high open_) _ (λ number h1.
    then_known (λ n. (low ≤ n) × (n ≤ high)) (closing_token number.1) _ (λ end h2. known (IsFrom low high) (number_at low high open_) number (number_known low high open_) h1)))

-- the numbers of a rule are in their ranges
abbrev pub IsClause : RuleClause → Type 0
IsClause (Named one) = IsInRange one
IsClause (Man r) = r ≤ 1000
IsClause (Weights flag) = Unit {0}

frequency_known : (text : List ℕ) → IfOk (frequency_clause text) IsClause
unfolding frequency_clause
frequency_known text =
    then_known IsClause (behind_mark 40 text) _ (λ open_ h.
    then_known IsClause (number_at 1 1000000 open_) _ (λ n h1.
    then_known IsClause (behind_mark 44 n.1) _ (λ comma h2.
    then_known IsClause (number_at 0 1000 comma) _ (λ r h3.
    then_known IsClause (closing_token r.1) _ (λ end h4.
    let first = known (IsFrom 1 1000000) (number_at 1 1000000 open_) n (number_known 1 1000000 open_) h1 in
    let second = known (IsFrom 0 1000) (number_at 0 1000 comma) r (number_known 0 1000 comma) h3 in
    (first.0, first.1, second.1))))))

dominance_known : (text : List ℕ) → IfOk (dominance_clause text) IsClause
unfolding dominance_clause
dominance_known text =
    then_known IsClause (behind_mark 40 text) _ (λ open_ h.
    then_known IsClause (number_at 1 10 open_) _ (λ n h1.
    then_known IsClause (behind_mark 44 n.1) _ (λ comma h2.
    then_known IsClause (number_at 1 100 comma) _ (λ k h3.
    then_known IsClause (closing_token k.1) _ (λ end h4.
    let first = known (IsFrom 1 10) (number_at 1 10 open_) n (number_known 1 10 open_) h1 in
    let second = known (IsFrom 1 100) (number_at 1 100 comma) k (number_known 1 100 comma) h3 in
    (first.0, first.1, second.0, second.1))))))

percent_known : (text : List ℕ) → IfOk (percent_clause text) IsClause
unfolding percent_clause
percent_known text =
    then_known IsClause (behind_mark 40 text) _ (λ open_ h.
    then_known IsClause (number_at 1 1000 open_) _ (λ p h1.
    then_known IsClause (percent_behind p.1) _ (λ end h2. known (IsFrom 1 1000) (number_at 1 1000 open_) p (number_known 1 1000 open_) h1)))

prior_posterior_known : (text : List ℕ) → IfOk (prior_posterior_clause text) IsClause
unfolding prior_posterior_clause
prior_posterior_known text =
    then_known IsClause (behind_mark 40 text) _ (λ open_ h.
    then_known IsClause (number_at 1 1000 open_) _ (λ p h1.
    then_known IsClause (behind_mark 44 p.1) _ (λ comma h2.
    then_known IsClause (number_at 1 1000 comma) _ (λ q h3.
    then_known IsClause (closing_token q.1) _ (λ end h4.
    let first = known (IsFrom 1 1000) (number_at 1 1000 open_) p (number_known 1 1000 open_) h1 in
    let second = known (IsFrom 1 1000) (number_at 1 1000 comma) q (number_known 1 1000 comma) h3 in
    (first.0, first.1, second.0, second.1))))))

zero_known : (text : List ℕ) → IfOk (zero_clause text) IsClause
unfolding zero_clause
zero_known text = then_known IsClause (one_number 1 1000000000 text) _ (λ r h. known (λ n. (1 ≤ n) × (n ≤ 1000000000)) (one_number 1 1000000000 text) r (one_known 1 1000000000 text) h)

man_known : (text : List ℕ) → IfOk (man_clause text) IsClause
unfolding man_clause
man_known text = then_known IsClause (one_number 0 1000 text) _ (λ r h. (known (λ n. (0 ≤ n) × (n ≤ 1000)) (one_number 0 1000 text) r (one_known 0 1000 text) h).1)

weights_known : (text : List ℕ) → IfOk (weights_clause text) IsClause
unfolding weights_clause
weights_known text = then_known IsClause (one_number 0 1 text) _ (λ flag h. tt)

clause_known : (text : List ℕ) → IfOk (clause_in text) IsClause
unfolding clause_in
clause_known text =
    either_known IsClause (str_eq_ignore_ascii_case (run_of text) (codes "FREQ")) (frequency_clause (behind_run text)) _ (frequency_known (behind_run text))
    (either_known IsClause (str_eq_ignore_ascii_case (run_of text) (codes "NK")) (dominance_clause (behind_run text)) _ (dominance_known (behind_run text))
    (either_known IsClause (str_eq_ignore_ascii_case (run_of text) (codes "P")) (percent_clause (behind_run text)) _ (percent_known (behind_run text))
    (either_known IsClause (str_eq_ignore_ascii_case (run_of text) (codes "PQ")) (prior_posterior_clause (behind_run text)) _ (prior_posterior_known (behind_run text))
    (either_known IsClause (str_eq_ignore_ascii_case (run_of text) (codes "ZERO")) (zero_clause (behind_run text)) _ (zero_known (behind_run text))
    (either_known IsClause (str_eq_ignore_ascii_case (run_of text) (codes "MAN")) (man_clause (behind_run text)) _ (man_known (behind_run text))
    (either_known IsClause (str_eq_ignore_ascii_case (run_of text) (codes "WGT")) (weights_clause (behind_run text)) _ (weights_known (behind_run text)) tt))))))

clauses_known : (texts : List (List ℕ)) → IfOk (clauses_in texts) (AllByRecursion IsClause)
unfolding clauses_in
clauses_known [] = tt
clauses_known (text ∷ texts) =
    then_known (AllByRecursion IsClause) (clause_in text) _ (λ clause h.
    then_known (AllByRecursion IsClause) (clauses_in texts) _ (λ clauses h1. (known IsClause (clause_in text) clause (clause_known text) h, known (AllByRecursion IsClause) (clauses_in texts) clauses (clauses_known texts) h1)))

named_known : (clauses : List RuleClause) → AllByRecursion IsClause clauses → AllByRecursion IsInRange (named_in clauses)
named_known [] all = tt
named_known (Named one ∷ clauses) all = (all.0, named_known clauses all.1)
named_known (Man r ∷ clauses) all = named_known clauses all.1
named_known (Weights flag ∷ clauses) all = named_known clauses all.1

man_within : (clauses : List RuleClause) → AllByRecursion IsClause clauses → man_of clauses ≤ 1000
man_within [] all = omega arith
man_within (Named one ∷ clauses) all = man_within clauses all.1
man_within (Man r ∷ clauses) all = all.0
man_within (Weights flag ∷ clauses) all = man_within clauses all.1

few_named : (n : ℕ) (a z b d : Bool) → not (nat_lt 0 n && nat_lt n 9 && a && z && b && d) ≡ false → (0 < n) × (n ≤ 8)
few_named n a z b d h = grind arith

pub rules_known : (text : List ℕ) → IfOk (rules_in text) AreInRange
unfolding rules_in
rules_known text =
    then_known AreInRange (clauses_in (pieces text)) _ (λ clauses h.
    then_known AreInRange (refuse BadValue (not (are_rules clauses))) _ (λ fine h1.
    let all = known (AllByRecursion IsClause) (clauses_in (pieces text)) clauses (clauses_known (pieces text)) h in
    let few = few_named (length (named_in clauses)) (nat_lt (count_by is_frequency clauses) 2) (nat_lt (count_by is_zero clauses) 2) (nat_lt (count_by is_man clauses) 2) (nat_lt (count_by is_weights clauses) 2) (not_refused BadValue (not (are_rules clauses)) fine h1) in
    record { has_rule = few.0; at_most_8_rules = few.1; ranges = named_known clauses all; man = man_within clauses all }))

pub work_known : (text : List ℕ) → IfOk (work_argument text) IsWork
unfolding work_argument
work_known text =
    then_known IsWork (number_at 1 most_work text) _ (λ number h.
    then_known IsWork (end_of_tokens number.1) _ (λ end h1. known (IsFrom 1 most_work) (number_at 1 most_work text) number (number_known 1 most_work text) h))

passes_known : (text : List ℕ) → IfOk (passes_method text) IsMethod
unfolding passes_method
passes_known text = then_known IsMethod (one_number 1 8 text) _ (λ n h. known (λ n. (1 ≤ n) × (n ≤ 8)) (one_number 1 8 text) n (one_known 1 8 text) h)

modular_known : (text : List ℕ) → IfOk (modular_method text) IsMethod
unfolding modular_method
modular_known text = then_known IsMethod (behind_mark 40 text) _ (λ open_ h. then_known IsMethod (closing_token open_) _ (λ end h1. tt))

base_range : (n : ℕ) → (1 ≤ n) × (n ≤ 1000000000) → (pos 1 ≤ℤ pos n) × (pos n ≤ℤ pos 1000000000)
base_range n h = (omega (arith, ints, h.0), omega (arith, ints, h.1))

rounding_known : (text : List ℕ) → IfOk (rounding_method text) IsMethod
unfolding rounding_method
rounding_known text = then_known IsMethod (one_number 1 1000000000 text) _ (λ n h. base_range n (known (λ n. (1 ≤ n) × (n ≤ 1000000000)) (one_number 1 1000000000 text) n (one_known 1 1000000000 text) h))

pub method_known : (text : List ℕ) → IfOk (method_argument text) IsMethod
unfolding method_argument
method_known text =
    either_known IsMethod (str_eq_ignore_ascii_case (run_of text) (codes "GH")) (passes_method (behind_run text)) _ (passes_known (behind_run text))
    (either_known IsMethod (str_eq_ignore_ascii_case (run_of text) (codes "MOD")) (modular_method (behind_run text)) _ (modular_known (behind_run text))
    (either_known IsMethod (str_eq_ignore_ascii_case (run_of text) (codes "RND")) (rounding_method (behind_run text)) _ (rounding_known (behind_run text)) tt))
