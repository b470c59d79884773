-- One rule of the argument of SAFETYRULE (tau-ARGUS user manual; PQ, ZERO and ranges own). P(p,2) is no rule of argus.
use Rattle.std.specs.Prelude.{ℕ, ◌==◌, codes, if◌then◌else◌, List, [], ◌∷◌, Result, Ok, Err}
use Rattle.std.specs.Str.{str_eq_ignore_ascii_case}
use Rattle.sdc_base.specs.Steps.{◌>>=◌}
use Rattle.sdc_base.specs.declared.rule.Rule.TheVariants.{Freq, Nk, Percent, Pq, Zero}
use Rattle.job_lang.specs.declared.faults.JobWhy.{JobWhy}
use Rattle.job_lang.specs.declared.faults.JobWhy.TheVariants.{BadValue}
use Rattle.job_lang.specs.declared.rule_clauses.RuleClause.{RuleClause}
use Rattle.job_lang.specs.declared.rule_clauses.RuleClause.TheVariants.{Named, Man, Weights}
use Rattle.job_lang.specs.LineTokens.{is_next, behind_mark, run_of, behind_run, number_at, closing_token}

-- (n) with n in these bounds, and nothing behind it
unfoldable pub one_number : ℕ → ℕ → List ℕ → Result ℕ JobWhy
one_number low high text = do
  open_ ← behind_mark 40 text
  number ← number_at low high open_
  end ← closing_token number.1
  Ok number.0

-- FREQ(n,r): n from 1 to 1,000,000, r from 0 to 1,000
unfoldable pub frequency_clause : List ℕ → Result RuleClause JobWhy
frequency_clause text = do
  open_ ← behind_mark 40 text
  n ← number_at 1 1000000 open_
  comma ← behind_mark 44 n.1
  r ← number_at 0 1000 comma
  end ← closing_token r.1
  Ok (Named (Freq n.0 r.0))

-- NK(n,k): n from 1 to 10, k from 1 to 100
unfoldable pub dominance_clause : List ℕ → Result RuleClause JobWhy
dominance_clause text = do
  open_ ← behind_mark 40 text
  n ← number_at 1 10 open_
  comma ← behind_mark 44 n.1
  k ← number_at 1 100 comma
  end ← closing_token k.1
  Ok (Named (Nk n.0 k.0))

-- the 1 that may stand behind the p of P, and the end
unfoldable pub further_one : List ℕ → Result (Unit {0}) JobWhy
further_one text = do
  comma ← behind_mark 44 text
  one ← number_at 1 1 comma
  closing_token one.1

-- what stands behind the p of P
abbrev pub percent_behind : List ℕ → Result (Unit {0}) JobWhy
percent_behind text = if is_next 44 text then further_one text else closing_token text

-- P(p) or P(p,1): p from 1 to 1,000
unfoldable pub percent_clause : List ℕ → Result RuleClause JobWhy
percent_clause text = do
  open_ ← behind_mark 40 text
  p ← number_at 1 1000 open_
  end ← percent_behind p.1
  Ok (Named (Percent p.0))

-- PQ(p,q): p and q from 1 to 1,000
unfoldable pub prior_posterior_clause : List ℕ → Result RuleClause JobWhy
prior_posterior_clause text = do
  open_ ← behind_mark 40 text
  p ← number_at 1 1000 open_
  comma ← behind_mark 44 p.1
  q ← number_at 1 1000 comma
  end ← closing_token q.1
  Ok (Named (Pq p.0 q.0))

-- ZERO(r): r from 1 to 1,000,000,000
unfoldable pub zero_clause : List ℕ → Result RuleClause JobWhy
zero_clause text = do
  r ← one_number 1 1000000000 text
  Ok (Named (Zero r))

-- MAN(r): r from 0 to 1,000
unfoldable pub man_clause : List ℕ → Result RuleClause JobWhy
man_clause text = do
  r ← one_number 0 1000 text
  Ok (Man r)

-- WGT(0) or WGT(1)
unfoldable pub weights_clause : List ℕ → Result RuleClause JobWhy
weights_clause text = do
  flag ← one_number 0 1 text
  Ok (Weights (flag == 1))

-- one rule, its word in letters of any case
unfoldable pub clause_in : List ℕ → Result RuleClause JobWhy
clause_in text =
    if str_eq_ignore_ascii_case (run_of text) (codes "FREQ") then frequency_clause (behind_run text)
    else if str_eq_ignore_ascii_case (run_of text) (codes "NK") then dominance_clause (behind_run text)
    else if str_eq_ignore_ascii_case (run_of text) (codes "P") then percent_clause (behind_run text)
    else if str_eq_ignore_ascii_case (run_of text) (codes "PQ") then prior_posterior_clause (behind_run text)
    else if str_eq_ignore_ascii_case (run_of text) (codes "ZERO") then zero_clause (behind_run text)
    else if str_eq_ignore_ascii_case (run_of text) (codes "MAN") then man_clause (behind_run text)
    else if str_eq_ignore_ascii_case (run_of text) (codes "WGT") then weights_clause (behind_run text)
    else Err BadValue

-- each piece as a rule
unfoldable pub clauses_in : List (List ℕ) → Result (List RuleClause) JobWhy
clauses_in [] = Ok []
clauses_in (piece ∷ rest) = do
  clause ← clause_in piece
  clauses ← clauses_in rest
  Ok (clause ∷ clauses)
