-- Rules that were spelled are read again.
use Rattle.std.proofs.Common.{◌≡◌, ℕ, ◌+◌, ◌<◌, ◌≤◌, ◌^◌, ◌==◌, ◌||◌, Bool, true, false, cond, List, [], ◌∷◌, ◌++◌, length, drop, map, Ok, refl, ap, sym, ◌∙◌, subst, arith, decimal, codes, nat_lt}
use Rattle.std.specs.Prelude.{◌&&◌}
use Rattle.std.specs.List.{AllByRecursion, list_any, count_by, before_first, position_or_len}
use Rattle.std.proofs.lemmas.Fmt.{decimal_is_IsNumeral_wide}
use Rattle.std.proofs.lemmas.List.Folds.{list_any-append}
use Rattle.std.proofs.lemmas.List.Sums.{sum_by-cons}
use Rattle.sdc_base.specs.Lines.{with_front}
use Rattle.sdc_base.specs.declared.rule.Rule.{Rule}
use Rattle.sdc_base.specs.declared.rule.Rule.TheVariants.{Freq, Nk, Percent, Pq, Zero}
use Rattle.sdc_base.specs.declared.rule.Rules.{Rules}
use Rattle.job_lang.specs.declared.rule_clauses.RuleClause.{RuleClause}
use Rattle.job_lang.specs.declared.rule_clauses.RuleClause.TheVariants.{Named, Man, Weights}
use Rattle.job_lang.specs.LineTokens.{is_bar, is_break, behind_mark, run_of, behind_run, closing_token, end_of_tokens}
use Rattle.job_lang.specs.Pieces.{pieces}
use Rattle.job_lang.specs.RuleTexts.{named_in, is_frequency, is_zero, is_man, is_weights, are_rules, man_of, weighted_of, rules_in}
use Rattle.job_lang.specs.RuleClauses.{one_number, frequency_clause, dominance_clause, percent_behind, percent_clause, prior_posterior_clause, zero_clause, man_clause, weights_clause, clause_in, clauses_in}
use Rattle.job_lang.specs.JobLimits.{IsInRange, AreInRange}
use Rattle.job_lang.specs.Spelling.{texts_between_bars, number_in_parentheses, enclosed_both, clause_text, clauses_of, rules_text}
use Rattle.job_lang.specs.WritableJobs.{is_on_frequencies, is_on_zeros, HasEachOnce}
use Rattle.job_lang.proofs.ClausesHold.{IsClause}
use Rattle.job_lang.proofs.Spelled.{or_right, IsEnded, ended_behind, ended_with, trim_space, mark_read, run_read, number_read, digits_whole}

-- ---- numbers in parentheses

pub closed_read : closing_token (41 ∷ []) ≡ Ok tt
unfolding closing_token behind_mark end_of_tokens
closed_read = refl

closing : (b : ℕ) (front : List ℕ) → IsEnded (b ∷ front ++ 41 ∷ [])
closing b front = ended_behind (b ∷ front) (41 ∷ []) (ended_with 41 refl refl)

pub enclosed_read : (low high n : ℕ) → low ≤ n → n ≤ high → high < 10 ^ 18 → one_number low high (number_in_parentheses (decimal n)) ≡ Ok n
unfolding one_number
enclosed_read low high n above within small =
    rw (mark_read 40 (decimal n ++ 41 ∷ []) refl (closing 40 (decimal n)) refl, number_read low high n 41 [] above within small refl (ended_with 41 refl refl), closed_read) refl

-- ---- one rule

frequency_read : (n r : ℕ) → IsInRange (Freq n r) → frequency_clause (enclosed_both (decimal n) (decimal r)) ≡ Ok (Named (Freq n r))
unfolding frequency_clause
frequency_read n r h =
    let behind : IsEnded (44 ∷ decimal r ++ 41 ∷ []) = closing 44 (decimal r) in
    rw (
      mark_read 40 (decimal n ++ (44 ∷ decimal r ++ 41 ∷ [])) refl (ended_behind (40 ∷ decimal n) (44 ∷ decimal r ++ 41 ∷ []) behind) refl,
      number_read 1 1000000 n 44 (decimal r ++ 41 ∷ []) h.0 h.1 (omega arith) refl behind,
      mark_read 44 (decimal r ++ 41 ∷ []) refl behind refl,
      number_read 0 1000 r 41 [] (omega arith) h.2 (omega arith) refl (ended_with 41 refl refl),
      closed_read,
    ) refl

dominance_read : (n k : ℕ) → IsInRange (Nk n k) → dominance_clause (enclosed_both (decimal n) (decimal k)) ≡ Ok (Named (Nk n k))
unfolding dominance_clause
dominance_read n k h =
    let behind : IsEnded (44 ∷ decimal k ++ 41 ∷ []) = closing 44 (decimal k) in
    rw (
      mark_read 40 (decimal n ++ (44 ∷ decimal k ++ 41 ∷ [])) refl (ended_behind (40 ∷ decimal n) (44 ∷ decimal k ++ 41 ∷ []) behind) refl,
      number_read 1 10 n 44 (decimal k ++ 41 ∷ []) h.0 h.1 (omega arith) refl behind,
      mark_read 44 (decimal k ++ 41 ∷ []) refl behind refl,
      number_read 1 100 k 41 [] h.2 h.3 (omega arith) refl (ended_with 41 refl refl),
      closed_read,
    ) refl

nothing_behind : percent_behind (41 ∷ []) ≡ Ok tt
nothing_behind = closed_read

percent_read : (p : ℕ) → IsInRange (Percent p) → percent_clause (number_in_parentheses (decimal p)) ≡ Ok (Named (Percent p))
unfolding percent_clause
percent_read p h =
    rw (mark_read 40 (decimal p ++ 41 ∷ []) refl (closing 40 (decimal p)) refl, number_read 1 1000 p 41 [] h.0 h.1 (omega arith) refl (ended_with 41 refl refl), nothing_behind) refl

prior_posterior_read : (p q : ℕ) → IsInRange (Pq p q) → prior_posterior_clause (enclosed_both (decimal p) (decimal q)) ≡ Ok (Named (Pq p q))
unfolding prior_posterior_clause
prior_posterior_read p q h =
    let behind : IsEnded (44 ∷ decimal q ++ 41 ∷ []) = closing 44 (decimal q) in
    rw (
      mark_read 40 (decimal p ++ (44 ∷ decimal q ++ 41 ∷ [])) refl (ended_behind (40 ∷ decimal p) (44 ∷ decimal q ++ 41 ∷ []) behind) refl,
      number_read 1 1000 p 44 (decimal q ++ 41 ∷ []) h.0 h.1 (omega arith) refl behind,
      mark_read 44 (decimal q ++ 41 ∷ []) refl behind refl,
      number_read 1 1000 q 41 [] h.2 h.3 (omega arith) refl (ended_with 41 refl refl),
      closed_read,
    ) refl

zero_read : (r : ℕ) → IsInRange (Zero r) → zero_clause (number_in_parentheses (decimal r)) ≡ Ok (Named (Zero r))
unfolding zero_clause
zero_read r h = rw (enclosed_read 1 1000000000 r h.0 h.1 (omega arith)) refl

man_read : (r : ℕ) → r ≤ 1000 → man_clause (number_in_parentheses (decimal r)) ≡ Ok (Man r)
unfolding man_clause
man_read r h = rw (enclosed_read 0 1000 r (omega arith) h (omega arith)) refl

weights_read : (n : ℕ) → n ≤ 1 → weights_clause (number_in_parentheses (decimal n)) ≡ Ok (Weights (n == 1))
unfolding weights_clause
weights_read n h = rw (enclosed_read 0 1 n (omega arith) h (omega arith)) refl

-- the word of a rule and what stands behind it
word_read : (b : ℕ) (word rest : List ℕ) → list_any is_break (b ∷ word) ≡ false → IsEnded (40 ∷ rest) → (run_of ((b ∷ word) ++ 40 ∷ rest) ≡ b ∷ word) × (behind_run ((b ∷ word) ++ 40 ∷ rest) ≡ 40 ∷ rest)
word_read b word rest whole ends = run_read b word 40 rest whole refl ends

clause_read : (clause : RuleClause) → IsClause clause → clause_in (clause_text clause) ≡ Ok clause
unfolding clause_in
clause_read (Named (Freq n r)) h =
    let word = word_read 70 (codes "REQ") (decimal n ++ (44 ∷ decimal r ++ 41 ∷ [])) refl (ended_behind (40 ∷ decimal n) (44 ∷ decimal r ++ 41 ∷ []) (closing 44 (decimal r))) in
    rw (word.0, word.1) (frequency_read n r h)
clause_read (Named (Nk n k)) h =
    let word = word_read 78 (codes "K") (decimal n ++ (44 ∷ decimal k ++ 41 ∷ [])) refl (ended_behind (40 ∷ decimal n) (44 ∷ decimal k ++ 41 ∷ []) (closing 44 (decimal k))) in
    rw (word.0, word.1) (dominance_read n k h)
clause_read (Named (Percent p)) h =
    let word = word_read 80 [] (decimal p ++ 41 ∷ []) refl (closing 40 (decimal p)) in
    rw (word.0, word.1) (percent_read p h)
clause_read (Named (Pq p q)) h =
    let word = word_read 80 (codes "Q") (decimal p ++ (44 ∷ decimal q ++ 41 ∷ [])) refl (ended_behind (40 ∷ decimal p) (44 ∷ decimal q ++ 41 ∷ []) (closing 44 (decimal q))) in
    rw (word.0, word.1) (prior_posterior_read p q h)
clause_read (Named (Zero r)) h =
    let word = word_read 90 (codes "ERO") (decimal r ++ 41 ∷ []) refl (closing 40 (decimal r)) in
    rw (word.0, word.1) (zero_read r h)
clause_read (Man r) h =
    let word = word_read 77 (codes "AN") (decimal r ++ 41 ∷ []) refl (closing 40 (decimal r)) in
    rw (word.0, word.1) (man_read r h)
clause_read (Weights false) h =
    let word = word_read 87 (codes "GT") (decimal 0 ++ 41 ∷ []) refl (closing 40 (decimal 0)) in
    rw (word.0, word.1) (weights_read 0 (omega arith))
clause_read (Weights true) h =
    let word = word_read 87 (codes "GT") (decimal 1 ++ 41 ∷ []) refl (closing 40 (decimal 1)) in
    rw (word.0, word.1) (weights_read 1 (omega arith))

pub run_space : (text : List ℕ) → run_of (32 ∷ text) ≡ run_of text
run_space text = ap (before_first is_break) (trim_space text)

pub behind_space : (text : List ℕ) → behind_run (32 ∷ text) ≡ behind_run text
behind_space text = ap (λ (t : List ℕ). drop (position_or_len is_break t) t) (trim_space text)

clause_space : (text : List ℕ) → clause_in (32 ∷ text) ≡ clause_in text
unfolding clause_in
clause_space text = rw (run_space text, behind_space text) refl

-- ---- bars

bars_past : (text rest : List ℕ) → list_any is_bar text ≡ false → list_any is_bar (text ++ rest) ≡ list_any is_bar rest
bars_past text rest h = rw (list_any-append is_bar text rest, h) refl

no_break_no_bar : (text : List ℕ) → list_any is_break text ≡ false → list_any is_bar text ≡ false
no_break_no_bar [] h = refl
no_break_no_bar (b ∷ text) h = rw (no_bar b (first (is_break b) (list_any is_break text) h), no_break_no_bar text (or_right (is_break b) (list_any is_break text) h)) refl
  where
    no_bar : (b : ℕ) → is_break b ≡ false → is_bar b ≡ false
    no_bar b h = grind arith

    first : (x y : Bool) → (x || y) ≡ false → x ≡ false
    first true y h = h
    first false y h = refl

number_barless : (n : ℕ) → n < 10 ^ 64 → list_any is_bar (decimal n) ≡ false
number_barless n h = no_break_no_bar (decimal n) (digits_whole (decimal n) (decimal_is_IsNumeral_wide n h).0.1)

clause_barless : (clause : RuleClause) → IsClause clause → list_any is_bar (clause_text clause) ≡ false
clause_barless (Named (Freq n r)) h = bars_past (decimal n) (44 ∷ decimal r ++ 41 ∷ []) (number_barless n (omega (arith, h.1))) ∙ bars_past (decimal r) (41 ∷ []) (number_barless r (omega (arith, h.2)))
clause_barless (Named (Nk n k)) h = bars_past (decimal n) (44 ∷ decimal k ++ 41 ∷ []) (number_barless n (omega (arith, h.1))) ∙ bars_past (decimal k) (41 ∷ []) (number_barless k (omega (arith, h.3)))
clause_barless (Named (Percent p)) h = bars_past (decimal p) (41 ∷ []) (number_barless p (omega (arith, h.1)))
clause_barless (Named (Pq p q)) h = bars_past (decimal p) (44 ∷ decimal q ++ 41 ∷ []) (number_barless p (omega (arith, h.1))) ∙ bars_past (decimal q) (41 ∷ []) (number_barless q (omega (arith, h.3)))
clause_barless (Named (Zero r)) h = bars_past (decimal r) (41 ∷ []) (number_barless r (omega (arith, h.1)))
clause_barless (Man r) h = bars_past (decimal r) (41 ∷ []) (number_barless r (omega (arith, h)))
clause_barless (Weights false) h = bars_past (decimal 0) (41 ∷ []) (number_barless 0 (omega arith))
clause_barless (Weights true) h = bars_past (decimal 1) (41 ∷ []) (number_barless 1 (omega arith))

last_piece : (text : List ℕ) → list_any is_bar text ≡ false → pieces text ≡ text ∷ []
last_piece [] h = refl
last_piece (b ∷ text) h = rw (left (is_bar b) (list_any is_bar text) h, last_piece text (or_right (is_bar b) (list_any is_bar text) h)) refl
  where
    left : (x y : Bool) → (x || y) ≡ false → x ≡ false
    left true y h = h
    left false y h = refl

next_piece : (text rest : List ℕ) → list_any is_bar text ≡ false → pieces (text ++ 124 ∷ rest) ≡ text ∷ pieces rest
next_piece [] rest h = refl
next_piece (b ∷ text) rest h = rw (left (is_bar b) (list_any is_bar text) h, next_piece text rest (or_right (is_bar b) (list_any is_bar text) h)) refl
  where
    left : (x y : Bool) → (x || y) ≡ false → x ≡ false
    left true y h = h
    left false y h = refl

pieces_again : (clause : RuleClause) (clauses : List RuleClause) → IsClause clause → AllByRecursion IsClause clauses → pieces (texts_between_bars (clause_text clause ∷ map clause_text clauses)) ≡ clause_text clause ∷ map clause_text clauses
pieces_again clause [] h all = last_piece (clause_text clause) (clause_barless clause h)
pieces_again clause (next ∷ clauses) h all =
    next_piece (clause_text clause) (texts_between_bars (clause_text next ∷ map clause_text clauses)) (clause_barless clause h)
    ∙ ap (λ (ps : List (List ℕ)). clause_text clause ∷ ps) (pieces_again next clauses all.0 all.1)

-- ---- all rules

clauses_again : (clauses : List RuleClause) → AllByRecursion IsClause clauses → clauses_in (map clause_text clauses) ≡ Ok clauses
unfolding clauses_in
clauses_again [] all = refl
clauses_again (clause ∷ clauses) all = rw (clause_read clause all.0, clauses_again clauses all.1) refl

clauses_behind_space : (text : List ℕ) (texts : List (List ℕ)) → clauses_in ((32 ∷ text) ∷ texts) ≡ clauses_in (text ∷ texts)
unfolding clauses_in
clauses_behind_space text texts = rw (clause_space text) refl

clauses_read : (clause : RuleClause) (clauses : List RuleClause) → IsClause clause → AllByRecursion IsClause clauses → clauses_in (pieces (32 ∷ texts_between_bars (clause_text clause ∷ map clause_text clauses))) ≡ Ok (clause ∷ clauses)
clauses_read clause clauses h all =
    ap (λ (ps : List (List ℕ)). clauses_in (with_front 32 ps)) (pieces_again clause clauses h all)
    ∙ clauses_behind_space (clause_text clause) (map clause_text clauses)
    ∙ clauses_again (clause ∷ clauses) (h, all)

named_again : (list : List Rule) (man : ℕ) (weighted : Bool) → named_in (map Named list ++ Man man ∷ Weights weighted ∷ []) ≡ list
named_again [] man weighted = refl
named_again (rule ∷ list) man weighted = ap (λ (rules : List Rule). rule ∷ rules) (named_again list man weighted)

man_again : (list : List Rule) (man : ℕ) (weighted : Bool) → man_of (map Named list ++ Man man ∷ Weights weighted ∷ []) ≡ man
man_again [] man weighted = refl
man_again (rule ∷ list) man weighted = man_again list man weighted

weighted_again : (list : List Rule) (man : ℕ) (weighted : Bool) → weighted_of (map Named list ++ Man man ∷ Weights weighted ∷ []) ≡ weighted
weighted_again [] man weighted = refl
weighted_again (rule ∷ list) man weighted = weighted_again list man weighted

pub frequency_same : (rule : Rule) → is_frequency (Named rule) ≡ is_on_frequencies rule
frequency_same (Freq n r) = refl
frequency_same (Nk n k) = refl
frequency_same (Percent p) = refl
frequency_same (Pq p q) = refl
frequency_same (Zero r) = refl

pub zero_same : (rule : Rule) → is_zero (Named rule) ≡ is_on_zeros rule
zero_same (Freq n r) = refl
zero_same (Nk n k) = refl
zero_same (Percent p) = refl
zero_same (Pq p q) = refl
zero_same (Zero r) = refl

frequencies : (list : List Rule) (man : ℕ) (weighted : Bool) → count_by is_frequency (map Named list ++ Man man ∷ Weights weighted ∷ []) ≡ count_by is_on_frequencies list
frequencies [] man weighted = refl
frequencies (rule ∷ list) man weighted =
    sum_by-cons (λ c. cond (is_frequency c) 1 0) (Named rule) (map Named list ++ Man man ∷ Weights weighted ∷ [])
    ∙ rw (frequency_same rule, frequencies list man weighted) (sym (sum_by-cons (λ r. cond (is_on_frequencies r) 1 0) rule list))

zeros : (list : List Rule) (man : ℕ) (weighted : Bool) → count_by is_zero (map Named list ++ Man man ∷ Weights weighted ∷ []) ≡ count_by is_on_zeros list
zeros [] man weighted = refl
zeros (rule ∷ list) man weighted =
    sum_by-cons (λ c. cond (is_zero c) 1 0) (Named rule) (map Named list ++ Man man ∷ Weights weighted ∷ [])
    ∙ rw (zero_same rule, zeros list man weighted) (sym (sum_by-cons (λ r. cond (is_on_zeros r) 1 0) rule list))

one_man : (list : List Rule) (man : ℕ) (weighted : Bool) → count_by is_man (map Named list ++ Man man ∷ Weights weighted ∷ []) ≡ 1
one_man [] man weighted = refl
one_man (rule ∷ list) man weighted = sum_by-cons (λ c. cond (is_man c) 1 0) (Named rule) (map Named list ++ Man man ∷ Weights weighted ∷ []) ∙ ap (λ (n : ℕ). 0 + n) (one_man list man weighted)

one_weights : (list : List Rule) (man : ℕ) (weighted : Bool) → count_by is_weights (map Named list ++ Man man ∷ Weights weighted ∷ []) ≡ 1
one_weights [] man weighted = refl
one_weights (rule ∷ list) man weighted = sum_by-cons (λ c. cond (is_weights c) 1 0) (Named rule) (map Named list ++ Man man ∷ Weights weighted ∷ []) ∙ ap (λ (n : ℕ). 0 + n) (one_weights list man weighted)

within_room : (n f z m w : ℕ) → 0 < n → n ≤ 8 → f ≤ 1 → z ≤ 1 → m ≡ 1 → w ≡ 1 → (nat_lt 0 n && nat_lt n 9 && nat_lt f 2 && nat_lt z 2 && nat_lt m 2 && nat_lt w 2) ≡ true
within_room n f z m w some few once zero man weights = grind arith

pub all_clauses : (list : List Rule) (man : ℕ) (weighted : Bool) → AllByRecursion IsInRange list → man ≤ 1000 → AllByRecursion IsClause (map Named list ++ Man man ∷ Weights weighted ∷ [])
all_clauses [] man weighted all h = (h, (tt, tt))
all_clauses (rule ∷ list) man weighted all h = (all.0, all_clauses list man weighted all.1 h)

text_of : (list : List Rule) (man : ℕ) (weighted : Bool) → 0 < length list → AllByRecursion IsInRange list → man ≤ 1000
    → clauses_in (pieces (32 ∷ texts_between_bars (map clause_text (map Named list ++ Man man ∷ Weights weighted ∷ [])))) ≡ Ok (map Named list ++ Man man ∷ Weights weighted ∷ [])
text_of [] man weighted some all h = absurd (omega (arith, some))
text_of (rule ∷ list) man weighted some all h = clauses_read (Named rule) (map Named list ++ Man man ∷ Weights weighted ∷ []) all.0 (all_clauses list man weighted all.1 h)

-- rules that were spelled are read again
pub rules_read : (rules : Rules) → AreInRange rules → HasEachOnce rules.list → rules_in (32 ∷ rules_text rules) ≡ Ok rules
unfolding rules_in
rules_read rules h once =
    let fine : are_rules (clauses_of rules) ≡ true =
    within_room _ (count_by is_frequency (clauses_of rules)) (count_by is_zero (clauses_of rules)) (count_by is_man (clauses_of rules)) (count_by is_weights (clauses_of rules))
    (subst (λ (l : List Rule). 0 < length l) (sym (named_again rules.list rules.man rules.weighted)) h.has_rule)
    (subst (λ (l : List Rule). length l ≤ 8) (sym (named_again rules.list rules.man rules.weighted)) h.at_most_8_rules)
    (subst (λ (n : ℕ). n ≤ 1) (sym (frequencies rules.list rules.man rules.weighted)) once.frequencies)
    (subst (λ (n : ℕ). n ≤ 1) (sym (zeros rules.list rules.man rules.weighted)) once.zeros)
    (one_man rules.list rules.man rules.weighted) (one_weights rules.list rules.man rules.weighted) in
    rw (text_of rules.list rules.man rules.weighted h.has_rule h.ranges h.man, fine, named_again rules.list rules.man rules.weighted, man_again rules.list rules.man rules.weighted, weighted_again rules.list rules.man rules.weighted) refl
