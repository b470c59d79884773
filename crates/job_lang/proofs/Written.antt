-- What a line says can be written again.
use Rattle.std.proofs.Common.{◌≡◌, ℕ, zero, suc, ◌+◌, ◌≤◌, ◌==◌, Bool, true, false, cond, List, [], ◌∷◌, length, take, drop, Some, Option, None, Ok, refl, ap, subst, arith, nat_lt}
use Rattle.std.specs.Prelude.{◌&&◌, not}
use Rattle.std.specs.Char.{is_ascii_digit}
use Rattle.std.specs.Result.{IfOk}
use Rattle.std.specs.List.{AllByRecursion, list_any, count_by, position_or_len, before_first}
use Rattle.std.specs.Str.{all_ascii_digits}
use Rattle.std.proofs.lemmas.List.Sums.{sum_by-cons}
use Rattle.sdc_base.specs.CutTrees.{whole_depth}
use Rattle.sdc_base.specs.Blanks.{trim, trim_front}
use Rattle.sdc_base.specs.Lines.{is_line_feed, HasNoFeed}
use Rattle.sdc_base.specs.Steps.{◌>>=◌, or_fault, refuse}
use Rattle.sdc_base.specs.Tokens.{is_quote, is_number, is_file_name, is_close}
use Rattle.job_lang.specs.declared.faults.JobWhy.TheVariants.{BadLine, BadValue}
use Rattle.job_lang.specs.declared.rule_clauses.RuleClause.{RuleClause}
use Rattle.job_lang.specs.declared.rule_clauses.RuleClause.TheVariants.{Named, Man, Weights}
use Rattle.job_lang.specs.declared.statement.Keyword.{Keyword}
use Rattle.job_lang.specs.declared.statement.Keyword.TheVariants.{OpenMicrodata, OpenMetadata, SpecifyTable, SafetyRule, ReadMicrodata, Apriori, Cost, Steps, Nodes, Suppress, WriteTable, Certificate, Contributors, Depth}
use Rattle.job_lang.specs.declared.statement.Instruction.{Instruction}
use Rattle.job_lang.specs.declared.statement.Instruction.TheVariants as said
use Rattle.job_lang.specs.Keywords.{word_in}
use Rattle.job_lang.specs.LineTokens.{is_next, behind_mark, quoted_at, run_of, behind_run, number_at, digits_at, without_zeros, end_of_tokens, closing_token}
use Rattle.job_lang.specs.Pieces.{pieces}
use Rattle.job_lang.specs.RuleTexts.{named_in, is_frequency, is_zero, is_man, is_weights, are_rules, rules_in}
use Rattle.job_lang.specs.RuleClauses.{clauses_in}
use Rattle.job_lang.specs.TableTexts.{most_variables, names_up_to, is_twice, quoted_part, behind_again, are_free_parts, table_argument}
use Rattle.job_lang.specs.Arguments.{file_at, only_file, may_separate, separator_of, prior_argument, output_argument, depth_argument, cost_argument, work_argument, argument_of}
use Rattle.job_lang.specs.MethodTexts.{method_argument}
use Rattle.job_lang.specs.WritableJobs.{is_on_frequencies, is_on_zeros, HasEachOnce, IsQuotable}
use Rattle.job_lang.proofs.Known.{then_known, known, either_known, not_refused, was_some}
use Rattle.job_lang.proofs.Spelled.{or_left, or_right}
use Rattle.job_lang.proofs.SpelledRules.{frequency_same, zero_same}

-- ---- parts of a list

none_dropped : (p : ℕ → Bool) (n : ℕ) (xs : List ℕ) → list_any p xs ≡ false → list_any p (drop n xs) ≡ false
none_dropped p zero xs h = h
none_dropped p (suc n) [] h = refl
none_dropped p (suc n) (x ∷ xs) h = none_dropped p n xs (or_right (p x) (list_any p xs) h)

none_taken : (p : ℕ → Bool) (n : ℕ) (xs : List ℕ) → list_any p xs ≡ false → list_any p (take n xs) ≡ false
none_taken p zero xs h = refl
none_taken p (suc n) [] h = refl
none_taken p (suc n) (x ∷ xs) h = rw (or_left (p x) (list_any p xs) h) (none_taken p n xs (or_right (p x) (list_any p xs) h))

-- none before the first
none_before : (p : ℕ → Bool) (xs : List ℕ) → list_any p (before_first p xs) ≡ false
none_before p [] = refl
none_before p (x ∷ xs) =
    elim (p x) as (λ t. p x ≡ t → list_any p (take (cond (not t) (1 + position_or_len p xs) 0) (x ∷ xs)) ≡ false) [
      | true ↦ λ is. refl
      | false ↦ λ is.
          let far : 1 + position_or_len p xs ≡ suc (position_or_len p xs) = omega arith in
          rw far (rw is (none_before p xs))
    ] refl

pub trimmed_free : (text : List ℕ) → HasNoFeed text → HasNoFeed (trim text)
trimmed_free text h = none_taken is_line_feed _ (trim_front text) (none_dropped is_line_feed _ text h)

-- ---- tokens

mark_written : (mark : ℕ) (text : List ℕ) → HasNoFeed text → IfOk (behind_mark mark text) HasNoFeed
unfolding behind_mark
mark_written mark text h = then_known HasNoFeed (refuse BadValue (not (is_next mark text))) _ (λ there g. none_dropped is_line_feed 1 (trim text) (trimmed_free text h))

-- a name that can be written, and the text behind it without LF
abbrev IsWord : (List ℕ × List ℕ) → Type 0
IsWord word = IsQuotable word.0 × HasNoFeed word.1

quoted_written : (text : List ℕ) → HasNoFeed text → IfOk (quoted_at text) IsWord
unfolding quoted_at
quoted_written text h =
    then_known IsWord (behind_mark 34 text) _ (λ inside g.
    let free = known HasNoFeed (behind_mark 34 text) inside (mark_written 34 text h) g in
    then_known IsWord (refuse BadValue (not (list_any is_quote inside))) _ (λ closed_ k.
    ((none_before is_quote inside, none_taken is_line_feed _ inside free), none_dropped is_line_feed _ inside free)))

run_free : (text : List ℕ) → HasNoFeed text → HasNoFeed (behind_run text)
run_free text h = none_dropped is_line_feed _ (trim text) (trimmed_free text h)

-- no zero in front
abbrev pub IsUnpadded : List ℕ → Type 0
IsUnpadded [] = Unit {0}
IsUnpadded (d ∷ digits) = (d == 48) ≡ false

unpadded : (digits : List ℕ) → IsUnpadded (without_zeros digits)
unpadded [] = tt
unpadded (d ∷ digits) =
    elim (d == 48) as (λ t. (d == 48) ≡ t → IsUnpadded (drop (cond (not (not t)) (1 + position_or_len (λ b. not (b == 48)) digits) 0) (d ∷ digits))) [
      | true ↦ λ is.
          let far : 1 + position_or_len (λ b. not (b == 48)) digits ≡ suc (position_or_len (λ b. not (b == 48)) digits) = omega arith in
          rw far (unpadded digits)
      | false ↦ λ is. is
    ] refl

digits_dropped : (n : ℕ) (digits : List ℕ) → all_ascii_digits digits ≡ true → all_ascii_digits (drop n digits) ≡ true
digits_dropped zero digits h = h
digits_dropped (suc n) [] h = refl
digits_dropped (suc n) (d ∷ digits) h = digits_dropped n digits (second (is_ascii_digit d) (all_ascii_digits digits) h)
  where
    second : (a b : Bool) → (a && b) ≡ true → b ≡ true
    second true b h = h
    second false b h = absurd cc

-- digits without a zero in front
abbrev pub IsDigits : List ℕ → Type 0
IsDigits digits = IsUnpadded digits × (all_ascii_digits digits ≡ true)

-- such digits, and the text behind them without LF
abbrev IsNumber : (List ℕ × List ℕ) → Type 0
IsNumber number = IsDigits number.0 × HasNoFeed number.1

is_digits : (digits : List ℕ) → not (is_number digits) ≡ false → all_ascii_digits digits ≡ true
is_digits digits h = both (length digits == 0) (all_ascii_digits digits) h
  where
    both : (a b : Bool) → not (not a && b) ≡ false → b ≡ true
    both true b h = absurd cc
    both false true h = refl
    both false false h = absurd cc

digits_written : (text : List ℕ) → HasNoFeed text → IfOk (digits_at text) IsNumber
unfolding digits_at
digits_written text h =
    then_known IsNumber (refuse BadValue (not (is_number (run_of text)))) _ (λ digits g.
    let all = is_digits (run_of text) (not_refused BadValue (not (is_number (run_of text))) digits g) in
    ((unpadded (run_of text), digits_dropped _ (run_of text) all), run_free text h))

-- ---- arguments

-- a file has a name
abbrev pub IsNamed : List ℕ → Type 0
IsNamed name = is_file_name name ≡ true

-- what is said has names that can be written, at most one rule on frequencies, and numbers by their digits
abbrev pub IsWritten : Instruction → Type 0
IsWritten (said.Microdata name) = IsNamed name
IsWritten (said.Metadata name) = IsNamed name
IsWritten (said.Table variables response) = AllByRecursion IsQuotable variables × IsQuotable response
IsWritten (said.Safety rules) = HasEachOnce rules.list
IsWritten (said.Prior file number separator) = IsNamed file × IsDigits number × (may_separate separator ≡ true) × (is_line_feed separator ≡ false)
IsWritten (said.Output number file) = IsNamed file × IsDigits number
IsWritten (said.Certificate name) = IsNamed name
IsWritten (said.Contributors name) = IsNamed name
IsWritten (said.Depth number variable depth) = IsDigits number × IsQuotable variable
IsWritten one = Unit {0}

-- a file's name, and the text behind it without LF
abbrev IsFile : (List ℕ × List ℕ) → Type 0
IsFile file = IsNamed file.0 × HasNoFeed file.1

was_true : (t : Bool) → not t ≡ false → t ≡ true
was_true true h = refl
was_true false h = absurd cc

file_written : (text : List ℕ) → HasNoFeed text → IfOk (file_at text) IsFile
unfolding file_at
file_written text h =
    then_known IsFile (quoted_at text) _ (λ name g.
    then_known IsFile (refuse BadValue (not (is_file_name name.0))) _ (λ fine k.
    (was_true (is_file_name name.0) (not_refused BadValue (not (is_file_name name.0)) fine k), (known IsWord (quoted_at text) name (quoted_written text h) g).1)))

only_written : (text : List ℕ) → HasNoFeed text → IfOk (only_file text) IsNamed
unfolding only_file
only_written text h =
    then_known IsNamed (file_at text) _ (λ name g.
    then_known IsNamed (end_of_tokens name.1) _ (λ end k. (known IsFile (file_at text) name (file_written text h) g).0))

one_byte : (separates : ℕ → Bool) (b x : ℕ) → cond (separates b) (Some b) None ≡ Some x → (separates x ≡ true) × (b ≡ x)
one_byte separates b x h =
    elim (separates b) as (λ t. separates b ≡ t → ◌≡◌ {A = Option ℕ} (cond t (Some b) None) (Some x) → (separates x ≡ true) × (b ≡ x)) [
      | true ↦ λ is g. let same : b ≡ x = cc in (subst (λ (y : ℕ). separates y ≡ true) same is, same)
      | false ↦ λ is g. absurd cc
    ] refl h

separator_written : (word : List ℕ) (separator : ℕ) → HasNoFeed word → separator_of word ≡ Some separator → (may_separate separator ≡ true) × (is_line_feed separator ≡ false)
separator_written [] separator free h = absurd cc
separator_written (b ∷ []) separator free h =
    let is = one_byte may_separate b separator h in
    (is.0, subst (λ (x : ℕ). is_line_feed x ≡ false) is.1 (or_left (is_line_feed b) false free))
separator_written (b ∷ c ∷ word) separator free h = absurd cc

prior_written : (text : List ℕ) → HasNoFeed text → IfOk (prior_argument text) IsWritten
unfolding prior_argument
prior_written text h =
    then_known IsWritten (file_at text) _ (λ file g.
    let a = known IsFile (file_at text) file (file_written text h) g in
    then_known IsWritten (behind_mark 44 file.1) _ (λ comma g1.
    let b = known HasNoFeed (behind_mark 44 file.1) comma (mark_written 44 file.1 a.1) g1 in
    then_known IsWritten (digits_at comma) _ (λ number g2.
    let d = known IsNumber (digits_at comma) number (digits_written comma b) g2 in
    then_known IsWritten (behind_mark 44 number.1) _ (λ again g3.
    let e = known HasNoFeed (behind_mark 44 number.1) again (mark_written 44 number.1 d.1) g3 in
    then_known IsWritten (quoted_at again) _ (λ word g4.
    let f = known IsWord (quoted_at again) word (quoted_written again e) g4 in
    then_known IsWritten (or_fault BadValue (separator_of word.0)) _ (λ separator g5.
    then_known IsWritten (end_of_tokens word.1) _ (λ end g6.
    let s = separator_written word.0 separator f.0.1 (was_some BadValue (separator_of word.0) separator g5) in (a.0, d.0, s.0, s.1))))))))

output_written : (text : List ℕ) → HasNoFeed text → IfOk (output_argument text) IsWritten
unfolding output_argument
output_written text h =
    then_known IsWritten (behind_mark 40 text) _ (λ open_ g.
    let a = known HasNoFeed (behind_mark 40 text) open_ (mark_written 40 text h) g in
    then_known IsWritten (digits_at open_) _ (λ number g1.
    let b = known IsNumber (digits_at open_) number (digits_written open_ a) g1 in
    then_known IsWritten (behind_mark 44 number.1) _ (λ comma g2.
    let d = known HasNoFeed (behind_mark 44 number.1) comma (mark_written 44 number.1 b.1) g2 in
    then_known IsWritten (file_at comma) _ (λ file g3.
    then_known IsWritten (closing_token file.1) _ (λ end g4. ((known IsFile (file_at comma) file (file_written comma d) g3).0, b.0))))))

depth_written : (text : List ℕ) → HasNoFeed text → IfOk (depth_argument text) IsWritten
unfolding depth_argument
depth_written text h =
    then_known IsWritten (behind_mark 40 text) _ (λ open_ g.
    let a = known HasNoFeed (behind_mark 40 text) open_ (mark_written 40 text h) g in
    then_known IsWritten (digits_at open_) _ (λ number g1.
    let b = known IsNumber (digits_at open_) number (digits_written open_ a) g1 in
    then_known IsWritten (behind_mark 44 number.1) _ (λ comma g2.
    let d = known HasNoFeed (behind_mark 44 number.1) comma (mark_written 44 number.1 b.1) g2 in
    then_known IsWritten (quoted_at comma) _ (λ variable g3.
    then_known IsWritten (behind_mark 44 variable.1) _ (λ again g4.
    then_known IsWritten (number_at 1 whole_depth again) _ (λ depth g5.
    then_known IsWritten (closing_token depth.1) _ (λ end g6. (b.0, (known IsWord (quoted_at comma) variable (quoted_written comma d) g3).0))))))))

-- names that can be written, and the text behind them without LF
abbrev AreWords : (List (List ℕ) × List ℕ) → Type 0
AreWords words = AllByRecursion IsQuotable words.0 × HasNoFeed words.1

names_written : (most : ℕ) (text : List ℕ) → HasNoFeed text → IfOk (names_up_to most text) AreWords
unfolding names_up_to
names_written zero text h = (tt, h)
names_written (suc most) text h =
    either_known AreWords (is_next 34 text) (quoted_at text >>= λ name. names_up_to most name.1 >>= λ more. Ok (name.0 ∷ more.0, more.1)) (Ok ([], text))
    (then_known AreWords (quoted_at text) _ (λ name g.
    let a = known IsWord (quoted_at text) name (quoted_written text h) g in
    then_known AreWords (names_up_to most name.1) _ (λ more g1.
    let b = known AreWords (names_up_to most name.1) more (names_written most name.1 a.1) g1 in ((a.0, b.0), b.1))))
    (tt, h)

table_written : (text : List ℕ) → HasNoFeed text → IfOk (table_argument text) IsWritten
unfolding table_argument
table_written text h =
    then_known IsWritten (names_up_to most_variables text) _ (λ variables g.
    let a = known AreWords (names_up_to most_variables text) variables (names_written most_variables text h) g in
    then_known IsWritten (refuse BadValue (length variables.0 == 0)) _ (λ some g1.
    then_known IsWritten (refuse BadValue (is_twice variables.0)) _ (λ once g2.
    then_known IsWritten (behind_mark 124 variables.1) _ (λ bar g3.
    let b = known HasNoFeed (behind_mark 124 variables.1) bar (mark_written 124 variables.1 a.1) g3 in
    then_known IsWritten (quoted_at bar) _ (λ response g4.
    then_known IsWritten (refuse BadValue (not (are_free_parts (behind_again response.0 response.1 (quoted_part response.1))))) _ (λ free g5.
    (a.0, (known IsWord (quoted_at bar) response (quoted_written bar b) g4).0)))))))

named_frequencies : (clauses : List RuleClause) → count_by is_on_frequencies (named_in clauses) ≤ count_by is_frequency clauses
named_frequencies [] = omega arith
named_frequencies (Named one ∷ clauses) =
    let rest = named_frequencies clauses in
    let a = sum_by-cons (λ r. cond (is_on_frequencies r) 1 0) one (named_in clauses) in
    let b = sum_by-cons (λ c. cond (is_frequency c) 1 0) (Named one) clauses in
    let same : ◌≡◌ {A = ℕ} (cond (is_frequency (Named one)) 1 0) (cond (is_on_frequencies one) 1 0) = ap (λ (t : Bool). cond t 1 0) (frequency_same one) in
    omega (arith, rest, a, b, same)
named_frequencies (Man r ∷ clauses) = let rest = named_frequencies clauses in let b = sum_by-cons (λ c. cond (is_frequency c) 1 0) (Man r) clauses in omega (arith, rest, b)
named_frequencies (Weights flag ∷ clauses) = let rest = named_frequencies clauses in let b = sum_by-cons (λ c. cond (is_frequency c) 1 0) (Weights flag) clauses in omega (arith, rest, b)

named_zeros : (clauses : List RuleClause) → count_by is_on_zeros (named_in clauses) ≤ count_by is_zero clauses
named_zeros [] = omega arith
named_zeros (Named one ∷ clauses) =
    let rest = named_zeros clauses in
    let a = sum_by-cons (λ r. cond (is_on_zeros r) 1 0) one (named_in clauses) in
    let b = sum_by-cons (λ c. cond (is_zero c) 1 0) (Named one) clauses in
    let same : ◌≡◌ {A = ℕ} (cond (is_zero (Named one)) 1 0) (cond (is_on_zeros one) 1 0) = ap (λ (t : Bool). cond t 1 0) (zero_same one) in
    omega (arith, rest, a, b, same)
named_zeros (Man r ∷ clauses) = let rest = named_zeros clauses in let b = sum_by-cons (λ c. cond (is_zero c) 1 0) (Man r) clauses in omega (arith, rest, b)
named_zeros (Weights flag ∷ clauses) = let rest = named_zeros clauses in let b = sum_by-cons (λ c. cond (is_zero c) 1 0) (Weights flag) clauses in omega (arith, rest, b)

few_of_each : (a b d e : Bool) (f z : ℕ) → not (a && b && nat_lt f 2 && nat_lt z 2 && d && e) ≡ false → (f ≤ 1) × (z ≤ 1)
few_of_each a b d e f z h = grind arith

rules_written : (text : List ℕ) → IfOk (rules_in text) (λ rules. HasEachOnce rules.list)
unfolding rules_in
rules_written text =
    then_known (λ rules. HasEachOnce rules.list) (clauses_in (pieces text)) _ (λ clauses g.
    then_known (λ rules. HasEachOnce rules.list) (refuse BadValue (not (are_rules clauses))) _ (λ fine g1.
    let few = few_of_each (nat_lt 0 (length (named_in clauses))) (nat_lt (length (named_in clauses)) 9) (nat_lt (count_by is_man clauses) 2) (nat_lt (count_by is_weights clauses) 2) (count_by is_frequency clauses) (count_by is_zero clauses)
    (not_refused BadValue (not (are_rules clauses)) fine g1) in
    record { frequencies = omega (arith, few.0, named_frequencies clauses); zeros = omega (arith, few.1, named_zeros clauses) }))

pub argument_written : (keyword : Keyword) (text : List ℕ) → HasNoFeed text → IfOk (argument_of keyword text) IsWritten
unfolding argument_of
argument_written OpenMicrodata text h = then_known IsWritten (only_file text) _ (λ name g. known IsNamed (only_file text) name (only_written text h) g)
argument_written OpenMetadata text h = then_known IsWritten (only_file text) _ (λ name g. known IsNamed (only_file text) name (only_written text h) g)
argument_written SpecifyTable text h = table_written text h
argument_written SafetyRule text h = then_known IsWritten (rules_in text) _ (λ rules g. known (λ rules. HasEachOnce rules.list) (rules_in text) rules (rules_written text) g)
argument_written ReadMicrodata text h = then_known IsWritten (end_of_tokens text) _ (λ end g. tt)
argument_written Apriori text h = prior_written text h
argument_written Cost text h = then_known IsWritten (cost_argument text) _ (λ cost g. tt)
argument_written Steps text h = then_known IsWritten (work_argument text) _ (λ steps g. tt)
argument_written Nodes text h = then_known IsWritten (work_argument text) _ (λ nodes g. tt)
argument_written Suppress text h = then_known IsWritten (method_argument text) _ (λ method g. tt)
argument_written WriteTable text h = output_written text h
argument_written Certificate text h = then_known IsWritten (only_file text) _ (λ name g. known IsNamed (only_file text) name (only_written text h) g)
argument_written Contributors text h = then_known IsWritten (only_file text) _ (λ name g. known IsNamed (only_file text) name (only_written text h) g)
argument_written Depth text h = depth_written text h

-- a command's argument has no LF where the line has none
abbrev IsArgument : (List ℕ × List ℕ) → Type 0
IsArgument word = HasNoFeed word.1

pub word_free : (text : List ℕ) → HasNoFeed text → IfOk (word_in text) IsArgument
unfolding word_in
word_free [] h = tt
word_free (b ∷ text) h =
    then_known IsArgument (refuse BadLine (not (b == 60))) _ (λ opened g.
    then_known IsArgument (refuse BadLine (not (list_any is_close text))) _ (λ closed_ g1.
    then_known IsArgument (refuse BadLine (length (before_first is_close text) == 0)) _ (λ some g2.
    none_dropped is_line_feed _ text (or_right (is_line_feed b) (list_any is_line_feed text) h))))
