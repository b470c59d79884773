-- Lines that were spelled are read again.
use Rattle.std.proofs.Common.{◌≡◌, ℕ, ◌+◌, ◌<◌, ◌≤◌, ◌^◌, ◌==◌, true, false, List, [], ◌∷◌, ◌++◌, length, map, Ok, refl, ap, sym, ◌∙◌, subst, arith, decimal, nat_lt, pos, negsuc}
use Rattle.std.specs.Char.{is_ascii_digit}
use Rattle.std.specs.List.{AllByRecursion, list_any, list_all}
use Rattle.std.specs.Str.Lines.{strip_carriage_return}
use Rattle.std.specs.Str.Parse.{AllDigits}
use Rattle.std.proofs.lemmas.Fmt.{decimal_is_IsNumeral_wide}
use Rattle.std.proofs.lemmas.Int.{ints}
use Rattle.std.proofs.lemmas.List.Folds.{list_any-append}
use Rattle.cost_rule.specs.declared.kind.CostKind.{CostKind}
use Rattle.cost_rule.specs.declared.kind.CostKind.TheVariants as kind
use Rattle.plain_text.proofs.FirstLine.{strip-cons}
use Rattle.sdc_base.specs.Blanks.{trim}
use Rattle.sdc_base.specs.Lines.{is_line_feed, IsLine, HasNoFeed}
use Rattle.sdc_base.specs.Steps.{◌>>=◌}
use Rattle.sdc_base.specs.Tokens.{is_quote, is_name_byte, is_file_name, in_quotes}
use Rattle.sdc_base.specs.declared.method.Method.{Method}
use Rattle.sdc_base.specs.declared.method.Method.TheVariants.{Gh, Modular, Rnd}
use Rattle.sdc_base.specs.declared.rule.Rule.TheVariants.{Freq, Nk, Percent, Pq, Zero}
use Rattle.sdc_base.specs.declared.rule.Rules.{Rules}
use Rattle.job_lang.specs.declared.rule_clauses.RuleClause.{RuleClause}
use Rattle.job_lang.specs.declared.rule_clauses.RuleClause.TheVariants.{Named, Man, Weights}
use Rattle.job_lang.specs.declared.statement.Draft.{Draft}
use Rattle.job_lang.specs.declared.statement.Keyword.{Keyword}
use Rattle.job_lang.specs.declared.statement.Keyword.TheVariants.{OpenMicrodata, OpenMetadata, SpecifyTable, SafetyRule, ReadMicrodata, Apriori, Cost, Steps, Nodes, Suppress, WriteTable, Certificate, Contributors, Depth}
use Rattle.job_lang.specs.declared.statement.Instruction.{Instruction}
use Rattle.job_lang.specs.declared.statement.Instruction.TheVariants as said
use Rattle.job_lang.specs.Keywords.{keyword_of, word_in}
use Rattle.job_lang.specs.LineTokens.{end_of_tokens}
use Rattle.job_lang.specs.Arguments.{argument_of}
use Rattle.job_lang.specs.JobLimits.{IsMethod}
use Rattle.job_lang.specs.Statements.{command_of, with_said, command_line, text_says}
use Rattle.job_lang.specs.Meaning.{line_says}
use Rattle.job_lang.specs.Spelling.{word_of, quoted_each, texts_between_bars, table_number, clause_text, clauses_of, rules_text, cost_text, method_text, argument_text, said_line}
use Rattle.job_lang.specs.WritableJobs.{IsQuotable, IsSpellable, LinesAreRead}
use Rattle.job_lang.proofs.ClausesHold.{IsClause}
use Rattle.job_lang.proofs.Spelled.{IsEnded, ended_behind, ended_with, trim_dark, digit_of_value, decimal_ended}
use Rattle.job_lang.proofs.SpelledRules.{rules_read, all_clauses}
use Rattle.job_lang.proofs.SpelledArguments.{all_first, last_and, only_file_read, prior_read, output_read, depth_read, table_read, cost_read, work_read, method_read}

-- ---- what a line says

without_quotes : (names : List (List ℕ)) → AllByRecursion IsQuotable names → AllByRecursion (λ name. list_any is_quote name ≡ false) names
without_quotes [] all = tt
without_quotes (name ∷ names) all = (all.0.0, without_quotes names all.1)

nothing_read : argument_of ReadMicrodata [] ≡ Ok said.Read
unfolding argument_of end_of_tokens
nothing_read = refl

pub argument_read : (one : Instruction) → IsSpellable one → argument_of (command_of one) (argument_text one) ≡ Ok one
unfolding argument_of
argument_read (said.Microdata name) h = rw (only_file_read name h) refl
argument_read (said.Metadata name) h = rw (only_file_read name h) refl
argument_read (said.Table variables response) h = table_read variables response h.0 h.1 h.2 (without_quotes variables h.3) h.4.0
argument_read (said.Safety rules) h = rw (rules_read rules h.0 h.1) refl
argument_read said.Read h = nothing_read
argument_read (said.Prior file number separator) h =
    subst (λ (number : List ℕ). argument_of Apriori (argument_text (said.Prior file number separator)) ≡ Ok (said.Prior file number separator)) (sym h.2) (prior_read file h.0 separator h.3 h.1 h.4)
argument_read (said.Cost cost) h = rw (cost_read cost) refl
argument_read (said.Steps steps) h = rw (work_read steps h) refl
argument_read (said.Nodes nodes) h = rw (work_read nodes h) refl
argument_read (said.Suppress method) h = rw (method_read method h) refl
argument_read (said.Output number file) h =
    subst (λ (number : List ℕ). argument_of WriteTable (argument_text (said.Output number file)) ≡ Ok (said.Output number file)) (sym h.2) (output_read h.0 file h.1 h.3)
argument_read (said.Certificate name) h = rw (only_file_read name h) refl
argument_read (said.Contributors name) h = rw (only_file_read name h) refl
argument_read (said.Depth number variable depth) h =
    subst (λ (number : List ℕ). argument_of Depth (argument_text (said.Depth number variable depth)) ≡ Ok (said.Depth number variable depth)) (sym h.2) (depth_read h.0 variable depth h.1 h.3.0 h.4 h.5)

word_read : (word : Keyword) (text : List ℕ) (line : ℕ) (draft : Draft) → text_says line draft (60 ∷ word_of word ++ 62 ∷ text) ≡ (argument_of word text >>= λ one. with_said line draft one)
unfolding text_says command_line word_in keyword_of
word_read OpenMicrodata text line draft = refl
word_read OpenMetadata text line draft = refl
word_read SpecifyTable text line draft = refl
word_read SafetyRule text line draft = refl
word_read ReadMicrodata text line draft = refl
word_read Apriori text line draft = refl
word_read Cost text line draft = refl
word_read Steps text line draft = refl
word_read Nodes text line draft = refl
word_read Suppress text line draft = refl
word_read WriteTable text line draft = refl
word_read Certificate text line draft = refl
word_read Contributors text line draft = refl
word_read Depth text line draft = refl

-- a line that was spelled says what it is the line of
pub line_read : (one : Instruction) (line : ℕ) (draft : Draft) → IsSpellable one → text_says line draft (said_line one) ≡ with_said line draft one
line_read one line draft h = word_read (command_of one) (argument_text one) line draft ∙ ap (λ r. r >>= λ one. with_said line draft one) (argument_read one h)

word_says : (word : Keyword) (text : List ℕ) → line_says (60 ∷ word_of word ++ 62 ∷ text) ≡ argument_of word text
unfolding line_says word_in keyword_of
word_says OpenMicrodata text = refl
word_says OpenMetadata text = refl
word_says SpecifyTable text = refl
word_says SafetyRule text = refl
word_says ReadMicrodata text = refl
word_says Apriori text = refl
word_says Cost text = refl
word_says Steps text = refl
word_says Nodes text = refl
word_says Suppress text = refl
word_says WriteTable text = refl
word_says Certificate text = refl
word_says Contributors text = refl
word_says Depth text = refl

-- ---- ends of lines

named_end : (name : List ℕ) → IsEnded (62 ∷ 32 ∷ in_quotes name)
named_end name = ended_behind (62 ∷ 32 ∷ 34 ∷ name) (34 ∷ []) (ended_with 34 refl refl)

clause_ended : (clause : RuleClause) → IsEnded (clause_text clause)
clause_ended (Named (Freq n r)) = ended_behind (70 ∷ 82 ∷ 69 ∷ 81 ∷ 40 ∷ decimal n) (44 ∷ decimal r ++ 41 ∷ []) (ended_behind (44 ∷ decimal r) (41 ∷ []) (ended_with 41 refl refl))
clause_ended (Named (Nk n k)) = ended_behind (78 ∷ 75 ∷ 40 ∷ decimal n) (44 ∷ decimal k ++ 41 ∷ []) (ended_behind (44 ∷ decimal k) (41 ∷ []) (ended_with 41 refl refl))
clause_ended (Named (Percent p)) = ended_behind (80 ∷ 40 ∷ decimal p) (41 ∷ []) (ended_with 41 refl refl)
clause_ended (Named (Pq p q)) = ended_behind (80 ∷ 81 ∷ 40 ∷ decimal p) (44 ∷ decimal q ++ 41 ∷ []) (ended_behind (44 ∷ decimal q) (41 ∷ []) (ended_with 41 refl refl))
clause_ended (Named (Zero r)) = ended_behind (90 ∷ 69 ∷ 82 ∷ 79 ∷ 40 ∷ decimal r) (41 ∷ []) (ended_with 41 refl refl)
clause_ended (Man r) = ended_behind (77 ∷ 65 ∷ 78 ∷ 40 ∷ decimal r) (41 ∷ []) (ended_with 41 refl refl)
clause_ended (Weights false) = ended_behind (87 ∷ 71 ∷ 84 ∷ 40 ∷ decimal 0) (41 ∷ []) (ended_with 41 refl refl)
clause_ended (Weights true) = ended_behind (87 ∷ 71 ∷ 84 ∷ 40 ∷ decimal 1) (41 ∷ []) (ended_with 41 refl refl)

clauses_ended : (clause : RuleClause) (clauses : List RuleClause) → IsEnded (texts_between_bars (clause_text clause ∷ map clause_text clauses))
clauses_ended clause [] = clause_ended clause
clauses_ended clause (next ∷ clauses) = ended_behind (clause_text clause) (124 ∷ texts_between_bars (clause_text next ∷ map clause_text clauses)) (ended_behind (124 ∷ []) (texts_between_bars (clause_text next ∷ map clause_text clauses)) (clauses_ended next clauses))

rules_ended : (rules : Rules) → 0 < length rules.list → IsEnded (rules_text rules)
rules_ended rules some = of rules.list some
  where
    of : (list : List _) → 0 < length list → IsEnded (texts_between_bars (map clause_text (map Named list ++ Man rules.man ∷ Weights rules.weighted ∷ [])))
    of [] some = absurd (omega (arith, some))
    of (rule ∷ list) some = clauses_ended (Named rule) (map Named list ++ Man rules.man ∷ Weights rules.weighted ∷ [])

cost_ended : (cost : CostKind) → IsEnded (62 ∷ 32 ∷ cost_text cost)
cost_ended kind.Value = (62 ∷ 32 ∷ 86 ∷ 65 ∷ 76 ∷ 85 ∷ [], 69, refl, refl, refl)
cost_ended kind.Freq = (62 ∷ 32 ∷ 70 ∷ 82 ∷ 69 ∷ [], 81, refl, refl, refl)
cost_ended kind.One = (62 ∷ 32 ∷ 85 ∷ 78 ∷ 73 ∷ [], 84, refl, refl, refl)

method_ended : (method : Method) → IsMethod method → IsEnded (method_text method)
method_ended (Gh n) h = ended_behind (71 ∷ 72 ∷ 40 ∷ decimal n) (41 ∷ []) (ended_with 41 refl refl)
method_ended Modular h = (77 ∷ 79 ∷ 68 ∷ 40 ∷ [], 41, refl, refl, refl)
method_ended (Rnd (pos n)) h = ended_behind (82 ∷ 78 ∷ 68 ∷ 40 ∷ decimal n) (41 ∷ []) (ended_with 41 refl refl)
method_ended (Rnd (negsuc n)) h = absurd (omega (arith, ints, h.0))

argument_ended : (one : Instruction) → IsSpellable one → IsEnded (62 ∷ argument_text one)
argument_ended (said.Microdata name) h = named_end name
argument_ended (said.Metadata name) h = named_end name
argument_ended (said.Table variables response) h = ended_behind (62 ∷ 32 ∷ quoted_each variables) (124 ∷ in_quotes response) (ended_behind (124 ∷ 34 ∷ response) (34 ∷ []) (ended_with 34 refl refl))
argument_ended (said.Safety rules) h = ended_behind (62 ∷ 32 ∷ []) (rules_text rules) (rules_ended rules h.0.has_rule)
argument_ended said.Read h = ended_with 62 refl refl
argument_ended (said.Prior file number separator) h =
    ended_behind (62 ∷ 32 ∷ in_quotes file) (44 ∷ number ++ 44 ∷ in_quotes (separator ∷ []))
    (ended_behind (44 ∷ number) (44 ∷ in_quotes (separator ∷ [])) (ended_behind (44 ∷ 34 ∷ separator ∷ []) (34 ∷ []) (ended_with 34 refl refl)))
argument_ended (said.Cost cost) h = cost_ended cost
argument_ended (said.Steps steps) h = ended_behind (62 ∷ 32 ∷ []) (decimal steps) (decimal_ended steps (omega (arith, h.1)))
argument_ended (said.Nodes nodes) h = ended_behind (62 ∷ 32 ∷ []) (decimal nodes) (decimal_ended nodes (omega (arith, h.1)))
argument_ended (said.Suppress method) h = ended_behind (62 ∷ 32 ∷ []) (method_text method) (method_ended method h)
argument_ended (said.Output number file) h = ended_behind (62 ∷ 32 ∷ 40 ∷ number) (44 ∷ in_quotes file ++ 41 ∷ []) (ended_behind (44 ∷ in_quotes file) (41 ∷ []) (ended_with 41 refl refl))
argument_ended (said.Certificate name) h = named_end name
argument_ended (said.Contributors name) h = named_end name
argument_ended (said.Depth number variable depth) h =
    ended_behind (62 ∷ 32 ∷ 40 ∷ number) (44 ∷ in_quotes variable ++ (44 ∷ decimal depth ++ 41 ∷ []))
    (ended_behind (44 ∷ in_quotes variable) (44 ∷ decimal depth ++ 41 ∷ []) (ended_behind (44 ∷ decimal depth) (41 ∷ []) (ended_with 41 refl refl)))

line_ended : (one : Instruction) → IsSpellable one → IsEnded (said_line one)
line_ended one h = ended_behind (60 ∷ word_of (command_of one)) (62 ∷ argument_text one) (argument_ended one h)

pub line_trimmed : (one : Instruction) → IsSpellable one → trim (said_line one) ≡ said_line one
line_trimmed one h = trim_dark 60 (word_of (command_of one) ++ 62 ∷ argument_text one) refl (line_ended one h)

no_return : (front : List ℕ) (last : ℕ) → (last == 13) ≡ false → strip_carriage_return (front ++ last ∷ []) ≡ front ++ last ∷ []
no_return [] last h = rw h refl
no_return (b ∷ []) last h = strip-cons b last [] ∙ ap (λ (rest : List ℕ). b ∷ rest) (no_return [] last h)
no_return (b ∷ c ∷ front) last h = strip-cons b c (front ++ last ∷ []) ∙ ap (λ (rest : List ℕ). b ∷ rest) (no_return (c ∷ front) last h)

ended_line : (text : List ℕ) → IsEnded text → strip_carriage_return text ≡ text
ended_line text h = subst (λ (text : List ℕ). strip_carriage_return text ≡ text) (sym h.2) (no_return h.0 h.1 h.4)

-- ---- no LF

past : (front rest : List ℕ) → HasNoFeed front → list_any is_line_feed (front ++ rest) ≡ list_any is_line_feed rest
past front rest h = rw (list_any-append is_line_feed front rest, h) refl

byte_free : (b : ℕ) → is_name_byte b ≡ true → is_line_feed b ≡ false
byte_free b h = grind arith

bytes_free : (name : List ℕ) → list_all is_name_byte name ≡ true → HasNoFeed name
bytes_free [] h = refl
bytes_free (b ∷ name) h =
    let both = all_first (is_name_byte b) (list_all is_name_byte name) h in
    rw (byte_free b both.0, bytes_free name both.1) refl

file_free : (name : List ℕ) → is_file_name name ≡ true → HasNoFeed name
file_free name h = bytes_free name (last_and (nat_lt 0 (length name)) (nat_lt (length name) 256) (list_all is_name_byte name) h)

digit_free : (d : ℕ) → is_ascii_digit d ≡ true → is_line_feed d ≡ false
digit_free d h = grind arith

digits_free : (ds : List ℕ) → AllDigits 10 ds → HasNoFeed ds
digits_free [] h = refl
digits_free (d ∷ ds) h = rw (digit_free d (digit_of_value d h.0), digits_free ds h.1) refl

decimal_free : (n : ℕ) → n < 10 ^ 64 → HasNoFeed (decimal n)
decimal_free n h = digits_free (decimal n) (decimal_is_IsNumeral_wide n h).0.1

number_free : (place : ℕ) → place < 8 → HasNoFeed (table_number place)
number_free place h = decimal_free (place + 1) (omega (arith, h))

quoted_free : (name rest : List ℕ) → HasNoFeed name → list_any is_line_feed (in_quotes name ++ rest) ≡ list_any is_line_feed rest
quoted_free name rest h = past (in_quotes name) rest (past name (34 ∷ []) h)

alone_free : (name : List ℕ) → HasNoFeed name → HasNoFeed (in_quotes name)
alone_free name h = past name (34 ∷ []) h

each_free : (names : List (List ℕ)) (rest : List ℕ) → AllByRecursion IsQuotable names → HasNoFeed rest → HasNoFeed (quoted_each names ++ rest)
each_free names rest all h = past (quoted_each names) rest (names_free names all) ∙ h
  where
    names_free : (names : List (List ℕ)) → AllByRecursion IsQuotable names → HasNoFeed (quoted_each names)
    names_free [] all = refl
    names_free (name ∷ names) all = quoted_free name (quoted_each names) all.0.1 ∙ names_free names all.1

clause_free : (clause : RuleClause) → IsClause clause → HasNoFeed (clause_text clause)
clause_free (Named (Freq n r)) h = past (decimal n) (44 ∷ decimal r ++ 41 ∷ []) (decimal_free n (omega (arith, h.1))) ∙ past (decimal r) (41 ∷ []) (decimal_free r (omega (arith, h.2)))
clause_free (Named (Nk n k)) h = past (decimal n) (44 ∷ decimal k ++ 41 ∷ []) (decimal_free n (omega (arith, h.1))) ∙ past (decimal k) (41 ∷ []) (decimal_free k (omega (arith, h.3)))
clause_free (Named (Percent p)) h = past (decimal p) (41 ∷ []) (decimal_free p (omega (arith, h.1)))
clause_free (Named (Pq p q)) h = past (decimal p) (44 ∷ decimal q ++ 41 ∷ []) (decimal_free p (omega (arith, h.1))) ∙ past (decimal q) (41 ∷ []) (decimal_free q (omega (arith, h.3)))
clause_free (Named (Zero r)) h = past (decimal r) (41 ∷ []) (decimal_free r (omega (arith, h.1)))
clause_free (Man r) h = past (decimal r) (41 ∷ []) (decimal_free r (omega (arith, h)))
clause_free (Weights false) h = past (decimal 0) (41 ∷ []) (decimal_free 0 (omega arith))
clause_free (Weights true) h = past (decimal 1) (41 ∷ []) (decimal_free 1 (omega arith))

clauses_free : (clauses : List RuleClause) → AllByRecursion IsClause clauses → HasNoFeed (texts_between_bars (map clause_text clauses))
clauses_free [] all = refl
clauses_free (clause ∷ []) all = clause_free clause all.0
clauses_free (clause ∷ next ∷ clauses) all = past (clause_text clause) (124 ∷ texts_between_bars (clause_text next ∷ map clause_text clauses)) (clause_free clause all.0) ∙ clauses_free (next ∷ clauses) all.1

cost_free : (cost : CostKind) → HasNoFeed (cost_text cost)
cost_free kind.Value = refl
cost_free kind.Freq = refl
cost_free kind.One = refl

method_free : (method : Method) → IsMethod method → HasNoFeed (method_text method)
method_free (Gh n) h = past (decimal n) (41 ∷ []) (decimal_free n (omega (arith, h.1)))
method_free Modular h = refl
method_free (Rnd (pos n)) h = let high : n ≤ 1000000000 = omega (arith, ints, h.1) in past (decimal n) (41 ∷ []) (decimal_free n (omega (arith, high)))
method_free (Rnd (negsuc n)) h = absurd (omega (arith, ints, h.0))

separator_free : (separator : ℕ) → is_line_feed separator ≡ false → HasNoFeed (44 ∷ in_quotes (separator ∷ []))
separator_free separator h = rw h refl

argument_free : (one : Instruction) → IsSpellable one → HasNoFeed (argument_text one)
argument_free (said.Microdata name) h = alone_free name (file_free name h)
argument_free (said.Metadata name) h = alone_free name (file_free name h)
argument_free (said.Table variables response) h = each_free variables (124 ∷ in_quotes response) h.3 (alone_free response h.4.1)
argument_free (said.Safety rules) h = clauses_free (clauses_of rules) (all_clauses rules.list rules.man rules.weighted h.0.ranges h.0.man)
argument_free said.Read h = refl
argument_free (said.Prior file number separator) h =
    let digits : HasNoFeed number = subst HasNoFeed (sym h.2) (number_free h.0 h.1) in
    quoted_free file (44 ∷ number ++ 44 ∷ in_quotes (separator ∷ [])) (file_free file h.3) ∙ past number (44 ∷ in_quotes (separator ∷ [])) digits ∙ separator_free separator h.5
argument_free (said.Cost cost) h = cost_free cost
argument_free (said.Steps steps) h = decimal_free steps (omega (arith, h.1))
argument_free (said.Nodes nodes) h = decimal_free nodes (omega (arith, h.1))
argument_free (said.Suppress method) h = method_free method h
argument_free (said.Output number file) h =
    let digits : HasNoFeed number = subst HasNoFeed (sym h.2) (number_free h.0 h.1) in
    past number (44 ∷ in_quotes file ++ 41 ∷ []) digits ∙ quoted_free file (41 ∷ []) (file_free file h.3)
argument_free (said.Certificate name) h = alone_free name (file_free name h)
argument_free (said.Contributors name) h = alone_free name (file_free name h)
argument_free (said.Depth number variable depth) h =
    let digits : HasNoFeed number = subst HasNoFeed (sym h.2) (number_free h.0 h.1) in
    past number (44 ∷ in_quotes variable ++ (44 ∷ decimal depth ++ 41 ∷ [])) digits ∙ quoted_free variable (44 ∷ decimal depth ++ 41 ∷ []) h.3.1 ∙ past (decimal depth) (41 ∷ []) (decimal_free depth (omega (arith, h.5)))

word_free : (word : Keyword) (text : List ℕ) → list_any is_line_feed (60 ∷ word_of word ++ 62 ∷ text) ≡ list_any is_line_feed text
word_free OpenMicrodata text = refl
word_free OpenMetadata text = refl
word_free SpecifyTable text = refl
word_free SafetyRule text = refl
word_free ReadMicrodata text = refl
word_free Apriori text = refl
word_free Cost text = refl
word_free Steps text = refl
word_free Nodes text = refl
word_free Suppress text = refl
word_free WriteTable text = refl
word_free Certificate text = refl
word_free Contributors text = refl
word_free Depth text = refl

pub line_line : (one : Instruction) → IsSpellable one → IsLine (said_line one)
line_line one h = record {
  no_feed = word_free (command_of one) (argument_text one) ∙ argument_free one h;
  no_return = ended_line (said_line one) (line_ended one h);
}

pub lines_read : LinesAreRead
lines_read one h = (word_says (command_of one) (argument_text one) ∙ argument_read one h, line_trimmed one h, line_line one h)
