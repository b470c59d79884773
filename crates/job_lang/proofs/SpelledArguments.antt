-- Arguments that were spelled are read again.
use Rattle.std.proofs.Common.{◌≡◌, ℕ, zero, suc, ◌+◌, ◌-◌, ◌<◌, ◌≤◌, ◌==◌, ◌||◌, Bool, true, false, List, [], ◌∷◌, ◌++◌, length, Ok, refl, ap, sym, ◌∙◌, subst, arith, append_assoc, decimal, codes, nat_lt, pos, negsuc}
use Rattle.std.specs.Prelude.{◌&&◌}
use Rattle.std.specs.Char.{is_ascii_digit}
use Rattle.std.specs.List.{AllByRecursion, IsDistinct, list_any, list_all}
use Rattle.std.specs.Set.{distinct_count}
use Rattle.std.specs.Str.{bytes_eq}
use Rattle.std.specs.Cmp.Lexicographic.{nat_list_eq_equiv}
use Rattle.std.proofs.lemmas.Fmt.{decimal_digit}
use Rattle.std.proofs.lemmas.Int.{ints}
use Rattle.std.proofs.lemmas.List.{append-nil}
use Rattle.std.proofs.lemmas.Map.Made.{distinct_count-from_IsDistinct}
use Rattle.cost_rule.specs.declared.kind.CostKind.{CostKind}
use Rattle.cost_rule.specs.declared.kind.CostKind.TheVariants as kind
use Rattle.sdc_base.specs.Blanks.{trim}
use Rattle.sdc_base.specs.CutTrees.{whole_depth}
use Rattle.sdc_base.specs.Tokens.{is_quote, is_name_byte, is_file_name, in_quotes}
use Rattle.sdc_base.specs.declared.method.Method.{Method}
use Rattle.sdc_base.specs.declared.method.Method.TheVariants.{Gh, Modular, Rnd}
use Rattle.job_lang.specs.declared.statement.Instruction.TheVariants as said
use Rattle.job_lang.specs.LineTokens.{begins_with, is_break, is_next, behind_mark, quoted_at, number_at, digits_at, end_of_tokens, closing_token}
use Rattle.job_lang.specs.TableTexts.{most_variables, names_up_to, is_twice, quoted_part, behind_again, are_free_parts, table_argument}
use Rattle.job_lang.specs.Arguments.{file_at, only_file, may_separate, prior_argument, output_argument, depth_argument, cost_of, cost_argument, most_work, work_argument}
use Rattle.job_lang.specs.MethodTexts.{passes_method, modular_method, rounding_method, method_argument}
use Rattle.job_lang.specs.JobLimits.{IsMethod, IsWork}
use Rattle.job_lang.specs.Spelling.{quoted_each, number_in_parentheses, table_number, cost_text, method_text}
use Rattle.job_lang.proofs.Spelled.{not_zero, IsEnded, ended_behind, ended_with, trim_dark, trim_space, quoted_clean, quoted_read, mark_read, run_read, number_read, last_number_read}
use Rattle.job_lang.proofs.SpelledRules.{closed_read, enclosed_read, run_space, behind_space}

-- ---- behind a space

mark_space : (mark : ℕ) (text : List ℕ) → behind_mark mark (32 ∷ text) ≡ behind_mark mark text
unfolding behind_mark
mark_space mark text = rw (trim_space text) refl

quoted_space : (text : List ℕ) → quoted_at (32 ∷ text) ≡ quoted_at text
unfolding quoted_at
quoted_space text = rw (mark_space 34 text) refl

number_space : (low high : ℕ) (text : List ℕ) → number_at low high (32 ∷ text) ≡ number_at low high text
unfolding number_at
number_space low high text = rw (run_space text, behind_space text) refl

nothing_more : end_of_tokens [] ≡ Ok tt
unfolding end_of_tokens
nothing_more = refl

-- ---- files

no_quote : (b : ℕ) → is_name_byte b ≡ true → is_quote b ≡ false
no_quote b h = grind arith

pub all_first : (x y : Bool) → (x && y) ≡ true → (x ≡ true) × (y ≡ true)
all_first true y h = (refl, h)
all_first false y h = absurd cc

no_quotes : (name : List ℕ) → list_all is_name_byte name ≡ true → list_any is_quote name ≡ false
no_quotes [] h = refl
no_quotes (b ∷ name) h =
    let both = all_first (is_name_byte b) (list_all is_name_byte name) h in
    rw (no_quote b both.0, no_quotes name both.1) refl

pub last_and : (x y z : Bool) → (x && y && z) ≡ true → z ≡ true
last_and true true z h = h
last_and true false z h = absurd cc
last_and false y z h = absurd cc

pub file_plain : (name : List ℕ) → is_file_name name ≡ true → list_any is_quote name ≡ false
file_plain name h = no_quotes name (last_and (nat_lt 0 (length name)) (nat_lt (length name) 256) (list_all is_name_byte name) h)

file_read : (name rest : List ℕ) → is_file_name name ≡ true → IsEnded (34 ∷ rest) → file_at (in_quotes name ++ rest) ≡ Ok (name, rest)
unfolding file_at
file_read name rest h ends = rw (quoted_read name rest (file_plain name h) ends, h) refl

file_space : (text : List ℕ) → file_at (32 ∷ text) ≡ file_at text
unfolding file_at
file_space text = rw (quoted_space text) refl

pub only_file_read : (name : List ℕ) → is_file_name name ≡ true → only_file (32 ∷ in_quotes name) ≡ Ok name
unfolding only_file
only_file_read name h =
    let file : file_at (32 ∷ in_quotes name) ≡ Ok (name, []) = file_space (in_quotes name) ∙ ap file_at (sym (append-nil (in_quotes name))) ∙ file_read name [] h (ended_with 34 refl refl) in
    rw (file, nothing_more) refl

-- ---- numbers of tables

digit_facts : (place : ℕ) → place < 8 → (is_ascii_digit (48 + (place + 1)) ≡ true) × (is_break (48 + (place + 1)) ≡ false) × ((48 + (place + 1) == 48) ≡ false)
digit_facts place h = grind arith

digit_read : (d stop : ℕ) (rest : List ℕ) → is_ascii_digit d ≡ true → is_break d ≡ false → (d == 48) ≡ false → is_break stop ≡ true → IsEnded (stop ∷ rest) → digits_at ((d ∷ []) ++ stop ∷ rest) ≡ Ok (d ∷ [], stop ∷ rest)
unfolding digits_at
digit_read d stop rest digit whole some here ends =
    let run = run_read d [] stop rest (rw whole refl) here ends in
    rw (run.0, run.1, digit, some) refl

pub number_is : (place : ℕ) → place < 8 → table_number place ≡ (48 + (place + 1)) ∷ []
number_is place h = decimal_digit (place + 1) (omega (arith, h))

table_number_read : (place stop : ℕ) (rest : List ℕ) → place < 8 → is_break stop ≡ true → IsEnded (stop ∷ rest) → digits_at (table_number place ++ stop ∷ rest) ≡ Ok (table_number place, stop ∷ rest)
table_number_read place stop rest h here ends =
    let digit = digit_facts place h in
    subst (λ (number : List ℕ). digits_at (number ++ stop ∷ rest) ≡ Ok (number, stop ∷ rest)) (sym (number_is place h)) (digit_read (48 + (place + 1)) stop rest digit.0 digit.1 digit.2 here ends)

-- ---- a priori files, outputs and depths

plain_separator : (b : ℕ) → may_separate b ≡ true → (is_quote b || false) ≡ false
plain_separator b h = grind arith

pub prior_read : (file : List ℕ) (place separator : ℕ) → is_file_name file ≡ true → place < 8 → may_separate separator ≡ true
    → prior_argument (32 ∷ in_quotes file ++ (44 ∷ table_number place ++ 44 ∷ in_quotes (separator ∷ []))) ≡ Ok (said.Prior file (table_number place) separator)
unfolding prior_argument
prior_read file place separator named few separates =
    let last : IsEnded (44 ∷ in_quotes (separator ∷ [])) = ended_behind (44 ∷ 34 ∷ separator ∷ []) (34 ∷ []) (ended_with 34 refl refl) in
    let behind : IsEnded (44 ∷ table_number place ++ 44 ∷ in_quotes (separator ∷ [])) = ended_behind (44 ∷ table_number place) (44 ∷ in_quotes (separator ∷ [])) last in
    let word : quoted_at (in_quotes (separator ∷ [])) ≡ Ok (separator ∷ [], []) = quoted_read (separator ∷ []) [] (plain_separator separator separates) (ended_with 34 refl refl) in
    rw (
      file_space (in_quotes file ++ (44 ∷ table_number place ++ 44 ∷ in_quotes (separator ∷ []))),
      file_read file (44 ∷ table_number place ++ 44 ∷ in_quotes (separator ∷ [])) named (ended_behind (34 ∷ []) (44 ∷ table_number place ++ 44 ∷ in_quotes (separator ∷ [])) behind),
      mark_read 44 (table_number place ++ 44 ∷ in_quotes (separator ∷ [])) refl behind refl,
      table_number_read place 44 (in_quotes (separator ∷ [])) few refl last,
      mark_read 44 (in_quotes (separator ∷ [])) refl last refl,
      word,
      separates,
      nothing_more,
    ) refl

pub output_read : (place : ℕ) (file : List ℕ) → place < 8 → is_file_name file ≡ true
    → output_argument (32 ∷ 40 ∷ table_number place ++ (44 ∷ in_quotes file ++ 41 ∷ [])) ≡ Ok (said.Output (table_number place) file)
unfolding output_argument
output_read place file few named =
    let last : IsEnded (44 ∷ in_quotes file ++ 41 ∷ []) = ended_behind (44 ∷ in_quotes file) (41 ∷ []) (ended_with 41 refl refl) in
    rw (
      mark_space 40 (40 ∷ table_number place ++ (44 ∷ in_quotes file ++ 41 ∷ [])),
      mark_read 40 (table_number place ++ (44 ∷ in_quotes file ++ 41 ∷ [])) refl (ended_behind (40 ∷ table_number place) (44 ∷ in_quotes file ++ 41 ∷ []) last) refl,
      table_number_read place 44 (in_quotes file ++ 41 ∷ []) few refl last,
      mark_read 44 (in_quotes file ++ 41 ∷ []) refl last refl,
      file_read file (41 ∷ []) named (ended_behind (34 ∷ []) (41 ∷ []) (ended_with 41 refl refl)),
      closed_read,
    ) refl

pub depth_read : (place : ℕ) (variable : List ℕ) (depth : ℕ) → place < 8 → list_any is_quote variable ≡ false → 1 ≤ depth → depth ≤ whole_depth
    → depth_argument (32 ∷ 40 ∷ table_number place ++ (44 ∷ in_quotes variable ++ (44 ∷ decimal depth ++ 41 ∷ []))) ≡ Ok (said.Depth (table_number place) variable depth)
unfolding depth_argument
depth_read place variable depth few plain low high =
    let last : IsEnded (44 ∷ decimal depth ++ 41 ∷ []) = ended_behind (44 ∷ decimal depth) (41 ∷ []) (ended_with 41 refl refl) in
    let behind : IsEnded (44 ∷ in_quotes variable ++ (44 ∷ decimal depth ++ 41 ∷ [])) = ended_behind (44 ∷ in_quotes variable) (44 ∷ decimal depth ++ 41 ∷ []) last in
    rw (
      mark_space 40 (40 ∷ table_number place ++ (44 ∷ in_quotes variable ++ (44 ∷ decimal depth ++ 41 ∷ []))),
      mark_read 40 (table_number place ++ (44 ∷ in_quotes variable ++ (44 ∷ decimal depth ++ 41 ∷ []))) refl (ended_behind (40 ∷ table_number place) (44 ∷ in_quotes variable ++ (44 ∷ decimal depth ++ 41 ∷ [])) behind) refl,
      table_number_read place 44 (in_quotes variable ++ (44 ∷ decimal depth ++ 41 ∷ [])) few refl behind,
      mark_read 44 (in_quotes variable ++ (44 ∷ decimal depth ++ 41 ∷ [])) refl behind refl,
      quoted_read variable (44 ∷ decimal depth ++ 41 ∷ []) plain (ended_behind (34 ∷ []) (44 ∷ decimal depth ++ 41 ∷ []) last),
      mark_read 44 (decimal depth ++ 41 ∷ []) refl last refl,
      number_read 1 whole_depth depth 41 [] low high (omega arith) refl (ended_with 41 refl refl),
      closed_read,
    ) refl

-- ---- tables

next_is : (mark : ℕ) (text inside : List ℕ) → trim text ≡ inside → is_next mark text ≡ begins_with mark inside
next_is mark text inside h = ap (begins_with mark) h

names_end : (most : ℕ) (text : List ℕ) → is_next 34 text ≡ false → names_up_to most text ≡ Ok ([], text)
unfolding names_up_to
names_end zero text h = refl
names_end (suc most) text h = rw h refl

names_step : (most : ℕ) (text name rest behind : List ℕ) (names : List (List ℕ)) → is_next 34 text ≡ true → quoted_at text ≡ Ok (name, rest) → names_up_to most rest ≡ Ok (names, behind)
    → names_up_to (suc most) text ≡ Ok (name ∷ names, behind)
unfolding names_up_to
names_step most text name rest behind names next read more = rw (next, read, more) refl

names_read : (most : ℕ) (names : List (List ℕ)) (text : List ℕ) → length names ≤ most → AllByRecursion (λ name. list_any is_quote name ≡ false) names → IsEnded (124 ∷ text)
    → names_up_to most (quoted_each names ++ 124 ∷ text) ≡ Ok (names, 124 ∷ text)
names_read most [] text few plain ends = names_end most (124 ∷ text) (next_is 34 (124 ∷ text) (124 ∷ text) (trim_dark 124 text refl ends))
names_read zero (name ∷ names) text few plain ends = absurd (omega (arith, few))
names_read (suc most) (name ∷ names) text few plain ends =
    let rest : List ℕ = quoted_each names ++ 124 ∷ text in
    let behind : IsEnded (34 ∷ rest) = ended_behind (34 ∷ quoted_each names) (124 ∷ text) ends in
    ap (names_up_to (suc most)) (append_assoc (in_quotes name) (quoted_each names) (124 ∷ text))
    ∙ names_step most (in_quotes name ++ rest) name rest (124 ∷ text) names
    (next_is 34 (in_quotes name ++ rest) (34 ∷ (name ++ 34 ∷ rest)) (quoted_clean name rest behind))
    (quoted_read name rest plain.0 behind)
    (names_read most names text (omega (arith, few)) plain.1 ends)

-- names behind a space
names_behind : (name : List ℕ) (names : List (List ℕ)) (text : List ℕ) → length (name ∷ names) ≤ most_variables → AllByRecursion (λ name. list_any is_quote name ≡ false) (name ∷ names) → IsEnded (124 ∷ text)
    → names_up_to most_variables (32 ∷ quoted_each (name ∷ names) ++ 124 ∷ text) ≡ Ok (name ∷ names, 124 ∷ text)
names_behind name names text few plain ends =
    let rest : List ℕ = quoted_each names ++ 124 ∷ text in
    let behind : IsEnded (34 ∷ rest) = ended_behind (34 ∷ quoted_each names) (124 ∷ text) ends in
    ap (λ (t : List ℕ). names_up_to most_variables (32 ∷ t)) (append_assoc (in_quotes name) (quoted_each names) (124 ∷ text))
    ∙ names_step (most_variables - 1) (32 ∷ (in_quotes name ++ rest)) name rest (124 ∷ text) names
    (next_is 34 (32 ∷ (in_quotes name ++ rest)) (34 ∷ (name ++ 34 ∷ rest)) (trim_space (in_quotes name ++ rest) ∙ quoted_clean name rest behind))
    (quoted_space (in_quotes name ++ rest) ∙ quoted_read name rest plain.0 behind)
    (names_read (most_variables - 1) names text (omega (arith, few)) plain.1 ends)

none_free : (response : List ℕ) → are_free_parts (behind_again response [] (quoted_part [])) ≡ true
unfolding quoted_part behind_mark
none_free response = refl

not_twice : (n m : ℕ) → n ≡ m → nat_lt n m ≡ false
not_twice n m h = grind arith

pub table_read : (variables : List (List ℕ)) (response : List ℕ) → 0 < length variables → length variables ≤ most_variables → IsDistinct bytes_eq variables
    → AllByRecursion (λ name. list_any is_quote name ≡ false) variables → list_any is_quote response ≡ false
    → table_argument (32 ∷ quoted_each variables ++ 124 ∷ in_quotes response) ≡ Ok (said.Table variables response)
unfolding table_argument
table_read [] response some few once plain named = absurd (omega (arith, some))
table_read (name ∷ names) response some few once plain named =
    let ends : IsEnded (124 ∷ in_quotes response) = ended_behind (124 ∷ 34 ∷ response) (34 ∷ []) (ended_with 34 refl refl) in
    let word : quoted_at (in_quotes response) ≡ Ok (response, []) = ap quoted_at (sym (append-nil (in_quotes response))) ∙ quoted_read response [] named (ended_with 34 refl refl) in
    let apart : is_twice (name ∷ names) ≡ false = not_twice (distinct_count bytes_eq (name ∷ names)) (length (name ∷ names)) (distinct_count-from_IsDistinct nat_list_eq_equiv (name ∷ names) once) in
    rw (names_behind name names (in_quotes response) few plain ends, not_zero (length (name ∷ names)) some, apart, mark_read 124 (in_quotes response) refl ends refl, word, none_free response) refl

-- ---- cost, work and methods

pub cost_read : (cost : CostKind) → cost_argument (32 ∷ cost_text cost) ≡ Ok cost
unfolding cost_argument cost_of end_of_tokens
cost_read kind.Value = refl
cost_read kind.Freq = refl
cost_read kind.One = refl

pub work_read : (n : ℕ) → IsWork n → work_argument (32 ∷ decimal n) ≡ Ok n
unfolding work_argument
work_read n h = rw (number_space 1 most_work (decimal n), last_number_read 1 most_work n h.0 h.1 (omega arith), nothing_more) refl

enclosed_ended : (n : ℕ) → IsEnded (number_in_parentheses (decimal n))
enclosed_ended n = ended_behind (40 ∷ decimal n) (41 ∷ []) (ended_with 41 refl refl)

passes_read : (n : ℕ) → IsMethod (Gh n) → passes_method (number_in_parentheses (decimal n)) ≡ Ok (Gh n)
unfolding passes_method
passes_read n h = rw (enclosed_read 1 8 n h.0 h.1 (omega arith)) refl

rounding_read : (n : ℕ) → 1 ≤ n → n ≤ 1000000000 → rounding_method (number_in_parentheses (decimal n)) ≡ Ok (Rnd (pos n))
unfolding rounding_method
rounding_read n low high = rw (enclosed_read 1 1000000000 n low high (omega arith)) refl

pub method_read : (method : Method) → IsMethod method → method_argument (32 ∷ method_text method) ≡ Ok method
unfolding method_argument modular_method behind_mark closing_token end_of_tokens
method_read (Gh n) h =
    let word = run_read 71 (codes "H") 40 (decimal n ++ 41 ∷ []) refl refl (enclosed_ended n) in
    rw (run_space (codes "GH" ++ number_in_parentheses (decimal n)), behind_space (codes "GH" ++ number_in_parentheses (decimal n)), word.0, word.1) (passes_read n h)
method_read Modular h = refl
method_read (Rnd (pos n)) h =
    let word = run_read 82 (codes "ND") 40 (decimal n ++ 41 ∷ []) refl refl (enclosed_ended n) in
    let low : 1 ≤ n = omega (arith, ints, h.0) in
    let high : n ≤ 1000000000 = omega (arith, ints, h.1) in
    rw (run_space (codes "RND" ++ number_in_parentheses (decimal n)), behind_space (codes "RND" ++ number_in_parentheses (decimal n)), word.0, word.1) (rounding_read n low high)
method_read (Rnd (negsuc n)) h = absurd (omega (arith, ints, h.0))
