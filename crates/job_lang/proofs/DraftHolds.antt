-- What holds of all that lines say: the limits, kept line by line.
use Rattle.std.proofs.Common.{◌≡◌, ℕ, zero, suc, ◌+◌, ◌<◌, ◌≤◌, Bool, true, false, List, [], ◌∷◌, ◌++◌, length, Result, Ok, Err, refl, ap, sym, ◌∙◌, subst, arith, length-append}
use Rattle.std.proofs.lemmas.List.{append-nil}
use Rattle.std.proofs.lemmas.Grind.{flat_map-append}
use Rattle.std.proofs.lemmas.Map.Made.{IsDistinct-from_count, distinct_count-le}
use Rattle.std.proofs.lemmas.Slice.Eq.{bytes_eq-Decides}
use Rattle.std.specs.Cmp.Lexicographic.{nat_list_eq_equiv}
use Rattle.std.specs.Prelude.{◌==◌, nat_lt, nat_le, not, ◌||◌}
use Rattle.std.specs.Result.{IfOk}
use Rattle.std.specs.List.{AllByRecursion, IsDistinct}
use Rattle.std.specs.Set.{distinct_count}
use Rattle.std.specs.Str.{bytes_eq}
use Rattle.sdc_base.specs.Blanks.{trim}
use Rattle.sdc_base.specs.CutTrees.{whole_depth}
use Rattle.sdc_base.specs.Steps.{◌>>=◌, or_fault, refuse}
use Rattle.job_lang.specs.declared.faults.JobWhy.{JobWhy}
use Rattle.job_lang.specs.declared.faults.JobWhy.TheVariants.{BadValue, UnknownCommand, Twice, TooMany, OtherResponse}
use Rattle.job_lang.specs.declared.job.TableLine.{TableLine}
use Rattle.job_lang.specs.declared.statement.Keyword.{Keyword}
use Rattle.job_lang.specs.declared.statement.Keyword.TheVariants.{OpenMicrodata, OpenMetadata, SpecifyTable, SafetyRule, ReadMicrodata, Apriori, Cost, Steps, Nodes, Suppress, WriteTable, Certificate, Contributors, Depth}
use Rattle.job_lang.specs.declared.statement.Instruction.{Instruction}
use Rattle.job_lang.specs.declared.statement.Instruction.TheVariants as said
use Rattle.job_lang.specs.declared.statement.Draft.{Draft}
use Rattle.job_lang.specs.Faults.{at_line}
use Rattle.job_lang.specs.LineTokens.{is_next, behind_mark, quoted_at, number_at, digits_at, end_of_tokens, closing_token}
use Rattle.job_lang.specs.Keywords.{keyword_of, word_in}
use Rattle.job_lang.specs.RuleTexts.{rules_in}
use Rattle.job_lang.specs.TableTexts.{most_variables, names_up_to, is_twice, quoted_part, behind_again, are_free_parts, table_argument}
use Rattle.job_lang.specs.Arguments.{file_at, only_file, separator_of, prior_argument, output_argument, depth_argument, cost_argument, work_argument, argument_of}
use Rattle.job_lang.specs.MethodTexts.{method_argument}
use Rattle.job_lang.specs.Statements.{is_again, names_in, is_past_room, is_other_response, with_table, with_statement, with_said, is_passed_over, command_line, text_says, lines_say, empty_draft}
use Rattle.job_lang.specs.Binding.{response_of}
use Rattle.job_lang.specs.JobLimits.{HasNoTwice, HasVariables, AreInRange, IsMethod, IsWork}
use Rattle.job_lang.proofs.Known.{then_known, known, either_known, not_refused, all_and_last}
use Rattle.job_lang.proofs.ClausesHold.{number_known, rules_known, work_known, method_known}

-- what is said of a table, rules, a method and work is within the limits
abbrev pub IsSaid : Instruction → Type 0
IsSaid (said.Table variables response) = (0 < length variables) × (length variables ≤ most_variables) × IsDistinct bytes_eq variables
IsSaid (said.Safety rules) = AreInRange rules
IsSaid (said.Steps steps) = IsWork steps
IsSaid (said.Nodes nodes) = IsWork nodes
IsSaid (said.Suppress method) = IsMethod method
IsSaid (said.Depth number variable depth) = (1 ≤ depth) × (depth ≤ whole_depth)
IsSaid one = Unit {0}

-- ---- arguments

-- at most so many names
abbrev AreFew : ℕ → (List (List ℕ) × List ℕ) → Type 0
AreFew most read = length read.0 ≤ most

names_known : (most : ℕ) (text : List ℕ) → IfOk (names_up_to most text) (AreFew most)
unfolding names_up_to
names_known zero text = omega arith
names_known (suc most) text =
    either_known (AreFew (suc most)) (is_next 34 text) (quoted_at text >>= λ name. names_up_to most name.1 >>= λ more. Ok (name.0 ∷ more.0, more.1)) (Ok ([], text))
    (then_known (AreFew (suc most)) (quoted_at text) _ (λ name h.
    then_known (AreFew (suc most)) (names_up_to most name.1) _ (λ more h1.
    let few = known (AreFew most) (names_up_to most name.1) more (names_known most name.1) h1 in omega (arith, few))))
    (omega arith)

some_there : (n : ℕ) → (n == 0) ≡ false → 0 < n
some_there n h = grind arith

no_twice : (n m : ℕ) → nat_lt n m ≡ false → n ≤ m → n ≡ m
no_twice n m h g = grind arith

table_known : (text : List ℕ) → IfOk (table_argument text) IsSaid
unfolding table_argument
table_known text =
    then_known IsSaid (names_up_to most_variables text) _ (λ variables h.
    then_known IsSaid (refuse BadValue (length variables.0 == 0)) _ (λ some h1.
    then_known IsSaid (refuse BadValue (is_twice variables.0)) _ (λ once h2.
    then_known IsSaid (behind_mark 124 variables.1) _ (λ bar h3.
    then_known IsSaid (quoted_at bar) _ (λ response h4.
    then_known IsSaid (refuse BadValue (not (are_free_parts (behind_again response.0 response.1 (quoted_part response.1))))) _ (λ free h5. (
      some_there (length variables.0) (not_refused BadValue (length variables.0 == 0) some h1),
      known (AreFew most_variables) (names_up_to most_variables text) variables (names_known most_variables text) h,
      IsDistinct-from_count nat_list_eq_equiv variables.0 (no_twice (distinct_count bytes_eq variables.0) (length variables.0) (not_refused BadValue (is_twice variables.0) once h2) (distinct_count-le bytes_eq variables.0)),
    )))))))

prior_known : (text : List ℕ) → IfOk (prior_argument text) IsSaid
unfolding prior_argument
prior_known text =
    then_known IsSaid (file_at text) _ (λ file h.
    then_known IsSaid (behind_mark 44 file.1) _ (λ comma h1.
    then_known IsSaid (digits_at comma) _ (λ number h2.
    then_known IsSaid (behind_mark 44 number.1) _ (λ again h3.
    then_known IsSaid (quoted_at again) _ (λ word h4.
    then_known IsSaid (or_fault BadValue (separator_of word.0)) _ (λ separator h5.
    then_known IsSaid (end_of_tokens word.1) _ (λ end h6. tt)))))))

output_known : (text : List ℕ) → IfOk (output_argument text) IsSaid
unfolding output_argument
output_known text =
    then_known IsSaid (behind_mark 40 text) _ (λ open_ h.
    then_known IsSaid (digits_at open_) _ (λ number h1.
    then_known IsSaid (behind_mark 44 number.1) _ (λ comma h2.
    then_known IsSaid (file_at comma) _ (λ file h3.
    then_known IsSaid (closing_token file.1) _ (λ end h4. tt)))))

depth_known : (text : List ℕ) → IfOk (depth_argument text) IsSaid
unfolding depth_argument
depth_known text =
    then_known IsSaid (behind_mark 40 text) _ (λ open_ h.
    then_known IsSaid (digits_at open_) _ (λ number h1.
    then_known IsSaid (behind_mark 44 number.1) _ (λ comma h2.
    then_known IsSaid (quoted_at comma) _ (λ variable h3.
    then_known IsSaid (behind_mark 44 variable.1) _ (λ again h4.
    then_known IsSaid (number_at 1 whole_depth again) _ (λ depth h5.
    then_known IsSaid (closing_token depth.1) _ (λ end h6. known (λ (depth : ℕ × List ℕ). (1 ≤ depth.0) × (depth.0 ≤ whole_depth)) (number_at 1 whole_depth again) depth (number_known 1 whole_depth again) h5)))))))

pub argument_known : (keyword : Keyword) (text : List ℕ) → IfOk (argument_of keyword text) IsSaid
unfolding argument_of
argument_known OpenMicrodata text = then_known IsSaid (only_file text) _ (λ name h. tt)
argument_known OpenMetadata text = then_known IsSaid (only_file text) _ (λ name h. tt)
argument_known SpecifyTable text = table_known text
argument_known SafetyRule text = then_known IsSaid (rules_in text) _ (λ rules h. known AreInRange (rules_in text) rules (rules_known text) h)
argument_known ReadMicrodata text = then_known IsSaid (end_of_tokens text) _ (λ end h. tt)
argument_known Apriori text = prior_known text
argument_known Cost text = then_known IsSaid (cost_argument text) _ (λ cost h. tt)
argument_known Steps text = then_known IsSaid (work_argument text) _ (λ steps h. known IsWork (work_argument text) steps (work_known text) h)
argument_known Nodes text = then_known IsSaid (work_argument text) _ (λ nodes h. known IsWork (work_argument text) nodes (work_known text) h)
argument_known Suppress text = then_known IsSaid (method_argument text) _ (λ method h. known IsMethod (method_argument text) method (method_known text) h)
argument_known WriteTable text = output_known text
argument_known Certificate text = then_known IsSaid (only_file text) _ (λ name h. tt)
argument_known Contributors text = then_known IsSaid (only_file text) _ (λ name h. tt)
argument_known Depth text = depth_known text

-- ---- lines

-- what is said so far is within the limits
pub record IsDraft (draft : Draft) : Type 0 where
  pub few : length draft.tables ≤ 8
  pub variables : AllByRecursion HasVariables draft.tables
  pub once : AllByRecursion HasNoTwice draft.tables
  pub response : AllByRecursion (λ t. t.response ≡ response_of draft.tables) draft.tables
  pub names : distinct_count bytes_eq (names_in draft.tables) ≤ 8
  pub said : AllByRecursion (λ s. IsSaid s.said) draft.said

room : (n m : ℕ) → (nat_le 8 n || nat_lt 8 m) ≡ false → (n < 8) × (m ≤ 8)
room n m h = grind arith

same_response : (a b : List ℕ) → not (bytes_eq a b) ≡ false → a ≡ b
same_response a b h = (bytes_eq-Decides a b).0 (was_true (bytes_eq a b) h)
  where
    was_true : (t : Bool) → not t ≡ false → t ≡ true
    was_true true h = refl
    was_true false h = absurd cc

one_response : (tables : List TableLine) (table : TableLine) → is_other_response table.response tables ≡ false → AllByRecursion (λ t. t.response ≡ response_of tables) tables
    → AllByRecursion (λ t. t.response ≡ response_of (tables ++ table ∷ [])) (tables ++ table ∷ [])
one_response [] table h all = (refl, tt)
one_response (first ∷ tables) table h all = all_and_last (λ t. t.response ≡ first.response) (first ∷ tables) table all (sym (same_response first.response table.response h))

pub names_more : (tables : List TableLine) (table : TableLine) → names_in (tables ++ table ∷ []) ≡ names_in tables ++ table.variables
names_more tables table = flat_map-append (λ (t : TableLine). t.variables) tables (table ∷ []) ∙ ap (λ (names : List (List ℕ)). names_in tables ++ names) (append-nil table.variables)

table_kept : (line : ℕ) (draft : Draft) (variables : List (List ℕ)) (response : List ℕ) → IsDraft draft → IsSaid (said.Table variables response) → IfOk (with_table line draft variables response) IsDraft
unfolding with_table
table_kept line draft variables response is fits =
    then_known IsDraft (refuse TooMany (is_past_room variables draft.tables)) _ (λ space h.
    then_known IsDraft (refuse OtherResponse (is_other_response response draft.tables)) _ (λ same h1.
    let table : TableLine = record { line = line; variables = variables; response = response } in
    let left = room (length draft.tables) (distinct_count bytes_eq (names_in draft.tables ++ variables)) (not_refused TooMany (is_past_room variables draft.tables) space h) in
    record {
      few = omega (arith, left.0, length-append draft.tables (table ∷ []));
      variables = all_and_last HasVariables draft.tables table is.variables (fits.0, fits.1);
      once = all_and_last HasNoTwice draft.tables table is.once fits.2;
      response = one_response draft.tables table (not_refused OtherResponse (is_other_response response draft.tables) same h1) is.response;
      names = subst (λ (names : List (List ℕ)). distinct_count bytes_eq names ≤ 8) (sym (names_more draft.tables table)) left.1;
      said = is.said;
    }))

statement_kept : (line : ℕ) (draft : Draft) (one : Instruction) → IsDraft draft → IsSaid one → IfOk (with_statement line draft one) IsDraft
unfolding with_statement
statement_kept line draft one is fits =
    then_known IsDraft (refuse Twice (is_again one draft.said)) _ (λ once h.
    record {
      few = is.few;
      variables = is.variables;
      once = is.once;
      response = is.response;
      names = is.names;
      said = all_and_last (λ s. IsSaid s.said) draft.said (record { line = line; said = one }) is.said fits;
    })

said_kept : (line : ℕ) (draft : Draft) (one : Instruction) → IsDraft draft → IsSaid one → IfOk (with_said line draft one) IsDraft
unfolding with_said
said_kept line draft (said.Table variables response) is fits = table_kept line draft variables response is fits
said_kept line draft one is fits = statement_kept line draft one is fits

line_kept : (line : ℕ) (draft : Draft) (text : List ℕ) → IsDraft draft → IfOk (command_line line draft text) IsDraft
unfolding command_line
line_kept line draft text is =
    then_known IsDraft (word_in text) _ (λ word h.
    then_known IsDraft (or_fault UnknownCommand (keyword_of word.0)) _ (λ keyword h1.
    then_known IsDraft (argument_of keyword word.1) _ (λ one h2. said_kept line draft one is (known IsSaid (argument_of keyword word.1) one (argument_known keyword word.1) h2))))

text_kept : (line : ℕ) (draft : Draft) (text : List ℕ) → IsDraft draft → IfOk (text_says line draft text) IsDraft
unfolding text_says
text_kept line draft text is = either_known IsDraft (is_passed_over text) (Ok draft) (command_line line draft text) is (line_kept line draft text is)

at_known : {A : Type 0} (P : A → Type 0) (line : ℕ) (r : Result A JobWhy) → IfOk r P → IfOk (at_line line r) P
at_known P line (Ok x) h = h
at_known P line (Err why) h = tt

lines_kept : (before : ℕ) (draft : Draft) (texts : List (List ℕ)) → IsDraft draft → IfOk (lines_say before draft texts) IsDraft
unfolding lines_say
lines_kept before draft [] is = is
lines_kept before draft (text ∷ texts) is =
    then_known IsDraft (at_line (before + 1) (text_says (before + 1) draft (trim text))) _ (λ next h.
    lines_kept (before + 1) next texts
    (known IsDraft (at_line (before + 1) (text_says (before + 1) draft (trim text))) next (at_known IsDraft (before + 1) (text_says (before + 1) draft (trim text)) (text_kept (before + 1) draft (trim text) is)) h))

-- all that lines say is within the limits
pub lines_known : (texts : List (List ℕ)) → IfOk (lines_say 0 empty_draft texts) IsDraft
lines_known texts = lines_kept 0 empty_draft texts (record { few = omega arith; variables = tt; once = tt; response = tt; names = omega arith; said = tt })
