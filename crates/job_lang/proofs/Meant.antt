-- A job is what its lines state.
use Rattle.std.proofs.Common.{◌≡◌, inl, inr, ℕ, zero, suc, ◌+◌, ◌<◌, ◌≤◌, Bool, true, false, cond, List, [], ◌∷◌, ◌++◌, length, Option, None, Some, Result, Ok, Err, refl, ap, sym, ◌∙◌, subst, arith, append_assoc}
use Rattle.std.proofs.lemmas.List.{append-nil}
use Rattle.std.specs.Prelude.{◌||◌, not, find, filter, slice_get, option_map}
use Rattle.std.specs.List.{list_any}
use Rattle.cost_rule.specs.declared.kind.CostKind.TheVariants.{Value}
use Rattle.sdc_base.specs.Blanks.{trim}
use Rattle.sdc_base.specs.Lines.{lines}
use Rattle.sdc_base.specs.Steps.{or_fault, refuse}
use Rattle.sdc_base.proofs.StepLemmas.{bind_ok}
use Rattle.sdc_base.specs.declared.method.Method.{Method}
use Rattle.job_lang.specs.declared.faults.JobWhy.{JobWhy}
use Rattle.job_lang.specs.declared.faults.JobWhy.TheVariants.{UnknownCommand, Twice, TooMany, OtherResponse, Missing}
use Rattle.job_lang.specs.declared.faults.Command.TheVariants as command
use Rattle.job_lang.specs.declared.job.Job.{Job}
use Rattle.job_lang.specs.declared.job.OutputLine.{OutputLine}
use Rattle.job_lang.specs.declared.job.TableLine.{TableLine}
use Rattle.job_lang.specs.declared.looked_up.RulesLine.{RulesLine}
use Rattle.job_lang.specs.declared.statement.Keyword.{Keyword}
use Rattle.job_lang.specs.declared.statement.Keyword.TheVariants as keyword
use Rattle.job_lang.specs.declared.statement.Instruction.{Instruction}
use Rattle.job_lang.specs.declared.statement.Instruction.TheVariants as said
use Rattle.job_lang.specs.declared.statement.Statement.{Statement}
use Rattle.job_lang.specs.declared.statement.Draft.{Draft}
use Rattle.job_lang.specs.Faults.{at_line}
use denote.Enum.Bare.{same_true}
use Rattle.job_lang.specs.contracts.statement.Keyword.{the_type}
use Rattle.job_lang.specs.Keywords.{keyword_of, same_keyword, word_in}
use Rattle.job_lang.specs.Arguments.{argument_of}
use Rattle.job_lang.specs.Statements.{command_of, is_by, is_again, is_past_room, is_other_response, with_table, with_statement, with_said, is_passed_over, command_line, text_says, lines_say, empty_draft}
use Rattle.job_lang.specs.ClosingLooks.{statement_by, output_said, file_said, file_line, rules_from, rules_line, method_from, method_of, cost_of, work_of, work_from, usual_steps, usual_nodes}
use Rattle.job_lang.specs.MissingCommands.{output_of_table, outputs_from}
use Rattle.job_lang.specs.Meaning.{line_says, said_at, statements_of_line, stated_in, table_in, tables_among, other_in, others_among, others_in, by_command, contributors_lines, IsStatedOnce, IsStatedOrElse, IsMeant, JobsAreMeant}
use Rattle.job_lang.proofs.Known.{not_refused, was_some, same_value}
use Rattle.job_lang.proofs.Made.{IsMade, read, job_with}

-- ---- lists of statements

tables_both : (xs ys : List Statement) → tables_among (xs ++ ys) ≡ tables_among xs ++ tables_among ys
tables_both [] ys = refl
tables_both (s ∷ xs) ys = ap (λ (rest : List TableLine). table_in s.line s.said ++ rest) (tables_both xs ys) ∙ sym (append_assoc (table_in s.line s.said) (tables_among xs) (tables_among ys))

others_both : (xs ys : List Statement) → others_among (xs ++ ys) ≡ others_among xs ++ others_among ys
others_both [] ys = refl
others_both (s ∷ xs) ys = ap (λ (rest : List Statement). other_in s.line s.said ++ rest) (others_both xs ys) ∙ sym (append_assoc (other_in s.line s.said) (others_among xs) (others_among ys))

-- ---- one line more

-- what a draft has, and what is added to it
record Adds (draft next : Draft) (more : List Statement) : Type 0 where
  tables : next.tables ≡ draft.tables ++ tables_among more
  said : next.said ≡ draft.said ++ others_among more

adds_nothing : (draft : Draft) → Adds draft draft []
adds_nothing draft = record { tables = sym (append-nil draft.tables); said = sym (append-nil draft.said) }

adds_both : (draft middle next : Draft) (xs ys : List Statement) → Adds draft middle xs → Adds middle next ys → Adds draft next (xs ++ ys)
adds_both draft middle next xs ys a b = record {
  tables = b.tables ∙ ap (λ (front : List TableLine). front ++ tables_among ys) a.tables ∙ append_assoc draft.tables (tables_among xs) (tables_among ys) ∙ ap (λ (rest : List TableLine). draft.tables ++ rest) (sym (tables_both xs ys));
  said = b.said ∙ ap (λ (front : List Statement). front ++ others_among ys) a.said ∙ append_assoc draft.said (others_among xs) (others_among ys) ∙ ap (λ (rest : List Statement). draft.said ++ rest) (sym (others_both xs ys));
}

table_adds : (line : ℕ) (draft next : Draft) (variables : List (List ℕ)) (response : List ℕ) → with_table line draft variables response ≡ Ok next → Adds draft next (record { line = line; said = said.Table variables response } ∷ [])
unfolding with_table
table_adds line draft next variables response h =
    let a = bind_ok (refuse TooMany (is_past_room variables draft.tables)) _ next h in
    let b = bind_ok (refuse OtherResponse (is_other_response response draft.tables)) _ next a.2 in
    let is = same_value (record draft { tables = draft.tables ++ record { line = line; variables = variables; response = response } ∷ [] }) next b.2 in
    record { tables = ap (λ (d : Draft). d.tables) (sym is); said = ap (λ (d : Draft). d.said) (sym is) ∙ sym (append-nil draft.said) }

other_adds : (line : ℕ) (draft next : Draft) (one : Instruction) → with_statement line draft one ≡ Ok next → (next.tables ≡ draft.tables) × (next.said ≡ draft.said ++ record { line = line; said = one } ∷ []) × (is_again one draft.said ≡ false)
unfolding with_statement
other_adds line draft next one h =
    let a = bind_ok (refuse Twice (is_again one draft.said)) _ next h in
    let is = same_value (record draft { said = draft.said ++ record { line = line; said = one } ∷ [] }) next a.2 in
    (ap (λ (d : Draft). d.tables) (sym is), ap (λ (d : Draft). d.said) (sym is), not_refused Twice (is_again one draft.said) a.0 a.1)

said_adds : (line : ℕ) (draft next : Draft) (one : Instruction) → with_said line draft one ≡ Ok next → Adds draft next (record { line = line; said = one } ∷ [])
unfolding with_said
said_adds line draft next (said.Table variables response) h = table_adds line draft next variables response h
said_adds line draft next one h = let a = other_adds line draft next one h in record { tables = a.0 ∙ sym (append-nil draft.tables); said = a.1 }

text_adds : (line : ℕ) (draft next : Draft) (text : List ℕ) → text_says line draft text ≡ Ok next → Adds draft next (statements_of_line line text)
unfolding text_says command_line line_says
text_adds line draft next text h =
    elim (is_passed_over text) as (λ t. cond t (Ok draft) (command_line line draft text) ≡ Ok next → Adds draft next (cond t [] (said_at line (line_says text)))) [
      | true ↦ λ g. let is = same_value draft next g in subst (λ (d : Draft). Adds draft d []) is (adds_nothing draft)
      | false ↦ λ g.
          let a = bind_ok (word_in text) _ next g in
          let b = bind_ok (or_fault UnknownCommand (keyword_of a.0.0)) _ next a.2 in
          let d = bind_ok (argument_of b.0 a.0.1) _ next b.2 in
          rw (a.1, b.1, d.1) (said_adds line draft next d.0 d.2)
    ] h

lines_add : (before : ℕ) (draft next : Draft) (texts : List (List ℕ)) → lines_say before draft texts ≡ Ok next → Adds draft next (stated_in before texts)
unfolding lines_say
lines_add before draft next [] h = let is = same_value draft next h in subst (λ (d : Draft). Adds draft d []) is (adds_nothing draft)
lines_add before draft next (text ∷ texts) h =
    let a = bind_ok (at_line (before + 1) (text_says (before + 1) draft (trim text))) _ next h in
    let said = without_line (before + 1) (text_says (before + 1) draft (trim text)) a.0 a.1 in
    adds_both draft a.0 next (statements_of_line (before + 1) (trim text)) (stated_in (before + 1) texts) (text_adds (before + 1) draft a.0 (trim text) said) (lines_add (before + 1) a.0 next texts a.2)
  where
    without_line : (line : ℕ) (r : Result Draft JobWhy) (d : Draft) → at_line line r ≡ Ok d → r ≡ Ok d
    without_line line (Ok x) d h = ap (λ (d : Draft). Ok d) (same_value x d h)
    without_line line (Err why) d h = absurd cc

-- ---- at most one line by a command

-- a command that stands once at most
abbrev is_single : Keyword → Bool
is_single word = not (same_keyword word keyword.SpecifyTable || same_keyword word keyword.Apriori || same_keyword word keyword.WriteTable || same_keyword word keyword.Depth)

again_by : (one : Instruction) (before : List Statement) → is_single (command_of one) ≡ true → is_again one before ≡ false → list_any (λ s. is_by (command_of one) s.said) before ≡ false
again_by (said.Table variables response) before single h = absurd cc
again_by (said.Prior file number separator) before single h = absurd cc
again_by (said.Output number file) before single h = absurd cc
again_by (said.Depth number variable depth) before single h = absurd cc
again_by one before single h = h

none_by : (word : Keyword) (all : List Statement) → list_any (λ s. is_by word s.said) all ≡ false → by_command word all ≡ []
none_by word [] h = refl
none_by word (s ∷ rest) h = elim (is_by word s.said) as (λ t. (t || list_any (λ s. is_by word s.said) rest) ≡ false → cond t (s ∷ by_command word rest) (by_command word rest) ≡ []) [
  | true ↦ λ g. absurd cc
  | false ↦ λ g. none_by word rest g
] h

by_both : (word : Keyword) (xs ys : List Statement) → by_command word (xs ++ ys) ≡ by_command word xs ++ by_command word ys
by_both word [] ys = refl
by_both word (s ∷ xs) ys = elim (is_by word s.said) as (λ t. cond t (s ∷ by_command word (xs ++ ys)) (by_command word (xs ++ ys)) ≡ cond t (s ∷ by_command word xs) (by_command word xs) ++ by_command word ys) [
  | true ↦ ap (λ (rest : List Statement). s ∷ rest) (by_both word xs ys)
  | false ↦ by_both word xs ys
]

-- each command that stands once at most does
abbrev AreSingle : List Statement → Type 0
AreSingle all = (word : Keyword) → is_single word ≡ true → length (by_command word all) ≤ 1

one_more : (line : ℕ) (all : List Statement) (one : Instruction) → AreSingle all → is_again one all ≡ false → AreSingle (all ++ record { line = line; said = one } ∷ [])
one_more line all one single again word is =
    let s : Statement = record { line = line; said = one } in
    let before = single word is in
    elim (is_by word one) as (λ t. is_by word one ≡ t → length (by_command word (all ++ s ∷ [])) ≤ 1) [
      | true ↦ λ by.
          let same : command_of one ≡ word = same_true the_type tt (command_of one) word by in
          let own : is_single (command_of one) ≡ true = ap is_single same ∙ is in
          let empty = none_by word all (ap (λ (w : Keyword). list_any (λ s. is_by w s.said) all) (sym same) ∙ again_by one all own again) in
          rw (by_both word all (s ∷ []), empty, by) (omega arith)
      | false ↦ λ by. rw (by_both word all (s ∷ []), by, append-nil (by_command word all)) before
    ] refl

said_single : (line : ℕ) (draft next : Draft) (one : Instruction) → AreSingle draft.said → with_said line draft one ≡ Ok next → AreSingle next.said
unfolding with_said
said_single line draft next (said.Table variables response) single h =
    let a = (table_adds line draft next variables response h).said ∙ append-nil draft.said in
    subst AreSingle (sym a) single
said_single line draft next one single h =
    let a = other_adds line draft next one h in
    subst AreSingle (sym a.1) (one_more line draft.said one single a.2)

text_single : (line : ℕ) (draft next : Draft) (text : List ℕ) → AreSingle draft.said → text_says line draft text ≡ Ok next → AreSingle next.said
unfolding text_says command_line
text_single line draft next text single h =
    elim (is_passed_over text) as (λ t. cond t (Ok draft) (command_line line draft text) ≡ Ok next → AreSingle next.said) [
      | true ↦ λ g. let is = same_value draft next g in subst (λ (d : Draft). AreSingle d.said) is single
      | false ↦ λ g.
          let a = bind_ok (word_in text) _ next g in
          let b = bind_ok (or_fault UnknownCommand (keyword_of a.0.0)) _ next a.2 in
          let d = bind_ok (argument_of b.0 a.0.1) _ next b.2 in
          said_single line draft next d.0 single d.2
    ] h

lines_single : (before : ℕ) (draft next : Draft) (texts : List (List ℕ)) → AreSingle draft.said → lines_say before draft texts ≡ Ok next → AreSingle next.said
unfolding lines_say
lines_single before draft next [] single h = let is = same_value draft next h in subst (λ (d : Draft). AreSingle d.said) is single
lines_single before draft next (text ∷ texts) single h =
    let a = bind_ok (at_line (before + 1) (text_says (before + 1) draft (trim text))) _ next h in
    let said = without_line (before + 1) (text_says (before + 1) draft (trim text)) a.0 a.1 in
    lines_single (before + 1) a.0 next texts (text_single (before + 1) draft a.0 (trim text) single said) a.2
  where
    without_line : (line : ℕ) (r : Result Draft JobWhy) (d : Draft) → at_line line r ≡ Ok d → r ≡ Ok d
    without_line line (Ok x) d h = ap (λ (d : Draft). Ok d) (same_value x d h)
    without_line line (Err why) d h = absurd cc

-- ---- the one statement

only : (test : Statement → Bool) (all : List Statement) (s : Statement) → find test all ≡ Some s → length (filter test all) ≤ 1 → (filter test all ≡ s ∷ []) × (test s ≡ true)
only test [] s h few = absurd cc
only test (y ∷ all) s h few =
    elim (test y) as (λ t. test y ≡ t → cond t (Some y) (find test all) ≡ Some s → length (cond t (y ∷ filter test all) (filter test all)) ≤ 1 → (cond t (y ∷ filter test all) (filter test all) ≡ s ∷ []) × (test s ≡ true)) [
      | true ↦ λ passes g n.
          let is : y ≡ s = cc in
          let rest : filter test all ≡ [] = no_items (filter test all) (omega (arith, n)) in
          (ap (λ (x : Statement). x ∷ filter test all) is ∙ ap (λ (xs : List Statement). s ∷ xs) rest, subst (λ (x : Statement). test x ≡ true) is passes)
      | false ↦ λ fails g n. only test all s g n
    ] refl h few
  where
    no_items : (xs : List Statement) → length xs ≤ 0 → xs ≡ []
    no_items [] h = refl
    no_items (x ∷ xs) h = absurd (omega (arith, h))

absent : (test : Statement → Bool) (all : List Statement) → find test all ≡ None → filter test all ≡ []
absent test [] h = refl
absent test (y ∷ all) h = elim (test y) as (λ t. cond t (Some y) (find test all) ≡ None → cond t (y ∷ filter test all) (filter test all) ≡ []) [
  | true ↦ λ g. absurd cc
  | false ↦ λ g. absent test all g
] h

-- a command that is said once is that of exactly one line
once : (word : Keyword) (all : List Statement) (s : Statement) → statement_by word all ≡ Some s → AreSingle all → is_single word ≡ true → (by_command word all ≡ s ∷ []) × (is_by word s.said ≡ true)
once word all s h single is = only (λ s. is_by word s.said) all s h (single word is)

abbrev Line : ℕ → Instruction → Statement
Line line one = record { line = line; said = one }

abbrev Filed : ℕ → Instruction → OutputLine → Type 0
Filed line one o = option_map (λ (file : List ℕ). record { line = line; file = file }) (file_said one) ≡ Some o

micro_is : (line : ℕ) (one : Instruction) (o : OutputLine) → is_by keyword.OpenMicrodata one ≡ true → Filed line one o → Line line one ≡ Line o.line (said.Microdata o.file)
micro_is line (said.Microdata file) o by h =
    let is : ◌≡◌ {A = OutputLine} (record { line = line; file = file }) o = cc in
    ap (λ (o : OutputLine). Line o.line (said.Microdata o.file)) is
micro_is line one o by h = absurd cc

meta_is : (line : ℕ) (one : Instruction) (o : OutputLine) → is_by keyword.OpenMetadata one ≡ true → Filed line one o → Line line one ≡ Line o.line (said.Metadata o.file)
meta_is line (said.Metadata file) o by h =
    let is : ◌≡◌ {A = OutputLine} (record { line = line; file = file }) o = cc in
    ap (λ (o : OutputLine). Line o.line (said.Metadata o.file)) is
meta_is line one o by h = absurd cc

certificate_is : (line : ℕ) (one : Instruction) (o : OutputLine) → is_by keyword.Certificate one ≡ true → Filed line one o → Line line one ≡ Line o.line (said.Certificate o.file)
certificate_is line (said.Certificate file) o by h =
    let is : ◌≡◌ {A = OutputLine} (record { line = line; file = file }) o = cc in
    ap (λ (o : OutputLine). Line o.line (said.Certificate o.file)) is
certificate_is line one o by h = absurd cc

contributors_is : (line : ℕ) (one : Instruction) → is_by keyword.Contributors one ≡ true → Line line one ∷ [] ≡ contributors_lines (file_line (Some (Line line one)))
contributors_is line (said.Contributors file) by = refl
contributors_is line one by = absurd cc

rules_is : (line : ℕ) (one : Instruction) (r : RulesLine) → is_by keyword.SafetyRule one ≡ true → rules_from line one ≡ Some r → Line line one ≡ Line r.line (said.Safety r.rules)
rules_is line (said.Safety rules) r by h =
    let is : ◌≡◌ {A = RulesLine} (record { line = line; rules = rules }) r = cc in
    ap (λ (r : RulesLine). Line r.line (said.Safety r.rules)) is
rules_is line one r by h = absurd cc

method_is : (line : ℕ) (one : Instruction) (m : Method) → is_by keyword.Suppress one ≡ true → method_from one ≡ Some m → Line line one ≡ Line line (said.Suppress m)
method_is line (said.Suppress method) m by h =
    let is : method ≡ m = cc in
    ap (λ (m : Method). Line line (said.Suppress m)) is
method_is line one m by h = absurd cc

cost_is : (line : ℕ) (one : Instruction) → is_by keyword.Cost one ≡ true → Line line one ≡ Line line (said.Cost (cost_of (Some (Line line one))))
cost_is line (said.Cost cost) by = refl
cost_is line one by = absurd cc

steps_is : (line usual : ℕ) (one : Instruction) → is_by keyword.Steps one ≡ true → Line line one ≡ Line line (said.Steps (work_from usual one))
steps_is line usual (said.Steps n) by = refl
steps_is line usual one by = absurd cc

nodes_is : (line usual : ℕ) (one : Instruction) → is_by keyword.Nodes one ≡ true → Line line one ≡ Line line (said.Nodes (work_from usual one))
nodes_is line usual (said.Nodes n) by = refl
nodes_is line usual one by = absurd cc

-- the file of a command that is said once
file_once : (word : Keyword) (make : List ℕ → Instruction) (all : List Statement) (o : OutputLine) → AreSingle all → is_single word ≡ true
    → ((line : ℕ) (one : Instruction) → is_by word one ≡ true → Filed line one o → Line line one ≡ Line o.line (make o.file))
    → file_line (statement_by word all) ≡ Some o → by_command word all ≡ Line o.line (make o.file) ∷ []
file_once word make all o single is step h =
    elim (statement_by word all) as (λ f. statement_by word all ≡ f → file_line f ≡ Some o → by_command word all ≡ Line o.line (make o.file) ∷ []) [
      | None ↦ λ found g. absurd cc
      | Some s ↦ λ found g. let a = once word all s found single is in a.0 ∙ ap (λ (s : Statement). s ∷ []) (step s.line s.said a.1 g)
    ] refl h

rules_once : (all : List Statement) (r : RulesLine) → AreSingle all → rules_line (statement_by keyword.SafetyRule all) ≡ Some r → by_command keyword.SafetyRule all ≡ Line r.line (said.Safety r.rules) ∷ []
rules_once all r single h =
    elim (statement_by keyword.SafetyRule all) as (λ f. statement_by keyword.SafetyRule all ≡ f → rules_line f ≡ Some r → by_command keyword.SafetyRule all ≡ Line r.line (said.Safety r.rules) ∷ []) [
      | None ↦ λ found g. absurd cc
      | Some s ↦ λ found g. let a = once keyword.SafetyRule all s found single refl in a.0 ∙ ap (λ (s : Statement). s ∷ []) (rules_is s.line s.said r a.1 g)
    ] refl h

method_once : (all : List Statement) (m : Method) → AreSingle all → method_of (statement_by keyword.Suppress all) ≡ Some m → IsStatedOnce keyword.Suppress all (said.Suppress m)
method_once all m single h =
    elim (statement_by keyword.Suppress all) as (λ f. statement_by keyword.Suppress all ≡ f → method_of f ≡ Some m → IsStatedOnce keyword.Suppress all (said.Suppress m)) [
      | None ↦ λ found g. absurd cc
      | Some s ↦ λ found g. let a = once keyword.Suppress all s found single refl in (s.line, a.0 ∙ ap (λ (s : Statement). s ∷ []) (method_is s.line s.said m a.1 g))
    ] refl h

cost_once : (all : List Statement) → AreSingle all → IsStatedOrElse keyword.Cost all (said.Cost (cost_of (statement_by keyword.Cost all))) (cost_of (statement_by keyword.Cost all) ≡ Value)
cost_once all single =
    elim (statement_by keyword.Cost all) as (λ f. statement_by keyword.Cost all ≡ f → IsStatedOrElse keyword.Cost all (said.Cost (cost_of f)) (cost_of f ≡ Value)) [
      | None ↦ λ found. inr (absent (λ s. is_by keyword.Cost s.said) all found, refl)
      | Some s ↦ λ found. let a = once keyword.Cost all s found single refl in inl (s.line, a.0 ∙ ap (λ (s : Statement). s ∷ []) (cost_is s.line s.said a.1))
    ] refl

contributors_once : (all : List Statement) → AreSingle all → by_command keyword.Contributors all ≡ contributors_lines (file_line (statement_by keyword.Contributors all))
contributors_once all single =
    elim (statement_by keyword.Contributors all) as (λ f. statement_by keyword.Contributors all ≡ f → by_command keyword.Contributors all ≡ contributors_lines (file_line f)) [
      | None ↦ λ found. absent (λ s. is_by keyword.Contributors s.said) all found
      | Some s ↦ λ found. let a = once keyword.Contributors all s found single refl in a.0 ∙ contributors_is s.line s.said a.1
    ] refl

steps_once : (usual : ℕ) (all : List Statement) → AreSingle all → IsStatedOrElse keyword.Steps all (said.Steps (work_of usual (statement_by keyword.Steps all))) (work_of usual (statement_by keyword.Steps all) ≡ usual)
steps_once usual all single =
    elim (statement_by keyword.Steps all) as (λ f. statement_by keyword.Steps all ≡ f → IsStatedOrElse keyword.Steps all (said.Steps (work_of usual f)) (work_of usual f ≡ usual)) [
      | None ↦ λ found. inr (absent (λ s. is_by keyword.Steps s.said) all found, refl)
      | Some s ↦ λ found. let a = once keyword.Steps all s found single refl in inl (s.line, a.0 ∙ ap (λ (s : Statement). s ∷ []) (steps_is s.line usual s.said a.1))
    ] refl

nodes_once : (usual : ℕ) (all : List Statement) → AreSingle all → IsStatedOrElse keyword.Nodes all (said.Nodes (work_of usual (statement_by keyword.Nodes all))) (work_of usual (statement_by keyword.Nodes all) ≡ usual)
nodes_once usual all single =
    elim (statement_by keyword.Nodes all) as (λ f. statement_by keyword.Nodes all ≡ f → IsStatedOrElse keyword.Nodes all (said.Nodes (work_of usual f)) (work_of usual f ≡ usual)) [
      | None ↦ λ found. inr (absent (λ s. is_by keyword.Nodes s.said) all found, refl)
      | Some s ↦ λ found. let a = once keyword.Nodes all s found single refl in inl (s.line, a.0 ∙ ap (λ (s : Statement). s ∷ []) (nodes_is s.line usual s.said a.1))
    ] refl

outputs_at : (count place : ℕ) (all : List Statement) (outputs : List OutputLine) → outputs_from count place all ≡ Ok outputs → (k : ℕ) → k < count → file_line (output_said (place + k) all) ≡ slice_get outputs k
unfolding outputs_from
outputs_at zero place all outputs h k within = absurd (omega (arith, within))
outputs_at (suc more) place all outputs h zero within =
    let one = bind_ok (output_of_table place all) _ outputs h in
    let rest = bind_ok (outputs_from more (place + 1) all) _ outputs one.2 in
    let is : ◌≡◌ {A = List OutputLine} (one.0 ∷ rest.0) outputs = same_value (one.0 ∷ rest.0) outputs rest.2 in
    let same : place + 0 ≡ place = omega arith in
    let there = was_some (0, Missing command.WriteTable) (file_line (output_said place all)) one.0 one.1 in
    ap (λ (n : ℕ). file_line (output_said n all)) same ∙ there ∙ ap (λ (os : List OutputLine). slice_get os 0) is
outputs_at (suc more) place all outputs h (suc k) within =
    let one = bind_ok (output_of_table place all) _ outputs h in
    let rest = bind_ok (outputs_from more (place + 1) all) _ outputs one.2 in
    let is : ◌≡◌ {A = List OutputLine} (one.0 ∷ rest.0) outputs = same_value (one.0 ∷ rest.0) outputs rest.2 in
    let same : place + suc k ≡ place + 1 + k = omega arith in
    let later = outputs_at more (place + 1) all rest.0 rest.1 k (omega (arith, within)) in
    ap (λ (n : ℕ). file_line (output_said n all)) same ∙ later ∙ ap (λ (os : List OutputLine). slice_get os (suc k)) is

-- ---- the job

made_meant : (bytes : List ℕ) (draft : Draft) (job : Job) → draft.tables ≡ tables_among (stated_in 0 (lines bytes)) → draft.said ≡ others_in bytes → AreSingle (others_in bytes) → IsMade draft job → IsMeant bytes job
made_meant bytes draft job tables others single is =
    let all = others_in bytes in
    let at = λ (f : Option OutputLine) (word : Keyword) (o : OutputLine) (h : file_line (statement_by word draft.said) ≡ Some o). ap (λ (said : List Statement). file_line (statement_by word said)) (sym others) ∙ h in
    let whole = subst (λ (said : List Statement). job_with (record draft { said = said }) is.micro is.meta is.rules is.method is.outputs is.certificate ≡ job) others is.whole in
    subst (IsMeant bytes) whole (record {
      tables = tables;
      micro = (is.micro.line, file_once keyword.OpenMicrodata (λ file. said.Microdata file) all is.micro single refl (λ line one by h. micro_is line one is.micro by h) (at None keyword.OpenMicrodata is.micro is.is_micro));
      meta = (is.meta.line, file_once keyword.OpenMetadata (λ file. said.Metadata file) all is.meta single refl (λ line one by h. meta_is line one is.meta by h) (at None keyword.OpenMetadata is.meta is.is_meta));
      rules = rules_once all is.rules single (ap (λ (said : List Statement). rules_line (statement_by keyword.SafetyRule said)) (sym others) ∙ is.is_rules);
      method = method_once all is.method single (ap (λ (said : List Statement). method_of (statement_by keyword.Suppress said)) (sym others) ∙ is.is_method);
      certificate = file_once keyword.Certificate (λ file. said.Certificate file) all is.certificate single refl (λ line one by h. certificate_is line one is.certificate by h) (at None keyword.Certificate is.certificate is.is_certificate);
      contributors = contributors_once all single;
      cost = cost_once all single;
      steps = steps_once usual_steps all single;
      nodes = nodes_once usual_nodes all single;
      priors = refl;
      depths = refl;
      outputs = λ place within.
          let same : 0 + place ≡ place = omega arith in
          ap (λ (n : ℕ). file_line (output_said n all)) (sym same) ∙ outputs_at (length draft.tables) 0 all is.outputs (ap (λ (said : List Statement). outputs_from (length draft.tables) 0 said) (sym others) ∙ is.are_outputs) place within;
    })

pub are_meant : JobsAreMeant
are_meant bytes job h =
    let is = read bytes job h in
    let adds = lines_add 0 empty_draft is.draft (lines bytes) is.says in
    let single = lines_single 0 empty_draft is.draft (lines bytes) (λ word s. omega arith) is.says in
    made_meant bytes is.draft job adds.tables adds.said (subst AreSingle adds.said single) is.is_made
