-- A job that was read has a canonical text.
use Rattle.std.proofs.Common.{◌≡◌, ◌≢◌, ℕ, zero, suc, ◌+◌, ◌<◌, ◌≤◌, ◌==◌, Bool, true, false, cond, List, [], ◌∷◌, ◌++◌, length, map, None, Some, Ok, Err, refl, ap, sym, ◌∙◌, subst, arith, decimal}
use Rattle.std.specs.Prelude.{◌&&◌, not, option_map, find, slice_index_or}
use Rattle.std.specs.Result.{IfOk}
use Rattle.std.specs.List.{AllByRecursion, IsDistinct, list_any}
use Rattle.std.specs.Str.{all_ascii_digits, bytes_eq}
use Rattle.std.specs.Str.Parse.{digits_value}
use Rattle.std.specs.Cmp.Lexicographic.{nat_list_eq_equiv}
use Rattle.std.proofs.lemmas.Bool.Decides.{Decides-eqb}
use Rattle.std.proofs.lemmas.Fmt.{decimal-digits_value}
use Rattle.std.proofs.lemmas.Map.Keys.{IsDistinct-cons}
use Rattle.std.proofs.lemmas.Str.Parse.{numerals_by_value, tells_all_ascii_digits}
use Rattle.sdc_base.specs.Blanks.{trim}
use Rattle.sdc_base.specs.Lines.{lines, is_line_feed, at_line_feed, with_front, HasNoFeed}
use Rattle.sdc_base.specs.Steps.{or_fault, refuse}
use Rattle.sdc_base.specs.Tokens.{is_number}
use Rattle.sdc_base.proofs.StepLemmas.{bind_ok}
use Rattle.job_lang.specs.declared.faults.JobWhy.TheVariants.{UnknownCommand, Twice, TooMany, OtherResponse, Missing}
use Rattle.job_lang.specs.declared.faults.Command.TheVariants as command
use Rattle.job_lang.specs.declared.job.DepthLine.{DepthLine}
use Rattle.job_lang.specs.declared.job.Job.{Job}
use Rattle.job_lang.specs.declared.job.OutputLine.{OutputLine}
use Rattle.job_lang.specs.declared.job.PriorLine.{PriorLine}
use Rattle.job_lang.specs.declared.looked_up.RulesLine.{RulesLine}
use Rattle.job_lang.specs.declared.statement.Draft.{Draft}
use Rattle.job_lang.specs.declared.statement.Keyword.TheVariants as keyword
use Rattle.job_lang.specs.declared.statement.Instruction.{Instruction}
use Rattle.job_lang.specs.declared.statement.Instruction.TheVariants as said
use Rattle.job_lang.specs.declared.statement.Statement.{Statement}
use Rattle.job_lang.specs.Faults.{at_line}
use Rattle.job_lang.specs.Keywords.{keyword_of, word_in}
use Rattle.job_lang.specs.Arguments.{argument_of}
use Rattle.job_lang.specs.Statements.{is_by, is_prior_of, is_depth_of, is_again, is_past_room, is_other_response, with_table, with_statement, with_said, is_passed_over, command_line, text_says, lines_say, empty_draft}
use Rattle.job_lang.specs.ClosingLooks.{file_said, file_line, rules_from, rules_line, output_said, table_place, prior_in, priors_in, depth_in, depths_in}
use Rattle.job_lang.specs.MissingCommands.{output_of_table, outputs_from}
use Rattle.job_lang.specs.FilesApart.{is_no_table, is_astray}
use Rattle.job_lang.specs.JobLimits.{IsJob}
use Rattle.job_lang.specs.Jobs.{job_of}
use Rattle.job_lang.specs.FileLaws.{contributors_files, puts_of, reads_of}
use Rattle.job_lang.specs.Spelling.{table_number}
use Rattle.job_lang.specs.WritableJobs.{HasEachOnce, HasQuotable, HasSeparator, is_same_depth, IsWritable, JobsAreWritable}
use Rattle.job_lang.proofs.FirstFault.{no_strays}
use Rattle.job_lang.proofs.JobHolds.{find_known, was_there, wider, job_known}
use Rattle.job_lang.proofs.Known.{then_known, known, either_known, not_refused, was_some, all_and_last}
use Rattle.job_lang.proofs.Made.{job_with, read}
use Rattle.job_lang.proofs.NamesApart.{line_of, not_read}
use Rattle.job_lang.proofs.PutsApart.{differ}
use Rattle.job_lang.proofs.SpelledText.{all_both}
use Rattle.job_lang.proofs.Spelled.{or_left, or_right}
use Rattle.job_lang.proofs.SpelledArguments.{all_first}
use Rattle.job_lang.proofs.Written.{trimmed_free, IsNamed, IsDigits, IsUnpadded, IsWritten, argument_written, word_free}

-- ---- lines have no LF in them

front_free : (b : ℕ) (texts : List (List ℕ)) → is_line_feed b ≡ false → AllByRecursion HasNoFeed texts → AllByRecursion HasNoFeed (with_front b texts)
front_free b [] h all = (rw h refl, tt)
front_free b (text ∷ texts) h all = (rw h all.0, all.1)

lines_free : (bytes : List ℕ) → AllByRecursion HasNoFeed (lines bytes)
lines_free [] = tt
lines_free (b ∷ bytes) =
    let rest = lines_free bytes in
    elim (is_line_feed b) as (λ t. is_line_feed b ≡ t → AllByRecursion HasNoFeed (cond t ([] ∷ lines bytes) (cond ((b == 13) && at_line_feed bytes) (lines bytes) (with_front b (lines bytes))))) [
      | true ↦ λ is. (refl, rest)
      | false ↦ λ is.
          elim ((b == 13) && at_line_feed bytes) as (λ t. AllByRecursion HasNoFeed (cond t (lines bytes) (with_front b (lines bytes)))) [
            | true ↦ rest
            | false ↦ front_free b (lines bytes) is rest
          ]
    ] refl

-- ---- what lines say, one after the other

-- the later of two a priori files isn't of the earlier one's table, and the later of two depths not of the same table and variable
abbrev IsOther : Instruction → Instruction → Type 0
IsOther earlier (said.Prior file number separator) = is_prior_of number earlier ≡ false
IsOther earlier (said.Depth number variable depth) = is_depth_of number variable earlier ≡ false
IsOther earlier one = Unit {0}

-- no two a priori files are of one table, and no two depths of one variable in one table
abbrev AreOther : List Statement → Type 0
AreOther [] = Unit {0}
AreOther (s ∷ rest) = AllByRecursion (λ t. IsOther s.said t.said) rest × AreOther rest

other_last : (all : List Statement) (y : Statement) → AreOther all → AllByRecursion (λ s. IsOther s.said y.said) all → AreOther (all ++ y ∷ [])
other_last [] y h g = (tt, tt)
other_last (s ∷ all) y h g = (all_and_last (λ t. IsOther s.said t.said) all y h.0 g.0, other_last all y h.1 g.1)

none_each : (test : Statement → Bool) (all : List Statement) → list_any test all ≡ false → AllByRecursion (λ s. test s ≡ false) all
none_each test [] h = tt
none_each test (s ∷ rest) h = (or_left (test s) (list_any test rest) h, none_each test rest (or_right (test s) (list_any test rest) h))

no_claim : (all : List Statement) → AllByRecursion (λ s. Unit {0}) all
no_claim [] = tt
no_claim (s ∷ rest) = (tt, no_claim rest)

not_again : (one : Instruction) (all : List Statement) → is_again one all ≡ false → AllByRecursion (λ s. IsOther s.said one) all
not_again (said.Prior file number separator) all h = none_each (λ s. is_prior_of number s.said) all h
not_again (said.Depth number variable depth) all h = none_each (λ s. is_depth_of number variable s.said) all h
not_again one all h = no_claim all

record AreWritten (draft : Draft) : Type 0 where
  tables : AllByRecursion HasQuotable draft.tables
  said : AllByRecursion (λ s. IsWritten s.said) draft.said
  other : AreOther draft.said

table_kept : (line : ℕ) (draft : Draft) (variables : List (List ℕ)) (response : List ℕ) → AreWritten draft → IsWritten (said.Table variables response) → IfOk (with_table line draft variables response) AreWritten
unfolding with_table
table_kept line draft variables response is new =
    then_known AreWritten (refuse TooMany (is_past_room variables draft.tables)) _ (λ space h.
    then_known AreWritten (refuse OtherResponse (is_other_response response draft.tables)) _ (λ same h1.
    record { tables = all_and_last HasQuotable draft.tables (record { line = line; variables = variables; response = response }) is.tables new; said = is.said; other = is.other }))

statement_kept : (line : ℕ) (draft : Draft) (one : Instruction) → AreWritten draft → IsWritten one → IfOk (with_statement line draft one) AreWritten
unfolding with_statement
statement_kept line draft one is new =
    then_known AreWritten (refuse Twice (is_again one draft.said)) _ (λ once h.
    let s : Statement = record { line = line; said = one } in
    record {
      tables = is.tables;
      said = all_and_last (λ s. IsWritten s.said) draft.said s is.said new;
      other = other_last draft.said s is.other (not_again one draft.said (not_refused Twice (is_again one draft.said) once h));
    })

said_kept : (line : ℕ) (draft : Draft) (one : Instruction) → AreWritten draft → IsWritten one → IfOk (with_said line draft one) AreWritten
unfolding with_said
said_kept line draft (said.Table variables response) is new = table_kept line draft variables response is new
said_kept line draft one is new = statement_kept line draft one is new

command_kept : (line : ℕ) (draft : Draft) (text : List ℕ) → AreWritten draft → HasNoFeed text → IfOk (command_line line draft text) AreWritten
unfolding command_line
command_kept line draft text is free =
    then_known AreWritten (word_in text) _ (λ word h.
    let behind = known (λ word. HasNoFeed word.1) (word_in text) word (word_free text free) h in
    then_known AreWritten (or_fault UnknownCommand (keyword_of word.0)) _ (λ keyword h1.
    then_known AreWritten (argument_of keyword word.1) _ (λ one h2. said_kept line draft one is (known IsWritten (argument_of keyword word.1) one (argument_written keyword word.1 behind) h2))))

text_kept : (line : ℕ) (draft : Draft) (text : List ℕ) → AreWritten draft → HasNoFeed text → IfOk (text_says line draft text) AreWritten
unfolding text_says
text_kept line draft text is free = either_known AreWritten (is_passed_over text) (Ok draft) (command_line line draft text) is (command_kept line draft text is free)

lines_kept : (before : ℕ) (draft : Draft) (texts : List (List ℕ)) → AreWritten draft → AllByRecursion HasNoFeed texts → IfOk (lines_say before draft texts) AreWritten
unfolding lines_say
lines_kept before draft [] is all = is
lines_kept before draft (text ∷ texts) is all =
    then_known AreWritten (at_line (before + 1) (text_says (before + 1) draft (trim text))) _ (λ next h.
    lines_kept (before + 1) next texts (at_known (before + 1) (text_says (before + 1) draft (trim text)) next (text_kept (before + 1) draft (trim text) is (trimmed_free text all.0)) h) all.1)
  where
    at_known : (line : ℕ) (r : _) (d : Draft) → IfOk r AreWritten → at_line line r ≡ Ok d → AreWritten d
    at_known line (Ok x) d h is = let same : x ≡ d = cc in subst AreWritten same h
    at_known line (Err why) d h is = absurd cc

-- ---- files

file_named : (one : Instruction) (line : ℕ) (o : OutputLine) → IsWritten one → option_map (λ (file : List ℕ). record { line = line; file = file }) (file_said one) ≡ Some o → IsNamed o.file
file_named (said.Microdata name) line o w h = let is : ◌≡◌ {A = OutputLine} (record { line = line; file = name }) o = cc in subst (λ (o : OutputLine). IsNamed o.file) is w
file_named (said.Metadata name) line o w h = let is : ◌≡◌ {A = OutputLine} (record { line = line; file = name }) o = cc in subst (λ (o : OutputLine). IsNamed o.file) is w
file_named (said.Certificate name) line o w h = let is : ◌≡◌ {A = OutputLine} (record { line = line; file = name }) o = cc in subst (λ (o : OutputLine). IsNamed o.file) is w
file_named (said.Contributors name) line o w h = let is : ◌≡◌ {A = OutputLine} (record { line = line; file = name }) o = cc in subst (λ (o : OutputLine). IsNamed o.file) is w
file_named (said.Output number name) line o w h = let is : ◌≡◌ {A = OutputLine} (record { line = line; file = name }) o = cc in subst (λ (o : OutputLine). IsNamed o.file) is w.0
file_named one line o w h = absurd cc

line_named : (all : List Statement) (test : Statement → Bool) (o : OutputLine) → AllByRecursion (λ s. IsWritten s.said) all → file_line (find test all) ≡ Some o → IsNamed o.file
line_named all test o written h = line_of (λ s. IsWritten s.said) all test (λ o. IsNamed o.file) written (λ s o by w g. file_named s.said s.line o w g) o h

extra_named : (all : List Statement) (test : Statement → Bool) → AllByRecursion (λ s. IsWritten s.said) all → AllByRecursion IsNamed (contributors_files (file_line (find test all)))
extra_named all test written =
    elim (file_line (find test all)) as (λ f. file_line (find test all) ≡ f → AllByRecursion IsNamed (contributors_files f)) [
      | None ↦ λ is. tt
      | Some o ↦ λ is. (line_named all test o written is, tt)
    ] refl

outputs_named : (all : List Statement) (count place : ℕ) (outputs : List OutputLine) → AllByRecursion (λ s. IsWritten s.said) all → outputs_from count place all ≡ Ok outputs → AllByRecursion IsNamed (map (λ o. o.file) outputs)
unfolding outputs_from
outputs_named all zero place outputs written h = let is : ◌≡◌ {A = List OutputLine} [] outputs = cc in subst (λ (os : List OutputLine). AllByRecursion IsNamed (map (λ o. o.file) os)) is tt
outputs_named all (suc more) place outputs written h =
    let one = bind_ok (output_of_table place all) _ outputs h in
    let rest = bind_ok (outputs_from more (place + 1) all) _ outputs one.2 in
    let is : ◌≡◌ {A = List OutputLine} (one.0 ∷ rest.0) outputs = cc in
    let first = line_named all _ one.0 written (was_some (0, Missing command.WriteTable) (file_line (output_said place all)) one.0 one.1) in
    subst (λ (os : List OutputLine). AllByRecursion IsNamed (map (λ o. o.file) os)) is (first, outputs_named all more (place + 1) rest.0 written rest.1)

-- ---- rules

rules_few : (one : Instruction) (line : ℕ) (r : RulesLine) → IsWritten one → rules_from line one ≡ Some r → HasEachOnce r.rules.list
rules_few (said.Safety rules) line r w h = let is : ◌≡◌ {A = RulesLine} (record { line = line; rules = rules }) r = cc in subst (λ (r : RulesLine). HasEachOnce r.rules.list) is w
rules_few one line r w h = absurd cc

rules_found : (all : List Statement) (test : Statement → Bool) (r : RulesLine) → AllByRecursion (λ s. IsWritten s.said) all → rules_line (find test all) ≡ Some r → HasEachOnce r.rules.list
rules_found all test r written h =
    elim (find test all) as (λ f. find test all ≡ f → rules_line f ≡ Some r → HasEachOnce r.rules.list) [
      | None ↦ λ is g. absurd cc
      | Some s ↦ λ is g. rules_few s.said s.line r (find_known (λ s. IsWritten s.said) test all written s is) g
    ] refl h

-- ---- a priori files

prior_files : (line : ℕ) (one : Instruction) → IsWritten one → AllByRecursion IsNamed (map (λ p. p.file) (prior_in line one))
prior_files line (said.Prior file number separator) w = (w.0, tt)
prior_files line one w = tt

all_files : (xs ys : List PriorLine) → AllByRecursion IsNamed (map (λ p. p.file) xs) → AllByRecursion IsNamed (map (λ p. p.file) ys) → AllByRecursion IsNamed (map (λ p. p.file) (xs ++ ys))
all_files [] ys a b = b
all_files (x ∷ xs) ys a b = (a.0, all_files xs ys a.1 b)

priors_files : (all : List Statement) → AllByRecursion (λ s. IsWritten s.said) all → AllByRecursion IsNamed (map (λ p. p.file) (priors_in all))
priors_files [] written = tt
priors_files (s ∷ rest) written = all_files (prior_in s.line s.said) (priors_in rest) (prior_files s.line s.said written.0) (priors_files rest written.1)

prior_separator : (line : ℕ) (one : Instruction) → IsWritten one → AllByRecursion HasSeparator (prior_in line one)
prior_separator line (said.Prior file number separator) w = ((w.2, w.3), tt)
prior_separator line one w = tt

priors_separators : (all : List Statement) → AllByRecursion (λ s. IsWritten s.said) all → AllByRecursion HasSeparator (priors_in all)
priors_separators [] written = tt
priors_separators (s ∷ rest) written = all_both HasSeparator (prior_in s.line s.said) (priors_in rest) (prior_separator s.line s.said written.0) (priors_separators rest written.1)

-- digits that may be a table's are those of its number
leads : (digits : List ℕ) → IsUnpadded digits → slice_index_or digits 0 0 ≡ 48 → length digits ≡ 1
leads [] h g = absurd cc
leads (d ∷ digits) h g = absurd (no d h g)
  where
    no : (d : ℕ) → (d == 48) ≡ false → d ≡ 48 → ⊥
    no d h g = grind arith

value_spelled : (digits : List ℕ) → IsDigits digits → 0 < length digits → digits_value 10 digits ≤ 8 → decimal (digits_value 10 digits) ≡ digits
value_spelled digits is some small = decimal-digits_value (numerals_by_value (λ ds. all_ascii_digits ds ≡ true) tells_all_ascii_digits) digits is.1 some (leads digits is.0) (omega (arith, small))

has_length : (n : ℕ) (b : Bool) → (not (n == 0) && b) ≡ true → 0 < n
has_length n b h = grind arith

own_number : (count : ℕ) (number : List ℕ) → count ≤ 8 → IsDigits number → is_no_table count number ≡ false → number ≡ table_number (table_place number)
own_number count number few is h =
    let there = wider (is_number number) (digits_value 10 number) count few (was_there _ (digits_value 10 number) h) in
    let some = has_length (length number) (all_ascii_digits number) (all_first (is_number number) _ there.0).0 in
    let value : table_place number + 1 ≡ digits_value 10 number = rw there.0 (omega (arith, there.1)) in
    sym (ap decimal value ∙ value_spelled number is some (omega (arith, there.2, few)))

numbers_differ : (a b : List ℕ) (p q : ℕ) → a ≡ table_number p → b ≡ table_number q → bytes_eq a b ≡ false → (p == q) ≡ false
numbers_differ a b p q is also apart =
    elim (p == q) as (λ t. (p == q) ≡ t → t ≡ false) [
      | true ↦ λ same.
          let equal : p ≡ q = (Decides-eqb p q).0 same in
          let ab : a ≡ b = is ∙ ap table_number equal ∙ sym also in
          let yes : bytes_eq a b ≡ true = subst (λ (x : List ℕ). bytes_eq a x ≡ true) ab (nat_list_eq_equiv.refl a) in
          absurd (clash (bytes_eq a b) yes apart)
      | false ↦ λ differ. refl
    ] refl
  where
    clash : (t : Bool) → t ≡ true → t ≡ false → ⊥
    clash true a b = cc
    clash false a b = cc

apart_from : (count : ℕ) (number file : List ℕ) (separator : ℕ) (rest : List Statement) → count ≤ 8 → number ≡ table_number (table_place number) → AllByRecursion (λ t. IsOther (said.Prior file number separator) t.said) rest
    → AllByRecursion (λ s. IsWritten s.said) rest → AllByRecursion (λ s. is_astray count s.said ≡ false) rest → AllByRecursion (λ place. (table_place number == place) ≡ false) (map (λ p. p.table) (priors_in rest))
apart_from count number file separator [] few is other written placed = tt
apart_from count number file separator (t ∷ rest) few is other written placed =
    one t.line t.said other.0 written.0 placed.0 (apart_from count number file separator rest few is other.1 written.1 placed.1)
  where
    one : (line : ℕ) (said_ : Instruction) → IsOther (said.Prior file number separator) said_ → IsWritten said_ → is_astray count said_ ≡ false
        → AllByRecursion (λ place. (table_place number == place) ≡ false) (map (λ p. p.table) (priors_in rest)) → AllByRecursion (λ place. (table_place number == place) ≡ false) (map (λ p. p.table) (prior_in line said_ ++ priors_in rest))
    one line (said.Prior file' number' separator') h w g all = (numbers_differ number number' (table_place number) (table_place number') is (own_number count number' few w.1 g) h, all)
    one line said_ h w g all = all

priors_once : (count : ℕ) (all : List Statement) → count ≤ 8 → AreOther all → AllByRecursion (λ s. IsWritten s.said) all → AllByRecursion (λ s. is_astray count s.said ≡ false) all → IsDistinct ◌==◌ (map (λ p. p.table) (priors_in all))
unfolding IsDistinct
priors_once count [] few other written placed = tt
priors_once count (s ∷ rest) few other written placed = one s.line s.said other.0 written.0 placed.0 (priors_once count rest few other.1 written.1 placed.1)
  where
    one : (line : ℕ) (said_ : Instruction) → AllByRecursion (λ t. IsOther said_ t.said) rest → IsWritten said_ → is_astray count said_ ≡ false
        → IsDistinct ◌==◌ (map (λ p. p.table) (priors_in rest)) → IsDistinct ◌==◌ (map (λ p. p.table) (prior_in line said_ ++ priors_in rest))
    one line (said.Prior file number separator) h w g all =
        IsDistinct-cons ◌==◌ (table_place number) (map (λ p. p.table) (priors_in rest)) (apart_from count number file separator rest few (own_number count number few w.1 g) h written.1 placed.1) all
    one line said_ h w g all = all

-- ---- depths

depths_differ : (a b x y : List ℕ) (p q : ℕ) → a ≡ table_number p → b ≡ table_number q → (bytes_eq a b && bytes_eq x y) ≡ false → ((p == q) && bytes_eq x y) ≡ false
depths_differ a b x y p q is also apart =
    elim (bytes_eq a b) as (λ t. bytes_eq a b ≡ t → (t && bytes_eq x y) ≡ false → ((p == q) && bytes_eq x y) ≡ false) [
      | true ↦ λ same g. never (p == q) (bytes_eq x y) g
      | false ↦ λ other g. rw (numbers_differ a b p q is also other) refl
    ] refl apart
  where
    never : (s t : Bool) → (true && t) ≡ false → (s && t) ≡ false
    never true t h = h
    never false t h = refl

-- the depth that a statement gives
abbrev depth_by : ℕ → List ℕ → List ℕ → ℕ → DepthLine
depth_by line number variable depth = record { line = line; table = table_place number; variable = variable; depth = depth }

depth_apart : (count line : ℕ) (number variable : List ℕ) (depth : ℕ) (rest : List Statement) → count ≤ 8 → number ≡ table_number (table_place number) → AllByRecursion (λ t. IsOther (said.Depth number variable depth) t.said) rest
    → AllByRecursion (λ s. IsWritten s.said) rest → AllByRecursion (λ s. is_astray count s.said ≡ false) rest → AllByRecursion (λ other. is_same_depth (depth_by line number variable depth) other ≡ false) (depths_in rest)
depth_apart count line number variable depth [] few is other written placed = tt
depth_apart count line number variable depth (t ∷ rest) few is other written placed =
    one t.line t.said other.0 written.0 placed.0 (depth_apart count line number variable depth rest few is other.1 written.1 placed.1)
  where
    one : (at : ℕ) (said_ : Instruction) → IsOther (said.Depth number variable depth) said_ → IsWritten said_ → is_astray count said_ ≡ false
        → AllByRecursion (λ other. is_same_depth (depth_by line number variable depth) other ≡ false) (depths_in rest)
        → AllByRecursion (λ other. is_same_depth (depth_by line number variable depth) other ≡ false) (depth_in at said_ ++ depths_in rest)
    one at (said.Depth number' variable' depth') h w g all =
        (depths_differ number number' variable variable' (table_place number) (table_place number') is (own_number count number' few w.0 g) h, all)
    one at said_ h w g all = all

depths_once : (count : ℕ) (all : List Statement) → count ≤ 8 → AreOther all → AllByRecursion (λ s. IsWritten s.said) all → AllByRecursion (λ s. is_astray count s.said ≡ false) all → IsDistinct is_same_depth (depths_in all)
unfolding IsDistinct
depths_once count [] few other written placed = tt
depths_once count (s ∷ rest) few other written placed = one s.line s.said other.0 written.0 placed.0 (depths_once count rest few other.1 written.1 placed.1)
  where
    one : (line : ℕ) (said_ : Instruction) → AllByRecursion (λ t. IsOther said_ t.said) rest → IsWritten said_ → is_astray count said_ ≡ false → IsDistinct is_same_depth (depths_in rest) → IsDistinct is_same_depth (depth_in line said_ ++ depths_in rest)
    one line (said.Depth number variable depth) h w g all =
        IsDistinct-cons is_same_depth (depth_by line number variable depth) (depths_in rest) (depth_apart count line number variable depth rest few (own_number count number few w.0 g) h written.1 placed.1) all
    one line said_ h w g all = all

-- ---- the job

pub writable : JobsAreWritable
writable bytes job h =
    let is = read bytes job h in
    let draft = is.draft in
    let made = is.is_made in
    let limits = known IsJob (job_of bytes) job (job_known bytes) h in
    let written = known AreWritten (lines_say 0 empty_draft (lines bytes)) draft (lines_kept 0 empty_draft (lines bytes) (record { tables = tt; said = tt; other = tt }) (lines_free bytes)) is.says in
    let j = job_with draft made.micro made.meta made.rules made.method made.outputs made.certificate in
    let back = sym made.whole in
    let few : length draft.tables ≤ 8 = (subst IsJob back limits).at_most_8_tables in
    let placed = none_each (λ s. is_astray (length draft.tables) s.said) draft.said (no_strays (length draft.tables) draft.said tt is.placed) in
    let micro = line_named draft.said _ made.micro written.said made.is_micro in
    let meta = line_named draft.said _ made.meta written.said made.is_meta in
    let certificate = line_named draft.said _ made.certificate written.said made.is_certificate in
    let outputs = outputs_named draft.said (length draft.tables) 0 made.outputs written.said made.are_outputs in
    let extra = extra_named draft.said (λ s. is_by keyword.Contributors s.said) written.said in
    let priors = priors_files draft.said written.said in
    subst IsWritable made.whole (record {
      limits = subst IsJob back limits;
      rules = rules_found draft.said _ made.rules written.said made.is_rules;
      names = written.tables;
      separators = priors_separators draft.said written.said;
      priors = priors_once (length draft.tables) draft.said few written.other written.said placed;
      depths = depths_once (length draft.tables) draft.said few written.other written.said placed;
      files = all_both IsNamed (reads_of j) (puts_of j) (micro, (meta, priors)) (certificate, all_both IsNamed (contributors_files j.contributors) (map (λ o. o.file) made.outputs) extra outputs);
      puts = subst (λ (job : Job). IsDistinct bytes_eq (puts_of job)) back (differ bytes job h);
      apart = subst (λ (job : Job). AllByRecursion (λ put. AllByRecursion (λ read. put ≢ read) (reads_of job)) (puts_of job)) back (not_read bytes job h);
    })
