-- Names of files that are put differ from one another.
use Rattle.std.proofs.Common.{◌≡◌, ℕ, zero, suc, ◌+◌, ◌<◌, ◌≤◌, Bool, true, false, cond, List, [], ◌∷◌, ◌++◌, length, map, Option, None, Some, Ok, refl, sym, subst, arith}
use Rattle.std.specs.Prelude.{find, nat_lt, nat_le, ◌||◌, ◌&&◌, option_map}
use Rattle.std.specs.Option.{is_some}
use Rattle.std.specs.List.{list_any, count_by, AllByRecursion, IsDistinct}
use Rattle.std.specs.Str.{bytes_eq}
use Rattle.std.specs.Str.Parse.{digits_value}
use Rattle.std.specs.Cmp.Lexicographic.{nat_list_eq_equiv}
use Rattle.std.proofs.lemmas.List.Sums.{sum_by-cons}
use Rattle.std.proofs.lemmas.Map.Keys.{IsDistinct-cons}
use Rattle.std.proofs.lemmas.Slice.Eq.{bytes_eq-Decides}
use Rattle.sdc_base.specs.Tokens.{is_number}
use Rattle.sdc_base.proofs.StepLemmas.{bind_ok}
use Rattle.job_lang.specs.declared.faults.JobWhy.TheVariants.{Missing}
use Rattle.job_lang.specs.declared.faults.Command.TheVariants as command
use Rattle.job_lang.specs.declared.job.Job.{Job}
use Rattle.job_lang.specs.declared.job.OutputLine.{OutputLine}
use Rattle.job_lang.specs.declared.statement.Keyword.TheVariants as keyword
use Rattle.job_lang.specs.declared.statement.Instruction.{Instruction}
use Rattle.job_lang.specs.declared.statement.Instruction.TheVariants as said
use Rattle.job_lang.specs.declared.statement.Statement.{Statement}
use Rattle.job_lang.specs.Statements.{is_by}
use Rattle.job_lang.specs.ClosingLooks.{statement_by, is_output_at, output_said, file_said, file_line}
use Rattle.job_lang.specs.MissingCommands.{output_of_table, outputs_from}
use Rattle.job_lang.specs.FilesApart.{puts, is_read_file, is_shared, puts_shared_file}
use Rattle.job_lang.specs.FileLaws.{contributors_files, puts_of, PutsDiffer}
use Rattle.job_lang.proofs.Known.{was_some}
use Rattle.job_lang.proofs.FirstFault.{no_shared_file}
use Rattle.job_lang.proofs.NamesApart.{AreApart, all_apart, found}
use Rattle.job_lang.proofs.Made.{read}

-- ---- two statements that two tests find

counted : (p : Statement → Bool) (s : Statement) (rest : List Statement) → count_by p (s ∷ rest) ≡ cond (p s) 1 0 + count_by p rest
counted p s rest = sum_by-cons (λ s. cond (p s) 1 0) s rest

one_counted : (p t : Statement → Bool) (all : List Statement) (x : Statement) → find t all ≡ Some x → p x ≡ true → 1 ≤ count_by p all
one_counted p t [] x h is = absurd cc
one_counted p t (s ∷ rest) x h is =
    let more = counted p s rest in
    elim (t s) as (λ b. cond b (Some s) (find t rest) ≡ Some x → 1 ≤ count_by p (s ∷ rest)) [
      | true ↦ λ g.
          let same : s ≡ x = cc in
          let one : ◌≡◌ {A = ℕ} (cond (p s) 1 0) 1 = rw (subst (λ (y : Statement). p y ≡ true) (sym same) is) refl in
          omega (arith, more, one)
      | false ↦ λ g. let later = one_counted p t rest x g is in omega (arith, more, later)
    ] h

two_counted : (p t u : Statement → Bool) (all : List Statement) (x y : Statement) → find t all ≡ Some x → find u all ≡ Some y → p x ≡ true → p y ≡ true
    → ((s : Statement) → t s ≡ true → u s ≡ false) → 2 ≤ count_by p all
two_counted p t u [] x y h g is also apart = absurd cc
two_counted p t u (s ∷ rest) x y h g is also apart =
    let more = counted p s rest in
    elim (t s) as (λ b. t s ≡ b → cond b (Some s) (find t rest) ≡ Some x → 2 ≤ count_by p (s ∷ rest)) [
      | true ↦ λ passes first.
          let same : s ≡ x = cc in
          let one : ◌≡◌ {A = ℕ} (cond (p s) 1 0) 1 = rw (subst (λ (y : Statement). p y ≡ true) (sym same) is) refl in
          let behind : find u rest ≡ Some y = subst (λ (b : Bool). cond b (Some s) (find u rest) ≡ Some y) (apart s passes) g in
          let later = one_counted p u rest y behind also in
          omega (arith, more, one, later)
      | false ↦ λ fails first.
          elim (u s) as (λ b. cond b (Some s) (find u rest) ≡ Some y → 2 ≤ count_by p (s ∷ rest)) [
            | true ↦ λ second.
                let same : s ≡ y = cc in
                let one : ◌≡◌ {A = ℕ} (cond (p s) 1 0) 1 = rw (subst (λ (y : Statement). p y ≡ true) (sym same) also) refl in
                let later = one_counted p t rest x first is in
                omega (arith, more, one, later)
            | false ↦ λ second. let later = two_counted p t u rest x y first second is also apart in omega (arith, more, later)
          ] g
    ] refl h

-- ---- statements that put files

-- a statement that the test finds puts this file, and the name is that of no other
abbrev IsPutBy : List Statement → (Statement → Bool) → OutputLine → Type 0
IsPutBy all test o = (s : Statement) × (find test all ≡ Some s) × (puts o.file s.said ≡ true) × (is_shared o.file all ≡ false)

put_by_output : (all : List Statement) (place : ℕ) (one : Instruction) (line : ℕ) (o : OutputLine) → is_output_at place one ≡ true → puts_shared_file all one ≡ false
    → option_map (λ (file : List ℕ). record { line = line; file = file }) (file_said one) ≡ Some o → (puts o.file one ≡ true) × (is_shared o.file all ≡ false)
put_by_output all place (said.Output number name) line o by apart h =
    let is : ◌≡◌ {A = OutputLine} (record { line = line; file = name }) o = cc in
    subst (λ (o : OutputLine). (puts o.file (said.Output number name) ≡ true) × (is_shared o.file all ≡ false)) is (nat_list_eq_equiv.refl name, apart)
put_by_output all place one line o by apart h = absurd cc

put_by_certificate : (all : List Statement) (one : Instruction) (line : ℕ) (o : OutputLine) → is_by keyword.Certificate one ≡ true → puts_shared_file all one ≡ false
    → option_map (λ (file : List ℕ). record { line = line; file = file }) (file_said one) ≡ Some o → (puts o.file one ≡ true) × (is_shared o.file all ≡ false)
put_by_certificate all (said.Certificate name) line o by apart h =
    let is : ◌≡◌ {A = OutputLine} (record { line = line; file = name }) o = cc in
    subst (λ (o : OutputLine). (puts o.file (said.Certificate name) ≡ true) × (is_shared o.file all ≡ false)) is (nat_list_eq_equiv.refl name, apart)
put_by_certificate all one line o by apart h = absurd cc

put_by_contributors : (all : List Statement) (one : Instruction) (line : ℕ) (o : OutputLine) → is_by keyword.Contributors one ≡ true → puts_shared_file all one ≡ false
    → option_map (λ (file : List ℕ). record { line = line; file = file }) (file_said one) ≡ Some o → (puts o.file one ≡ true) × (is_shared o.file all ≡ false)
put_by_contributors all (said.Contributors name) line o by apart h =
    let is : ◌≡◌ {A = OutputLine} (record { line = line; file = name }) o = cc in
    subst (λ (o : OutputLine). (puts o.file (said.Contributors name) ≡ true) × (is_shared o.file all ≡ false)) is (nat_list_eq_equiv.refl name, apart)
put_by_contributors all one line o by apart h = absurd cc

put_by : (all : List Statement) (test : Statement → Bool) → AreApart all all
    → ((s : Statement) (o : OutputLine) → test s ≡ true → puts_shared_file all s.said ≡ false → option_map (λ (file : List ℕ). record { line = s.line; file = file }) (file_said s.said) ≡ Some o → (puts o.file s.said ≡ true) × (is_shared o.file all ≡ false))
    → (o : OutputLine) → file_line (find test all) ≡ Some o → IsPutBy all test o
put_by all test apart step o h =
    elim (find test all) as (λ f. find test all ≡ f → file_line f ≡ Some o → IsPutBy all test o) [
      | None ↦ λ is g. absurd cc
      | Some s ↦ λ is g.
          let at = found (λ s. puts_shared_file all s.said ≡ false) test all apart s is in
          let both = step s o at.1 at.0 g in
          (s, is, both.0, both.1)
    ] refl h

few : (n : ℕ) (b : Bool) → (nat_lt 1 n || b) ≡ false → 2 ≤ n → ⊥
few n b h g = grind arith

puts_same : (a b : List ℕ) (one : Instruction) → a ≡ b → puts b one ≡ true → puts a one ≡ true
puts_same a b one h g = subst (λ (name : List ℕ). puts name one ≡ true) (sym h) g

-- two of them have two names
two_names : (all : List Statement) (t u : Statement → Bool) (a b : OutputLine) → IsPutBy all t a → IsPutBy all u b → ((s : Statement) → t s ≡ true → u s ≡ false) → bytes_eq a.file b.file ≡ false
two_names all t u a b first second apart =
    elim (bytes_eq a.file b.file) as (λ r. bytes_eq a.file b.file ≡ r → r ≡ false) [
      | true ↦ λ same.
          let is : a.file ≡ b.file = (bytes_eq-Decides a.file b.file).0 same in
          absurd (few (count_by (λ s. puts a.file s.said) all) (list_any (λ s. is_read_file a.file s.said) all) first.3
          (two_counted (λ s. puts a.file s.said) t u all first.0 second.0 first.1 second.1 first.2 (puts_same a.file b.file second.0.said is second.2) apart))
      | false ↦ λ differ. refl
    ] refl

-- ---- outputs of tables, the certificate and the contributors' file

-- each output is that of its table
abbrev AreOutputs : List Statement → ℕ → List OutputLine → Type 0
AreOutputs all place [] = Unit {0}
AreOutputs all place (o ∷ outputs) = IsPutBy all (λ s. is_output_at place s.said) o × AreOutputs all (place + 1) outputs

are_outputs : (all : List Statement) (count place : ℕ) (outputs : List OutputLine) → AreApart all all → outputs_from count place all ≡ Ok outputs → AreOutputs all place outputs
unfolding outputs_from
are_outputs all zero place outputs apart h = let is : ◌≡◌ {A = List OutputLine} [] outputs = cc in subst (λ (os : List OutputLine). AreOutputs all place os) is tt
are_outputs all (suc more) place outputs apart h =
    let one = bind_ok (output_of_table place all) _ outputs h in
    let rest = bind_ok (outputs_from more (place + 1) all) _ outputs one.2 in
    let is : ◌≡◌ {A = List OutputLine} (one.0 ∷ rest.0) outputs = cc in
    let first = put_by all (λ s. is_output_at place s.said) apart (λ s o by free g. put_by_output all place s.said s.line o by free g) one.0 (was_some (0, Missing command.WriteTable) (file_line (output_said place all)) one.0 one.1) in
    subst (λ (os : List OutputLine). AreOutputs all place os) is (first, are_outputs all more (place + 1) rest.0 apart rest.1)

not_both : (x : Bool) (p q d : ℕ) → p < q → is_some {T = ℕ} (cond (x && (nat_le (p + 1) d && nat_le d (p + 1))) (Some d) None) ≡ true → is_some {T = ℕ} (cond (x && (nat_le (q + 1) d && nat_le d (q + 1))) (Some d) None) ≡ false
not_both x p q d h g = grind arith

other_place : (p q : ℕ) (one : Instruction) → p < q → is_output_at p one ≡ true → is_output_at q one ≡ false
other_place p q (said.Output number file) h g = not_both (is_number number) p q (digits_value 10 number) h g
other_place p q one h g = refl

no_output : (q : ℕ) (one : Instruction) → is_by keyword.Certificate one ≡ true → is_output_at q one ≡ false
no_output q (said.Output number file) h = absurd cc
no_output q one h = refl

extra_no_output : (q : ℕ) (one : Instruction) → is_by keyword.Contributors one ≡ true → is_output_at q one ≡ false
extra_no_output q (said.Output number file) h = absurd cc
extra_no_output q one h = refl

no_extra : (one : Instruction) → is_by keyword.Certificate one ≡ true → is_by keyword.Contributors one ≡ false
no_extra (said.Certificate file) h = refl
no_extra one h = absurd cc

from_others : (all : List Statement) (t : Statement → Bool) (a : OutputLine) (place : ℕ) (outputs : List OutputLine) → IsPutBy all t a → AreOutputs all place outputs
    → ((q : ℕ) (s : Statement) → place ≤ q → t s ≡ true → is_output_at q s.said ≡ false) → AllByRecursion (λ file. bytes_eq a.file file ≡ false) (map (λ o. o.file) outputs)
from_others all t a place [] put are apart = tt
from_others all t a place (o ∷ outputs) put are apart = (
  two_names all t (λ s. is_output_at place s.said) a o put are.0 (λ s h. apart place s (omega arith) h),
  from_others all t a (place + 1) outputs put are.1 (λ q s above h. apart q s (omega (arith, above)) h),
)

outputs_differ : (all : List Statement) (place : ℕ) (outputs : List OutputLine) → AreOutputs all place outputs → IsDistinct bytes_eq (map (λ o. o.file) outputs)
unfolding IsDistinct
outputs_differ all place [] are = tt
outputs_differ all place (o ∷ outputs) are = (
  from_others all (λ s. is_output_at place s.said) o (place + 1) outputs are.0 are.1 (λ q s above h. other_place place q s.said (omega (arith, above)) h),
  outputs_differ all (place + 1) outputs are.1,
)

-- the certificate, the contributors' file where there is one, and the outputs
all_differ : (all : List Statement) (certificate : OutputLine) (contributors : Option OutputLine) (outputs : List OutputLine) → IsPutBy all (λ s. is_by keyword.Certificate s.said) certificate
    → ((o : OutputLine) → contributors ≡ Some o → IsPutBy all (λ s. is_by keyword.Contributors s.said) o) → AreOutputs all 0 outputs → AllByRecursion (λ file. bytes_eq certificate.file file ≡ false) (map (λ o. o.file) outputs)
    → IsDistinct bytes_eq (certificate.file ∷ contributors_files contributors ++ map (λ o. o.file) outputs)
all_differ all certificate None outputs put extra are first = IsDistinct-cons bytes_eq certificate.file (map (λ o. o.file) outputs) first (outputs_differ all 0 outputs are)
all_differ all certificate (Some o) outputs put extra are first =
    let own = extra o refl in
    let names : List (List ℕ) = map (λ o. o.file) outputs in
    let apart = two_names all (λ s. is_by keyword.Certificate s.said) (λ s. is_by keyword.Contributors s.said) certificate o put own (λ s by. no_extra s.said by) in
    let behind = from_others all (λ s. is_by keyword.Contributors s.said) o 0 outputs own are (λ q s above by. extra_no_output q s.said by) in
    IsDistinct-cons bytes_eq certificate.file (o.file ∷ names) (apart, first) (IsDistinct-cons bytes_eq o.file names behind (outputs_differ all 0 outputs are))

pub differ : PutsDiffer
differ bytes job h =
    let is = read bytes job h in
    let all = is.draft.said in
    let apart = all_apart all all (no_shared_file all all tt is.apart) in
    let outputs = are_outputs all (length is.draft.tables) 0 is.is_made.outputs apart is.is_made.are_outputs in
    let certificate = put_by all (λ s. is_by keyword.Certificate s.said) apart (λ s o by free g. put_by_certificate all s.said s.line o by free g) is.is_made.certificate is.is_made.is_certificate in
    let first = from_others all (λ s. is_by keyword.Certificate s.said) is.is_made.certificate 0 is.is_made.outputs certificate outputs (λ q s above by. no_output q s.said by) in
    let contributors : (o : OutputLine) → file_line (statement_by keyword.Contributors all) ≡ Some o → IsPutBy all (λ s. is_by keyword.Contributors s.said) o =
    λ o found. put_by all (λ s. is_by keyword.Contributors s.said) apart (λ s o by free g. put_by_contributors all s.said s.line o by free g) o found in
    subst (λ (job : Job). IsDistinct bytes_eq (puts_of job)) is.is_made.whole
    (all_differ all is.is_made.certificate (file_line (statement_by keyword.Contributors all)) is.is_made.outputs certificate contributors outputs first)
