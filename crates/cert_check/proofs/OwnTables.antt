-- A certificate with the tables that hide exactly its own set has the first fault that lies in no table.
use Rattle.std.proofs.Common.{◌≡◌, ℕ, ◌+◌, Bool, false, List, [], ◌∷◌, length, Result, Ok, Err, refl, ap, ◌∙◌, arith, suc, if◌then◌else◌}
use Rattle.std.specs.Prelude.{IfOk}
use Rattle.sdc_base.specs.Answers.{Gives}
use Rattle.sdc_base.specs.Steps.{◌>>=◌}
use Rattle.sdc_base.specs.declared.dimension.Dimension.{Dimension}
use Rattle.worlds.specs.ProtectFaults.{line_number}
use Rattle.worlds.proofs.WorldLaws.{then_ok, passes_none}
use Rattle.certificate.specs.declared.certificate.Certificate.{Certificate}
use Rattle.linked_tables.specs.BookViews.{BookView}
use Rattle.cert_check.specs.declared.case.Case.{Case}
use Rattle.cert_check.specs.declared.faults.CheckFault.{CheckFault}
use Rattle.cert_check.specs.declared.faults.CheckFault.TheVariants as fault
use Rattle.cert_check.specs.Cases.{IsCase}
use Rattle.cert_check.specs.Counts.{counts_fault}
use Rattle.cert_check.specs.HiddenSet.{permitted_fault}
use Rattle.cert_check.specs.Methods.{method_fault, rounds_cells}
use Rattle.cert_check.specs.ReleaseLines.{differing_line, hiding_text, table_fault, tables_fault}
use Rattle.cert_check.specs.RoundedRelease.{rounded_fault}
use Rattle.cert_check.specs.FirstFault.{check_fault_of, shown_fault, suppressed_fault, acceptance_fault}
use Rattle.cert_check.specs.OwnTexts.{hiding_texts, own_set, own_texts, certificate_fault}
use Rattle.cert_check.proofs.Written.{text_itself}

-- the texts of a set have no line that differs from them
pub texts_themselves : (book : BookView) (flags : List Bool) (decimals t : ℕ) (tables : List (List Dimension)) (names : List (List (List ℕ))) → tables_fault book flags decimals t tables names (hiding_texts book flags decimals tables names) ≡ Ok tt
texts_themselves book flags decimals t [] names = refl
texts_themselves book flags decimals t (table ∷ tables) [] = refl
texts_themselves book flags decimals t (table ∷ tables) (own ∷ names) =
    let text : List ℕ = hiding_text book flags decimals table own in
    then_ok (table_fault book flags decimals t table own text) (λ _. tables_fault book flags decimals (t + 1) tables names (hiding_texts book flags decimals tables names)) tt tt
    (passes_none (λ line. fault.Release t (line_number line)) (differing_line 1 text text) (text_itself 1 text)) (texts_themselves book flags decimals (t + 1) tables names)

-- there is one for each table
pub as_many_texts : (book : BookView) (flags : List Bool) (decimals : ℕ) (tables : List (List Dimension)) (names : List (List (List ℕ))) → length names ≡ length tables → length (hiding_texts book flags decimals tables names) ≡ length tables
as_many_texts book flags decimals [] names many = refl
as_many_texts book flags decimals (table ∷ tables) [] many = absurd (omega (arith, many))
as_many_texts book flags decimals (table ∷ tables) (own ∷ names) many = ap suc (as_many_texts book flags decimals tables names (omega (arith, many)))

-- a case can be judged with these tables too
pub own_case : (case : Case) (release : List (List ℕ)) (c : Certificate) → IsCase case release → IsCase case (own_texts case c)
own_case case release c is = record {
  each_cell = is.each_cell;
  truths = is.truths;
  corners = is.corners;
  decimals = is.decimals;
  names = is.names;
  tables = as_many_texts case.book.now (own_set case c) case.decimals case.book.now.tables case.names.now is.names.lists;
  base = is.base;
}

pub own_fault : (case : Case) (c : Certificate) → rounds_cells case.method ≡ false → acceptance_fault case (own_texts case c) c ≡ certificate_fault case c
own_fault case c hides =
    let own : List (List ℕ) = own_texts case c in
    let flags : List Bool = own_set case c in
    ap (λ (rounds : Bool). counts_fault case.system.now c >>= λ _. method_fault case.method c >>= λ _. if rounds then rounded_fault case own else suppressed_fault case own flags c) hides
    ∙ ap (λ (tables : Result (Unit {0}) CheckFault). counts_fault case.system.now c >>= λ _. method_fault case.method c >>= λ _. permitted_fault case.cells.now flags >>= λ _. tables >>= λ _. shown_fault case flags c)
    (texts_themselves case.book.now flags case.decimals 0 case.book.now.tables case.names.now)

-- what a good answer gives
pub accepted_with : {X : Type 0} (answer : Result X CheckFault) (meant : Result (Unit {0}) CheckFault) (P : Type 0) → Gives check_fault_of (λ (x : X). tt) answer meant → (meant ≡ Ok tt → P) → IfOk answer (λ x. P)
accepted_with (Ok x) meant P gives goes = goes gives
accepted_with (Err e) meant P gives goes = tt
