-- What a hiding release promises of its tables: they show all but a hidden set that protects and is needed.
use Rattle.std.proofs.Common.{◌≡◌, ℕ, zero, suc, ◌+◌, ◌<◌, ◌&&◌, not, Bool, true, false, if◌then◌else◌, List, [], ◌∷◌, length, map, slice_get, slice_index_or, All, Option, Some, arith, refl, ap, sym, subst, ◌∙◌, ℤ}
use Rattle.std.proofs.lemmas.Option.{slice_get_within}
use Rattle.sdc_base.proofs.WeakDual.{All-found}
use Rattle.sdc_base.specs.HiddenSets.{is_hidden, IsPermitted}
use Rattle.sdc_base.specs.Kinds.{is_primary}
use Rattle.sdc_base.specs.Records.{Name}
use Rattle.sdc_base.specs.Worlds.{Protects}
use Rattle.sdc_base.specs.declared.cell.Cell.{Cell}
use Rattle.sdc_base.specs.declared.cell.Kind.{Kind}
use Rattle.sdc_base.specs.declared.cell.Kind.TheVariants.{Primary, Free, Fixed}
use Rattle.sdc_base.specs.declared.side.Side.{Side}
use Rattle.sdc_base.specs.declared.system.System.{System}
use Rattle.worlds.proofs.RefutationLaws.{no_world}
use Rattle.worlds.specs.declared.refuted.Refuted.{Refuted}
use Rattle.repair.specs.HidingOrder.{protected_case}
use Rattle.cert_check.specs.Acceptance.{IsNeeded}
use Rattle.repair.specs.Needs.{IsNeed, others_hidden}
use Rattle.repair.specs.Verdicts.{AreNeeds}
use Rattle.repair.proofs.Flags.{by_test}
use Rattle.apriori.specs.Settling.{SettledCell, view_of_cell}
use Rattle.job_lang.specs.declared.job.OutputLine.{OutputLine}
use Rattle.job_lang.specs.declared.job.TableLine.{TableLine}
use Rattle.office_io.specs.Files.{Files}
use Rattle.job_inputs.specs.ClassifiedJobs.{SettledInputs}
use Rattle.job_inputs.specs.Tables.{names_of}
use Rattle.job_inputs.specs.declared.inputs.Inputs.{Inputs}
use Rattle.job_run.specs.Promise.{TablesShow, IsPermittedSet, NeedsEachCell, ProtectsEachCell, without}
use Rattle.job_run.specs.Releases.{table_of, tables_from}
use Rattle.job_run.proofs.PromisedCells.{IsOf, as-many-settled, cell-at, entry-in, settled-at, stays-open, open-protects}
use Rattle.job_run.proofs.PutFiles.{AreHeld}

-- ---- tables

-- the table with number k of those from t on stands under the name of its output
tables-at : (files : Files) (inputs : Inputs) (shown : Name → Option ℤ) (t k : ℕ) (lines : List TableLine) (outputs : List OutputLine) (line : TableLine) (output : OutputLine) → AreHeld files (tables_from inputs shown t lines outputs)
    → slice_get lines k ≡ Some line → slice_get outputs k ≡ Some output → files output.file ≡ Some (table_of inputs shown (t + k) (names_of line))
tables-at files inputs shown t k [] outputs line output held at out = absurd cc
tables-at files inputs shown t k (l ∷ lines) [] line output held at out = absurd cc
tables-at files inputs shown t zero (l ∷ lines) (o ∷ outputs) line output held at out =
    let its : l ≡ line = cc in
    let own : o ≡ output = cc in
    let here : t ≡ t + 0 = omega arith in
    subst (λ (x : OutputLine). files x.file ≡ Some (table_of inputs shown (t + 0) (names_of line))) own
    (subst (λ (x : TableLine). files o.file ≡ Some (table_of inputs shown (t + 0) (names_of x))) its
    (subst (λ (n : ℕ). files o.file ≡ Some (table_of inputs shown n (names_of l))) here held.0))
tables-at files inputs shown t (suc k) (l ∷ lines) (o ∷ outputs) line output held at out =
    let there : t + 1 + k ≡ t + suc k = omega arith in
    subst (λ (n : ℕ). files output.file ≡ Some (table_of inputs shown n (names_of line))) there (tables-at files inputs shown (t + 1) k lines outputs line output held.1 at out)

-- each table has an output, and stands under its name
pub tables-show : (files : Files) (inputs : Inputs) (shown : Name → Option ℤ) → length inputs.described.job.outputs ≡ length inputs.described.job.tables
    → AreHeld files (tables_from inputs shown 0 inputs.described.job.tables inputs.described.job.outputs) → TablesShow inputs shown files
tables-show files inputs shown each held t line at =
    let found = entry-in inputs.described.job.outputs t (omega (arith, each, slice_get_within inputs.described.job.tables t line at)) in
    let output : OutputLine = found.0 in
    let here : 0 + t ≡ t = omega arith in (
      output,
      found.1,
      subst (λ (n : ℕ). files output.file ≡ Some (table_of inputs shown n (names_of line))) here (tables-at files inputs shown 0 t inputs.described.job.tables inputs.described.job.outputs line output held at found.1),
    )

-- ---- hidden sets

same-kind : (one : SettledCell) (cell : Cell) → view_of_cell cell ≡ one → cell.kind ≡ one.kind
same-kind one cell is = ap (λ (c : SettledCell). c.kind) is

pub permitted-set : (settled : SettledInputs) (system : System) (cells : List Cell) (flags : List Bool) → IsOf settled system cells → length flags ≡ length cells → IsPermitted cells flags → IsPermittedSet settled flags
permitted-set settled system cells flags is each permitted = record {
  one_each = each ∙ sym (as-many-settled settled cells is.cells_are);
  sensitive_hidden = λ number one sensitive. (
      let its = cell-at settled system cells number one is sensitive.found in
      permitted.primary_hidden number its.cell its.found (same-kind one its.cell its.view ∙ sensitive.kind));
  fixed_shown = λ number one at fixed. (
      let its = cell-at settled system cells number one is at in
      permitted.fixed_shown number its.cell its.found (same-kind one its.cell its.view ∙ fixed));
}

pub permitted-so : (settled : SettledInputs) (system : System) (cells : List Cell) (flags : List Bool) → IsOf settled system cells → IsPermittedSet settled flags → IsPermitted cells flags
permitted-so settled system cells flags is set = record {
  primary_hidden = λ number cell at primary. set.sensitive_hidden number (view_of_cell cell) (record { found = settled-at settled system cells number cell is at; kind = primary });
  fixed_shown = λ number cell at fixed. set.fixed_shown number (view_of_cell cell) (settled-at settled system cells number cell is at) fixed;
}

-- a set that protects every primary cell keeps each sensitive cell open
pub protects-each : (settled : SettledInputs) (system : System) (cells : List Cell) (flags : List Bool) → IsOf settled system cells
    → ((number : ℕ) (cell : Cell) (side : Side) → slice_get cells number ≡ Some cell → cell.kind ≡ Primary → Protects system cells flags number side) → ProtectsEachCell settled flags
protects-each settled system cells flags is all number one side sensitive =
    let its = cell-at settled system cells number one is sensitive.found in
    stays-open settled system cells flags number one side is sensitive.found (all number its.cell side its.found (same-kind one its.cell its.view ∙ sensitive.kind))

-- one that doesn't protect some primary cell doesn't
pub not-each : (settled : SettledInputs) (system : System) (cells : List Cell) (flags : List Bool) (number : ℕ) (cell : Cell) (side : Side) → IsOf settled system cells → slice_get cells number ≡ Some cell → cell.kind ≡ Primary
    → ¬ Protects system cells flags number side → ¬ ProtectsEachCell settled flags
not-each settled system cells flags number cell side is at primary none each =
    let found = settled-at settled system cells number cell is at in
    none (open-protects settled system cells flags number (view_of_cell cell) side is found (each number (view_of_cell cell) side (record { found = found; kind = primary })))

-- ---- needs

primary-kind : (kind : Kind) → is_primary kind ≡ true → kind ≡ Primary
primary-kind Primary is = refl
primary-kind Free is = absurd cc
primary-kind Fixed is = absurd cc

both-so : (a b : Bool) → a ≡ true → b ≡ true → (a && b) ≡ true
both-so true true one other = refl
both-so true false one other = absurd cc
both-so false b one other = absurd cc

-- a hidden cell that isn't primary is among the others that are hidden
among-others : (flags : List Bool) (start : ℕ) (cells : List Cell) (k : ℕ) (cell : Cell) → slice_get cells k ≡ Some cell → is_hidden flags (start + k) ≡ true → is_primary cell.kind ≡ false
    → (at : ℕ) × (slice_get (others_hidden flags start cells) at ≡ Some (start + k))
among-others flags start [] k cell found hidden other = absurd cc
among-others flags start (one ∷ cells) zero cell found hidden other =
    let same : one ≡ cell = cc in
    let here : start + 0 ≡ start = omega arith in
    let its : not (is_primary one.kind) ≡ true = ap (λ (c : Cell). not (is_primary c.kind)) same ∙ ap not other in
    let test : (is_hidden flags start && not (is_primary one.kind)) ≡ true = both-so (is_hidden flags start) (not (is_primary one.kind)) (ap (is_hidden flags) (sym here) ∙ hidden) its in
    (0, ap (λ (b : Bool). slice_get (if b then start ∷ others_hidden flags (start + 1) cells else others_hidden flags (start + 1) cells) 0) test ∙ ap Some (sym here))
among-others flags start (one ∷ cells) (suc k) cell found hidden other =
    let there : start + 1 + k ≡ start + suc k = omega arith in
    let rest = among-others flags (start + 1) cells k cell found (ap (is_hidden flags) there ∙ hidden) other in
    let is : slice_get (others_hidden flags (start + 1) cells) rest.0 ≡ Some (start + suc k) = rest.1 ∙ ap Some there in
    by (is_hidden flags start && not (is_primary one.kind)) refl rest.0 is
  where
    by : (b : Bool) → (is_hidden flags start && not (is_primary one.kind)) ≡ b → (at : ℕ) → slice_get (others_hidden flags (start + 1) cells) at ≡ Some (start + suc k)
        → (at : ℕ) × (slice_get (if is_hidden flags start && not (is_primary one.kind) then start ∷ others_hidden flags (start + 1) cells else others_hidden flags (start + 1) cells) at ≡ Some (start + suc k))
    by true test at is = (suc at, ap (λ (b : Bool). slice_get (if b then start ∷ others_hidden flags (start + 1) cells else others_hidden flags (start + 1) cells) (suc at)) test ∙ is)
    by false test at is = (at, ap (λ (b : Bool). slice_get (if b then start ∷ others_hidden flags (start + 1) cells else others_hidden flags (start + 1) cells) at) test ∙ is)

-- the entry that gives what a list of views has at a place
pub viewed-at : {X : Type 0} (view : X → ℕ) (xs : List X) (at number : ℕ) → slice_get (map view xs) at ≡ Some number → (x : X) × (slice_get xs at ≡ Some x) × (view x ≡ number)
viewed-at view [] at number is = absurd cc
viewed-at view (x ∷ xs) zero number is = let same : view x ≡ number = cc in (x, refl, same)
viewed-at view (x ∷ xs) (suc at) number is = viewed-at view xs at number is

hidden-inside : (flags : List Bool) (number : ℕ) → is_hidden flags number ≡ true → number < length flags
hidden-inside [] number is = absurd cc
hidden-inside (flag ∷ flags) zero is = omega arith
hidden-inside (flag ∷ flags) (suc number) is = let more = hidden-inside flags number is in omega (arith, more)

-- without any one hidden cell that isn't sensitive, some sensitive cell doesn't stay open
pub each-needed : (settled : SettledInputs) (system : System) (cells : List Cell) (flags : List Bool) (needs : List Refuted) → IsOf settled system cells → length flags ≡ length cells
    → map (λ (need : Refuted). need.subject) needs ≡ others_hidden flags 0 cells → All (IsNeeded system cells flags) needs → NeedsEachCell settled flags
each-needed settled system cells flags needs is each listed_all are number hidden =
    let inside : number < length cells = let k = hidden-inside flags number hidden.hidden_is in omega (arith, each, k) in
    let found = entry-in cells number inside in
    let other : is_primary found.0.kind ≡ false = by_test (is_primary found.0.kind) (is_primary found.0.kind ≡ false)
    (λ yes. absurd (hidden.insensitive (view_of_cell found.0) (record { found = settled-at settled system cells number found.0 is found.1; kind = primary-kind found.0.kind yes })))
    (λ no. no) in
    let zero_more : number ≡ 0 + number = omega arith in
    let listed = among-others flags 0 cells number found.0 found.1 (ap (is_hidden flags) (sym zero_more) ∙ hidden.hidden_is) other in
    let its = viewed-at (λ (need : Refuted). need.subject) needs listed.0 number (ap (λ (all : List ℕ). slice_get all listed.0) listed_all ∙ listed.1 ∙ ap Some (sym zero_more)) in
    let need : IsNeeded system cells flags its.0 = All-found (IsNeeded system cells flags) needs listed.0 its.0 are its.1 in
    let asked : its.0.cell < system.cells = omega (arith, is.one_each, slice_get_within cells its.0.cell need.cell_primary.cell need.cell_primary.found) in
    subst (λ (n : ℕ). ¬ ProtectsEachCell settled (without flags n)) {x = its.0.subject} its.2
    (not-each settled system cells (without flags its.0.subject) its.0.cell need.cell_primary.cell its.0.side is need.cell_primary.found need.cell_primary.is_kind
    (no_world system cells (without flags its.0.subject) its.0.cell its.0.side its.0.multipliers is.one_each asked need.refutes))

-- so it is with the needs of a verdict
pub needs-each : (settled : SettledInputs) (system : System) (cells : List Cell) (flags larger : List Bool) (needs : List Refuted) → IsOf settled system cells → length flags ≡ length cells
    → AreNeeds (protected_case system cells) flags larger needs → NeedsEachCell settled flags
needs-each settled system cells flags larger needs is each are =
    each-needed settled system cells flags needs is each are.each_needed
    (λ k d within. (let need : IsNeed (protected_case system cells) flags larger (slice_index_or needs k d) = are.are_needs k d within in record { cell_primary = need.cell_primary; refutes = need.refutes }))
