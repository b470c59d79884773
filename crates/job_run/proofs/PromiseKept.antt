-- The promise holds of what a run for a release answers, and of what it put.
use Rattle.std.proofs.Common.{◌≡◌, ℕ, zero, suc, ◌+◌, ◌<◌, Bool, true, false, nat_lt, if◌then◌else◌, List, [], ◌∷◌, length, take, map, slice_get, All, Option, None, Some, Result, Ok, Err, IsOkAnd, arith, refl, ap, sym, subst, ◌∙◌, ℤ, pos, ◌≤ℤ◌}
use Rattle.std.specs.List.{AllByRecursion, zip, IsDistinct}
use Rattle.std.specs.Str.{bytes_eq}
use Rattle.std.proofs.lemmas.List.{length-map, length-replicate}
use Rattle.std.proofs.lemmas.List.Elements.{All-nil, All-cons}
use Rattle.std.proofs.lemmas.Option.{slice_get_within}
use Rattle.std.proofs.lemmas.Slice.Zip.{firsts-zip}
use Rattle.sdc_base.proofs.GrowingLists.{read-at}
use Rattle.sdc_base.proofs.StepLemmas.{bind_ok}
use Rattle.sdc_base.proofs.Truths.{truth_from_zero}
use Rattle.sdc_base.specs.HiddenSets.{full_set, hide_cells}
use Rattle.sdc_base.specs.Records.{Name}
use Rattle.sdc_base.specs.RuleLevels.{Figures, figures_in}
use Rattle.sdc_base.specs.Roundings.{IsAdjacent}
use Rattle.sdc_base.specs.Steps.{map_fault, refuse}
use Rattle.sdc_base.specs.Systems.{number_at}
use Rattle.sdc_base.specs.WhereTold.{WhereTold}
use Rattle.sdc_base.specs.Trees.{Tree}
use Rattle.sdc_base.specs.Worlds.{Protects}
use Rattle.sdc_base.specs.declared.rows.Row.{Row}
use Rattle.sdc_base.specs.declared.rule.Rules.{Rules}
use Rattle.sdc_base.specs.declared.side.Side.{Side}
use Rattle.sdc_base.specs.declared.system.System.{System}
use Rattle.worlds.specs.declared.multipliers.Multipliers.{Multipliers}
use Rattle.repair.proofs.Growing.{protects_more}
use Rattle.repair.proofs.Order.{asked_primary}
use Rattle.apriori.specs.Applying.{apply_of, file_says, lines_say}
use Rattle.apriori.specs.CellStatements.{priors_from}
use Rattle.apriori.specs.PrimaryShown.{first_clash, refuse_line}
use Rattle.apriori.specs.Priors.{empty_prior}
use Rattle.apriori.specs.Settling.{SettledCell, settle_of, settled_cell, view_of_cell}
use Rattle.apriori.specs.declared.prior.Prior.{Prior}
use Rattle.attackers.specs.declared.attack.Attack.{Attack}
use Rattle.attackers.specs.KnownCells.{without_known}
use Rattle.attackers.specs.AttackOrder.{attacks_of}
use Rattle.attackers.proofs.AllAttacks.{attacks_are}
use Rattle.attackers.proofs.AskedCells.{AttackSays, attack_at, attack_says}
use Rattle.attackers.proofs.Knowing.{without_more}
use Rattle.attackers.proofs.Resisting.{in_full}
use Rattle.certificate.specs.declared.extra.Extra.{Extra}
use Rattle.job_lang.proofs.PutsApart.{differ}
use Rattle.job_lang.specs.FileLaws.{puts_of as names_put}
use Rattle.job_lang.specs.declared.job.OutputLine.{OutputLine}
use Rattle.job_lang.specs.declared.job.PriorLine.{PriorLine}
use Rattle.linked_tables.specs.Tables.{book_with_depths}
use Rattle.microdata.proofs.Within.{within_limits}
use Rattle.microdata.specs.Feeding.{fed_of}
use Rattle.microdata.specs.Fields.{scale_of}
use Rattle.microdata.specs.Microdata.{records_of}
use Rattle.microdata.specs.Ranges.{AreWithinLimits, IsRow}
use Rattle.microdata.specs.declared.faults.RowWhy.{RowWhy}
use Rattle.microdata.specs.declared.layout.Layout.{Layout}
use Rattle.microdata.specs.declared.records.Records.{Records}
use Rattle.office_io.specs.Files.{Files}
use Rattle.office_io.specs.Shelves.{ShelfState}
use Rattle.office_io.specs.Trays.{TrayState}
use Rattle.job_inputs.specs.Cells.{cells, cells_fault, figures, prior_fault}
use Rattle.job_inputs.specs.CodeSources.{spanning_fields}
use Rattle.job_inputs.specs.Inputs.{described_of, inputs_of, long_file_fault, look_at_records, records_in}
use Rattle.job_inputs.specs.Layouts.{layout_of}
use Rattle.job_inputs.specs.PriorStatements.{prior_line, priors_of, with_bytes, with_file, with_files, basis_in}
use Rattle.job_inputs.specs.ReadFiles.{bytes_of_file, limit, row_fault}
use Rattle.job_inputs.specs.ClassifiedJobs.{SettledInputs, overwrites_job, settled_cells, settled_of}
use Rattle.job_inputs.specs.declared.faults.Fault.{Fault}
use Rattle.job_inputs.specs.declared.faults.Fault.TheVariants as fault
use Rattle.job_inputs.specs.declared.file_ref.FileRef.TheVariants as file
use Rattle.job_inputs.specs.declared.inputs.Inputs.{Inputs}
use Rattle.job_inputs.specs.declared.purpose.Purpose.TheVariants as purpose
use Rattle.job_inputs.specs.SoundJobs.{IsSoundJob}
use Rattle.cell_protection.specs.declared.protection.ProtectionOutcome.TheVariants as protection
use Rattle.job_run.specs.Endings.{IsHidingRelease, IsReleaseBy}
use Rattle.job_run.specs.GuardedReleases.{HasNoGuard, IsGuardedRelease, guarded_puts}
use Rattle.job_run.specs.Promise.{AreRounded, AreTablesBy, AreTablesOf, CantBeGuarded, CantBeProtected, CantBeRounded, GuardedTables, HasCellsByRules, IsPromiseOf, IsTrueOf, ProtectedTables, RoundedTables, cell_by_rules, unknown_to}
use Rattle.job_run.specs.Protections.{IsProtectionFor, IsSuppressedRelease}
use Rattle.job_run.specs.Puts.{AllWhole}
use Rattle.job_run.specs.PutReleases.{Releases}
use Rattle.job_run.specs.CommandRuns.{AgreesWith}
use Rattle.job_run.specs.ReleaseRuns.{IsReleaseEnd, IsReleaseRunOf}
use Rattle.job_run.specs.Releases.{puts_of, shown_in, tables_from, value_in}
use Rattle.job_run.specs.Roundings.{HasNoRounding, IsReleaseOfRounding, IsRoundingFor, IsSystemIn, job_base, rounded_certificate}
use Rattle.job_run.specs.declared.put.Release.{Release}
use Rattle.job_run.specs.declared.report.Report.{Report}
use Rattle.job_run.specs.declared.report.Report.TheVariants as report
use Rattle.job_run.specs.declared.report.Summary.{Summary}
use Rattle.job_run.proofs.GuardingTables.{guarded-set}
use Rattle.job_run.proofs.JobsRead.{described-read, inputs-read, job-read, no-fault}
use Rattle.job_run.proofs.KnownCells.{known-same, knows-some, unknown-same}
use Rattle.job_run.proofs.PromisedCells.{IsOf, add-up-hold, as-many-settled, entry-in, hold-add-up, open-protects, settled-at, some-same}
use Rattle.job_run.proofs.PromisedTables.{needs-each, permitted-set, permitted-so, protects-each, tables-show}
use Rattle.job_run.proofs.PutFiles.{AreHeld, all-held, guarded-names, names, no-file-to-round, plain-names, some-before}
use Rattle.job_run.proofs.SameSystem.{as-many-cells}
use Rattle.job_run.proofs.ShownLaws.{truth-at}
use Rattle.job_run.specs.declared.put.FilePut.{FilePut}

-- ---- what was read

-- what the a priori files state and what the cells are, of settled inputs that were read
record AreRead (files : Files) (settled : SettledInputs) : Type 0 where
  priors : priors_of files settled.inputs ≡ Ok settled.priors
  cells : settled_cells settled.inputs settled.priors ≡ Ok settled.cells
  values : All (λ (row : Row). pos 0 ≤ℤ row.value) settled.inputs.records.rows

-- no value of a record is below 0
values-from-zero : (scale : ℕ) (trees : List Tree) (rows : List Row) → AllByRecursion (IsRow scale trees) rows → All (λ (row : Row). pos 0 ≤ℤ row.value) rows
values-from-zero scale trees [] all = All-nil (λ (row : Row). pos 0 ≤ℤ row.value)
values-from-zero scale trees (row ∷ rows) all = All-cons (λ (one : Row). pos 0 ≤ℤ one.value) row rows all.0.from_zero (values-from-zero scale trees rows all.1)

too-long : (looked : Result (Unit {0}) (ℕ × RowWhy)) (records : Records) → long_file_fault looked ≡ Ok records → ⊥
too-long (Ok fine) records h = absurd cc
too-long (Err at) records h = absurd cc

records-within : (layout : Layout) (found : Option (List ℕ)) (records : Records) → records_in layout found ≡ Ok records → AreWithinLimits layout records
records-within layout None records h = absurd cc
records-within layout (Some bytes) records h =
    elim (nat_lt limit (length bytes)) as (λ (b : Bool). ◌≡◌ {A = Result Records Fault} (if b then long_file_fault (fed_of layout (take limit bytes)) else map_fault row_fault (records_of layout bytes)) (Ok records) → AreWithinLimits layout records) [
      | true ↦ λ g. absurd (too-long (fed_of layout (take limit bytes)) records g)
      | false ↦ λ g. within_limits layout bytes records (no-fault row_fault (records_of layout bytes) records g)
    ] h

values-read : (files : Files) (name : List ℕ) (inputs : Inputs) → inputs_of purpose.Release files name ≡ Ok inputs → All (λ (row : Row). pos 0 ≤ℤ row.value) inputs.records.rows
unfolding inputs_of
values-read files name inputs h =
    let described = bind_ok (described_of purpose.Release files name) _ inputs h in
    let fields = bind_ok (spanning_fields files described.0) _ inputs described.2 in
    let layout : Layout = layout_of described.0.meta.variables described.0.bound fields.0 in
    let records = bind_ok (look_at_records files described.0.job.micro layout) _ inputs fields.2 in
    let within = records-within layout (files described.0.job.micro) records.0 records.1 in
    let same : record { described = described.0; records = records.0 } ≡ inputs = cc in
    subst (λ (one : Inputs). All (λ (row : Row). pos 0 ≤ℤ row.value) one.records.rows) same (values-from-zero (scale_of layout.weight) records.0.trees records.0.rows within.rows)

are-read : (files : Files) (name : List ℕ) (settled : SettledInputs) → settled_of purpose.Release files name ≡ Ok settled → AreRead files settled
unfolding settled_of
are-read files name settled h =
    let inputs = bind_ok (inputs_of purpose.Release files name) _ settled h in
    let linked = bind_ok (map_fault cells_fault (book_with_depths inputs.0.records.trees inputs.0.described.bound.tables)) _ settled inputs.2 in
    let priors = bind_ok (priors_of files inputs.0) _ settled linked.2 in
    let own = bind_ok (settled_cells inputs.0 priors.0) _ settled priors.2 in
    let fine = bind_ok (refuse fault.OutName (overwrites_job name inputs.0.described.job)) _ settled own.2 in
    let same : record { inputs = inputs.0; priors = priors.0; cells = own.0 } ≡ settled = cc in
    subst (λ (s : SettledInputs). AreRead files s) same (record { priors = priors.1; cells = own.1; values = values-read files name inputs.0 inputs.1 })

settled-so : (rules : Rules) (of : List Figures) (priors : List Prior) (made : List SettledCell) → settle_of rules of priors ≡ Ok made → made ≡ map (λ (cell : Figures × Prior). settled_cell rules cell.0 cell.1) (zip of priors)
unfolding settle_of
settled-so rules of priors made h =
    let fine = bind_ok (refuse_line (first_clash rules (zip of priors))) _ made h in
    let same : map (λ (cell : Figures × Prior). settled_cell rules cell.0 cell.1) (zip of priors) ≡ made = cc in
    sym same

-- what the cells are, as a list
cells-same : (files : Files) (settled : SettledInputs) → AreRead files settled → settled.cells ≡ map (λ (cell : Figures × Prior). settled_cell settled.inputs.described.job.rules cell.0 cell.1) (zip (figures settled.inputs) settled.priors)
cells-same files settled are = settled-so settled.inputs.described.job.rules (figures settled.inputs) settled.priors settled.cells
    (no-fault prior_fault (settle_of settled.inputs.described.job.rules (figures settled.inputs) settled.priors) settled.cells are.cells)

-- ---- one settled cell for each cell

many-from : (table cell : ℕ) (priors : List Prior) (statements : _) → length (priors_from table cell priors statements) ≡ length priors
many-from table cell [] statements = refl
many-from table cell (prior ∷ priors) statements = ap suc (many-from table (cell + 1) priors statements)

many-applied : (files : Files) (inputs : Inputs) (t : ℕ) (line : PriorLine) (priors next : List Prior) (bytes : List ℕ) → with_bytes inputs t line priors bytes ≡ Ok next → length next ≡ length priors
unfolding apply_of
many-applied files inputs t line priors next bytes h =
    let own : file_says (basis_in inputs) t line.separator inputs.described.bound.decimals priors bytes ≡ Ok next =
    no-fault prior_fault (file_says (basis_in inputs) t line.separator inputs.described.bound.decimals priors bytes) next h in
    let statements = bind_ok (lines_say (basis_in inputs) _ priors [] 0 _) _ next own in
    let same : priors_from t 0 priors statements.0 ≡ next = cc in
    ap (λ (all : List Prior). length all) (sym same) ∙ many-from t 0 priors statements.0

many-stated : (files : Files) (inputs : Inputs) (t : ℕ) (line : Option PriorLine) (priors next : List Prior) → with_file files inputs t line priors ≡ Ok next → length next ≡ length priors
unfolding with_file
many-stated files inputs t None priors next h = let same : priors ≡ next = cc in ap (λ (all : List Prior). length all) (sym same)
many-stated files inputs t (Some line) priors next h =
    let bytes = bind_ok (bytes_of_file files line.file (file.Apriori t)) _ next h in
    many-applied files inputs t line priors next bytes.0 bytes.2

many-priors : (files : Files) (inputs : Inputs) (t : ℕ) (priors : List Prior) → with_files files inputs t ≡ Ok priors → length priors ≡ length (cells inputs)
unfolding with_files
many-priors files inputs zero priors h = let same : _ ≡ priors = cc in ap (λ (all : List Prior). length all) (sym same) ∙ length-replicate (length (cells inputs)) empty_prior
many-priors files inputs (suc t) priors h =
    let stated = bind_ok (with_files files inputs t) _ priors h in
    many-stated files inputs t (prior_line t inputs.described.job.priors) stated.0 priors stated.2 ∙ many-priors files inputs t stated.0 stated.1

many-settled : (files : Files) (settled : SettledInputs) → AreRead files settled → length settled.cells ≡ length (cells settled.inputs)
many-settled files settled are =
    let inputs : Inputs = settled.inputs in
    let many : length (figures inputs) ≡ length (cells inputs) = length-map (cells inputs) (λ (name : Name). figures_in inputs.records.trees name inputs.records.rows inputs.described.bound.scale) in
    let priors : length settled.priors ≡ length (figures inputs) = many-priors files inputs (length inputs.described.job.tables) settled.priors are.priors ∙ sym many in
    ap (λ (all : List SettledCell). length all) (cells-same files settled are)
    ∙ length-map (zip (figures inputs) settled.priors) (λ (cell : Figures × Prior). settled_cell inputs.described.job.rules cell.0 cell.1)
    ∙ sym (length-map (zip (figures inputs) settled.priors) (λ (cell : Figures × Prior). cell.0))
    ∙ ap (λ (all : List Figures). length all) (firsts-zip (figures inputs) settled.priors priors)
    ∙ many

-- what stands at a place where two lists are gone through together
both-at : {A B C D : Type 0} (f : B → C → D) (g : A → B) (xs : List A) (ys : List C) (k : ℕ) (x : A) (y : C) → slice_get xs k ≡ Some x → slice_get ys k ≡ Some y
    → slice_get (map (λ (pair : B × C). f pair.0 pair.1) (zip (map g xs) ys)) k ≡ Some (f (g x) y)
both-at f g [] ys k x y one other = absurd cc
both-at f g (x ∷ xs) [] k a b one other = absurd cc
both-at f g (x ∷ xs) (y ∷ ys) zero a b one other = let first : x ≡ a = cc in let second : y ≡ b = cc in ap Some (ap (λ v. f (g v) y) first ∙ ap (f (g a)) second)
both-at f g (x ∷ xs) (y ∷ ys) (suc k) a b one other = both-at f g xs ys k a b one other

-- a settled cell is what the rules make of the cell with its number
by-rules : (files : Files) (settled : SettledInputs) → AreRead files settled → (number : ℕ) (name : Name) (prior : Prior) → slice_get (cells settled.inputs) number ≡ Some name → slice_get settled.priors number ≡ Some prior
    → slice_get settled.cells number ≡ Some (cell_by_rules settled.inputs name prior)
by-rules files settled are number name prior at stated =
    let inputs : Inputs = settled.inputs in
    ap (λ (all : List SettledCell). slice_get all number) (cells-same files settled are)
    ∙ both-at (settled_cell inputs.described.job.rules) (λ (n : Name). figures_in inputs.records.trees n inputs.records.rows inputs.described.bound.scale) (cells inputs) settled.priors number name prior at stated

-- its truth isn't below 0
from-zero : (files : Files) (settled : SettledInputs) → AreRead files settled → (number : ℕ) (cell : SettledCell) → slice_get settled.cells number ≡ Some cell → pos 0 ≤ℤ cell.truth
from-zero files settled are number cell at =
    let inputs : Inputs = settled.inputs in
    let inside : number < length settled.cells = slice_get_within settled.cells number cell at in
    let name = entry-in (cells inputs) number (omega (arith, inside, many-settled files settled are)) in
    let prior = entry-in settled.priors number (omega (arith, inside, many-settled files settled are, many-priors files inputs (length inputs.described.job.tables) settled.priors are.priors)) in
    let same : cell_by_rules inputs name.0 prior.0 ≡ cell = some-same (sym (by-rules files settled are number name.0 prior.0 name.1 prior.1) ∙ at) in
    subst (λ (one : SettledCell). pos 0 ≤ℤ one.truth) same (truth_from_zero inputs.records.trees name.0 inputs.records.rows are.values)

-- the cells are by the rules, one for each
are-cells : (files : Files) (settled : SettledInputs) → AreRead files settled → HasCellsByRules settled
are-cells files settled are = record {
  one_each = many-settled files settled are;
  stated_each = many-priors files settled.inputs (length settled.inputs.described.job.tables) settled.priors are.priors;
  by_rules = by-rules files settled are;
  from_zero = from-zero files settled are;
}

-- the cells of a protection are those of the inputs that were read
is-of : (files : Files) (settled : SettledInputs) (outcome : _) → AreRead files settled → (its : IsProtectionFor settled outcome) → IsOf settled its.system its.job.cells
is-of files settled outcome are its =
    let system_is : IsSystemIn settled.inputs its.system = (its.job.book, its.job_is.book, its.system_is) in
    record {
      system_is = system_is;
      cells_are = its.job_is.cells;
      one_each = sym (as-many-settled settled its.job.cells its.job_is.cells) ∙ many-settled files settled are ∙ sym (as-many-cells settled.inputs its.system system_is);
    }

-- ---- what was put

held-puts : (files out : Files) (name : List ℕ) (settled : SettledInputs) (puts : List FilePut) (old new : TrayState) → settled_of purpose.Release files name ≡ Ok settled → names_put settled.inputs.described.job ≡ names puts
    → AllWhole puts old new → new.files ≡ Some out → AreHeld out puts
held-puts files out name settled puts old new read called whole is =
    let stated = job-read files name settled.inputs.described (described-read files name settled.inputs (inputs-read files name settled read)) in
    let apart : IsDistinct bytes_eq (names puts) = subst (λ (all : List (List ℕ)). IsDistinct bytes_eq all) called (differ stated.0 settled.inputs.described.job stated.1) in
    let before = some-before old.files out puts (sym whole.files ∙ is) in
    subst (λ (o : Files). AreHeld o puts) (sym before.1) (all-held puts before.0 apart)

-- ---- a release that hides

protected-tables : (files out : Files) (name : List ℕ) (settled : SettledInputs) (release : Release) (old new : TrayState) → settled_of purpose.Release files name ≡ Ok settled → IsSoundJob settled.inputs.described
    → AllWhole release.puts old new → new.files ≡ Some out → settled.inputs.described.job.contributors ≡ None → IsSuppressedRelease settled release → ProtectedTables settled out
protected-tables files out name settled release old new read sound whole told none is =
    let its = is.protects in
    let of : IsOf settled its.system its.job.cells = is-of files settled _ (are-read files name settled read) its in
    let flags : List Bool = is.hidden_set.hidden.flags in
    let set = its.comes_to.verdict.0 in
    let shown : Name → Option ℤ = shown_in settled.inputs flags in
    let put : AllWhole (puts_of settled.inputs shown is.certificate) old new = subst (λ (puts : List FilePut). AllWhole puts old new) is.puts whole in
    let held = held-puts files out name settled (puts_of settled.inputs shown is.certificate) old new read (plain-names settled.inputs shown is.certificate sound.job.outputs none) put told in
    record {
      hidden = flags;
      tables = record {
        shown = tables-show out settled.inputs shown sound.job.outputs held.1;
        permitted = permitted-set settled its.system its.job.cells flags of set.each_flag set.protecting.permitted;
        protects = protects-each settled its.system its.job.cells flags of set.protecting.protects;
      };
      needed = needs-each settled its.system its.job.cells flags _ is.certificate.needs of set.each_flag its.comes_to.verdict.1;
    }

-- ---- a release that guards

guarded-tables : (files out : Files) (name : List ℕ) (settled : SettledInputs) (release : Release) (old new : TrayState) → settled_of purpose.Release files name ≡ Ok settled → IsSoundJob settled.inputs.described
    → AllWhole release.puts old new → new.files ≡ Some out → IsGuardedRelease settled release → GuardedTables settled out
guarded-tables files out name settled release old new read sound whole told is =
    let inputs : Inputs = settled.inputs in
    let its = is.guards.protects in
    let by = is.guards.guards in
    let set = is.guards.protects.comes_to.verdict.0 in
    let of : IsOf settled its.system its.job.cells = is-of files settled _ (are-read files name settled read) its in
    let first : List Bool = is.hidden_set.hidden.flags in
    let extra : Extra = is.guarded.extra in
    let shown : Name → Option ℤ = shown_in inputs is.guarded.hidden.flags in
    let puts : List FilePut = guarded_puts inputs is.guards.line.file shown is.certificate extra in
    let held : AreHeld out puts = held-puts files out name settled puts old new read (guarded-names inputs is.guards.line shown is.certificate extra sound.job.outputs is.guards.named)
    (subst (λ (all : List FilePut). AllWhole all old new) is.puts whole) told in
    guarded-set settled its.system its.job.cells by.soles first extra out
    (record {
      of = of;
      book = its.job.book;
      book_is = its.job_is.book;
      each_named = by.each_named;
      are_soles = by.are_soles;
      each_flag = set.each_flag;
      protecting = set.protecting;
      guarding = by.comes_to.guarding.guarding;
    })
    (tables-show out inputs (shown_in inputs (hide_cells first extra.cells)) sound.job.outputs (subst (λ (flags : List Bool). AreHeld out (tables_from inputs (shown_in inputs flags) 0 inputs.described.job.tables inputs.described.job.outputs)) by.comes_to.flags_are held.1.1))
    (needs-each settled its.system its.job.cells first _ is.certificate.needs of set.each_flag its.comes_to.verdict.1)

-- ---- a release that rounds

-- a rounding for the inputs is one of their cells
pub rounded-so : (inputs : Inputs) (base : ℤ) (values : List ℤ) → IsRoundingFor inputs base values → AreRounded inputs base values
rounded-so inputs base values is = record {
  one_each = is.rounding.each ∙ as-many-cells inputs is.system is.system_is;
  adjacent = λ number name at. (
      let inside : number < is.system.cells = omega (arith, as-many-cells inputs is.system is.system_is, slice_get_within (cells inputs) number name at) in
      subst (λ (truth : ℤ). IsAdjacent base truth (number_at values number)) (truth-at _ (cells inputs) number name at) (is.rounding.adjacent number inside));
  add_up = hold-add-up inputs is.system (number_at values) is.system_is is.rounding.hold;
}

rounding-so : (inputs : Inputs) (system : System) (base : ℤ) (values : List ℤ) → IsSystemIn inputs system → AreRounded inputs base values → IsRoundingFor inputs base values
rounding-so inputs system base values is are = record {
  system = system;
  system_is = is;
  rounding = record {
    each = are.one_each ∙ sym (as-many-cells inputs system is);
    adjacent = λ number inside. (
        let at = read-at (cells inputs) number [] (omega (arith, inside, as-many-cells inputs system is)) in
        subst (λ (truth : ℤ). IsAdjacent base truth (number_at values number)) (sym (truth-at _ (cells inputs) number _ at)) (are.adjacent number _ at));
    hold = add-up-hold inputs system (number_at values) is are.add_up;
  };
}

rounded-tables : (files out : Files) (name : List ℕ) (settled : SettledInputs) (release : Release) (base : ℤ) (old new : TrayState) → settled_of purpose.Release files name ≡ Ok settled → IsSoundJob settled.inputs.described
    → AllWhole release.puts old new → new.files ≡ Some out → job_base settled.inputs.described ≡ Some base → IsReleaseOfRounding settled base release → RoundedTables settled base out
rounded-tables files out name settled release base old new read sound whole told rounds is =
    let inputs : Inputs = settled.inputs in
    let shown : Name → Option ℤ = value_in inputs is.values in
    let none = no-file-to-round inputs.described.job.method inputs.described.bound.decimals base inputs.described.job.contributors rounds sound.job.contributors in
    let put : AllWhole (puts_of inputs shown (rounded_certificate inputs)) old new = subst (λ (puts : List FilePut). AllWhole puts old new) is.puts whole in
    let held = held-puts files out name settled (puts_of inputs shown (rounded_certificate inputs)) old new read (plain-names inputs shown (rounded_certificate inputs) sound.job.outputs none) put told in
    record { values = is.values; rounded = rounded-so inputs base is.values is.rounding; shown = tables-show out inputs shown sound.job.outputs held.1 }

-- ---- any release

hiding-tables : (files out : Files) (name : List ℕ) (summary : Summary) (old new : TrayState) (has : Releases files name summary old new) → new.files ≡ Some out → (line : Option OutputLine) → has.settled.inputs.described.job.contributors ≡ line
    → IsHidingRelease line has.settled has.release → AreTablesBy None line has.settled out
hiding-tables files out name summary old new has told None none is = protected-tables files out name has.settled has.release old new has.read has.sound has.put told none is
hiding-tables files out name summary old new has told (Some line) some is = guarded-tables files out name has.settled has.release old new has.read has.sound has.put told is

tables-by : (files out : Files) (name : List ℕ) (summary : Summary) (old new : TrayState) (has : Releases files name summary old new) → new.files ≡ Some out → (base : Option ℤ) → job_base has.settled.inputs.described ≡ base
    → IsReleaseBy base has.settled has.release → AreTablesBy base has.settled.inputs.described.job.contributors has.settled out
tables-by files out name summary old new has told None hides is = hiding-tables files out name summary old new has told has.settled.inputs.described.job.contributors refl is
tables-by files out name summary old new has told (Some base) rounds is = rounded-tables files out name has.settled has.release base old new has.read has.sound has.put told rounds is

-- what is said of settled inputs that were read is true of what was read
pub true-of : (Says : SettledInputs → Type 0) (files : Files) (name : List ℕ) (settled : SettledInputs) → settled_of purpose.Release files name ≡ Ok settled → Says settled → IsTrueOf (settled_of purpose.Release files name) Says
true-of Says files name settled read says =
    let true_of : HasCellsByRules settled × Says settled = (are-cells files settled (are-read files name settled read), says) in
    subst (λ (o : Result SettledInputs Fault). IsOkAnd o (λ (s : SettledInputs). HasCellsByRules s × Says s)) (sym read) true_of

promised-tables : (files out : Files) (name : List ℕ) (summary : Summary) (old new : TrayState) → Releases files name summary old new → new.files ≡ Some out → IsTrueOf (settled_of purpose.Release files name) (λ settled. AreTablesOf settled out)
promised-tables files out name summary old new has told =
    true-of (λ settled. AreTablesOf settled out) files name has.settled has.read (tables-by files out name summary old new has told (job_base has.settled.inputs.described) refl has.is_release)

-- ---- no release

cant-protect : (files : Files) (settled : SettledInputs) (number : ℕ) (side : Side) (multipliers : Multipliers) → AreRead files settled → IsProtectionFor settled (protection.Cannot (record { cell = number; side = side; multipliers = multipliers })) → CantBeProtected settled number side
cant-protect files settled number side multipliers are its =
    let of : IsOf settled its.system its.job.cells = is-of files settled _ are its in
    let primary = asked_primary its.job.cells its.comes_to.first.place (number, side) its.comes_to.first.stands in
    let at = settled-at settled its.system its.job.cells number primary.cell of primary.found in
    record {
      cell = view_of_cell primary.cell;
      sensitive = record { found = at; kind = primary.is_kind };
      none = λ hidden set open_. its.comes_to.none_protects hidden (set.one_each ∙ as-many-settled settled its.job.cells of.cells_are) (permitted-so settled its.system its.job.cells hidden of set)
          (open-protects settled its.system its.job.cells hidden number (view_of_cell primary.cell) side of at open_);
    }

cant-guard : (files : Files) (settled : SettledInputs) (row number : ℕ) (side : Side) (multipliers : Multipliers) → AreRead files settled → HasNoGuard settled row number side multipliers → CantBeGuarded settled row number side
cant-guard files settled row number side multipliers are has =
    let its = has.guards.protects in
    let by = has.guards.guards in
    let soles = by.soles in
    let of : IsOf settled its.system its.job.cells = is-of files settled _ are its in
    let attack : Attack = record { row = row; cell = number; side = side } in
    let says : AttackSays its.job.cells soles attack = attack_says its.job.cells soles attack (attack_at its.job.cells soles (attacks_of its.job.cells soles) by.comes_to.place attack (attacks_are its.job.cells soles) by.comes_to.stands) in
    let at = settled-at settled its.system its.job.cells number says.primary.cell of says.primary.found in
    let some = knows-some soles row says.makes_up in
    record {
      cell = view_of_cell says.primary.cell;
      sensitive = record { found = at; kind = says.primary.is_kind };
      unknown = sym (known-same settled.inputs its.job.book soles row number its.job_is.book by.each_named by.are_soles) ∙ says.unknown;
      knows_some = (some.0, sym (known-same settled.inputs its.job.book soles row some.0 its.job_is.book by.each_named by.are_soles) ∙ some.1);
      none = λ hidden set open_.
          (let long = set.one_each ∙ as-many-settled settled its.job.cells of.cells_are in
          let within = in_full its.job.cells hidden long (permitted-so settled its.system its.job.cells hidden of set) in
          let protects : Protects its.system its.job.cells (without_known soles row hidden) number side =
          subst (λ (flags : List Bool). Protects its.system its.job.cells flags number side) (sym (unknown-same settled.inputs its.job.book soles row hidden its.job_is.book by.each_named by.are_soles))
          (open-protects settled its.system its.job.cells (unknown_to settled.inputs row hidden) number (view_of_cell says.primary.cell) side of at open_) in
          by.comes_to.unguarded (protects_more its.system its.job.cells (without_known soles row hidden) (without_known soles row (full_set its.job.cells)) number side (without_more soles row hidden (full_set its.job.cells) within) protects));
    }

cant-round : (settled : SettledInputs) → HasNoRounding settled → CantBeRounded settled
cant-round settled has = record {
  base = has.base;
  base_is = has.rounds;
  none = λ values are. has.none values (rounding-so settled.inputs has.system has.base values has.system_is are);
}

-- what follows for settled inputs that were read from what is known of them is true of what was read
true-by : (P Says : SettledInputs → Type 0) (files : Files) (name : List ℕ) → ((settled : SettledInputs) → AreRead files settled → P settled → Says settled) → (read : Result SettledInputs Fault) → settled_of purpose.Release files name ≡ read
    → IsOkAnd read P → IsTrueOf read Says
true-by P Says files name more (Ok settled) is known =
    let are : AreRead files settled = are-read files name settled is in
    (are-cells files settled are, more settled are known)
true-by P Says files name more (Err why) is known = known

-- ---- the promise

-- no answer of which nothing is an end
no-end : (outcome : Result SettledInputs Fault) → IsOkAnd outcome (λ settled. ⊥) → ⊥
no-end (Ok settled) is = is
no-end (Err why) is = is

pub promise-kept : (name : List ℕ) (answer : Report) (old new : ShelfState) (before after : TrayState) → IsReleaseRunOf name answer old new before after
    → WhereTold old.files (λ fs. WhereTold after.files (λ out. IsPromiseOf answer (settled_of purpose.Release fs name) out))
promise-kept name answer old new before after is fs held out told = by answer refl (is.run.told fs held)
  where
    by : (one : Report) → answer ≡ one → AgreesWith IsReleaseEnd one (settled_of purpose.Release fs name) → IsPromiseOf one (settled_of purpose.Release fs name) out
    by (report.Released summary) same agrees = promised-tables fs out name summary before after (is.released fs held summary same) told
    by report.Accepted same agrees = absurd (no-end (settled_of purpose.Release fs name) agrees)
    by (report.Cannot number side multipliers) same agrees =
        true-by (λ settled. IsProtectionFor settled (protection.Cannot (record { cell = number; side = side; multipliers = multipliers }))) (λ settled. CantBeProtected settled number side) fs name
        (λ settled are its. cant-protect fs settled number side multipliers are its) (settled_of purpose.Release fs name) refl agrees
    by (report.CannotAgainst row number side multipliers) same agrees =
        true-by (λ settled. HasNoGuard settled row number side multipliers) (λ settled. CantBeGuarded settled row number side) fs name
        (λ settled are has. cant-guard fs settled row number side multipliers are has) (settled_of purpose.Release fs name) refl agrees
    by report.NoRounding same agrees =
        true-by HasNoRounding CantBeRounded fs name (λ settled are has. cant-round settled has) (settled_of purpose.Release fs name) refl agrees
    by other same agrees = tt
