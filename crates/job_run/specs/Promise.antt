-- The promise of a run and of a check: what the answer says of the tables that a run put in the tray, of those that a
-- check found on the shelf, or of why there are none, told by records, cells and sums alone (hiding follows the handbook,
-- secondary suppression; contributors and controlled rounding are own). How files of a job are read as settled inputs is
-- a page of its own: `settled_of`.
--
-- Cells have names, and numbers by their order in `cells inputs`. In the settled inputs each has a truth, which is its
-- records' weighted sum, the bounds that are stated of it, `low` and `high`, its protection levels above and below,
-- `up` and `down`, and a kind: `Primary` is sensitive, `Fixed` always shown. Their `priors` are what a priori lines
-- state of each. A hidden set is a list with a flag for each cell.
use Rattle.std.specs.Prelude.{◌≡◌, ◌≢◌, ℕ, ◌<◌, ◌==◌, ◌&&◌, not, Bool, true, false, List, [], length, map, slice_get, slice_set, Option, None, Some, Result, IsOkAnd, ℤ, pos, neg_ℤ, ◌+ℤ◌, ◌*ℤ◌, ◌≤ℤ◌}
use Rattle.std.specs.List.{range_with_len}
use Rattle.std.specs.Option.{option_map_or}
use Rattle.sdc_base.specs.HiddenSets.{is_hidden}
use Rattle.sdc_base.specs.Records.{Name, row_falls}
use Rattle.sdc_base.specs.Relations.{codes_below, is_spanned, parts_among}
use Rattle.sdc_base.specs.Roundings.{IsAdjacent}
use Rattle.sdc_base.specs.RuleLevels.{figures_in}
use Rattle.sdc_base.specs.Sums.{freq}
use Rattle.sdc_base.specs.Systems.{Numbers, number_at}
use Rattle.sdc_base.specs.Totals.{sum_of}
use Rattle.sdc_base.specs.declared.cell.Kind.TheVariants.{Primary, Fixed}
use Rattle.sdc_base.specs.declared.side.Side.{Side}
use Rattle.sdc_base.specs.declared.side.Side.TheVariants.{Above, Below}
use Rattle.apriori.specs.Settling.{SettledCell, settled_cell}
use Rattle.apriori.specs.declared.prior.Prior.{Prior}
use Rattle.job_lang.specs.declared.job.OutputLine.{OutputLine}
use Rattle.job_lang.specs.declared.job.TableLine.{TableLine}
use Rattle.office_io.specs.Files.{Files}
use Rattle.job_inputs.specs.Cells.{cells, truth_in}
use Rattle.job_inputs.specs.ClassifiedJobs.{SettledInputs}
use Rattle.job_inputs.specs.Tables.{names_of}
use Rattle.job_inputs.specs.declared.faults.Fault.{Fault}
use Rattle.job_inputs.specs.declared.inputs.Inputs.{Inputs}
use Rattle.job_run.specs.Releases.{shown_in, table_of, value_in}
use Rattle.job_run.specs.Roundings.{job_base}
use Rattle.job_run.specs.declared.report.Report.{Report}
use Rattle.job_run.specs.declared.report.Report.TheVariants as report

-- ---- what is sensitive

-- what the rules make of the cell with this name, by the records that fall in it and by what a priori lines state of it:
-- whether it is sensitive, its levels and its bounds
abbrev pub cell_by_rules : Inputs → Name → Prior → SettledCell
cell_by_rules inputs name prior =
    settled_cell inputs.described.job.rules
    (figures_in inputs.records.trees name inputs.records.rows inputs.described.bound.scale) prior

-- There is a settled cell for each cell, and it is the one that the rules make of it; its truth isn't below 0, so a table
-- that shows it shows all of it.
pub record HasCellsByRules (settled : SettledInputs) : Type 0 where
  pub one_each : length settled.cells ≡ length (cells settled.inputs)
  pub stated_each : length settled.priors ≡ length (cells settled.inputs)
  pub by_rules : (number : ℕ) (name : Name) (prior : Prior) → slice_get (cells settled.inputs) number ≡ Some name
      → slice_get settled.priors number ≡ Some prior
      → slice_get settled.cells number ≡ Some (cell_by_rules settled.inputs name prior)
  pub from_zero : (number : ℕ) (cell : SettledCell) → slice_get settled.cells number ≡ Some cell → pos 0 ≤ℤ cell.truth

-- the cell with this number is this one, and it is sensitive
pub record IsSensitive (settled : SettledInputs) (number : ℕ) (cell : SettledCell) : Type 0 where
  pub found : slice_get settled.cells number ≡ Some cell
  pub kind : cell.kind ≡ Primary

-- a set that a release may hide: every sensitive cell is in it, and none that is always shown
pub record IsPermittedSet (settled : SettledInputs) (hidden : List Bool) : Type 0 where
  pub one_each : length hidden ≡ length settled.cells
  pub sensitive_hidden : (number : ℕ) (cell : SettledCell) → IsSensitive settled number cell
      → is_hidden hidden number ≡ true
  pub fixed_shown : (number : ℕ) (cell : SettledCell) → slice_get settled.cells number ≡ Some cell
      → cell.kind ≡ Fixed → is_hidden hidden number ≡ false

-- ---- what a reader can't rule out

-- Amounts of the cells add up. Where some table has a cell, spans a variable and goes below the cell's code for it, and
-- there are codes right below that one, the cell's amount is the sum of those of its parts, the cells with one of these
-- codes in place of its own.
abbrev pub AddUp : Inputs → Numbers → Type 0
AddUp inputs numbers =
    (number : ℕ) (name : Name) (variable : ℕ) → slice_get (cells inputs) number ≡ Some name
    → variable < length inputs.records.trees
    → is_spanned inputs.records.trees inputs.described.bound.tables name variable ≡ true
    → codes_below inputs.records.trees name variable ≢ []
    → numbers number
    ≡ sum_of numbers (parts_among (cells inputs) name variable (codes_below inputs.records.trees name variable))

-- A value of a cell is given by how far it moves from the truth, over a denominator: it is truth + move / den. This one
-- is at least the bound `low` and, where `high` is stated, at most that.
pub record IsWithinStatedBounds (cell : SettledCell) (den move : ℤ) : Type 0 where
  pub at_least : (den *ℤ cell.low) ≤ℤ (den *ℤ cell.truth +ℤ move)
  pub at_most : (high : ℤ) → cell.high ≡ Some high → (den *ℤ cell.truth +ℤ move) ≤ℤ (den *ℤ high)

-- A complete table is a value for each cell, of all tables, that a reader can't rule out who knows three things: what
-- is shown, that the cells of one variable's tree add up, and the bounds: no shown cell moves; moves add up, and so the
-- values do, since the truths do; and each value, which needn't be whole, is within its cell's bounds.
pub record IsCompleteTable (settled : SettledInputs) (hidden : List Bool) (den : ℤ) (moves : Numbers) : Type 0 where
  pub positive : pos 1 ≤ℤ den
  pub shown_stay : (number : ℕ) (cell : SettledCell) → slice_get settled.cells number ≡ Some cell
      → is_hidden hidden number ≡ false → moves number ≡ pos 0
  pub add_up : AddUp settled.inputs moves
  pub within_bounds : (number : ℕ) (cell : SettledCell) → slice_get settled.cells number ≡ Some cell
      → IsWithinStatedBounds cell den (moves number)

-- above: the value exceeds the truth by at least `up`; below: it falls short of the truth by at least `down`
abbrev pub ReachesLevel : Side → SettledCell → ℤ → ℤ → Type 0
ReachesLevel Above cell den move = (den *ℤ cell.up) ≤ℤ move
ReachesLevel Below cell den move = (den *ℤ cell.down) ≤ℤ neg_ℤ move

-- a cell stays open to a side: some complete table has it at least its level there
abbrev pub StaysOpen : SettledInputs → List Bool → ℕ → SettledCell → Side → Type 0
StaysOpen settled hidden number cell side =
    (den : ℤ) × (moves : Numbers) × IsCompleteTable settled hidden den moves × ReachesLevel side cell den (moves number)

-- a hidden set protects: every sensitive cell stays open above and below
abbrev pub ProtectsEachCell : SettledInputs → List Bool → Type 0
ProtectsEachCell settled hidden =
    (number : ℕ) (cell : SettledCell) (side : Side) → IsSensitive settled number cell
    → StaysOpen settled hidden number cell side

-- ---- what a contributor can't rule out: each record is one of its own, and knows whole cells alone

-- the contributor of the record at this row knows the cell with this name: no other record falls in it
abbrev pub knows : Inputs → ℕ → Name → Bool
knows inputs row name =
    (freq inputs.records.trees name inputs.records.rows == 1)
    && option_map_or (row_falls inputs.records.trees name) (slice_get inputs.records.rows row) false

-- it knows the cell with this number
abbrev pub knows_cell : Inputs → ℕ → ℕ → Bool
knows_cell inputs row number = option_map_or (knows inputs row) (slice_get (cells inputs) number) false

-- the hidden set without the cells that it knows
abbrev pub unknown_to : Inputs → ℕ → List Bool → List Bool
unknown_to inputs row hidden =
    map (λ number. is_hidden hidden number && not (knows_cell inputs row number)) (range_with_len 0 (length hidden))

-- A hidden set guards: for each record's contributor, to whom the cells that it knows are as good as shown, every
-- sensitive cell that it doesn't know stays open above and below.
abbrev pub GuardsEachCell : SettledInputs → List Bool → Type 0
GuardsEachCell settled hidden =
    (row number : ℕ) (cell : SettledCell) (side : Side) → IsSensitive settled number cell
    → knows_cell settled.inputs row number ≡ false
    → StaysOpen settled (unknown_to settled.inputs row hidden) number cell side

-- ---- tables that hide cells

-- each table of the job has an output, and the file of that name is the table's text, in which each cell, by its name,
-- shows what `shown` gives for it: a number, or nothing
abbrev pub TablesShow : Inputs → (Name → Option ℤ) → Files → Type 0
TablesShow inputs shown tray =
    (t : ℕ) (line : TableLine) → slice_get inputs.described.job.tables t ≡ Some line
    → (output : OutputLine) × (slice_get inputs.described.job.outputs t ≡ Some output)
    × (tray output.file ≡ Some (table_of inputs shown t (names_of line)))

-- the tables hide a permitted set that protects, and show every other cell's truth
pub record HidingTables (settled : SettledInputs) (hidden : List Bool) (tray : Files) : Type 0 where
  pub shown : TablesShow settled.inputs (shown_in settled.inputs hidden) tray
  pub permitted : IsPermittedSet settled hidden
  pub protects : ProtectsEachCell settled hidden

-- the hidden set with this one cell shown, and all others left as they are
abbrev pub without : List Bool → ℕ → List Bool
without hidden number = slice_set hidden number false

-- the cell with this number is hidden for the sake of others: it isn't sensitive itself
pub record IsHiddenForOthers (settled : SettledInputs) (hidden : List Bool) (number : ℕ) : Type 0 where
  pub hidden_is : is_hidden hidden number ≡ true
  pub insensitive : (cell : SettledCell) → ¬ IsSensitive settled number cell

-- each cell that is hidden for others is needed: with that one shown, the hidden set doesn't protect
abbrev pub NeedsEachCell : SettledInputs → List Bool → Type 0
NeedsEachCell settled hidden =
    (number : ℕ) → IsHiddenForOthers settled hidden number → ¬ ProtectsEachCell settled (without hidden number)

-- a release that holds against readers: tables that hide cells, and each cell that is hidden for others is needed
pub record ProtectedTables (settled : SettledInputs) (tray : Files) : Type 0 where
  pub hidden : List Bool
  pub tables : HidingTables settled hidden tray
  pub needed : NeedsEachCell settled hidden

-- A release that holds against readers and contributors: what its tables hide also guards. The hidden set is a core,
-- which would do against readers alone, as in a release of that kind, and extra cells, each of which is needed to guard.
pub record GuardedTables (settled : SettledInputs) (tray : Files) : Type 0 where
  pub hidden : List Bool
  pub tables : HidingTables settled hidden tray
  pub guards : GuardsEachCell settled hidden
  pub core : List Bool
  pub core_within : (number : ℕ) → is_hidden core number ≡ true → is_hidden hidden number ≡ true
  pub core_permitted : IsPermittedSet settled core
  pub core_protects : ProtectsEachCell settled core
  pub core_needed : NeedsEachCell settled core
  pub extra_needed : (number : ℕ) → is_hidden hidden number ≡ true → is_hidden core number ≡ false
      → ¬ GuardsEachCell settled (without hidden number)

-- ---- tables that are rounded

-- values to which truths are rounded: each a multiple of the base less than one base from its truth, and they add up
pub record AreRounded (inputs : Inputs) (base : ℤ) (values : List ℤ) : Type 0 where
  pub one_each : length values ≡ length (cells inputs)
  pub adjacent : (number : ℕ) (name : Name) → slice_get (cells inputs) number ≡ Some name
      → IsAdjacent base (truth_in inputs name) (number_at values number)
  pub add_up : AddUp inputs (number_at values)

-- the tables show such values; they hide nothing, and promise nothing of sensitive cells
pub record RoundedTables (settled : SettledInputs) (base : ℤ) (tray : Files) : Type 0 where
  pub values : List ℤ
  pub rounded : AreRounded settled.inputs base values
  pub shown : TablesShow settled.inputs (value_in settled.inputs values) tray

-- ---- no tables

-- no permitted set keeps this sensitive cell open to this side
pub record CantBeProtected (settled : SettledInputs) (number : ℕ) (side : Side) : Type 0 where
  pub cell : SettledCell
  pub sensitive : IsSensitive settled number cell
  pub none : (hidden : List Bool) → IsPermittedSet settled hidden → ¬ StaysOpen settled hidden number cell side

-- no permitted set keeps this sensitive cell open to this side against the contributor of the record at this row, which
-- knows some other cell, but not this one
pub record CantBeGuarded (settled : SettledInputs) (row number : ℕ) (side : Side) : Type 0 where
  pub cell : SettledCell
  pub sensitive : IsSensitive settled number cell
  pub unknown : knows_cell settled.inputs row number ≡ false
  pub knows_some : (other : ℕ) × (knows_cell settled.inputs row other ≡ true)
  pub none : (hidden : List Bool) → IsPermittedSet settled hidden
      → ¬ StaysOpen settled (unknown_to settled.inputs row hidden) number cell side

-- the job names a base, and there are no values to which its truths could be rounded
pub record CantBeRounded (settled : SettledInputs) : Type 0 where
  pub base : ℤ
  pub base_is : job_base settled.inputs.described ≡ Some base
  pub none : (values : List ℤ) → ¬ AreRounded settled.inputs base values

-- ---- the promise

-- The tables are as a job asks for them. One that names a base has them rounded; any other has cells hidden, and from
-- contributors too where it has an output line for these.
abbrev pub AreTablesBy : Option ℤ → Option OutputLine → SettledInputs → Files → Type 0
AreTablesBy (Some base) contributors settled tray = RoundedTables settled base tray
AreTablesBy None None settled tray = ProtectedTables settled tray
AreTablesBy None (Some line) settled tray = GuardedTables settled tray

-- the tables are as this job asks for them
abbrev pub AreTablesOf : SettledInputs → Files → Type 0
AreTablesOf settled tray =
    AreTablesBy (job_base settled.inputs.described) settled.inputs.described.job.contributors settled tray

-- the job's files had no fault: they were read as settled inputs, with cells by the rules, of which this is true
abbrev pub IsTrueOf : Result SettledInputs Fault → (SettledInputs → Type 0) → Type 0
IsTrueOf job Says = IsOkAnd job (λ settled. HasCellsByRules settled × Says settled)

-- What an answer promises of the job, by what reading its files came to, and of the files that have the names of its
-- tables: a release that a run put, those in the tray after it; one that a check accepts, those on the shelf, whoever
-- made them. Nothing is promised here of a summary's numbers and of multipliers, and by other answers nothing of tables.
abbrev pub IsPromiseOf : Report → Result SettledInputs Fault → Files → Type 0
IsPromiseOf (report.Released summary) job tables = IsTrueOf job (λ settled. AreTablesOf settled tables)
IsPromiseOf report.Accepted job tables = IsTrueOf job (λ settled. AreTablesOf settled tables)
IsPromiseOf (report.Cannot number side multipliers) job tables =
    IsTrueOf job (λ settled. CantBeProtected settled number side)
IsPromiseOf (report.CannotAgainst row number side multipliers) job tables =
    IsTrueOf job (λ settled. CantBeGuarded settled row number side)
IsPromiseOf report.NoRounding job tables = IsTrueOf job CantBeRounded
IsPromiseOf other job tables = Unit {0}
