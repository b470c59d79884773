-- What a job that rounds asks for, and its release (zero-restricted controlled rounding; own).
use Rattle.std.specs.Prelude.{◌≡◌, ◌^◌, ℕ, List, length, map, Option, None, Some, Ok, ℤ, pos, ◌*ℤ◌}
use Rattle.sdc_base.specs.Relations.{relations_among}
use Rattle.sdc_base.specs.Roundings.{IsRounding}
use Rattle.sdc_base.specs.declared.method.Method.{Method}
use Rattle.sdc_base.specs.declared.method.Method.TheVariants as method
use Rattle.sdc_base.specs.declared.system.System.{System}
use Rattle.certificate.specs.Certificates.{certificate_of}
use Rattle.certificate.specs.Laws.{without_hidden_cells}
use Rattle.certificate.specs.Texts.{text_of}
use Rattle.certificate.specs.declared.certificate.Certificate.{Certificate}
use Rattle.linked_tables.specs.BookViews.{BookView}
use Rattle.relations.specs.Holding.{IsSystemOf}
use Rattle.relations.specs.TableSigns.{IsOneOrTwoWay}
use Rattle.rounding.specs.Searches.{Stops}
use Rattle.job_inputs.specs.Cells.{cells, truth_in}
use Rattle.job_inputs.specs.ClassifiedJobs.{SettledInputs}
use Rattle.job_inputs.specs.TabulatedBooks.{IsBookOf}
use Rattle.job_inputs.specs.declared.described.DescribedJob.{DescribedJob}
use Rattle.job_inputs.specs.declared.inputs.Inputs.{Inputs}
use Rattle.job_run.specs.Releases.{puts_of, summary_of, value_in}
use Rattle.job_run.specs.declared.put.Release.{Release}

-- ---- the base and the system

-- the base to which a method rounds, in units of so many decimals; a method that hides has none
abbrev pub base_in_units : Method → ℕ → Option ℤ
base_in_units (method.Rnd base) decimals = Some (base *ℤ pos (10 ^ decimals))
base_in_units hiding decimals = None

-- the base to which a job rounds, in units; a job that hides has none
abbrev pub job_base : DescribedJob → Option ℤ
job_base described = base_in_units described.job.method described.bound.decimals

-- the truths of all cells over the records
abbrev pub truths_in : Inputs → List ℤ
truths_in inputs = map (truth_in inputs) (cells inputs)

-- the system has the relations between the cells of the inputs
abbrev pub IsSystemIn : Inputs → System → Type 0
IsSystemIn inputs system = (book : BookView) × IsBookOf inputs book × IsSystemOf book system

-- ---- roundings

-- values are a rounding for the inputs: each is a multiple of the base less than one base from the truth of its cell
-- over the records, and every relation between the cells holds on them
pub record IsRoundingFor (inputs : Inputs) (base : ℤ) (values : List ℤ) : Type 0 where
  pub system : System
  pub system_is : IsSystemIn inputs system
  pub rounding : IsRounding system (truths_in inputs) base values

-- the job has one table of one variable, or of two that are flat down to its depths: there is always a rounding then
abbrev pub IsAlwaysRounded : Inputs → Type 0
IsAlwaysRounded inputs = IsOneOrTwoWay inputs.records.trees inputs.described.bound.tables

-- the job rounds, not one or two flat variables alone, its cells have relations, and no values at all are a rounding for
-- it
pub record HasNoRounding (settled : SettledInputs) : Type 0 where
  pub base : ℤ
  pub system : System
  pub rounds : job_base settled.inputs.described ≡ Some base
  pub system_is : IsSystemIn settled.inputs system
  pub none : (values : List ℤ) → ¬ IsRoundingFor settled.inputs base values
  pub more : ¬ IsAlwaysRounded settled.inputs

-- The job rounds, not one or two flat variables alone, so many nodes are those that it allows, and the search for a
-- rounding stops there: it has at least so many lists, and none of its first so many is a rounding.
pub record SearchStops (settled : SettledInputs) (nodes : ℕ) : Type 0 where
  pub base : ℤ
  pub system : System
  pub rounds : job_base settled.inputs.described ≡ Some base
  pub system_is : IsSystemIn settled.inputs system
  pub limit : nodes ≡ settled.inputs.described.job.nodes
  pub stops : Stops system (truths_in settled.inputs) base nodes
  pub more : ¬ IsAlwaysRounded settled.inputs

-- ---- a rounded release

-- the certificate of a rounded release: the method, how many cells and relations there are, and no lists
abbrev pub rounded_certificate : Inputs → Certificate
rounded_certificate inputs =
    without_hidden_cells inputs.described.job.method (length (cells inputs))
    (length (relations_among inputs.records.trees inputs.described.bound.tables))

-- A rounded release of settled inputs: there is a rounding to the base, every table shows its values, the certificate
-- lists nothing, and no cell counts as hidden. The certificate's text is read as that certificate.
pub record IsReleaseOfRounding (settled : SettledInputs) (base : ℤ) (release : Release) : Type 0 where
  pub values : List ℤ
  pub rounding : IsRoundingFor settled.inputs base values
  pub read_back : certificate_of (text_of (rounded_certificate settled.inputs))
      ≡ Ok (rounded_certificate settled.inputs)
  pub puts : release.puts ≡ puts_of settled.inputs (value_in settled.inputs values) (rounded_certificate settled.inputs)
  pub numbers : release.summary ≡ summary_of settled 0
  pub certificate_is : release.certificate ≡ rounded_certificate settled.inputs
