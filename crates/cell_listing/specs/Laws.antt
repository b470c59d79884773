-- What holds of listings, in the words of rules, a priori files and releases (own).
use Rattle.std.specs.Prelude.{◌≡◌, ◌≢◌, ℕ, List, Bool, false, [], slice_get, Option, Some}
use Rattle.sdc_base.specs.HiddenSets.{is_hidden}
use Rattle.sdc_base.specs.RuleLevels.{Figures, figures_of_facts}
use Rattle.sdc_base.specs.TableText.{shown_text}
use Rattle.sdc_base.specs.declared.cell.Kind.TheVariants.{Primary}
use Rattle.sdc_base.specs.declared.facts.CellFacts.{CellFacts}
use Rattle.sdc_base.specs.declared.rule.Rules.{Rules}
use Rattle.apriori.specs.Settling.{kind_of}
use Rattle.apriori.specs.declared.prior.Prior.{Prior}
use Rattle.apriori.specs.declared.prior.Status.TheVariants.{Safe, Unsafe}
use Rattle.cost_rule.specs.Costs.{price_of}
use Rattle.cost_rule.specs.declared.kind.CostKind.{CostKind}
use Rattle.release_writer.specs.ShownCells.{open_truth}
use Rattle.job_inputs.specs.ClassifiedJobs.{SettledInputs, IsReadyJob, IsSettledOf}
use Rattle.job_inputs.specs.declared.settled.ClassifiedJob.{ClassifiedJob}
use Rattle.cell_listing.specs.ListedCells.{ListedCell, listed_cells}
use Rattle.cell_listing.specs.Listings.{CountsAsReport}
use Rattle.cell_listing.specs.Reasons.{naming_words}
use Rattle.cell_listing.specs.Columns.{amount_text, price_by}

-- a cell that is primary though no rule names it is declared unsafe in an a priori file
abbrev pub UnnamedAreDeclared : Type 0
UnnamedAreDeclared =
    (rules : Rules) (cell : Figures) (prior : Prior) → kind_of rules cell prior ≡ Primary
    → naming_words rules.list cell ≡ [] → prior.status ≡ Some Unsafe

-- a cell that a rule names though it isn't primary is declared safe in an a priori file
abbrev pub NamedAreDeclared : Type 0
NamedAreDeclared =
    (rules : Rules) (cell : Figures) (prior : Prior) → kind_of rules cell prior ≢ Primary
    → naming_words rules.list cell ≢ [] → prior.status ≡ Some Safe

-- the price of a cell is the one by which its hiding is planned: its own, else what its facts cost
abbrev pub PricesAreCosts : Type 0
PricesAreCosts =
    (kind : CostKind) (own : Option ℕ) (facts : CellFacts)
    → price_by kind own (figures_of_facts facts) ≡ price_of kind own facts

-- a listing has as many cells, and as many primary ones, as the report of a release counts
abbrev pub ListingsCountAsReports : Type 0
ListingsCountAsReports =
    (settled : SettledInputs) (job : ClassifiedJob) → IsReadyJob job → IsSettledOf settled job → CountsAsReport settled

-- where a release that hides cells shows one, it shows what stands as the value in the cell's line
abbrev pub ShownAreValues : Type 0
ShownAreValues =
    (settled : SettledInputs) (job : ClassifiedJob) (flags : List Bool) (number decimals : ℕ) (cell : ListedCell)
    → IsReadyJob job → IsSettledOf settled job → slice_get (listed_cells settled) number ≡ Some cell
    → is_hidden flags number ≡ false
    → shown_text decimals (open_truth job.book.marks flags number) ≡ amount_text decimals cell.figures.truth
