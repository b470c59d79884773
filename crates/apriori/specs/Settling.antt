-- What each cell is to its protection: primary, fixed or free, with its levels, bounds and price (handbook, sensitive
-- cells and protection levels; a priori statements: own).
use Rattle.std.specs.Prelude.{◌≡◌, ◌≤◌, ◌==◌, ◌||◌, ℕ, is_some, if◌then◌else◌, List, length, map, slice_get, Option, Some, unwrap_or, option_map, Result, Ok, ℤ, pos, Vec}
use Rattle.std.specs.List.{zip}
use Rattle.sdc_base.specs.Steps.{◌>>=◌}
use Rattle.sdc_base.specs.Trees.{Tree}
use Rattle.sdc_base.specs.Records.{Name}
use Rattle.sdc_base.specs.declared.rows.Row.{Row}
use Rattle.primary_rules.specs.EnoughForRules.{AreFactsOf}
use Rattle.sdc_base.specs.RuleLevels.{Figures, figures_of_facts, figures_in, keep_of}
use Rattle.sdc_base.specs.declared.cell.Kind.{Kind}
use Rattle.sdc_base.specs.declared.cell.Kind.TheVariants.{Primary, Free, Fixed}
use Rattle.sdc_base.specs.declared.cell.Cell.{Cell}
use Rattle.sdc_base.specs.declared.rule.Rules.{Rules}
use Rattle.sdc_base.specs.Truths.{IsTruth}
use Rattle.linked_tables.specs.declared.mark.Mark.{Mark}
use Rattle.apriori.specs.declared.prior.Prior.{Prior}
use Rattle.apriori.specs.declared.faults.PriorWhy.{PriorWhy}
use Rattle.apriori.specs.Faults.{LineOf, prior_fault_of}
use Rattle.apriori.specs.CellLevels.{is_primary, levels_of}
use Rattle.std.specs.declared.alloc.Global.{Global}
use Rattle.sdc_base.specs.Answers.{Gives}
use Rattle.apriori.specs.declared.faults.PriorError.{PriorError}
use Rattle.apriori.specs.PrimaryShown.{first_clash, refuse_line}

-- what a cell is to its protection, all amounts in units
pub record SettledCell : Type 0 where
  pub truth : ℤ
  pub low : ℤ
  pub high : Option ℤ
  pub up : ℤ
  pub down : ℤ
  pub kind : Kind
  pub price : Option ℕ

-- a cell's amounts, kind and price
abbrev pub view_of_cell : Cell → SettledCell
view_of_cell cell =
    record {
      truth = cell.truth;
      low = cell.low;
      high = cell.high;
      up = cell.up;
      down = cell.down;
      kind = cell.kind;
      price = cell.price;
    }

-- a mark has what the rules look at: a truth in range, and as many of the largest contributions
pub record IsReadyFor (rules : Rules) (mark : Mark) : Type 0 where
  pub truth : IsTruth mark.facts.truth
  pub kept : keep_of rules.list ≤ mark.facts.tops.keep

-- what is told of the cells of marks
abbrev pub told_of : List Mark → List Figures
told_of marks = map (λ mark. figures_of_facts mark.facts) marks

-- the figures of named cells over the records
abbrev pub figures_of : List Tree → List Name → List Row → ℕ → List Figures
figures_of trees names rows scale = map (λ name. figures_in trees name rows scale) names

-- each mark has the facts of the records in the cell with its name, at one scale
pub record AreFactsIn (marks : List Mark) (trees : List Tree) (names : List Name) (rows : List Row)
    (scale : ℕ) : Type 0 where
  pub one_each : length names ≡ length marks
  pub each : (cell : ℕ) (name : Name) (mark : Mark) → slice_get names cell ≡ Some name
      → slice_get marks cell ≡ Some mark → AreFactsOf mark.facts trees name rows × (mark.facts.tops.scale ≡ scale)

-- what isn't primary is fixed where it has no records or is stated to be always shown, and else free
abbrev pub other_kind : Figures → Prior → Kind
other_kind cell prior = if (cell.freq == 0) || is_some prior.keep then Fixed else Free

-- what kind a cell is of
abbrev pub kind_of : Rules → Figures → Prior → Kind
kind_of rules cell prior = if is_primary rules cell prior then Primary else other_kind cell prior

-- what an attacker knows that a cell is at least: 0 where nothing is stated
abbrev pub low_of : Option (ℤ × ℤ) → ℤ
low_of bounds = unwrap_or (option_map (λ b. b.0) bounds) (pos 0)

-- what an attacker knows that a cell is at most: nothing where nothing is stated
abbrev pub high_of : Option (ℤ × ℤ) → Option ℤ
high_of bounds = option_map (λ b. b.1) bounds

-- what the cell with these figures and this prior is to its protection
abbrev pub settled_cell : Rules → Figures → Prior → SettledCell
settled_cell rules cell prior = record {
  truth = cell.truth;
  low = low_of prior.bounds;
  high = high_of prior.bounds;
  up = (levels_of rules cell prior).up;
  down = (levels_of rules cell prior).down;
  kind = kind_of rules cell prior;
  price = prior.price;
}

-- the cells with these figures and priors, or the first line by which a primary cell is to be always shown
unfoldable pub settle_of : Rules → List Figures → List Prior → Result (List SettledCell) (LineOf × PriorWhy)
settle_of rules figures priors = do
  fine ← refuse_line (first_clash rules (zip figures priors))
  Ok (map (λ cell. settled_cell rules cell.0 cell.1) (zip figures priors))

-- the answer is the cells with these figures and priors, or the first line by which one of them can't be settled
abbrev pub GivesCells : Result (Vec Cell Global) PriorError → Rules → List Figures → List Prior → Type 0
GivesCells result rules figures priors =
    Gives prior_fault_of (λ cells. map view_of_cell cells.items) result (settle_of rules figures priors)

-- a statement about the figures of these marks holds over any records whose facts the marks have
abbrev pub OverRecords : List Mark → (List Figures → Type 0) → Type 0
OverRecords marks statement =
    (trees : List Tree) (names : List Name) (rows : List Row) (scale : ℕ) → AreFactsIn marks trees names rows scale
    → statement (figures_of trees names rows scale)
