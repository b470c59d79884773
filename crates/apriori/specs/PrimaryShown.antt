-- The line by which a primary cell is to be always shown, which is a fault (own).
use Rattle.std.specs.Prelude.{◌==◌, ◌||◌, ◌&&◌, nat_lt, Bool, if◌then◌else◌, List, fold, Option, None, Some, Result, Ok, Err}
use Rattle.sdc_base.specs.RuleLevels.{Figures}
use Rattle.sdc_base.specs.declared.cell.Kind.{Kind}
use Rattle.sdc_base.specs.declared.cell.Kind.TheVariants.{Primary}
use Rattle.sdc_base.specs.declared.rule.Rules.{Rules}
use Rattle.apriori.specs.declared.prior.Prior.{Prior}
use Rattle.apriori.specs.declared.faults.PriorWhy.{PriorWhy}
use Rattle.apriori.specs.declared.faults.PriorWhy.TheVariants.{ProtectedPrimary}
use Rattle.apriori.specs.Faults.{LineOf}
use Rattle.apriori.specs.CellLevels.{is_primary}

-- a line comes before another: by table, and then by line
abbrev pub is_before : LineOf → LineOf → Bool
is_before one other = nat_lt one.0 other.0 || ((one.0 == other.0) && nat_lt one.1 other.1)

-- the first of two lines that may be there
abbrev pub first_of : Option LineOf → Option LineOf → Option LineOf
first_of None other = other
first_of (Some one) None = Some one
first_of (Some one) (Some other) = Some (if is_before other one then other else one)

-- the line by which a primary cell is to be always shown
abbrev pub clash_of : Rules → Figures → Prior → Option LineOf
clash_of rules cell prior = if is_primary rules cell prior then prior.keep else None

-- the same by the kind that the cell is of
abbrev pub clash_by_kind : Kind → Prior → Option LineOf
clash_by_kind Primary prior = prior.keep
clash_by_kind other prior = None

-- the first of these lines, over all cells
abbrev pub first_clash : Rules → List (Figures × Prior) → Option LineOf
first_clash rules cells = fold (λ first cell. first_of first (clash_of rules cell.0 cell.1)) None cells

-- that line is a fault
abbrev pub refuse_line : Option LineOf → Result (Unit {0}) (LineOf × PriorWhy)
refuse_line None = Ok tt
refuse_line (Some line) = Err (line, ProtectedPrimary)
