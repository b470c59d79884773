-- What holds of the cells of a listing.
use Rattle.std.proofs.Common.{◌≡◌, ◌≢◌, ℕ, suc, ◌+◌, Bool, true, false, cond, ◌||◌, ◌==◌, is_some, List, [], ◌∷◌, length, map, filter, Option, None, Some, option_map, ℤ, refl, ap, subst, arith}
use Rattle.sdc_base.specs.Kinds.{is_primary}
use Rattle.sdc_base.specs.Records.{Name}
use Rattle.sdc_base.specs.RuleLevels.{Figures, is_sensitive_by, levels_up_to, upper_of, greater_number, rounded_up, wanted_level}
use Rattle.sdc_base.specs.declared.cell.Kind.TheVariants.{Primary, Free, Fixed}
use Rattle.sdc_base.specs.declared.facts.Levels.{Levels}
use Rattle.sdc_base.specs.declared.rule.Rule.{Rule}
use Rattle.sdc_base.specs.declared.rule.Rules.{Rules}
use Rattle.apriori.specs.CellLevels.{rule_levels, levels_in_force}
use Rattle.apriori.specs.CellLevels.{is_primary as is_primary_by}
use Rattle.apriori.specs.Settling.{SettledCell}
use Rattle.apriori.specs.declared.prior.Status.{Status}
use Rattle.apriori.specs.declared.prior.Status.TheVariants.{Safe, Unsafe}
use Rattle.cost_rule.specs.declared.kind.CostKind.TheVariants as cost
use Rattle.cell_listing.specs.Laws.{NamedAreDeclared, PricesAreCosts, UnnamedAreDeclared}
use Rattle.cell_listing.specs.ListedCells.{ListedCell, numbered_from}
use Rattle.cell_listing.specs.Reasons.{naming_words, rule_word}

pub prices_are_costs : PricesAreCosts
prices_are_costs kind (Some price) facts = refl
prices_are_costs cost.Value None facts = refl
prices_are_costs cost.Freq None facts = refl
prices_are_costs cost.One None facts = refl

-- where no rule names a cell, none gives it a level
no_level : (rules : List Rule) (cell : Figures) → naming_words rules cell ≡ [] → upper_of rules cell ≡ None
no_level [] cell h = refl
no_level (one ∷ rules) cell h =
    elim (is_sensitive_by one cell) as (λ t. map rule_word (cond t (one ∷ filter (λ r. is_sensitive_by r cell) rules) (filter (λ r. is_sensitive_by r cell) rules)) ≡ []
    → cond t (Some (greater_number (rounded_up (wanted_level one cell)) (upper_of rules cell))) (upper_of rules cell) ≡ None) [
      | true ↦ λ named. absurd cc
      | false ↦ λ named. no_level rules cell named
    ] h

-- where none gives it a level, no rule names it
no_name : (rules : List Rule) (cell : Figures) → upper_of rules cell ≡ None → naming_words rules cell ≡ []
no_name [] cell h = refl
no_name (one ∷ rules) cell h =
    elim (is_sensitive_by one cell) as (λ t. cond t (Some (greater_number (rounded_up (wanted_level one cell)) (upper_of rules cell))) (upper_of rules cell) ≡ None
    → map rule_word (cond t (one ∷ filter (λ r. is_sensitive_by r cell) rules) (filter (λ r. is_sensitive_by r cell) rules)) ≡ []) [
      | true ↦ λ level. absurd cc
      | false ↦ λ level. no_name rules cell level
    ] h

-- a cell is of the kind primary where it is primary by its rules and priors
primary-is : (primary : Bool) (empty : Bool) (kept : Bool) → cond primary Primary (cond (empty || kept) Fixed Free) ≡ Primary → primary ≡ true
primary-is true empty kept h = refl
primary-is false true kept h = absurd cc
primary-is false false true h = absurd cc
primary-is false false false h = absurd cc

declared-unsafe : (rules : Rules) (cell : Figures) (status : Option Status) (stated : Levels → Levels) → naming_words rules.list cell ≡ [] → is_some (option_map stated (rule_levels rules cell status)) ≡ true → status ≡ Some Unsafe
declared-unsafe rules cell (Some Unsafe) stated none primary = refl
declared-unsafe rules cell (Some Safe) stated none primary = absurd cc
declared-unsafe rules cell None stated none primary =
    let level : upper_of rules.list cell ≡ None = no_level rules.list cell none in
    let never : is_some (option_map stated (option_map (levels_up_to cell.truth) None)) ≡ true = subst (λ (up : Option ℤ). is_some (option_map stated (option_map (levels_up_to cell.truth) up)) ≡ true) level primary in
    absurd (cc)

pub unnamed_are_declared : UnnamedAreDeclared
unnamed_are_declared rules cell prior kind none =
    declared-unsafe rules cell prior.status (levels_in_force cell.truth prior.levels) none (primary-is (is_primary_by rules cell prior) (cell.freq == 0) (is_some prior.keep) kind)

none-levels : (stated : Levels → Levels) (truth : ℤ) (up : Option ℤ) → is_some (option_map stated (option_map (levels_up_to truth) up)) ≡ false → up ≡ None
none-levels stated truth None h = refl
none-levels stated truth (Some up) h = absurd cc

declared-safe : (rules : Rules) (cell : Figures) (status : Option Status) (stated : Levels → Levels) → naming_words rules.list cell ≢ [] → is_some (option_map stated (rule_levels rules cell status)) ≡ false → status ≡ Some Safe
declared-safe rules cell (Some Unsafe) stated some other = absurd cc
declared-safe rules cell (Some Safe) stated some other = refl
declared-safe rules cell None stated some other = absurd (some (no_name rules.list cell (none-levels stated cell.truth (upper_of rules.list cell) other)))

other-is : (primary : Bool) (empty : Bool) (kept : Bool) → cond primary Primary (cond (empty || kept) Fixed Free) ≢ Primary → primary ≡ false
other-is true empty kept h = absurd (h refl)
other-is false empty kept h = refl

pub named_are_declared : NamedAreDeclared
named_are_declared rules cell prior kind some =
    declared-safe rules cell prior.status (levels_in_force cell.truth prior.levels) some (other-is (is_primary_by rules cell prior) (cell.freq == 0) (is_some prior.keep) kind)

-- the primary cells of a listing are those of its settled cells
pub count-primary : (first : ℕ) (called : List Name) (figures : List Figures) (settled : List SettledCell) → length figures ≡ length called → length settled ≡ length called
    → length (filter (λ (cell : ListedCell). is_primary cell.settled.kind) (numbered_from first called figures settled)) ≡ length (filter (λ (cell : SettledCell). is_primary cell.kind) settled)
count-primary first [] figures [] same more = refl
count-primary first [] figures (c ∷ settled) same more = absurd (omega (arith, more))
count-primary first (n ∷ called) [] settled same more = absurd (omega (arith, same))
count-primary first (n ∷ called) (f ∷ figures) [] same more = absurd (omega (arith, more))
count-primary first (n ∷ called) (f ∷ figures) (c ∷ settled) same more =
    let rest = count-primary (first + 1) called figures settled (omega (arith, same)) (omega (arith, more)) in
    let one : ListedCell = record { number = first; name = n; figures = f; settled = c } in
    elim (is_primary c.kind) as (λ t. length (cond t (one ∷ filter (λ (cell : ListedCell). is_primary cell.settled.kind) (numbered_from (first + 1) called figures settled)) (filter (λ (cell : ListedCell). is_primary cell.settled.kind) (numbered_from (first + 1) called figures settled)))
    ≡ length (cond t (c ∷ filter (λ (cell : SettledCell). is_primary cell.kind) settled) (filter (λ (cell : SettledCell). is_primary cell.kind) settled))) [
      | true ↦ ap suc rest
      | false ↦ rest
    ]
