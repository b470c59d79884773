-- A book of a bound job, and its records.
use Rattle.std.proofs.Common.{◌≡◌, ℕ, zero, suc, ◌<◌, ◌≤◌, List, [], ◌∷◌, length, Option, None, Some, Ok, refl, ap, sym, subst, arith}
use Rattle.std.specs.Prelude.{slice_index, slice_index_or, All}
use Rattle.std.specs.List.{AllByRecursion}
use Rattle.std.proofs.lemmas.List.Elements.{All-nil, All-cons, All-head, All-tail}
use Rattle.sdc_base.specs.Trees.{Tree}
use Rattle.sdc_base.specs.declared.dimension.Dimension.{Dimension}
use Rattle.sdc_base.specs.declared.rows.Row.{Row}
use Rattle.sdc_base.specs.declared.rule.Rule.{Rule}
use Rattle.sdc_base.specs.declared.rule.Rule.TheVariants as rule
use Rattle.sdc_base.specs.declared.rule.Rules.{Rules}
use Rattle.job_lang.specs.JobLimits.{AreInRange as AreJobRules, IsInRange as IsJobRule}
use Rattle.linked_tables.specs.BlankMarks.{IsBlank}
use Rattle.linked_tables.specs.Tables.{book_with_depths, first_table_fault, unless_fault}
use Rattle.linked_tables.specs.declared.book_fault.BookFault.{BookFault}
use Rattle.linked_tables.specs.declared.mark.Mark.{Mark}
use Rattle.microdata.specs.Ranges.{AreInTrees, IsRow as IsReadRow}
use Rattle.primary_rules.specs.Ranges.{AreInRange, IsInRange}
use Rattle.tabulate.specs.TabulatedMarks.{IsRow, HasNone}
use Rattle.job_lang.specs.Binding.{weight_decimals}
use Rattle.std.specs.Prelude.{◌^◌}
use Rattle.job_inputs.specs.SoundJobs.{IsSoundJob}
use Rattle.job_inputs.specs.declared.described.DescribedJob.{DescribedJob}

-- ---- rules

rule-range : (one : Rule) → IsJobRule one → IsInRange one
rule-range (rule.Freq n r) h = h
rule-range (rule.Nk n k) h = h
rule-range (rule.Percent p) h = h
rule-range (rule.Pq p q) h = h
rule-range (rule.Zero r) h = h

rules-range : (rules : List Rule) → AllByRecursion IsJobRule rules → All IsInRange rules
rules-range [] h = All-nil IsInRange
rules-range (one ∷ rules) h = All-cons IsInRange one rules (rule-range one h.0) (rules-range rules h.1)

-- the rules of a job are in the ranges of rules
pub in-range : (rules : Rules) → AreJobRules rules → AreInRange rules
in-range rules h = record { list = rules-range rules.list h.ranges; man = h.man }

-- ---- records

each-place : (trees : List Tree) (codes : List ℕ) → AreInTrees trees codes → length codes ≡ length trees
each-place [] [] h = refl
each-place [] (place ∷ places) h = absurd h
each-place (tree ∷ trees) [] h = absurd h
each-place (tree ∷ trees) (place ∷ places) h = omega (arith, each-place trees places h.1)

inside-place : (trees : List Tree) (codes : List ℕ) → AreInTrees trees codes → (variable : ℕ) → variable < length trees → slice_index codes variable < length (slice_index_or trees variable [])
inside-place [] codes h variable known = absurd (omega (arith, known))
inside-place (tree ∷ trees) [] h variable known = absurd h
inside-place (tree ∷ trees) (place ∷ places) h zero known = h.0
inside-place (tree ∷ trees) (place ∷ places) h (suc variable) known = inside-place trees places h.1 variable (omega (arith, known))

row-is : (trees : List Tree) (scale : ℕ) (row : Row) → IsReadRow scale trees row → IsRow trees scale row
row-is trees scale row h = record {
  each = each-place trees row.codes h.places;
  inside = inside-place trees row.codes h.places;
  from_zero = h.from_zero;
  below = h.below;
  light = h.light;
  heavy = h.heavy;
}

-- the records that were read can be tabulated
pub rows-are : (trees : List Tree) (scale : ℕ) (rows : List Row) → AllByRecursion (IsReadRow scale trees) rows → All (IsRow trees scale) rows
rows-are trees scale [] h = All-nil (IsRow trees scale)
rows-are trees scale (row ∷ rows) h = All-cons (IsRow trees scale) row rows (row-is trees scale row h.0) (rows-are trees scale rows h.1)

-- ---- marks

none-in : (mark : Mark) → IsBlank mark → HasNone mark
none-in mark h = record { truth = h.truth; freq = h.freq }

-- blank marks have no records
pub blank-none : (marks : List Mark) → All IsBlank marks → All HasNone marks
blank-none [] h = All-nil HasNone
blank-none (mark ∷ marks) h = All-cons HasNone mark marks (none-in mark (All-head IsBlank mark marks h)) (blank-none marks (All-tail IsBlank mark marks h))

-- ---- the scale

power-range : (n : ℕ) → n ≤ 4 → (1 ≤ 10 ^ n) × (10 ^ n ≤ 10000)
power-range zero h = (omega arith, omega arith)
power-range (suc zero) h = (omega arith, omega arith)
power-range (suc (suc zero)) h = (omega arith, omega arith)
power-range (suc (suc (suc zero))) h = (omega arith, omega arith)
power-range (suc (suc (suc (suc zero)))) h = (omega arith, omega arith)
power-range (suc (suc (suc (suc (suc n))))) h = absurd (omega (arith, h))

-- the scale of a bound job is from 1 to 10,000
pub scale-range : (described : DescribedJob) → IsSoundJob described → (1 ≤ described.bound.scale) × (described.bound.scale ≤ 10000)
scale-range described h = subst (λ (n : ℕ). (1 ≤ n) × (n ≤ 10000)) (sym h.bound.scale.0) (power-range (weight_decimals described.job.rules described.meta.variables) h.bound.scale.1)

-- ---- what the book is of

made-of : (o : Option BookFault) (trees : List Tree) (tables : List (List Dimension)) (given : List Tree × List (List Dimension)) → unless_fault o (trees, tables) ≡ Ok given → (given.0 ≡ trees) × (given.1 ≡ tables)
made-of None trees tables given h =
    let same : ◌≡◌ {A = List Tree × List (List Dimension)} (trees, tables) given = cc in
    (ap (λ (x : List Tree × List (List Dimension)). x.0) (sym same), ap (λ (x : List Tree × List (List Dimension)). x.1) (sym same))
made-of (Some fault) trees tables given h = absurd cc

-- a book has the trees and the tables that it is made of
pub linked-is : (trees : List Tree) (tables : List (List Dimension)) (given : List Tree × List (List Dimension)) → book_with_depths trees tables ≡ Ok given → (given.0 ≡ trees) × (given.1 ≡ tables)
linked-is trees tables given h = made-of (first_table_fault trees [] tables) trees tables given h
