-- The tables of a bound job make a book, or have too many cells.
use Rattle.std.proofs.Common.{◌≡◌, ℕ, ◌<◌, ◌==◌, nat_le, nat_lt, true, false, List, [], ◌∷◌, ◌++◌, length, map, Option, None, Some, Err, refl, ap, sym, subst, ◌∙◌, arith, if◌then◌else◌}
use Rattle.std.specs.List.{AllByRecursion, IsDistinct}
use Rattle.std.proofs.lemmas.Bool.Decides.{nat_tests}
use Rattle.sdc_base.specs.Cells.{cells_of, spans}
use Rattle.sdc_base.specs.Records.{Name}
use Rattle.sdc_base.specs.Trees.{Tree}
use Rattle.sdc_base.specs.declared.dimension.Dimension.{Dimension}
use Rattle.linked_tables.specs.Tables.{most_cells, has_unknown, has_twice, or_later, variables_fault, cells_fault, first_table_fault, unless_fault, book_fault_of, book_with_depths}
use Rattle.linked_tables.specs.declared.book_fault.BookFault.{BookFault}
use Rattle.linked_tables.specs.declared.book_fault.BookFault.TheVariants as book
use Rattle.sdc_base.specs.Answers.{Fails}
use Rattle.job_inputs.specs.Laws.{OnlyCellsAreTooMany}
use Rattle.job_inputs.specs.Refusals.{IsForCells}
use Rattle.job_inputs.specs.SoundJobs.{IsSoundJob}
use Rattle.job_inputs.specs.declared.described.DescribedJob.{DescribedJob}

abbrev IsTooMany : BookFault → Type 0
IsTooMany one = (t : ℕ) × (one ≡ book.TooManyCells t)

none-unknown : (n : ℕ) (table : List Dimension) → AllByRecursion (λ one. one.variable < n) table → has_unknown n table ≡ false
none-unknown n [] h = refl
none-unknown n (one ∷ table) h =
    let known : nat_le n one.variable ≡ false = (let below : one.variable < n = h.0 in grind (arith, nat_tests)) in
    rw known (none-unknown n table h.1)

none-again : (k : ℕ) (table : List Dimension) → AllByRecursion (λ other. (k == other) ≡ false) (map (λ one. one.variable) table) → spans table k ≡ false
none-again k [] h = refl
none-again k (other ∷ table) h =
    let differs : (other.variable == k) ≡ false = (let is : (k == other.variable) ≡ false = h.0 in grind (arith, nat_tests)) in
    rw differs (none-again k table h.1)

none-twice : (table : List Dimension) → IsDistinct ◌==◌ (map (λ one. one.variable) table) → has_twice table ≡ false
unfolding IsDistinct
none-twice [] h = refl
none-twice (one ∷ table) h = rw (none-again one.variable table h.0) (none-twice table h.1)

cells-many : (t : ℕ) (names : List Name) (one : BookFault) → cells_fault t names ≡ Some one → IsTooMany one
cells-many t names one h = elim (nat_lt most_cells (length names)) as (λ b. (if b then Some (book.TooManyCells t) else None) ≡ Some one → IsTooMany one) [
  | true ↦ λ is. (t, let same : book.TooManyCells t ≡ one = cc in sym same)
  | false ↦ λ is. absurd cc
] h

one-of : (variables cells rest : Option BookFault) (one : BookFault) → variables ≡ None → ((x : BookFault) → cells ≡ Some x → IsTooMany x) → ((x : BookFault) → rest ≡ Some x → IsTooMany x)
    → or_later (or_later variables cells) rest ≡ Some one → IsTooMany one
one-of (Some other) cells rest one none here later h = absurd cc
one-of None (Some x) rest one none here later h = here one h
one-of None None rest one none here later h = later one h

first-is : (trees : List Tree) (before tables : List (List Dimension)) (one : BookFault) → AllByRecursion (λ dimensions. AllByRecursion (λ one. one.variable < length trees) dimensions) tables → AllByRecursion (λ dimensions. IsDistinct ◌==◌ (map (λ one. one.variable) dimensions)) tables
    → first_table_fault trees before tables ≡ Some one → IsTooMany one
first-is trees before [] one within once h = absurd cc
first-is trees before (table ∷ tables) one within once h =
    let none : variables_fault (length trees) (length before) table ≡ None = rw (none-unknown (length trees) table within.0, none-twice table once.0) refl in
    one-of (variables_fault (length trees) (length before) table) (cells_fault (length before) (cells_of trees (before ++ table ∷ []))) (first_table_fault trees (before ++ table ∷ []) tables) one none
    (λ x is. cells-many (length before) (cells_of trees (before ++ table ∷ [])) x is)
    (λ x is. first-is trees (before ++ table ∷ []) tables x within.1 once.1 is) h

fault-is : {X : Type 0} (o : Option BookFault) (x : X) (one : BookFault) → unless_fault o x ≡ Err one → o ≡ Some one
fault-is None x one h = absurd cc
fault-is (Some other) x one h = let same : other ≡ one = cc in ap Some same

pub only_cells_are_too_many : OnlyCellsAreTooMany
only_cells_are_too_many described trees one sound many h =
    let within = subst (λ (n : ℕ). AllByRecursion (λ dimensions. AllByRecursion (λ one. one.variable < n) dimensions) described.bound.tables) (sym many) sound.bound.within in
    first-is trees [] described.bound.tables one within sound.bound.once (fault-is (first_table_fault trees [] described.bound.tables) (trees, described.bound.tables) one h)

of-cells : (one : BookFault) → IsTooMany one → IsForCells one
of-cells one h = rw h.1 tt

-- so a book that isn't made has too many cells, or wants memory
pub is-for-cells : OnlyCellsAreTooMany → (described : DescribedJob) (trees : List Tree) (tables : List (List Dimension)) (one : BookFault) → IsSoundJob described → length trees ≡ length described.bound.spanning → tables ≡ described.bound.tables
    → Fails (book_fault_of one) (book_with_depths trees tables) → IsForCells one
is-for-cells law described trees tables (book.NoSuchVariable t) sound many is h = of-cells (book.NoSuchVariable t) (law described trees (book.NoSuchVariable t) sound many (ap (book_with_depths trees) (sym is) ∙ h))
is-for-cells law described trees tables (book.TwiceInTable t) sound many is h = of-cells (book.TwiceInTable t) (law described trees (book.TwiceInTable t) sound many (ap (book_with_depths trees) (sym is) ∙ h))
is-for-cells law described trees tables (book.TooManyCells t) sound many is h = tt
is-for-cells law described trees tables book.Memory sound many is h = tt
