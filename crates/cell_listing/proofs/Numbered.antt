-- The cell with a number in a listing, and the lines up to it.
use Rattle.std.proofs.Common.{◌≡◌, ℕ, zero, suc, ◌+◌, ◌<◌, ◌≤◌, List, [], ◌∷◌, ◌++◌, length, map, flat_map, take, slice_get, Some, arith, refl, ap, ◌∙◌, append-nil}
use Rattle.std.proofs.lemmas.List.{length-map, take_more, take_all}
use Rattle.std.proofs.lemmas.Option.{get_or_from_slice_get, slice_get_within}
use Rattle.std.proofs.lemmas.Grind.{flat_map-append}
use Rattle.sdc_base.specs.Records.{Name}
use Rattle.sdc_base.specs.RuleLevels.{Figures, figures_of_facts}
use Rattle.apriori.specs.Settling.{SettledCell, told_of, view_of_cell}
use Rattle.linked_tables.specs.BookCells.{cells as cells_in}
use Rattle.linked_tables.specs.declared.mark.Mark.{Mark}
use Rattle.job_inputs.specs.ClassifiedJobs.{IsReadyJob}
use Rattle.job_inputs.specs.declared.settled.ClassifiedJob.{ClassifiedJob}
use Rattle.cell_listing.specs.ListedCells.{ListedCell, numbered_from, told_cells}

-- the cell at a place
pub at_number : (first : ℕ) (names : List Name) (figures : List Figures) (settled : List SettledCell) (i number : ℕ) (name : Name) (one : Figures) (cell : SettledCell) → number ≡ first + i
    → slice_get names i ≡ Some name → slice_get figures i ≡ Some one → slice_get settled i ≡ Some cell
    → slice_get (numbered_from first names figures settled) i ≡ Some (record { number = number; name = name; figures = one; settled = cell })
at_number first [] figures settled i number name one cell place here known what = absurd (grind (arith, here))
at_number first (n ∷ names) [] settled i number name one cell place here known what = absurd (grind (arith, known))
at_number first (n ∷ names) (f ∷ figures) [] i number name one cell place here known what = absurd (grind (arith, what))
at_number first (n ∷ names) (f ∷ figures) (c ∷ settled) zero number name one cell place here known what =
    let at : first ≡ number = omega (arith, place) in
    let same : n ≡ name = cc in
    let figure : f ≡ one = cc in
    let kind : c ≡ cell = cc in
    rw (at, same, figure, kind) refl
at_number first (n ∷ names) (f ∷ figures) (c ∷ settled) (suc i) number name one cell place here known what =
    at_number (first + 1) names figures settled i number name one cell (omega (arith, place)) here known what

-- as many as there are cells
pub as_many : (first : ℕ) (names : List Name) (figures : List Figures) (settled : List SettledCell) → length figures ≡ length names → length settled ≡ length names → length (numbered_from first names figures settled) ≡ length names
as_many first [] figures settled same more = refl
as_many first (n ∷ names) [] settled same more = absurd (omega (arith, same))
as_many first (n ∷ names) (f ∷ figures) [] same more = absurd (omega (arith, more))
as_many first (n ∷ names) (f ∷ figures) (c ∷ settled) same more = ap suc (as_many (first + 1) names figures settled (omega (arith, same)) (omega (arith, more)))

-- one line more
pub lines_more : {X : Type 0} (line : X → List ℕ) (cells : List X) (i : ℕ) (one : X) → slice_get cells i ≡ Some one → flat_map line (take (i + 1) cells) ≡ flat_map line (take i cells) ++ line one
lines_more {X = X} line cells i one here =
    let within : i < length cells = slice_get_within cells i one here in
    let more : take (i + 1) cells ≡ take i cells ++ one ∷ [] = take_more cells i one within ∙ ap (λ (last : X). take i cells ++ last ∷ []) (get_or_from_slice_get cells i one one here) in
    ap (λ (front : List X). flat_map line front) more
    ∙ flat_map-append line (take i cells) (one ∷ [])
    ∙ ap (λ (last : List ℕ). flat_map line (take i cells) ++ last) (append-nil (line one))

-- all of them
pub lines_all : {X : Type 0} (line : X → List ℕ) (cells : List X) (i : ℕ) → length cells ≤ i → flat_map line (take i cells) ≡ flat_map line cells
lines_all {X = X} line cells i end = ap (λ (front : List X). flat_map line front) (take_all i cells end)

-- the cell with a number of a listing has this name, these figures, and is settled so
pub record IsAt (first : ℕ) (names : List Name) (facts : List Figures) (settled : List SettledCell) (i : ℕ) (cell : ListedCell) : Type 0 where
  pub number : cell.number ≡ first + i
  pub name : slice_get names i ≡ Some cell.name
  pub known : slice_get facts i ≡ Some cell.figures
  pub settled_is : slice_get settled i ≡ Some cell.settled

pub was_number : (first : ℕ) (names : List Name) (facts : List Figures) (settled : List SettledCell) (i : ℕ) (cell : ListedCell) → slice_get (numbered_from first names facts settled) i ≡ Some cell → IsAt first names facts settled i cell
was_number first [] facts settled i cell here = absurd (grind (arith, here))
was_number first (n ∷ names) [] settled i cell here = absurd (grind (arith, here))
was_number first (n ∷ names) (f ∷ facts) [] i cell here = absurd (grind (arith, here))
was_number first (n ∷ names) (f ∷ facts) (c ∷ settled) zero cell here =
    let same : record { number = first; name = n; figures = f; settled = c } ≡ cell = cc in
    record {
      number = (let at : first ≡ cell.number = ap (λ (one : ListedCell). one.number) same in omega (arith, at));
      name = ap (λ (one : ListedCell). Some one.name) same;
      known = ap (λ (one : ListedCell). Some one.figures) same;
      settled_is = ap (λ (one : ListedCell). Some one.settled) same;
    }
was_number first (n ∷ names) (f ∷ facts) (c ∷ settled) (suc i) cell here =
    let rest = was_number (first + 1) names facts settled i cell here in
    record { number = omega (arith, rest.number); name = rest.name; known = rest.known; settled_is = rest.settled_is }

-- there is a line for each cell of the job's book
pub told_size : (job : ClassifiedJob) → IsReadyJob job → length (told_cells job) ≡ length (cells_in job.book)
told_size job ready =
    as_many 0 (cells_in job.book) (told_of job.book.marks) (map view_of_cell job.cells)
    (length-map job.book.marks (λ (mark : Mark). figures_of_facts mark.facts) ∙ ready.one_each)
    (length-map job.cells view_of_cell ∙ ready.settled ∙ ready.one_each)
