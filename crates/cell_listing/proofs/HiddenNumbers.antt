-- The numbers of hidden cells, one by one, and as the certificate and the extra cells list them.
use Rattle.std.proofs.Common.{◌≡◌, ℕ, zero, suc, ◌+◌, ◌-◌, ◌<◌, ◌||◌, Bool, List, [], ◌∷◌, ◌++◌, filter, length, if◌then◌else◌, Option, ap, ap₂, sym, ◌∙◌, refl, arith}
use Rattle.std.specs.List.{range_with_len}
use Rattle.sdc_base.proofs.GrowingLists.{filter-front, range-next}
use Rattle.sdc_base.specs.HiddenSets.{is_hidden}
use Rattle.sdc_base.specs.Trees.{Tree}
use Rattle.sdc_base.specs.Cells.{cells_of}
use Rattle.sdc_base.specs.declared.dimension.Dimension.{Dimension}
use Rattle.certificate.specs.declared.certificate.Certificate.{Certificate}
use Rattle.certificate.specs.declared.extra.Extra.{Extra}
use Rattle.linked_tables.specs.BookCells.{cells as cells_in}
use Rattle.job_inputs.specs.Cells.{cells}
use Rattle.job_check.specs.Reading.{IsReadyRelease, IsReleasedOf}
use Rattle.job_check.specs.ReleaseFiles.{ReleasedFiles}
use Rattle.job_check.specs.declared.reading.ReadRelease.{ReadRelease}
use Rattle.cell_listing.specs.Flags.{AreHiddenCells, is_flagged}
use Rattle.cell_listing.specs.IntervalFiles.{hidden_in, hidden_numbers}
use Rattle.cell_listing.specs.ListedCells.{listed_cells}
use Rattle.cell_listing.specs.Outcomes.{cells_in as extra_cells, is_listed_hidden}
use Rattle.cell_listing.specs.declared.hidden_cells.HiddenCells.{HiddenCells}
use Rattle.cell_listing.proofs.Flagged.{flag_is}
use Rattle.cell_listing.proofs.LawsOfJobs.{listings_count_as_reports}

-- one cell on: its number stands at the end where it passes
pub next_number : (test : ℕ → Bool) (count number : ℕ) (done all : List ℕ) → number < count → done ++ filter test (range_with_len number (count - number)) ≡ all
    → (if test number then done ++ number ∷ [] else done) ++ filter test (range_with_len (number + 1) (count - (number + 1))) ≡ all
next_number test count number done all within is =
    filter-front test done number (range_with_len (number + 1) (count - (number + 1)))
    ∙ ap (λ (numbers : List ℕ). done ++ filter test numbers) (sym (range-next number count within))
    ∙ is

-- tests that agree below a number keep the same numbers
pub same_numbers : (test other : ℕ → Bool) (first count : ℕ) → ((n : ℕ) → n < first + count → test n ≡ other n) → filter test (range_with_len first count) ≡ filter other (range_with_len first count)
same_numbers test other first zero same = refl
same_numbers test other first (suc count) same =
    ap₂ (λ (b : Bool) (rest : List ℕ). if b then first ∷ rest else rest) (same first (omega arith))
    (same_numbers test other (first + 1) count (λ n less. same n (omega (arith, less))))

-- what the flags say is what the certificate and the extra cells list
pub flagged_is : (c : Certificate) (extra : Option Extra) (count number : ℕ) (flags : HiddenCells) → AreHiddenCells c extra count flags → number < count → is_flagged flags number ≡ is_listed_hidden c extra number
flagged_is c extra count number flags are within =
    ap₂ (λ (a b : Bool). a || b) (ap (λ (all : List Bool). is_hidden all number) are.hidden ∙ flag_is count c.hidden number within)
    (ap (λ (all : List Bool). is_hidden all number) are.extra ∙ flag_is count (extra_cells extra) number within)

-- the numbers by the flags are those of the listed cells
pub numbers_are : (c : Certificate) (extra : Option Extra) (count : ℕ) (flags : HiddenCells) → AreHiddenCells c extra count flags → filter (is_flagged flags) (range_with_len 0 count) ≡ hidden_numbers c extra count
numbers_are c extra count flags are = same_numbers (is_flagged flags) (is_listed_hidden c extra) 0 count (λ n less. flagged_is c extra count n flags are (omega (arith, less)))

-- the hidden cells of a release that was read are those of the release
pub hidden_of_read : (released : ReleasedFiles) (read : ReadRelease) → IsReadyRelease read → IsReleasedOf released read → hidden_numbers read.certificate read.extra (length (cells_in read.job.book)) ≡ hidden_in released
hidden_of_read released read ready is =
    let same : cells_in read.job.book ≡ cells released.settled.inputs = ap₂ (λ (trees : List Tree) (tables : List (List Dimension)). cells_of trees tables) is.settled.book.trees is.settled.book.tables in
    let counts = listings_count_as_reports released.settled read.job ready.job is.settled in
    let size : length (cells_in read.job.book) ≡ length (listed_cells released.settled) = ap length same ∙ sym counts.one_line_each in
    ap₂ (λ (c : Certificate) (extra : Option Extra). hidden_numbers c extra (length (cells_in read.job.book))) is.certificate is.extra
    ∙ ap (λ (n : ℕ). hidden_numbers released.certificate released.extra n) size
