-- What holds of the judgement of rounded releases: a rounding that was written is accepted (zero-restricted controlled
-- rounding; own).
use Rattle.std.specs.Prelude.{◌≡◌, ℕ, ◌≤◌, true, List, length, map, slice_get, Ok, ℤ}
use Rattle.sdc_base.specs.Relations.{relations_among}
use Rattle.sdc_base.specs.Roundings.{IsRounding}
use Rattle.sdc_base.specs.declared.system.System.{System}
use Rattle.certificate.specs.Laws.{without_hidden_cells}
use Rattle.certificate.specs.declared.certificate.Certificate.{Certificate}
use Rattle.cert_check.specs.Acceptance.{IsOfCase}
use Rattle.cert_check.specs.Cases.{IsCase}
use Rattle.cert_check.specs.FirstFault.{acceptance_fault}
use Rattle.cert_check.specs.Methods.{rounds_cells, ListsNothing}
use Rattle.cert_check.specs.declared.case.Case.{Case}
use Rattle.linked_tables.specs.BookViews.{BookView}
use Rattle.linked_tables.specs.BookCells.{cells as cells_in}
use Rattle.relations.specs.Holding.{IsSystemOf}
use Rattle.release_writer.specs.ReadingLaws.{AreTexts, IsReleased}
use Rattle.release_writer.specs.ReleaseReading.{rounded_read}
use Rattle.job_inputs.specs.Cells.{cells, truth_in}
use Rattle.job_inputs.specs.ClassifiedJobs.{SettledInputs}
use Rattle.job_inputs.specs.SoundJobs.{IsSoundJob}
use Rattle.job_inputs.specs.TabulatedBooks.{IsBookOf}
use Rattle.job_check.specs.Cases.{IsCaseOf}

-- texts that were written for numbers, each from 0 and not too wide, are read as these numbers
abbrev pub RoundedAreReadBack : Type 0
RoundedAreReadBack =
    (book : BookView) (names : List (List (List ℕ))) (decimals : ℕ) (files : List (List ℕ)) (numbers : List ℤ)
    → length book.marks ≡ length (cells_in book) → length numbers ≡ length book.marks → decimals ≤ 13
    → IsReleased numbers
    → AreTexts book decimals (slice_get numbers) book.tables names files
    → rounded_read book names decimals files ≡ Ok numbers

-- a certificate of a case that rounds has no fault, where it lists nothing and the tables show a rounding of the truths
abbrev pub RoundingIsAccepted : Type 0
RoundingIsAccepted =
    (case : Case) (tables : List (List ℕ)) (values : List ℤ) (certificate : Certificate)
    → IsCase case tables → rounds_cells case.method ≡ true
    → length case.book.now.marks ≡ length (cells_in case.book.now)
    → IsOfCase case certificate → ListsNothing certificate → IsReleased values
    → IsRounding case.system.now (map (λ cell. cell.truth) case.cells.now) case.base values
    → AreTexts case.book.now case.decimals (slice_get values) case.book.now.tables case.names.now tables
    → acceptance_fault case tables certificate ≡ Ok tt

-- Where values are a rounding for settled inputs of a job within its limits, to the base of their case, a certificate
-- that counts the cells and the relations and lists nothing has no fault for that case, with the tables that show the
-- values: so a check accepts what a run that rounds has put, with the same inputs.
abbrev pub WrittenRoundingIsAccepted : Type 0
WrittenRoundingIsAccepted =
    (settled : SettledInputs) (book : BookView) (system : System) (values : List ℤ) (case : Case)
    (tables : List (List ℕ))
    → IsSoundJob settled.inputs.described → IsBookOf settled.inputs book → IsSystemOf book system
    → IsRounding system (map (truth_in settled.inputs) (cells settled.inputs)) case.base values
    → IsCaseOf settled case → IsCase case tables → rounds_cells case.method ≡ true
    → AreTexts case.book.now case.decimals (slice_get values) case.book.now.tables case.names.now tables
    → acceptance_fault case tables
    (without_hidden_cells settled.inputs.described.job.method (length (cells settled.inputs))
    (length (relations_among settled.inputs.records.trees settled.inputs.described.bound.tables)))
    ≡ Ok tt
