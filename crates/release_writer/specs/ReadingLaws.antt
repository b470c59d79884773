-- What is written is read as that (own).
use Rattle.std.specs.Prelude.{◌≡◌, ◌<◌, ℕ, Bool, true, false, List, [], ◌∷◌, length, slice_get, Option, ℤ, pos, Ok}
use Rattle.std.specs.Option.{option_and_then}
use Rattle.sdc_base.specs.TableText.{table_text}
use Rattle.sdc_base.specs.declared.dimension.Dimension.{Dimension}
use Rattle.linked_tables.specs.BookViews.{BookView}
use Rattle.linked_tables.specs.BookCells.{cells, number_of}
use Rattle.release_writer.specs.ShownCells.{open_truth}
use Rattle.release_writer.specs.ReleaseReading.{hidden_read, rounded_read}
use Rattle.sdc_base.specs.Numbers.{too_wide}

-- the bytes are the texts of tables, each with its names, in which each cell of the book shows this
abbrev pub AreTexts : BookView → ℕ → (ℕ → Option ℤ) → List (List Dimension) → List (List (List ℕ)) → List (List ℕ)
    → Type 0
AreTexts book decimals shown [] names files = Unit {0}
AreTexts book decimals shown (table ∷ tables) (own ∷ names) (bytes ∷ files) =
    (bytes ≡ table_text book.trees table own decimals (λ name. option_and_then shown (number_of book name)))
    × AreTexts book decimals shown tables names files
AreTexts book decimals shown tables names files = true ≡ false

-- texts that were written for a hidden set are read as that set
abbrev pub HiddenAreReadBack : Type 0
HiddenAreReadBack =
    (book : BookView) (names : List (List (List ℕ))) (decimals : ℕ) (files : List (List ℕ)) (flags : List Bool)
    → length book.marks ≡ length (cells book) → length flags ≡ length book.marks
    → AreTexts book decimals (open_truth book.marks flags) book.tables names files
    → hidden_read book names decimals files ≡ Ok flags

-- bytes that are read as a hidden set are the texts that are written for it
abbrev pub HiddenHaveTexts : Type 0
HiddenHaveTexts =
    (book : BookView) (names : List (List (List ℕ))) (decimals : ℕ) (files : List (List ℕ)) (flags : List Bool)
    → length book.marks ≡ length (cells book) → length names ≡ length book.tables → length files ≡ length book.tables
    → hidden_read book names decimals files ≡ Ok flags
    → (length flags ≡ length book.marks) × AreTexts book decimals (open_truth book.marks flags) book.tables names files

-- each number is from 0 and not too wide
abbrev pub IsReleased : List ℤ → Type 0
IsReleased [] = Unit {0}
IsReleased (number ∷ numbers) = ((n : ℕ) × (number ≡ pos n) × (n < too_wide)) × IsReleased numbers

-- bytes that are read as numbers are the texts that are written for them, and each number is from 0 and not too wide
abbrev pub RoundedHaveTexts : Type 0
RoundedHaveTexts =
    (book : BookView) (names : List (List (List ℕ))) (decimals : ℕ) (files : List (List ℕ)) (numbers : List ℤ)
    → length book.marks ≡ length (cells book) → length names ≡ length book.tables → length files ≡ length book.tables
    → rounded_read book names decimals files ≡ Ok numbers
    → (length numbers ≡ length book.marks) × IsReleased numbers
    × AreTexts book decimals (slice_get numbers) book.tables names files
