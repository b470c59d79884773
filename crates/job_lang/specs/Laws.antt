-- Laws of jobs, above the reading line by line: the order of faults, and names of files that stay apart (own).
use Rattle.std.specs.Prelude.{◌≡◌, ◌⊎◌, ℕ, ◌+◌, Bool, true, false, ◌&&◌, ◌||◌, ◌==◌, zero, suc, List, [], ◌∷◌, length, take, slice_get, find, is_none, Some, Ok, Err}
use Rattle.std.specs.List.{list_any}
use Rattle.std.specs.Option.{is_some}
use Rattle.sdc_base.specs.Blanks.{trim}
use Rattle.sdc_base.specs.Lines.{lines}
use Rattle.rda_meta.specs.Limits.{IsMeta}
use Rattle.rda_meta.specs.declared.meta.Meta.{Meta}
use Rattle.job_lang.specs.declared.faults.JobWhy.{JobWhy}
use Rattle.job_lang.specs.declared.faults.JobWhy.TheVariants.{BadValue, NoSuchTable, NotInTable, SameName, Missing}
use Rattle.job_lang.specs.declared.faults.Command.{Command}
use Rattle.job_lang.specs.declared.faults.Command.TheVariants as command
use Rattle.job_lang.specs.declared.statement.Keyword.TheVariants as keyword
use Rattle.job_lang.specs.declared.statement.Statement.{Statement}
use Rattle.job_lang.specs.declared.statement.Draft.{Draft}
use Rattle.job_lang.specs.Statements.{text_says, lines_say, empty_draft}
use Rattle.job_lang.specs.ClosingLooks.{statement_by, file_line, rules_line, method_of, output_said}
use Rattle.job_lang.specs.FilesApart.{is_astray, puts_shared_file}
use Rattle.job_lang.specs.SpannedDepths.{is_outside}
use Rattle.job_lang.specs.RoundedContributors.{is_rounding}
use Rattle.job_lang.specs.Jobs.{job_of}
use Rattle.job_lang.specs.BoundLimits.{AreVariables}

-- ---- the order of faults

-- The line behind so many lines has this fault, and they have none.
abbrev pub IsLineFault : List (List ℕ) → ℕ → JobWhy → Type 0
IsLineFault texts line why =
    (before : ℕ) × (draft : Draft) × (text : List ℕ) × (line ≡ before + 1) × (slice_get texts before ≡ Some text)
    × (lines_say 0 empty_draft (take before texts) ≡ Ok draft) × (text_says line draft (trim text) ≡ Err why)

-- an output of one of so many tables lacks, from this place on
abbrev pub lacks_output : ℕ → ℕ → List Statement → Bool
lacks_output zero place said = false
lacks_output (suc more) place said = is_none (file_line (output_said place said)) || lacks_output more (place + 1) said

-- what was said lacks this command, or for outputs one of a table
abbrev pub lacks_command : Draft → Command → Bool
lacks_command draft command.OpenMicrodata = is_none (file_line (statement_by keyword.OpenMicrodata draft.said))
lacks_command draft command.OpenMetadata = is_none (file_line (statement_by keyword.OpenMetadata draft.said))
lacks_command draft command.SpecifyTable = length draft.tables == 0
lacks_command draft command.SafetyRule = is_none (rules_line (statement_by keyword.SafetyRule draft.said))
lacks_command draft command.Suppress = is_none (method_of (statement_by keyword.Suppress draft.said))
lacks_command draft command.WriteTable = lacks_output (length draft.tables) 0 draft.said
lacks_command draft command.Certificate = is_none (file_line (statement_by keyword.Certificate draft.said))

-- the commands that a job must have, in their order
abbrev pub must_have : List Command
must_have =
    command.OpenMicrodata ∷ command.OpenMetadata ∷ command.SpecifyTable ∷ command.SafetyRule ∷ command.Suppress
    ∷ command.WriteTable ∷ command.Certificate ∷ []

-- the job rounds
abbrev pub rounds : Draft → Bool
rounds draft = is_rounding (method_of (statement_by keyword.Suppress draft.said))

-- the job rounds and names a contributors' file
abbrev pub has_unfit_line : Draft → Bool
has_unfit_line draft = rounds draft && is_some (statement_by keyword.Contributors draft.said)

-- No line has a fault, but the job rounds, and this is its line of a contributors' file.
abbrev pub IsUnfitLine : Draft → ℕ → JobWhy → Type 0
IsUnfitLine draft line why =
    (s : Statement) × (rounds draft ≡ true) × (statement_by keyword.Contributors draft.said ≡ Some s) × (line ≡ s.line)
    × (why ≡ BadValue)

-- No line has a fault, nor is there a contributors' file of a job that rounds, and this is the first line that names no
-- table.
abbrev pub IsFirstStray : Draft → ℕ → JobWhy → Type 0
IsFirstStray draft line why =
    (s : Statement) × (has_unfit_line draft ≡ false)
    × (find (λ s. is_astray (length draft.tables) s.said) draft.said ≡ Some s) × (line ≡ s.line) × (why ≡ NoSuchTable)

-- That line isn't unfit, every line that names a table names one of the job's, and this is the first that gives a depth
-- of a variable which its table doesn't span.
abbrev pub IsFirstOutside : Draft → ℕ → JobWhy → Type 0
IsFirstOutside draft line why =
    (s : Statement) × (has_unfit_line draft ≡ false)
    × (list_any (λ s. is_astray (length draft.tables) s.said) draft.said ≡ false)
    × (find (λ s. is_outside draft.tables s.said) draft.said ≡ Some s) × (line ≡ s.line) × (why ≡ NotInTable)

-- None of these is so, and this is the first line that puts a file whose name another has.
abbrev pub IsFirstMeeting : Draft → ℕ → JobWhy → Type 0
IsFirstMeeting draft line why =
    (s : Statement) × (has_unfit_line draft ≡ false)
    × (list_any (λ s. is_astray (length draft.tables) s.said) draft.said ≡ false)
    × (list_any (λ s. is_outside draft.tables s.said) draft.said ≡ false)
    × (find (λ s. puts_shared_file draft.said s.said) draft.said ≡ Some s) × (line ≡ s.line) × (why ≡ SameName)

-- None of these is so, and this is the first command that lacks; the line is 0.
abbrev pub IsFirstLack : Draft → ℕ → JobWhy → Type 0
IsFirstLack draft line why =
    (which : Command) × (has_unfit_line draft ≡ false)
    × (list_any (λ s. is_astray (length draft.tables) s.said) draft.said ≡ false)
    × (list_any (λ s. is_outside draft.tables s.said) draft.said ≡ false)
    × (list_any (λ s. puts_shared_file draft.said s.said) draft.said ≡ false)
    × (find (lacks_command draft) must_have ≡ Some which) × (line ≡ 0) × (why ≡ Missing which)

-- The fault that is given is that of the first line that has one; else the contributors' file of a job that rounds, the
-- first number of no table, the first depth of a variable that its table doesn't span, the first name that meets another,
-- and the first command that lacks, in this order.
abbrev pub IsInOrder : Type 0
IsInOrder =
    (bytes : List ℕ) (line : ℕ) (why : JobWhy) → job_of bytes ≡ Err (line, why)
    → IsLineFault (lines bytes) line why
    ⊎ ((draft : Draft) × (lines_say 0 empty_draft (lines bytes) ≡ Ok draft)
    × (IsUnfitLine draft line why ⊎ IsFirstStray draft line why ⊎ IsFirstOutside draft line why
    ⊎ IsFirstMeeting draft line why ⊎ IsFirstLack draft line why))

-- ---- metadata that were read

-- Metadata within their limits, as all are that were read, can have a job bound to them.
abbrev pub MetadataFit : Type 0
MetadataFit = (meta : Meta) → IsMeta meta → AreVariables meta.variables
