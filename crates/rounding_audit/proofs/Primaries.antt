-- The audit of the primary cells, one by one.
use Rattle.std.proofs.Common.{◌≡◌, ℕ, zero, suc, ◌+◌, ◌-◌, ◌<◌, ◌≤◌, Bool, true, false, List, [], ◌∷◌, ◌++◌, filter, if◌then◌else◌, inl, inr, length, map, slice_index_or, ℤ, arith, ap, sym, subst, ◌∙◌}
use Rattle.std.specs.List.{range_with_len}
use Rattle.std.specs.Option.{option_map_or}
use Rattle.std.proofs.lemmas.List.{get_or-replicate, map-append}
use Rattle.std.proofs.lemmas.Option.{slice_get-get_or}
use Rattle.std.proofs.Math.Nat.{eq-or-lt_of_le}
use Rattle.sdc_base.specs.declared.cell.Cell.{Cell}
use Rattle.sdc_base.specs.declared.system.System.{System}
use Rattle.sdc_base.specs.HiddenSets.{is_hidden}
use Rattle.sdc_base.specs.Kinds.{is_primary, is_primary_at}
use Rattle.sdc_base.specs.Roundings.{IsRounding}
use Rattle.sdc_base.proofs.GrowingLists.{filter-front, range-next}
use Rattle.interval_audit.specs.declared.answer.AskFault.{AskFault}
use Rattle.interval_audit.specs.declared.answer.AskFault.TheVariants as ask
use Rattle.interval_audit.specs.Ends.{IsIntervalCause}
use Rattle.interval_audit.specs.Groups.{IsComponentOf}
use Rattle.interval_audit.specs.WalkLimits.{HasNoWalk as HasNoQuestionWalk}
use Rattle.cell_intervals.specs.IntervalFaults.{HasBothEnds, HasSmallComponent}
use Rattle.cell_intervals.proofs.Components.{cause_is_large}
use Rattle.rounding_audit.specs.Laws.{SizeIsLarge}
use Rattle.rounding_audit.specs.AuditFaults.{HasNoWalk, IsAuditFault, IsQuestionFault, question_stop, reader_stop}
use Rattle.rounding_audit.specs.ReaderFaults.{truths_of}
use Rattle.rounding_audit.specs.Readers.{AreReaderCells, all_hidden}
use Rattle.rounding_audit.specs.declared.audited.AuditedCell.{AuditedCell}
use Rattle.rounding_audit.specs.declared.reader_fault.ReaderFault.{ReaderFault}
use Rattle.rounding_audit.specs.declared.reader_fault.ReaderFault.TheVariants as reader

-- whether a cell that is read is primary
pub primary_at : (cells : List Cell) (number : ℕ) (d : Cell) → number < length cells → is_primary_at cells number ≡ is_primary (slice_index_or cells number d).kind
primary_at cells number d inside = ap (λ found. option_map_or (λ (one : Cell). is_primary one.kind) found false) (slice_get-get_or cells number d inside)

-- one number on: it stands at the end of the list where it passes
next_either : (test : ℕ → Bool) (n : ℕ) (done all : List ℕ) (number : ℕ) → number < n → done ++ filter test (range_with_len number (n - number)) ≡ all
    → (if test number then done ++ number ∷ [] else done) ++ filter test (range_with_len (number + 1) (n - (number + 1))) ≡ all
next_either test n done all number within is =
    filter-front test done number (range_with_len (number + 1) (n - (number + 1)))
    ∙ ap (λ numbers. done ++ filter test numbers) (sym (range-next number n within))
    ∙ is

pub next_in : (test : ℕ → Bool) (n : ℕ) (done all : List ℕ) (number : ℕ) → number < n → test number ≡ true → done ++ filter test (range_with_len number (n - number)) ≡ all
    → (done ++ number ∷ []) ++ filter test (range_with_len (number + 1) (n - (number + 1))) ≡ all
next_in test n done all number within passes is =
    subst (λ (b : Bool). (if b then done ++ number ∷ [] else done) ++ filter test (range_with_len (number + 1) (n - (number + 1))) ≡ all) passes (next_either test n done all number within is)

pub next_out : (test : ℕ → Bool) (n : ℕ) (done all : List ℕ) (number : ℕ) → number < n → test number ≡ false → done ++ filter test (range_with_len number (n - number)) ≡ all
    → done ++ filter test (range_with_len (number + 1) (n - (number + 1))) ≡ all
next_out test n done all number within fails is =
    subst (λ (b : Bool). (if b then done ++ number ∷ [] else done) ++ filter test (range_with_len (number + 1) (n - (number + 1))) ≡ all) fails (next_either test n done all number within is)

-- the numbers of one cell more
pub numbers_more : (audited : List AuditedCell) (one : AuditedCell) (number : ℕ) (grown : List AuditedCell) → grown ≡ audited ++ one ∷ [] → one.cell ≡ number → map (λ (cell : AuditedCell). cell.cell) grown ≡ map (λ (cell : AuditedCell). cell.cell) audited ++ number ∷ []
numbers_more audited one number grown is same =
    let numbers : List AuditedCell → List ℕ = map (λ (cell : AuditedCell). cell.cell) in
    ap numbers is ∙ map-append (λ (cell : AuditedCell). cell.cell) audited (one ∷ []) ∙ ap (λ n. numbers audited ++ n ∷ []) same

-- what holds of each primary cell below one, and of that one
pub below_next : (P : ℕ → Type 0) (test : ℕ → Bool) (number : ℕ) → ((other : ℕ) → other < number → test other ≡ true → P other) → (test number ≡ true → P number) → (other : ℕ) → other < number + 1 → test other ≡ true → P other
below_next P test number before own other below passes =
    elim (eq-or-lt_of_le {n = other} {m = number} (omega (arith, below))) as (λ _. P other) [
      | inl same ↦ subst P (sym same) (own (subst (λ n. test n ≡ true) same passes))
      | inr less ↦ before other less passes
    ]

-- the fault of a primary cell's questions, where those of all primary cells before it are known
pub fault_at : (system : System) (cells known : List Cell) (limit number : ℕ) (why : AskFault) → is_primary_at cells number ≡ true → ((other : ℕ) → other < number → is_primary_at cells other ≡ true → HasBothEnds system known (all_hidden system.cells) other)
    → IsIntervalCause system known (all_hidden system.cells) number limit why → IsQuestionFault system cells known limit why
fault_at system cells known limit number (ask.Work walk) primary earlier cause = (number, record { primary = primary; earlier = earlier; cause = cause })
fault_at system cells known limit number (ask.Wide walk place) primary earlier cause = (number, record { primary = primary; earlier = earlier; cause = cause })
fault_at system cells known limit number (ask.Size asked size) primary earlier cause = (number, record { primary = primary; earlier = earlier; cause = cause })
fault_at system cells known limit number ask.Memory primary earlier cause = tt

-- and as a fault of the audit
pub fault_of_audit : (system : System) (cells : List Cell) (values : List ℤ) (base : ℤ) (known : List Cell) (limit : ℕ) (why : AskFault) → IsRounding system (truths_of cells) base values → AreReaderCells cells values base known → IsQuestionFault system cells known limit why → IsAuditFault system cells values base limit (question_stop why)
fault_of_audit system cells values base known limit ask.Memory rounding are fault = tt
fault_of_audit system cells values base known limit (ask.Work walk) rounding are fault = record { not_memory = λ same. absurd cc; rounding = rounding; known = known; known_are = are; fault = fault }
fault_of_audit system cells values base known limit (ask.Wide walk place) rounding are fault = record { not_memory = λ same. absurd cc; rounding = rounding; known = known; known_are = are; fault = fault }
fault_of_audit system cells values base known limit (ask.Size asked size) rounding are fault = record { not_memory = λ same. absurd cc; rounding = rounding; known = known; known_are = are; fault = fault }

-- where no walk of a question stopped short, none did among the faults of the audit
pub question_no_walk : (why : AskFault) → HasNoQuestionWalk why → HasNoWalk (question_stop why)
question_no_walk (ask.Work walk) none = absurd none
question_no_walk (ask.Wide walk place) none = absurd none
question_no_walk (ask.Size asked size) none = tt
question_no_walk ask.Memory none = tt

-- and none did where the values are no rounding
pub reader_no_walk : (why : ReaderFault) → HasNoWalk (reader_stop why)
reader_no_walk (reader.Rounded number) = tt
reader_no_walk (reader.Relation number) = tt
reader_no_walk reader.Memory = tt

-- the fault is that a component is too large exactly where it is
pub size_is_large : SizeIsLarge
size_is_large system cells known limit number why some at = cause_is_large system known (all_hidden system.cells) limit number why some at.cause

primary_inside : (cells : List Cell) (number : ℕ) → is_primary_at cells number ≡ true → number < length cells
primary_inside [] number is = absurd cc
primary_inside (cell ∷ cells) zero is = omega arith
primary_inside (cell ∷ cells) (suc number) is = omega (arith, primary_inside cells number is)

-- a primary cell with both ends has a component that is small enough
pub small_where_ended : (system : System) (cells known : List Cell) (n : ℕ) → length cells ≤ n → ((other : ℕ) → other < n → is_primary_at cells other ≡ true → HasBothEnds system known (all_hidden system.cells) other) → (number : ℕ) → is_primary_at cells number ≡ true → HasSmallComponent system (all_hidden system.cells) number
small_where_ended system cells known n all ended number primary =
    let read = (ended number (omega (arith, all, primary_inside cells number primary)) primary).below_read in
    record {
      group = read.2.0;
      is_component = subst (λ c. IsComponentOf system.relations (all_hidden system.cells) c read.2.0) read.1.cell_is read.2.1;
      within_most_members = read.2.2;
    }

-- so has each, where those of all hidden cells are
pub small_where_searched : (system : System) (cells : List Cell) (flags : List Bool) → length cells ≡ system.cells → flags ≡ all_hidden system.cells → ((cell : ℕ) → is_hidden flags cell ≡ true → HasSmallComponent system flags cell) → (number : ℕ) → is_primary_at cells number ≡ true → HasSmallComponent system (all_hidden system.cells) number
small_where_searched system cells flags each all small number primary =
    let inside : number < system.cells = omega (arith, each, primary_inside cells number primary) in
    let hidden : is_hidden (all_hidden system.cells) number ≡ true = get_or-replicate system.cells number true false inside in
    subst (λ (fs : List Bool). (cell : ℕ) → is_hidden fs cell ≡ true → HasSmallComponent system fs cell) all small number hidden
