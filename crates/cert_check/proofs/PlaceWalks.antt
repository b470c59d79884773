-- The first fault of lists, read place by place.
use Rattle.std.proofs.Common.{◌≡◌, ℕ, zero, suc, ◌+◌, ◌<◌, ◌≤◌, Bool, true, List, [], ◌∷◌, length, drop, get_or, slice_get, Some, Result, Ok, Err, arith, refl, ap, sym, ◌∙◌, add-one, if◌then◌else◌}
use Rattle.std.proofs.lemmas.List.{drop_more}
use Rattle.sdc_base.specs.Steps.{◌>>=◌}
use Rattle.sdc_base.specs.declared.dimension.Dimension.{Dimension}
use Rattle.sdc_base.specs.declared.cell.Cell.{Cell}
use Rattle.sdc_base.specs.declared.side.Side.{Side}
use Rattle.sdc_base.specs.declared.side.Side.TheVariants.{Above, Below}
use Rattle.sdc_base.specs.declared.system.System.{System}
use Rattle.sdc_base.specs.Kinds.{is_primary}
use Rattle.linked_tables.specs.BookViews.{BookView}
use Rattle.worlds.specs.declared.refuted.Refuted.{Refuted}
use Rattle.worlds.specs.ProtectFaults.{asked_of, line_number}
use Rattle.certificate.specs.declared.certificate.WorldLine.{WorldLine}
use Rattle.repair.specs.HidingOrder.{hide_subjects}
use Rattle.sdc_base.specs.HiddenSets.{hide}
use Rattle.cert_check.specs.declared.faults.CheckFault.{CheckFault}
use Rattle.cert_check.specs.declared.faults.CheckFault.TheVariants as fault
use Rattle.cert_check.specs.WorldList.{fault_from, lines_fault, place_fault}
use Rattle.cert_check.specs.NeedList.{each_need_fault, place_fault as need_place_fault}
use Rattle.cert_check.specs.RepairList.{repair_fault, repairs_fault}
use Rattle.cert_check.specs.ReleaseLines.{table_fault, tables_fault}
use Rattle.cert_check.proofs.Differences.{drop_none, past}

-- ---- worlds

lines_at : (system : System) (cells : List Cell) (flags : List Bool) (k : ℕ) (asked : ℕ × Side) (more : List (ℕ × Side)) (lines : List WorldLine) (i : ℕ) → lines_fault system cells flags k (asked ∷ more) (drop i lines) ≡ (place_fault system cells flags k asked (slice_get lines i) >>= λ _. lines_fault system cells flags (k + 1) more (drop (suc i) lines))
lines_at system cells flags k asked more [] zero = refl
lines_at system cells flags k asked more [] (suc i) = refl
lines_at system cells flags k asked more (line ∷ lines) zero = refl
lines_at system cells flags k asked more (line ∷ lines) (suc i) = lines_at system cells flags k asked more lines i

-- the line at a place for what is asked first, and those behind it
lines_next : (system : System) (cells : List Cell) (flags : List Bool) (asked : ℕ × Side) (more : List (ℕ × Side)) (lines : List WorldLine) (i : ℕ) → lines_fault system cells flags i (asked ∷ more) (drop i lines) ≡ (place_fault system cells flags i asked (slice_get lines i) >>= λ _. lines_fault system cells flags (i + 1) more (drop (i + 1) lines))
lines_next system cells flags asked more lines i =
    lines_at system cells flags i asked more lines i
    ∙ ap (λ m. place_fault system cells flags i asked (slice_get lines i) >>= λ _. lines_fault system cells flags (i + 1) more (drop m lines)) (sym (add-one i))

-- what is asked of a primary cell, and then of those behind it
both_asked : (cells : List Cell) (number : ℕ) (cell : Cell) → number < length cells → is_primary (get_or cells number cell).kind ≡ true → asked_of number (drop number cells) ≡ (number, Above) ∷ (number, Below) ∷ asked_of (number + 1) (drop (number + 1) cells)
both_asked cells number cell within primary =
    ap (λ (l : List Cell). asked_of number l) (drop_more cells number cell within)
    ∙ ap (λ b. if b then (number, Above) ∷ (number, Below) ∷ asked_of (number + 1) (drop (number + 1) cells) else asked_of (number + 1) (drop (number + 1) cells)) primary

-- the lines of a primary cell, and those behind them
primary_next : (system : System) (cells : List Cell) (flags : List Bool) (lines : List WorldLine) (number place : ℕ) (cell : Cell) → number < length cells → is_primary (get_or cells number cell).kind ≡ true
    → fault_from system cells flags lines number place ≡ (place_fault system cells flags place (number, Above) (slice_get lines place) >>= λ _. place_fault system cells flags (place + 1) (number, Below) (slice_get lines (place + 1)) >>= λ _. fault_from system cells flags lines (number + 1) (place + 1 + 1))
primary_next system cells flags lines number place cell within primary =
    let more = asked_of (number + 1) (drop (number + 1) cells) in
    ap (λ (asked : List (ℕ × Side)). lines_fault system cells flags place asked (drop place lines)) (both_asked cells number cell within primary)
    ∙ lines_next system cells flags (number, Above) ((number, Below) ∷ more) lines place
    ∙ ap (λ (r : Result (Unit {0}) CheckFault). place_fault system cells flags place (number, Above) (slice_get lines place) >>= λ _. r) (lines_next system cells flags (number, Below) more lines (place + 1))

-- the line above has a fault
pub above_faults : (system : System) (cells : List Cell) (flags : List Bool) (lines : List WorldLine) (number place : ℕ) (cell : Cell) (why : CheckFault) → number < length cells → is_primary (get_or cells number cell).kind ≡ true
    → Err why ≡ place_fault system cells flags place (number, Above) (slice_get lines place) → fault_from system cells flags lines number place ≡ Err why
above_faults system cells flags lines number place cell why within primary above =
    primary_next system cells flags lines number place cell within primary
    ∙ ap (λ (r : Result (Unit {0}) CheckFault). r >>= λ _. place_fault system cells flags (place + 1) (number, Below) (slice_get lines (place + 1)) >>= λ _. fault_from system cells flags lines (number + 1) (place + 1 + 1)) (sym above)

passed : (system : System) (cells : List Cell) (flags : List Bool) (lines : List WorldLine) (number place : ℕ) (cell : Cell) → number < length cells → is_primary (get_or cells number cell).kind ≡ true
    → Ok tt ≡ place_fault system cells flags place (number, Above) (slice_get lines place)
    → fault_from system cells flags lines number place ≡ (place_fault system cells flags (place + 1) (number, Below) (slice_get lines (place + 1)) >>= λ _. fault_from system cells flags lines (number + 1) (place + 1 + 1))
passed system cells flags lines number place cell within primary above =
    primary_next system cells flags lines number place cell within primary
    ∙ ap (λ (r : Result (Unit {0}) CheckFault). r >>= λ _. place_fault system cells flags (place + 1) (number, Below) (slice_get lines (place + 1)) >>= λ _. fault_from system cells flags lines (number + 1) (place + 1 + 1)) (sym above)

-- the line below has a fault
pub below_faults : (system : System) (cells : List Cell) (flags : List Bool) (lines : List WorldLine) (number place : ℕ) (cell : Cell) (why : CheckFault) → number < length cells → is_primary (get_or cells number cell).kind ≡ true
    → Ok tt ≡ place_fault system cells flags place (number, Above) (slice_get lines place) → Err why ≡ place_fault system cells flags (place + 1) (number, Below) (slice_get lines (place + 1)) → fault_from system cells flags lines number place ≡ Err why
below_faults system cells flags lines number place cell why within primary above below =
    passed system cells flags lines number place cell within primary above
    ∙ ap (λ (r : Result (Unit {0}) CheckFault). r >>= λ _. fault_from system cells flags lines (number + 1) (place + 1 + 1)) (sym below)

-- neither has one
pub both_pass : (system : System) (cells : List Cell) (flags : List Bool) (lines : List WorldLine) (number place : ℕ) (cell : Cell) → number < length cells → is_primary (get_or cells number cell).kind ≡ true
    → Ok tt ≡ place_fault system cells flags place (number, Above) (slice_get lines place) → Ok tt ≡ place_fault system cells flags (place + 1) (number, Below) (slice_get lines (place + 1)) → fault_from system cells flags lines number place ≡ fault_from system cells flags lines (number + 1) (place + 2)
both_pass system cells flags lines number place cell within primary above below =
    let behind : place + 1 + 1 ≡ place + 2 = omega arith in
    passed system cells flags lines number place cell within primary above
    ∙ ap (λ (r : Result (Unit {0}) CheckFault). r >>= λ _. fault_from system cells flags lines (number + 1) (place + 1 + 1)) (sym below)
    ∙ ap (λ m. fault_from system cells flags lines (number + 1) m) behind

lines_left : (system : System) (cells : List Cell) (flags : List Bool) (k : ℕ) (lines : List WorldLine) (i : ℕ) → i < length lines → lines_fault system cells flags k [] (drop i lines) ≡ Err (fault.WorldCell (line_number k))
lines_left system cells flags k [] i within = absurd (omega (arith, within))
lines_left system cells flags k (line ∷ lines) zero within = refl
lines_left system cells flags k (line ∷ lines) (suc i) within = lines_left system cells flags k lines i (omega (arith, within))

-- a line is left behind those of all cells
pub lines_over : (system : System) (cells : List Cell) (flags : List Bool) (lines : List WorldLine) (number place : ℕ) → length cells ≤ number → place < length lines → fault_from system cells flags lines number place ≡ Err (fault.WorldCell (line_number place))
lines_over system cells flags lines number place end within =
    ap (λ (l : List Cell). lines_fault system cells flags place (asked_of number l) (drop place lines)) (past cells number end)
    ∙ lines_left system cells flags place lines place within

-- ---- needs

needs_suc : (system : System) (cells : List Cell) (flags : List Bool) (k : ℕ) (subjects : List ℕ) (needs : List Refuted) (i : ℕ) (need : Refuted) → i < length needs → need ≡ get_or needs i need → each_need_fault system cells flags (k + i) (drop i subjects) (drop i needs) ≡ (need_place_fault system cells flags (k + i) (slice_get subjects i) need >>= λ _. each_need_fault system cells flags (k + i + 1) (drop (suc i) subjects) (drop (suc i) needs))
needs_suc system cells flags k subjects [] i need within is = absurd (omega (arith, within))
needs_suc system cells flags k [] (one ∷ needs) zero need within is = refl
needs_suc system cells flags k (a ∷ subjects) (one ∷ needs) zero need within is = ap (λ l. need_place_fault system cells flags (k + 0) (Some a) l >>= λ _. each_need_fault system cells flags (k + 0 + 1) subjects needs) (sym is)
needs_suc system cells flags k [] (one ∷ needs) (suc i) need within is =
    let step : k + suc i ≡ k + 1 + i = omega arith in
    ap (λ m. each_need_fault system cells flags m [] (drop i needs)) step ∙ ap (λ l. each_need_fault system cells flags (k + 1 + i) l (drop i needs)) (sym (drop_none i))
    ∙ needs_suc system cells flags (k + 1) [] needs i need (omega (arith, within)) is
    ∙ ap (λ m. need_place_fault system cells flags m (slice_get [] i) need >>= λ _. each_need_fault system cells flags (m + 1) [] (drop (suc i) needs)) (sym step)
needs_suc system cells flags k (a ∷ subjects) (one ∷ needs) (suc i) need within is =
    let step : k + suc i ≡ k + 1 + i = omega arith in
    ap (λ m. each_need_fault system cells flags m (drop i subjects) (drop i needs)) step
    ∙ needs_suc system cells flags (k + 1) subjects needs i need (omega (arith, within)) is
    ∙ ap (λ m. need_place_fault system cells flags m (slice_get subjects i) need >>= λ _. each_need_fault system cells flags (m + 1) (drop (suc i) subjects) (drop (suc i) needs)) (sym step)

-- the need at a place, and those behind it
pub needs_next : (system : System) (cells : List Cell) (flags : List Bool) (subjects : List ℕ) (needs : List Refuted) (i : ℕ) (need : Refuted) → i < length needs → need ≡ get_or needs i need → each_need_fault system cells flags i (drop i subjects) (drop i needs) ≡ (need_place_fault system cells flags i (slice_get subjects i) need >>= λ _. each_need_fault system cells flags (i + 1) (drop (i + 1) subjects) (drop (i + 1) needs))
needs_next system cells flags subjects needs i need within is =
    let here : 0 + i ≡ i = omega arith in
    ap (λ m. each_need_fault system cells flags m (drop i subjects) (drop i needs)) (sym here) ∙ needs_suc system cells flags 0 subjects needs i need within is
    ∙ ap (λ m. need_place_fault system cells flags m (slice_get subjects i) need >>= λ _. each_need_fault system cells flags (m + 1) (drop (suc i) subjects) (drop (suc i) needs)) here
    ∙ ap (λ m. need_place_fault system cells flags i (slice_get subjects i) need >>= λ _. each_need_fault system cells flags (i + 1) (drop m subjects) (drop m needs)) (sym (add-one i))

pub needs_over : (system : System) (cells : List Cell) (flags : List Bool) (k : ℕ) (subjects : List ℕ) (needs : List Refuted) → length needs < length subjects → each_need_fault system cells flags k (drop (length needs) subjects) (drop (length needs) needs) ≡ Err (fault.NeedCell (line_number k))
needs_over system cells flags k [] needs more = absurd (omega (arith, more))
needs_over system cells flags k (a ∷ subjects) [] more = refl
needs_over system cells flags k (a ∷ subjects) (need ∷ needs) more = needs_over system cells flags k subjects needs (omega (arith, more))

pub needs_done : (system : System) (cells : List Cell) (flags : List Bool) (k : ℕ) (subjects : List ℕ) (needs : List Refuted) → length subjects ≤ length needs → each_need_fault system cells flags k (drop (length needs) subjects) (drop (length needs) needs) ≡ Ok tt
needs_done system cells flags k [] [] most = refl
needs_done system cells flags k [] (need ∷ needs) most = ap (λ l. each_need_fault system cells flags k l (drop (length needs) needs)) (sym (drop_none (length needs))) ∙ needs_done system cells flags k [] needs (omega arith)
needs_done system cells flags k (a ∷ subjects) [] most = absurd (omega (arith, most))
needs_done system cells flags k (a ∷ subjects) (need ∷ needs) most = needs_done system cells flags k subjects needs (omega (arith, most))

-- ---- repairs

-- the repair at a place, and those behind it
pub repairs_next : (system : System) (cells : List Cell) (flags : List Bool) (repairs : List Refuted) (i : ℕ) (repair : Refuted) → i < length repairs → repair ≡ get_or repairs i repair → repairs_fault system cells flags i (drop i repairs) ≡ (repair_fault system cells flags (line_number i) repair >>= λ _. repairs_fault system cells (hide flags repair.subject) (i + 1) (drop (i + 1) repairs))
repairs_next system cells flags repairs i repair within is = ap (λ (l : List Refuted). repairs_fault system cells flags i l) (drop_more repairs i repair within ∙ ap (λ r. r ∷ drop (i + 1) repairs) (sym is))

pub repaired_next : (flags : List Bool) (repairs : List Refuted) (i : ℕ) (repair : Refuted) → i < length repairs → repair ≡ get_or repairs i repair → hide_subjects flags (drop i repairs) ≡ hide_subjects (hide flags repair.subject) (drop (i + 1) repairs)
repaired_next flags repairs i repair within is = ap (λ (l : List Refuted). hide_subjects flags l) (drop_more repairs i repair within ∙ ap (λ r. r ∷ drop (i + 1) repairs) (sym is))

-- ---- tables

-- the table at a place, and those after it
pub tables_next : (book : BookView) (flags : List Bool) (decimals : ℕ) (tables : List (List Dimension)) (names : List (List (List ℕ))) (files : List (List ℕ)) (t : ℕ) → t < length tables → t < length names → t < length files
    → tables_fault book flags decimals t (drop t tables) (drop t names) (drop t files) ≡ (table_fault book flags decimals t (get_or tables t []) (get_or names t []) (get_or files t []) >>= λ _. tables_fault book flags decimals (t + 1) (drop (t + 1) tables) (drop (t + 1) names) (drop (t + 1) files))
tables_next book flags decimals tables names files t within named written =
    ap (λ (l : List (List Dimension)). tables_fault book flags decimals t l (drop t names) (drop t files)) (drop_more tables t [] within)
    ∙ ap (λ (l : List (List (List ℕ))). tables_fault book flags decimals t (get_or tables t [] ∷ drop (t + 1) tables) l (drop t files)) (drop_more names t [] named)
    ∙ ap (λ (l : List (List ℕ)). tables_fault book flags decimals t (get_or tables t [] ∷ drop (t + 1) tables) (get_or names t [] ∷ drop (t + 1) names) l) (drop_more files t [] written)

-- no table is left
pub tables_over : (book : BookView) (flags : List Bool) (decimals t : ℕ) (tables : List (List Dimension)) (names : List (List (List ℕ))) (files : List (List ℕ)) → length tables ≤ t → tables_fault book flags decimals t (drop t tables) (drop t names) (drop t files) ≡ Ok tt
tables_over book flags decimals t tables names files over = ap (λ (l : List (List Dimension)). tables_fault book flags decimals t l (drop t names) (drop t files)) (past tables t over)
