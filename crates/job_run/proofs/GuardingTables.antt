-- A guarded set protects against each contributor, whether or not it alone makes up a cell.
use Rattle.std.proofs.Common.{◌≡◌, ℕ, zero, suc, ◌<◌, ◌==◌, ◌&&◌, ◌||◌, not, inl, inr, Bool, true, false, List, [], ◌∷◌, length, slice_get, All, Option, Some, arith, refl, ap, sym, subst, ◌∙◌}
use Rattle.std.specs.List.{list_any}
use Rattle.std.specs.Option.{option_map_or}
use Rattle.std.proofs.lemmas.Bool.Decides.{Decides-eqb, nat_tests}
use Rattle.std.proofs.lemmas.List.{length-set}
use Rattle.std.proofs.lemmas.List.Elements.{All-head, All-tail}
use Rattle.std.proofs.lemmas.Option.{slice_get_within}
use Rattle.sdc_base.proofs.WeakDual.{All-found}
use Rattle.sdc_base.specs.HiddenSets.{IsPermitted, MayHide, is_hidden, hide, hide_cells}
use Rattle.sdc_base.specs.Kinds.{is_primary, is_primary_at}
use Rattle.sdc_base.specs.Worlds.{Protects}
use Rattle.sdc_base.specs.declared.cell.Cell.{Cell}
use Rattle.sdc_base.specs.declared.cell.Kind.TheVariants.{Primary, Free}
use Rattle.sdc_base.specs.declared.side.Side.{Side}
use Rattle.sdc_base.specs.declared.system.System.{System}
use Rattle.worlds.proofs.RefutationLaws.{no_world}
use Rattle.worlds.specs.ProtectFaults.{IsProtecting}
use Rattle.repair.specs.HidingOrder.{protected_case, IsOfKind}
use Rattle.repair.proofs.Flags.{IsWithin, hidden_here, hidden_other, permitted_more, same_or_other}
use Rattle.repair.proofs.Growing.{protects_more}
use Rattle.attackers.specs.Alone.{AreSoles, is_sole}
use Rattle.attackers.specs.ExtraAcceptance.{IsExtraNeed, IsGuarding}
use Rattle.attackers.specs.Extras.{attack_of}
use Rattle.attackers.specs.KnownCells.{is_known, without_known, IsAttack}
use Rattle.attackers.specs.declared.attack.Attack.{Attack}
use Rattle.attackers.proofs.AllAttacks.{within_cells}
use Rattle.attackers.proofs.AskedCells.{AttackSays, attack_says}
use Rattle.attackers.proofs.Concluding.{length-hide_cells}
use Rattle.attackers.proofs.EachAttack.{guards_each}
use Rattle.attackers.proofs.Knowing.{left_says}
use Rattle.certificate.specs.declared.extra.Extra.{Extra}
use Rattle.certificate.specs.declared.extra.ExtraNeed.{ExtraNeed}
use Rattle.apriori.specs.Settling.{SettledCell, view_of_cell}
use Rattle.linked_tables.specs.BookCells.{cells as cells_in}
use Rattle.linked_tables.specs.BookViews.{BookView}
use Rattle.office_io.specs.Files.{Files}
use Rattle.job_inputs.specs.ClassifiedJobs.{SettledInputs}
use Rattle.job_inputs.specs.TabulatedBooks.{IsBookOf}
use Rattle.job_inputs.specs.declared.inputs.Inputs.{Inputs}
use Rattle.job_run.specs.Promise.{GuardedTables, GuardsEachCell, NeedsEachCell, StaysOpen, TablesShow, knows_cell, unknown_to, without}
use Rattle.job_run.specs.Releases.{shown_in}
use Rattle.job_run.proofs.KnownCells.{known-same, knows-none, unknown-same}
use Rattle.job_run.proofs.PromisedCells.{IsOf, cell-at, open-protects, settled-at, stays-open}
use Rattle.job_run.proofs.PromisedTables.{permitted-set, protects-each, viewed-at}

-- free cells may be hidden too
pub free-permitted : (cells : List Cell) (flags : List Bool) (extras : List ℕ) → length flags ≡ length cells → All (λ one. IsOfKind cells one Free) extras → IsPermitted cells flags → IsPermitted cells (hide_cells flags extras)
free-permitted cells flags [] each free is = is
free-permitted cells flags (extra ∷ extras) each free is =
    let one : IsOfKind cells extra Free = All-head (λ e. IsOfKind cells e Free) extra extras free in
    let inside : extra < length flags = omega (arith, each, slice_get_within cells extra one.cell one.found) in
    let may : MayHide cells extra = record { cell = one.cell; found = one.found; may = rw (one.is_kind) refl } in
    free-permitted cells (hide flags extra) extras (length-set flags extra true ∙ each) (All-tail (λ e. IsOfKind cells e Free) extra extras free)
    (permitted_more cells flags extra inside may is)

primary-at : (cells : List Cell) (number : ℕ) (cell : Cell) → slice_get cells number ≡ Some cell → cell.kind ≡ Primary → is_primary_at cells number ≡ true
primary-at cells number cell at primary =
    ap (λ (o : Option Cell). option_map_or (λ (one : Cell). is_primary one.kind) o false) at ∙ ap is_primary primary

-- A hidden set protects the primary cells of settled inputs, and with extra cells it guards them, by who alone makes up
-- which cell: what a guarded release and an accepted one have in common.
pub record IsGuardedSet (settled : SettledInputs) (system : System) (cells : List Cell) (soles : List (Option ℕ)) (first : List Bool) (extra : Extra) : Type 0 where
  pub of : IsOf settled system cells
  pub book : BookView
  pub book_is : IsBookOf settled.inputs book
  pub each_named : length soles ≡ length (cells_in book)
  pub are_soles : AreSoles book settled.inputs.records.rows soles
  pub each_flag : length first ≡ length cells
  pub protecting : IsProtecting system cells first
  pub guarding : IsGuarding (protected_case system cells) soles first extra

-- against a contributor that doesn't know a primary cell it protects that cell
pub by-alone : (settled : SettledInputs) (system : System) (cells : List Cell) (soles : List (Option ℕ)) (first : List Bool) (extra : Extra) → IsGuardedSet settled system cells soles first extra → (row number : ℕ) (cell : Cell) (side : Side)
    → slice_get cells number ≡ Some cell → cell.kind ≡ Primary → is_known soles row number ≡ false → (b : Bool) → list_any (is_sole row) soles ≡ b → Protects system cells (without_known soles row (hide_cells first extra.cells)) number side
by-alone settled system cells soles first extra is row number cell side at primary unknown true makes =
    let attack : Attack = record { row = row; cell = number; side = side } in
    let on : IsAttack cells soles attack =
    ap (λ b. b && (not (is_known soles row number) && list_any (is_sole row) soles)) (primary-at cells number cell at primary)
    ∙ ap (λ b. not b && list_any (is_sole row) soles) unknown ∙ makes in
    guards_each (protected_case system cells) soles (hide_cells first extra.cells) is.guarding.guards_all attack on
by-alone settled system cells soles first extra is row number cell side at primary unknown false none =
    let larger = hide_cells first extra.cells in
    let all : IsWithin larger (without_known soles row larger) = record {
      hides = λ k hidden. left_says soles row larger k ∙ ap (λ b. b && not (is_known soles row k)) hidden ∙ ap not (knows-none soles row k none);
    } in
    protects_more system cells larger (without_known soles row larger) number side all
    (protects_more system cells first larger number side (within_cells first extra.cells) (is.protecting.protects number cell side at primary))

-- ---- extra cells

or-true : (b : Bool) → (b || true) ≡ true
or-true true = refl
or-true false = refl

or-both : (a b c : Bool) → ((a || b) || c) ≡ (a || (b || c))
or-both true b c = refl
or-both false b c = refl

hidden-among : (flags : List Bool) (cells : List ℕ) (k : ℕ) → k < length flags → is_hidden (hide_cells flags cells) k ≡ (is_hidden flags k || list_any (λ one. one == k) cells)
hidden-among flags [] k inside = sym (or_false (is_hidden flags k))
  where
    or_false : (b : Bool) → (b || false) ≡ b
    or_false true = refl
    or_false false = refl
hidden-among flags (cell ∷ cells) k inside =
    hidden-among (hide flags cell) cells k (omega (arith, inside, length-set flags cell true))
    ∙ ap (λ b. b || list_any (λ one. one == k) cells) here
    ∙ or-both (is_hidden flags k) (cell == k) (list_any (λ one. one == k) cells)
  where
    here : is_hidden (hide flags cell) k ≡ (is_hidden flags k || (cell == k))
    here = elim (same_or_other k cell) [
      | inl same ↦
          let test : (cell == k) ≡ true = (Decides-eqb cell k).1 (sym same) in
          subst (λ m. is_hidden (hide flags m) k ≡ true) same (hidden_here flags k inside) ∙ sym (ap (λ b. is_hidden flags k || b) test ∙ or-true (is_hidden flags k))
      | inr other ↦
          let test : (cell == k) ≡ false = grind (arith, nat_tests, other) in
          hidden_other flags cell k other ∙ sym (ap (λ b. is_hidden flags k || b) test ∙ nothing (is_hidden flags k))
    ]
      where
        nothing : (b : Bool) → (b || false) ≡ b
        nothing true = refl
        nothing false = refl

-- a number that is the same as one of a list stands in it
listed-at : (all : List ℕ) (number : ℕ) → list_any (λ one. one == number) all ≡ true → (at : ℕ) × (slice_get all at ≡ Some number)
listed-at [] number is = absurd cc
listed-at (one ∷ all) number is =
    elim (one == number) as (λ b. (one == number) ≡ b → (b || list_any (λ o. o == number) all) ≡ true → (at : ℕ) × (slice_get (one ∷ all) at ≡ Some number)) [
      | true ↦ λ same any. (0, ap Some ((Decides-eqb one number).0 same))
      | false ↦ λ other any. (let rest = listed-at all number any in (suc rest.0, rest.1))
    ] refl is

-- a cell that is hidden only with the extra cells is one of them
among-extras : (first : List Bool) (extras : List ℕ) (number : ℕ) → number < length first → is_hidden (hide_cells first extras) number ≡ true → is_hidden first number ≡ false → (at : ℕ) × (slice_get extras at ≡ Some number)
among-extras first extras number inside hidden shown =
    listed-at extras number (ap (λ (b : Bool). b || list_any (λ one. one == number) extras) (sym shown) ∙ sym (hidden-among first extras number inside) ∙ hidden)

inside-flags : (flags : List Bool) (number : ℕ) → is_hidden flags number ≡ true → number < length flags
inside-flags [] number is = absurd cc
inside-flags (flag ∷ flags) zero is = omega arith
inside-flags (flag ∷ flags) (suc number) is = let more = inside-flags flags number is in omega (arith, more)

-- without an extra cell the set doesn't guard
extra-needed : (settled : SettledInputs) (system : System) (cells : List Cell) (soles : List (Option ℕ)) (first : List Bool) (extra : Extra) → IsGuardedSet settled system cells soles first extra → (number : ℕ)
    → is_hidden (hide_cells first extra.cells) number ≡ true → is_hidden first number ≡ false → ¬ GuardsEachCell settled (without (hide_cells first extra.cells) number)
extra-needed settled system cells soles first extra is number hidden shown guards =
    let inputs : Inputs = settled.inputs in
    let larger : List Bool = hide_cells first extra.cells in
    let inside : number < length first = let k = inside-flags larger number hidden in omega (arith, k, length-hide_cells first extra.cells) in
    let listed = among-extras first extra.cells number inside hidden shown in
    let found = viewed-at (λ (need : ExtraNeed). need.subject) extra.needs listed.0 number (ap (λ (all : List ℕ). slice_get all listed.0) is.guarding.each_needed ∙ listed.1) in
    let need : IsExtraNeed (protected_case system cells) soles larger found.0 = All-found (IsExtraNeed (protected_case system cells) soles larger) extra.needs listed.0 found.0 is.guarding.are_needs found.1 in
    let attack : Attack = attack_of found.0 in
    let says : AttackSays cells soles attack = attack_says cells soles attack need.on in
    let at = settled-at settled system cells attack.cell says.primary.cell is.of says.primary.found in
    let unknown : knows_cell inputs attack.row attack.cell ≡ false = sym (known-same inputs is.book soles attack.row attack.cell is.book_is is.each_named is.are_soles) ∙ says.unknown in
    let asked : attack.cell < system.cells = omega (arith, is.of.one_each, slice_get_within cells attack.cell says.primary.cell says.primary.found) in
    let left : List Bool = without larger found.0.subject in
    let open_ : StaysOpen settled (unknown_to inputs attack.row left) attack.cell (view_of_cell says.primary.cell) attack.side =
    subst (λ (n : ℕ). GuardsEachCell settled (without larger n)) (sym found.2) guards attack.row attack.cell (view_of_cell says.primary.cell) attack.side (record { found = at; kind = says.primary.is_kind }) unknown in
    let protects : Protects system cells (without_known soles attack.row left) attack.cell attack.side =
    subst (λ (flags : List Bool). Protects system cells flags attack.cell attack.side) (sym (unknown-same inputs is.book soles attack.row left is.book_is is.each_named is.are_soles))
    (open-protects settled system cells (unknown_to inputs attack.row left) attack.cell (view_of_cell says.primary.cell) attack.side is.of at open_) in
    no_world system cells (without_known soles attack.row left) attack.cell attack.side found.0.multipliers is.of.one_each asked need.refutes protects

-- ---- tables

-- against each contributor that doesn't know it a sensitive cell stays open
each-guarded : (settled : SettledInputs) (system : System) (cells : List Cell) (soles : List (Option ℕ)) (first : List Bool) (extra : Extra) → IsGuardedSet settled system cells soles first extra → GuardsEachCell settled (hide_cells first extra.cells)
each-guarded settled system cells soles first extra is row number one side sensitive unknown =
    let inputs : Inputs = settled.inputs in
    let larger : List Bool = hide_cells first extra.cells in
    let at = cell-at settled system cells number one is.of sensitive.found in
    let kind = ap (λ (c : SettledCell). c.kind) at.view ∙ sensitive.kind in
    let known = known-same inputs is.book soles row number is.book_is is.each_named is.are_soles ∙ unknown in
    stays-open settled system cells (unknown_to inputs row larger) number one side is.of sensitive.found
    (subst (λ (flags : List Bool). Protects system cells flags number side) (unknown-same inputs is.book soles row larger is.book_is is.each_named is.are_soles)
    (by-alone settled system cells soles first extra is row number at.cell side at.found kind known (list_any (is_sole row) soles) refl))

-- tables that hide a guarded set, each cell of whose core is needed
pub guarded-set : (settled : SettledInputs) (system : System) (cells : List Cell) (soles : List (Option ℕ)) (first : List Bool) (extra : Extra) (tables : Files) → IsGuardedSet settled system cells soles first extra
    → TablesShow settled.inputs (shown_in settled.inputs (hide_cells first extra.cells)) tables → NeedsEachCell settled first → GuardedTables settled tables
guarded-set settled system cells soles first extra tables is shown needed =
    let extras : List ℕ = extra.cells in
    let larger : List Bool = hide_cells first extras in
    record {
      hidden = larger;
      tables = record {
        shown = shown;
        permitted = permitted-set settled system cells larger is.of (length-hide_cells first extras ∙ is.each_flag) (free-permitted cells first extras is.each_flag is.guarding.are_free is.protecting.permitted);
        protects = protects-each settled system cells larger is.of (λ number cell side at primary. protects_more system cells first larger number side (within_cells first extras) (is.protecting.protects number cell side at primary));
      };
      guards = each-guarded settled system cells soles first extra is;
      core = first;
      core_within = (within_cells first extras).hides;
      core_permitted = permitted-set settled system cells first is.of is.each_flag is.protecting.permitted;
      core_protects = protects-each settled system cells first is.of is.protecting.protects;
      core_needed = needed;
      extra_needed = λ number hidden shown. extra-needed settled system cells soles first extra is number hidden shown;
    }
