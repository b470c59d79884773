-- What an accepted certificate shows of its release (handbook, feasibility interval; linear duality; controlled
-- rounding; own).
use Rattle.std.specs.Prelude.{◌≡◌, ℕ, Bool, List, [], ◌∷◌, length, map, slice_get, All, ℤ, ◌≤ℤ◌, ◌*ℤ◌}
use Rattle.sdc_base.specs.declared.cell.Cell.{Cell}
use Rattle.sdc_base.specs.declared.cell.Kind.TheVariants.{Primary}
use Rattle.sdc_base.specs.declared.side.Side.{Side}
use Rattle.sdc_base.specs.declared.system.System.{System}
use Rattle.sdc_base.specs.Roundings.{IsRounding}
use Rattle.sdc_base.specs.Worlds.{level_at, amount_toward}
use Rattle.worlds.specs.declared.refuted.Refuted.{Refuted}
use Rattle.worlds.specs.NumberLists.{terms_of, number_given}
use Rattle.worlds.specs.WorldFaults.{IsGivenWorld}
use Rattle.worlds.specs.ProtectFaults.{asked_of, IsProtecting}
use Rattle.worlds.specs.RefutationFaults.{IsGivenRefutation}
use Rattle.certificate.specs.declared.certificate.Certificate.{Certificate}
use Rattle.certificate.specs.declared.certificate.WorldLine.{WorldLine}
use Rattle.release_writer.specs.ReadingLaws.{AreTexts, IsReleased}
use Rattle.release_writer.specs.ShownCells.{open_truth}
use Rattle.sdc_base.specs.Trails.{corners_of}
use Rattle.repair.specs.HidingOrder.{protected_case, IsOfKind, planned_set, IsSubset}
use Rattle.sdc_base.specs.HiddenSets.{show}
use Rattle.repair.specs.Repairs.{IsJustified, EachRepair}
use Rattle.repair.specs.Needs.{others_hidden}
use Rattle.cert_check.specs.declared.case.Case.{Case}
use Rattle.cert_check.specs.HiddenSet.{hidden_set}
use Rattle.cert_check.specs.Methods.{ListsNothing}
use Rattle.cert_check.specs.FirstFault.{open_set}

-- The method and the counts of a certificate are the case's.
pub record IsOfCase (case : Case) (c : Certificate) : Type 0 where
  pub same_method : c.method ≡ case.method
  pub same_cells : c.cells ≡ case.system.now.cells
  pub same_relations : c.relations ≡ length case.system.now.relations

-- A line is a world for a cell and a side: it is for them, its world is one for the hidden set, and it takes the cell
-- at least its level to that side.
pub record IsWorldFor (system : System) (cells : List Cell) (flags : List Bool) (asked : ℕ × Side)
    (line : WorldLine) : Type 0 where
  pub of_cell : line.cell ≡ asked.0
  pub of_side : line.side ≡ asked.1
  pub is_world : IsGivenWorld system cells flags line.world
  pub reaches : (line.world.den *ℤ level_at cells asked.1 asked.0)
      ≤ℤ amount_toward asked.1 (number_given (terms_of line.world.moves) asked.0)

-- each that is asked has its line, in order
abbrev pub EachWorld : System → List Cell → List Bool → List (ℕ × Side) → List WorldLine → Type 0
EachWorld system cells flags [] [] = Unit {0}
EachWorld system cells flags [] (line ∷ lines) = ⊥
EachWorld system cells flags (asked ∷ rest) [] = ⊥
EachWorld system cells flags (asked ∷ rest) (line ∷ lines) = IsWorldFor system cells flags asked line
    × EachWorld system cells flags rest lines

-- A need shows that its subject must stay hidden: its cell is primary, and its multipliers refute the cell's level for
-- the hidden set without the subject.
pub record IsNeeded (system : System) (cells : List Cell) (flags : List Bool) (need : Refuted) : Type 0 where
  pub cell_primary : IsOfKind cells need.cell Primary
  pub refutes : IsGivenRefutation system cells (show flags need.subject) need.cell need.side need.multipliers

-- What a certificate shows of a suppressed release, with its hidden set.
pub record IsShown (case : Case) (release : List (List ℕ)) (c : Certificate) (flags : List Bool) : Type 0 where
  -- the set is permitted, and protects every primary cell to both sides
  pub protecting : IsProtecting case.system.now case.cells.now flags
  -- as two worlds for each primary cell show
  pub worlds : EachWorld case.system.now case.cells.now flags (asked_of 0 case.cells.now) c.worlds
  -- each table has the text of the set
  pub tables : AreTexts case.book.now case.decimals (open_truth case.book.now.marks flags) case.book.now.tables
      case.names.now release
  -- the steps are those of the trail
  pub steps : c.steps ≡ case.trail.now.steps
  -- each repair is justified
  pub repairs : EachRepair (IsJustified (protected_case case.system.now case.cells.now))
      (planned_set case.cells.now (corners_of case.trail.now.steps)) c.repairs
  -- each hidden cell is primary, a corner of the trail, or the subject of a repair
  pub within : IsSubset flags (open_set case c)
  -- each hidden cell that isn't primary is needed
  pub subjects : map (λ need. need.subject) c.needs ≡ others_hidden flags 0 case.cells.now
  pub needs : All (IsNeeded case.system.now case.cells.now flags) c.needs

-- a certificate shows it, for its own hidden set
abbrev pub IsAccepted : Case → List (List ℕ) → Certificate → Type 0
IsAccepted case release c = IsShown case release c (hidden_set case.system.now.cells c.hidden)

-- What is shown of a rounded release: its tables are the texts of numbers, each from 0 and not too wide, that are a
-- rounding of the truths to the base; and the certificate lists nothing.
pub record IsRoundedRelease (case : Case) (release : List (List ℕ)) (c : Certificate) : Type 0 where
  pub values : List ℤ
  pub released : IsReleased values
  pub tables : AreTexts case.book.now case.decimals (slice_get values) case.book.now.tables case.names.now release
  pub rounding : IsRounding case.system.now (map (λ cell. cell.truth) case.cells.now) case.base values
  pub lists_nothing : ListsNothing c
