-- What a protection writes is accepted (own).
use Rattle.std.specs.Prelude.{◌≡◌, ℕ, ◌<◌, Bool, false, List, filter, length, map, All, Ok}
use Rattle.std.specs.List.{range_with_len}
use Rattle.sdc_base.specs.HiddenSets.{is_hidden}
use Rattle.certificate.specs.declared.certificate.Certificate.{Certificate}
use Rattle.release_writer.specs.ReadingLaws.{AreTexts}
use Rattle.release_writer.specs.ShownCells.{open_truth}
use Rattle.sdc_base.specs.Trails.{corners_of}
use Rattle.repair.specs.HidingOrder.{protected_case, planned_set}
use Rattle.repair.specs.Verdicts.{IsVerdict}
use Rattle.repair.specs.declared.verdict.Verdict.TheVariants as verdict
use Rattle.worlds.specs.ProtectFaults.{asked_of}
use Rattle.worlds.specs.Protection.{Protection}
use Rattle.cert_check.specs.declared.case.Case.{Case}
use Rattle.cert_check.specs.Acceptance.{IsOfCase}
use Rattle.cert_check.specs.Cases.{IsCase}
use Rattle.cert_check.specs.FirstFault.{acceptance_fault}
use Rattle.cert_check.specs.HiddenSet.{hidden_set}
use Rattle.cert_check.specs.Methods.{rounds_cells}

-- A certificate speaks of a hidden set with its worlds, for a case: it names the set's cells, has the trail's steps,
-- and each world in its order with the primary cell and the side for which it stands.
pub record SpeaksOf (case : Case) (protected : Protection) (c : Certificate) : Type 0 where
  pub of_case : IsOfCase case c
  pub hidden_cells : All (λ number. number < case.system.now.cells) c.hidden
  pub hidden : hidden_set case.system.now.cells c.hidden ≡ protected.hidden.flags
  pub steps : c.steps ≡ case.trail.now.steps
  pub questions : map (λ line. (line.cell, line.side)) c.worlds ≡ asked_of 0 case.cells.now
  pub worlds : map (λ line. line.world) c.worlds ≡ protected.worlds

-- a certificate that speaks of a hidden set that protects from the case's trail on, with its repairs and needs, has no
-- fault with the texts of the set
abbrev pub ProtectedIsAccepted : Type 0
ProtectedIsAccepted =
    (case : Case) (release : List (List ℕ)) (prices : List ℕ) (protected : Protection) (c : Certificate)
    → IsCase case release → rounds_cells case.method ≡ false
    → IsVerdict (protected_case case.system.now case.cells.now) prices
    (planned_set case.cells.now (corners_of case.trail.now.steps)) (verdict.Protected protected c.repairs c.needs)
    → SpeaksOf case protected c
    → AreTexts case.book.now case.decimals (open_truth case.book.now.marks protected.hidden.flags) case.book.now.tables
    case.names.now release
    → acceptance_fault case release c ≡ Ok tt

-- the numbers of the cells of a set, one flag for each cell, give the set
abbrev pub NumbersGiveTheSet : Type 0
NumbersGiveTheSet =
    (flags : List Bool) → hidden_set (length flags) (filter (is_hidden flags) (range_with_len 0 (length flags))) ≡ flags
