-- What a protection comes to (own).
use Rattle.std.specs.Prelude.{◌≡◌, ℕ, Bool, true, false, List, length, map, All}
use Rattle.sdc_base.specs.declared.side.Side.{Side}
use Rattle.sdc_base.specs.HiddenSets.{full_set, IsPermitted}
use Rattle.sdc_base.specs.Worlds.{Protects}
use Rattle.worlds.specs.declared.multipliers.Multipliers.{Multipliers}
use Rattle.worlds.specs.declared.refuted.Refuted.{Refuted}
use Rattle.worlds.specs.declared.world.World.{World}
use Rattle.worlds.specs.Protection.{Protection}
use Rattle.worlds.specs.ProtectFaults.{asked_of, IsProtecting}
use Rattle.repair.specs.KeptWorlds.{AreServed, IsStopped}
use Rattle.worlds.specs.RefutationFaults.{IsGivenRefutation}
use Rattle.repair.specs.declared.progress.Progress.{Progress}
use Rattle.repair.specs.declared.task.Task.{Task}
use Rattle.repair.specs.declared.verdict.Verdict.{Verdict}
use Rattle.repair.specs.declared.verdict.Verdict.TheVariants.{Protected, Cannot}
use Rattle.repair.specs.HidingOrder.{Case, hide_subjects, IsSubset, NoneBreaks, IsFirstUnprotected, ProtectsAll}
use Rattle.repair.specs.OnTheWay.{IsOnWay, AreAnswers}
use Rattle.repair.specs.Repairs.{AreRepairs}
use Rattle.repair.specs.Needs.{others_hidden, IsNeed}
use Rattle.repair.specs.Tasks.{case_of}

-- A cell can't be protected to a side: its question is the first that the full set doesn't protect, since multipliers
-- refute its level for that set; so no permitted set protects it. Justified repairs in their order made a hidden set of
-- the planned one, for which the question stopped with these multipliers, and no cell is left that would break them.
pub record IsCannot (c : Case) (prices : List ℕ) (planned : List Bool) (cell : ℕ) (side : Side)
    (multipliers : Multipliers) : Type 0 where
  pub first : IsFirstUnprotected c (full_set c.cells) (cell, side)
  pub refutes : IsGivenRefutation c.system c.cells (full_set c.cells) cell side multipliers
  pub repairs : List Refuted
  pub are_repairs : AreRepairs c prices planned repairs
  pub stopped : IsStopped c (hide_subjects planned repairs) first.place (cell, side) multipliers
  pub none_breaks : NoneBreaks c (hide_subjects planned repairs) (cell, side) multipliers
  pub none_protects : (flags : List Bool) → length flags ≡ length c.cells → IsPermitted c.cells flags
      → ¬ Protects c.system c.cells flags cell side

-- A hidden set, with a flag for each cell, protects every primary cell, as worlds show that are answers of what is
-- asked, each for a set on the way: it holds primary cells, corners and subjects of repairs alone, and the repairs are
-- justified and in order.
pub record IsProtected (c : Case) (prices : List ℕ) (planned : List Bool) (protected : Protection)
    (repairs : List Refuted) : Type 0 where
  pub of_system : protected.system ≡ c.system
  pub of_cells : protected.cells ≡ c.cells
  pub each_flag : length protected.hidden.flags ≡ length c.cells
  pub protecting : IsProtecting c.system c.cells protected.hidden.flags
  pub served : AreServed c protected.hidden.flags (asked_of 0 c.cells) protected.worlds
  pub answers : AreAnswers c (IsOnWay c planned repairs protected.hidden.flags) (asked_of 0 c.cells) protected.worlds
  pub are_repairs : AreRepairs c prices planned repairs
  pub within : IsSubset protected.hidden.flags (hide_subjects planned repairs)
  pub full_protects : ProtectsAll c (full_set c.cells)

-- Each hidden cell that isn't primary is needed.
pub record AreNeeds (c : Case) (flags larger : List Bool) (needs : List Refuted) : Type 0 where
  pub each_needed : map (λ need. need.subject) needs ≡ others_hidden flags 0 c.cells
  pub are_needs : All (IsNeed c flags larger) needs

-- A hidden set is narrowed to what is needed: its repairs are justified and in order from the planned set, it holds
-- nothing beyond the planned set and their subjects, and each hidden cell that isn't primary is needed.
pub record IsNarrowed (task : Task) (planned : List Bool) (progress : Progress World Refuted) (needs : List Refuted)
    : Type 0 where
  pub are_repairs : AreRepairs (case_of task) task.prices.now planned progress.reasons
  pub within : IsSubset progress.hidden.flags (hide_subjects planned progress.reasons)
  pub are_needs : AreNeeds (case_of task) progress.hidden.flags (hide_subjects planned progress.reasons) needs
  pub answers : AreAnswers (case_of task) (IsOnWay (case_of task) planned progress.reasons progress.hidden.flags)
      (asked_of 0 task.cells.now) progress.tables

-- what a protection that began with this set comes to
abbrev pub IsVerdict : Case → List ℕ → List Bool → Verdict → Type 0
IsVerdict c prices planned (Protected protected repairs needs) = IsProtected c prices planned protected repairs
    × AreNeeds c protected.hidden.flags (hide_subjects planned repairs) needs
IsVerdict c prices planned (Cannot cell side multipliers) = IsCannot c prices planned cell side multipliers

-- whether the verdict is that a cell can't be protected
abbrev pub is_cannot : Verdict → Bool
is_cannot (Protected protected repairs needs) = false
is_cannot (Cannot cell side multipliers) = true
