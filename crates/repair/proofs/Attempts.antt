-- Sets with a cell shown.
use Rattle.std.proofs.Common.{◌≡◌, ◌∙◌, inl, inr, ℕ, Bool, true, false, List, length-set, slice_get, Some, ap, sym, subst}
use Rattle.std.proofs.lemmas.List.{get_or-set_other}
use Rattle.sdc_base.specs.Kinds.{is_free}
use Rattle.sdc_base.specs.HiddenSets.{show}
use Rattle.sdc_base.specs.declared.cell.Cell.{Cell}
use Rattle.sdc_base.specs.declared.cell.Kind.TheVariants.{Free}
use Rattle.worlds.specs.declared.world.World.{World}
use Rattle.repair.specs.HidingOrder.{Case, IsOfKind}
use Rattle.repair.specs.Attempts.{IsTriedSet}
use Rattle.repair.proofs.Flags.{one_cell, same_or_other}

-- a cell of another kind is another cell than a free one
other_there : {P : Type 0} (cells : List Cell) (cell k : ℕ) (one : Cell) → IsOfKind cells cell Free → slice_get cells k ≡ Some one → is_free one.kind ≡ false → k ≡ cell → P
other_there cells cell k one free found other same =
    let here : slice_get cells cell ≡ Some one = subst (λ n. slice_get cells n ≡ Some one) same found in
    let alike : one ≡ free.cell = one_cell cells cell one free.cell here free.found in
    absurd (let bad : true ≡ false = sym (ap is_free free.is_kind) ∙ ap (λ (c : Cell). is_free c.kind) (sym alike) ∙ other in cc)

-- a set with which a cell may be tried stays one where a free cell is shown
pub tried_less : (c : Case) (flags : List Bool) (worlds : List World) (cell : ℕ) → IsOfKind c.cells cell Free → IsTriedSet c flags worlds → IsTriedSet c (show flags cell) worlds
tried_less c flags worlds cell free set = record {
  each = length-set flags cell false ∙ set.each;
  permitted = record {
    primary_hidden = λ k one found primary. elim (same_or_other k cell) [
      | inl same ↦ other_there c.cells cell k one free found (ap is_free primary) same
      | inr other ↦ get_or-set_other flags cell k false false other ∙ set.permitted.primary_hidden k one found primary
    ];
    fixed_shown = λ k one found fixed. elim (same_or_other k cell) [
      | inl same ↦ other_there c.cells cell k one free found (ap is_free fixed) same
      | inr other ↦ get_or-set_other flags cell k false false other ∙ set.permitted.fixed_shown k one found fixed
    ];
  };
  kept = set.kept;
}
