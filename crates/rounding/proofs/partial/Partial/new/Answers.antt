use Rattle.std.proofs.Common.{◌∙◌, ap, sym, refl, subst, FitsSigned}
use Rattle.std.specs.Int.{w128}
use Rattle.std.proofs.lemmas.Int.{to_z-of_z}
use Rattle.rounding.specs.Namings.{IsNaming}
use Rattle.rounding.specs.Tasks.{IsProper}
use Rattle.rounding.specs.Fixes.{FixedCells}
use Rattle.rounding.specs.Choices.{unrounded_cells}
use Rattle.rounding.proofs.PartialSteps.{partial_none}
use Rattle.rounding.proofs.partial.Partial.new.Goals as goal

pub returns-clause-kept : goal.returns-clause-kept
returns-clause-kept c =
    let b = c.in_ok-bounds.bounds in
    let base : FitsSigned w128 c.args.base = c.ranges.base in
    let is = simp to_z-of_z at c.in_ok-bounds.ensures in
    let cells = simp to_z-of_z at c.in_ok-cells.ensures in
    partial_none b c.in_ok-naming.naming.items c.in_ok-cells.cells.items c.new-steps.result.items _ (subst (λ (a : FixedCells). IsProper a.system a.truths a.base) (sym is) c.requires) (ap (λ (a : FixedCells). a.fixes) is)
    (subst (λ (a : FixedCells). IsNaming a.system c.in_ok-naming.naming.items) (sym is) c.in_ok-naming.ensures) (cells ∙ ap (λ (a : FixedCells). unrounded_cells a.base 0 a.truths) (sym is)) c.new-steps.ensures.items refl
