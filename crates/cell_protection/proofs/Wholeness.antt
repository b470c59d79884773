-- Protections in whole units.
use Rattle.std.proofs.Common.{◌≡◌, ℕ, Bool, List, [], ◌∷◌, All, pos, sym, subst}
use Rattle.std.proofs.lemmas.List.Elements.{All-nil, All-cons, All-head, All-tail}
use Rattle.sdc_base.specs.Signs.{AreSigns}
use Rattle.sdc_base.specs.declared.method.Method.{Method}
use Rattle.sdc_base.specs.declared.side.Side.{Side}
use Rattle.sdc_base.specs.declared.trail.PlanStep.{PlanStep}
use Rattle.worlds.specs.declared.world.World.{World}
use Rattle.worlds.specs.ProtectFaults.{asked_of}
use Rattle.certificate.specs.declared.certificate.Certificate.{Certificate}
use Rattle.repair.specs.HidingOrder.{Case}
use Rattle.repair.specs.WholeVerdicts.{IsWholeWorld, IsWholeVerdict}
use Rattle.repair.specs.declared.verdict.Verdict.TheVariants as verdict
use Rattle.repair.proofs.Wholeness.{stops_whole, verdict_whole}
use Rattle.cell_protection.specs.Certifying.{world_line, world_lines}
use Rattle.cell_protection.specs.Protections.{IsProtectionOf, planned_from}
use Rattle.cell_protection.specs.WholeProtections.{IsWholeLine, IsWholeProtection}
use Rattle.cell_protection.specs.declared.protection.ProtectionOutcome.{ProtectionOutcome}
use Rattle.cell_protection.specs.declared.protection.ProtectionOutcome.TheVariants as protection

lines-whole : (asked : List (ℕ × Side)) (worlds : List World) → All IsWholeWorld worlds → All IsWholeLine (world_lines asked worlds)
lines-whole [] worlds all = All-nil IsWholeLine
lines-whole (q ∷ more) [] all = All-nil IsWholeLine
lines-whole (q ∷ more) (world ∷ worlds) all =
    All-cons IsWholeLine (world_line q world) (world_lines more worlds) (All-head IsWholeWorld world worlds all)
    (lines-whole more worlds (All-tail IsWholeWorld world worlds all))

-- where the relations have signs a protection is in whole units
pub protection-whole : (c : Case) (prices : List ℕ) (method : Method) (steps : List PlanStep) (limit : ℕ) (one : ProtectionOutcome) (signs : List Bool) → AreSigns c.system.relations signs → IsProtectionOf c prices method steps limit one → IsWholeProtection one
protection-whole c prices method steps limit (protection.Protected protected certificate) signs are is =
    let whole : IsWholeVerdict (verdict.Protected protected certificate.repairs certificate.needs) = verdict_whole c prices (planned_from c steps) signs (verdict.Protected protected certificate.repairs certificate.needs) are is.verdict in
    (whole.1, whole.2, subst (λ (one : Certificate). All IsWholeLine one.worlds) (sym is.certificate_is) (lines-whole (asked_of 0 c.cells) protected.worlds whole.0))
protection-whole c prices method steps limit (protection.Cannot found) signs are is =
    verdict_whole c prices (planned_from c steps) signs (verdict.Cannot found.cell found.side found.multipliers) are is
protection-whole c prices method steps limit (protection.Undecided stopped) signs are is =
    stops_whole c prices (planned_from c steps) signs limit stopped.fault stopped.repairs stopped.shown are is
