-- What planning and protecting come to, from what the plan and the protection say.
use Rattle.std.proofs.Common.{Result, Ok, Err, IfOk, ◌≡◌, ℕ, List, [], ◌∷◌, map, All, arith, refl, ap, ap₂, sym, ◌∙◌, subst}
use Rattle.std.specs.List.{AllByRecursion}
use Rattle.std.proofs.lemmas.Int.{ints}
use Rattle.std.proofs.lemmas.List.Elements.{All-weaker}
use Rattle.apriori.specs.CellLevels.{HasLevelsInRange}
use Rattle.sdc_base.specs.declared.cell.Cell.{Cell}
use Rattle.sdc_base.specs.declared.system.System.{System}
use Rattle.sdc_base.specs.declared.trail.PlanStep.{PlanStep}
use Rattle.sdc_base.specs.declared.method.Method.{Method}
use Rattle.cost_rule.specs.Costs.{price_of}
use Rattle.cost_rule.specs.declared.kind.CostKind.{CostKind}
use Rattle.linked_tables.specs.BookCells.{IsBook}
use Rattle.linked_tables.specs.BookViews.{BookView}
use Rattle.linked_tables.specs.declared.mark.Mark.{Mark}
use Rattle.modular_plan.specs.Plans.{trail_of}
use Rattle.modular_plan.specs.StepLaws.{IsWholeStep}
use Rattle.modular_plan.proofs.WholeSteps.{steps_are_whole}
use Rattle.sdc_base.specs.Trails.{corners_of}
use Rattle.repair.specs.HidingOrder.{Case, protected_case, hide_subjects, planned_set, prices_of}
use Rattle.repair.specs.KeptWorlds.{HasModestLevels}
use Rattle.repair.specs.Stops.{StopsFor}
use Rattle.repair.specs.Verdicts.{IsVerdict}
use Rattle.repair.specs.declared.stopped.Stopped.{Stopped}
use Rattle.repair.specs.declared.verdict.Verdict.{Verdict}
use Rattle.repair.specs.declared.verdict.Verdict.TheVariants as verdict
use Rattle.cell_protection.specs.Protections.{AreNarrow, HasText, IsProtectionOf, planned_from, protection_by}
use Rattle.modular_plan.specs.Methods.{passes_of}
use Rattle.cell_protection.proofs.Spellable.{spellable}

-- prices are told by the facts of marks alone
pub same-prices : (cost : CostKind) (cells : List Cell) (old new : List Mark) → map (λ mark. mark.facts) new ≡ map (λ mark. mark.facts) old → prices_of cost cells new ≡ prices_of cost cells old
same-prices cost [] old new same = refl
same-prices cost (cell ∷ cells) [] [] same = refl
same-prices cost (cell ∷ cells) [] (mark ∷ new) same = cc
same-prices cost (cell ∷ cells) (mark ∷ old) [] same = cc
same-prices cost (cell ∷ cells) (mark ∷ old) (other ∷ new) same =
    let here : other.facts ≡ mark.facts = cc in
    let rest : map (λ one. one.facts) new ≡ map (λ one. one.facts) old = cc in
    ap₂ (λ (price : ℕ) (prices : List ℕ). price ∷ prices) (ap (price_of cost cell.price) here) (same-prices cost cells old new rest)

-- a verdict with the certificate of its set is what protecting comes to
pub outcome-by : (c : Case) (prices : List ℕ) (method : Method) (steps : List PlanStep) (limit : ℕ) (one : Verdict) → IsVerdict c prices (planned_from c steps) one → IsProtectionOf c prices method steps limit (protection_by method c steps one)
outcome-by c prices method steps limit (verdict.Protected protected repairs needs) is = record { verdict = is; certificate_is = refl }
outcome-by c prices method steps limit (verdict.Cannot cell side multipliers) is = is

-- that certificate has a text
pub text-by : (book : BookView) (system : System) (cells : List Cell) (prices : List ℕ) (method : Method) (cost : CostKind) (steps : List PlanStep) (one : Verdict) → AreNarrow book.tables → IsBook book → steps ≡ trail_of book cells cost (passes_of method)
    → IsVerdict (protected_case system cells) prices (planned_from (protected_case system cells) steps) one → HasText (protection_by method (protected_case system cells) steps one)
text-by book system cells prices method cost steps (verdict.Protected protected repairs needs) narrow is_book made is =
    let whole : AllByRecursion (IsWholeStep book cells) steps = subst (λ (all : List PlanStep). AllByRecursion (IsWholeStep book cells) all) (sym made) (steps_are_whole book cells cost (passes_of method) is_book) in
    spellable book method system cells prices (planned_from (protected_case system cells) steps) (hide_subjects (planned_from (protected_case system cells) steps) repairs) protected steps repairs needs narrow.at_most_8_tables narrow.each whole is.0 is.1
text-by book system cells prices method cost steps (verdict.Cannot cell side multipliers) narrow is_book made is = tt

-- the prices are those before the plan marked any cell
moved-prices : (cells : List Cell) (cost : CostKind) (old new marks : List Mark) → marks ≡ new → map (λ mark. mark.facts) new ≡ map (λ mark. mark.facts) old → prices_of cost cells marks ≡ prices_of cost cells old
moved-prices cells cost old new marks are facts = ap (λ (ms : List Mark). prices_of cost cells ms) are ∙ same-prices cost cells old new facts

pub outcome-moves : (system : System) (cells : List Cell) (cost : CostKind) (book : BookView) (new marks : List Mark) (method : Method) (limit : ℕ) (steps : List PlanStep) (one : Verdict) → marks ≡ new → map (λ mark. mark.facts) new ≡ map (λ mark. mark.facts) book.marks
    → steps ≡ trail_of book cells cost (passes_of method) → IsVerdict (protected_case system cells) (prices_of cost cells marks) (planned_set cells (corners_of steps)) one
    → IsProtectionOf (protected_case system cells) (prices_of cost cells book.marks) method (trail_of book cells cost (passes_of method)) limit (protection_by method (protected_case system cells) steps one)
outcome-moves system cells cost book new marks method limit steps one are facts made is =
    let prices = prices_of cost cells book.marks in
    subst (λ (all : List PlanStep). IsProtectionOf (protected_case system cells) prices method all limit (protection_by method (protected_case system cells) steps one)) made
    (outcome-by (protected_case system cells) prices method steps limit one
    (subst (λ (all : List ℕ). IsVerdict (protected_case system cells) all (planned_set cells (corners_of steps)) one) (moved-prices cells cost book.marks new marks are facts) is))

pub stop-moves : (system : System) (cells : List Cell) (cost : CostKind) (book : BookView) (new marks : List Mark) (method : Method) (limit : ℕ) (steps : List PlanStep) (stopped : Stopped) → marks ≡ new → map (λ mark. mark.facts) new ≡ map (λ mark. mark.facts) book.marks
    → steps ≡ trail_of book cells cost (passes_of method) → StopsFor (protected_case system cells) (prices_of cost cells marks) (planned_set cells (corners_of steps)) limit stopped.fault stopped.repairs stopped.shown
    → StopsFor (protected_case system cells) (prices_of cost cells book.marks) (planned_set cells (corners_of (trail_of book cells cost (passes_of method)))) limit stopped.fault stopped.repairs stopped.shown
stop-moves system cells cost book new marks method limit steps stopped are facts made is =
    subst (λ (prices : List ℕ). StopsFor (protected_case system cells) prices (planned_set cells (corners_of (trail_of book cells cost (passes_of method)))) limit stopped.fault stopped.repairs stopped.shown) (moved-prices cells cost book.marks new marks are facts)
    (subst (λ (all : List PlanStep). StopsFor (protected_case system cells) (prices_of cost cells marks) (planned_set cells (corners_of all)) limit stopped.fault stopped.repairs stopped.shown) made is)

-- levels within the limits of a job are modest
pub modest-levels : (cells : List Cell) → All HasLevelsInRange cells → All HasModestLevels cells
modest-levels cells all = All-weaker HasLevelsInRange HasModestLevels (λ cell own. record { up = omega (arith, ints, own.up); down = omega (arith, ints, own.down) }) cells all

-- what holds of a result, where something else of it does
pub if-ok : {T E : Type 0} (P Q : T → Type 0) (r : Result T E) → ((x : T) → P x → Q x) → IfOk r P → IfOk r Q
if-ok P Q (Ok x) more is = more x is
if-ok P Q (Err e) more is = is
