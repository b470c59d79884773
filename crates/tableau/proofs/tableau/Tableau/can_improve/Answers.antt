use Rattle.std.proofs.Common.{◌≡◌, true, false, IsTrue, subst, refl}
use Rattle.tableau.specs.Tableaus.{TableauWalk}
use Rattle.tableau.specs.Tables.{Table}
use Rattle.tableau.specs.Steps.{CanImprove, IsReached, IsBlocked}
use Rattle.tableau.specs.Walks.{IsTableOf}
use Rattle.tableau.specs.SparseTables.{table_of}
use Rattle.tableau.proofs.WellFormedProblems.{well_formed_keeps, blocked_here, can_improve}
use Rattle.tableau.proofs.tableau.Tableau.can_improve.Goals as goal

pub returns-in-Some-clause-step : goal.returns-in-Some-clause-step
returns-in-Some-clause-step c =
    let i = c.self.inside in
    let t : Table = table_of i.table in
    let is_walk = c.self.invariant.1.is_walk in
    let kept : IsTableOf i.problem t = well_formed_keeps i.problem i.improved t is_walk.well_formed is_walk.steps in
    subst (λ (w : TableauWalk). (IsTrue true → CanImprove w.problem w.table) × (CanImprove w.problem w.table → IsTrue true)) c.self.view_is
    (λ _. can_improve i.problem t c.in-Some.field-0 is_walk.well_formed kept (λ reached. let clash : c.is_reached.result ≡ true = c.is_reached.ensures.1 reached in cc) c.in-Some.ensures.enters, λ _. refl)

pub returns-in-None-clause-neither : goal.returns-in-None-clause-neither
returns-in-None-clause-neither c =
    let i = c.self.inside in
    let t : Table = table_of i.table in
    let is_walk = c.self.invariant.1.is_walk in
    let kept : IsTableOf i.problem t = well_formed_keeps i.problem i.improved t is_walk.well_formed is_walk.steps in
    subst (λ (w : TableauWalk). (IsTrue false → (IsReached w.problem w.table → ⊥) × (IsBlocked w.problem w.table → ⊥)) × ((IsReached w.problem w.table → ⊥) × (IsBlocked w.problem w.table → ⊥) → IsTrue false)) c.self.view_is
    (λ clash. absurd (cc), λ neither. absurd (neither.1 (blocked_here i.problem t is_walk.well_formed kept neither.0 c.in-None.ensures.none)))
