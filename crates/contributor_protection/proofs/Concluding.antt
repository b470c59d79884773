-- What guarding comes to, from what the questions came to.
use Rattle.std.proofs.Common.{◌≡◌, ℕ, Bool, List, [], ◌∷◌, length, IfOk, Option, Result, Ok, Err, refl, ap, sym, subst, ◌∙◌}
use Rattle.sdc_base.specs.declared.rows.Row.{Row}
use Rattle.sdc_base.specs.declared.side.Side.{Side}
use Rattle.linked_tables.specs.BookCells.{cells}
use Rattle.linked_tables.specs.BookViews.{BookView}
use Rattle.interval_audit.specs.declared.answer.AskFault.{AskFault}
use Rattle.interval_audit.specs.WalkLimits.{HasNoWalk}
use Rattle.worlds.specs.Protection.{Protection as HiddenSet}
use Rattle.worlds.specs.ProtectFaults.{asked_of}
use Rattle.worlds.specs.declared.world.World.{World}
use Rattle.repair.specs.HidingOrder.{Case}
use Rattle.certificate.specs.declared.certificate.Certificate.{Certificate}
use Rattle.certificate.specs.declared.certificate.WorldLine.{WorldLine}
use Rattle.attackers.specs.Alone.{AreSoles}
use Rattle.attackers.specs.AttackOrder.{attacks_of}
use Rattle.attackers.specs.ExtraFaults.{extra_fault}
use Rattle.attackers.specs.Guarding.{IsGuarded, lines_of}
use Rattle.attackers.specs.GuardStops.{StopsFor, IsStopAsTold}
use Rattle.attackers.specs.Laws.{CanBeSaid}
use Rattle.attackers.specs.Turns.{IsLeftOfTurns}
use Rattle.attackers.specs.WholeGuards.{IsWholeAgainst, IsWholeGuarded, IsWholeGuardStop}
use Rattle.attackers.specs.declared.extra.Against.{Against}
use Rattle.attackers.specs.declared.extra.Guarded.{Guarded}
use Rattle.attackers.specs.declared.extra.GuardStop.{GuardStop}
use Rattle.attackers.proofs.Saying.{have_text}
use Rattle.cell_protection.specs.Certifying.{world_lines, world_line}
use Rattle.contributor_protection.specs.Guards.{IsCertified, ComesToGuard, IsGuardOf, HasExtraText}
use Rattle.contributor_protection.specs.GuardParts.{IsMadeOf, IsStopOf}
use Rattle.contributor_protection.specs.WholeOutcomes.{IsWholeOutcome}
use Rattle.contributor_protection.specs.declared.guarding.GuardedCells.{GuardedCells}
use Rattle.contributor_protection.specs.declared.guarding.GuardFailure.{GuardFailure}
use Rattle.contributor_protection.specs.declared.guarding.GuardFailure.TheVariants as guard_failure

-- the worlds of a protection as lines are those of its certificate
lines-same : (asked : List (ℕ × Side)) (worlds : List World) → lines_of asked worlds ≡ world_lines asked worlds
lines-same [] worlds = refl
lines-same (one ∷ more) [] = refl
lines-same (one ∷ more) (world ∷ worlds) = ap (λ (lines : List WorldLine). world_line one world ∷ lines) (lines-same more worlds)

certificate-lines : (c : Case) (protected : HiddenSet) (certificate : Certificate) → IsCertified c protected certificate → lines_of (asked_of 0 c.cells) protected.worlds ≡ certificate.worlds
certificate-lines c protected certificate is =
    lines-same (asked_of 0 c.cells) protected.worlds ∙ sym (ap (λ (one : Certificate). one.worlds) is.protects.certificate_is)

-- an answer is what guarding comes to
pub answer-comes : (c : Case) (prices : List ℕ) (soles : List (Option ℕ)) (limit : ℕ) (protected : HiddenSet) (certificate : Certificate) (answer : Guarded) (outcome : Result GuardedCells GuardFailure)
    → IsCertified c protected certificate → IsGuarded c soles protected.hidden.flags protected.worlds answer
    → IsLeftOfTurns c soles prices (attacks_of c.cells soles) protected.hidden.flags answer → IsMadeOf certificate protected.hidden.flags answer outcome
    → ComesToGuard c prices soles limit protected certificate outcome
answer-comes c prices soles limit protected certificate answer (Ok made) certified guarded turns is =
    let guards = subst (IsGuarded c soles protected.hidden.flags protected.worlds) is.0 guarded in
    record {
      guarding = guards;
      turns = subst (IsLeftOfTurns c soles prices (attacks_of c.cells soles) protected.hidden.flags) is.0 turns;
      accepted = ap (λ (lines : List WorldLine). extra_fault c soles protected.hidden.flags lines made.extra) (sym (certificate-lines c protected certificate certified)) ∙ guards.accepted;
      flags_are = is.2;
      certificate_is = is.1;
    }
answer-comes c prices soles limit protected certificate answer (Err (guard_failure.CannotAgainst found)) certified guarded turns is =
    subst (IsGuarded c soles protected.hidden.flags protected.worlds) is guarded
answer-comes c prices soles limit protected certificate answer (Err (guard_failure.Undecided stopped against)) certified guarded turns is = absurd is
answer-comes c prices soles limit protected certificate answer (Err guard_failure.Memory) certified guarded turns is = tt

-- and so is a stop
pub stop-comes : (c : Case) (prices : List ℕ) (soles : List (Option ℕ)) (limit : ℕ) (protected : HiddenSet) (certificate : Certificate) (stop : GuardStop) (why : GuardFailure)
    → IsStopAsTold c soles prices (attacks_of c.cells soles) protected.hidden.flags limit stop → IsStopOf c certificate protected.hidden.flags stop why
    → ComesToGuard c prices soles limit protected certificate (Err why)
stop-comes c prices soles limit protected certificate stop (guard_failure.CannotAgainst found) stops is = absurd is
stop-comes c prices soles limit protected certificate stop (guard_failure.Undecided stopped against) stops is =
    let Stops : AskFault → Against → Type 0 = λ fault other. StopsFor c soles prices (attacks_of c.cells soles) protected.hidden.flags limit fault other.row other.extras other.dropped in
    record {
      repairs_are = is.2;
      shown_are = is.3;
      stops = subst (λ (fault : AskFault). Stops fault against) (sym is.0) (subst (λ (other : Against). Stops stop.fault other) (sym is.1) stops);
    }
stop-comes c prices soles limit protected certificate stop guard_failure.Memory stops is = tt

-- with the contributors it is what guarding against those of the records comes to
pub guard-of : (book : BookView) (rows : List Row) (c : Case) (prices : List ℕ) (limit : ℕ) (protected : HiddenSet) (certificate : Certificate) (soles : List (Option ℕ)) (outcome : Result GuardedCells GuardFailure)
    → length soles ≡ length c.cells → length soles ≡ length (cells book) → AreSoles book rows soles → ComesToGuard c prices soles limit protected certificate outcome → IsGuardOf book rows c prices limit protected certificate outcome
guard-of book rows c prices limit protected certificate soles (Ok guarded) each named are comes = record { soles = soles; one_each = each; each_named = named; are_soles = are; comes_to = comes }
guard-of book rows c prices limit protected certificate soles (Err (guard_failure.CannotAgainst found)) each named are comes = record { soles = soles; one_each = each; each_named = named; are_soles = are; comes_to = comes }
guard-of book rows c prices limit protected certificate soles (Err (guard_failure.Undecided stopped against)) each named are comes = record { soles = soles; one_each = each; each_named = named; are_soles = are; comes_to = comes }
guard-of book rows c prices limit protected certificate soles (Err guard_failure.Memory) each named are comes = tt

-- the extra cells of a guarded set have a text
pub has-text : (c : Case) (prices : List ℕ) (soles : List (Option ℕ)) (limit : ℕ) (protected : HiddenSet) (certificate : Certificate) (outcome : Result GuardedCells GuardFailure)
    → length c.cells ≡ c.system.cells → CanBeSaid soles → ComesToGuard c prices soles limit protected certificate outcome → IfOk outcome HasExtraText
has-text c prices soles limit protected certificate (Ok guarded) each said comes =
    have_text c soles protected.hidden.flags certificate.worlds guarded.extra each said comes.accepted
has-text c prices soles limit protected certificate (Err why) each said comes = tt

-- what comes of an answer in whole units is in whole units
pub answer-whole : (certificate : Certificate) (flags : List Bool) (answer : Guarded) (outcome : Result GuardedCells GuardFailure)
    → IsWholeGuarded answer → IsMadeOf certificate flags answer outcome → IsWholeOutcome outcome
answer-whole certificate flags answer (Ok made) whole is = subst IsWholeGuarded is.0 whole
answer-whole certificate flags answer (Err (guard_failure.CannotAgainst found)) whole is = subst IsWholeGuarded is whole
answer-whole certificate flags answer (Err (guard_failure.Undecided stopped against)) whole is = absurd is
answer-whole certificate flags answer (Err guard_failure.Memory) whole is = tt

-- and so is what comes of a stop
pub stop-whole : (c : Case) (certificate : Certificate) (flags : List Bool) (stop : GuardStop) (why : GuardFailure)
    → IsWholeGuardStop stop → IsStopOf c certificate flags stop why → IsWholeOutcome (Err why)
stop-whole c certificate flags stop (guard_failure.CannotAgainst found) whole is = absurd is
stop-whole c certificate flags stop (guard_failure.Undecided stopped against) whole is = (
  subst HasNoWalk (sym is.0) whole.0,
  subst IsWholeAgainst (sym is.1) whole.1,
)
stop-whole c certificate flags stop guard_failure.Memory whole is = tt
