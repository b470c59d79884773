-- What is needed to judge extra cells beside an accepted certificate.
use Rattle.std.proofs.Common.{◌≡◌, ℕ, Bool, false, List, [], ◌∷◌, length, All, Option, None, Some, IfSome, refl, ap, subst, ◌∙◌}
use Rattle.std.proofs.lemmas.List.Elements.{All-nil, All-cons}
use Rattle.sdc_base.specs.Patterns.{IsPattern}
use Rattle.sdc_base.specs.declared.cell.Cell.{Cell}
use Rattle.sdc_base.specs.declared.method.Method.{Method}
use Rattle.sdc_base.specs.declared.method.Method.TheVariants as method
use Rattle.sdc_base.specs.declared.side.Side.{Side}
use Rattle.sdc_base.specs.declared.system.System.{System}
use Rattle.certificate.specs.declared.certificate.Certificate.{Certificate}
use Rattle.certificate.specs.declared.certificate.WorldLine.{WorldLine}
use Rattle.certificate.specs.declared.extra.Extra.{Extra}
use Rattle.attackers.proofs.EachAttack.{guards_each}
use Rattle.attackers.specs.ExtraAcceptance.{IsGuarding}
use Rattle.cert_check.proofs.SetLengths.{set_length}
use Rattle.cert_check.specs.Acceptance.{EachWorld, IsAccepted, IsOfCase}
use Rattle.cert_check.specs.Methods.{rounds_cells}
use Rattle.cert_check.specs.OwnTexts.{own_set, own_texts}
use Rattle.cert_check.specs.declared.case.Case.{Case}
use Rattle.job_lang.specs.JobLimits.{CanHaveContributors}
use Rattle.job_lang.specs.declared.job.OutputLine.{OutputLine}
use Rattle.release_writer.specs.ReadingLaws.{AreTexts}
use Rattle.release_writer.specs.ShownCells.{open_truth}
use Rattle.repair.specs.HidingOrder.{protected_case}
use Rattle.worlds.specs.WorldFaults.{IsGivenWorld}
use Rattle.job_check.specs.Contributors.{AreForJob}
use Rattle.job_check.specs.GuardedReleases.{larger_set, IsRightGuarding}

-- the worlds of a certificate are worlds of its hidden set
pub given-worlds : (system : System) (cells : List Cell) (flags : List Bool) (asked : List (ℕ × Side)) (lines : List WorldLine) → EachWorld system cells flags asked lines → All (λ line. IsGivenWorld system cells flags line.world) lines
given-worlds system cells flags [] [] each = All-nil (λ (line : WorldLine). IsGivenWorld system cells flags line.world)
given-worlds system cells flags [] (line ∷ lines) each = absurd each
given-worlds system cells flags (asked ∷ rest) [] each = absurd each
given-worlds system cells flags (asked ∷ rest) (line ∷ lines) each = All-cons (λ (one : WorldLine). IsGivenWorld system cells flags one.world) line lines each.0.is_world (given-worlds system cells flags rest lines each.1)

-- a set of a certificate has a flag for each cell
pub own-ground : (case : Case) (c : Certificate) (flags : List Bool) → length case.cells.now ≡ case.system.now.cells → flags ≡ own_set case c → IsPattern case.system.now case.cells.now flags
own-ground case c flags each same = record { each_cell = each; each_flag = ap length same ∙ set_length case.system.now.cells c.hidden }

-- a job that names a contributors' file doesn't round
pub hides-so : (one : Method) (line : OutputLine) → CanHaveContributors one (Some line) → rounds_cells one ≡ false
hides-so (method.Rnd base) line can = absurd can
hides-so (method.Gh passes) line can = refl
hides-so method.Modular line can = refl

-- so a method by which there are extra cells doesn't
pub hides-where : (one : Method) (line : Option OutputLine) (extra : Option Extra) → CanHaveContributors one line → AreForJob line extra → IfSome extra (λ own. rounds_cells one ≡ false)
hides-where one None None can are = tt
hides-where one None (Some extra) can are = absurd are
hides-where one (Some line) None can are = absurd are
hides-where one (Some line) (Some extra) can are = hides-so one line can

-- ---- what a release with extra cells shows

pub shown-guarding : (case : Case) (soles : List (Option ℕ)) (tables : List (List ℕ)) (c : Certificate) (extra : Extra) (own larger : List Bool) → own ≡ own_set case c → larger ≡ larger_set case c extra → IsOfCase case c → IsAccepted case (own_texts case c) c
    → AreTexts case.book.now case.decimals (open_truth case.book.now.marks larger) case.book.now.tables case.names.now tables → IsGuarding (protected_case case.system.now case.cells.now) soles own extra → IsRightGuarding case soles tables c extra
shown-guarding case soles tables c extra own larger mine same of_case certified texts guarding =
    let held : IsGuarding (protected_case case.system.now case.cells.now) soles (own_set case c) extra = subst (λ (flags : List Bool). IsGuarding (protected_case case.system.now case.cells.now) soles flags extra) mine guarding in
    record {
      of_case = of_case;
      certified = certified;
      shown = subst (λ (flags : List Bool). AreTexts case.book.now case.decimals (open_truth case.book.now.marks flags) case.book.now.tables case.names.now tables) same texts;
      guarding = held;
      guards = guards_each (protected_case case.system.now case.cells.now) soles (larger_set case c extra) held.guards_all;
    }
