-- What a judgement of a release comes to, as the answer of a check.
use Rattle.std.proofs.Common.{◌≡◌, ◌≢◌, List, ℕ, true, false, Option, None, Some, Result, Ok, Err, refl, ap, sym, subst, ◌∙◌, Bool}
use Rattle.sdc_base.specs.Answers.{Fails, Gives}
use Rattle.sdc_base.specs.Steps.{◌>>=◌, map_fault}
use Rattle.attackers.specs.ExtraFaults.{extra_fault as first_extra_fault, extra_fault_of}
use Rattle.attackers.specs.declared.faults.ExtraFault.{ExtraFault}
use Rattle.attackers.specs.declared.faults.ExtraFault.TheVariants as extra_fault
use Rattle.certificate.specs.declared.certificate.Certificate.{Certificate}
use Rattle.certificate.specs.declared.extra.Extra.{Extra}
use Rattle.office_io.specs.Files.{Files}
use Rattle.office_io.specs.Shelves.{ShelfState}
use Rattle.cert_check.specs.Acceptance.{IsAccepted, IsOfCase, IsRoundedRelease}
use Rattle.cert_check.specs.Cases.{IsCase}
use Rattle.cert_check.specs.FirstFault.{check_fault_of, acceptance_fault}
use Rattle.cert_check.specs.Methods.{rounds_cells}
use Rattle.cert_check.specs.OwnTexts.{own_set, own_texts, release_fault}
use Rattle.cert_check.specs.declared.case.Case.{Case}
use Rattle.cert_check.specs.declared.faults.CheckFault.{CheckFault}
use Rattle.cert_check.specs.declared.faults.CheckFault.TheVariants as fault
use Rattle.repair.specs.HidingOrder.{protected_case}
use Rattle.job_inputs.specs.Reading.{HasCause, ReachedFile}
use Rattle.job_inputs.specs.ClassifiedJobs.{SettledInputs}
use Rattle.job_inputs.specs.declared.file_ref.FileRef.{FileRef}
use Rattle.job_inputs.specs.declared.stop.InputStop.{InputStop}
use Rattle.job_inputs.specs.declared.stop.InputStop.TheVariants as input
use Rattle.job_check.specs.Answers.{IsReleaseCheckAnswer, IsJudgementOf, stop_for, guard_stop_for}
use Rattle.job_check.specs.Cases.{IsCaseOf}
use Rattle.job_check.specs.GuardedReleases.{guarded_fault, larger_set, AreSolesOf, IsJudgement, IsRightGuarding}
use Rattle.job_check.specs.Reading.{IsReleasedOf}
use Rattle.job_check.specs.ReleaseFiles.{ReleasedFiles, released_with}
use Rattle.job_check.specs.declared.reading.ReadRelease.{ReadRelease}
use Rattle.job_check.specs.declared.stop.CheckStop.{CheckStop}
use Rattle.job_check.specs.declared.stop.CheckStop.TheVariants as stop

-- what a judgement says of a release is the answer of the check
pub judged-stops : (released : ReleasedFiles) (why : CheckStop) → IsJudgementOf released (Err why) → IsReleaseCheckAnswer (Ok released) (Err why)
judged-stops released (stop.Inputs why) h = subst (λ (e : InputStop). IsReleaseCheckAnswer (Ok released) (Err (stop.Inputs e))) (sym h) tt
judged-stops released (stop.NotAccepted why) h = h
judged-stops released (stop.NotGuarded why) h = h

-- a judgement stops the check by its inputs for want of memory alone
memory-alone : (released : ReleasedFiles) (why : CheckStop) (e : InputStop) → IsJudgementOf released (Err why) → why ≡ stop.Inputs e → e ≡ input.Memory
memory-alone released (stop.Inputs why) e h is = (let same : why ≡ e = cc in sym same ∙ h)
memory-alone released (stop.NotAccepted why) e h is = absurd cc
memory-alone released (stop.NotGuarded why) e h is = absurd cc

memory-cause : {X : Type 0} (e : InputStop) (old new : ShelfState) → e ≡ input.Memory → HasCause {X = X} (Err e) old new
memory-cause e old new h = record { absent = λ f is. absurd cc; too_long = λ f is. absurd cc; read_fault = λ f is. absurd cc; tree = λ f is. absurd cc }

pub judged-cause : {X : Type 0} (released : ReleasedFiles) (why : CheckStop) (e : InputStop) (old new : ShelfState) → IsJudgementOf released (Err why) → why ≡ stop.Inputs e → HasCause {X = X} (Err e) old new
judged-cause released why e old new h is = memory-cause e old new (memory-alone released why e h is)

pub judged-comes-to : {X : Type 0} (released : ReleasedFiles) (why : CheckStop) (e : InputStop) (comes : FileRef → List ℕ → Type 0) (files : Files) (new : ShelfState) → IsJudgementOf released (Err why) → why ≡ stop.Inputs e → ReachedFile {X = X} comes (Err e) files new
judged-comes-to released why e comes files new h is = let memory = memory-alone released why e h is in λ f reached. absurd cc

-- ---- faults as stops

-- a fault of a certificate is a stop that names it, or want of memory
by-fault : (P : CheckStop → Type 0) (why : CheckFault) → (check_fault_of why ≡ Some why → why ≢ fault.Memory → P (stop.NotAccepted why)) → P (stop.Inputs input.Memory) → P (stop_for why)
by-fault P fault.Counts named memory = named refl (λ is. absurd cc)
by-fault P fault.Method named memory = named refl (λ is. absurd cc)
by-fault P (fault.PrimaryShown cell) named memory = named refl (λ is. absurd cc)
by-fault P (fault.FixedHidden cell) named memory = named refl (λ is. absurd cc)
by-fault P (fault.Release table line) named memory = named refl (λ is. absurd cc)
by-fault P (fault.Step k) named memory = named refl (λ is. absurd cc)
by-fault P (fault.RepairCell k) named memory = named refl (λ is. absurd cc)
by-fault P (fault.Repair k why) named memory = named refl (λ is. absurd cc)
by-fault P (fault.Outside cell) named memory = named refl (λ is. absurd cc)
by-fault P (fault.WorldCell k) named memory = named refl (λ is. absurd cc)
by-fault P (fault.World k why) named memory = named refl (λ is. absurd cc)
by-fault P (fault.NotReached cell side) named memory = named refl (λ is. absurd cc)
by-fault P (fault.NeedCell k) named memory = named refl (λ is. absurd cc)
by-fault P (fault.Need k why) named memory = named refl (λ is. absurd cc)
by-fault P (fault.Rounded cell) named memory = named refl (λ is. absurd cc)
by-fault P (fault.Relation number) named memory = named refl (λ is. absurd cc)
by-fault P fault.Memory named memory = memory

-- so is a fault of extra cells
by-extra-fault : (P : CheckStop → Type 0) (why : ExtraFault) → (extra_fault_of why ≡ Some why → why ≢ extra_fault.Memory → P (stop.NotGuarded why)) → P (stop.Inputs input.Memory) → P (guard_stop_for why)
by-extra-fault P (extra_fault.Cell k) named memory = named refl (λ is. absurd cc)
by-extra-fault P (extra_fault.NeedCell k) named memory = named refl (λ is. absurd cc)
by-extra-fault P (extra_fault.Need k why) named memory = named refl (λ is. absurd cc)
by-extra-fault P (extra_fault.GuardCell k) named memory = named refl (λ is. absurd cc)
by-extra-fault P (extra_fault.Guard k why) named memory = named refl (λ is. absurd cc)
by-extra-fault P (extra_fault.Open row cell side) named memory = named refl (λ is. absurd cc)
by-extra-fault P extra_fault.Memory named memory = memory

-- ---- without extra cells

-- a release with this certificate and these tables, whose job names no contributors' file
abbrev pub plain : SettledInputs → Certificate → List (List ℕ) → ReleasedFiles
plain settled certificate tables = released_with settled certificate None tables

-- it has the first fault of its certificate
pub plain-fault : (case : Case) (settled : SettledInputs) (certificate : Certificate) (extra : Option Extra) (tables : List (List ℕ)) (why : CheckFault) → extra ≡ None → Fails (check_fault_of why) (acceptance_fault case tables certificate)
    → IsCaseOf settled case → IsCase case tables → IsJudgementOf (released_with settled certificate extra tables) (Err (stop_for why))
plain-fault case settled certificate extra tables why none exact is fits =
    subst (λ (o : Option Extra). IsJudgementOf (released_with settled certificate o tables) (Err (stop_for why))) (sym none)
    (by-fault (λ (e : CheckStop). IsJudgementOf (plain settled certificate tables) (Err e)) why (λ named not_memory. record {
      case = case;
      is_case = is;
      fits = fits;
      first = subst (λ (o : Option CheckFault). Fails o (acceptance_fault case tables certificate)) named exact;
      not_memory = not_memory;
    }) refl)

-- it is accepted where there is none
pub plain-accepted : (case : Case) (settled : SettledInputs) (certificate : Certificate) (extra : Option Extra) (tables : List (List ℕ)) (result : Result (Unit {0}) CheckFault) → extra ≡ None → result ≡ Ok tt
    → (result ≡ Ok tt → IsOfCase case certificate) → (result ≡ Ok tt → rounds_cells case.method ≡ false → IsAccepted case tables certificate)
    → (result ≡ Ok tt → rounds_cells case.method ≡ true → IsRoundedRelease case tables certificate) → Gives check_fault_of (λ u. u) result (acceptance_fault case tables certificate)
    → IsCaseOf settled case → IsCase case tables → IsJudgementOf (released_with settled certificate extra tables) (Ok tt)
plain-accepted case settled certificate extra tables result none ok of_case suppressed rounded exact is fits =
    subst (λ (o : Option Extra). IsJudgementOf (released_with settled certificate o tables) (Ok tt)) (sym none) (record {
      case = case;
      is_case = is;
      fits = fits;
      no_fault = subst (λ (r : Result (Unit {0}) CheckFault). Gives check_fault_of (λ u. u) r (acceptance_fault case tables certificate)) ok exact;
      of_case = of_case ok;
      suppressed = suppressed ok;
      rounded = rounded ok;
    })

-- ---- with extra cells

pub guarded-so : (case : Case) (settled : SettledInputs) (soles : List (Option ℕ)) (certificate : Certificate) (own : Extra) (extra : Option Extra) (tables : List (List ℕ)) (result : Result (Unit {0}) CheckStop) → extra ≡ Some own
    → IsJudgement (guarded_fault case soles tables certificate own) result → (result ≡ Ok tt → IsRightGuarding case soles tables certificate own) → IsCaseOf settled case → IsCase case tables
    → AreSolesOf case settled.inputs.records.rows soles → IsJudgementOf (released_with settled certificate extra tables) result
guarded-so case settled soles certificate own extra tables result some exact shows is fits are =
    subst (λ (o : Option Extra). IsJudgementOf (released_with settled certificate o tables) result) (sym some) (here result exact shows)
  where
    here : (r : Result (Unit {0}) CheckStop) → IsJudgement (guarded_fault case soles tables certificate own) r → (r ≡ Ok tt → IsRightGuarding case soles tables certificate own) → IsJudgementOf (released_with settled certificate (Some own) tables) r
    here (Ok u) gives goes = record { case = case; is_case = is; fits = fits; soles = soles; are_soles = are; no_fault = gives; shows = goes refl }
    here (Err (stop.Inputs why)) gives goes = gives
    here (Err (stop.NotAccepted why)) gives goes = record { case = case; is_case = is; fits = fits; soles = soles; are_soles = are; first = gives.0; not_memory = gives.1 }
    here (Err (stop.NotGuarded why)) gives goes = record { case = case; is_case = is; fits = fits; soles = soles; are_soles = are; first = gives.0; not_memory = gives.1 }

-- the judgement of what was read is that of the release
pub as-released : (released : ReleasedFiles) (read : ReadRelease) (tables : List (List ℕ)) (result : Result (Unit {0}) CheckStop) → tables ≡ read.tables → IsReleasedOf released read → IsJudgementOf (released_with released.settled read.certificate read.extra tables) result
    → IsJudgementOf released result
as-released released read tables result same is judged =
    subst (λ (all : List (List ℕ)). IsJudgementOf (released_with released.settled released.certificate released.extra all) result) (same ∙ is.tables)
    (subst (λ (o : Option Extra). IsJudgementOf (released_with released.settled released.certificate o tables) result) is.extra
    (subst (λ (c : Certificate). IsJudgementOf (released_with released.settled c read.extra tables) result) is.certificate judged))

-- ---- the first fault, step by step

-- a fault of a step that is the first one is the answer, but for want of memory
step-stops : (first : Result (Unit {0}) CheckStop) (why : CheckFault) (meant : Result (Unit {0}) CheckFault) → Fails (check_fault_of why) meant → (meant ≡ Err why → first ≡ Err (stop.NotAccepted why)) → IsJudgement first (Err (stop_for why))
step-stops first why meant fails leads = by-fault (λ (e : CheckStop). IsJudgement first (Err e)) why (λ named not_memory. (leads (subst (λ (o : Option CheckFault). Fails o meant) named fails), not_memory)) refl

extra-step-stops : (first : Result (Unit {0}) CheckStop) (why : ExtraFault) (meant : Result (Unit {0}) ExtraFault) → Fails (extra_fault_of why) meant → (meant ≡ Err why → first ≡ Err (stop.NotGuarded why)) → IsJudgement first (Err (guard_stop_for why))
extra-step-stops first why meant fails leads = by-extra-fault (λ (e : CheckStop). IsJudgement first (Err e)) why (λ named not_memory. (leads (subst (λ (o : Option ExtraFault). Fails o meant) named fails), not_memory)) refl

-- the fault of extra cells beside the certificate's set, as a stop
abbrev last-step : Case → List (Option ℕ) → Certificate → Extra → Result (Unit {0}) CheckStop
last-step case soles c extra = map_fault stop.NotGuarded (first_extra_fault (protected_case case.system.now case.cells.now) soles (own_set case c) c.worlds extra)

abbrev two-steps : Case → List (Option ℕ) → List (List ℕ) → Certificate → Extra → Result (Unit {0}) CheckStop
two-steps case soles tables c extra = map_fault stop.NotAccepted (release_fault case (larger_set case c extra) tables) >>= λ _. last-step case soles c extra

behind-certificate : (case : Case) (soles : List (Option ℕ)) (tables : List (List ℕ)) (c : Certificate) (extra : Extra) → acceptance_fault case (own_texts case c) c ≡ Ok tt → guarded_fault case soles tables c extra ≡ two-steps case soles tables c extra
behind-certificate case soles tables c extra first = ap (λ (m : Result (Unit {0}) CheckFault). map_fault stop.NotAccepted m >>= λ _. two-steps case soles tables c extra) first

behind-tables : (case : Case) (soles : List (Option ℕ)) (tables : List (List ℕ)) (c : Certificate) (extra : Extra) → acceptance_fault case (own_texts case c) c ≡ Ok tt → release_fault case (larger_set case c extra) tables ≡ Ok tt
    → guarded_fault case soles tables c extra ≡ last-step case soles c extra
behind-tables case soles tables c extra first then =
    behind-certificate case soles tables c extra first ∙ ap (λ (m : Result (Unit {0}) CheckFault). map_fault stop.NotAccepted m >>= λ _. last-step case soles c extra) then

pub certificate-stops : (case : Case) (soles : List (Option ℕ)) (tables : List (List ℕ)) (c : Certificate) (extra : Extra) (why : CheckFault) → Fails (check_fault_of why) (acceptance_fault case (own_texts case c) c)
    → IsJudgement (guarded_fault case soles tables c extra) (Err (stop_for why))
certificate-stops case soles tables c extra why h =
    step-stops (guarded_fault case soles tables c extra) why (acceptance_fault case (own_texts case c) c) h
    (λ is. ap (λ (m : Result (Unit {0}) CheckFault). map_fault stop.NotAccepted m >>= λ _. two-steps case soles tables c extra) is)

pub tables-stop : (case : Case) (soles : List (Option ℕ)) (tables : List (List ℕ)) (c : Certificate) (extra : Extra) (larger : List Bool) (why : CheckFault) → acceptance_fault case (own_texts case c) c ≡ Ok tt → larger ≡ larger_set case c extra
    → Fails (check_fault_of why) (release_fault case larger tables) → IsJudgement (guarded_fault case soles tables c extra) (Err (stop_for why))
tables-stop case soles tables c extra larger why first same h =
    step-stops (guarded_fault case soles tables c extra) why (release_fault case (larger_set case c extra) tables) (subst (λ (flags : List Bool). Fails (check_fault_of why) (release_fault case flags tables)) same h)
    (λ is. behind-certificate case soles tables c extra first ∙ ap (λ (m : Result (Unit {0}) CheckFault). map_fault stop.NotAccepted m >>= λ _. last-step case soles c extra) is)

pub extra-stops : (case : Case) (soles : List (Option ℕ)) (tables : List (List ℕ)) (c : Certificate) (extra : Extra) (own larger : List Bool) (why : ExtraFault) → acceptance_fault case (own_texts case c) c ≡ Ok tt → own ≡ own_set case c → larger ≡ larger_set case c extra
    → release_fault case larger tables ≡ Ok tt → Fails (extra_fault_of why) (first_extra_fault (protected_case case.system.now case.cells.now) soles own c.worlds extra) → IsJudgement (guarded_fault case soles tables c extra) (Err (guard_stop_for why))
extra-stops case soles tables c extra own larger why first mine same then h =
    extra-step-stops (guarded_fault case soles tables c extra) why (first_extra_fault (protected_case case.system.now case.cells.now) soles (own_set case c) c.worlds extra)
    (subst (λ (flags : List Bool). Fails (extra_fault_of why) (first_extra_fault (protected_case case.system.now case.cells.now) soles flags c.worlds extra)) mine h)
    (λ is. behind-tables case soles tables c extra first (subst (λ (flags : List Bool). release_fault case flags tables ≡ Ok tt) same then) ∙ ap (map_fault stop.NotGuarded) is)

pub none-stops : (case : Case) (soles : List (Option ℕ)) (tables : List (List ℕ)) (c : Certificate) (extra : Extra) (own larger : List Bool) → acceptance_fault case (own_texts case c) c ≡ Ok tt → own ≡ own_set case c → larger ≡ larger_set case c extra
    → release_fault case larger tables ≡ Ok tt → first_extra_fault (protected_case case.system.now case.cells.now) soles own c.worlds extra ≡ Ok tt → guarded_fault case soles tables c extra ≡ Ok tt
none-stops case soles tables c extra own larger first mine same then h =
    behind-tables case soles tables c extra first (subst (λ (flags : List Bool). release_fault case flags tables ≡ Ok tt) same then)
    ∙ ap (map_fault stop.NotGuarded) (subst (λ (flags : List Bool). first_extra_fault (protected_case case.system.now case.cells.now) soles flags c.worlds extra ≡ Ok tt) mine h)
