use Rattle.std.proofs.Common.{◌≡◌, ◌<◌, arith, IsErrOf, Err, List, length, refl, subst, sym}
use Rattle.std.proofs.lemmas.Result.{err_from_is_err_and}
use Rattle.job_inputs.specs.ClassifiedJobs.{IsSettledOf, settled_of}
use Rattle.job_inputs.specs.declared.purpose.Purpose.TheVariants as purpose
use Rattle.job_inputs.specs.declared.file_ref.FileRef.{FileRef}
use Rattle.job_run.specs.FileCounts.{file_count}
use Rattle.job_run.specs.Puts.{AllWhole, OneInPart, SomeWhole}
use Rattle.job_run.specs.declared.put.FilePut.{FilePut}
use Rattle.plain_text.specs.declared.stop.Stop.TheVariants as stop
use Rattle.job_run.proofs.Outcomes.{ok-and, no-fault, inputs-cause, inputs-leave-all, inputs-stop, end-cause, end-leaves-all, end-stops, puts-cause, puts-leave-all, puts-stop}
use Rattle.job_run.proofs.ReleaseRuns.{inputs-run, end-run, puts-run, released-run}
use Rattle.job_run.proofs.Settling.{release-is, some-release}
use Rattle.job_run.proofs.running.run_job.Goals as goal

-- ---- what stopped the inputs

pub returns-in_err-settled-clause-run : goal.returns-in_err-settled-clause-run
returns-in_err-settled-clause-run g c =
    let p = err_from_is_err_and c.from_residual.result c.from_residual.ensures.1 in
    let looked = c.in_err-settled.ensures.looked in
    rw (p.1, p.2) (inputs-run c.args.name.now c.in_err-settled.field-0.0 _ _ _ looked.told looked.came_to looked.shelf looked.cause)

pub returns-in_err-settled-clause-untouched : goal.returns-in_err-settled-clause-untouched
returns-in_err-settled-clause-untouched g c =
    let p = err_from_is_err_and c.from_residual.result c.from_residual.ensures.1 in
    rw (p.1, p.2) (inputs-leave-all c.in_err-settled.field-0.0 _)

pub returns-in_err-settled-clause-cause : goal.returns-in_err-settled-clause-cause
returns-in_err-settled-clause-cause g c =
    let p = err_from_is_err_and c.from_residual.result c.from_residual.ensures.1 in
    rw (p.1, p.2) (inputs-cause c.in_err-settled.field-0.0 _ _ _ c.in_err-settled.ensures.looked.cause)

pub returns-in_err-settled-clause-stops : goal.returns-in_err-settled-clause-stops
returns-in_err-settled-clause-stops g c =
    let p = err_from_is_err_and c.from_residual.result c.from_residual.ensures.1 in
    rw (p.1, p.2) (inputs-stop c.in_err-settled.field-0.0)

-- ---- the release

pub release_for-requires : goal.release_for-requires
release_for-requires g c =
    let some = c.in_ok-settled.ensures.settled in
    record { ready = c.in_ok-settled.ensures.looked.sound; inputs = record { settled = some.0; is_of = some.1; sound = some.2 } }

-- ---- what stopped the release

pub returns-in_err-release-clause-run : goal.returns-in_err-release-clause-run
returns-in_err-release-clause-run g c =
    let p = err_from_is_err_and c.from_residual-in_err-release.result c.from_residual-in_err-release.ensures.1 in
    let looked = c.in_ok-settled.ensures.looked in
    let some = c.in_ok-settled.ensures.settled in
    rw (p.1, p.2) (end-run c.args.name.now c.in_ok-settled.settled c.in_err-release.field-0.0 some.0 _ _ _ c.in_err-release.ensures.comes some.1 looked.told looked.shelf)

pub returns-in_err-release-clause-untouched : goal.returns-in_err-release-clause-untouched
returns-in_err-release-clause-untouched g c =
    let p = err_from_is_err_and c.from_residual-in_err-release.result c.from_residual-in_err-release.ensures.1 in
    let some = c.in_ok-settled.ensures.settled in
    rw (p.1, p.2) (end-leaves-all some.0 c.in_err-release.field-0.0 _ (c.in_err-release.ensures.comes some.0 some.1))

pub returns-in_err-release-clause-cause : goal.returns-in_err-release-clause-cause
returns-in_err-release-clause-cause g c =
    let p = err_from_is_err_and c.from_residual-in_err-release.result c.from_residual-in_err-release.ensures.1 in
    let some = c.in_ok-settled.ensures.settled in
    rw (p.1, p.2) (end-cause some.0 c.in_err-release.field-0.0 _ _ _ (c.in_err-release.ensures.comes some.0 some.1))

pub returns-in_err-release-clause-stops : goal.returns-in_err-release-clause-stops
returns-in_err-release-clause-stops g c =
    let p = err_from_is_err_and c.from_residual-in_err-release.result c.from_residual-in_err-release.ensures.1 in
    let some = c.in_ok-settled.ensures.settled in
    rw (p.1, p.2) (end-stops some.0 c.in_err-release.field-0.0 (c.in_err-release.ensures.comes some.0 some.1))

-- ---- the puts

pub put_files-requires : goal.put_files-requires
put_files-requires g c =
    let many : length c.in_ok-release.release.puts ≡ file_count c.in_ok-settled.settled.described.job = c.in_ok-release.ensures.each_file in
    subst (λ (puts : List FilePut). 0 < length puts) (sym c.as_slice.ensures) (omega (arith, many))

pub returns-in_err-put_files-clause-run : goal.returns-in_err-put_files-clause-run
returns-in_err-put_files-clause-run g c =
    let p = err_from_is_err_and c.from_residual-in_err-put_files.result c.from_residual-in_err-put_files.ensures.1 in
    let looked = c.in_ok-settled.ensures.looked in
    let some = c.in_ok-settled.ensures.settled in
    rw (p.1, p.2)
    (puts-run c.args.name.now c.in_ok-settled.settled c.in_ok-release.release c.in_err-put_files.field-0.0 _ _ _ _ c.in_ok-release.ensures.comes
    (some-release some.0 c.in_ok-release.release some.2 (c.in_ok-release.ensures.comes some.0 some.1) c.in_ok-settled.settled.described some.1.described c.in_ok-release.ensures.each_file)
    looked.told looked.shelf
    (subst (λ (puts : List FilePut). (f : FileRef) → IsErrOf {T = Unit {0}} (Err c.in_err-put_files.field-0.0) (stop.Fault f) → OneInPart puts f (g.T.Tray.state c.args.tray.now) (g.T.Tray.state c.put_files.new.tray)) c.as_slice.ensures c.in_err-put_files.ensures.part)
    (subst (λ (puts : List FilePut). IsErrOf {T = Unit {0}} (Err c.in_err-put_files.field-0.0) stop.Memory → SomeWhole puts (g.T.Tray.state c.args.tray.now) (g.T.Tray.state c.put_files.new.tray)) c.as_slice.ensures c.in_err-put_files.ensures.memory)
    c.in_err-put_files.ensures.cause)

pub returns-in_err-put_files-clause-untouched : goal.returns-in_err-put_files-clause-untouched
returns-in_err-put_files-clause-untouched g c =
    let p = err_from_is_err_and c.from_residual-in_err-put_files.result c.from_residual-in_err-put_files.ensures.1 in
    rw (p.1, p.2) (puts-leave-all c.in_err-put_files.field-0.0 _ _)

pub returns-in_err-put_files-clause-cause : goal.returns-in_err-put_files-clause-cause
returns-in_err-put_files-clause-cause g c =
    let p = err_from_is_err_and c.from_residual-in_err-put_files.result c.from_residual-in_err-put_files.ensures.1 in
    rw (p.1, p.2) (puts-cause c.in_err-put_files.field-0.0 _ _ _ _ c.in_err-put_files.ensures.cause)

pub returns-in_err-put_files-clause-stops : goal.returns-in_err-put_files-clause-stops
returns-in_err-put_files-clause-stops g c =
    let p = err_from_is_err_and c.from_residual-in_err-put_files.result c.from_residual-in_err-put_files.ensures.1 in
    rw (p.1, p.2) (puts-stop c.in_err-put_files.field-0.0)

-- ---- a release

pub returns-clause-released : goal.returns-clause-released
returns-clause-released g c =
    λ fs told.
    let read = ok-and (λ s. IsSettledOf s c.in_ok-settled.settled) (settled_of purpose.Release fs c.args.name.now) (c.in_ok-settled.ensures.looked.told fs told) in
    let whole = subst (λ (puts : List FilePut). AllWhole puts (g.T.Tray.state c.args.tray.now) (g.T.Tray.state c.put_files.new.tray)) c.as_slice.ensures c.in_ok-put_files.ensures.has_put_all in
    release-is fs c.args.name.now read.0 c.in_ok-release.release _ _ read.1
    (c.in_ok-release.ensures.comes read.0 read.2) whole c.in_ok-settled.settled.described read.2.described c.in_ok-release.ensures.each_file c.in_ok-settled.ensures.looked.sound.sound

pub returns-clause-run : goal.returns-clause-run
returns-clause-run g c =
    let looked = c.in_ok-settled.ensures.looked in
    let some = c.in_ok-settled.ensures.settled in
    let whole = subst (λ (puts : List FilePut). AllWhole puts (g.T.Tray.state c.args.tray.now) (g.T.Tray.state c.put_files.new.tray)) c.as_slice.ensures c.in_ok-put_files.ensures.has_put_all in
    released-run c.args.name.now c.in_ok-settled.settled c.in_ok-release.release _ _ _ _
    (some-release some.0 c.in_ok-release.release some.2 (c.in_ok-release.ensures.comes some.0 some.1) c.in_ok-settled.settled.described some.1.described c.in_ok-release.ensures.each_file)
    whole looked.told looked.shelf (returns-clause-released g c)

pub returns-clause-cause : goal.returns-clause-cause
returns-clause-cause g c = no-fault _ _ _ _ _ refl (λ f is. absurd cc)
