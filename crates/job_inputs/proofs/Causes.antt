-- What stops one look at a file stops the reading of which it is a part.
use Rattle.std.proofs.Common.{◌≡◌, ℕ, Bool, true, false, List, Result, Ok, Err, IsErr, IsErrOf, IsOkAnd, refl, ap, arith, subst, ◌≤◌, ◌+◌, ◌∙◌}
use Rattle.sdc_base.specs.Answers.{Fails, Gives}
use Rattle.sdc_base.specs.Steps.{refuse}
use Rattle.sdc_base.specs.WhereTold.{WhereTold}
use Rattle.code_trees.specs.declared.tree_fault.TreeFault.TheVariants as tree
use Rattle.office_io.proofs.Shelves.{only-read-on}
use Rattle.office_io.specs.Files.{Files}
use Rattle.office_io.specs.Shelves.{ShelfState, HasBegun, HasOnlyRead}
use Rattle.job_inputs.specs.ReadFiles.{limit, output_limit}
use Rattle.job_inputs.specs.Reading.{stop_of, stopped_for, HasCause, ReachedFile, HasOnlyLooked, IsReadFrom}
use Rattle.plain_text.specs.Stops.{why_of}
use Rattle.job_inputs.specs.Refusals.{IsForContents}
use Rattle.job_inputs.specs.ClassifiedJobs.{HasOnlyLookedOn, SettledInputs, settled_of}
use Rattle.job_inputs.specs.declared.purpose.Purpose.{Purpose}
use Rattle.job_inputs.specs.declared.file_ref.FileRef.{FileRef}
use Rattle.job_inputs.specs.declared.faults.Fault.{Fault}
use Rattle.job_inputs.specs.declared.faults.Fault.TheVariants as fault
use Rattle.plain_text.specs.declared.stop.Stop.{Stop}
use Rattle.plain_text.specs.declared.stop.Stop.TheVariants as refusal
use Rattle.job_inputs.specs.declared.stop.InputStop.{InputStop}
use Rattle.job_inputs.specs.declared.stop.InputStop.TheVariants as stop

-- ---- looks one after another

-- nothing was looked for yet
pub nothing-looked : (most : ℕ) (state : ShelfState) → HasOnlyLooked most state state
nothing-looked most state = record {
  only_read = record { files = refl; faults = omega arith; faults_end = λ below. below; absences = omega arith; absences_end = λ below. below };
  no_more = omega arith;
  few_reads = omega arith;
  each_takes = λ each. each;
  none_behind = omega arith;
}

-- a look after another
pub look-on : (most : ℕ) (old mid new : ShelfState) → HasOnlyLooked most old mid → HasOnlyLooked most mid new → HasOnlyLooked most old new
look-on most old mid new first then = record {
  only_read = only-read-on old mid new first.only_read then.only_read;
  no_more = omega (arith, first.no_more, then.no_more);
  few_reads = omega (arith, first.few_reads, then.few_reads);
  each_takes = λ each. then.each_takes (first.each_takes each);
  none_behind = omega (arith, first.none_behind, then.none_behind);
}

-- a look at files that may be longer
pub longer-look : (most more : ℕ) (old new : ShelfState) → most ≤ more → HasOnlyLooked most old new → HasOnlyLooked more old new
longer-look most more old new at_most look = record {
  only_read = look.only_read;
  no_more = omega (arith, at_most, look.no_more);
  few_reads = omega (arith, at_most, look.few_reads);
  each_takes = look.each_takes;
  none_behind = look.none_behind;
}

-- of a file that was begun no more was taken than its limit and a byte, and none was read behind its end
pub file-looked : (most : ℕ) (old new : ShelfState) → HasOnlyRead old new → new.taken ≤ most + 1 → new.reads ≤ most + 1 → new.reads ≤ new.taken + 1 → new.empty_reads ≤ 1 → HasOnlyLooked most old new
file-looked most old new read taken reads each behind = record {
  only_read = read;
  no_more = omega (arith, taken);
  few_reads = omega (arith, reads);
  each_takes = λ before. each;
  none_behind = omega (arith, behind);
}

-- of a file that was begun alone nothing was taken
pub begun-looked : (most : ℕ) (old new : ShelfState) (name : List ℕ) → HasOnlyRead old new → HasBegun name old new → HasOnlyLooked most old new
begun-looked most old new name read begun =
    file-looked most old new read (omega (arith, begun.none_taken)) (omega (arith, begun.none_read)) (omega (arith, begun.none_read)) (omega (arith, begun.none_empty))

-- ---- looks past the inputs

-- the inputs alone were looked at
pub inputs-looked : (purpose : Purpose) (name : List ℕ) (old new : ShelfState) → HasOnlyLooked limit old new → HasOnlyLookedOn purpose name old new
inputs-looked purpose name old new look = record { only_looked = longer-look limit output_limit old new (omega arith) look; inputs_limit = λ fs told bad. look }

no-fault : {A E : Type 0} (r : Result A E) (P : A → Type 0) → IsOkAnd r P → IsErr r → ⊥
no-fault (Ok x) P fine bad = absurd cc
no-fault (Err e) P fine bad = fine

-- the inputs have no fault, and more was looked at
pub past-inputs : (purpose : Purpose) (name : List ℕ) (P : SettledInputs → Type 0) (old new : ShelfState) → HasOnlyLooked output_limit old new → WhereTold old.files (λ fs. IsOkAnd (settled_of purpose fs name) P) → HasOnlyLookedOn purpose name old new
past-inputs purpose name P old new look fine = record { only_looked = look; inputs_limit = λ fs told bad. absurd (no-fault (settled_of purpose fs name) P (fine fs told) bad) }

-- ---- stops

-- an error is the same error of another answer
pub err-as : {X Y : Type 0} (e s : InputStop) → IsErrOf {T = Y} (Err e) s → IsErrOf {T = X} (Err e) s
err-as e s is = let same : e ≡ s = cc in ap Err same

-- the cause of a stop is one after earlier reads too
pub cause-on : {X Y : Type 0} {most : ℕ} (e : InputStop) (old mid new : ShelfState) → HasOnlyLooked most old mid → HasCause {X = X} (Err e) mid new → HasCause {X = Y} (Err e) old new
cause-on e old mid new first cause = record {
  absent = λ f is. omega (arith, first.only_read.absences, cause.absent f (err-as e _ is));
  too_long = λ f is. cause.too_long f (err-as e _ is);
  read_fault = λ f is. omega (arith, first.only_read.faults, cause.read_fault f (err-as e _ is));
  tree = λ f is. cause.tree f (err-as e _ is);
}

pub cause-as : {X Y : Type 0} (e : InputStop) (old new : ShelfState) → HasCause {X = X} (Err e) old new → HasCause {X = Y} (Err e) old new
cause-as e old new cause = record {
  absent = λ f is. cause.absent f (err-as e _ is);
  too_long = λ f is. cause.too_long f (err-as e _ is);
  read_fault = λ f is. cause.read_fault f (err-as e _ is);
  tree = λ f is. cause.tree f (err-as e _ is);
}

-- a refusal of contents needs no cause of the shelf
pub contents-cause : {Y : Type 0} (r : Stop Fault) (old new : ShelfState) → IsForContents r → HasCause {X = Y} (Err (stop_of r)) old new
contents-cause (refusal.Fault (fault.Absent f)) old new h = absurd h
contents-cause (refusal.Fault (fault.TooLong f)) old new h = absurd h
contents-cause (refusal.Fault (fault.Tree g why)) old new h = record {
  absent = λ f is. absurd cc;
  too_long = λ f is. absurd cc;
  read_fault = λ f is. absurd cc;
  tree = λ f is. (let same : why ≡ tree.Memory = cc in absurd (rw same at h));
}
contents-cause (refusal.Fault (fault.Job line why)) old new h = record { absent = λ f is. absurd cc; too_long = λ f is. absurd cc; read_fault = λ f is. absurd cc; tree = λ f is. absurd cc }
contents-cause (refusal.Fault (fault.Meta line why)) old new h = record { absent = λ f is. absurd cc; too_long = λ f is. absurd cc; read_fault = λ f is. absurd cc; tree = λ f is. absurd cc }
contents-cause (refusal.Fault (fault.Row number why)) old new h = record { absent = λ f is. absurd cc; too_long = λ f is. absurd cc; read_fault = λ f is. absurd cc; tree = λ f is. absurd cc }
contents-cause (refusal.Fault (fault.Cells t)) old new h = record { absent = λ f is. absurd cc; too_long = λ f is. absurd cc; read_fault = λ f is. absurd cc; tree = λ f is. absurd cc }
contents-cause (refusal.Fault (fault.Prior t line why)) old new h = record { absent = λ f is. absurd cc; too_long = λ f is. absurd cc; read_fault = λ f is. absurd cc; tree = λ f is. absurd cc }
contents-cause (refusal.Fault (fault.Certificate line why)) old new h = record { absent = λ f is. absurd cc; too_long = λ f is. absurd cc; read_fault = λ f is. absurd cc; tree = λ f is. absurd cc }
contents-cause (refusal.Fault (fault.Contributors line why)) old new h = record { absent = λ f is. absurd cc; too_long = λ f is. absurd cc; read_fault = λ f is. absurd cc; tree = λ f is. absurd cc }
contents-cause (refusal.Fault fault.OutName) old new h = record { absent = λ f is. absurd cc; too_long = λ f is. absurd cc; read_fault = λ f is. absurd cc; tree = λ f is. absurd cc }
contents-cause refusal.Memory old new h = record { absent = λ f is. absurd cc; too_long = λ f is. absurd cc; read_fault = λ f is. absurd cc; tree = λ f is. absurd cc }

-- nor does an output that would take the job's own name
pub out-name-cause : {Y : Type 0} (reason : Fault) (overwrites : Bool) (old new : ShelfState) → Err reason ≡ refuse fault.OutName overwrites → HasCause {X = Y} (Err (stop.Refused reason)) old new
out-name-cause reason true old new h = (let same : reason ≡ fault.OutName = cc in rw same (contents-cause (refusal.Fault fault.OutName) old new tt))
out-name-cause reason false old new h = absurd cc

pub stop-fails : {A : Type 0} (r : Stop Fault) (meant : Result A Fault) → Fails (why_of r) meant → Fails (stopped_for (stop_of r)) meant
stop-fails (refusal.Fault f) meant h = h
stop-fails refusal.Memory meant h = tt

-- a file that was come to is come to on the way of the whole
pub come-on : {X Y : Type 0} (e : InputStop) (part whole : FileRef → List ℕ → Type 0) (files : Files) (new : ShelfState) → ((f : FileRef) (held : List ℕ) → part f held → whole f held)
    → ReachedFile {X = X} part (Err e) files new → ReachedFile {X = Y} whole (Err e) files new
come-on e part whole files new wider come = λ f is. let came = come f (err-as e _ is) in (came.0, wider f came.0 came.1, came.2)

pub contents-come : {Y : Type 0} (r : Stop Fault) (whole : FileRef → List ℕ → Type 0) (files : Files) (new : ShelfState) → ReachedFile {X = Y} whole (Err (stop_of r)) files new
contents-come (refusal.Fault g) whole files new = λ f is. absurd cc
contents-come refusal.Memory whole files new = λ f is. absurd cc

-- a look that stops, after others that did not, stops the whole
pub look-stops : {X X' Y Y' : Type 0} {P : X → Type 0} {P' : X' → Type 0} {most : ℕ} (view : X → Y) (view' : X' → Y') (part : Files → Result Y Fault) (whole : Files → Result Y' Fault) (comes comes' : Files → FileRef → List ℕ → Type 0)
    (e : InputStop) (old mid new : ShelfState) → HasOnlyLooked most old mid → IsReadFrom view part comes P most (Err e) mid new
    → WhereTold old.files (λ fs. Fails (stopped_for e) (part fs) → Fails (stopped_for e) (whole fs))
    → WhereTold old.files (λ fs. (f : FileRef) (held : List ℕ) → comes fs f held → comes' fs f held)
    → IsReadFrom view' whole comes' P' most (Err e) old new
look-stops view view' part whole comes comes' e old mid new first look fails wider = record {
  told = λ fs told. fails fs told (look.told fs (first.only_read.files ∙ told));
  came_to = λ fs told. come-on e (comes fs) (comes' fs) fs new (wider fs told) (look.came_to fs (first.only_read.files ∙ told));
  shelf = look-on _ old mid new first look.shelf;
  cause = cause-on e old mid new first look.cause;
  sound = tt;
}

-- contents that are refused stop the whole
pub contents-stop : {X' Y' : Type 0} {P' : X' → Type 0} {most : ℕ} (view' : X' → Y') (whole : Files → Result Y' Fault) (comes' : Files → FileRef → List ℕ → Type 0) (r : Stop Fault) (old new : ShelfState)
    → HasOnlyLooked most old new → IsForContents r → WhereTold old.files (λ fs. Fails (why_of r) (whole fs)) → IsReadFrom view' whole comes' P' most (Err (stop_of r)) old new
contents-stop view' whole comes' r old new first contents fails = record {
  told = λ fs told. stop-fails r (whole fs) (fails fs told);
  came_to = λ fs told. contents-come r (comes' fs) fs new;
  shelf = first;
  cause = contents-cause r old new contents;
  sound = tt;
}

-- looks that succeed are a look that succeeds
pub look-ends : {X' Y' : Type 0} {P' : X' → Type 0} {most : ℕ} (view' : X' → Y') (whole : Files → Result Y' Fault) (comes' : Files → FileRef → List ℕ → Type 0) (x : X') (old mid : ShelfState) {new : ShelfState} → HasOnlyLooked most old mid → HasOnlyLooked most mid new
    → WhereTold old.files (λ fs. whole fs ≡ Ok (view' x)) → P' x → IsReadFrom view' whole comes' P' most (Ok x) old new
look-ends view' whole comes' x old mid {new} first then is good = record {
  told = is;
  came_to = λ fs told f stops. absurd cc;
  shelf = look-on _ old mid new first then;
  cause = record { absent = λ f stops. absurd cc; too_long = λ f stops. absurd cc; read_fault = λ f stops. absurd cc; tree = λ f stops. absurd cc };
  sound = good;
}

-- an answer to a look is one to a wider look of the same meaning
pub read-wider : {X Y : Type 0} {P : X → Type 0} {most : ℕ} (view : X → Y) (part whole : Files → Result Y Fault) (comes comes' : Files → FileRef → List ℕ → Type 0) (result : Result X InputStop) (old new : ShelfState)
    → ((fs : Files) → part fs ≡ whole fs) → ((fs : Files) (f : FileRef) (held : List ℕ) → comes fs f held → comes' fs f held)
    → IsReadFrom view part comes P most result old new → IsReadFrom view whole comes' P most result old new
read-wider {X} {Y} {P} view part whole comes comes' result old new same wider look = record {
  told = λ fs told. subst (λ (m : Result Y Fault). Gives stopped_for view result m) (same fs) (look.told fs told);
  came_to = λ fs told f is. let came = look.came_to fs told f is in (came.0, wider fs f came.0 came.1, came.2);
  shelf = look.shelf;
  cause = look.cause;
  sound = look.sound;
}

-- memory was wanting after some reads
pub memory-stops : {X' Y' : Type 0} {P' : X' → Type 0} {most : ℕ} (view' : X' → Y') (whole : Files → Result Y' Fault) (comes' : Files → FileRef → List ℕ → Type 0) (old new : ShelfState) → HasOnlyLooked most old new → IsReadFrom view' whole comes' P' most (Err stop.Memory) old new
memory-stops view' whole comes' old new first = record {
  told = λ fs told. tt;
  came_to = λ fs told f is. absurd cc;
  shelf = first;
  cause = record { absent = λ f is. absurd cc; too_long = λ f is. absurd cc; read_fault = λ f is. absurd cc; tree = λ f is. absurd cc };
  sound = tt;
}
