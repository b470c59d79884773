-- What the look at a job's contributors' file comes to.
use Rattle.std.proofs.Common.{◌≡◌, Option, None, Some, Result, Ok, Err, refl, sym, subst}
use Rattle.certificate.specs.declared.extra.Extra.{Extra}
use Rattle.job_lang.specs.declared.job.OutputLine.{OutputLine}
use Rattle.office_io.specs.Shelves.{ShelfState}
use Rattle.job_inputs.proofs.Causes.{come-on, cause-as, nothing-looked}
use Rattle.job_inputs.proofs.Refusing.{fails-on}
use Rattle.job_inputs.specs.ContributorsFile.{extra_in, IsSoundExtra}
use Rattle.job_inputs.specs.Looks.{IsFile}
use Rattle.job_inputs.specs.ReadFiles.{output_limit}
use Rattle.job_inputs.specs.Reading.{stopped_for, IsReadFrom}
use Rattle.job_inputs.specs.declared.file_ref.FileRef.TheVariants as file
use Rattle.job_inputs.specs.declared.stop.InputStop.{InputStop}
use Rattle.job_check.specs.Contributors.{extra_for, AreForJob, IsContributorsFile}

-- a look at the contributors' file of this line
abbrev IsFileLook : OutputLine → Result Extra InputStop → ShelfState → ShelfState → Type 0
IsFileLook line result old new = IsReadFrom {X = Extra} (λ extra. extra) (λ fs. extra_in fs line.file) (λ fs. IsFile file.Contributors line.file) IsSoundExtra output_limit result old new

-- a look at it where there is such a line
abbrev IsLook : Option OutputLine → Result (Option Extra) InputStop → ShelfState → ShelfState → Type 0
IsLook line result old new = IsReadFrom {X = Option Extra} (λ extra. extra) (λ fs. extra_for fs line) (λ fs. IsContributorsFile line) (AreForJob line) output_limit result old new

nothing-there : (state : ShelfState) → IsLook None (Ok None) state state
nothing-there state = record {
  told = λ fs told. refl;
  came_to = λ fs told f is. absurd cc;
  shelf = nothing-looked output_limit state;
  cause = record { absent = λ f is. absurd cc; too_long = λ f is. absurd cc; read_fault = λ f is. absurd cc; tree = λ f is. absurd cc };
  sound = tt;
}

-- without the line nothing is looked for
pub no-file : (line : Option OutputLine) (state : ShelfState) → line ≡ None → IsLook line (Ok None) state state
no-file line state none = subst (λ (l : Option OutputLine). IsLook l (Ok None) state state) (sym none) (nothing-there state)

-- what stops the look stops the reading
pub file-stops : (line : Option OutputLine) (own : OutputLine) (e : InputStop) (old new : ShelfState) → line ≡ Some own → IsFileLook own (Err e) old new → IsLook line (Err e) old new
file-stops line own e old new some look = subst (λ (l : Option OutputLine). IsLook l (Err e) old new) (sym some) (record {
  told = λ fs told. fails-on (stopped_for e) (extra_in fs own.file) (λ extra. Ok (Some extra)) (look.told fs told);
  came_to = λ fs told. come-on e (IsFile file.Contributors own.file) (IsContributorsFile (Some own)) fs new (λ f held is. is) (look.came_to fs told);
  shelf = look.shelf;
  cause = cause-as e old new look.cause;
  sound = tt;
})

-- the extra cells that are read are those of the job
pub file-read : (line : Option OutputLine) (own : OutputLine) (extra : Extra) (old new : ShelfState) → line ≡ Some own → IsFileLook own (Ok extra) old new → IsLook line (Ok (Some extra)) old new
file-read line own extra old new some look = subst (λ (l : Option OutputLine). IsLook l (Ok (Some extra)) old new) (sym some) (record {
  told = λ fs told. rw (look.told fs told) refl;
  came_to = λ fs told f is. absurd cc;
  shelf = look.shelf;
  cause = record { absent = λ f is. absurd cc; too_long = λ f is. absurd cc; read_fault = λ f is. absurd cc; tree = λ f is. absurd cc };
  sound = tt;
})
