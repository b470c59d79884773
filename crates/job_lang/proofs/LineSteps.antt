-- Steps of the reading line by line.
use Rattle.std.proofs.Common.{◌≡◌, ℕ, ◌+◌, List, [], ◌∷◌, Result, Ok, refl}
use Rattle.sdc_base.specs.Blanks.{trim}
use Rattle.sdc_base.specs.Answers.{Fails}
use Rattle.plain_text.specs.Stops.{why_of}
use Rattle.job_lang.specs.Faults.{job_fault_of, at_line, error_of}
use Rattle.job_lang.specs.Statements.{text_says, lines_say}
use Rattle.job_lang.specs.declared.faults.JobWhy.{JobWhy}
use Rattle.plain_text.specs.declared.stop.Stop.{Stop}
use Rattle.plain_text.specs.declared.stop.Stop.TheVariants as stop
use Rattle.job_lang.specs.declared.faults.JobError.{JobError}
use Rattle.job_lang.specs.declared.faults.JobError.TheVariants as job_error
use Rattle.job_lang.specs.declared.statement.Draft.{Draft}

-- an error of a line keeps its fault when the line's number is put to it
pub fails_at : {Y : Type 0} (line : ℕ) (e : Stop JobWhy) (read : Result Y JobWhy) → Fails (why_of e) read → Fails (job_fault_of (error_of line e)) (at_line line read)
fails_at line stop.Memory read h = tt
fails_at line (stop.Fault why) read h = rw h refl

pub lines_next : (before line given : ℕ) (draft next : Draft) (texts after : List (List ℕ)) (text : List ℕ) → texts ≡ text ∷ after → line ≡ before + 1 → given ≡ line
    → at_line line (text_says line draft (trim text)) ≡ Ok next → lines_say given next after ≡ lines_say before draft texts
unfolding lines_say
lines_next before line given draft next texts after text is number same said = rw (same, is, ← number, said) refl

pub lines_stop : (e : JobError) (before line : ℕ) (draft : Draft) (texts after : List (List ℕ)) (text : List ℕ) → texts ≡ text ∷ after → line ≡ before + 1
    → Fails (job_fault_of e) (at_line line (text_says line draft (trim text))) → Fails (job_fault_of e) (lines_say before draft texts)
unfolding lines_say
lines_stop job_error.Memory before line draft texts after text is number said = tt
lines_stop (job_error.At at why) before line draft texts after text is number said = rw (is, ← number, said) refl

pub lines_end : (before : ℕ) (draft : Draft) (texts : List (List ℕ)) → texts ≡ [] → lines_say before draft texts ≡ Ok draft
unfolding lines_say
lines_end before draft texts is = rw is refl
