-- Outputs that are looked up one after the other.
use Rattle.std.proofs.Common.{◌≡◌, ℕ, suc, ◌+◌, List, [], ◌∷◌, ◌++◌, Ok, refl, sym}
use Rattle.sdc_base.specs.Answers.{Fails}
use Rattle.job_lang.specs.Faults.{job_fault_of}
use Rattle.job_lang.specs.declared.faults.JobError.{JobError}
use Rattle.job_lang.specs.declared.faults.JobError.TheVariants as job_error
use Rattle.job_lang.specs.declared.job.OutputLine.{OutputLine}
use Rattle.job_lang.specs.declared.statement.Statement.{Statement}
use Rattle.job_lang.specs.MissingCommands.{output_of_table, outputs_from}
use Rattle.job_lang.proofs.Fronts.{with_front, regroup, none_left}

pub outputs_go_on : (count left place : ℕ) (front : List OutputLine) (all : List Statement) (output : OutputLine) → count ≡ suc left → output_of_table place all ≡ Ok output
    → with_front (front ++ output ∷ []) (outputs_from left (place + 1) all) ≡ with_front front (outputs_from count place all)
unfolding outputs_from
outputs_go_on count left place front all output is found = rw (is, found) (sym (regroup front output (outputs_from left (place + 1) all)))

pub outputs_stop : (e : JobError) (count left place : ℕ) (front : List OutputLine) (all : List Statement) → count ≡ suc left → Fails (job_fault_of e) (output_of_table place all)
    → Fails (job_fault_of e) (with_front front (outputs_from count place all))
unfolding outputs_from
outputs_stop job_error.Memory count left place front all is found = tt
outputs_stop (job_error.At line why) count left place front all is found = rw (is, found) refl

pub outputs_end : (count place : ℕ) (front : List OutputLine) (all : List Statement) → count ≡ 0 → with_front front (outputs_from count place all) ≡ Ok front
unfolding outputs_from
outputs_end count place front all is = rw is (none_left front)
