use Rattle.std.proofs.Common.{◌≡◌, take}
use Rattle.job_lang.specs.BindingFaults.{outputs_fault}
use Rattle.job_lang.proofs.binding_faults.outputs_fault.Given as goal

abbrev pub invariant-loop-output : goal.invariant-loop-output
invariant-loop-output l = l.first ≡ outputs_fault l.tables l.variables l.fn.before (take l.output-index l.outputs)
