-- A maker of trees that has no fault to give wants memory.
use Rattle.std.proofs.Common.{◌≡◌, Result, Ok, refl}
use Rattle.sdc_base.specs.Answers.{Fails}
use Rattle.sdc_base.specs.Trees.{Tree}
use Rattle.code_trees.specs.Faults.{tree_fault_of}
use Rattle.code_trees.specs.declared.tree_fault.TreeFault.{TreeFault}
use Rattle.code_trees.specs.declared.tree_fault.TreeFault.TheVariants as fault

pub memory-alone : (one : TreeFault) (read : Result Tree TreeFault) (tree : Tree) → read ≡ Ok tree → Fails (tree_fault_of one) read → one ≡ fault.Memory
memory-alone (fault.NoCode n) read tree fine h = absurd cc
memory-alone (fault.Jump n) read tree fine h = absurd cc
memory-alone (fault.TooDeep n) read tree fine h = absurd cc
memory-alone (fault.Blank n) read tree fine h = absurd cc
memory-alone (fault.IsTotal n) read tree fine h = absurd cc
memory-alone (fault.Twice n) read tree fine h = absurd cc
memory-alone (fault.TooMany n) read tree fine h = absurd cc
memory-alone fault.Memory read tree fine h = refl
