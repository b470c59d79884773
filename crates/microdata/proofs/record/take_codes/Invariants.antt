use Rattle.std.proofs.Common.{◌≡◌, ◌-◌, ◌≤◌, All, length, take, drop}
use Rattle.microdata.specs.Keeping.{IsVariable}
use Rattle.microdata.specs.OneRecord.{variables_say}
use Rattle.microdata.proofs.VariableSteps.{with_fronts}
use Rattle.microdata.proofs.record.take_codes.Given as goal

abbrev pub invariant-variables : goal.invariant-variables
invariant-variables l = record {
  so_far : variables_say l.fn.variables.items l.line ≡ with_fronts (take l.k l.variables.items) l.places.items (variables_say (drop l.k l.variables.items) l.line);
  count : length l.places.items ≡ l.k;
  within : l.k ≤ length l.variables.items;
  few : length l.variables.items ≤ 8;
  sound : All (IsVariable l.needed) l.variables.items;
}

abbrev pub decreases-variables : goal.decreases-variables
decreases-variables l = length l.variables.items - l.k
