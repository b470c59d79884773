use Rattle.std.proofs.Common.{◌≡◌, drop}
use Rattle.std.specs.Prelude.{fold}
use Rattle.job_inputs.specs.Layouts.{up_to_field}
use Rattle.job_inputs.proofs.layouts.last_of_fields.Given as goal

abbrev pub invariant-fields : goal.invariant-fields
invariant-fields l = fold up_to_field 0 l.fields ≡ fold up_to_field l.last (drop l.field-index l.fields)
