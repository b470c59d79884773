use Rattle.std.proofs.Common.{arith}
use Rattle.std.proofs.lemmas.Grind.{common_steps}
use Rattle.interval_audit.proofs.terms.form_terms.Goals as goal

pub parts-preserved : goal.parts-preserved
parts-preserved c = grind (arith, common_steps)

pub returns : goal.returns
returns c = grind (arith, common_steps)
