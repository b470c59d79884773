use Rattle.interval_audit.proofs.FewerQuestions.{component_is_shared}
use Rattle.interval_audit.proofs.Reaching.{component_exists}
use Rattle.interval_audit.proofs.laws.components_exist.Goals as goal

pub returns-clause-component : goal.returns-clause-component
returns-clause-component c = component_exists

pub returns-clause-shared : goal.returns-clause-shared
returns-clause-shared c = component_is_shared
