use Rattle.microdata.proofs.Numbered.{faults_are_numbered}
use Rattle.microdata.proofs.laws.faults_are_numbered.Goals as goal

pub returns : goal.returns
returns c = faults_are_numbered
