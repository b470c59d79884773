use Rattle.microdata.proofs.Standing.{faults_stand}
use Rattle.microdata.proofs.laws.faults_stand.Goals as goal

pub returns : goal.returns
returns c = faults_stand
