use Rattle.release_laws.proofs.OneJudgement.{judged-in-one-way}
use Rattle.release_laws.proofs.laws.inputs_are_judged_in_one_way.Goals as goal

pub returns : goal.returns
returns c = judged-in-one-way
