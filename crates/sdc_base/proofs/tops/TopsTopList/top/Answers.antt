use Rattle.std.proofs.Common.{◌∙◌, FitsSigned, rules}
use Rattle.std.specs.Int.{w128}
use Rattle.std.proofs.lemmas.Int.{to_z-of_z}
use Rattle.sdc_base.proofs.Reordering.{tells_largest}
use Rattle.sdc_base.proofs.tops.TopsTopList.top.Goals as goal

pub returns : goal.returns
returns c = λ units told.
    let fits : FitsSigned w128 c.sum_of_largest.result = search rules in
    to_z-of_z w128 c.sum_of_largest.result fits ∙ c.sum_of_largest.ensures.value ∙ tells_largest c.args.n units c.args.self.now told c.args.self.now.heavy c.requires
