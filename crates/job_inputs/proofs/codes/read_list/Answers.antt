use Rattle.std.proofs.Common.{Ok, ap, sym, ◌∙◌}
use Rattle.job_inputs.proofs.Causes.{look-ends, nothing-looked, read-wider}
use Rattle.job_inputs.proofs.Coming.{list-comes}
use Rattle.job_inputs.proofs.Listing.{none_listed, unlisted-is}
use Rattle.job_inputs.specs.CodeSources.{codes_in}
use Rattle.job_inputs.proofs.codes.read_list.Goals as goal

pub returns-in-Some : goal.returns-in-Some
returns-in-Some g c =
    let v = c.args.variable.now in
    read-wider _ _ _ _ _ _ _ _
    (λ fs. ap (codes_in fs c.args.place v.total) (sym c.in-Some.is))
    (λ fs f held comes. list-comes c.args.place v c.in-Some.name f held c.in-Some.is comes)
    c.load_list.ensures

pub returns-in-None : goal.returns-in-None
returns-in-None g c =
    let v = c.args.variable.now in
    look-ends _ _ _ _ _ _ (nothing-looked _ _) (nothing-looked _ _)
    (λ fs told. unlisted-is fs c.args.place v.total v.codes c.in-None.is ∙ ap Ok (sym c.new.ensures.items))
    (none_listed v.total c.new.result.items c.new.ensures.items)
