use Rattle.std.proofs.Common.{List, subst, sym}
use Rattle.sdc_base.specs.declared.tops.Unit.{Unit as Contribution}
use Rattle.sdc_base.specs.Largest.{AreHeavy}
use Rattle.sdc_base.proofs.Kept.{heavy_kept}
use Rattle.sdc_base.proofs.tops.Tops.put.Goals as goal

pub invariant_of-self-clause-heavy : goal.invariant_of-self-clause-heavy
invariant_of-self-clause-heavy c =
    let Heavy : List Contribution → Type 0 = λ t. AreHeavy c.args.self.now.scale t in
    subst Heavy (sym c.put_in.ensures) (heavy_kept c.args.self.now.scale c.args.self.now.keep c.args.self.now.list _ c.args.self.now.heavy c.requires)
