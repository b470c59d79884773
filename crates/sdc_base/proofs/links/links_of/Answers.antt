use Rattle.std.proofs.Common.{refl, arith, subst, sym, ◌∙◌}
use Rattle.sdc_base.specs.Ends.{AreKnown, ends_at}
use Rattle.sdc_base.proofs.Opposing.{ends-known, opposed-all, opposed-next, signs-oppose}
use Rattle.sdc_base.proofs.links.links_of.Goals as goal

pub link_ends-requires-clause-known : goal.link_ends-requires-clause-known
link_ends-requires-clause-known c =
    let relations = c.args.system.now.relations in
    let cell = c.cells.at-index in
    let e = ends_at c.args.ends.now cell in
    subst (λ n. AreKnown n e) (sym c.cells.invariant.each) (ends-known relations cell e (c.requires.ends.apart cell) (c.requires.ends.all cell))

pub returns-then-not-link_ends-clause-none : goal.returns-then-not-link_ends-clause-none
returns-then-not-link_ends-clause-none c = λ signs are.
    let relations = c.args.system.now.relations in
    let cell = c.cells.at-index in
    c.if-not-link_ends.ensures.none refl signs (c.cells.invariant.on signs are)
    (signs-oppose relations signs cell (ends_at c.args.ends.now cell) (c.requires.ends.apart cell) (c.requires.ends.all cell) are)

pub cells-preserved : goal.cells-preserved
cells-preserved c =
    let relations = c.args.system.now.relations in
    let cell = c.cells.at-index in
    let done = c.if-not-link_ends.ensures in
    record {
      links = done.links;
      each = done.each ∙ c.cells.invariant.each;
      on = λ signs are. done.on signs (c.cells.invariant.on signs are) (signs-oppose relations signs cell (ends_at c.args.ends.now cell) (c.requires.ends.apart cell) (c.requires.ends.all cell) are);
      opposed = λ signs follow. opposed-next signs c.args.ends.now cell (done.opposed refl signs follow) (c.cells.invariant.opposed signs (done.back signs follow));
    }

pub returns-clause-opposed : goal.returns-clause-opposed
returns-clause-opposed c = λ signs follow. opposed-all signs c.args.ends.now c.cells.at-index (omega (arith, c.cells-test.false)) (c.cells.invariant.opposed signs follow)
