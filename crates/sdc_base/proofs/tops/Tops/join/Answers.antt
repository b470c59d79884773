use Rattle.std.proofs.Common.{pos, ℕ, ◌≡◌, ◌∙◌, ap, sym, List, ◌++◌, take, fold, length, arith}
use Rattle.std.proofs.lemmas.List.{take_all}
use Rattle.std.proofs.lemmas.List.Sorted.{IsPermutation-append, IsPermutation-trans}
use Rattle.sdc_base.specs.declared.tops.Unit.{Unit as Contribution}
use Rattle.sdc_base.specs.Largest.{with_contribution, ranking_of}
use Rattle.sdc_base.proofs.Joining.{joined_kept, joined_next, ranked_moves}
use Rattle.sdc_base.proofs.tops.Tops.join.Goals as goal

pub units-preserved : goal.units-preserved
units-preserved c =
    let d : Contribution = record { value = pos 0; weight = 0 } in
    record {
      keep = c.put.ensures.keep ∙ c.units.invariant.keep;
      scale = c.put.ensures.scale ∙ c.units.invariant.scale;
      list = c.put.ensures.list ∙ joined_next c.units.self.keep c.args.self.now.keep c.units.unit-index c.args.self.now.list c.units.self.list c.as_slice-unit-items.result.now c.args.other.now.list d c.units.invariant.keep c.as_slice-unit-items.ensures c.units-test.true c.units.invariant.list;
    }

pub returns-clause-tells : goal.returns-clause-tells
returns-clause-tells c = λ units more one other.
    let long = ap (λ (us : List Contribution). length us) c.as_slice-unit-items.ensures in
    let whole : take c.units.unit-index c.args.other.now.list ≡ c.args.other.now.list = take_all c.units.unit-index c.args.other.now.list (omega (arith, long, c.units-test.false)) in
    record {
      order = one.order ++ ranking_of other.order;
      same = IsPermutation-append units one.order more (ranking_of other.order) one.same (IsPermutation-trans more other.order (ranking_of other.order) other.same (ranked_moves other.order));
      kept =
          c.units.invariant.list
          ∙ ap (λ (us : List Contribution). take c.args.self.now.keep (fold with_contribution c.args.self.now.list us)) (whole ∙ other.kept)
          ∙ ap (λ (zs : List Contribution). take c.args.self.now.keep (fold with_contribution zs (take c.args.other.now.keep (ranking_of other.order)))) one.kept
          ∙ joined_kept c.args.self.now.keep c.args.other.now.keep one.order other.order c.requires.keep
          ∙ ap (λ (k : ℕ). take k (ranking_of (one.order ++ ranking_of other.order))) (sym c.units.invariant.keep);
    }
