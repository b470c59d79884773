use Rattle.std.proofs.Common.{ℕ, ap, sym, take, [], ◌∷◌, ◌++◌, ◌∙◌, FitsSigned, w64}
use Rattle.std.proofs.lemmas.Int.{to_z-of_z}
use Rattle.std.proofs.lemmas.List.Sorted.{IsPermutation-append_left}
use Rattle.sdc_base.specs.Largest.{contribution, ranking_of}
use Rattle.sdc_base.proofs.Kept.{tells_more}
use Rattle.sdc_base.proofs.tops.TopsTopList.offer.Goals as goal

pub returns-clause-tells : goal.returns-clause-tells
returns-clause-tells c = λ units told.
    let fits : FitsSigned w64 c.args.value = c.ranges.value in
    let is = simp to_z-of_z at c.put.ensures.list in
    record {
      order = told.order ++ contribution c.args.value c.args.weight ∷ [];
      same = IsPermutation-append_left (contribution c.args.value c.args.weight ∷ []) units told.order told.same;
      kept = is ∙ tells_more c.args.self.now.keep told.order c.args.self.now.list (contribution c.args.value c.args.weight) told.kept ∙ ap (λ (k : ℕ). take k (ranking_of (told.order ++ contribution c.args.value c.args.weight ∷ []))) (sym c.put.ensures.keep);
    }
