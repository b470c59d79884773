use Rattle.std.proofs.Common.{◌≡◌, ℕ, ◌+◌, [], ◌∷◌, ◌++◌, take, map, length, rules, ap, sym, ◌∙◌, subst, All, arith}
use Rattle.std.specs.Prelude.{Ok, Option}
use Rattle.std.specs.List.{zip}
use Rattle.sdc_base.specs.RuleLevels.{Figures}
use Rattle.apriori.specs.declared.prior.Prior.{Prior}
use Rattle.apriori.specs.Settling.{SettledCell, view_of_cell, told_of, settled_cell}
use Rattle.apriori.specs.Faults.{LineOf}
use Rattle.apriori.specs.PrimaryShown.{first_of, first_clash}
use Rattle.apriori.specs.CellLevels.{HasLevelsInRange}
use Rattle.std.proofs.lemmas.List.Elements.{All-append}
use Rattle.apriori.proofs.Open.{all_one}
use Rattle.apriori.proofs.Pairs.{prior_at, clash_by_cell, clash_more, settled_more, all_pairs}
use Rattle.apriori.proofs.settling.cells_of.Goals as goal

pub settled_cell-settled-requires-clause-prior : goal.settled_cell-settled-requires-clause-prior
settled_cell-settled-requires-clause-prior c = prior_at c.args.marks.now c.args.priors.now c.cells.cell _ _ c.requires.priors c.cells-test.true

pub cells-preserved : goal.cells-preserved
cells-preserved c =
    let is : c.push.new.self.items ≡ c.cells.cells.items ++ c.settled_cell-settled.result ∷ [] = c.in_ok-push.ensures.items in
    let count : length c.push.new.self.items ≡ c.cells.cell + 1 = search rules in
    record {
      told =
          ap (map view_of_cell) is
          ∙ settled_more c.args.rules.now c.args.marks.now c.args.priors.now c.cells.cell _ _ c.cells.cells.items c.settled_cell-settled.result c.requires.priors.one_each c.cells-test.true c.cells.invariant.told c.settled_cell-settled.ensures.seen;
      clash =
          c.first_line-clash.ensures
          ∙ ap (λ (first : Option LineOf). first_of first c.clash_of.result) c.cells.invariant.clash
          ∙ ap (λ (clash : Option LineOf). first_of (first_clash c.args.rules.now (take c.cells.cell (zip (told_of c.args.marks.now) c.args.priors.now))) clash)
          (c.clash_of.ensures ∙ clash_by_cell c.args.rules.now _ _ c.settled_cell-settled.result c.settled_cell-settled.ensures.seen)
          ∙ sym (clash_more c.args.rules.now c.args.marks.now c.args.priors.now c.cells.cell _ _ c.requires.priors.one_each c.cells-test.true);
      count = count;
      levels = subst (λ cells. All HasLevelsInRange cells) (sym is) (All-append HasLevelsInRange c.cells.cells.items (c.settled_cell-settled.result ∷ []) c.cells.invariant.levels (all_one HasLevelsInRange c.settled_cell-settled.result c.settled_cell-settled.ensures.levels));
    }

pub returns-clause-exact : goal.returns-clause-exact
returns-clause-exact c =
    let end : c.cells.cell ≡ length c.args.priors.now = omega (arith, c.cells-test.false, c.cells.auto.cell-end) in
    let pairs = zip (told_of c.args.marks.now) c.args.priors.now in
    let f : Figures × Prior → SettledCell = λ (pair : Figures × Prior). settled_cell c.args.rules.now pair.0 pair.1 in
    ap Ok (sym (c.cells.invariant.told ∙ ap (λ (n : ℕ). map f (take n pairs)) end ∙ ap (map f) (all_pairs c.args.marks.now c.args.priors.now c.requires.priors.one_each)))

pub returns-clause-clash : goal.returns-clause-clash
returns-clause-clash c =
    let end : c.cells.cell ≡ length c.args.priors.now = omega (arith, c.cells-test.false, c.cells.auto.cell-end) in
    c.cells.invariant.clash ∙ ap (λ (n : ℕ). first_clash c.args.rules.now (take n (zip (told_of c.args.marks.now) c.args.priors.now))) end
    ∙ ap (first_clash c.args.rules.now) (all_pairs c.args.marks.now c.args.priors.now c.requires.priors.one_each)
