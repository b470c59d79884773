use Rattle.std.proofs.Common.{◌≡◌, ◌+◌, [], ◌∷◌, length, set, ap, sym, ◌∙◌, arith, length-append}
use Rattle.std.proofs.lemmas.List.{take_all}
use Rattle.tableau.proofs.NewRows.{none_left, no_place, left_less, pop_left, placed_made, placed_kept, placed_all}
use Rattle.tableau.proofs.placing.place_rows.Goals as goal

pub place-init : goal.place-init
place-init c = record { left = sym (take_all (length c.args.news.items) c.args.news.items (omega arith)); placed = no_place c.args.rows.now.items c.args.news.items (length c.args.news.items) c.requires }

pub index_mut-requires : goal.index_mut-requires
index_mut-requires c =
    let size : length c.place.news.items ≡ length c.pop.new.self.items + 1 = ap length c.in-Some.ensures.items ∙ length-append c.pop.new.self.items (c.in-Some.new ∷ []) in
    omega (arith, size, left_less c.args.news.items c.place.news.items c.place.invariant.left, c.requires, c.place.invariant.placed.long, c.len-k.ensures)

pub place-preserved-in-Some-new : goal.place-preserved-in-Some-new
place-preserved-in-Some-new c =
    let popped = pop_left c.args.news.items c.place.news.items c.pop.new.self.items c.in-Some.new c.place.invariant.left c.in-Some.ensures.items in
    let size : length c.place.news.items ≡ length c.pop.new.self.items + 1 = ap length c.in-Some.ensures.items ∙ length-append c.pop.new.self.items (c.in-Some.new ∷ []) in
    let k_is : c.len-k.result ≡ length c.pop.new.self.items = omega (arith, c.len-k.ensures) in
    record {
      left = popped.0;
      placed = placed_made c.args.rows.now.items c.place.rows.items (set c.place.rows.items c.len-k.result c.in-Some-new.made) c.args.news.items (length c.place.news.items) (length c.pop.new.self.items) c.in-Some-new.made size (omega (arith, size, left_less c.args.news.items c.place.news.items c.place.invariant.left, c.requires))
          (popped.1 ∙ c.in-Some-new.is) (ap (λ n. set c.place.rows.items n c.in-Some-new.made) k_is) c.place.invariant.placed;
    }

pub place-preserved : goal.place-preserved
place-preserved c =
    let popped = pop_left c.args.news.items c.place.news.items c.pop.new.self.items c.in-Some.new c.place.invariant.left c.in-Some.ensures.items in
    let size : length c.place.news.items ≡ length c.pop.new.self.items + 1 = ap length c.in-Some.ensures.items ∙ length-append c.pop.new.self.items (c.in-Some.new ∷ []) in
    record {
      left = popped.0;
      placed = placed_kept c.args.rows.now.items c.place.rows.items c.args.news.items (length c.place.news.items) (length c.pop.new.self.items) size (popped.1 ∙ c.in_default-new.is) c.place.invariant.placed;
    }

pub returns : goal.returns
returns c = placed_all c.args.rows.now.items c.place.rows.items c.args.news.items (length c.place.news.items) c.requires (none_left (length c.place.news.items) (λ up. c.in_default.ensures.variant.1 (omega (arith, up)))) c.place.invariant.placed
