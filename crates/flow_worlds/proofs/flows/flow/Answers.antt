use Rattle.std.proofs.Common.{◌≡◌, ◌<◌, ◌∙◌, ℕ, List, Bool, length, arith, ap, sym, subst}
use Rattle.sdc_base.specs.HiddenSets.{is_hidden}
use Rattle.signed_network.specs.declared.arcs.Arc.{Arc}
use Rattle.flow_worlds.specs.declared.steps.Step.{Step}
use Rattle.signed_network.specs.Arcs.{AreArcsOf, arc_at}
use Rattle.signed_network.specs.Networks.{AreTouching}
use Rattle.flow_worlds.specs.Steps.{step_of}
use Rattle.flow_worlds.proofs.Answering.{hidden_known}
use Rattle.flow_worlds.proofs.Listed.{get_or_any}
use Rattle.flow_worlds.proofs.Searching.{of_cell, of_up}
use Rattle.flow_worlds.proofs.flows.flow.Goals as goal

pub raise-requires-clause-task : goal.raise-requires-clause-task
raise-requires-clause-task c =
    let cells = c.args.system.now.cells in
    let flags : c.as_slice-flags.result.now ≡ c.args.hidden.now.flags = c.as_slice-flags.ensures in
    let arcs : c.as_slice.result.now ≡ c.in_ok-network.network.arcs.items = c.as_slice.ensures.value in
    let are : AreArcsOf c.args.system.now.relations c.args.signs.now cells c.as_slice.result.now = subst (λ (xs : List Arc). AreArcsOf c.args.system.now.relations c.args.signs.now cells xs) (sym arcs) c.in_ok-network.ensures.arcs in
    let below : c.args.cell < length c.args.hidden.now.flags = hidden_known c.args.hidden.now.flags c.args.cell c.requires.hidden in
    let inside : c.args.cell < length c.in_ok-network.network.arcs.items = omega (arith, below, c.requires.ground.each_flag, c.in_ok-network.ensures.arcs.each) in
    let arc : c.index.result.now ≡ arc_at c.as_slice.result.now c.args.cell = c.index.ensures ∙ get_or_any c.in_ok-network.network.arcs.items c.args.cell c.index.result.now (record { from = 0; to = 0 }) inside ∙ ap (λ (xs : List Arc). arc_at xs c.args.cell) (sym arcs) in
    let step : c.step_of.result ≡ step_of c.args.cell (arc_at c.as_slice.result.now c.args.cell) c.is_up.result = c.step_of.ensures ∙ ap (λ (a : Arc). step_of c.args.cell a c.is_up.result) arc in
    let cell_is : c.step_of.result.cell ≡ c.args.cell = ap (λ (s : Step). s.cell) step ∙ of_cell c.args.cell (arc_at c.as_slice.result.now c.args.cell) c.is_up.result in
    let up_is : c.step_of.result.up ≡ c.is_up.result = ap (λ (s : Step). s.up) step ∙ of_up c.args.cell (arc_at c.as_slice.result.now c.args.cell) c.is_up.result in
    let touched : AreTouching c.as_slice-flags.result.now c.as_slice.result.now (length c.as_slice.result.now) c.as_slice-2.result.now =
    rw (c.as_slice-2.ensures.value, arcs) c.in_ok-network.ensures.network.touched in
    record {
      ground = record { each_cell = c.requires.ground.each_cell; each_flag = ap (λ (fs : List Bool). length fs) flags ∙ c.requires.ground.each_flag };
      fewer_than_2_32 = omega (arith, c.in_ok-network.ensures.network.fewer_than_2_32, c.in_ok-network.ensures.arcs.each);
      are_signs = c.requires.signs;
      are_arcs = are;
      points = ap (λ (xs : List (List ℕ)). length xs) c.as_slice-2.ensures.value ∙ c.in_ok-network.ensures.points;
      touched = touched;
      asked_hidden = ap (λ (n : ℕ). is_hidden c.as_slice-flags.result.now n) cell_is ∙ ap (λ (fs : List Bool). is_hidden fs c.args.cell) flags ∙ c.requires.hidden;
      asked_along = step ∙ ap (λ (u : Bool). step_of c.args.cell (arc_at c.as_slice.result.now c.args.cell) u) (sym up_is) ∙ ap (λ (n : ℕ). step_of n (arc_at c.as_slice.result.now n) c.step_of.result.up) (sym cell_is);
    }
