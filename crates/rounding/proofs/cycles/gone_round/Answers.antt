use Rattle.std.proofs.Common.{◌≡◌, ◌∙◌, List, ℤ, length, arith, rules, ap, sym, subst, take_at, FitsSigned}
use Rattle.std.specs.Int.{w128}
use Rattle.std.proofs.lemmas.Int.{to_z-of_z}
use Rattle.sdc_base.specs.Systems.{number_at}
use Rattle.signed_network.specs.Balances.{IsBalanced}
use Rattle.rounding.specs.Rings.{AreBeside}
use Rattle.signed_network.proofs.Balances.{held_balanced}
use Rattle.rounding.proofs.Circling.{start_beside, all_rounded}
use Rattle.rounding.proofs.cycles.gone_round.Goals as goal

pub round_cells-requires : goal.round_cells-requires
round_cells-requires c =
    let base : FitsSigned w128 c.args.base = c.ranges.base in
    let system = c.args.system.now in
    let truths = c.args.truths.now in
    let arcs = c.in_ok-network.network.arcs.items in
    let points = length c.in_ok-network.network.touching.items in
    let copied : c.in_ok-numbers.numbers.items ≡ truths = search rules in
    let same : c.as_mut_slice.result.now ≡ truths = c.as_mut_slice.ensures.value ∙ copied in
    let many = ap (λ (xs : List ℤ). length xs) same in
    let network = c.in_ok-network.ensures.network in
    simp to_z-of_z (record {
      network = network;
      each = omega (arith, c.in_ok-network.ensures.arcs.each, c.requires.proper.each, many);
      balanced = subst (λ (xs : List ℤ). IsBalanced arcs points (number_at xs)) (sym same) (held_balanced system.relations c.args.signs.now system.cells arcs points (number_at truths) c.in_ok-network.ensures.arcs system.named c.in_ok-network.ensures.points network.within c.requires.proper.hold);
      beside = subst (λ (xs : List ℤ). AreBeside truths c.args.base xs) (sym same) (start_beside system truths c.args.base c.requires.proper);
    })

pub returns : goal.returns
returns c =
    let base : FitsSigned w128 c.args.base = c.ranges.base in
    let beside = simp to_z-of_z at c.in_ok-round_cells.ensures.beside in
    let whole = simp to_z-of_z at c.in_ok-round_cells.ensures.all_multiples in
    let copied : c.in_ok-numbers.numbers.items ≡ c.args.truths.now = search rules in
    let each : length c.round_cells.new.numbers ≡ c.in_ok-numbers.numbers.len = omega (arith, beside.each, ap (λ (xs : List ℤ). length xs) copied, c.in_ok-numbers.numbers.ok.0) in
    let values : c.new.result ≡ c.round_cells.new.numbers = c.new.ensures ∙ take_at c.round_cells.new.numbers _ c.in_ok-numbers.numbers.len each in
    all_rounded c.args.system.now c.args.signs.now c.args.truths.now c.args.base c.in_ok-network.network.arcs.items (length c.in_ok-network.network.touching.items) c.round_cells.new.numbers c.new.result c.requires.proper c.in_ok-network.ensures.arcs c.in_ok-network.ensures.points values beside c.in_ok-round_cells.ensures.balanced whole
