-- From a cell that isn't a multiple one can go on over another, and a walk that goes round leaves fewer of them.
use Rattle.std.proofs.Common.{◌≡◌, ◌≢◌, ◌⊎◌, inl, inr, ℕ, ◌+◌, ◌<◌, ◌≤◌, ◌==◌, Bool, true, false, List, length, All, get_or, ℤ, pos, negsuc, arith, refl, ap, sym, subst, ◌∙◌, take, drop, ◌^◌, length-drop, length-take}
use Rattle.std.proofs.lemmas.List.{take-append-drop, get_or-replicate, get_or-take}
use Rattle.std.specs.List.Sorted.{IsNonDecreasing}
use Rattle.std.specs.List.{Contains}
use Rattle.std.specs.Int.RustNames.{int_div}
use Rattle.std.proofs.lemmas.Int.{ints, quot-rem}
use Rattle.std.proofs.lemmas.Bool.{cases_lt}
use Rattle.std.proofs.lemmas.Bool.Decides.{Decides-eqb, nat_tests}
use Rattle.std.proofs.lemmas.List.Elements.{All-contains, All-contains_itself, All-weaker, All-get_or, All-append, All-from_get_or, Contains-append_right}
use Rattle.sdc_base.specs.declared.system.System.{System}
use Rattle.sdc_base.specs.Roundings.{IsMultiple, IsRounding}
use Rattle.sdc_base.specs.Systems.{number_at}
use Rattle.signed_network.specs.declared.arcs.Arc.{Arc}
use Rattle.rounding.specs.declared.steps.Step.{Step}
use Rattle.rounding.specs.Neighbours.{is_multiple}
use Rattle.signed_network.specs.Arcs.{brings_to, arc_at, AreArcsOf}
use Rattle.signed_network.specs.Networks.{cells_at, Touches}
use Rattle.signed_network.specs.Balances.{IsBalanced}
use Rattle.rounding.specs.Rings.{AreBeside, IsWholeNetwork, KeepMultiples}
use Rattle.rounding.specs.Tasks.{IsProper}
use Rattle.sdc_base.specs.Truths.{IsTruth}
use Rattle.rounding.specs.Circuits.{IsAlong, IsMove, AreMoves, GoesRound}
use Rattle.rounding.proofs.Adjacency.{no_rest, left_within}
use Rattle.signed_network.proofs.Arcing.{at_own, at_other}
use Rattle.signed_network.proofs.Balances.{balanced_holds}
use Rattle.rounding.proofs.Balances.{not_alone}
use Rattle.rounding.proofs.Moving.{number_from, truth_from}
use Rattle.rounding.proofs.NamingSteps.{read_list}
use Rattle.rounding.proofs.Rings.{is_multiple_from, beside_is_adjacent}
use Rattle.rounding.proofs.SumSteps.{get_or_any}
use Rattle.rounding.proofs.Walking.{Walked, steps_few}

whole_multiple : (base number : ℤ) → is_multiple base number ≡ true → IsMultiple base number
whole_multiple base number is = (int_div number base, omega (arith, ints, quot-rem number base, no_rest base number is))

pub ends_inside : (arcs : List Arc) (touching : List (List ℕ)) (step : Step) → IsWholeNetwork arcs touching → step.cell < length arcs → IsAlong (arc_at arcs step.cell) step → step.end < length touching
ends_inside arcs touching step network below (inl (_, start, end)) = omega (arith, end, (network.within step.cell below).1)
ends_inside arcs touching step network below (inr (_, start, end)) = omega (arith, end, (network.within step.cell below).0)

pub read_cells : (touching : List (List ℕ)) (point : ℕ) (item cells : List ℕ) → point < length touching → item ≡ get_or touching point item → cells ≡ item → cells ≡ cells_at touching point
read_cells touching point item cells inside read is = is ∙ read_list touching point item inside read

pub cells_inside : (arcs : List Arc) (touching : List (List ℕ)) (point : ℕ) → IsWholeNetwork arcs touching → All (λ cell. cell < length arcs) (cells_at touching point)
cells_inside arcs touching point network =
    All-weaker (Contains (cells_at touching point)) (λ cell. cell < length arcs) (λ cell has. (network.touched.only point cell has).0) (cells_at touching point) (All-contains_itself (cells_at touching point))

pub found_touches : (arcs : List Arc) (touching : List (List ℕ)) (point cell : ℕ) (arc : Arc) → IsWholeNetwork arcs touching → Contains (cells_at touching point) cell → arc ≡ get_or arcs cell arc → (cell < length arcs) × Touches arc point × (arc ≡ arc_at arcs cell)
found_touches arcs touching point cell arc network has read =
    let one = network.touched.only point cell has in
    let same : arc ≡ arc_at arcs cell = read ∙ get_or_any arcs cell arc (record { from = 0; to = 0 }) one.0 in
    (one.0, subst (λ (a : Arc). Touches a point) (sym same) one.2, same)

-- what the last step brings to the point where it ends
last_brings : (arc : Arc) (step : Step) → IsAlong arc step → step.start ≢ step.end → (brings_to arc step.end ≡ pos 1) ⊎ (brings_to arc step.end ≡ negsuc 0)
last_brings arc step (inl (_, start, end)) apart = inl (let to = at_own arc.to step.end (sym end) in let from = at_other arc.from step.end (λ same. apart (start ∙ same)) in omega (arith, ints, to, from))
last_brings arc step (inr (_, start, end)) apart = inr (let from = at_own arc.from step.end (sym end) in let to = at_other arc.to step.end (λ same. apart (start ∙ same)) in omega (arith, ints, to, from))

untouched_brings : (arc : Arc) (point : ℕ) → Touches arc point ⊎ (brings_to arc point ≡ pos 0)
untouched_brings arc point =
    elim (arc.from == point) as (λ b. (arc.from == point) ≡ b → Touches arc point ⊎ (brings_to arc point ≡ pos 0)) [
      | true ↦ λ test. inl (inl ((Decides-eqb arc.from point).0 test))
      | false ↦ λ test.
          let not_from : arc.from ≢ point = grind (arith, nat_tests, test) in
          elim (arc.to == point) as (λ b. (arc.to == point) ≡ b → Touches arc point ⊎ (brings_to arc point ≡ pos 0)) [
            | true ↦ λ other. inl (inr ((Decides-eqb arc.to point).0 other))
            | false ↦ λ other.
                let not_to : arc.to ≢ point = grind (arith, nat_tests, other) in
                inr (omega (arith, ints, at_other arc.to point not_to, at_other arc.from point not_from))
          ] refl
    ] refl

-- at the end of a step there is always another cell that isn't a multiple
pub never_stuck : (truths : List ℤ) (base : ℤ) (arcs : List Arc) (touching : List (List ℕ)) (numbers : List ℤ) (step : Step) → IsWholeNetwork arcs touching → length arcs ≡ length numbers → IsBalanced arcs (length touching) (number_at numbers) → AreBeside truths base numbers → IsMove base numbers step → IsAlong (arc_at arcs step.cell) step → step.start ≢ step.end
    → All (λ (cell : ℕ). (cell ≡ step.cell) ⊎ (is_multiple base (number_at numbers cell) ≡ true)) (cells_at touching step.end) → ⊥
never_stuck truths base arcs touching numbers step network each balanced are moved along apart all =
    let below : step.cell < length arcs = omega (arith, each, moved.inside) in
    let multiple : IsMultiple base (number_at numbers step.cell) =
    not_alone arcs (length touching) base (number_at numbers) step.end step.cell balanced (ends_inside arcs touching step network below along) below (last_brings (arc_at arcs step.cell) step along apart) others in
    let whole = is_multiple_from base (number_at numbers step.cell) are.from_one (number_from truths base numbers step.cell are (omega (arith, are.each, moved.inside))) multiple in
    let clash : true ≡ false = sym whole ∙ moved.partly in cc
  where
    others : (other : ℕ) → other < length arcs → other ≢ step.cell → (brings_to (arc_at arcs other) step.end ≡ pos 0) ⊎ IsMultiple base (number_at numbers other)
    others other inside apart_from =
        elim (untouched_brings (arc_at arcs other) step.end) as (λ _. (brings_to (arc_at arcs other) step.end ≡ pos 0) ⊎ IsMultiple base (number_at numbers other)) [
          | inl touches ↦
              elim (All-contains (λ (cell : ℕ). (cell ≡ step.cell) ⊎ (is_multiple base (number_at numbers cell) ≡ true)) (cells_at touching step.end) other all (network.touched.all step.end other inside (get_or-replicate (length arcs) other true false inside) touches)) as (λ _. (brings_to (arc_at arcs other) step.end ≡ pos 0) ⊎ IsMultiple base (number_at numbers other)) [
                | inl same ↦ absurd (apart_from same)
                | inr is ↦ inr (whole_multiple base (number_at numbers other) is)
              ]
          | inr none ↦ inl none
        ]

-- a step over a cell that isn't a multiple, as it is read
pub read_step : (base : ℤ) (arcs : List Arc) (numbers : List ℤ) (cell : ℕ) (arc : Arc) (step : Step) → length arcs ≡ length numbers → cell < length numbers → is_multiple base (number_at numbers cell) ≡ false → arc ≡ get_or arcs cell arc → step.cell ≡ cell → IsAlong arc step → Walked arcs step × IsMove base numbers step
read_step base arcs numbers cell arc step each below partly read same along =
    let here : cell < length arcs = omega (arith, each, below) in
    let is : arc ≡ arc_at arcs step.cell = read ∙ get_or_any arcs cell arc (record { from = 0; to = 0 }) here ∙ ap (λ (c : ℕ). arc_at arcs c) (sym same) in (
      (omega (arith, same, here), subst (λ (a : Arc). IsAlong a step) is along),
      record { inside = omega (arith, same, below); partly = ap (λ (c : ℕ). is_multiple base (number_at numbers c)) same ∙ partly; turned = turned_by along },
    )
  where
    turned_by : IsAlong arc step → (step.turn ≡ pos 1) ⊎ (step.turn ≡ negsuc 0)
    turned_by (inl (up, start, end)) = inl up
    turned_by (inr (down_so, start, end)) = inr down_so

pub from_read : (arcs : List Arc) (cell : ℕ) (arc : Arc) (step : Step) → cell < length arcs → arc ≡ get_or arcs cell arc → step.start ≡ arc.from → step.start ≡ (arc_at arcs cell).from
from_read arcs cell arc step below read start = start ∙ ap (λ (a : Arc). a.from) (read ∙ get_or_any arcs cell arc (record { from = 0; to = 0 }) below)

-- what goes round can be gone
pub record AreReadySteps (base : ℤ) (numbers : List ℤ) (steps : List Step) : Type 0 where
  pub moves : AreMoves base numbers steps
  pub some : 1 ≤ length steps
  pub few : length steps ≤ 2 ^ 32

pub round_ready : (base : ℤ) (arcs : List Arc) (touching : List (List ℕ)) (numbers : List ℤ) (steps circuit : List Step) (place : ℕ) → IsWholeNetwork arcs touching → length arcs ≡ length numbers → GoesRound arcs base numbers steps place → circuit ≡ drop place steps → AreReadySteps base numbers circuit
round_ready base arcs touching numbers steps circuit place network each round is =
    let few = steps_few (length numbers) (drop place steps) round.moved.once (All-weaker (IsMove base numbers) (λ (s : Step). s.cell < length numbers) (λ s one. one.inside) (drop place steps) round.moved.each) in
    let most = network.fewer_than_2_32 in
    let inside = round.place_inside in
    subst (λ (ss : List Step). AreReadySteps base numbers ss) (sym is) (record { moves = round.moved; some = omega (arith, length-drop place steps, inside); few = omega (arith, few, each, most) })

-- ---- all cells

pub whole_more : (base : ℤ) (before after : List ℤ) (k : ℕ) → k < length before → KeepMultiples base before after → is_multiple base (number_at after k) ≡ true → ((cell : ℕ) → cell < k → is_multiple base (number_at before cell) ≡ true) → (cell : ℕ) → cell < k + 1 → is_multiple base (number_at after cell) ≡ true
whole_more base before after k inside keeps whole all cell below =
    elim (cases_lt cell k) as (λ _. is_multiple base (number_at after cell) ≡ true) [
      | inl less ↦ keeps cell (omega (arith, inside, less)) (all cell less)
      | inr not_less ↦
          let same : cell ≡ k = omega arith in
          ap (λ (c : ℕ). is_multiple base (number_at after c)) same ∙ whole
    ]

-- the truths are beside themselves
pub start_beside : (system : System) (truths : List ℤ) (base : ℤ) → IsProper system truths base → AreBeside truths base truths
start_beside system truths base proper = record {
  from_one = proper.from_one;
  to_most = proper.to_most;
  within = proper.within;
  each = refl;
  beside = λ cell below.
      let truth : IsTruth (number_at truths cell) = All-get_or IsTruth truths cell (pos 0) below proper.within in
      let within = left_within base (number_at truths cell) proper.from_one truth.from_zero in
      record { low = omega (arith, ints, within.0); high = omega (arith, ints, within.1); stays = λ _. refl };
}

-- numbers beside the truths that are all multiples are a rounding
pub all_rounded : (system : System) (signs : List Bool) (truths : List ℤ) (base : ℤ) (arcs : List Arc) (points : ℕ) (numbers values : List ℤ) → IsProper system truths base → AreArcsOf system.relations signs system.cells arcs → points ≡ length system.relations + 1 → values ≡ numbers → AreBeside truths base numbers → IsBalanced arcs points (number_at numbers)
    → ((cell : ℕ) → cell < length numbers → is_multiple base (number_at numbers cell) ≡ true) → IsRounding system truths base values
all_rounded system signs truths base arcs points numbers values proper are many same beside balanced whole =
    subst (λ (xs : List ℤ). IsRounding system truths base xs) (sym same) (record {
      each = beside.each ∙ proper.each;
      adjacent = λ cell below.
          let inside : cell < length truths = omega (arith, below, proper.each) in
          beside_is_adjacent base (number_at truths cell) (number_at numbers cell) proper.from_one (truth_from truths base numbers cell beside inside).from_zero (beside.beside cell inside) (whole cell (omega (arith, inside, beside.each)));
      hold = balanced_holds system.relations signs system.cells arcs points (number_at numbers) are system.named (omega (arith, many)) balanced;
    })

-- ---- the front of a list, whose cells are multiples

pub with_front : (P : ℕ → Type 0) (cells : List ℕ) (place : ℕ) → All P (take place cells) → All P (drop place cells) → All P cells
with_front P cells place front rest = subst (λ (xs : List ℕ). All P xs) (take-append-drop place cells) (All-append P (take place cells) (drop place cells) front rest)

pub found_behind : (cells : List ℕ) (place cell : ℕ) → Contains (drop place cells) cell → Contains cells cell
found_behind cells place cell has = subst (λ (xs : List ℕ). Contains xs cell) (take-append-drop place cells) (Contains-append_right (take place cells) (drop place cells) cell has)

-- ascending numbers up to one that is below another are all below it
pub below_front : (cells : List ℕ) (k first : ℕ) → IsNonDecreasing cells → k < length cells → get_or cells k 0 < first → All (λ cell. cell < first) (take (k + 1) cells)
below_front cells k first sorted inside under =
    All-from_get_or (λ cell. cell < first) (take (k + 1) cells) 0 (λ i within.
    let short : i < k + 1 = omega (arith, within, length-take (k + 1) cells) in
    let same : get_or (take (k + 1) cells) i 0 ≡ get_or cells i 0 = get_or-take (k + 1) cells i 0 short in
    omega (arith, same, sorted i k 0 (omega (arith, short)) inside, under))
