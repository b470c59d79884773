-- Circuits are balanced, and in a balanced network no cell alone is no multiple.
use Rattle.std.proofs.Common.{◌≡◌, ◌≢◌, ◌⊎◌, inl, inr, ℕ, ◌<◌, List, [], ◌∷◌, length, All, ℤ, pos, negsuc, ◌-ℤ◌, ◌*ℤ◌, arith, ap, ◌∙◌}
use Rattle.std.proofs.Math.IntN.{*ℤ_comm}
use Rattle.std.proofs.lemmas.Int.{ints}
use Rattle.std.proofs.lemmas.List.Elements.{All-head, All-tail, All-map, All-weaker}
use Rattle.sdc_base.specs.Forms.{Term, coefficient}
use Rattle.sdc_base.specs.Systems.{Numbers}
use Rattle.sdc_base.specs.Roundings.{IsMultiple}
use Rattle.sdc_base.proofs.WholeNumbers.{minus_times}
use Rattle.sdc_base.proofs.TotalLemmas.{sum_of-cons, sum_below-same}
use Rattle.sdc_base.proofs.WeakDual.{value_of, by_cells}
use Rattle.signed_network.specs.declared.arcs.Arc.{Arc}
use Rattle.signed_network.specs.Arcs.{at_point, brings_to, arc_at}
use Rattle.signed_network.specs.Balances.{IsBalanced}
use Rattle.rounding.specs.declared.steps.Step.{Step}
use Rattle.rounding.specs.Circuits.{IsAlong, IsChainOfSteps, IsWalk, turns_of}
use Rattle.rounding.proofs.Lone.{lone_weighted}

-- ---- circuits

step_brings : (arc : Arc) (step : Step) (point : ℕ) → IsAlong arc step → step.turn *ℤ brings_to arc point ≡ at_point step.end point -ℤ at_point step.start point
step_brings arc step point (inl (one, start, end)) =
    ap (λ z. z *ℤ brings_to arc point) one
    ∙ omega (arith, ints, ap (λ (p : ℕ). at_point p point) start, ap (λ (p : ℕ). at_point p point) end)
step_brings arc step point (inr (minus, start, end)) =
    ap (λ z. z *ℤ brings_to arc point) minus ∙ minus_times (pos 1) (brings_to arc point)
    ∙ omega (arith, ints, ap (λ (p : ℕ). at_point p point) start, ap (λ (p : ℕ). at_point p point) end)

abbrev Walked : List Arc → Step → Type 0
Walked arcs step = (step.cell < length arcs) × IsAlong (arc_at arcs step.cell) step

walk_brings : (arcs : List Arc) (from : ℕ) (steps : List Step) (to point : ℕ) → All (Walked arcs) steps → IsChainOfSteps from steps to → value_of (λ cell. brings_to (arc_at arcs cell) point) (turns_of steps) ≡ at_point to point -ℤ at_point from point
walk_brings arcs from [] to point along chained = omega (arith, ints, ap (λ (p : ℕ). at_point p point) chained)
walk_brings arcs from (step ∷ steps) to point along chained =
    sum_of-cons (λ (t : Term). t.1 *ℤ brings_to (arc_at arcs t.0) point) (step.cell, step.turn) (turns_of steps)
    ∙ omega (arith, ints, walk_brings arcs step.end steps to point (All-tail (Walked arcs) step steps along) chained.1, step_brings (arc_at arcs step.cell) step point (All-head (Walked arcs) step steps along).1, ap (λ (p : ℕ). at_point p point) chained.0)

pub circuit_balanced : (arcs : List Arc) (points start : ℕ) (steps : List Step) → IsWalk arcs start steps start → IsBalanced arcs points (coefficient (turns_of steps))
circuit_balanced arcs points start steps walk point inside =
    by_cells (length arcs) (λ cell. brings_to (arc_at arcs cell) point) (turns_of steps)
    (All-map (λ (t : Term). t.0 < length arcs) (λ (step : Step). (step.cell, step.turn)) steps (All-weaker (Walked arcs) (λ (step : Step). step.cell < length arcs) (λ step walked. walked.0) steps walk.along))
    ∙ walk_brings arcs start steps start point walk.along walk.chained
    ∙ omega (arith, ints)

-- ---- no cell alone

pub not_alone : (arcs : List Arc) (points : ℕ) (base : ℤ) (numbers : Numbers) (point cell : ℕ) → IsBalanced arcs points numbers → point < points → cell < length arcs → (brings_to (arc_at arcs cell) point ≡ pos 1) ⊎ (brings_to (arc_at arcs cell) point ≡ negsuc 0)
    → ((other : ℕ) → other < length arcs → other ≢ cell → (brings_to (arc_at arcs other) point ≡ pos 0) ⊎ IsMultiple base (numbers other)) → IsMultiple base (numbers cell)
not_alone arcs points base numbers point cell balanced inside below once others =
    lone_weighted (length arcs) base (λ c. brings_to (arc_at arcs c) point) numbers cell below
    (sum_below-same (length arcs) (λ c. brings_to (arc_at arcs c) point *ℤ numbers c) (λ c. numbers c *ℤ brings_to (arc_at arcs c) point) (λ c _. *ℤ_comm (brings_to (arc_at arcs c) point) (numbers c)) ∙ balanced point inside) once others
