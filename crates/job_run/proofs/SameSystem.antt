-- The inputs of a job have one system: what is a rounding for one of it is one for another.
use Rattle.std.proofs.Common.{◌≡◌, List, [], ◌∷◌, length, map, arith, ap, sym, subst, ◌∙◌, ℤ, pos, ◌-ℤ◌}
use Rattle.std.proofs.lemmas.List.Elements.{All-cons, All-head, All-tail}
use Rattle.sdc_base.specs.Relations.{Sum, relations_among}
use Rattle.sdc_base.specs.Roundings.{IsRounding}
use Rattle.sdc_base.specs.Systems.{Numbers, HoldOn, form, number_at}
use Rattle.sdc_base.specs.Totals.{sum_of}
use Rattle.sdc_base.specs.Trees.{Tree}
use Rattle.sdc_base.specs.declared.dimension.Dimension.{Dimension}
use Rattle.sdc_base.specs.declared.relation.Relation.{Relation}
use Rattle.sdc_base.specs.declared.system.System.{System}
use Rattle.relations.specs.Holding.{sum_in}
use Rattle.job_inputs.proofs.Facts.{cells-are}
use Rattle.job_inputs.specs.Cells.{cells}
use Rattle.job_inputs.specs.declared.inputs.Inputs.{Inputs}
use Rattle.job_run.specs.Roundings.{IsSystemIn}

-- a form is 0 on numbers, for a total with its parts
abbrev Adds : Numbers → Sum → Type 0
Adds numbers sum = (numbers sum.0 -ℤ sum_of numbers sum.1) ≡ pos 0

-- relations with the same totals and parts hold on the same numbers
pub same-hold : (numbers : Numbers) (ones others : List Relation) → map sum_in ones ≡ map sum_in others → HoldOn numbers ones → HoldOn numbers others
same-hold numbers [] [] h holds = holds
same-hold numbers [] (other ∷ others) h holds = absurd cc
same-hold numbers (one ∷ ones) [] h holds = absurd cc
same-hold numbers (one ∷ ones) (other ∷ others) h holds =
    let front : sum_in one ≡ sum_in other = cc in
    let rest : map sum_in ones ≡ map sum_in others = cc in
    All-cons (λ (r : Relation). form numbers r ≡ pos 0) other others
    (subst (Adds numbers) front (All-head (λ (r : Relation). form numbers r ≡ pos 0) one ones holds))
    (same-hold numbers ones others rest (All-tail (λ (r : Relation). form numbers r ≡ pos 0) one ones holds))

-- what is a rounding for one system is one for any with as many cells and the same relations
pub same-rounding : (one other : System) (truths : List ℤ) (base : ℤ) (values : List ℤ) → one.cells ≡ other.cells → map sum_in one.relations ≡ map sum_in other.relations → IsRounding one truths base values → IsRounding other truths base values
same-rounding one other truths base values cells relations is = record {
  each = is.each ∙ cells;
  adjacent = λ cell inside. is.adjacent cell (omega (arith, inside, cells));
  hold = same-hold (number_at values) one.relations other.relations relations is.hold;
}

-- ---- the system of inputs

-- it has as many cells as the inputs
pub as-many-cells : (inputs : Inputs) (system : System) → IsSystemIn inputs system → system.cells ≡ length (cells inputs)
as-many-cells inputs system is = is.2.cells ∙ ap length (cells-are inputs is.0 is.1)

-- and the relations between these
pub its-relations : (inputs : Inputs) (system : System) → IsSystemIn inputs system → map sum_in system.relations ≡ relations_among inputs.records.trees inputs.described.bound.tables
its-relations inputs system is =
    is.2.relations
    ∙ ap (λ (trees : List Tree). relations_among trees (is.0).tables) is.1.trees
    ∙ ap (λ (tables : List (List Dimension)). relations_among inputs.records.trees tables) is.1.tables

-- what is a rounding for a system of the inputs is one for any other
pub rounding-elsewhere : (inputs : Inputs) (one other : System) (truths : List ℤ) (base : ℤ) (values : List ℤ) → IsSystemIn inputs one → IsSystemIn inputs other → IsRounding one truths base values → IsRounding other truths base values
rounding-elsewhere inputs one other truths base values is_one is_other =
    same-rounding one other truths base values
    (as-many-cells inputs one is_one ∙ sym (as-many-cells inputs other is_other))
    (its-relations inputs one is_one ∙ sym (its-relations inputs other is_other))
