use Rattle.std.proofs.Common.{◌≡◌, ◌∙◌, ◌∷◌, [], ap, List, ℕ, ℤ, pos, replicate, ◌+ℤ◌, ◌*ℤ◌, FitsSigned, arith, rules}
use Rattle.std.specs.Int.{w128}
use Rattle.std.proofs.lemmas.Int.{ints, to_z-of_z}
use Rattle.sdc_base.specs.Forms.{coefficient}
use Rattle.sdc_base.specs.Systems.{number_at}
use Rattle.sdc_base.specs.Totals.{sum_of}
use Rattle.sdc_base.specs.declared.relation.Relation.{Relation}
use Rattle.worlds.proofs.RefutationLaws.{zeros_none}
use Rattle.interval_audit.specs.Labels.{form_at}
use Rattle.kept_questions.proofs.FormSums.{asked_times}
use Rattle.kept_questions.proofs.left_over.left_over_of.Goals as goal

pub returns : goal.returns
returns c = λ cell.
    let q : FitsSigned w128 c.args.q = c.ranges.q in
    let own_fits : FitsSigned w128 c.in_ok-own.own = search rules in
    let own = simp to_z-of_z at c.in_ok-own.ensures in
    let zeros : c.in_ok-left.left.items ≡ replicate c.args.system.now.cells (pos 0) = search rules in
    let none : number_at c.in_ok-left.left.items cell ≡ pos 0 = ap (λ (ns : List ℤ). number_at ns cell) zeros ∙ zeros_none c.args.system.now.cells cell in
    let first = c.in_ok-add_at.ensures cell
    ∙ ap (λ (z : ℤ). number_at c.in_ok-left.left.items cell +ℤ coefficient ((c.args.question.cell, z) ∷ []) cell) (to_z-of_z w128 c.in_ok-own.own own_fits ∙ own) in
    let second = c.in_ok-add_forms.ensures cell
    ∙ ap (λ (rs : List Relation). number_at c.add_at.new.numbers.items cell +ℤ sum_of (λ (k : ℕ). number_at c.args.weights.now k *ℤ coefficient (form_at rs (pos 1) k) cell) c.args.met.now) c.as_slice-relations.ensures in
    omega (arith, ints, none, first, second, asked_times c.args.question.cell c.args.question.side c.args.q cell)
