use Rattle.std.proofs.Common.{◌≡◌, ◌∙◌, ◌∷◌, [], ap, sym, map, length, refl, slice_get, Some, List, ℕ, ℤ, pos, ◌+ℤ◌, ◌*ℤ◌, FitsSigned, rules}
use Rattle.std.specs.Int.{w128}
use Rattle.std.specs.Option.{option_map_or}
use Rattle.std.proofs.lemmas.Int.{to_z-of_z}
use Rattle.std.proofs.lemmas.Option.{slice_get_read}
use Rattle.sdc_base.specs.Forms.{coefficient, form_times}
use Rattle.sdc_base.specs.Systems.{number_at}
use Rattle.kept_questions.proofs.FormSums.{form_added}
use Rattle.kept_questions.proofs.left_over.add_weighted.Goals as goal

pub returns : goal.returns
returns c = λ cell.
    let weight : FitsSigned w128 c.args.weight = c.ranges.weight in
    let less_fits : FitsSigned w128 c.in_ok-less.less = search rules in
    let less = simp to_z-of_z at c.in_ok-less.ensures in
    let lookup = c.in-Some.ensures.lookup in
    let found : slice_get c.args.relations.now c.args.number ≡ Some c.in-Some.relation.now = slice_get_read c.args.relations.now (length c.args.relations.now) c.args.number c.in-Some.relation.now refl lookup.3.0 lookup.1 in
    let one = c.in_ok-add_at.ensures cell ∙ ap (λ (z : ℤ). number_at c.args.numbers.now.items cell +ℤ coefficient ((c.in-Some.relation.now.total, z) ∷ []) cell) (to_z-of_z w128 c.args.weight weight) in
    let after = c.in_ok-add_parts.ensures cell
    ∙ ap (λ (z : ℤ). number_at c.add_at.new.numbers.items cell +ℤ z *ℤ coefficient (map (λ part. (part, pos 1)) c.as_slice-parts.result.now) cell) (to_z-of_z w128 c.in_ok-less.less less_fits)
    ∙ ap (λ (ps : List ℕ). number_at c.add_at.new.numbers.items cell +ℤ c.in_ok-less.less *ℤ coefficient (map (λ part. (part, pos 1)) ps) cell) c.as_slice-parts.ensures in
    form_added c.in-Some.relation.now c.args.weight c.in_ok-less.less (number_at c.args.numbers.now.items cell) (number_at c.add_at.new.numbers.items cell) (number_at c.add_parts.new.numbers.items cell) cell less one after
    ∙ ap (λ o. number_at c.args.numbers.now.items cell +ℤ c.args.weight *ℤ coefficient (option_map_or (form_times (pos 1)) o []) cell) (sym found)
