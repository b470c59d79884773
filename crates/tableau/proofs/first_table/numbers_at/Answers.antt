use Rattle.std.proofs.Common.{◌≡◌, ◌++◌, ◌∷◌, [], ℤ, List, pos, map, take, slice_index_or, ap, sym, subst, ◌∙◌, arith, rules, FitsSigned, to_z, of_z}
use Rattle.std.specs.Int.{w128}
use Rattle.std.proofs.lemmas.Int.{to_z-of_z}
use Rattle.std.proofs.lemmas.List.{take_more, take_all, get_or-map, length-map, get_or_read}
use Rattle.sdc_base.specs.Forms.{Term, coefficient}
use Rattle.tableau.specs.ProblemForm.{AscendFrom}
use Rattle.tableau.proofs.first_table.numbers_at.Goals as goal

pub entry_at-requires : goal.entry_at-requires
entry_at-requires c =
    let i = c.loop-entries.entries-index in
    let own : List Term = slice_index_or c.args.lists.now i [] in
    let same : c.as_slice.result.now ≡ own = c.as_slice.ensures ∙ get_or_read c.args.lists.now i c.entries-item.result c.loop-entries-test.true c.entries-item.is [] in
    subst (λ (t : List Term). AscendFrom 0 t) (sym same) (c.requires i [] c.loop-entries-test.true)

pub loop-entries-preserved : goal.loop-entries-preserved
loop-entries-preserved c =
    let i = c.loop-entries.entries-index in
    let h : List Term → ℤ = λ entries. coefficient entries c.args.place in
    let all : List ℤ = map h c.args.lists.now in
    let own : List Term = slice_index_or c.args.lists.now i [] in
    let same : c.as_slice.result.now ≡ own = c.as_slice.ensures ∙ get_or_read c.args.lists.now i c.entries-item.result c.loop-entries-test.true c.entries-item.is [] in
    let x : ℤ = c.entry_at.result in
    let fits : FitsSigned w128 x = search rules in
    let here : to_z w128 (of_z w128 x) ≡ slice_index_or all i (pos 0) = to_z-of_z w128 x fits ∙ c.entry_at.ensures ∙ ap h same ∙ sym (get_or-map h c.args.lists.now i [] (pos 0) c.loop-entries-test.true) in
    c.in_ok-push.ensures.items ∙ ap (λ (t : List ℤ). t ++ to_z w128 (of_z w128 x) ∷ []) c.loop-entries.invariant ∙ ap (λ z. take i all ++ z ∷ []) here ∙ sym (take_more all i (pos 0) (omega (arith, length-map c.args.lists.now h, c.loop-entries-test.true)))

pub returns : goal.returns
returns c =
    let h : List Term → ℤ = λ entries. coefficient entries c.args.place in
    c.loop-entries.invariant ∙ take_all c.loop-entries.entries-index (map h c.args.lists.now) (omega (arith, length-map c.args.lists.now h, c.loop-entries-test.false))
