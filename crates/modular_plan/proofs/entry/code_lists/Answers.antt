use Rattle.std.proofs.Common.{◌≡◌, ◌<◌, ◌+◌, ◌++◌, ◌∷◌, [], ℕ, List, length, drop, slice_index_or, slice_get, arith, ap, sym, ◌∙◌, append_assoc, length-append}
use Rattle.std.specs.Option.{option_map_or}
use Rattle.sdc_base.specs.Cells.{cut_tree}
use Rattle.sdc_base.specs.Cubes.{codes_in}
use Rattle.sdc_base.specs.declared.dimension.Dimension.{Dimension}
use Rattle.hypercube.proofs.EdgeLists.{no_dimension}
use Rattle.modular_plan.specs.SubtablePlaces.{code_lists}
use Rattle.modular_plan.proofs.CodeLists.{lists-next}
use Rattle.modular_plan.proofs.entry.code_lists.Goals as goal

pub variables-preserved : goal.variables-preserved
variables-preserved c =
    let trees = c.args.book.now.trees in
    let table : List Dimension = c.table_of-table.result in
    let parents : List ℕ = c.args.subtable.now.parents in
    let k = c.variables.k in
    let done : List (List ℕ) = c.variables.lists.items in
    let codes : List ℕ = c.in_ok-codes.codes in
    let left : List (List ℕ) = code_lists trees (drop (k + 1) table) (drop (k + 1) parents) in
    let inside : k < length table = omega (arith, c.variables-test.true, c.len-few.ensures.len) in
    let same : codes ≡ option_map_or (codes_in (cut_tree trees (slice_index_or table k no_dimension))) (slice_get parents k) [] =
    c.in_ok-codes.ensures
    ∙ ap (λ (spanned : List Dimension). option_map_or (codes_in (cut_tree trees (slice_index_or spanned k no_dimension))) (slice_get c.as_slice-in-variables.result.now k) []) c.as_slice.ensures
    ∙ ap (λ (above : List ℕ). option_map_or (codes_in (cut_tree trees (slice_index_or table k no_dimension))) (slice_get above k) []) c.as_slice-in-variables.ensures
    in
    record {
      rest = ap (λ (lists : List (List ℕ)). lists ++ left) c.in_ok-push.ensures.items
          ∙ append_assoc done (codes ∷ []) left
          ∙ ap (λ (one : List ℕ). done ++ one ∷ left) same
          ∙ ap (λ (lists : List (List ℕ)). done ++ lists) (sym (lists-next trees table parents k no_dimension inside))
          ∙ c.variables.invariant.rest;
      few = ap length c.in_ok-push.ensures.items ∙ length-append done (codes ∷ []) ∙ ap (λ n. n + 1) c.variables.invariant.few;
    }
