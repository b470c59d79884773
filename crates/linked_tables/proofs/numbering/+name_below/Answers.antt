use Rattle.std.proofs.Common.{◌≡◌, ◌≤◌, ◌+◌, ◌-◌, ◌++◌, ◌∷◌, [], ℕ, Bool, true, false, List, length, fold, get_or, slice_index_or, ap, sym, ◌∙◌, subst, arith}
use Rattle.std.proofs.lemmas.Result.{err_from_is_err_and}
use Rattle.sdc_base.specs.Records.{Name}
use Rattle.sdc_base.specs.CutTrees.{is_within}
use Rattle.sdc_base.specs.Cells.{cut_tree, with_name}
use Rattle.sdc_base.specs.declared.dimension.Dimension.{Dimension}
use Rattle.linked_tables.specs.Tables.{most_cells, book_fault_of}
use Rattle.linked_tables.specs.BookKeeping.{names_within_limit, names_below}
use Rattle.linked_tables.proofs.Below.{names_begun, below-begun, begun-next, begun-passed, begun-rises}
use Rattle.linked_tables.proofs.Faults.{capped-Ok, capped-few, fails-more}
use Rattle.linked_tables.proofs.PlaceSteps.{no_dimension}
use Rattle.linked_tables.proofs.numbering.+name_below.Goals as goal

pub returns-in_err-name_below-clause-fault : goal.returns-in_err-name_below-clause-fault
returns-in_err-name_below-clause-fault t c =
    let trees = c.args.trees.now in
    let table = c.args.table.now in
    let place = c.args.place.now in
    let names = c.args.names.now in
    let code = c.codes.code in
    let longer = c.as_slice-in-codes.result.now in
    let dimension = get_or table (length place) no_dimension in
    let keep : ℕ → Bool = is_within (cut_tree trees dimension) in
    let size = length (slice_index_or trees dimension.variable []) in
    let same : longer ≡ place ++ code ∷ [] = c.as_slice-in-codes.ensures ∙ c.with_code-longer.ensures in
    let kept : keep code ≡ true = ap (λ (spanned : List Dimension). is_within (cut_tree trees (get_or spanned (length place) no_dimension)) code) (sym c.as_slice-2.ensures) ∙ sym c.is_within.ensures ∙ c.if-not-is_within.false in
    let some : fold with_name c.codes.names (names_below trees table longer) ≡ fold with_name names (names_begun trees table place keep (code + 1)) =
    ap (λ (p : List ℕ). fold with_name c.codes.names (names_below trees table p)) same
    ∙ ap (λ (before : List Name). fold with_name before (names_below trees table (place ++ code ∷ []))) c.codes.invariant.added
    ∙ sym (begun-next trees table place keep names code kept)
    in
    let all : fold with_name names (names_below trees table place) ≡ fold with_name names (names_begun trees table place keep size) = ap (fold with_name names) (below-begun trees table place no_dimension (omega (arith, c.if-place-len.false, c.len.ensures.len))) in
    let sizes : c.size_at-size.result ≡ size = c.size_at-size.ensures.size ∙ ap (λ (spanned : List Dimension). length (slice_index_or trees (get_or spanned (length place) no_dimension).variable [])) c.as_slice-2.ensures in
    let p = err_from_is_err_and c.from_residual.result c.from_residual.ensures.1 in
    let more : (code + 1) + (size - (code + 1)) ≡ size = omega (arith, c.codes-test.true, sizes) in
    let rise : length (fold with_name names (names_begun trees table place keep (code + 1))) ≤ length (fold with_name names (names_begun trees table place keep size)) =
    subst (λ (n : ℕ). length (fold with_name names (names_begun trees table place keep (code + 1))) ≤ length (fold with_name names (names_begun trees table place keep n))) more
    (begun-rises trees table place keep names (code + 1) (size - (code + 1)))
    in
    let fits : length (fold with_name c.codes.names (names_below trees table longer)) ≤ length (fold with_name names (names_below trees table place)) =
    subst (λ (one : List Name). length one ≤ length (fold with_name names (names_below trees table place))) (sym some)
    (subst (λ (one : List Name). length (fold with_name names (names_begun trees table place keep (code + 1))) ≤ length one) (sym all) rise)
    in
    rw (p.1, p.2) (fails-more (book_fault_of c.in_err-name_below.field-0.0) c.args.t (fold with_name c.codes.names (names_below trees table longer)) (fold with_name names (names_below trees table place)) fits c.in_err-name_below.ensures.fault)

pub codes-preserved : goal.codes-preserved
codes-preserved t c =
    let trees = c.args.trees.now in
    let table = c.args.table.now in
    let place = c.args.place.now in
    let names = c.args.names.now in
    let code = c.codes.code in
    let keep : ℕ → Bool = is_within (cut_tree trees (get_or table (length place) no_dimension)) in
    let longer = c.as_slice-in-codes.result.now in
    let same : longer ≡ place ++ code ∷ [] = c.as_slice-in-codes.ensures ∙ c.with_code-longer.ensures in
    let kept : keep code ≡ true = ap (λ (spanned : List Dimension). is_within (cut_tree trees (get_or spanned (length place) no_dimension)) code) (sym c.as_slice-2.ensures) ∙ sym c.is_within.ensures ∙ c.if-not-is_within.false in
    let some : fold with_name c.codes.names (names_below trees table longer) ≡ fold with_name names (names_begun trees table place keep (code + 1)) =
    ap (λ (p : List ℕ). fold with_name c.codes.names (names_below trees table p)) same
    ∙ ap (λ (before : List Name). fold with_name before (names_below trees table (place ++ code ∷ []))) c.codes.invariant.added
    ∙ sym (begun-next trees table place keep names code kept)
    in
    let made = capped-Ok c.args.t (fold with_name c.codes.names (names_below trees table longer)) c.name_below.new.names c.in_ok-name_below.ensures.names in
    record { added = sym made.0 ∙ some; room = subst (λ (all : List Name). length all ≤ most_cells) made.0 made.1 }

pub returns-clause-names : goal.returns-clause-names
returns-clause-names t c =
    let trees = c.args.trees.now in
    let table = c.args.table.now in
    let place = c.args.place.now in
    let names = c.args.names.now in
    let dimension = get_or table (length place) no_dimension in
    let keep : ℕ → Bool = is_within (cut_tree trees dimension) in
    let size = length (slice_index_or trees dimension.variable []) in
    let sizes : c.size_at-size.result ≡ size = c.size_at-size.ensures.size ∙ ap (λ (spanned : List Dimension). length (slice_index_or trees (get_or spanned (length place) no_dimension).variable [])) c.as_slice-2.ensures in
    let end : size ≡ c.codes.code = omega (arith, sizes, c.codes-test.false, c.codes.auto.code-end) in
    let all : fold with_name names (names_below trees table place) ≡ c.codes.names =
    ap (fold with_name names) (below-begun trees table place no_dimension (omega (arith, c.if-place-len.false, c.len.ensures.len)))
    ∙ ap (λ (n : ℕ). fold with_name names (names_begun trees table place keep n)) end
    ∙ sym c.codes.invariant.added
    in
    ap (names_within_limit c.args.t) all ∙ capped-few c.args.t c.codes.names c.codes.invariant.room

pub codes-preserved-then-not-is_within : goal.codes-preserved-then-not-is_within
codes-preserved-then-not-is_within t c =
    let trees = c.args.trees.now in
    let table = c.args.table.now in
    let place = c.args.place.now in
    let names = c.args.names.now in
    let code = c.codes.code in
    let keep : ℕ → Bool = is_within (cut_tree trees (get_or table (length place) no_dimension)) in
    let passed : keep code ≡ false = ap (λ (spanned : List Dimension). is_within (cut_tree trees (get_or spanned (length place) no_dimension)) code) (sym c.as_slice-2.ensures) ∙ sym c.is_within.ensures ∙ c.if-not-is_within.true in
    record {
      added = c.codes.invariant.added ∙ ap (fold with_name names) (sym (begun-passed trees table place keep code passed));
      room = c.codes.invariant.room;
    }
