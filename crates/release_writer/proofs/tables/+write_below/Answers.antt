use Rattle.std.proofs.Common.{◌≡◌, ℕ, ◌+◌, ◌<◌, ◌++◌, ◌∷◌, [], List, Bool, true, false, length, take, ap, sym, ◌∙◌, subst, option_map, arith, length-append}
use Rattle.std.proofs.lemmas.Result.{on_ok_weaker}
use Rattle.sdc_base.specs.CutTrees.{has_code, is_within}
use Rattle.sdc_base.specs.Cells.{trees_of}
use Rattle.sdc_base.specs.declared.dimension.Dimension.{Dimension}
use Rattle.sdc_base.specs.CellOrder.{is_place_in}
use Rattle.release_writer.specs.Lines.{bytes_written, lines_below}
use Rattle.release_writer.proofs.BegunPlaces.{below-whole, begun-next, begun-passed, next_tree, within-has, written-more, place-more, lines_begun}
use Rattle.release_writer.proofs.tables.+write_below.Goals as goal

pub returns-then-place-len-clause-text : goal.returns-then-place-len-clause-text
returns-then-place-len-clause-text t c =
    let page = c.args.page.now in
    let place = c.args.place.now in
    let start = bytes_written c.args.writer.now in
    on_ok_weaker c.write_whole.result
    (λ text. text ∙ ap (λ line. option_map (λ before. before ++ line) start) (sym (below-whole page.book.now page.table.now page.decimals page.shown place (omega (arith, c.if-place-len.true, c.len.ensures.len)))))
    c.write_whole.ensures.text

pub write_below-requires : goal.write_below-requires
write_below-requires t c =
    let page = c.args.page.now in
    let trees = page.book.now.trees in
    let table = page.table.now in
    let place = c.args.place.now in
    let code = c.codes.code in
    let longer = c.as_slice-in-codes.result.now in
    let short : length place < length table = omega (arith, c.if-place-len.false, c.len.ensures.len) in
    let same : longer ≡ place ++ code ∷ [] = c.as_slice-in-codes.ensures ∙ c.with_code-longer.ensures in
    let size : length longer ≡ length place + 1 = ap (λ (p : List ℕ). length p) same ∙ length-append place (code ∷ []) in
    let has : has_code (next_tree trees table place) code ≡ true =
    ap (λ (spanned : List Dimension). has_code (next_tree trees spanned place) code) (sym c.as_slice.ensures) ∙ sym c.has_code.ensures ∙ c.if-not-has_code.false
    in
    (omega (arith, size, short, c.decreases), (c.codes.invariant.ready, (c.requires.page, (omega (arith, size, short), subst (λ (p : List ℕ). is_place_in (trees_of trees (take (length p) table)) p ≡ true) (sym same) (place-more trees table place code short c.requires.place has)))))

pub codes-preserved : goal.codes-preserved
codes-preserved t c =
    let page = c.args.page.now in
    let place = c.args.place.now in
    let code = c.codes.code in
    let trees = page.book.now.trees in
    let keep : ℕ → Bool = is_within (next_tree trees page.table.now place) in
    let sizes = c.size-size.ensures.size ∙ ap (λ (spanned : List Dimension). length (next_tree trees spanned place).tree) c.as_slice.ensures in
    let small : code < length (next_tree trees page.table.now place).tree = omega (arith, c.codes-test.true, sizes) in
    let test : keep code ≡ true =
    within-has (next_tree trees page.table.now place) code small
    ∙ ap (λ (spanned : List Dimension). has_code (next_tree trees spanned place) code) (sym c.as_slice.ensures) ∙ sym c.has_code.ensures ∙ c.if-not-has_code.false
    in
    let start = bytes_written c.args.writer.now in
    let longer = c.as_slice-in-codes.result.now in
    let same : longer ≡ place ++ code ∷ [] = c.as_slice-in-codes.ensures ∙ c.with_code-longer.ensures in
    let after : bytes_written c.write_below.new.writer ≡ option_map (λ text. text ++ lines_below page.book.now page.table.now page.decimals page.shown (place ++ code ∷ [])) (bytes_written c.codes.writer) =
    c.in_ok-write_below.ensures.text ∙ ap (λ p. option_map (λ text. text ++ lines_below page.book.now page.table.now page.decimals page.shown p) (bytes_written c.codes.writer)) same in
    record {
      ready = c.in_ok-write_below.ensures.ready;
      text = written-more (lines_begun page.book.now page.table.now page.decimals page.shown place keep code) (lines_below page.book.now page.table.now page.decimals page.shown (place ++ code ∷ [])) (lines_begun page.book.now page.table.now page.decimals page.shown place keep (code + 1)) start (bytes_written c.codes.writer) (bytes_written c.write_below.new.writer)
          (begun-next page.book.now page.table.now page.decimals page.shown place keep code test) c.codes.invariant.text after;
    }

pub codes-preserved-then-not-has_code : goal.codes-preserved-then-not-has_code
codes-preserved-then-not-has_code t c =
    let page = c.args.page.now in
    let place = c.args.place.now in
    let code = c.codes.code in
    let trees = page.book.now.trees in
    let keep : ℕ → Bool = is_within (next_tree trees page.table.now place) in
    let sizes = c.size-size.ensures.size ∙ ap (λ (spanned : List Dimension). length (next_tree trees spanned place).tree) c.as_slice.ensures in
    let small : code < length (next_tree trees page.table.now place).tree = omega (arith, c.codes-test.true, sizes) in
    let test : keep code ≡ false =
    within-has (next_tree trees page.table.now place) code small
    ∙ ap (λ (spanned : List Dimension). has_code (next_tree trees spanned place) code) (sym c.as_slice.ensures) ∙ sym c.has_code.ensures ∙ c.if-not-has_code.true
    in
    record {
      ready = c.codes.invariant.ready;
      text = c.codes.invariant.text
          ∙ ap (λ lines. option_map (λ text. text ++ lines) (bytes_written c.args.writer.now)) (sym (begun-passed page.book.now page.table.now page.decimals page.shown place keep code test));
    }
