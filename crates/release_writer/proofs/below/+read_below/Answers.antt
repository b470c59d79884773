use Rattle.std.proofs.Common.{◌≡◌, ℕ, ◌+◌, ◌<◌, ◌++◌, ◌∷◌, [], List, true, false, length, take, ap, sym, ◌∙◌, subst, arith, length-append}
use Rattle.std.proofs.lemmas.Result.{err_from_is_err_and}
use Rattle.sdc_base.specs.Answers.{Fails}
use Rattle.sdc_base.specs.CutTrees.{has_code, is_within}
use Rattle.sdc_base.specs.Cells.{trees_of}
use Rattle.sdc_base.specs.declared.dimension.Dimension.{Dimension}
use Rattle.sdc_base.specs.CellOrder.{is_place_in}
use Rattle.release_writer.specs.ReleaseReading.{read_places}
use Rattle.release_writer.specs.Sheets.{form_of, reading_of, release_fault_of, places_below}
use Rattle.release_writer.proofs.BegunPlaces.{next_tree, place-more, within-has}
use Rattle.release_writer.proofs.ReadSteps.{below-from, from-passed, code-read, code-bad}
use Rattle.release_writer.proofs.below.+read_below.Goals as goal

pub codes-init : goal.codes-init
codes-init t c =
    let form = form_of c.args.sheet.now in
    let short : length c.args.place.now < length form.table = omega (arith, c.if-place-len.false, c.len.ensures.len) in
    record {
      read = ap (λ xs. read_places form (reading_of c.args.progress.now) xs) (sym (below-from form c.args.place.now short));
      shown = c.requires.shown;
    }

pub read_below-requires : goal.read_below-requires
read_below-requires t c =
    let sheet = c.args.sheet.now in
    let trees = sheet.book.now.trees in
    let table = sheet.table.now in
    let place = c.args.place.now in
    let code = c.codes.code in
    let longer = c.as_slice-in-codes.result.now in
    let short : length place < length table = omega (arith, c.if-place-len.false, c.len.ensures.len) in
    let same : longer ≡ place ++ code ∷ [] = c.as_slice-in-codes.ensures ∙ c.with_code-longer.ensures in
    let size : length longer ≡ length place + 1 = ap (λ (p : List ℕ). length p) same ∙ length-append place (code ∷ []) in
    let has : has_code (next_tree trees table place) code ≡ true =
    ap (λ (spanned : List Dimension). has_code (next_tree trees spanned place) code) (sym c.as_slice.ensures) ∙ sym c.has_code.ensures ∙ c.if-not-has_code.false
    in
    (omega (arith, size, short, c.decreases), (c.requires.sheet, (omega (arith, size, short), (subst (λ (p : List ℕ). is_place_in (trees_of trees (take (length p) table)) p ≡ true) (sym same) (place-more trees table place code short c.requires.place has), c.codes.invariant.shown))))

pub returns-in_err-read_below-clause-exact : goal.returns-in_err-read_below-clause-exact
returns-in_err-read_below-clause-exact t c =
    let form = form_of c.args.sheet.now in
    let place = c.args.place.now in
    let code = c.codes.code in
    let now = reading_of c.codes.progress in
    let same : c.as_slice-in-codes.result.now ≡ place ++ code ∷ [] = c.as_slice-in-codes.ensures ∙ c.with_code-longer.ensures in
    let cut = next_tree form.book.trees form.table place in
    let sizes = c.size-size.ensures.size ∙ ap (λ (spanned : List Dimension). length (next_tree form.book.trees spanned place).tree) c.as_slice.ensures in
    let small : code < length cut.tree = omega (arith, c.codes-test.true, sizes) in
    let test : is_within cut code ≡ true =
    within-has cut code small ∙ ap (λ (spanned : List Dimension). has_code (next_tree form.book.trees spanned place) code) (sym c.as_slice.ensures) ∙ sym c.has_code.ensures ∙ c.if-not-has_code.false
    in
    let p = err_from_is_err_and c.from_residual.result c.from_residual.ensures.1 in
    let bad : Fails (release_fault_of c.in_err-read_below.field-0.0) (read_places form now (places_below form (place ++ code ∷ []))) =
    subst (λ (q : List ℕ). Fails (release_fault_of c.in_err-read_below.field-0.0) (read_places form now (places_below form q))) same c.in_err-read_below.ensures.exact in
    rw (p.1, p.2) (code-bad form now place code (read_places form (reading_of c.args.progress.now) (places_below form place)) (release_fault_of c.in_err-read_below.field-0.0) small test c.codes.invariant.read bad)

pub codes-preserved : goal.codes-preserved
codes-preserved t c =
    let form = form_of c.args.sheet.now in
    let place = c.args.place.now in
    let code = c.codes.code in
    let now = reading_of c.codes.progress in
    let next = reading_of c.read_below.new.progress in
    let same : c.as_slice-in-codes.result.now ≡ place ++ code ∷ [] = c.as_slice-in-codes.ensures ∙ c.with_code-longer.ensures in
    let cut = next_tree form.book.trees form.table place in
    let sizes = c.size-size.ensures.size ∙ ap (λ (spanned : List Dimension). length (next_tree form.book.trees spanned place).tree) c.as_slice.ensures in
    let small : code < length cut.tree = omega (arith, c.codes-test.true, sizes) in
    let test : is_within cut code ≡ true =
    within-has cut code small ∙ ap (λ (spanned : List Dimension). has_code (next_tree form.book.trees spanned place) code) (sym c.as_slice.ensures) ∙ sym c.has_code.ensures ∙ c.if-not-has_code.false
    in
    record {
      read = code-read form now next place code (read_places form (reading_of c.args.progress.now) (places_below form place)) small test c.codes.invariant.read
          (sym (ap (λ (q : List ℕ). read_places form now (places_below form q)) same) ∙ c.in_ok-read_below.ensures.exact);
      shown = c.in_ok-read_below.ensures.shown;
    }

pub codes-preserved-then-not-has_code : goal.codes-preserved-then-not-has_code
codes-preserved-then-not-has_code t c =
    let form = form_of c.args.sheet.now in
    let place = c.args.place.now in
    let code = c.codes.code in
    let cut = next_tree form.book.trees form.table place in
    let sizes = c.size-size.ensures.size ∙ ap (λ (spanned : List Dimension). length (next_tree form.book.trees spanned place).tree) c.as_slice.ensures in
    let small : code < length cut.tree = omega (arith, c.codes-test.true, sizes) in
    let test : is_within cut code ≡ false =
    within-has cut code small ∙ ap (λ (spanned : List Dimension). has_code (next_tree form.book.trees spanned place) code) (sym c.as_slice.ensures) ∙ sym c.has_code.ensures ∙ c.if-not-has_code.true
    in
    record {
      read = ap (λ xs. read_places form (reading_of c.codes.progress) xs) (sym (from-passed form place code small test)) ∙ c.codes.invariant.read;
      shown = c.codes.invariant.shown;
    }
