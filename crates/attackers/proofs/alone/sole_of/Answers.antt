use Rattle.std.proofs.Common.{◌≡◌, ◌∙◌, sym, subst, ap, Some, slice_get, option_map}
use Rattle.sdc_base.specs.Records.{Name}
use Rattle.sdc_base.specs.Sums.{freq}
use Rattle.linked_tables.specs.BookCells.{cells}
use Rattle.attackers.specs.Alone.{IsSole, falls_at}
use Rattle.attackers.proofs.OneRecord.{told_here, sole_by}
use Rattle.attackers.proofs.alone.sole_of.Goals as goal

pub returns-then-mark-ne1 : goal.returns-then-mark-ne1
returns-then-mark-ne1 c =
    λ name found is.
    c.if-mark-ne1.true (told_here c.args.book.now c.args.rows.now c.marks-marks.result.now c.args.cell name c.index-marks-cell.result c.requires.told c.marks-marks.ensures found c.requires.inside c.index-marks-cell.is ∙ is)

pub returns-then-is_at : goal.returns-then-is_at
returns-then-is_at c =
    λ name found.
    let there : slice_get (cells c.args.book.now) c.args.cell ≡ Some c.in-Some.name.now = sym c.name.ensures ∙ ap (option_map (λ n. n.now)) c.in-Some.is in
    let same : Some c.in-Some.name.now ≡ Some name = sym there ∙ found in
    let own : c.in-Some.name.now ≡ name = cc in
    let freq_is = told_here c.args.book.now c.args.rows.now c.marks-marks.result.now c.args.cell name c.index-marks-cell.result c.requires.told c.marks-marks.ensures found c.requires.inside c.index-marks-cell.is in
    (sym freq_is ∙ c.if-mark-ne1.false, ap (λ n. falls_at c.args.book.now.trees c.args.rows.now n c.in-Some-candidate.candidate) (sym own) ∙ sym c.is_at.ensures ∙ c.if-is_at.true)

pub returns : goal.returns
returns c =
    λ name found.
    let there : slice_get (cells c.args.book.now) c.args.cell ≡ Some c.in-Some.name.now = sym c.name.ensures ∙ ap (option_map (λ n. n.now)) c.in-Some.is in
    let same : Some c.in-Some.name.now ≡ Some name = sym there ∙ found in
    let own : c.in-Some.name.now ≡ name = cc in
    let freq_is = told_here c.args.book.now c.args.rows.now c.marks-marks.result.now c.args.cell name c.index-marks-cell.result c.requires.told c.marks-marks.ensures found c.requires.inside c.index-marks-cell.is in
    let one : freq c.args.book.now.trees name c.args.rows.now ≡ 1 = sym freq_is ∙ c.if-mark-ne1.false in
    let one_own : freq c.args.book.now.trees c.in-Some.name.now c.args.rows.now ≡ 1 = ap (λ n. freq c.args.book.now.trees n c.args.rows.now) own ∙ one in
    subst (λ (n : Name). IsSole c.args.book.now.trees c.args.rows.now n c.find_row.result) own
    (sole_by c.args.book.now.trees c.args.rows.now c.in-Some.name.now c.find_row.result one_own c.find_row.ensures.none c.find_row.ensures.found)
