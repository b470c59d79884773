use Rattle.std.proofs.Common.{rules, ◌≡◌, ◌∙◌, ◌<◌, ap, sym, arith, ℕ, List, length, slice_get, Some, bytes_eq}
use Rattle.std.proofs.lemmas.Option.{slice_get_within}
use Rattle.sdc_base.specs.Records.{Name}
use Rattle.sdc_base.specs.Places.{first_place}
use Rattle.linked_tables.specs.BookViews.{BookView}
use Rattle.linked_tables.specs.BookCells.{cells, number_of}
use Rattle.linked_tables.proofs.Guessing.{guessed}
use Rattle.linked_tables.proofs.book.Book.guess.Goals as goal

pub returns-clause-number : goal.returns-clause-number
returns-clause-number c =
    let s = c.self.inside in
    let name = c.args.name.now in
    let at : slice_get s.names c.in_ok-number.number.now ≡ Some c.in_ok-other.other.now = sym c.in_ok-other.ensures in
    let eq : c.as_slice.result.now ≡ c.as_slice-2.result.now = search rules in
    let same : c.in_ok-other.other.now ≡ name = sym c.as_slice.ensures ∙ eq ∙ c.as_slice-2.ensures ∙ c.as_place.ensures in
    ap (λ (book : BookView). number_of book name) (sym c.self.view_is) ∙ guessed s.trees.items s.tables.items s.names c.in_ok-number.number.now name c.in_ok-other.other.now c.self.invariant.numbered.named at same

pub returns-clause-within : goal.returns-clause-within
returns-clause-within c =
    let s = c.self.inside in
    let at : slice_get s.names c.in_ok-number.number.now ≡ Some c.in_ok-other.other.now = sym c.in_ok-other.ensures in
    let below = slice_get_within s.names c.in_ok-number.number.now c.in_ok-other.other.now at in
    let marks : length s.marks.items ≡ length c.args.self.now.marks = ap (λ (book : BookView). length book.marks) c.self.view_is in
    omega (arith, below, c.self.invariant.one_each, marks)
