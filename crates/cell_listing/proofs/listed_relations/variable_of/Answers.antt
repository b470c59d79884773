use Rattle.std.proofs.Common.{◌≡◌, ℕ, List, Some, slice_get, slice_index_or, ap, sym, ◌∙◌}
use Rattle.std.proofs.lemmas.Option.{IfSome_then}
use Rattle.linked_tables.specs.BookCells.{cells}
use Rattle.relations.specs.Holding.{sum_in}
use Rattle.cell_listing.proofs.RelationVariables.{own_variable}
use Rattle.cell_listing.proofs.listed_relations.variable_of.Goals as goal

pub returns : goal.returns
returns c =
    let book = c.args.book.now in
    let relation = c.args.relation.now in
    let own = c.requires in
    let total : List ℕ = c.in_ok-total.total.now in
    let part : List ℕ = c.in_ok-part.part.now in
    let first : ℕ = c.in_ok-first.field-0.now in
    let at : slice_get (cells book) relation.total ≡ Some total = sym c.in_ok-total.ensures in
    let parts : slice_get relation.parts 0 ≡ Some first = ap (λ (numbers : List ℕ). slice_get numbers 0) (sym c.as_slice.ensures) ∙ sym c.in_ok-first.ensures.value in
    let there : slice_get (cells book) first ≡ Some part = sym c.in_ok-part.ensures in
    IfSome_then c.first_difference.result c.first_difference.ensures
    (λ place differ. own_variable book.trees book.tables (sum_in relation) own.0 place first total part own.1 parts at there (λ same. differ (ap (λ (n : List ℕ). slice_index_or n place 0) c.as_slice-2.ensures ∙ same ∙ ap (λ (n : List ℕ). slice_index_or n place 0) (sym c.as_slice-3.ensures))))
