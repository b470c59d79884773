use Rattle.std.proofs.Common.{arith, sym, ◌∙◌, ap, length, slice_get, Some, None, ◌≡◌, ◌+◌, ℕ, List}
use Rattle.sdc_base.specs.Records.{Name}
use Rattle.linked_tables.specs.BookViews.{BookView}
use Rattle.linked_tables.specs.BookCells.{first_own}
use Rattle.linked_tables.specs.BookKeeping.{starts_of}
use Rattle.linked_tables.proofs.CellLists.{start-found, start-none, starts-within}
use Rattle.linked_tables.proofs.book.Book.start_of.Goals as goal

pub returns-in-Some-clause-start : goal.returns-in-Some-clause-start
returns-in-Some-clause-start c =
    let s = c.self.inside in
    let at : slice_get (starts_of s.trees.items s.tables.items (length s.tables.items + 1)) c.args.t ≡ Some c.in-Some.start =
    sym (c.in-Some.ensures ∙ ap (λ (starts : List ℕ). slice_get starts c.args.t) (c.deref.ensures.value ∙ c.self.invariant.numbered.begun))
    in
    start-found s.trees.items s.tables.items (length s.tables.items + 1) c.args.t c.in-Some.start at ∙ ap (λ (book : BookView). first_own book c.args.t) c.self.view_is

pub returns-in-Some-clause-within : goal.returns-in-Some-clause-within
returns-in-Some-clause-within c =
    let s = c.self.inside in
    let at : slice_get (starts_of s.trees.items s.tables.items (length s.tables.items + 1)) c.args.t ≡ Some c.in-Some.start =
    sym (c.in-Some.ensures ∙ ap (λ (starts : List ℕ). slice_get starts c.args.t) (c.deref.ensures.value ∙ c.self.invariant.numbered.begun))
    in
    let start = start-found s.trees.items s.tables.items (length s.tables.items + 1) c.args.t c.in-Some.start at in
    let marks : length s.marks.items ≡ length c.args.self.now.marks = ap (λ (book : BookView). length book.marks) c.self.view_is in
    omega (arith, start, starts-within s.trees.items s.tables.items c.args.t, ap (λ (names : List Name). length names) c.self.invariant.numbered.named, c.self.invariant.one_each, marks)

pub returns-in-None-clause-start : goal.returns-in-None-clause-start
returns-in-None-clause-start c =
    let s = c.self.inside in
    let past : slice_get (starts_of s.trees.items s.tables.items (length s.tables.items + 1)) c.args.t ≡ None =
    sym (c.in-None.ensures ∙ ap (λ (starts : List ℕ). slice_get starts c.args.t) (c.deref.ensures.value ∙ c.self.invariant.numbered.begun))
    in
    let marks = c.len.ensures ∙ c.self.inside.marks.ok.0 ∙ c.self.invariant.one_each ∙ ap (λ (names : List Name). length names) c.self.invariant.numbered.named in
    marks ∙ sym (start-none s.trees.items s.tables.items c.args.t past) ∙ ap (λ (book : BookView). first_own book c.args.t) c.self.view_is
