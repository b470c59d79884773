-- What a book becomes by what is written through a borrow of its marks (own).
use Rattle.std.specs.Prelude.{◌≡◌, ℕ, List, [], ◌++◌, length, take, drop, slice_set, Option}
use Rattle.std.specs.Option.{option_map_or}
use Rattle.std.specs.Borrow.{Lends, LendsIf, RestsIfNone, MutBor, Fml, Array}
use Rattle.linked_tables.specs.declared.mark.Mark.{Mark}
use Rattle.linked_tables.specs.declared.table_mut.TableMut.{TableMut}
use Rattle.linked_tables.specs.declared.lent.Lent.{Lent}
use Rattle.linked_tables.specs.BookViews.{BookView}
use Rattle.linked_tables.specs.BookCells.{cell_at, first_own}
use Rattle.linked_tables.specs.contracts.mark.Mark as mark_row
use Rattle.linked_tables.specs.contracts.book.Book as book_row
use Rattle.linked_tables.specs.contracts.table_mut.TableMut as table_row
use Rattle.linked_tables.specs.contracts.lent.Lent as lent_row
use mir.Syntax.{named}

-- the book with this mark for one cell
abbrev pub with_mark : BookView → ℕ → Mark → BookView
with_mark book cell mark = record book { marks = slice_set book.marks cell mark }

-- the book with this mark for the cell at a place of table t
abbrev pub with_mark_at : BookView → ℕ → List ℕ → Mark → BookView
with_mark_at book t place mark = option_map_or (λ cell. with_mark book cell mark) (cell_at book t place) book

-- these marks in the place of as many others, from one on
abbrev pub replaced_from : List Mark → ℕ → List Mark → List Mark
replaced_from marks from own = take from marks ++ (own ++ drop (length own) (drop from marks))

-- the same, with as many marks as before: what would go beyond the last is left out
abbrev pub written_from : List Mark → ℕ → List Mark → List Mark
written_from marks from own =
    take (length marks) (replaced_from marks from own ++ drop (length (replaced_from marks from own)) marks)

-- the book with these marks for the cells that table t names first
abbrev pub with_own : BookView → ℕ → List Mark → BookView
with_own book t own = record book { marks = written_from book.marks (first_own book t) own }

-- r lends the mark of one cell: what is last written through it is that cell's mark, and all else stays
abbrev pub LendsMark : MutBor BookView → ℕ → Option (MutBor Mark) → Fml
LendsMark book cell r = LendsIf book_row.the_row mark_row.the_row book r (with_mark book.now cell) book.now

-- r lends marks from one on
abbrev pub LendsPart : MutBor BookView → ℕ → MutBor (List Mark) → Fml
LendsPart book from r =
    Lends book_row.the_row (Array mark_row.the_row 0) book r
    (λ own. record book.now { marks = written_from book.now.marks from own })

-- the book that a table holds is the one that was lent, which stays where there is no such table
abbrev pub RestsWithTable : MutBor BookView → Option TableMut → Fml
RestsWithTable book r = RestsIfNone book_row.the_row book (λ table. table.book.ghost_name) r (λ new. new ≡ book.now)

-- the same for the marks of a table
abbrev pub RestsWithLent : MutBor BookView → Option Lent → Fml
RestsWithLent book r = RestsIfNone book_row.the_row book (λ lent. lent.book.ghost_name) r (λ new. new ≡ book.now)

-- r lends the mark of the cell at a place of the table
abbrev pub LendsCell : MutBor TableMut → List ℕ → Option (MutBor Mark) → Fml
LendsCell table place r =
    LendsIf (table_row.the_row (record { mir = named 1; lft = [] })) mark_row.the_row table r
    (λ mark. record table.now {
      book = record table.now.book
          { now = with_mark_at table.now.book.now table.now.number place mark };
    }) table.now

-- r lends the marks of the cells that the table names first
abbrev pub LendsOwn : MutBor Lent → MutBor (List Mark) → Fml
LendsOwn lent r =
    Lends (lent_row.the_row (record { mir = named 1; lft = [] })) (Array mark_row.the_row 0) lent r
    (λ own. record lent.now { book = record lent.now.book { now = with_own lent.now.book.now lent.now.number own } })
