-- What enters the text of a table, and what doesn't (own).
use Rattle.std.specs.Prelude.{◌≡◌, ℕ, List, true, false, Bool, None, slice_index_or}
use Rattle.linked_tables.specs.declared.mark.Mark.{Mark}
use Rattle.linked_tables.specs.BookViews.{BookView}
use Rattle.release_writer.specs.ShownCells.{open_truth, shown_in, release_text}
use Rattle.release_writer.specs.declared.shown.Shown.{Shown}

-- two books with the same trees and tables, whose cells show the same, have the same texts: nothing else enters them
abbrev pub OnlyWhatIsShownEnters : Type 0
OnlyWhatIsShownEnters = (book other : BookView) (how others : Shown) (t : ℕ) (names : List (List ℕ)) (decimals : ℕ)
    → other.trees ≡ book.trees → other.tables ≡ book.tables
    → ((cell : ℕ) → shown_in other others cell ≡ shown_in book how cell)
    → release_text other t names decimals others ≡ release_text book t names decimals how

-- a hidden cell shows nothing, whatever its mark is
abbrev pub HiddenShowNothing : Type 0
HiddenShowNothing =
    (marks : List Mark) (flags : List Bool) (cell : ℕ) → slice_index_or flags cell false ≡ true
    → open_truth marks flags cell ≡ None
