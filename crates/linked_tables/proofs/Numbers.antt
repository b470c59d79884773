-- Numbers of cells and their names, and marks that are written side by side.
use Rattle.std.proofs.Common.{◌≡◌, ℕ, ◌+◌, ◌-◌, ◌≤◌, Bool, true, false, List, [], ◌++◌, length, take, drop, slice_get, Option, None, Some, is_some, if◌then◌else◌, arith, refl, ap, sym, ◌∙◌, length-append, drop-drop}
use Rattle.std.specs.Option.{option_and_then, option_map_or}
use Rattle.std.proofs.lemmas.List.{append-nil, drop_all, take_all, length-take-le, length-drop}
use Rattle.sdc_base.specs.declared.dimension.Dimension.{Dimension}
use Rattle.linked_tables.specs.declared.mark.Mark.{Mark}
use Rattle.linked_tables.specs.BookViews.{BookView}
use Rattle.linked_tables.specs.BookCells.{cell_at, is_in, is_place_of, name_at, name_in_table, number_of}
use Rattle.linked_tables.specs.Lending.{replaced_from, written_from}
use Rattle.linked_tables.specs.Laws.{NumbersAreNames, WrittenStand}
use Rattle.linked_tables.proofs.Finding.{cell-found, cell-named}

-- the number at a place is that of its name
pub number-of-name : (book : BookView) (t : ℕ) (place : List ℕ) → is_place_of book t place ≡ true → cell_at book t place ≡ number_of book (name_at book t place)
number-of-name book t place = by_table (slice_get book.tables t)
  where
    inside : (table : List Dimension) (b : Bool) → b ≡ true → (if b then number_of book (name_in_table book table place) else None) ≡ number_of book (name_in_table book table place)
    inside table true h = refl
    inside table false h = cc

    by_table : (found : Option (List Dimension)) → option_map_or (λ table. is_in book table place) found false ≡ true
        → option_and_then (λ table. if is_in book table place then number_of book (name_in_table book table place) else None) found ≡ number_of book (option_map_or (λ table. name_in_table book table place) found [])
    by_table None h = cc
    by_table (Some table) h = inside table (is_in book table place) h

one-name : (book : BookView) (t u : ℕ) (place other : List ℕ) (found : Option ℕ) → cell_at book t place ≡ found → cell_at book u other ≡ found → is_some found ≡ true → name_at book t place ≡ name_at book u other
one-name book t u place other None first second h = cc
one-name book t u place other (Some cell) first second h = same (sym (cell-named book t place cell first) ∙ cell-named book u other cell second)
  where
    same : {a b : List ℕ} → Some a ≡ Some b → a ≡ b
    same h = cc

pub numbers_are_names : NumbersAreNames
numbers_are_names = λ book t u place other inside inside_other. (
  (λ same. one-name book t u place other (cell_at book t place) refl (sym same) (cell-found book t place ∙ inside)),
  (λ same. number-of-name book t place inside ∙ ap (number_of book) same ∙ sym (number-of-name book u other inside_other)),
)

stand : (marks : List Mark) (from : ℕ) (own : List Mark) → from + length own ≤ length marks → written_from marks from own ≡ take from marks ++ (own ++ drop (from + length own) marks)
stand marks from own fits =
    let behind : drop (length own) (drop from marks) ≡ drop (from + length own) marks = drop-drop (length own) from marks in
    let whole : replaced_from marks from own ≡ take from marks ++ (own ++ drop (from + length own) marks) = ap (λ rest. take from marks ++ (own ++ rest)) behind in
    let front : length (take from marks) ≡ from = length-take-le from marks (omega (arith, fits)) in
    let back : length (drop (from + length own) marks) ≡ length marks - (from + length own) = length-drop (from + length own) marks in
    let long : length (replaced_from marks from own) ≡ length marks =
    ap length whole ∙ length-append (take from marks) (own ++ drop (from + length own) marks)
    ∙ ap (λ n. length (take from marks) + n) (length-append own (drop (from + length own) marks))
    ∙ omega (arith, fits, front, back)
    in
    let none : drop (length (replaced_from marks from own)) marks ≡ [] = drop_all (length (replaced_from marks from own)) marks (omega (arith, long)) in
    ap (λ rest. take (length marks) (replaced_from marks from own ++ rest)) none
    ∙ ap (take (length marks)) (append-nil (replaced_from marks from own))
    ∙ take_all (length marks) (replaced_from marks from own) (omega (arith, long))
    ∙ whole

pub written_stand : WrittenStand
written_stand = stand
