-- Nothing enters the text of a table but what its cells show.
use Rattle.std.proofs.Common.{◌≡◌, ℕ, List, [], ◌∷◌, ◌++◌, length, slice_index_or, Option, None, Some, ℤ, refl, ap, ◌∙◌}
use Rattle.std.specs.List.{flat_map}
use Rattle.std.specs.Option.{option_and_then}
use Rattle.sdc_base.specs.Records.{Name}
use Rattle.sdc_base.specs.Trees.{Tree}
use Rattle.sdc_base.specs.Cells.{cells_of, places, trees_of, name_of}
use Rattle.sdc_base.specs.Places.{first_place}
use Rattle.sdc_base.specs.TableText.{line_text, codes_of_place, shown_text, table_text}
use Rattle.std.specs.Prelude.{bytes_eq}
use Rattle.sdc_base.specs.declared.dimension.Dimension.{Dimension}
use Rattle.linked_tables.specs.BookCells.{number_of}
use Rattle.release_writer.specs.ShownCells.{shown_in, number_shown}
use Rattle.release_writer.specs.Laws.{OnlyWhatIsShownEnters, HiddenShowNothing}

same-lines : (f g : List ℕ → List ℕ) (xs : List (List ℕ)) → ((x : List ℕ) → f x ≡ g x) → flat_map f xs ≡ flat_map g xs
same-lines f g [] same = refl
same-lines f g (x ∷ xs) same = ap (λ t. t ++ flat_map f xs) (same x) ∙ ap (λ t. g x ++ t) (same-lines f g xs same)

pub same-text : (trees : List Tree) (table : List Dimension) (names : List (List ℕ)) (decimals : ℕ) (one other : Name → Option ℤ) → ((name : Name) → one name ≡ other name) → table_text trees table names decimals one ≡ table_text trees table names decimals other
same-text trees table names decimals one other same =
    ap (λ t. line_text names ++ t)
    (same-lines
    (λ place. line_text (codes_of_place (trees_of trees table) place ++ shown_text decimals (one (name_of (length trees) table place)) ∷ []))
    (λ place. line_text (codes_of_place (trees_of trees table) place ++ shown_text decimals (other (name_of (length trees) table place)) ∷ []))
    (places (trees_of trees table))
    (λ place. ap (λ number. line_text (codes_of_place (trees_of trees table) place ++ shown_text decimals number ∷ [])) (same (name_of (length trees) table place))))

pub then-same : (f g : ℕ → Option ℤ) (cell : Option ℕ) → ((n : ℕ) → f n ≡ g n) → option_and_then f cell ≡ option_and_then g cell
then-same f g None same = refl
then-same f g (Some cell) same = same cell

pub only_what_is_shown_enters : OnlyWhatIsShownEnters
only_what_is_shown_enters book other how others t names decimals trees tables same =
    let numbers : (name : Name) → number_of other name ≡ number_of book name = λ name.
    ap (λ x. first_place (bytes_eq name) (cells_of x other.tables)) trees ∙ ap (λ x. first_place (bytes_eq name) (cells_of book.trees x)) tables in
    let shown : (name : Name) → number_shown other others name ≡ number_shown book how name = λ name.
    ap (λ cell. option_and_then (shown_in other others) cell) (numbers name) ∙ then-same (shown_in other others) (shown_in book how) (number_of book name) same in
    ap (λ x. table_text x (slice_index_or other.tables t []) names decimals (number_shown other others)) trees
    ∙ ap (λ x. table_text book.trees (slice_index_or x t []) names decimals (number_shown other others)) tables
    ∙ same-text book.trees (slice_index_or book.tables t []) names decimals (number_shown other others) (number_shown book how) shown

pub hidden_show_nothing : HiddenShowNothing
hidden_show_nothing marks flags cell hidden = rw hidden refl
