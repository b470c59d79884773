-- Which cells are marked as hidden, once one is marked or shown.
use Rattle.std.proofs.Common.{◌≡◌, ◌≢◌, ℕ, zero, suc, ◌+◌, ◌<◌, ◌≤◌, ◌==◌, ◌||◌, nat_lt, Bool, true, false, List, [], ◌∷◌, length, map, take, slice_get, slice_set, slice_index_or, None, Some, if◌then◌else◌, refl, ap, sym, ◌∙◌, arith}
use Rattle.std.specs.List.{list_any}
use Rattle.std.specs.Option.{option_map_or}
use Rattle.std.proofs.lemmas.Bool.Decides.{Decides-eqb, nat_tests}
use Rattle.std.proofs.lemmas.List.{take_more}
use Rattle.std.proofs.lemmas.List.Folds.{list_any-append}
use Rattle.std.proofs.lemmas.Option.{slice_get_past}
use Rattle.sdc_base.specs.Kinds.{is_primary, is_primary_at}
use Rattle.sdc_base.specs.Trails.{hidden_after}
use Rattle.sdc_base.specs.declared.cell.Cell.{Cell}
use Rattle.sdc_base.specs.declared.cube.Corner.{Corner}
use Rattle.sdc_base.specs.declared.facts.CellFacts.{CellFacts}
use Rattle.sdc_base.proofs.ListReads.{set-here, set-there}
use Rattle.linked_tables.specs.declared.mark.Mark.{Mark}
use Rattle.linked_tables.specs.BookViews.{BookView}
use Rattle.hypercube.specs.LeastCubes.{is_marked}
use Rattle.modular_plan.specs.Plans.{AreMarked, IsSameButHidden}

-- a mark with the same facts
abbrev pub flagged : Mark → Bool → Mark
flagged mark hidden = record { facts = mark.facts; hidden = hidden }

facts-set : (marks : List Mark) (cell : ℕ) (mark : Mark) (hidden : Bool) → slice_get marks cell ≡ Some mark → map (λ (one : Mark). one.facts) (slice_set marks cell (flagged mark hidden)) ≡ map (λ (one : Mark). one.facts) marks
facts-set [] cell mark hidden h = refl
facts-set (one ∷ marks) zero mark hidden h = let same : one ≡ mark = cc in ap (λ (m : Mark). m.facts ∷ map (λ (one : Mark). one.facts) marks) (sym same)
facts-set (one ∷ marks) (suc cell) mark hidden h = ap (λ (facts : List CellFacts). one.facts ∷ facts) (facts-set marks cell mark hidden h)

pub same-flagged : (book : BookView) (cell : ℕ) (mark : Mark) (hidden : Bool) → slice_get book.marks cell ≡ Some mark → IsSameButHidden book (record book { marks = slice_set book.marks cell (flagged mark hidden) })
same-flagged book cell mark hidden h = record { trees = refl; tables = refl; facts = facts-set book.marks cell mark hidden h }

pub marked-flagged : (book : BookView) (cell : ℕ) (mark : Mark) (hidden : Bool) (other : ℕ) → slice_get book.marks cell ≡ Some mark
    → is_marked (record book { marks = slice_set book.marks cell (flagged mark hidden) }) other ≡ (if other == cell then hidden else is_marked book other)
marked-flagged book cell mark hidden other h =
    elim (other == cell) as (λ b. (other == cell) ≡ b → is_marked (record book { marks = slice_set book.marks cell (flagged mark hidden) }) other ≡ (if b then hidden else is_marked book other)) [
      | true ↦ λ is.
          let same : other ≡ cell = (Decides-eqb other cell).0 is in
          ap (λ k. option_map_or (λ (one : Mark). one.hidden) (slice_get (slice_set book.marks cell (flagged mark hidden)) k) false) same
          ∙ ap (λ found. option_map_or (λ (one : Mark). one.hidden) found false) (set-here book.marks cell mark (flagged mark hidden) h)
      | false ↦ λ is.
          let apart : cell ≢ other = λ same. absurd (differ is ((Decides-eqb other cell).1 (sym same))) in
          ap (λ found. option_map_or (λ (one : Mark). one.hidden) found false) (set-there book.marks cell other (flagged mark hidden) apart)
    ] refl
  where
    differ : {b : Bool} → b ≡ false → b ≡ true → ⊥
    differ one other = absurd cc

-- a book differs from itself by nothing
pub same-itself : (book : BookView) → IsSameButHidden book book
same-itself book = record { trees = refl; tables = refl; facts = refl }

pub same-then : (a b c : BookView) → IsSameButHidden a b → IsSameButHidden b c → IsSameButHidden a c
same-then a b c one two = record { trees = two.trees ∙ one.trees; tables = two.tables ∙ one.tables; facts = two.facts ∙ one.facts }

count-facts : (marks : List Mark) → length (map (λ (one : Mark). one.facts) marks) ≡ length marks
count-facts [] = refl
count-facts (mark ∷ marks) = ap suc (count-facts marks)

-- as many marks as before
pub same-count : (old new : BookView) → IsSameButHidden old new → length new.marks ≡ length old.marks
same-count old new same = sym (count-facts new.marks) ∙ ap length same.facts ∙ count-facts old.marks

-- corners marked one after another
pub corner-next : (before : Bool) (corners : List Corner) (i : ℕ) (d : Corner) (cell : ℕ) (old new : Bool) → i < length corners → old ≡ (before || list_any (λ corner. corner.cell == cell) (take i corners)) → new ≡ (if cell == (slice_index_or corners i d).cell then true else old)
    → new ≡ (before || list_any (λ corner. corner.cell == cell) (take (i + 1) corners))
corner-next before corners i d cell old new inside was is =
    is
    ∙ both ((slice_index_or corners i d).cell == cell) (cell == (slice_index_or corners i d).cell) turned before (list_any (λ corner. corner.cell == cell) (take i corners)) was
    ∙ ap (λ b. before || b) (sym (list_any-append (λ (corner : Corner). corner.cell == cell) (take i corners) (slice_index_or corners i d ∷ [])))
    ∙ ap (λ found. before || list_any (λ (corner : Corner). corner.cell == cell) found) (sym (take_more corners i d inside))
  where
    turned : (cell == (slice_index_or corners i d).cell) ≡ ((slice_index_or corners i d).cell == cell)
    turned = grind (arith, nat_tests)

    both : (here there : Bool) → there ≡ here → (a b : Bool) → old ≡ (a || b) → (if there then true else old) ≡ (a || (b || (here || false)))
    both true true same true b was = refl
    both true true same false true was = refl
    both true true same false false was = refl
    both false false same true b was = was
    both false false same false true was = was
    both false false same false false was = was
    both true false same a b was = absurd cc
    both false true same a b was = absurd cc

-- so many first cells are marked where they are primary
abbrev pub marked_below : List Cell → (ℕ → Bool) → ℕ → ℕ → Bool
marked_below cells before count cell = if nat_lt cell count then is_primary_at cells cell else before cell

pub below-next : (cells : List Cell) (before : ℕ → Bool) (count cell : ℕ) (old new : Bool) → old ≡ marked_below cells before count cell → new ≡ (if cell == count then is_primary_at cells count else old) → new ≡ marked_below cells before (count + 1) cell
below-next cells before count cell old new was is =
    is
    ∙ elim (cell == count) as (λ b. (cell == count) ≡ b → (if b then is_primary_at cells count else old) ≡ marked_below cells before (count + 1) cell) [
      | true ↦ λ here.
          let same : cell ≡ count = (Decides-eqb cell count).0 here in
          let test : nat_lt cell (count + 1) ≡ true = grind (arith, nat_tests, same) in
          ap (is_primary_at cells) (sym same) ∙ ap (λ b. if b then is_primary_at cells cell else before cell) (sym test)
      | false ↦ λ here.
          let test : nat_lt cell count ≡ nat_lt cell (count + 1) = grind (arith, nat_tests, here) in
          was ∙ ap (λ b. if b then is_primary_at cells cell else before cell) test
    ] refl

or-nothing : (b : Bool) → b ≡ (b || false)
or-nothing true = refl
or-nothing false = refl

-- all are
pub below-all : (book : BookView) (cells : List Cell) (before : ℕ → Bool) (count : ℕ) → ((cell : ℕ) → is_marked book cell ≡ marked_below cells before count cell) → length book.marks ≤ count → length cells ≤ count → AreMarked book cells []
below-all book cells before count marked few fewer = λ cell.
    elim (nat_lt cell count) as (λ b. nat_lt cell count ≡ b → is_marked book cell ≡ hidden_after cells [] cell) [
      | true ↦ λ here. marked cell ∙ ap (λ b. if b then is_primary_at cells cell else before cell) here ∙ or-nothing (is_primary_at cells cell)
      | false ↦ λ here.
          let past : count ≤ cell = grind (arith, nat_tests, here) in
          ap (λ found. option_map_or (λ (one : Mark). one.hidden) found false) (slice_get_past book.marks cell (omega (arith, past, few)))
          ∙ ap (λ found. option_map_or (λ (one : Cell). is_primary one.kind) found false || false) (sym (slice_get_past cells cell (omega (arith, past, fewer))))
    ] refl

-- there is a mark at each place before the end
pub not-past : (marks : List Mark) (cell : ℕ) → None ≡ slice_get marks cell → cell < length marks → ⊥
not-past [] cell none inside = absurd (omega (arith, inside))
not-past (mark ∷ marks) zero none inside = absurd cc
not-past (mark ∷ marks) (suc cell) none inside = not-past marks cell none (omega (arith, inside))
