-- Records given to a table one after another, and lists made ready one after another.
use Rattle.std.proofs.Common.{◌≡◌, ◌≢◌, ℕ, ◌+◌, ◌<◌, List, [], ◌∷◌, ◌++◌, length, replicate, slice_get, Some, refl, ap, sym, ◌∙◌, subst, arith, append_assoc, ◌⊎◌, inl, inr}
use Rattle.std.proofs.lemmas.Grind.{flat_map-append}
use Rattle.std.proofs.lemmas.List.{append-nil}
use Rattle.sdc_base.specs.declared.rows.Row.{Row}
use Rattle.linked_tables.specs.declared.mark.Mark.{Mark}
use Rattle.linked_tables.specs.BookViews.{BookView}
use Rattle.tabulate.specs.RecordsByPlace.{GaveRecord, GaveRecords, hits, rows_for, own_places}
use Rattle.tabulate.specs.EmptyLists.{HasEmptyList, HaveEmptyLists}
use Rattle.tabulate.proofs.PlaceSteps.{given-as}

-- no records
pub gave-none : (book : BookView) (t first : ℕ) → GaveRecords book book t first []
gave-none book t first = record {
  frame = refl;
  kept = λ cell. refl;
  given = λ given start. given-as book.marks given (λ cell. given cell ++ []) (λ cell. sym (append-nil (given cell))) start;
}

-- one record more
pub gave-row : (a b c : BookView) (t first : ℕ) (rows : List Row) (row : Row) → GaveRecords a b t first rows → GaveRecord b c t first row (own_places b t row) → GaveRecords a c t first (rows ++ row ∷ [])
gave-row a b c t first rows row all one = record {
  frame = one.frame ∙ ap (λ (x : BookView). record x { marks = c.marks }) all.frame;
  kept = λ cell. one.kept cell ∙ all.kept cell;
  given = λ given start. given-as c.marks (λ cell. (given cell ++ rows_for a t first rows cell) ++ replicate (hits b t first (own_places b t row) cell) row) (λ cell. given cell ++ rows_for a t first (rows ++ row ∷ []) cell)
      (λ cell. more given cell) (one.given (λ cell. given cell ++ rows_for a t first rows cell) (all.given given start));
}
  where
    more : (given : ℕ → List Row) (cell : ℕ) → (given cell ++ rows_for a t first rows cell) ++ replicate (hits b t first (own_places b t row) cell) row ≡ given cell ++ rows_for a t first (rows ++ row ∷ []) cell
    more given cell =
        let each : Row → List Row = λ one. replicate (hits a t first (own_places a t one) cell) one in
        append_assoc (given cell) (rows_for a t first rows cell) (replicate (hits b t first (own_places b t row) cell) row)
        ∙ ap (λ (x : BookView). given cell ++ (rows_for a t first rows cell ++ replicate (hits x t first (own_places x t row) cell) row)) all.frame
        ∙ ap (λ last. given cell ++ (rows_for a t first rows cell ++ last)) (sym (append-nil (each row)))
        ∙ ap (λ found. given cell ++ found) (sym (flat_map-append each rows (row ∷ [])))

-- no list is ready
pub started-none : (book : BookView) (keep scale : ℕ) → HaveEmptyLists book book keep scale 0
started-none book keep scale = record {
  frame = refl;
  long = refl;
  ready = λ cell before after below at new. absurd (omega (arith, below));
  rest = λ cell h. refl;
}

-- one list more
pub started-next : (a b c : BookView) (keep scale cell : ℕ) → HaveEmptyLists a b keep scale cell → c ≡ record b { marks = c.marks } → length c.marks ≡ length b.marks
    → ((old new : Mark) → slice_get b.marks cell ≡ Some old → slice_get c.marks cell ≡ Some new → HasEmptyList keep scale old new) → ((other : ℕ) → other ≢ cell → slice_get c.marks other ≡ slice_get b.marks other) → HaveEmptyLists a c keep scale (cell + 1)
started-next a b c keep scale cell so_far frame long here there = record {
  frame = frame ∙ ap (λ (x : BookView). record x { marks = c.marks }) so_far.frame;
  long = long ∙ so_far.long;
  ready = λ one before after below at new. by one before after (less_or_same one cell below) at new;
  rest = λ one h. there one (λ same. absurd (omega (arith, h, same))) ∙ so_far.rest one (omega (arith, h));
}
  where
    less_or_same : (k i : ℕ) → k < i + 1 → (k < i) ⊎ (k ≡ i)
    less_or_same k i h = grind arith

    by : (one : ℕ) (before after : Mark) → (one < cell) ⊎ (one ≡ cell) → slice_get a.marks one ≡ Some before → slice_get c.marks one ≡ Some after → HasEmptyList keep scale before after
    by one before after (inl h) at new = so_far.ready one before after h at (sym (there one (λ same. absurd (omega (arith, h, same)))) ∙ new)
    by one before after (inr same) at new =
        let old_here : slice_get b.marks cell ≡ Some before = so_far.rest cell (omega arith) ∙ subst (λ k. slice_get a.marks k ≡ Some before) same at in
        here before after old_here (subst (λ k. slice_get c.marks k ≡ Some after) same new)
