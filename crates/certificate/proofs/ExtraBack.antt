-- The text of extra cells is read as those.
use Rattle.std.proofs.Common.{◌≡◌, ℕ, ◌+◌, ◌<◌, true, false, List, [], ◌∷◌, ◌++◌, length, map, Ok, refl, ap, ◌∙◌, arith, decimal}
use Rattle.std.specs.Prelude.{codes}
use Rattle.std.specs.List.{AllByRecursion}
use Rattle.std.specs.Str.{bytes_eq}
use Rattle.certificate.specs.declared.extra.Extra.{Extra}
use Rattle.certificate.specs.declared.version.Version.TheVariants.{Two}
use Rattle.certificate.specs.Remainder.{Remainder}
use Rattle.certificate.specs.Pieces.{pieces}
use Rattle.certificate.specs.Numerals.{ascends}
use Rattle.certificate.specs.TokenLists.{end_of}
use Rattle.certificate.specs.LineReadings.{hidden_of}
use Rattle.certificate.specs.Certificates.{is_next, item_at, items_from}
use Rattle.certificate.specs.Spelling.{FitsIn32Bits, IsWorldSpellable, IsWorldWithinTypes}
use Rattle.certificate.specs.ExtraReadings.{contributors_line, heading_at, cells_at, need_of, guard_of, extra_of}
use Rattle.certificate.specs.ExtraTexts.{need_arguments, extra_text, IsExtraSpellable, IsExtraWithinTypes, IsNeedSpellable, IsNeedWithinTypes, IsExtraReadBack}
use Rattle.certificate.proofs.ClearLaws.{clear_word, clear_numbers, clear_world}
use Rattle.certificate.proofs.EntryLaws.{world_again}
use Rattle.certificate.proofs.ExtraEntries.{need_again, clear_need}
use Rattle.certificate.proofs.ExtraLineTexts.{guard_lines, need_lines, cells_line, cells_lines, text_cut, guard_arguments}
use Rattle.certificate.proofs.ExtraSteps.{heading_again}
use Rattle.certificate.proofs.ItemLaws.{AreApart, item_at_again, items_again, past_lines, is_by_word, longer}
use Rattle.certificate.proofs.LineLaws.{hidden_again}
use Rattle.certificate.proofs.ReadBack.{then, past-end}
use Rattle.certificate.proofs.TextLines.{both_hold, each_holds, end_lines}

past-guards : (extra : Extra) (word : List ℕ) → IsExtraWithinTypes extra → bytes_eq (codes "end") word ≡ false → bytes_eq (codes "guard") word ≡ false → is_next word (guard_lines extra) ≡ false
past-guards extra word wide a b = past_lines word (codes "guard") guard_arguments extra.guards end_lines b (each_holds IsWorldWithinTypes _ extra.guards (λ l w. clear_world Two 32 (codes "guard") [] l (omega arith) refl w) wide.guards) (past-end word a)

past-needs : (extra : Extra) (word : List ℕ) → IsExtraSpellable extra → IsExtraWithinTypes extra → bytes_eq (codes "end") word ≡ false → bytes_eq (codes "guard") word ≡ false → bytes_eq (codes "need") word ≡ false → is_next word (need_lines extra) ≡ false
past-needs extra word fine wide a b d =
    past_lines word (codes "need") need_arguments extra.needs (guard_lines extra) d (both_hold IsNeedSpellable IsNeedWithinTypes _ extra.needs (λ n f w. clear_need 32 n (omega arith) f w) fine.needs wide.needs) (past-guards extra word wide a b)

some-guards : (extra : Extra) → 0 < length (guard_lines extra)
some-guards extra = longer _ end_lines (omega arith)

some-needs : (extra : Extra) → 0 < length (need_lines extra)
some-needs extra = longer _ (guard_lines extra) (some-guards extra)

abbrev AreCellsAgain : List ℕ → List (List ℕ) → Type 0
AreCellsAgain cells rest = (after : ℕ) × (cells_at (record { given = 1; lines = cells_line cells ++ rest }) ≡ Ok (cells, record { given = after; lines = rest }))

cells-by-line : (left next : Remainder) (cells : List ℕ) → is_next (codes "extra") left.lines ≡ true → item_at (codes "extra") hidden_of left ≡ Ok (cells, next) → cells_at left ≡ Ok (cells, next)
unfolding cells_at
cells-by-line left next cells named is = rw (named, is) refl

cells-by-none : (left : Remainder) → is_next (codes "extra") left.lines ≡ false → cells_at left ≡ Ok ([], left)
unfolding cells_at
cells-by-none left named = rw named refl

cells-again : (cells : List ℕ) (rest : List (List ℕ)) → ascends cells ≡ true → AllByRecursion FitsIn32Bits cells → 0 < length rest → is_next (codes "extra") rest ≡ false → AreCellsAgain cells rest
cells-again [] rest up short some past = (1, cells-by-none (record { given = 1; lines = rest }) past)
cells-again (cell ∷ cells) rest up short some past =
    let apart : AreApart (codes "extra" ∷ decimal cell ∷ map decimal cells) = (clear_word 32 (codes "extra") (omega arith) refl, clear_numbers 32 (cell ∷ cells) (omega arith) short) in (
      1 + 1,
      cells-by-line (record { given = 1; lines = cells_line (cell ∷ cells) ++ rest }) (record { given = 1 + 1; lines = rest }) (cell ∷ cells)
          (is_by_word (codes "extra") (codes "extra") (decimal cell ∷ map decimal cells) apart)
          (item_at_again (codes "extra") hidden_of (decimal cell ∷ map decimal cells) (cell ∷ cells) 1 rest (hidden_again cell cells up short) apart some),
    )

-- a heading with some lines behind it
heading-and-more : (lines : List (List ℕ)) → 0 < length lines → heading_at contributors_line (contributors_line ∷ lines) ≡ Ok (record { given = 1; lines = lines })
heading-and-more [] some = absurd (omega (arith, some))
heading-and-more (line ∷ lines) some = heading_again line lines

pub extra_read_back : IsExtraReadBack
unfolding extra_of
extra_read_back c fine wide =
    let low : 32 < 44 = omega arith in
    let cells = cells-again c.cells (need_lines c) fine.cells wide.cells (some-needs c) (past-needs c (codes "extra") fine wide refl refl refl) in
    let needs = items_again (codes "need") need_of need_arguments c.needs cells.0 (guard_lines c)
    (both_hold IsNeedSpellable IsNeedWithinTypes _ c.needs (λ n f w. (need_again n f w, clear_need 32 n low f w)) fine.needs wide.needs) (some-guards c) (past-guards c (codes "need") wide refl refl) in
    let guards = items_again (codes "guard") guard_of guard_arguments c.guards needs.0 end_lines
    (both_hold IsWorldSpellable IsWorldWithinTypes _ c.guards (λ l f w. (world_again Two [] l refl f tt w, clear_world Two 32 (codes "guard") [] l low refl w)) fine.guards wide.guards) (omega arith) (past-end (codes "guard") refl) in
    then (heading_at contributors_line (pieces 10 (extra_text c))) _ (record { given = 1; lines = cells_lines c }) (ap (heading_at contributors_line) (text_cut c fine wide) ∙ heading-and-more (cells_lines c) (longer (cells_line c.cells) (need_lines c) (some-needs c)))
    ∙ then (cells_at (record { given = 1; lines = cells_lines c })) _ (c.cells, record { given = cells.0; lines = need_lines c }) cells.1
    ∙ then (items_from (codes "need") need_of cells.0 (need_lines c)) _ (c.needs, record { given = needs.0; lines = guard_lines c }) needs.1
    ∙ then (items_from (codes "guard") guard_of needs.0 (guard_lines c)) _ (c.guards, record { given = guards.0; lines = end_lines }) guards.1
    ∙ then (item_at (codes "end") end_of (record { given = guards.0; lines = end_lines })) _ (tt, record { given = guards.0 + 1; lines = [] ∷ [] })
    (item_at_again (codes "end") end_of [] tt guards.0 ([] ∷ []) refl (refl, tt) (omega arith))
