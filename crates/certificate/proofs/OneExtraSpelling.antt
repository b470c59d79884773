-- Bytes that are read as extra cells are their text.
use Rattle.std.proofs.Common.{◌≡◌, ℕ, ◌<◌, true, false, cond, List, [], ◌∷◌, ◌++◌, length, map, Ok, refl, ap, ◌∙◌, subst, arith, decimal}
use Rattle.std.specs.Prelude.{codes}
use Rattle.std.specs.List.{AllByRecursion}
use Rattle.certificate.specs.declared.certificate.WorldLine.{WorldLine}
use Rattle.certificate.specs.declared.extra.Extra.{Extra}
use Rattle.certificate.specs.declared.extra.ExtraNeed.{ExtraNeed}
use Rattle.certificate.specs.declared.version.Version.TheVariants.{Two}
use Rattle.certificate.specs.Remainder.{Remainder}
use Rattle.certificate.specs.Pieces.{pieces}
use Rattle.certificate.specs.Numerals.{ascends}
use Rattle.certificate.specs.TokenLists.{end_of}
use Rattle.certificate.specs.LineReadings.{hidden_of}
use Rattle.certificate.specs.Certificates.{is_next, item_at, items_from, end_at}
use Rattle.certificate.specs.Spelling.{FitsIn32Bits, IsWorldSpellable, IsWorldWithinTypes}
use Rattle.certificate.specs.ExtraReadings.{contributors_line, heading_at, cells_at, need_of, guard_of, extra_of}
use Rattle.certificate.specs.ExtraTexts.{need_arguments, extra_text, IsExtraSpellable, IsExtraWithinTypes, IsNeedSpellable, IsNeedWithinTypes, HasOneExtraSpelling}
use Rattle.certificate.proofs.EntryLaws.{world_text}
use Rattle.certificate.proofs.ExtraEntries.{need_text}
use Rattle.certificate.proofs.ExtraLineTexts.{cells_line, extra_lines, text_again, guard_arguments}
use Rattle.certificate.proofs.ExtraSteps.{heading_text}
use Rattle.certificate.proofs.ItemLaws.{line_by, item_at_text, items_text}
use Rattle.certificate.proofs.LineLaws.{hidden_text, ended_text}
use Rattle.certificate.proofs.OneSpelling.{over-text, with_value}
use Rattle.certificate.proofs.TextLines.{each_holds, end_lines}
use Rattle.certificate.proofs.TokenLaws.{ok_same}

-- what is known of the extra cells that were read
abbrev AreCellsRead : List (List ℕ) → List ℕ × Remainder → Type 0
AreCellsRead lines read = (lines ≡ cells_line read.0 ++ read.1.lines) × (ascends read.0 ≡ true) × AllByRecursion FitsIn32Bits read.0

one-line : (cells : List ℕ) (rest : List (List ℕ)) → 0 < length cells → line_by (codes "extra") (map decimal cells) ∷ rest ≡ cells_line cells ++ rest
one-line [] rest some = absurd (omega (arith, some))
one-line (cell ∷ cells) rest some = refl

cells-at-text : (left : Remainder) (result : List ℕ × Remainder) → cells_at left ≡ Ok result → AreCellsRead left.lines result
unfolding cells_at
cells-at-text left result h =
    elim (is_next (codes "extra") left.lines) as (λ t. cond t (item_at (codes "extra") hidden_of left) (Ok ([], left)) ≡ Ok result → AreCellsRead left.lines result) [
      | true ↦ λ g.
          let line = item_at_text (codes "extra") hidden_of left.given left.lines result.0 result.1 g in
          let cells = hidden_text line.tokens result.0 line.is in
          (line.text ∙ ap (λ (ts : List (List ℕ)). line_by (codes "extra") ts ∷ result.1.lines) cells.0 ∙ one-line result.0 result.1.lines cells.1, cells.2, cells.3)
      | false ↦ λ g. subst (λ (p : List ℕ × Remainder). AreCellsRead left.lines p) (ok_same ([], left) result g) (refl, refl, tt)
    ] h

abbrev IsNeedBoth : ExtraNeed → Type 0
IsNeedBoth n = IsNeedSpellable n × IsNeedWithinTypes n

abbrev IsGuardBoth : WorldLine → Type 0
IsGuardBoth l = IsWorldSpellable l × IsWorldWithinTypes l

-- the extra cells of parts that were read
abbrev made_of : List ℕ × Remainder → List ExtraNeed × Remainder → List WorldLine × Remainder → Extra
made_of cells needs guards = record { cells = cells.0; needs = needs.0; guards = guards.0 }

abbrev IsSpelt : List ℕ → Extra → Type 0
IsSpelt bytes m = IsExtraSpellable m × IsExtraWithinTypes m × (bytes ≡ extra_text m)

assembled : (bytes : List ℕ) (start : Remainder) (cells : List ℕ × Remainder) (needs : List ExtraNeed × Remainder) (guards : List WorldLine × Remainder) (last : Unit {0} × Remainder) (nothing : Unit {0})
    → heading_at contributors_line (pieces 10 bytes) ≡ Ok start → cells_at start ≡ Ok cells → items_from (codes "need") need_of cells.1.given cells.1.lines ≡ Ok needs
    → items_from (codes "guard") guard_of needs.1.given needs.1.lines ≡ Ok guards → item_at (codes "end") end_of guards.1 ≡ Ok last → end_at last.1.given last.1.lines ≡ Ok nothing
    → IsSpelt bytes (made_of cells needs guards)
assembled bytes start cells needs guards last nothing is-start is-cells is-needs is-guards is-last is-nothing =
    let cells-line = cells-at-text start cells is-cells in
    let need-lines = items_text (codes "need") need_of need_arguments IsNeedBoth (λ tokens n is. let read = need_text tokens n is in (read.text, (read.fine, read.wide))) cells.1.given cells.1.lines needs is-needs in
    let guard-lines = items_text (codes "guard") guard_of guard_arguments IsGuardBoth (λ tokens l is. let read = world_text Two [] tokens l refl tt is in (read.text, (read.fine, read.wide))) needs.1.given needs.1.lines guards is-guards in
    let end-line = item_at_text (codes "end") end_of guards.1.given guards.1.lines last.0 last.1 is-last in
    let ends : guards.1.lines ≡ end_lines =
    end-line.text ∙ ap (λ (ts : List (List ℕ)). line_by (codes "end") ts ∷ last.1.lines) (ended_text end-line.tokens last.0 end-line.is)
    ∙ ap (λ (ls : List (List ℕ)). line_by (codes "end") [] ∷ ls) (over-text last.1.given last.1.lines nothing is-nothing end-line.some) in
    let from-guards = guard-lines.0 ∙ ap (λ (ls : List (List ℕ)). map (λ l. line_by (codes "guard") (guard_arguments l)) guards.0 ++ ls) ends in
    let from-needs = need-lines.0 ∙ ap (λ (ls : List (List ℕ)). map (λ n. line_by (codes "need") (need_arguments n)) needs.0 ++ ls) from-guards in
    let from-cells = cells-line.0 ∙ ap (λ (ls : List (List ℕ)). cells_line cells.0 ++ ls) from-needs in
    let made = made_of cells needs guards in
    let all : pieces 10 bytes ≡ extra_lines made = heading_text contributors_line (pieces 10 bytes) start is-start ∙ ap (λ (ls : List (List ℕ)). contributors_line ∷ ls) from-cells in (
      record {
        cells = cells-line.1;
        needs = each_holds IsNeedBoth IsNeedSpellable needs.0 (λ n both. both.0) need-lines.1;
        guards = each_holds IsGuardBoth IsWorldSpellable guards.0 (λ l both. both.0) guard-lines.1;
      },
      record {
        cells = cells-line.2;
        needs = each_holds IsNeedBoth IsNeedWithinTypes needs.0 (λ n both. both.1) need-lines.1;
        guards = each_holds IsGuardBoth IsWorldWithinTypes guards.0 (λ l both. both.1) guard-lines.1;
      },
      text_again bytes made all,
    )

pub one_extra_spelling : HasOneExtraSpelling
unfolding extra_of
one_extra_spelling bytes c h =
    with_value {G = IsSpelt bytes c} (heading_at contributors_line (pieces 10 bytes)) _ c h (λ start a h1.
    with_value {G = IsSpelt bytes c} (cells_at start) _ c h1 (λ cells b h2.
    with_value {G = IsSpelt bytes c} (items_from (codes "need") need_of cells.1.given cells.1.lines) _ c h2 (λ needs d h3.
    with_value {G = IsSpelt bytes c} (items_from (codes "guard") guard_of needs.1.given needs.1.lines) _ c h3 (λ guards e h4.
    with_value {G = IsSpelt bytes c} (item_at (codes "end") end_of guards.1) _ c h4 (λ last f h5.
    with_value {G = IsSpelt bytes c} (end_at last.1.given last.1.lines) _ c h5 (λ nothing m same.
    subst (λ (x : Extra). IsSpelt bytes x) (ok_same (made_of cells needs guards) c same)
    (assembled bytes start cells needs guards last nothing a b d e f m)))))))
