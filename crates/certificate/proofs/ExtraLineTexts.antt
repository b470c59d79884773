-- The lines of the text of extra cells.
use Rattle.std.proofs.Common.{◌≡◌, ℕ, ◌<◌, List, [], ◌∷◌, ◌++◌, map, refl, ap, sym, ◌∙◌, arith, decimal}
use Rattle.std.specs.Prelude.{codes}
use Rattle.std.specs.List.{AllByRecursion}
use Rattle.certificate.specs.declared.extra.Extra.{Extra}
use Rattle.certificate.specs.declared.version.Version.TheVariants.{Two}
use Rattle.certificate.specs.Pieces.{pieces}
use Rattle.certificate.specs.Spelling.{FitsIn32Bits}
use Rattle.certificate.specs.ExtraReadings.{contributors_line}
use Rattle.certificate.specs.ExtraTexts.{cells_tokens, need_arguments, need_tokens, guard_tokens, extra_tokens, extra_text, IsExtraSpellable, IsExtraWithinTypes}
use Rattle.certificate.proofs.ClearLaws.{clear_word, clear_numbers, clear_world}
use Rattle.certificate.proofs.ExtraEntries.{clear_need}
use Rattle.certificate.proofs.ItemLaws.{line_by}
use Rattle.certificate.proofs.PieceLaws.{pieces_lines, lines_again}
use Rattle.certificate.proofs.TextLines.{joined, IsClear, moved, moved-by, all-append, all-map, both_hold, each_holds, end_lines}
use Rattle.certificate.specs.declared.certificate.WorldLine.{WorldLine}
use Rattle.certificate.specs.Texts.{world_arguments}

-- what a complete table against contributors says: as in the certificate's second version, whatever is hidden
abbrev pub guard_arguments : WorldLine → List (List ℕ)
guard_arguments line = world_arguments Two [] line

-- the complete tables, and what stands behind them
abbrev pub guard_lines : Extra → List (List ℕ)
guard_lines extra = map (λ line. line_by (codes "guard") (guard_arguments line)) extra.guards ++ end_lines

abbrev pub need_lines : Extra → List (List ℕ)
need_lines extra = map (λ need. line_by (codes "need") (need_arguments need)) extra.needs ++ guard_lines extra

-- the line of the extra cells
abbrev pub cells_line : List ℕ → List (List ℕ)
cells_line [] = []
cells_line (cell ∷ cells) = line_by (codes "extra") (decimal cell ∷ map decimal cells) ∷ []

abbrev pub cells_lines : Extra → List (List ℕ)
cells_lines extra = cells_line extra.cells ++ need_lines extra

abbrev pub extra_lines : Extra → List (List ℕ)
extra_lines extra = contributors_line ∷ cells_lines extra

cells-joined : (cells : List ℕ) → map joined (cells_tokens cells) ≡ cells_line cells
cells-joined [] = refl
cells-joined (cell ∷ cells) = refl

pub lines_are : (extra : Extra) → map joined (extra_tokens extra) ++ [] ∷ [] ≡ extra_lines extra
lines_are extra =
    let first : List (List (List ℕ)) = (contributors_line ∷ []) ∷ cells_tokens extra.cells in
    let second = first ++ map need_tokens extra.needs in
    let third = second ++ map guard_tokens extra.guards in
    moved joined third ((codes "end" ∷ []) ∷ []) ([] ∷ [])
    ∙ moved-by joined guard_tokens second extra.guards end_lines
    ∙ moved-by joined need_tokens first extra.needs (guard_lines extra)
    ∙ ap (λ (lines : List (List ℕ)). contributors_line ∷ (lines ++ need_lines extra)) (cells-joined extra.cells)

cells-clear : (cells : List ℕ) → AllByRecursion FitsIn32Bits cells → AllByRecursion IsClear (cells_tokens cells)
cells-clear [] h = tt
cells-clear (cell ∷ cells) h = ((clear_word 10 (codes "extra") (omega arith) refl, clear_numbers 10 (cell ∷ cells) (omega arith) h), tt)

pub text_cut : (extra : Extra) → IsExtraSpellable extra → IsExtraWithinTypes extra → pieces 10 (extra_text extra) ≡ extra_lines extra
text_cut extra fine wide =
    let low : 10 < 44 = omega arith in
    let needs = all-map IsClear need_tokens extra.needs (both_hold _ _ _ extra.needs (λ n f w. clear_need 10 n low f w) fine.needs wide.needs) in
    let guards = all-map IsClear guard_tokens extra.guards (each_holds _ _ extra.guards (λ l w. clear_world Two 10 (codes "guard") [] l low refl w) wide.guards) in
    let last : AllByRecursion IsClear ((codes "end" ∷ []) ∷ []) = ((clear_word 10 (codes "end") low refl, tt), tt) in
    let first : List (List (List ℕ)) = (contributors_line ∷ []) ∷ cells_tokens extra.cells in
    let second = first ++ map need_tokens extra.needs in
    let third = second ++ map guard_tokens extra.guards in
    let a : AllByRecursion IsClear first = ((refl, tt), cells-clear extra.cells wide.cells) in
    let b = all-append IsClear first (map need_tokens extra.needs) a needs in
    let d = all-append IsClear second (map guard_tokens extra.guards) b guards in
    pieces_lines (extra_tokens extra) (all-append IsClear third ((codes "end" ∷ []) ∷ []) d last) ∙ lines_are extra

pub text_again : (bytes : List ℕ) (extra : Extra) → pieces 10 bytes ≡ extra_lines extra → bytes ≡ extra_text extra
text_again bytes extra h = lines_again bytes (extra_tokens extra) (h ∙ sym (lines_are extra))
