-- Lists of a certificate, made item by item.
use Rattle.std.proofs.Common.{◌≡◌, ℕ, ◌+◌, ◌-◌, ◌<◌, Bool, true, false, List, [], ◌∷◌, ◌++◌, filter, length, drop, get_or, if◌then◌else◌, refl, ap, sym, ◌∙◌, append_assoc}
use Rattle.std.specs.List.{range_with_len}
use Rattle.std.proofs.lemmas.List.{append-nil, drop_more, drop-drop, length-append}
use Rattle.sdc_base.specs.HiddenSets.{is_hidden}
use Rattle.sdc_base.specs.Kinds.{is_primary}
use Rattle.sdc_base.specs.declared.cell.Cell.{Cell}
use Rattle.sdc_base.specs.declared.side.Side.{Side}
use Rattle.sdc_base.specs.declared.side.Side.TheVariants.{Above, Below}
use Rattle.sdc_base.proofs.GrowingLists.{filter-front, range-end, range-next}
use Rattle.worlds.specs.ProtectFaults.{asked_of}
use Rattle.worlds.specs.declared.world.World.{World}
use Rattle.certificate.specs.declared.certificate.WorldLine.{WorldLine}
use Rattle.cell_protection.specs.Certifying.{hidden_numbers, world_line, world_lines}

-- one cell more
pub numbers-next : (flags : List Bool) (count : ℕ) (found : List ℕ) (cell : ℕ) → cell < count → found ++ filter (is_hidden flags) (range_with_len cell (count - cell)) ≡ hidden_numbers count flags
    → (if is_hidden flags cell then found ++ cell ∷ [] else found) ++ filter (is_hidden flags) (range_with_len (cell + 1) (count - (cell + 1))) ≡ hidden_numbers count flags
numbers-next flags count found cell within is =
    filter-front (is_hidden flags) found cell (range_with_len (cell + 1) (count - (cell + 1)))
    ∙ ap (λ numbers. found ++ filter (is_hidden flags) numbers) (sym (range-next cell count within))
    ∙ is

pub numbers-end : (flags : List Bool) (count : ℕ) (found : List ℕ) (cell : ℕ) → count ≡ cell → found ++ filter (is_hidden flags) (range_with_len cell (count - cell)) ≡ hidden_numbers count flags → found ≡ hidden_numbers count flags
numbers-end flags count found cell end is = sym (append-nil found) ∙ ap (λ numbers. found ++ filter (is_hidden flags) numbers) (sym (range-end cell count end)) ∙ is

-- ---- lines

lines-none : (asked : List (ℕ × Side)) → world_lines asked [] ≡ []
lines-none [] = refl
lines-none (one ∷ more) = refl

lines-append : (asked more : List (ℕ × Side)) (worlds : List World) → world_lines (asked ++ more) worlds ≡ world_lines asked worlds ++ world_lines more (drop (length (world_lines asked worlds)) worlds)
lines-append [] more worlds = refl
lines-append (one ∷ asked) more [] = sym (lines-none more)
lines-append (one ∷ asked) more (world ∷ worlds) = ap (λ lines. world_line one world ∷ lines) (lines-append asked more worlds)

-- lines for what is asked next, behind those that are made
lines-next : (asked more : List (ℕ × Side)) (worlds : List World) (made next : List WorldLine) → next ≡ made ++ world_lines asked (drop (length made) worlds)
    → next ++ world_lines more (drop (length next) worlds) ≡ made ++ world_lines (asked ++ more) (drop (length made) worlds)
lines-next asked more worlds made next is =
    ap (λ (lines : List WorldLine). lines ++ world_lines more (drop (length lines) worlds)) is
    ∙ append_assoc made here (world_lines more (drop (length (made ++ here)) worlds))
    ∙ ap (λ (left : List World). made ++ (here ++ world_lines more left)) behind
    ∙ ap (λ (lines : List WorldLine). made ++ lines) (sym (lines-append asked more (drop (length made) worlds)))
  where
    here : List WorldLine
    here = world_lines asked (drop (length made) worlds)

    behind : drop (length (made ++ here)) worlds ≡ drop (length here) (drop (length made) worlds)
    behind = ap (λ n. drop n worlds) (length-append made here) ∙ sym (drop-drop (length here) (length made) worlds)

asked-cut : (number : ℕ) (cell : Cell) (cells : List Cell) → asked_of number (cell ∷ cells) ≡ asked_of number (cell ∷ []) ++ asked_of (number + 1) cells
asked-cut number cell cells =
    elim (is_primary cell.kind) as (λ b. (if b then (number, Above) ∷ (number, Below) ∷ asked_of (number + 1) cells else asked_of (number + 1) cells) ≡ (if b then (number, Above) ∷ (number, Below) ∷ asked_of (number + 1) [] else asked_of (number + 1) []) ++ asked_of (number + 1) cells) [
      | true ↦ refl
      | false ↦ refl
    ]

-- the lines of one cell more
pub cell-next : (cells : List Cell) (worlds : List World) (made next : List WorldLine) (number : ℕ) (cell : Cell) → number < length cells → cell ≡ get_or cells number cell → next ≡ made ++ world_lines (asked_of number (cell ∷ [])) (drop (length made) worlds)
    → made ++ world_lines (asked_of number (drop number cells)) (drop (length made) worlds) ≡ world_lines (asked_of 0 cells) worlds
    → next ++ world_lines (asked_of (number + 1) (drop (number + 1) cells)) (drop (length next) worlds) ≡ world_lines (asked_of 0 cells) worlds
cell-next cells worlds made next number cell within cell_is next_is is =
    lines-next (asked_of number (cell ∷ [])) (asked_of (number + 1) (drop (number + 1) cells)) worlds made next next_is
    ∙ ap (λ (asked : List (ℕ × Side)). made ++ world_lines asked (drop (length made) worlds)) (sym front)
    ∙ is
  where
    front : asked_of number (drop number cells) ≡ asked_of number (cell ∷ []) ++ asked_of (number + 1) (drop (number + 1) cells)
    front =
        ap (λ (l : List Cell). asked_of number l) (drop_more cells number cell within ∙ ap (λ c. c ∷ drop (number + 1) cells) (sym cell_is))
        ∙ asked-cut number cell (drop (number + 1) cells)

-- the lines of a primary cell, above and then below
pub both-lines : (worlds : List World) (made one both : List WorldLine) (number : ℕ) (cell : Cell) → is_primary cell.kind ≡ true → one ≡ made ++ world_lines ((number, Above) ∷ []) (drop (length made) worlds) → both ≡ one ++ world_lines ((number, Below) ∷ []) (drop (length one) worlds)
    → both ≡ made ++ world_lines (asked_of number (cell ∷ [])) (drop (length made) worlds)
both-lines worlds made one both number cell primary one_is both_is =
    both_is
    ∙ lines-next ((number, Above) ∷ []) ((number, Below) ∷ []) worlds made one one_is
    ∙ ap (λ b. made ++ world_lines (if b then (number, Above) ∷ (number, Below) ∷ asked_of (number + 1) [] else asked_of (number + 1) []) (drop (length made) worlds)) (sym primary)
