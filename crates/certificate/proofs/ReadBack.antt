-- The text of a certificate is read as that certificate.
use Rattle.std.proofs.Common.{◌≡◌, ℕ, ◌+◌, ◌<◌, true, false, List, [], ◌∷◌, ◌++◌, length, map, Result, Ok, refl, ap, ◌∙◌, arith, decimal}
use Rattle.std.specs.Prelude.{codes}
use Rattle.std.specs.List.{AllByRecursion}
use Rattle.std.specs.Str.{bytes_eq}
use Rattle.sdc_base.specs.Steps.{◌>>=◌}
use Rattle.certificate.specs.declared.certificate.Certificate.{Certificate}
use Rattle.certificate.specs.declared.certificate.WorldLine.{WorldLine}
use Rattle.certificate.specs.declared.version.Version.{Version}
use Rattle.certificate.specs.declared.version.Version.TheVariants.{One, Two}
use Rattle.certificate.specs.Remainder.{Remainder}
use Rattle.certificate.specs.Pieces.{pieces}
use Rattle.certificate.specs.Numerals.{ascends}
use Rattle.certificate.specs.TokenLists.{end_of}
use Rattle.certificate.specs.LineReadings.{hidden_of, step_of, refutation_of, world_of}
use Rattle.certificate.specs.MethodReadings.{method_of, count_of}
use Rattle.certificate.specs.Certificates.{first_line, is_next, item_at, items_from, version_at, hidden_at, certificate_of}
use Rattle.certificate.specs.Texts.{method_arguments, step_arguments, refutation_arguments, world_arguments, text_in}
use Rattle.certificate.specs.Spelling.{FitsIn32Bits, IsSpellable, IsWithinTypes, IsStepSpellable, IsStepWithinTypes, IsRefutationSpellable, IsRefutationWithinTypes, IsWorldSpellable, IsWorldWithinTypes, IsSayable, HasTextIn}
use Rattle.certificate.specs.Laws.{IsReadBack}
use Rattle.certificate.proofs.ClearLaws.{clear_word, clear_decimal, clear_numbers, clear_method, clear_step, clear_refuted, clear_world}
use Rattle.certificate.proofs.EntryLaws.{step_again, refuted_again, world_again}
use Rattle.certificate.proofs.ItemLaws.{line_by, AreApart, item_at_again, items_again, past_lines, is_by_word, longer}
use Rattle.certificate.proofs.LineLaws.{method_again, count_again, hidden_again}
use Rattle.certificate.proofs.TextLines.{both_hold, each_holds, end_lines, world_lines, need_lines, repair_lines, step_lines, hidden_line, hidden_lines, text_cut}

-- ---- what isn't next

pub past-end : (word : List ℕ) → bytes_eq (codes "end") word ≡ false → is_next word end_lines ≡ false
past-end word h = is_by_word word (codes "end") [] (refl, tt) ∙ h

past-worlds : (version : Version) (c : Certificate) (word : List ℕ) → IsWithinTypes c → bytes_eq (codes "end") word ≡ false → bytes_eq (codes "world") word ≡ false → is_next word (world_lines version c) ≡ false
past-worlds version c word wide a b = past_lines word (codes "world") (world_arguments version c.hidden) c.worlds end_lines b (each_holds IsWorldWithinTypes _ c.worlds (λ l w. clear_world version 32 (codes "world") c.hidden l (omega arith) refl w) wide.worlds) (past-end word a)

past-needs : (version : Version) (c : Certificate) (word : List ℕ) → IsWithinTypes c → bytes_eq (codes "end") word ≡ false → bytes_eq (codes "world") word ≡ false → bytes_eq (codes "need") word ≡ false → is_next word (need_lines version c) ≡ false
past-needs version c word wide a b d =
    past_lines word (codes "need") refutation_arguments c.needs (world_lines version c) d (each_holds IsRefutationWithinTypes _ c.needs (λ r w. clear_refuted 32 (codes "need") r (omega arith) refl w) wide.needs) (past-worlds version c word wide a b)

past-repairs : (version : Version) (c : Certificate) (word : List ℕ) → IsWithinTypes c → bytes_eq (codes "end") word ≡ false → bytes_eq (codes "world") word ≡ false → bytes_eq (codes "need") word ≡ false → bytes_eq (codes "repair") word ≡ false
    → is_next word (repair_lines version c) ≡ false
past-repairs version c word wide a b d e =
    past_lines word (codes "repair") refutation_arguments c.repairs (need_lines version c) e (each_holds IsRefutationWithinTypes _ c.repairs (λ r w. clear_refuted 32 (codes "repair") r (omega arith) refl w) wide.repairs) (past-needs version c word wide a b d)

past-steps : (version : Version) (c : Certificate) (word : List ℕ) → IsSpellable c → IsWithinTypes c → bytes_eq (codes "end") word ≡ false → bytes_eq (codes "world") word ≡ false → bytes_eq (codes "need") word ≡ false
    → bytes_eq (codes "repair") word ≡ false → bytes_eq (codes "step") word ≡ false → is_next word (step_lines version c) ≡ false
past-steps version c word fine wide a b d e f =
    past_lines word (codes "step") step_arguments c.steps (repair_lines version c) f (both_hold IsStepSpellable IsStepWithinTypes _ c.steps (λ s g w. clear_step 32 s (omega arith) g w) fine.steps wide.steps) (past-repairs version c word wide a b d e)

-- ---- some lines are left

some-worlds : (version : Version) (c : Certificate) → 0 < length (world_lines version c)
some-worlds version c = longer _ end_lines (omega arith)

some-needs : (version : Version) (c : Certificate) → 0 < length (need_lines version c)
some-needs version c = longer _ (world_lines version c) (some-worlds version c)

some-repairs : (version : Version) (c : Certificate) → 0 < length (repair_lines version c)
some-repairs version c = longer _ (need_lines version c) (some-needs version c)

some-steps : (version : Version) (c : Certificate) → 0 < length (step_lines version c)
some-steps version c = longer _ (repair_lines version c) (some-repairs version c)

-- ---- the hidden cells

abbrev IsHiddenAgain : List ℕ → List (List ℕ) → Type 0
IsHiddenAgain cells rest = (after : ℕ) × (hidden_at (record { given = 4; lines = hidden_line cells ++ rest }) ≡ Ok (cells, record { given = after; lines = rest }))

hidden-by-line : (left next : Remainder) (cells : List ℕ) → is_next (codes "hidden") left.lines ≡ true → item_at (codes "hidden") hidden_of left ≡ Ok (cells, next) → hidden_at left ≡ Ok (cells, next)
unfolding hidden_at
hidden-by-line left next cells named is = rw (named, is) refl

hidden-by-none : (left : Remainder) → is_next (codes "hidden") left.lines ≡ false → hidden_at left ≡ Ok ([], left)
unfolding hidden_at
hidden-by-none left named = rw named refl

hidden-again : (cells : List ℕ) (rest : List (List ℕ)) → ascends cells ≡ true → AllByRecursion FitsIn32Bits cells → 0 < length rest → is_next (codes "hidden") rest ≡ false → IsHiddenAgain cells rest
hidden-again [] rest up short some past = (4, hidden-by-none (record { given = 4; lines = rest }) past)
hidden-again (cell ∷ cells) rest up short some past =
    let apart : AreApart (codes "hidden" ∷ decimal cell ∷ map decimal cells) = (clear_word 32 (codes "hidden") (omega arith) refl, clear_numbers 32 (cell ∷ cells) (omega arith) short) in (
      4 + 1,
      hidden-by-line (record { given = 4; lines = hidden_line (cell ∷ cells) ++ rest }) (record { given = 4 + 1; lines = rest }) (cell ∷ cells)
          (is_by_word (codes "hidden") (codes "hidden") (decimal cell ∷ map decimal cells) apart)
          (item_at_again (codes "hidden") hidden_of (decimal cell ∷ map decimal cells) (cell ∷ cells) 4 rest (hidden_again cell cells up short) apart some),
    )

-- ---- all lines

pub then : {A B F : Type 0} (r : Result A F) (next : A → Result B F) (x : A) → r ≡ Ok x → (r >>= next) ≡ next x
then {A} {B} {F} r next x h = ap (λ (q : Result A F). q >>= next) h

version-again : (version : Version) (line : List ℕ) (lines : List (List ℕ)) → version_at (first_line version ∷ line ∷ lines) ≡ Ok (version, record { given = 1; lines = line ∷ lines })
unfolding version_at
version-again One line lines = refl
version-again Two line lines = refl

abbrev IsWorldSaid : Version → List ℕ → WorldLine → Type 0
IsWorldSaid version hidden l = IsWorldSpellable l × IsSayable version hidden l

pub read_back : IsReadBack
unfolding certificate_of
read_back version c has wide =
    let fine = has.spellable in
    let low : 32 < 44 = omega arith in
    let method-apart = clear_method 32 c.method low wide.method in
    let cells-apart : AreApart (codes "cells" ∷ decimal c.cells ∷ []) = (clear_word 32 (codes "cells") low refl, (clear_decimal 32 c.cells low wide.cells, tt)) in
    let relations-apart : AreApart (codes "relations" ∷ decimal c.relations ∷ []) = (clear_word 32 (codes "relations") low refl, (clear_decimal 32 c.relations low wide.relations, tt)) in
    let relations_lines = line_by (codes "relations") (decimal c.relations ∷ []) ∷ hidden_lines version c in
    let cells_lines = line_by (codes "cells") (decimal c.cells ∷ []) ∷ relations_lines in
    let method_lines = line_by (codes "method") (method_arguments c.method) ∷ cells_lines in
    let hidden = hidden-again c.hidden (step_lines version c) fine.hidden wide.hidden (some-steps version c) (past-steps version c (codes "hidden") fine wide refl refl refl refl refl) in
    let steps = items_again (codes "step") step_of step_arguments c.steps hidden.0 (repair_lines version c)
    (both_hold IsStepSpellable IsStepWithinTypes _ c.steps (λ s f w. (step_again s f w, clear_step 32 s low f w)) fine.steps wide.steps) (some-repairs version c) (past-repairs version c (codes "step") wide refl refl refl refl) in
    let repairs = items_again (codes "repair") refutation_of refutation_arguments c.repairs steps.0 (need_lines version c)
    (both_hold IsRefutationSpellable IsRefutationWithinTypes _ c.repairs (λ r f w. (refuted_again r f w, clear_refuted 32 (codes "repair") r low refl w)) fine.repairs wide.repairs) (some-needs version c) (past-needs version c (codes "repair") wide refl refl refl) in
    let needs = items_again (codes "need") refutation_of refutation_arguments c.needs repairs.0 (world_lines version c)
    (both_hold IsRefutationSpellable IsRefutationWithinTypes _ c.needs (λ r f w. (refuted_again r f w, clear_refuted 32 (codes "need") r low refl w)) fine.needs wide.needs) (some-worlds version c) (past-worlds version c (codes "need") wide refl refl) in
    let worlds = items_again (codes "world") (world_of version c.hidden) (world_arguments version c.hidden) c.worlds needs.0 end_lines
    (both_hold (IsWorldSaid version c.hidden) IsWorldWithinTypes _ c.worlds (λ l f w. (world_again version c.hidden l fine.hidden f.0 f.1 w, clear_world version 32 (codes "world") c.hidden l low refl w)) (both_hold IsWorldSpellable (IsSayable version c.hidden) (IsWorldSaid version c.hidden) c.worlds (λ l f s. (f, s)) fine.worlds has.sayable) wide.worlds) (omega arith) (past-end (codes "world") refl) in
    then (version_at (pieces 10 (text_in version c))) _ (version, record { given = 1; lines = method_lines }) (ap version_at (text_cut version c fine wide) ∙ version-again version _ cells_lines)
    ∙ then (item_at (codes "method") method_of (record { given = 1; lines = method_lines })) _ (c.method, record { given = 2; lines = cells_lines })
    (item_at_again (codes "method") method_of (method_arguments c.method) c.method 1 cells_lines (method_again c.method wide.method) method-apart (omega arith))
    ∙ then (item_at (codes "cells") count_of (record { given = 2; lines = cells_lines })) _ (c.cells, record { given = 3; lines = relations_lines })
    (item_at_again (codes "cells") count_of (decimal c.cells ∷ []) c.cells 2 relations_lines (count_again c.cells wide.cells) cells-apart (omega arith))
    ∙ then (item_at (codes "relations") count_of (record { given = 3; lines = relations_lines })) _ (c.relations, record { given = 4; lines = hidden_lines version c })
    (item_at_again (codes "relations") count_of (decimal c.relations ∷ []) c.relations 3 (hidden_lines version c) (count_again c.relations wide.relations) relations-apart (longer (hidden_line c.hidden) (step_lines version c) (some-steps version c)))
    ∙ then (hidden_at (record { given = 4; lines = hidden_lines version c })) _ (c.hidden, record { given = hidden.0; lines = step_lines version c }) hidden.1
    ∙ then (items_from (codes "step") step_of hidden.0 (step_lines version c)) _ (c.steps, record { given = steps.0; lines = repair_lines version c }) steps.1
    ∙ then (items_from (codes "repair") refutation_of steps.0 (repair_lines version c)) _ (c.repairs, record { given = repairs.0; lines = need_lines version c }) repairs.1
    ∙ then (items_from (codes "need") refutation_of repairs.0 (need_lines version c)) _ (c.needs, record { given = needs.0; lines = world_lines version c }) needs.1
    ∙ then (items_from (codes "world") (world_of version c.hidden) needs.0 (world_lines version c)) _ (c.worlds, record { given = worlds.0; lines = end_lines }) worlds.1
    ∙ then (item_at (codes "end") end_of (record { given = worlds.0; lines = end_lines })) _ (tt, record { given = worlds.0 + 1; lines = [] ∷ [] })
    (item_at_again (codes "end") end_of [] tt worlds.0 ([] ∷ []) refl (refl, tt) (omega arith))

all-sayable : (hidden : List ℕ) (lines : List WorldLine) → AllByRecursion (IsSayable Two hidden) lines
all-sayable hidden [] = tt
all-sayable hidden (line ∷ lines) = (tt, all-sayable hidden lines)

-- a certificate that has a text has one in the second version
pub has_second : (c : Certificate) → IsSpellable c → HasTextIn Two c
has_second c fine = record { spellable = fine; sayable = all-sayable c.hidden c.worlds }
