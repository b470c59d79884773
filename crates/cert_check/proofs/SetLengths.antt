-- How long hidden sets are, and that truths are from 0.
use Rattle.std.proofs.Common.{◌≡◌, ℕ, zero, suc, Bool, true, false, List, [], ◌∷◌, length, length-set, map, replicate, All, pos, ◌≤ℤ◌, arith, refl, ap, ◌∙◌}
use Rattle.std.proofs.lemmas.Int.{ints}
use Rattle.std.proofs.lemmas.List.Elements.{All-nil, All-cons}
use Rattle.sdc_base.specs.declared.cell.Cell.{Cell}
use Rattle.linked_tables.specs.declared.mark.Mark.{Mark}
use Rattle.worlds.specs.declared.refuted.Refuted.{Refuted}
use Rattle.repair.specs.HidingOrder.{hide_subjects}
use Rattle.sdc_base.specs.HiddenSets.{hide}
use Rattle.cert_check.specs.HiddenSet.{hidden_set}
use Rattle.repair.proofs.Flags.{length-hidden}

fresh_length : (n : ℕ) → length (replicate n false) ≡ n
fresh_length zero = refl
fresh_length (suc n) = ap suc (fresh_length n)

-- there is a flag for each cell
pub set_length : (n : ℕ) (numbers : List ℕ) → length (hidden_set n numbers) ≡ n
set_length n numbers = length-hidden (replicate n false) numbers ∙ fresh_length n

pub repaired_length : (flags : List Bool) (repairs : List Refuted) → length (hide_subjects flags repairs) ≡ length flags
repaired_length flags [] = refl
repaired_length flags (repair ∷ repairs) = repaired_length (hide flags repair.subject) repairs ∙ length-set flags repair.subject true

-- marks that have the truths of cells have them from 0
pub truths_from_zero : (marks : List Mark) (cells : List Cell) → map (λ mark. mark.facts.truth) marks ≡ map (λ cell. cell.truth) cells → All (λ (mark : Mark). pos 0 ≤ℤ mark.facts.truth) marks
truths_from_zero [] cells same = All-nil (λ (mark : Mark). pos 0 ≤ℤ mark.facts.truth)
truths_from_zero (mark ∷ marks) [] same = absurd cc
truths_from_zero (mark ∷ marks) (cell ∷ cells) same =
    let here : mark.facts.truth ≡ cell.truth = cc in
    let rest : map (λ (m : Mark). m.facts.truth) marks ≡ map (λ (one : Cell). one.truth) cells = cc in
    All-cons (λ (m : Mark). pos 0 ≤ℤ m.facts.truth) mark marks (omega (arith, ints, here, cell.low_from_zero, cell.low_within)) (truths_from_zero marks cells rest)
