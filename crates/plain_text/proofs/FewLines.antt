-- How many lines a text has.
use Rattle.std.proofs.Common.{ℕ, suc, ◌+◌, ◌≤◌, true, false, cond, ◌&&◌, ◌==◌, List, [], ◌∷◌, length, arith}
use Rattle.sdc_base.specs.Lines.{lines, with_front, is_line_feed, at_line_feed}

front-length : (b : ℕ) (ls : List (List ℕ)) → length (with_front b ls) ≤ 1 + length ls
front-length b [] = omega arith
front-length b (l ∷ ls) = omega arith

-- a text has no more lines than bytes
pub few_lines : (bytes : List ℕ) → length (lines bytes) ≤ length bytes
few_lines [] = omega arith
few_lines (b ∷ bytes) =
    let rest = few_lines bytes in
    let front = front-length b (lines bytes) in
    elim (is_line_feed b) as (λ t. length (cond t ([] ∷ lines bytes) (cond ((b == 13) && at_line_feed bytes) (lines bytes) (with_front b (lines bytes)))) ≤ suc (length bytes)) [
      | true ↦ omega arith
      | false ↦ elim ((b == 13) && at_line_feed bytes) as (λ t. length (cond t (lines bytes) (with_front b (lines bytes))) ≤ suc (length bytes)) [ true ↦ omega arith | false ↦ omega arith ]
    ]
