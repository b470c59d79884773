use Rattle.std.proofs.Common.{ℕ, nat_le, length, arith, sym, get_or}
use Rattle.std.proofs.lemmas.List.Sums.{position_or_len_is}
use Rattle.code_trees.proofs.CodeFaults.{not-le, is-le}
use Rattle.code_trees.proofs.level_form.level_of.Goals as goal

pub returns-then-len-bound-clause-level : goal.returns-then-len-bound-clause-level
returns-then-len-bound-clause-level c = λ code len.
    sym (position_or_len_is (λ (bound : ℕ). nat_le (length code) bound) c.args.bounds.now c.loop-i.i 0 (omega arith) (λ k h. let below = c.loop-i.invariant k h in not-le (length code) (get_or c.args.bounds.now k 0) (omega (arith, below, len))) (λ h. is-le (length code) (get_or c.args.bounds.now c.loop-i.i 0) (omega (arith, len))))

pub returns-clause-level : goal.returns-clause-level
returns-clause-level c = λ code len.
    sym (position_or_len_is (λ (bound : ℕ). nat_le (length code) bound) c.args.bounds.now (length c.args.bounds.now) 0 (omega arith) (λ k h. let below = c.loop-i.invariant k (omega (arith, h)) in not-le (length code) (get_or c.args.bounds.now k 0) (omega (arith, below, len))) (λ h. absurd (omega (arith, h))))
