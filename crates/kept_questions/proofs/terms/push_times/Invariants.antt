use Rattle.std.proofs.Common.{◌≡◌, ℕ, take, ◌+ℤ◌, ◌*ℤ◌}
use Rattle.sdc_base.specs.Forms.{coefficient}
use Rattle.kept_questions.proofs.terms.push_times.Given as goal

abbrev pub invariant-list : goal.invariant-list
invariant-list l = (place : ℕ) → coefficient l.terms.items place ≡ coefficient l.fn.terms.items place +ℤ l.times *ℤ coefficient (take l.term-index l.list) place
