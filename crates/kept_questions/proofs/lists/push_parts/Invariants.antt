use Rattle.std.proofs.Common.{◌≡◌, ℕ, map, take, pos, neg_ℤ, ◌+ℤ◌}
use Rattle.sdc_base.specs.Forms.{coefficient}
use Rattle.tableau.specs.Amounts.{value_of}
use Rattle.kept_questions.specs.TermLists.{moves_in}
use Rattle.kept_questions.proofs.lists.push_parts.Given as goal

abbrev pub invariant-parts : goal.invariant-parts
invariant-parts l = (place : ℕ) → coefficient l.terms.items place ≡ coefficient l.fn.terms.items place +ℤ value_of (λ cell. moves_in l.lists cell place) (map (λ part. (part, neg_ℤ (pos 1))) (take l.part-index l.parts))
