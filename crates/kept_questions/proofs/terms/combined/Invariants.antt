use Rattle.std.proofs.Common.{◌≡◌, ℕ, take}
use Rattle.sdc_base.specs.Forms.{coefficient}
use Rattle.kept_questions.proofs.terms.combined.Given as goal

abbrev pub invariant-terms : goal.invariant-terms
invariant-terms l = (place : ℕ) → coefficient l.made.items place ≡ coefficient (take l.term-index l.terms) place
