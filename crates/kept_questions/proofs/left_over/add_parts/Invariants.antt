use Rattle.std.proofs.Common.{◌≡◌, ℕ, map, take, pos, ◌+ℤ◌, ◌*ℤ◌}
use Rattle.sdc_base.specs.Forms.{coefficient}
use Rattle.sdc_base.specs.Systems.{number_at}
use Rattle.kept_questions.proofs.left_over.add_parts.Given as goal

abbrev pub invariant-parts : goal.invariant-parts
invariant-parts l = (cell : ℕ) → number_at l.numbers.items cell ≡ number_at l.fn.numbers.items cell +ℤ l.times *ℤ coefficient (map (λ part. (part, pos 1)) (take l.part-index l.parts)) cell
