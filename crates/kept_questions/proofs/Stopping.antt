-- A world and multipliers that stop a cell at one and the same place.
use Rattle.std.proofs.Common.{◌≡◌, ℕ, ◌<◌, Bool, List, length, ℤ, pos, ◌*ℤ◌, ◌≤ℤ◌, ◌<ℤ◌, FitsSigned, ap, refl, sym, subst, ◌∙◌}
use Rattle.std.specs.Int.{w128}
use Rattle.std.proofs.Math.IntN.{*ℤ_comm}
use Rattle.sdc_base.specs.declared.cell.Cell.{Cell}
use Rattle.sdc_base.specs.declared.fraction.Fraction.{Fraction}
use Rattle.sdc_base.specs.declared.system.System.{System}
use Rattle.sdc_base.specs.Forms.{coefficient}
use Rattle.sdc_base.specs.Refutations.{bound_sum}
use Rattle.sdc_base.specs.Worlds.{amount_toward}
use Rattle.worlds.specs.declared.multipliers.Multipliers.{Multipliers}
use Rattle.worlds.specs.declared.world.World.{World}
use Rattle.worlds.specs.NumberLists.{number_given, terms_of}
use Rattle.worlds.specs.RefutationFaults.{IsGivenSum, terms_added}
use Rattle.worlds.specs.WorldFaults.{IsGivenWorld}
use Rattle.interval_audit.specs.declared.question.Question.{Question}
use Rattle.interval_audit.specs.Answers.{StopsShort, asked_move_in}
use Rattle.interval_audit.specs.QuestionLaws.{IsBest}
use Rattle.interval_audit.proofs.Best.{no_further}
use Rattle.interval_audit.proofs.Furthest.{furthest}
use Rattle.interval_audit.proofs.QuestionAnswers.{sum_below_target}

-- what multipliers let the asked cell move by at most, times their denominator
abbrev sum_for : System → List Cell → List Bool → Question → Multipliers → ℤ
sum_for system cells flags question multipliers =
    bound_sum cells flags (coefficient (terms_added system question.cell question.side multipliers))

-- a world that goes as far as multipliers let it goes farthest
best_at : (system : System) (cells : List Cell) (flags : List Bool) (question : Question) (world : World) (multipliers : Multipliers) → length cells ≡ system.cells → question.cell < system.cells → IsGivenWorld system cells flags world → IsGivenSum system cells flags question.cell question.side multipliers
    → sum_for system cells flags question multipliers *ℤ world.den ≡ multipliers.den *ℤ asked_move_in question world → IsBest system cells flags question.cell question.side (asked_move_in question world) world.den
best_at system cells flags question world multipliers each inside is given equal =
    let sum : ℤ = sum_for system cells flags question multipliers in
    let moved : ℤ = asked_move_in question world in
    let turned : multipliers.den *ℤ moved ≡ world.den *ℤ sum = sym equal ∙ *ℤ_comm sum world.den in
    record {
      attained_den = world.den;
      attained_moves = number_given (terms_of world.moves);
      attained_world = is.is_world;
      attained = refl;
      furthest = λ other moves another.
          no_further multipliers.den world.den moved sum other (amount_toward question.side (moves question.cell)) given.positive is.is_world.positive turned
          (furthest system cells flags question.cell question.side multipliers.den multipliers.by_relation each inside given.bounded other moves another);
    }

-- so the cell stops there
pub stops : (system : System) (cells : List Cell) (flags : List Bool) (question : Question) (best : Fraction) (world : World) (multipliers : Multipliers) (sum moved : ℤ) → length cells ≡ system.cells → question.cell < system.cells → IsGivenWorld system cells flags world → best.den ≡ world.den → best.num ≡ moved → moved ≡ asked_move_in question world
    → IsGivenSum system cells flags question.cell question.side multipliers → sum ≡ sum_for system cells flags question multipliers → sum *ℤ world.den ≡ multipliers.den *ℤ moved → moved <ℤ (world.den *ℤ question.target) → FitsSigned w128 (multipliers.den *ℤ question.target) → StopsShort system cells flags question best world multipliers
stops system cells flags question best world multipliers sum moved each inside is den_is num_is moved_is given sum_is same short held =
    let own : ℤ = sum_for system cells flags question multipliers in
    let asked : ℤ = asked_move_in question world in
    let equal : own *ℤ world.den ≡ multipliers.den *ℤ asked = ap (λ z. z *ℤ world.den) (sym sum_is) ∙ same ∙ ap (λ z. multipliers.den *ℤ z) moved_is in
    let below : asked <ℤ (world.den *ℤ question.target) = subst (λ z. z <ℤ (world.den *ℤ question.target)) moved_is short in
    let num : best.num ≡ asked = num_is ∙ moved_is in
    record {
      is_world = is;
      den = den_is;
      num = num;
      below = subst (λ z. best.num <ℤ (z *ℤ question.target)) (sym den_is) (subst (λ z. z <ℤ (world.den *ℤ question.target)) (sym num) below);
      is_best = subst (λ z. IsBest system cells flags question.cell question.side best.num z) (sym den_is) (subst (λ z. IsBest system cells flags question.cell question.side z world.den) (sym num) (best_at system cells flags question world multipliers each inside is given equal));
      is_sum = given;
      equal = ap (λ z. own *ℤ z) den_is ∙ equal ∙ ap (λ z. multipliers.den *ℤ z) (sym num);
      product_held = held;
      refutes = record { q_positive = given.positive; bounded = given.bounded; below = sum_below_target own world.den multipliers.den asked question.target is.is_world.positive given.positive equal below };
    }
