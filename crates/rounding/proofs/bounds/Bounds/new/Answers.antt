use Rattle.std.proofs.Common.{◌≡◌, ◌^◌, ◌∙◌, ℕ, Bool, false, true, [], List, ℤ, length, ap, sym, subst, FitsSigned}
use Rattle.std.specs.Int.{w128}
use Rattle.std.proofs.lemmas.Int.{to_z-of_z}
use Rattle.sdc_base.specs.Systems.{number_at}
use Rattle.rounding.specs.Choices.{by_choices}
use Rattle.rounding.specs.Tasks.{IsProper}
use Rattle.rounding.specs.Sums.{IsNear}
use Rattle.rounding.proofs.Choosing.{length-by_choices}
use Rattle.rounding.proofs.Smallness.{choices_near}
use Rattle.rounding.proofs.bounds.Bounds.new.Goals as goal
use Rattle.sdc_base.specs.declared.system.System.{System}

long_as : (numbers : List ℤ) (side : Bool) (base : ℤ) (truths : List ℤ) → numbers ≡ by_choices side base truths [] → length numbers ≡ length truths
long_as numbers side base truths is = ap (λ (xs : List ℤ). length xs) is ∙ length-by_choices side base truths []

near_as : (system : System) (numbers : List ℤ) (side : Bool) (base : ℤ) (truths : List ℤ) → numbers ≡ by_choices side base truths [] → IsProper system truths base → (n : ℕ) → IsNear (10 ^ 22) (number_at numbers n) (number_at truths n)
near_as system numbers side base truths is proper n = subst (λ (xs : List ℤ). IsNear (10 ^ 22) (number_at xs n) (number_at truths n)) (sym is) (choices_near side base truths [] proper.from_one proper.to_most proper.within n)

lower_is : (c : goal.After-as_slice-2) → c.as_slice.result.now ≡ by_choices false c.args.base c.args.truths.now []
lower_is c = let base : FitsSigned w128 c.args.base = c.ranges.base in c.as_slice.ensures.value ∙ simp to_z-of_z at c.in_ok-lower.ensures

upper_is : (c : goal.After-as_slice-2) → c.as_slice-2.result.now ≡ by_choices true c.args.base c.args.truths.now []
upper_is c = let base : FitsSigned w128 c.args.base = c.ranges.base in c.as_slice-2.ensures.value ∙ simp to_z-of_z at c.in_ok-upper.ensures

pub extremes_of-requires-clause-lengths : goal.extremes_of-requires-clause-lengths
extremes_of-requires-clause-lengths c = (long_as c.as_slice.result.now false c.args.base c.args.truths.now (lower_is c), long_as c.as_slice-2.result.now true c.args.base c.args.truths.now (upper_is c))

pub extremes_of-requires-clause-near_one : goal.extremes_of-requires-clause-near_one
extremes_of-requires-clause-near_one c = near_as c.args.system.now c.as_slice.result.now false c.args.base c.args.truths.now (lower_is c) c.requires

pub extremes_of-requires-clause-near_other : goal.extremes_of-requires-clause-near_other
extremes_of-requires-clause-near_other c = near_as c.args.system.now c.as_slice-2.result.now true c.args.base c.args.truths.now (upper_is c) c.requires

upper_again : (c : goal.After-as_slice-4) → c.as_slice-3.result.now ≡ by_choices true c.args.base c.args.truths.now []
upper_again c = let base : FitsSigned w128 c.args.base = c.ranges.base in c.as_slice-3.ensures.value ∙ simp to_z-of_z at c.in_ok-upper.ensures

lower_again : (c : goal.After-as_slice-4) → c.as_slice-4.result.now ≡ by_choices false c.args.base c.args.truths.now []
lower_again c = let base : FitsSigned w128 c.args.base = c.ranges.base in c.as_slice-4.ensures.value ∙ simp to_z-of_z at c.in_ok-lower.ensures

pub extremes_of-requires-2-clause-lengths : goal.extremes_of-requires-2-clause-lengths
extremes_of-requires-2-clause-lengths c = (long_as c.as_slice-3.result.now true c.args.base c.args.truths.now (upper_again c), long_as c.as_slice-4.result.now false c.args.base c.args.truths.now (lower_again c))

pub extremes_of-requires-2-clause-near_one : goal.extremes_of-requires-2-clause-near_one
extremes_of-requires-2-clause-near_one c = near_as c.args.system.now c.as_slice-3.result.now true c.args.base c.args.truths.now (upper_again c) c.requires

pub extremes_of-requires-2-clause-near_other : goal.extremes_of-requires-2-clause-near_other
extremes_of-requires-2-clause-near_other c = near_as c.args.system.now c.as_slice-4.result.now false c.args.base c.args.truths.now (lower_again c) c.requires
