use Rattle.std.proofs.Common.{FitsSigned, pos, rules, subst, sym, ◌+ℤ◌, ◌-ℤ◌, ◌∙◌, ◌≡◌, ◌≤ℤ◌}
use Rattle.std.specs.Int.{int_max, w128}
use Rattle.std.proofs.lemmas.Int.{to_z-of_z}
use Rattle.rounding_audit.specs.Readers.{reader_low}
use Rattle.rounding_audit.proofs.Bounds.{least_fits, low_bounds}
use Rattle.rounding_audit.proofs.reading.low_known.Goals as goal

pub returns-clause-bound : goal.returns-clause-bound
returns-clause-bound c =
    let cell = c.args.cell.now in
    let shown : FitsSigned w128 c.args.shown = c.ranges.shown in
    let base : FitsSigned w128 c.args.base = c.ranges.base in
    let low : FitsSigned w128 cell.low = search rules in
    let fits = least_fits c.args.base c.args.shown cell c.requires.base c.requires.at_most_10_22 c.requires.at_most_10_29 c.requires.rounded in
    let less : FitsSigned w128 (c.args.shown -ℤ c.args.base) = fits.0 in
    let least : FitsSigned w128 (c.args.shown -ℤ c.args.base +ℤ pos 1) = fits.1 in
    let own : FitsSigned w128 c.max.result = search rules in
    let value = c.max.ensures.value in
    let is : c.max.result ≡ int_max cell.low (c.args.shown -ℤ c.args.base +ℤ pos 1) = simp to_z-of_z at value in
    to_z-of_z w128 c.max.result own ∙ is

pub returns-clause-from_zero : goal.returns-clause-from_zero
returns-clause-from_zero c =
    let cell = c.args.cell.now in
    let shown : FitsSigned w128 c.args.shown = c.ranges.shown in
    let base : FitsSigned w128 c.args.base = c.ranges.base in
    let low : FitsSigned w128 cell.low = search rules in
    let fits = least_fits c.args.base c.args.shown cell c.requires.base c.requires.at_most_10_22 c.requires.at_most_10_29 c.requires.rounded in
    let less : FitsSigned w128 (c.args.shown -ℤ c.args.base) = fits.0 in
    let least : FitsSigned w128 (c.args.shown -ℤ c.args.base +ℤ pos 1) = fits.1 in
    let own : FitsSigned w128 c.max.result = search rules in
    let value = c.max.ensures.value in
    let is : c.max.result ≡ reader_low c.args.base c.args.shown cell = simp to_z-of_z at value in
    subst (λ z. pos 0 ≤ℤ z) (sym (to_z-of_z w128 c.max.result own)) (low_bounds c.args.base c.args.shown c.max.result cell c.requires.rounded is).0

pub returns-clause-within : goal.returns-clause-within
returns-clause-within c =
    let cell = c.args.cell.now in
    let shown : FitsSigned w128 c.args.shown = c.ranges.shown in
    let base : FitsSigned w128 c.args.base = c.ranges.base in
    let low : FitsSigned w128 cell.low = search rules in
    let fits = least_fits c.args.base c.args.shown cell c.requires.base c.requires.at_most_10_22 c.requires.at_most_10_29 c.requires.rounded in
    let less : FitsSigned w128 (c.args.shown -ℤ c.args.base) = fits.0 in
    let least : FitsSigned w128 (c.args.shown -ℤ c.args.base +ℤ pos 1) = fits.1 in
    let own : FitsSigned w128 c.max.result = search rules in
    let value = c.max.ensures.value in
    let is : c.max.result ≡ reader_low c.args.base c.args.shown cell = simp to_z-of_z at value in
    subst (λ z. z ≤ℤ cell.truth) (sym (to_z-of_z w128 c.max.result own)) (low_bounds c.args.base c.args.shown c.max.result cell c.requires.rounded is).1
