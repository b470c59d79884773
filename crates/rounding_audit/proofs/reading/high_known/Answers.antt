use Rattle.std.proofs.Common.{FitsSigned, pos, rules, subst, sym, ◌+ℤ◌, ◌-ℤ◌, ◌∙◌, ◌≡◌, ◌≤ℤ◌, ap}
use Rattle.std.specs.Int.{int_min, w128}
use Rattle.std.proofs.lemmas.Int.{to_z-of_z}
use Rattle.rounding_audit.specs.Readers.{reader_high}
use Rattle.rounding_audit.proofs.Bounds.{high_beyond, most_fits}
use Rattle.rounding_audit.proofs.reading.high_known.Goals as goal

pub returns-clause-bound : goal.returns-clause-bound
returns-clause-bound c =
    let cell = c.args.cell.now in
    let shown : FitsSigned w128 c.args.shown = c.ranges.shown in
    let base : FitsSigned w128 c.args.base = c.ranges.base in
    let stated : FitsSigned w128 c.stated_high.result = search rules in
    let fits = most_fits c.args.base c.args.shown cell c.requires.base c.requires.at_most_10_22 c.requires.at_most_10_29 c.requires.rounded in
    let more : FitsSigned w128 (c.args.shown +ℤ c.args.base) = fits.0 in
    let most : FitsSigned w128 (c.args.shown +ℤ c.args.base -ℤ pos 1) = fits.1 in
    let own : FitsSigned w128 c.min.result = search rules in
    let value = c.min.ensures.value in
    let is : c.min.result ≡ int_min c.stated_high.result (c.args.shown +ℤ c.args.base -ℤ pos 1) = simp to_z-of_z at value in
    to_z-of_z w128 c.min.result own ∙ is ∙ ap (λ high. int_min high (c.args.shown +ℤ c.args.base -ℤ pos 1)) c.stated_high.ensures

pub returns-clause-beyond : goal.returns-clause-beyond
returns-clause-beyond c =
    let cell = c.args.cell.now in
    let shown : FitsSigned w128 c.args.shown = c.ranges.shown in
    let base : FitsSigned w128 c.args.base = c.ranges.base in
    let stated : FitsSigned w128 c.stated_high.result = search rules in
    let fits = most_fits c.args.base c.args.shown cell c.requires.base c.requires.at_most_10_22 c.requires.at_most_10_29 c.requires.rounded in
    let more : FitsSigned w128 (c.args.shown +ℤ c.args.base) = fits.0 in
    let most : FitsSigned w128 (c.args.shown +ℤ c.args.base -ℤ pos 1) = fits.1 in
    let own : FitsSigned w128 c.min.result = search rules in
    let value = c.min.ensures.value in
    let is : c.min.result ≡ int_min c.stated_high.result (c.args.shown +ℤ c.args.base -ℤ pos 1) = simp to_z-of_z at value in
    let bound : c.min.result ≡ reader_high c.args.base c.args.shown cell = is ∙ ap (λ high. int_min high (c.args.shown +ℤ c.args.base -ℤ pos 1)) c.stated_high.ensures in
    subst (λ z. cell.truth ≤ℤ z) (sym (to_z-of_z w128 c.min.result own)) (high_beyond c.args.base c.args.shown c.min.result cell c.requires.at_most_10_29 c.requires.rounded bound)
