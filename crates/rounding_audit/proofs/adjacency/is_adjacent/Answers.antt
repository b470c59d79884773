use Rattle.std.proofs.Common.{FitsSigned, rules, sym, ◌∙◌, ◌≡◌, pos, int_lt, ◌-ℤ◌, ◌+ℤ◌}
use Rattle.std.specs.Int.{w128}
use Rattle.std.specs.Int.RustNames.{int_rem}
use Rattle.std.specs.Ordering.{int_eq}
use Rattle.std.proofs.lemmas.Int.{to_z-of_z}
use Rattle.rounding_audit.proofs.Adjacent.{adjacent_by, not_multiple}
use Rattle.rounding_audit.proofs.adjacency.is_adjacent.Goals as goal

pub returns-then-not-is_multiple : goal.returns-then-not-is_multiple
returns-then-not-is_multiple c =
    let value : FitsSigned w128 c.args.value.now = search rules in
    let base : FitsSigned w128 c.args.base.now = search rules in
    let is = c.is_multiple.ensures in
    let own : c.is_multiple.result ≡ int_eq (int_rem c.args.value.now c.args.base.now) (pos 0) = simp to_z-of_z at is in
    let none = not_multiple c.args.base.now c.args.cell.now.truth c.args.value.now c.requires.base (sym own ∙ c.if-not-is_multiple.true) in
    ((λ yes. absurd cc), (λ yes. absurd (none yes)))

pub returns-then-is_above_lower : goal.returns-then-is_above_lower
returns-then-is_above_lower c =
    let truth : FitsSigned w128 c.args.cell.now.truth = search rules in
    let value : FitsSigned w128 c.args.value.now = search rules in
    let base : FitsSigned w128 c.args.base.now = search rules in
    let whole = c.is_multiple.ensures in
    let over = c.is_above_lower.ensures in
    let under = c.is_below_upper.ensures in
    let whole_is : c.is_multiple.result ≡ int_eq (int_rem c.args.value.now c.args.base.now) (pos 0) = simp to_z-of_z at whole in
    let over_is : c.is_above_lower.result ≡ int_lt (c.args.cell.now.truth -ℤ c.args.base.now) c.args.value.now = simp to_z-of_z at over in
    let under_is : c.is_below_upper.result ≡ int_lt c.args.value.now (c.args.cell.now.truth +ℤ c.args.base.now) = simp to_z-of_z at under in
    adjacent_by c.args.base.now c.args.cell.now.truth c.args.value.now c.is_below_upper.result (sym whole_is ∙ c.if-not-is_multiple.false) (sym over_is ∙ c.if-is_above_lower.true) under_is
