use Rattle.std.proofs.Common.{◌≡◌, ℕ, List, length, ap, arith, rules, Fits, w32}
use Rattle.interval_audit.specs.Groups.{Group, group_of}
use Rattle.interval_audit.proofs.Proper.{rank-most}
use Rattle.interval_audit.proofs.asking.component_size.Goals as goal

pub overflow_cast-result : goal.overflow_cast-result
overflow_cast-result c =
    let group : Group = group_of c.as_slice.result.now c.args.cell in
    let fits : Fits w32 c.args.system.now.cells = search rules in
    let size : c.len.result ≡ length c.in_ok-members.members.items = search rules in
    omega (arith, fits, size, ap (λ (xs : List ℕ). length xs) c.in_ok-members.ensures, rank-most group c.args.system.now.cells)
