use Rattle.std.proofs.Common.{◌≡◌, ◌∙◌, ap, sym, Ok}
use Rattle.worlds.specs.ProtectFaults.{protect_fault}
use Rattle.worlds.proofs.ProtectLaws.{protect_law}
use Rattle.worlds.proofs.protected.Protected.new.Goals as goal

pub invariant_of-result : goal.invariant_of-result
invariant_of-result c =
    let told : protect_fault c.args.system.now c.args.cells.now c.args.hidden.flags c.args.worlds ≡ Ok tt = sym (c.in_ok-check_protection.ensures ∙ ap (λ ws. protect_fault c.args.system.now c.args.cells.now c.args.hidden.flags ws) c.as_slice.ensures) in
    record { checked = told; protecting = protect_law c.args.system.now c.args.cells.now c.args.hidden.flags c.args.worlds c.requires.ground.each_cell told }

pub returns-clause-protecting : goal.returns-clause-protecting
returns-clause-protecting c =
    let told : protect_fault c.args.system.now c.args.cells.now c.args.hidden.flags c.args.worlds ≡ Ok tt = sym (c.in_ok-check_protection.ensures ∙ ap (λ ws. protect_fault c.args.system.now c.args.cells.now c.args.hidden.flags ws) c.as_slice.ensures) in
    protect_law c.args.system.now c.args.cells.now c.args.hidden.flags c.args.worlds c.requires.ground.each_cell told
