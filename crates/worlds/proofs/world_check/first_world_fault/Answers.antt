use Rattle.std.proofs.Common.{◌≡◌, ◌∙◌, ap, sym, length, FitsSigned, Ok, rules}
use Rattle.std.specs.Int.{w128}
use Rattle.std.proofs.lemmas.Int.{to_z-of_z}
use Rattle.sdc_base.specs.Systems.{number_at}
use Rattle.worlds.specs.NumberLists.{terms_of}
use Rattle.worlds.specs.WorldFaults.{moves_fault, relations_fault}
use Rattle.worlds.proofs.WorldLaws.{moves_inside, fault_behind_moves}
use Rattle.worlds.proofs.world_check.first_world_fault.Goals as goal

pub check_moves-requires : goal.check_moves-requires
check_moves-requires c = moves_inside c.args.pattern.now.system.now.cells (length c.args.pattern.now.cells.now) c.as_slice-moves.result.now (sym c.misplaced_move.ensures ∙ c.in_default.is) c.args.pattern.now.one_each.each_cell

pub write_moves-requires : goal.write_moves-requires
write_moves-requires c = moves_inside c.args.pattern.now.system.now.cells (length c.args.scratch.now) c.as_slice-moves.result.now (sym c.misplaced_move.ensures ∙ c.in_default.is) c.requires.scratch

pub returns-clause-exact : goal.returns-clause-exact
returns-clause-exact c =
    let fits : FitsSigned w128 c.args.world.now.den = search rules in
    let positive = simp to_z-of_z at c.if-world-lt1.false in
    let told = simp to_z-of_z at c.in_ok-check_moves.ensures in
    let kept : moves_fault c.args.pattern.now.cells.now c.args.pattern.now.hidden.now.flags c.args.world.now.den (terms_of c.as_slice-moves.result.now) ≡ Ok tt = sym told in
    c.check_relations.ensures
    ∙ ap (λ rs. relations_fault (number_at c.write_moves.new.numbers) 0 rs) c.as_slice.ensures
    ∙ fault_behind_moves c.args.pattern.now.system.now c.args.pattern.now.cells.now c.args.pattern.now.hidden.now.flags c.args.world.now c.as_slice-moves.result.now c.write_moves.new.numbers c.as_slice-moves.ensures positive (sym c.misplaced_move.ensures ∙ c.in_default.is) kept c.write_moves.ensures.each
