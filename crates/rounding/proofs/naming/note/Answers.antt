use Rattle.std.proofs.Common.{◌+◌, List, ℕ, sym, subst}
use Rattle.rounding.specs.Namings.{Ascends}
use Rattle.rounding.proofs.NamingSteps.{read_list, noted_set, noted_here}
use Rattle.rounding.proofs.naming.note.Goals as goal

pub add_number-requires : goal.add_number-requires
add_number-requires c = subst (λ (xs : List ℕ). Ascends (c.args.number + 1) xs) (sym (read_list c.args.naming.now.items c.args.cell c.index_mut.result.now c.requires.cell c.index_mut.ensures.value)) (c.requires.noted c.args.cell)

pub returns-clause-more : goal.returns-clause-more
returns-clause-more c = noted_set c.args.number c.args.naming.now.items c.args.cell c.index_mut.result.now c.add_number.new.numbers c.requires.cell (read_list c.args.naming.now.items c.args.cell c.index_mut.result.now c.requires.cell c.index_mut.ensures.value) c.requires.noted c.in_ok-add_number.ensures.ascends c.in_ok-add_number.ensures.stays

pub returns-clause-here : goal.returns-clause-here
returns-clause-here c = noted_here c.args.number c.args.naming.now.items c.args.cell c.add_number.new.numbers c.requires.cell c.in_ok-add_number.ensures.here
