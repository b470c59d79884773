use Rattle.std.proofs.Common.{◌-◌, length, refl}
use Rattle.tableau.proofs.OwnRows.{last_of, from_last}
use Rattle.tableau.proofs.sparse_rows.den_of.Goals as goal

pub number_here-requires : goal.number_here-requires
number_here-requires c =
    let last = last_of c.args.width c.args.entries.now c.requires.sparse c.requires.above in
    from_last c.args.width (length c.args.entries.now - 1) c.args.entries.now c.requires.sparse last refl
