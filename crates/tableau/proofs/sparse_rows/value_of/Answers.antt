use Rattle.std.proofs.Common.{◌-◌, length, arith}
use Rattle.tableau.proofs.OwnRows.{last_of, from_value, no_value, lone_value}
use Rattle.tableau.proofs.sparse_rows.value_of.Goals as goal

pub returns-then-entries-lt2 : goal.returns-then-entries-lt2
returns-then-entries-lt2 c =
    lone_value c.args.width c.args.entries.now c.requires.sparse (last_of c.args.width c.args.entries.now c.requires.sparse c.requires.above) (omega (arith, c.if-entries-lt2.true)) c.requires.width

pub returns-then-entries-i : goal.returns-then-entries-i
returns-then-entries-i c =
    no_value c.args.width (length c.args.entries.now - 2) c.args.entries.now c.requires.sparse (last_of c.args.width c.args.entries.now c.requires.sparse c.requires.above) (omega (arith, c.if-entries-lt2.false)) c.requires.width (omega (arith, c.if-entries-i.true))

pub number_here-requires : goal.number_here-requires
number_here-requires c =
    from_value c.args.width (length c.args.entries.now - 2) c.args.entries.now c.requires.sparse (omega (arith, c.if-entries-lt2.false)) c.requires.width (omega (arith, c.if-entries-i.false))
