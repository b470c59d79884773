use Rattle.cell_intervals.proofs.OneFile as one
use Rattle.cell_intervals.proofs.laws.file_is_one.Goals as goal

pub returns : goal.returns
returns c = one.file_is_one
