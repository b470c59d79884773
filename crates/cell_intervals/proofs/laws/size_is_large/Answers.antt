use Rattle.cell_intervals.proofs.Components as components
use Rattle.cell_intervals.proofs.laws.size_is_large.Goals as goal

pub returns : goal.returns
returns c = components.size_is_large
