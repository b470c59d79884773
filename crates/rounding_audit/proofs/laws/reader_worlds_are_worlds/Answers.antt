use Rattle.rounding_audit.proofs.ReaderWorlds as worlds
use Rattle.rounding_audit.proofs.laws.reader_worlds_are_worlds.Goals as goal

pub returns : goal.returns
returns c = worlds.reader_worlds_are_worlds
