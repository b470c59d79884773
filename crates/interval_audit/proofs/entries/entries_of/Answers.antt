use Rattle.interval_audit.proofs.CellSums.{within_all}
use Rattle.interval_audit.proofs.entries.entries_of.Goals as goal

pub entries_at-requires-clause-within : goal.entries_at-requires-clause-within
entries_at-requires-clause-within c = within_all c.add_terms.new.numbers c.args.terms.now 4294967296 c.requires.at_most_2_32 c.requires.signs c.add_terms.ensures.each
