use Rattle.std.proofs.Common.{true, false, sym, ◌∙◌}
use Rattle.cell_listing.proofs.Asking.{named_by_four}
use Rattle.cell_listing.proofs.asked.names_of.Goals as goal

pub returns-then-not-asks_for_intervals : goal.returns-then-not-asks_for_intervals
returns-then-not-asks_for_intervals c = named_by_four c.args.words.now c.index-words-0.result c.index-words-1.result c.index-words-2.result c.index-words-3.result _ _ _ _ false c.if-words-ne4.false c.index-words-0.is c.index-words-1.is c.index-words-2.is c.index-words-3.is (sym c.asks_for_intervals.ensures ∙ c.if-not-asks_for_intervals.true)

pub returns : goal.returns
returns c = named_by_four c.args.words.now c.index-words-0.result c.index-words-1.result c.index-words-2.result c.index-words-3.result _ _ _ _ true c.if-words-ne4.false c.index-words-0.is c.index-words-1.is c.index-words-2.is c.index-words-3.is (sym c.asks_for_intervals.ensures ∙ c.if-not-asks_for_intervals.false)
