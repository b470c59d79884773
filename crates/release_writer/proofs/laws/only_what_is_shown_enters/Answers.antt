use Rattle.release_writer.proofs.Entering.{only_what_is_shown_enters, hidden_show_nothing}
use Rattle.release_writer.proofs.laws.only_what_is_shown_enters.Goals as goal

pub returns-clause-texts : goal.returns-clause-texts
returns-clause-texts c = only_what_is_shown_enters

pub returns-clause-hidden : goal.returns-clause-hidden
returns-clause-hidden c = hidden_show_nothing
