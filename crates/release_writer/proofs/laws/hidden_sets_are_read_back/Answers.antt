use Rattle.release_writer.proofs.ReadBack.{hidden_are_read_back}
use Rattle.release_writer.proofs.HaveTexts.{hidden_have_texts}
use Rattle.release_writer.proofs.laws.hidden_sets_are_read_back.Goals as goal

pub returns-clause-written : goal.returns-clause-written
returns-clause-written c = hidden_are_read_back

pub returns-clause-read : goal.returns-clause-read
returns-clause-read c = hidden_have_texts
