use Rattle.plain_text.proofs.Joined.{read_again as joined_again}
use Rattle.rda_meta.proofs.SpelledText.{read_again}
use Rattle.rda_meta.proofs.RoundTrip.{round_trip}
use Rattle.rda_meta.proofs.laws.metadata_are_read_again.Goals as goal

pub returns-clause-text : goal.returns-clause-text
returns-clause-text c = read_again joined_again

pub returns-clause-round_trip : goal.returns-clause-round_trip
returns-clause-round_trip c = round_trip joined_again
