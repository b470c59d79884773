use Rattle.release_writer.proofs.Rounded.{rounded_have_texts}
use Rattle.release_writer.proofs.laws.rounded_numbers_have_texts.Goals as goal

pub returns : goal.returns
returns c = rounded_have_texts
