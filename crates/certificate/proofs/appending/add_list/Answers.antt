use Rattle.std.proofs.lemmas.List.{take_rest}
use Rattle.certificate.proofs.AppendSteps.{listed_appended}
use Rattle.certificate.proofs.appending.add_list.Goals as goal

pub returns-clause-text : goal.returns-clause-text
returns-clause-text c = rw (c.in_ok-add_all_with_mark.ensures.text, c.in_ok-add_number.ensures, take_rest) (listed_appended c.args.text.now c.args.numbers.now c.requires)
