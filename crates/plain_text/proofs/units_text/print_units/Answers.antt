use Rattle.std.proofs.Common.{◌∙◌}
use Rattle.std.proofs.lemmas.Int.{to_z-of_z}
use Rattle.plain_text.proofs.ReadBack.{reads_printed}
use Rattle.plain_text.proofs.units_text.print_units.Goals as goal

pub returns-clause-read_back : goal.returns-clause-read_back
returns-clause-read_back c = λ narrow.
    let fits = c.ranges.value in
    let text = c.in_ok-text.ensures in
    reads_printed c.args.value c.args.decimals _ c.requires.from narrow (c.new.ensures ∙ (simp to_z-of_z at text))
