use Rattle.tableau.proofs.leaving.leaving_row.Goals as goal

pub choose_leaving-best-requires-clause-column : goal.choose_leaving-best-requires-clause-column
choose_leaving-best-requires-clause-column c = record {
  sound = c.requires.sound;
  kept = c.requires.kept;
  places = c.requires.places;
  within = c.requires.column;
  numbers = c.requires.numbers;
}
