-- Where a question's walk stops with multipliers, they are given.
use Rattle.repair.specs.LevelQuestions.{StoppedAreGiven}

pub stopped_are_given : StoppedAreGiven
stopped_are_given system cells flags asked question multipliers none is stops sum held = record {
  question = question;
  best = stops.best;
  world = stops.world;
  is_asked = is;
  is_right = stops.is_right sum held;
  is_read = stops.is_read none;
}
