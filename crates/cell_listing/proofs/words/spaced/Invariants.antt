use Rattle.std.proofs.Common.{◌≡◌, take}
use Rattle.cell_listing.specs.Columns.{spaced}
use Rattle.cell_listing.proofs.words.spaced.Given as goal

abbrev pub invariant-words : goal.invariant-words
invariant-words l = l.text.items ≡ spaced (take l.place l.words)
