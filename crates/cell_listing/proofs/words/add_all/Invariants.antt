use Rattle.std.proofs.Common.{◌≡◌, ◌++◌}
use Rattle.cell_listing.proofs.words.add_all.Given as goal

abbrev pub invariant-fields : goal.invariant-fields
invariant-fields l = l.fields ≡ l.fn.fields ++ l.yielded
