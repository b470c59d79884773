use Rattle.std.proofs.Common.{◌≡◌, drop}
use Rattle.office_io.specs.Files.{file_of}
use Rattle.office_io.proofs.memory_shelf.file_place.Given as goal

abbrev pub invariant-loop-i : goal.invariant-loop-i
invariant-loop-i l = file_of l.files l.name ≡ file_of (drop l.i l.files) l.name
