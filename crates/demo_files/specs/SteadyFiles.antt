-- A shelf and a tray in memory as a run finds them (own).
use Rattle.std.specs.Prelude.{[], Some, None}
use Rattle.office_io.specs.Files.{Files}
use Rattle.office_io.specs.Shelves.{ShelfState}
use Rattle.office_io.specs.Trays.{TrayState}

-- a shelf with these files, from which nothing was read yet
abbrev pub shelf_with : Files → ShelfState
shelf_with files =
    record { files = Some files; left = Some []; taken = 0; reads = 0; empty_reads = 0; last = None; faults = 0; absences = 0 }

-- a tray on which nothing was put yet
abbrev pub empty_tray : TrayState
empty_tray = record { files = Some (λ name. None); puts = 0; faults = 0 }
