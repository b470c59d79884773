-- What a shelf and a tray in memory hold, at which calls they fail, and how many they have had (own).
use Rattle.std.specs.Prelude.{ℕ, Bool, List, Option, Some, ◌==◌, option_and_then}
use Rattle.std.specs.List.{list_any}
use Rattle.sdc_base.specs.Counts.{count_after}
use Rattle.office_io.specs.Files.{file_of, name_at, rest_at}
use Rattle.office_io.specs.Shelves.{ShelfState}
use Rattle.office_io.specs.Trays.{TrayState}
use Rattle.office_io.specs.declared.memory_shelf.MemoryShelf.{MemoryShelf}
use Rattle.office_io.specs.declared.memory_tray.MemoryTray.{MemoryTray}

-- after so many calls the next one is among the failing: the first call has the number 1
abbrev pub is_due : List ℕ → ℕ → Bool
is_due failing calls = list_any (λ number. number == count_after calls 1) failing

-- what a shelf tells: its files, what is left of the chosen one, which isn't known after a read that failed, and its
-- counts
abbrev pub shelf_state : MemoryShelf → ShelfState
shelf_state s = record {
  files = Some (file_of s.files.items);
  left = rest_at s.files.items s.known s.chosen s.at;
  taken = s.taken;
  reads = s.reads;
  empty_reads = s.empty_reads;
  last = option_and_then (name_at s.files.items) s.last;
  faults = s.faults;
  absences = s.absences;
}

-- how many calls a shelf has had, of both its functions
abbrev pub shelf_calls : MemoryShelf → ℕ
shelf_calls s = s.calls

-- the numbers of the calls at which a shelf fails
abbrev pub shelf_failing : MemoryShelf → List ℕ
shelf_failing s = s.failing.items

-- how many bytes a read gives at most
abbrev pub shelf_piece : MemoryShelf → ℕ
shelf_piece s = s.piece

-- what a tray tells: its files, and its counts
abbrev pub tray_state : MemoryTray → TrayState
tray_state t = record { files = Some (file_of t.files.items); puts = t.puts; faults = t.faults }

-- the numbers of the puts at which a tray fails
abbrev pub tray_failing : MemoryTray → List ℕ
tray_failing t = t.failing.items
