-- What reading a whole file comes to (own).
use Rattle.std.specs.Prelude.{◌≡◌, ◌≢◌, ℕ, ◌+◌, ◌<◌, ◌≤◌, List, length, None, Some}
use Rattle.sdc_base.specs.Counts.{HasRisen}
use Rattle.sdc_base.specs.WhereTold.{WhereTold}
use Rattle.office_io.specs.Files.{held_name}
use Rattle.office_io.specs.Shelves.{ShelfState}

-- these are all bytes of the file of this name, at most as many as the limit, and all were taken
pub record IsWholeFile (name : List ℕ) (limit : ℕ) (bytes : List ℕ) (old new : ShelfState) : Type 0 where
  pub file : WhereTold old.files (λ fs. fs name ≡ Some bytes)
  pub short : length bytes ≤ limit
  pub taken : new.taken ≡ length bytes

-- no file has this name, and an absence was counted
pub record IsAbsent (name : List ℕ) (old new : ShelfState) : Type 0 where
  pub not_held : WhereTold old.files (λ fs. fs name ≡ None)
  pub absent : HasRisen old.absences new.absences

-- the file of this name is held and has more bytes than the limit
pub record IsTooLong (name : List ℕ) (limit : ℕ) (old : ShelfState) : Type 0 where
  pub held : WhereTold old.files (λ fs. fs name ≢ None)
  pub longer : WhereTold old.files (λ fs. WhereTold (fs name) (λ bytes. limit < length bytes))

-- The file of this name was the last one looked for, and at most one byte more than the limit was taken, by at most as
-- many reads. Each read but one at most took a byte, so none was made behind the file's end.
pub record HasLookedFor (name : List ℕ) (limit : ℕ) (old new : ShelfState) : Type 0 where
  pub last : WhereTold old.files (λ fs. new.last ≡ held_name fs name)
  pub no_more : new.taken ≤ limit + 1
  pub few_reads : new.reads ≤ limit + 1
  pub each_takes : new.reads ≤ new.taken + 1
  pub none_behind : new.empty_reads ≤ 1
