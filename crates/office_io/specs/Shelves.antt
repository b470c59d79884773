-- What a shelf tells of its files and calls, and how one call changes it (own).
use Rattle.std.specs.Prelude.{◌≡◌, ◌≢◌, ℕ, ◌-◌, ◌^◌, ◌≤◌, ◌==◌, if◌then◌else◌, ◌↔◌, List, [], length, take, drop, Option, None, Some, option_map}
use Rattle.sdc_base.specs.Counts.{HasRisen, count_after}
use Rattle.sdc_base.specs.WhereTold.{WhereTold}
use Rattle.office_io.specs.Files.{Files, held_name}

-- What a shelf tells: its files by their names and what is left of the chosen one, where these are known; how many
-- bytes were given since the last begin, how many reads were made, and how many of these gave no byte; the name last
-- begun, where it is held; and how often the shelf has failed and how often a file was not there. No count falls but at
-- a begin, and each stands still at 2^64 - 1.
pub record ShelfState : Type 0 where
  pub files : Option Files
  pub left : Option (List ℕ)
  pub taken : ℕ
  pub reads : ℕ
  pub empty_reads : ℕ
  pub last : Option (List ℕ)
  pub faults : ℕ
  pub absences : ℕ

-- the shelf was only read from: its files stay, and its counts of faults and of absences don't fall
pub record HasOnlyRead (old new : ShelfState) : Type 0 where
  pub files : new.files ≡ old.files
  pub faults : old.faults ≤ new.faults
  pub faults_end : old.faults ≤ 2 ^ 64 - 1 → new.faults ≤ 2 ^ 64 - 1
  pub absences : old.absences ≤ new.absences
  pub absences_end : old.absences ≤ 2 ^ 64 - 1 → new.absences ≤ 2 ^ 64 - 1

-- a file of this name was looked for: nothing is taken or read so far, and the name is the last one, where it is held
pub record HasBegun (name : List ℕ) (old new : ShelfState) : Type 0 where
  pub none_taken : new.taken ≡ 0
  pub none_read : new.reads ≡ 0
  pub none_empty : new.empty_reads ≡ 0
  pub last : WhereTold old.files (λ fs. new.last ≡ held_name fs name)

-- the file of this name is held, and all of it is left
pub record HasChosen (name : List ℕ) (old new : ShelfState) : Type 0 where
  pub held : WhereTold old.files (λ fs. fs name ≢ None)
  pub found : WhereTold old.files (λ fs. new.left ≡ fs name)

-- no file has this name, an absence was counted, and nothing is left
pub record HasFoundNone (name : List ℕ) (old new : ShelfState) : Type 0 where
  pub not_held : WhereTold old.files (λ fs. fs name ≡ None)
  pub absent : HasRisen old.absences new.absences
  pub refused : new.left ≡ Some []

-- the shelf could not look, a fault was counted, and nothing is left
pub record HasNotLooked (old new : ShelfState) : Type 0 where
  pub failed : HasRisen old.faults new.faults
  pub refused : new.left ≡ Some []

-- how many reads gave no byte, after one that gave so many
abbrev pub empty_after : ℕ → ℕ → ℕ
empty_after count n = if n == 0 then count_after count 1 else count

-- The next n bytes of what was left stand at a buffer's front and are left no more; no byte is the end of the file, and
-- such reads are counted.
pub record HasGiven (n : ℕ) (before after : List ℕ) (old new : ShelfState) : Type 0 where
  pub fits : n ≤ length before
  pub within : WhereTold old.left (λ bytes. n ≤ length bytes)
  pub given : WhereTold old.left (λ bytes. take n after ≡ take n bytes)
  pub rest : new.left ≡ option_map (drop n) old.left
  pub end : WhereTold old.left (λ bytes. (n ≡ 0) ↔ (bytes ≡ []))
  pub taken : new.taken ≡ count_after old.taken n
  pub empty : new.empty_reads ≡ empty_after old.empty_reads n

-- the shelf could not read on: a fault and a read without a byte were counted, and it is unknown what is left
pub record HasNotRead (old new : ShelfState) : Type 0 where
  pub failed : HasRisen old.faults new.faults
  pub unknown : new.left ≡ None
  pub none_taken : new.taken ≡ old.taken
  pub empty : new.empty_reads ≡ count_after old.empty_reads 1

-- one more read of the same file was made
pub record HasReadOnce (old new : ShelfState) : Type 0 where
  pub reads : new.reads ≡ count_after old.reads 1
  pub last : new.last ≡ old.last
