-- What a tray tells of its files and puts, and how one put changes it (own).
use Rattle.std.specs.Prelude.{◌≡◌, ◌≢◌, ℕ, ◌-◌, ◌^◌, ◌≤◌, List, take, Option, option_map}
use Rattle.sdc_base.specs.Counts.{HasRisen, count_after}
use Rattle.office_io.specs.Files.{Files, files_after_put, told_file}

-- What a tray tells: its files by their names, where they are known; how many puts were made or begun, and how often it
-- has failed. No count falls, and each stands still at 2^64 - 1.
pub record TrayState : Type 0 where
  pub files : Option Files
  pub puts : ℕ
  pub faults : ℕ

-- the file of this name has these bytes, and one put was counted
pub record HasPut (name bytes : List ℕ) (old new : TrayState) : Type 0 where
  pub files : new.files ≡ option_map (λ fs. files_after_put fs name bytes) old.files
  pub puts : new.puts ≡ count_after old.puts 1

-- the file of this name has the first of these bytes, as many as were written, and one put and one fault more were
-- counted
pub record HasPutInPart (name bytes : List ℕ) (old new : TrayState) : Type 0 where
  pub files : (n : ℕ) × (new.files ≡ option_map (λ fs. files_after_put fs name (take n bytes)) old.files)
  pub puts : new.puts ≡ count_after old.puts 1
  pub failed : HasRisen old.faults new.faults

-- files of other names stay, and the count of faults doesn't fall
pub record LeavesOthers (name : List ℕ) (old new : TrayState) : Type 0 where
  pub others : (other : List ℕ) → other ≢ name → told_file new.files other ≡ told_file old.files other
  pub faults : old.faults ≤ new.faults
  pub faults_end : old.faults ≤ 2 ^ 64 - 1 → new.faults ≤ 2 ^ 64 - 1
