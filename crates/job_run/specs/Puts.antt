-- What a tray holds after puts (own).
use Rattle.std.specs.Prelude.{◌≡◌, ◌⊎◌, ℕ, ◌+◌, ◌<◌, List, [], ◌∷◌, length, Some, option_map, slice_get, take}
use Rattle.sdc_base.specs.Counts.{count_after}
use Rattle.office_io.specs.Files.{Files, files_after_put}
use Rattle.office_io.specs.Trays.{TrayState, HasPut, HasPutInPart}
use Rattle.job_inputs.specs.declared.file_ref.FileRef.{FileRef}
use Rattle.job_run.specs.declared.put.FilePut.{FilePut}

-- a folder after these puts, one after the other
abbrev pub put_all : Files → List FilePut → Files
put_all files [] = files
put_all files (p ∷ puts) = put_all (files_after_put files p.name p.bytes) puts

-- after these puts, each of which was counted once
pub record AllWhole (puts : List FilePut) (old new : TrayState) : Type 0 where
  pub files : new.files ≡ option_map (λ out. put_all out puts) old.files
  pub puts_made : new.puts ≡ count_after old.puts (length puts)

-- after the first k of the puts whole, which aren't all: each was counted once
pub record IsFrontWhole (puts : List FilePut) (k : ℕ) (old new : TrayState) : Type 0 where
  pub not_all : k < length puts
  pub files : new.files ≡ option_map (λ out. put_all out (take k puts)) old.files
  pub puts_made : new.puts ≡ count_after old.puts k

-- after some of the puts whole, but not all, or none
abbrev pub SomeWhole : List FilePut → TrayState → TrayState → Type 0
SomeWhole puts old new = (new ≡ old) ⊎ ((k : ℕ) × IsFrontWhole puts k old new)

-- after k of the puts whole, and the first n bytes of the next, which is that of this file: each was counted once, and
-- that one too
pub record IsInPart (puts : List FilePut) (file : FileRef) (k n : ℕ) (old new : TrayState) : Type 0 where
  pub next : FilePut
  pub is_next : slice_get puts k ≡ Some next
  pub is_of : next.file ≡ file
  pub files : new.files ≡ option_map (λ out. files_after_put (put_all out (take k puts)) next.name (take n next.bytes))
      old.files
  pub puts_made : new.puts ≡ count_after old.puts (k + 1)

-- after some of the puts whole, and the first bytes of the next, which is that of this file
abbrev pub OneInPart : List FilePut → FileRef → TrayState → TrayState → Type 0
OneInPart puts file old new = (k n : ℕ) × IsInPart puts file k n old new

-- at most one put was made, and under this name: nothing has changed, or the file stands there whole or in part
abbrev pub HasAtMostOnePut : List ℕ → TrayState → TrayState → Type 0
HasAtMostOnePut name old new = (new ≡ old)
    ⊎ ((bytes : List ℕ) × (HasPut name bytes old new ⊎ HasPutInPart name bytes old new))
