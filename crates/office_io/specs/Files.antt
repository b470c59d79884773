-- Files by their names, as a shelf or a tray tells them, and files in a list by their places (own).
use Rattle.std.specs.Prelude.{ℕ, Bool, List, [], ◌∷◌, Option, Some, None, if◌then◌else◌, option_map, is_some, Vec, slice_get, drop, unwrap_or, true, false}
use Rattle.std.specs.declared.alloc.Global.{Global}
use Rattle.std.specs.Str.{bytes_eq}
use Rattle.std.specs.Map.{update}

-- for each name the bytes of its file, where it is held
abbrev pub Files : Type 0
Files = List ℕ → Option (List ℕ)

-- the files after one is made or replaced: every other stays
abbrev pub files_after_put : Files → List ℕ → List ℕ → Files
files_after_put files name bytes = update bytes_eq files name (Some bytes)

-- the bytes that told files hold under a name: none told, no file, or its bytes
abbrev pub told_file : Option Files → List ℕ → Option (Option (List ℕ))
told_file files name = option_map (λ fs. fs name) files

-- the name, where it is held, and else none
abbrev pub held_name : Files → List ℕ → Option (List ℕ)
held_name files name = if is_some (files name) then Some name else None

-- the first file of a name in a list
abbrev pub file_of : List (List ℕ × Vec ℕ Global) → Files
file_of [] name = None
file_of (file ∷ files) name = if bytes_eq file.0 name then Some file.1.items else file_of files name

-- the name of the file at a place of a list
abbrev pub name_at : List (List ℕ × Vec ℕ Global) → ℕ → Option (List ℕ)
name_at files i = option_map (λ file. file.0) (slice_get files i)

-- the bytes of the file at a place of a list
abbrev pub bytes_at : List (List ℕ × Vec ℕ Global) → ℕ → Option (List ℕ)
bytes_at files i = option_map (λ file. file.1.items) (slice_get files i)

-- What is left of the file at the chosen place, from a byte on, where it is known.
-- Where no place is chosen, nothing is left.
abbrev pub rest_at : List (List ℕ × Vec ℕ Global) → Bool → Option ℕ → ℕ → Option (List ℕ)
rest_at files false chosen at = None
rest_at files true None at = Some []
rest_at files true (Some i) at = Some (drop at (unwrap_or (bytes_at files i) []))
