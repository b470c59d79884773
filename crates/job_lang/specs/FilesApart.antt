-- Numbers of no table, and names of files that meet (own).
use Rattle.std.specs.Prelude.{ℕ, Bool, false, ◌||◌, nat_lt, if◌then◌else◌, List, [], ◌∷◌, Result, Ok, Err}
use Rattle.std.specs.List.{list_any, count_by}
use Rattle.std.specs.Option.{is_none}
use Rattle.std.specs.Str.{bytes_eq}
use Rattle.sdc_base.specs.Tokens.{number_in}
use Rattle.job_lang.specs.declared.faults.JobWhy.{JobWhy}
use Rattle.job_lang.specs.declared.faults.JobWhy.TheVariants.{NoSuchTable, SameName}
use Rattle.job_lang.specs.declared.statement.Instruction.{Instruction}
use Rattle.job_lang.specs.declared.statement.Instruction.TheVariants as said
use Rattle.job_lang.specs.declared.statement.Statement.{Statement}

-- ---- numbers of tables

-- the number is that of no table, of which there are so many
abbrev pub is_no_table : ℕ → List ℕ → Bool
is_no_table count number = is_none (number_in 1 count number)

-- an a priori file, an output or a depth of no table
abbrev pub is_astray : ℕ → Instruction → Bool
is_astray count (said.Prior file number separator) = is_no_table count number
is_astray count (said.Output number file) = is_no_table count number
is_astray count (said.Depth number variable depth) = is_no_table count number
is_astray count one = false

-- the first line that names no table is a fault
unfoldable pub no_stray : ℕ → List Statement → Result (Unit {0}) (ℕ × JobWhy)
no_stray count [] = Ok tt
no_stray count (s ∷ rest) = if is_astray count s.said then Err (s.line, NoSuchTable) else no_stray count rest

-- ---- names of files

-- a file of this name is put
abbrev pub puts : List ℕ → Instruction → Bool
puts name (said.Output number file) = bytes_eq file name
puts name (said.Certificate file) = bytes_eq file name
puts name (said.Contributors file) = bytes_eq file name
puts name one = false

-- a file of this name is read
abbrev pub is_read_file : List ℕ → Instruction → Bool
is_read_file name (said.Microdata file) = bytes_eq file name
is_read_file name (said.Metadata file) = bytes_eq file name
is_read_file name (said.Prior file number separator) = bytes_eq file name
is_read_file name one = false

-- two files of this name are put, or one is read
abbrev pub is_shared : List ℕ → List Statement → Bool
is_shared name all = nat_lt 1 (count_by (λ s. puts name s.said) all) || list_any (λ s. is_read_file name s.said) all

-- a file is put whose name another one has
abbrev pub puts_shared_file : List Statement → Instruction → Bool
puts_shared_file all (said.Output number file) = is_shared file all
puts_shared_file all (said.Certificate file) = is_shared file all
puts_shared_file all (said.Contributors file) = is_shared file all
puts_shared_file all one = false

-- the first line that puts such a file is a fault
unfoldable pub no_same_name : List Statement → List Statement → Result (Unit {0}) (ℕ × JobWhy)
no_same_name all [] = Ok tt
no_same_name all (s ∷ rest) = if puts_shared_file all s.said then Err (s.line, SameName) else no_same_name all rest
