-- Where the codes of a spanning variable come from: code list, hierarchy file or the microdata (own).
use Rattle.std.specs.Prelude.{ℕ, List, [], ◌∷◌, Option, None, Some, Result, Ok}
use Rattle.sdc_base.specs.Steps.{◌>>=◌, map_fault}
use Rattle.sdc_base.specs.Trees.{Tree}
use Rattle.office_io.specs.Files.{Files}
use Rattle.rda_meta.specs.declared.meta.Shape.{Shape}
use Rattle.rda_meta.specs.declared.meta.Shape.TheVariants as shape
use Rattle.rda_meta.specs.declared.meta.Variable.{Variable}
use Rattle.hierarchy.specs.CodeList.{codes_of}
use Rattle.hierarchy.specs.Lead.{lead_of}
use Rattle.code_trees.specs.MissingCodes.{with_codes}
use Rattle.microdata.specs.declared.layout.Field.{Field}
use Rattle.microdata.specs.declared.layout.Source.{Source}
use Rattle.microdata.specs.declared.layout.Source.TheVariants as source
use Rattle.job_inputs.specs.Layouts.{variables_at}
use Rattle.job_inputs.specs.declared.described.DescribedJob.{DescribedJob}
use Rattle.job_inputs.specs.declared.file_ref.FileRef.{FileRef}
use Rattle.job_inputs.specs.declared.file_ref.FileRef.TheVariants as file
use Rattle.job_inputs.specs.declared.faults.Fault.{Fault}
use Rattle.job_inputs.specs.declared.faults.Fault.TheVariants as fault
use Rattle.job_inputs.specs.ReadFiles.{bytes_of_file}

-- the codes of a code list, where the variable at this place has one, or what is wrong with the list
unfoldable pub codes_in : Files → ℕ → List ℕ → Option (List ℕ) → Result (List (List ℕ)) Fault
codes_in files place total None = Ok []
codes_in files place total (Some name) = do
  bytes ← bytes_of_file files name (file.CodeList place)
  map_fault (fault.Tree (file.CodeList place)) (codes_of total bytes)

-- the codes of a variable's code list, where it has one, or what is wrong with the list
abbrev pub listed_codes : Files → ℕ → Variable → Result (List (List ℕ)) Fault
listed_codes files place variable = codes_in files place variable.total variable.codes

-- the tree that the bytes of a hierarchy file give, with the missing codes that it lacks, or what is wrong with them
unfoldable pub tree_in : FileRef → Variable → List ℕ → List ℕ → Result Tree Fault
tree_in f variable lead bytes = do
  tree ← map_fault (fault.Tree f) (lead_of lead variable.total bytes)
  map_fault (fault.Tree f) (with_codes 1 tree variable.missing)

-- the tree of a named hierarchy file, or what is wrong with it
unfoldable pub listed_tree : Files → ℕ → Variable → List ℕ → List ℕ → Result Tree Fault
listed_tree files place variable name lead = do
  bytes ← bytes_of_file files name (file.Hierarchy place)
  tree_in (file.Hierarchy place) variable lead bytes

-- where the codes of a variable come from; those of a list count where the variable is flat alone
unfoldable pub source_of : Files → ℕ → Variable → List (List ℕ) → Shape → Result Source Fault
source_of files place variable codes shape.Flat = Ok (source.Flat codes variable.total)
source_of files place variable codes (shape.Levels widths) = Ok (source.Levels widths variable.total)
source_of files place variable codes (shape.Listed name lead) = do
  tree ← listed_tree files place variable name lead
  Ok (source.Listed tree)

-- where the codes of a variable come from by its shape
abbrev pub source_in : Files → ℕ → Variable → List (List ℕ) → Result Source Fault
source_in files place variable codes = source_of files place variable codes variable.shape

-- the field of a spanning variable, or the first fault of its files: the code list, and then the hierarchy
unfoldable pub field_of : Files → ℕ → Variable → Result Field Fault
field_of files place variable = do
  codes ← listed_codes files place variable
  source ← source_in files place variable codes
  Ok (record { first = variable.first; width = variable.width; source = source })

-- the fields of variables, each with its place in the metadata, in their order
unfoldable pub fields_of : Files → List (ℕ × Variable) → Result (List Field) Fault
fields_of files [] = Ok []
fields_of files (one ∷ more) = do
  field ← field_of files one.0 one.1
  fields ← fields_of files more
  Ok (field ∷ fields)

-- the variables that span a job's tables, each with its place in the metadata
abbrev pub spanning_variables : DescribedJob → List (ℕ × Variable)
spanning_variables described = variables_at described.meta.variables described.bound.spanning

-- the fields of the variables that span a job's tables, or the first fault of their files
abbrev pub spanning_fields : Files → DescribedJob → Result (List Field) Fault
spanning_fields files described = fields_of files (spanning_variables described)
