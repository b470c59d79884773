-- How a file of a job is named where it is printed (own).
use Rattle.std.specs.Prelude.{ℕ, ◌+◌, List, ◌++◌, codes, decimal}
use Rattle.job_inputs.specs.declared.file_ref.FileRef.{FileRef}
use Rattle.job_inputs.specs.declared.file_ref.FileRef.TheVariants as file

-- how a file is named: variables by their number in the metadata and tables, both from 1
abbrev pub file_text : FileRef → List ℕ
file_text file.Job = codes "job"
file_text file.Metadata = codes "metadata"
file_text (file.CodeList place) = codes "codelist " ++ decimal (place + 1)
file_text (file.Hierarchy place) = codes "hierarchy " ++ decimal (place + 1)
file_text file.Microdata = codes "microdata"
file_text (file.Apriori t) = codes "apriori table " ++ decimal (t + 1)
file_text file.Certificate = codes "certificate"
file_text file.Contributors = codes "contributors"
file_text (file.Table t) = codes "table " ++ decimal (t + 1)
file_text file.Out = codes "out"
