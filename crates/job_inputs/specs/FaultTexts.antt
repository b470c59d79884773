-- What is printed of a fault of a job's files (own).
use Rattle.std.specs.Prelude.{ℕ, ◌+◌, List, ◌++◌, codes, decimal}
use Rattle.apriori.specs.declared.faults.PriorWhy.TheVariants as prior
use Rattle.apriori.specs.declared.faults.PriorWhy.{PriorWhy}
use Rattle.certificate.specs.declared.faults.CertWhy.TheVariants as certificate
use Rattle.certificate.specs.declared.faults.CertWhy.{CertWhy}
use Rattle.code_trees.specs.declared.tree_fault.TreeFault.TheVariants as tree
use Rattle.code_trees.specs.declared.tree_fault.TreeFault.{TreeFault}
use Rattle.job_inputs.specs.FileTexts.{file_text}
use Rattle.job_inputs.specs.declared.faults.Fault.TheVariants as fault
use Rattle.job_inputs.specs.declared.faults.Fault.{Fault}
use Rattle.job_lang.specs.declared.faults.Command.TheVariants as command
use Rattle.job_lang.specs.declared.faults.Command.{Command}
use Rattle.job_lang.specs.declared.faults.JobWhy.TheVariants as job
use Rattle.job_lang.specs.declared.faults.JobWhy.{JobWhy}
use Rattle.microdata.specs.declared.faults.RowWhy.TheVariants as row
use Rattle.microdata.specs.declared.faults.RowWhy.{RowWhy}
use Rattle.rda_meta.specs.declared.faults.MetaWhy.TheVariants as meta
use Rattle.rda_meta.specs.declared.faults.MetaWhy.{MetaWhy}

-- the command that a job lacks, as it is written
abbrev pub command_text : Command → List ℕ
command_text command.OpenMicrodata = codes "OPENMICRODATA"
command_text command.OpenMetadata = codes "OPENMETADATA"
command_text command.SpecifyTable = codes "SPECIFYTABLE"
command_text command.SafetyRule = codes "SAFETYRULE"
command_text command.Suppress = codes "SUPPRESS"
command_text command.WriteTable = codes "WRITETABLE"
command_text command.Certificate = codes "CERTIFICATE"

-- a kind of fault of a job
abbrev pub job_text : JobWhy → List ℕ
job_text job.BadLine = codes "BadLine"
job_text job.UnknownCommand = codes "UnknownCommand"
job_text job.BadValue = codes "BadValue"
job_text job.Twice = codes "Twice"
job_text job.TooMany = codes "TooMany"
job_text job.OtherResponse = codes "OtherResponse"
job_text job.NoSuchTable = codes "NoSuchTable"
job_text job.NotInTable = codes "NotInTable"
job_text job.SameName = codes "SameName"
job_text (job.Missing which) = codes "Missing " ++ command_text which
job_text job.NoSuchVariable = codes "NoSuchVariable"
job_text job.NotSpanning = codes "NotSpanning"
job_text job.NotNumeric = codes "NotNumeric"
job_text job.NoWeight = codes "NoWeight"

-- a kind of fault of metadata
abbrev pub meta_text : MetaWhy → List ℕ
meta_text meta.BadName = codes "BadName"
meta_text meta.BadPlace = codes "BadPlace"
meta_text meta.UnknownKeyword = codes "UnknownKeyword"
meta_text meta.BadValue = codes "BadValue"
meta_text meta.Twice = codes "Twice"
meta_text meta.Clash = codes "Clash"
meta_text meta.TooMany = codes "TooMany"

-- a kind of fault of a record
abbrev pub row_text : RowWhy → List ℕ
row_text row.TooLong = codes "TooLong"
row_text row.TooMany = codes "TooMany"
row_text row.Short = codes "Short"
row_text row.Negative = codes "Negative"
row_text row.BadNumber = codes "BadNumber"
row_text row.LightWeight = codes "LightWeight"
row_text row.UnknownCode = codes "UnknownCode"
row_text row.NotLeaf = codes "NotLeaf"
row_text row.TooManyCodes = codes "TooManyCodes"

-- the line of a fault in a file of codes, and its kind; want of memory is never a fault
abbrev pub tree_text : TreeFault → List ℕ
tree_text (tree.NoCode n) = decimal n ++ codes ": NoCode"
tree_text (tree.Jump n) = decimal n ++ codes ": Jump"
tree_text (tree.TooDeep n) = decimal n ++ codes ": TooDeep"
tree_text (tree.Blank n) = decimal n ++ codes ": Blank"
tree_text (tree.IsTotal n) = decimal n ++ codes ": IsTotal"
tree_text (tree.Twice n) = decimal n ++ codes ": Twice"
tree_text (tree.TooMany n) = decimal n ++ codes ": TooMany"
tree_text tree.Memory = codes "0: Memory"

-- a kind of fault of an a priori file
abbrev pub prior_text : PriorWhy → List ℕ
prior_text prior.BadShape = codes "BadShape"
prior_text prior.UnknownCode = codes "UnknownCode"
prior_text prior.BadNumber = codes "BadNumber"
prior_text prior.EmptyUnsafe = codes "EmptyUnsafe"
prior_text prior.OutsideTruth = codes "OutsideTruth"
prior_text prior.Twice = codes "Twice"
prior_text prior.ProtectedPrimary = codes "ProtectedPrimary"

-- a kind of fault of a certificate, or of a contributors' file
abbrev pub certificate_text : CertWhy → List ℕ
certificate_text certificate.Version = codes "Version"
certificate_text certificate.Shape = codes "Shape"
certificate_text certificate.Number = codes "Number"
certificate_text certificate.Order = codes "Order"
certificate_text certificate.NoEnd = codes "NoEnd"

-- where a fault is, and its kind
abbrev pub fault_text : Fault → List ℕ
fault_text (fault.Absent f) = file_text f ++ codes ": Absent"
fault_text (fault.TooLong f) = file_text f ++ codes ": TooLong"
fault_text (fault.Job line why) = codes "job line " ++ (decimal line ++ (codes ": " ++ job_text why))
fault_text (fault.Meta line why) = codes "metadata line " ++ (decimal line ++ (codes ": " ++ meta_text why))
fault_text (fault.Tree f one) = file_text f ++ (codes " line " ++ tree_text one)
fault_text (fault.Row number why) = codes "record " ++ (decimal number ++ (codes ": " ++ row_text why))
fault_text (fault.Cells t) = codes "table " ++ (decimal (t + 1) ++ codes ": TooManyCells")
fault_text (fault.Prior t line why) = codes "apriori table "
    ++ (decimal (t + 1) ++ (codes " line " ++ (decimal line ++ (codes ": " ++ prior_text why))))
fault_text (fault.Certificate line why) = codes "certificate line "
    ++ (decimal line ++ (codes ": " ++ certificate_text why))
fault_text (fault.Contributors line why) = codes "contributors line "
    ++ (decimal line ++ (codes ": " ++ certificate_text why))
fault_text fault.OutName = codes "out: OutName"
