-- The files of the demonstration: a job of two linked tables over a made survey (own).
use Rattle.std.specs.Prelude.{ℕ, List, [], ◌∷◌, codes, None, Some, if◌then◌else◌}
use Rattle.std.specs.Str.{bytes_eq}
use Rattle.sdc_base.specs.Lines.{text_of_lines}
use Rattle.office_io.specs.Files.{Files}
use Rattle.demo_files.specs.Surveys.{survey}

-- ---- their names

-- the job
abbrev pub job_name : List ℕ
job_name = codes "demo.job"

-- ---- what they hold

-- Turnover by region and industry, and by region and size, with a rule on frequencies and one on dominance; the cells
-- are protected by one pass, and the greater a cell is the dearer it is to hide.
abbrev pub job_text : List ℕ
job_text =
    text_of_lines (
    codes "<OPENMICRODATA> \"demo.asc\"" ∷ codes "<OPENMETADATA> \"demo.rda\""
    ∷ codes "<SPECIFYTABLE> \"Region\"\"Industry\"|\"Value\"" ∷ codes "<SPECIFYTABLE> \"Region\"\"Size\"|\"Value\""
    ∷ codes "<SAFETYRULE> FREQ(3,30)|P(10)" ∷ codes "<COST> VALUE" ∷ codes "<READMICRODATA>" ∷ codes "<SUPPRESS> MOD()"
    ∷ codes "<WRITETABLE> (1,\"industry.csv\")" ∷ codes "<WRITETABLE> (2,\"size.csv\")"
    ∷ codes "<CERTIFICATE> \"demo.cert\"" ∷ [])

-- where each variable stands in a record, and where its codes come from
abbrev pub metadata_text : List ℕ
metadata_text =
    text_of_lines (
    codes "Region 1 3" ∷ codes "<RECODEABLE>" ∷ codes "<HIERARCHICAL>" ∷ codes "<HIERCODELIST> \"region.hrc\""
    ∷ codes "<HIERLEADSTRING> @"
    ∷ codes "Industry 4 2" ∷ codes "<RECODEABLE>" ∷ codes "<HIERARCHICAL>" ∷ codes "<HIERLEVELS> 1 1" ∷ codes "Size 6 2"
    ∷ codes "<RECODEABLE>"
    ∷ codes "Value 8 7" ∷ codes "<NUMERIC>" ∷ [])

-- three provinces of four regions each
abbrev pub regions_text : List ℕ
regions_text =
    text_of_lines (
    codes "P1" ∷ codes "@R01" ∷ codes "@R02" ∷ codes "@R03" ∷ codes "@R04" ∷ codes "P2" ∷ codes "@R05" ∷ codes "@R06"
    ∷ codes "@R07" ∷ codes "@R08"
    ∷ codes "P3" ∷ codes "@R09" ∷ codes "@R10" ∷ codes "@R11" ∷ codes "@R12" ∷ [])

-- a folder of four files
abbrev pub folder_of : List ℕ → List ℕ → List ℕ → List ℕ → Files
folder_of job metadata regions records name =
    if bytes_eq (codes "demo.job") name then Some job
    else if bytes_eq (codes "demo.rda") name then Some metadata
    else if bytes_eq (codes "region.hrc") name then Some regions
    else if bytes_eq (codes "demo.asc") name then Some records
    else None

-- the files of a survey of so many records, drawn from a seed
abbrev pub demo_files : ℕ → ℕ → Files
demo_files seed records = folder_of job_text metadata_text regions_text (survey seed records)
