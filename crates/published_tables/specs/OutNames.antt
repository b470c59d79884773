-- Under which names the intervals of a job may not be put (own).
use Rattle.std.specs.Prelude.{ℕ, ◌||◌, Bool, List}
use Rattle.std.specs.List.{list_any}
use Rattle.std.specs.Str.{bytes_eq}
use Rattle.rda_meta.specs.declared.meta.Variable.{Variable}
use Rattle.job_lang.specs.BindingFaults.{is_code_list, is_hierarchy_file}
use Rattle.job_lang.specs.declared.job.Job.{Job}
use Rattle.job_inputs.specs.CodeSources.{spanning_variables}
use Rattle.job_inputs.specs.ClassifiedJobs.{is_contributors_file}
use Rattle.job_inputs.specs.declared.described.DescribedJob.{DescribedJob}

-- the job names this file: as its microdata, its metadata, an a priori file, the file of a table, the certificate or
-- the contributors' file
abbrev pub is_named_in : List ℕ → Job → Bool
is_named_in file job =
    bytes_eq job.micro file || bytes_eq job.meta file || list_any (λ prior. bytes_eq prior.file file) job.priors
    || list_any (λ output. bytes_eq output.file file) job.outputs || bytes_eq job.certificate file
    || is_contributors_file file job.contributors

-- the codes of a variable, or their hierarchy, are in this file
abbrev pub is_coded_by : List ℕ → Variable → Bool
is_coded_by file variable = is_code_list file variable.codes || is_hierarchy_file file variable.shape

-- the codes of a variable that spans a table, or their hierarchy, are in this file
abbrev pub has_codes_in : List ℕ → DescribedJob → Bool
has_codes_in file described = list_any (λ one. is_coded_by file one.1) (spanning_variables described)

-- A file that is put under the name `out` would overwrite the file of the job, which has this name, or one that the job
-- names, or the code list or the hierarchy file of a variable that spans a table.
abbrev pub overwrites : List ℕ → List ℕ → DescribedJob → Bool
overwrites name out described = bytes_eq name out || is_named_in out described.job || has_codes_in out described
