-- What words ask for (own).
use Rattle.std.specs.Prelude.{◌≡◌, ℕ, ◌-◌, ◌^◌, List, [], ◌∷◌, if◌then◌else◌, Option, None, Some, option_and_then, option_map, codes}
use Rattle.certificate.specs.Numerals.{natural_in}
use Rattle.std.specs.Str.{bytes_eq}

-- the name of a job, where the words are this verb and a name of one byte or more
abbrev pub job_behind : List ℕ → List (List ℕ) → Option (List ℕ)
job_behind verb (word ∷ (b ∷ name) ∷ []) = if bytes_eq word verb then Some (b ∷ name) else None
job_behind verb words = None

-- `run JOB`
abbrev pub run_job : List (List ℕ) → Option (List ℕ)
run_job words = job_behind (codes "run") words

-- `check JOB`
abbrev pub check_job : List (List ℕ) → Option (List ℕ)
check_job words = job_behind (codes "check") words

-- two names, where the words are this verb and names of one byte or more
abbrev pub names_behind : List ℕ → List (List ℕ) → Option (List ℕ × List ℕ)
names_behind verb (word ∷ (b ∷ one) ∷ (d ∷ other) ∷ []) = if bytes_eq word verb then Some (b ∷ one, d ∷ other) else None
names_behind verb words = None

-- `intervals JOB OUT`: the name of the job, and the name under which the intervals are put
abbrev pub interval_names : List (List ℕ) → Option (List ℕ × List ℕ)
interval_names words = names_behind (codes "intervals") words

-- `migrate OLD NEW`: the name of a certificate, and the name under which it is put again
abbrev pub migration_names : List (List ℕ) → Option (List ℕ × List ℕ)
migration_names words = names_behind (codes "migrate") words

-- `audit JOB OUT`: the name of the job, and the name under which the audit is put
abbrev pub audit_names : List (List ℕ) → Option (List ℕ × List ℕ)
audit_names words = names_behind (codes "audit") words

-- a seed up to 2^64 - 1 and a number of records from 1 to 1,000,000, where two words spell these, without zeros in
-- front
abbrev pub seed_and_records : List ℕ → List ℕ → Option (ℕ × ℕ)
seed_and_records seed records =
    option_and_then (λ s. option_map (λ n. (s, n)) (natural_in 1 1000000 records)) (natural_in 0 (2 ^ 64 - 1) seed)

-- `demo SEED RECORDS`
abbrev pub demo_numbers : List (List ℕ) → Option (ℕ × ℕ)
demo_numbers (word ∷ seed ∷ records ∷ []) = if bytes_eq word (codes "demo") then seed_and_records seed records else None
demo_numbers words = None

-- the words are none of these
pub record AreUsage (words : List (List ℕ)) : Type 0 where
  pub no_run : run_job words ≡ None
  pub no_check : check_job words ≡ None
  pub no_intervals : interval_names words ≡ None
  pub no_demo : demo_numbers words ≡ None
  pub no_migration : migration_names words ≡ None
  pub no_audit : audit_names words ≡ None
