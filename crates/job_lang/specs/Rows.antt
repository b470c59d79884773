-- Worked jobs and what they say (own).
use Rattle.std.specs.Prelude.{◌≡◌, ℕ, Bool, true, false, codes, List, [], ◌∷◌, Option, None, Some, Ok, Err}
use Rattle.cost_rule.specs.declared.kind.CostKind.TheVariants as kind
use Rattle.sdc_base.specs.Lines.{text_of_lines}
use Rattle.sdc_base.specs.declared.method.Method.TheVariants as method
use Rattle.sdc_base.specs.declared.rule.Rule.TheVariants as rule
use Rattle.rda_meta.specs.declared.meta.Shape.TheVariants as shape
use Rattle.rda_meta.specs.declared.meta.Variable.{Variable}
use Rattle.job_lang.specs.declared.faults.JobWhy.TheVariants as why
use Rattle.job_lang.specs.declared.job.Job.{Job}
use Rattle.job_lang.specs.Jobs.{job_of}
use Rattle.job_lang.specs.Binding.{bound_of}
use Rattle.job_lang.specs.JobText.{job_text, in_text}

-- the job of one table by one variable
abbrev pub flat_job : Job
flat_job = record {
  micro = codes "m.asc";
  meta = codes "m.rda";
  tables = record { line = 3; variables = codes "A" ∷ []; response = codes "V" } ∷ [];
  rules = record { list = rule.Freq 3 30 ∷ []; man = 20; weighted = false };
  rules_line = 4;
  priors = [];
  cost = kind.Value;
  steps = 100000;
  nodes = 1000000;
  method = method.Modular;
  outputs = record { line = 7; file = codes "t.csv" } ∷ [];
  certificate = codes "t.cert";
  certificate_line = 8;
  contributors = None;
  depths = [];
}

-- the eight lines of that job
abbrev pub EightLines : Type 0
EightLines =
    job_of (text_of_lines (
    codes "<OPENMICRODATA> \"m.asc\"" ∷ codes "<OPENMETADATA> \"m.rda\"" ∷ codes "<SPECIFYTABLE> \"A\"|\"V\""
    ∷ codes "<SAFETYRULE> FREQ(3,30)" ∷ codes "<READMICRODATA>"
    ∷ codes "<SUPPRESS> MOD()" ∷ codes "<WRITETABLE> (1,\"t.csv\")" ∷ codes "<CERTIFICATE> \"t.cert\"" ∷ []))
    ≡ Ok flat_job

-- a job of two tables with an a priori file for the second, which has its variable down to level 2
abbrev pub full_job : Job
full_job = record {
  micro = codes "m.asc";
  meta = codes "m.rda";
  tables = record { line = 3; variables = codes "A" ∷ codes "B" ∷ []; response = codes "V" }
      ∷ record { line = 4; variables = codes "B" ∷ []; response = codes "V" } ∷ [];
  rules = record { list = rule.Freq 3 30 ∷ rule.Nk 1 75 ∷ rule.Percent 10 ∷ []; man = 0; weighted = true };
  rules_line = 5;
  priors = record { line = 7; file = codes "p.hst"; table = 1; separator = 59 } ∷ [];
  cost = kind.Freq;
  steps = 50;
  nodes = 7;
  method = method.Gh 2;
  outputs = record { line = 12; file = codes "ab.csv" } ∷ record { line = 13; file = codes "b.csv" } ∷ [];
  certificate = codes "t.cert";
  certificate_line = 14;
  contributors = Some (record { line = 15; file = codes "g.txt" });
  depths = record { line = 16; table = 1; variable = codes "B"; depth = 2 } ∷ [];
}

-- the canonical text of that job
abbrev pub FullText : Type 0
FullText =
    job_text full_job
    ≡ text_of_lines (
    codes "<OPENMICRODATA> \"m.asc\"" ∷ codes "<OPENMETADATA> \"m.rda\"" ∷ codes "<SPECIFYTABLE> \"A\"\"B\"|\"V\""
    ∷ codes "<SPECIFYTABLE> \"B\"|\"V\""
    ∷ codes "<SAFETYRULE> FREQ(3,30)|NK(1,75)|P(10)|MAN(0)|WGT(1)" ∷ codes "<READMICRODATA>"
    ∷ codes "<APRIORI> \"p.hst\",2,\";\"" ∷ codes "<COST> FREQ" ∷ codes "<STEPS> 50"
    ∷ codes "<NODES> 7" ∷ codes "<SUPPRESS> GH(2)" ∷ codes "<WRITETABLE> (1,\"ab.csv\")"
    ∷ codes "<WRITETABLE> (2,\"b.csv\")" ∷ codes "<CERTIFICATE> \"t.cert\""
    ∷ codes "<CONTRIBUTORS> \"g.txt\"" ∷ codes "<DEPTH> (2,\"B\",2)" ∷ [])

-- its lines are those of that text
abbrev pub FullLines : Type 0
FullLines = in_text full_job ≡ full_job

-- An output that is named like the microdata is given before the certificate that is missing.
abbrev pub NameBeforeMissing : Type 0
NameBeforeMissing =
    job_of (text_of_lines (
    codes "<OPENMICRODATA> \"m.asc\"" ∷ codes "// a comment" ∷ []
    ∷ codes "<specifytable> \"A\" | \"V\" | \"V\" | \"\" |" ∷ codes "<WRITETABLE> ( 01 , \"m.asc\" )" ∷ []))
    ≡ Err (5, why.SameName)

-- The contributors' file of a job that rounds is given at its line, before the number of no table above it.
abbrev pub RoundedContributorsFirst : Type 0
RoundedContributorsFirst =
    job_of (text_of_lines (
    codes "<WRITETABLE> (1,\"t.csv\")" ∷ codes "<CONTRIBUTORS> \"g.txt\"" ∷ codes "<SUPPRESS> RND(5)" ∷ []))
    ≡ Err (2, why.BadValue)

-- The depth of a variable that its table doesn't span is given before an output that is named like the microdata, and
-- its number, with zeros in front, is that of a table.
abbrev pub OutsideBeforeNames : Type 0
OutsideBeforeNames =
    job_of (text_of_lines (
    codes "<OPENMICRODATA> \"m.asc\"" ∷ codes "<WRITETABLE> (1,\"m.asc\")" ∷ codes "<SPECIFYTABLE> \"A\"|\"V\""
    ∷ codes "<DEPTH> ( 01 , \"a\" , 2 )" ∷ []))
    ≡ Err (4, why.NotInTable)

-- A number of no table is given before that, although its line comes later.
abbrev pub NumbersBeforeOutside : Type 0
NumbersBeforeOutside =
    job_of (text_of_lines (
    codes "<SPECIFYTABLE> \"A\"|\"V\"" ∷ codes "<DEPTH> (1,\"V\",2)" ∷ codes "<DEPTH> (2,\"A\",2)" ∷ []))
    ≡ Err (3, why.NoSuchTable)

-- A table may have one depth for each of its variables, and no second one for one of them, were it the same.
abbrev pub DepthTwice : Type 0
DepthTwice =
    job_of (text_of_lines (
    codes "<DEPTH> (1,\"A\",2)" ∷ codes "<DEPTH> (1,\"B\",2)" ∷ codes "<DEPTH> (2,\"A\",2)"
    ∷ codes "<depth> (01,\"A\",2)" ∷ []))
    ≡ Err (4, why.Twice)

-- A depth is a whole number from 1 to 9.
abbrev pub DepthFromOneToNine : Type 0
DepthFromOneToNine =
    (job_of (text_of_lines (codes "<DEPTH> (1,\"A\",0)" ∷ [])) ≡ Err (1, why.BadValue))
    × (job_of (text_of_lines (codes "<DEPTH> (1,\"A\",9)" ∷ codes "<DEPTH> (1,\"A\",10)" ∷ [])) ≡ Err (2, why.BadValue))

-- a variable of the metadata of that job
abbrev pub variable : List ℕ → Bool → ℕ → Option (List ℕ) → Variable
variable name numeric decimals file =
    record {
      name = name;
      first = 1;
      width = 1;
      missing = [];
      numeric = numeric;
      weight = false;
      decimals = decimals;
      total = codes "Total";
      codes = file;
      shape = shape.Flat;
    }

-- Bound to metadata with the variable and the response in the other order.
abbrev pub BindsInAnyOrder : Type 0
BindsInAnyOrder =
    bound_of flat_job (record {
      variables = variable (codes "V") true 2 None ∷ variable (codes "A") false 0 None ∷ [];
      passed_over = 0;
    })
    ≡ Ok (record {
      spanning = 1 ∷ [];
      tables = (record { variable = 0; depth = 9 } ∷ []) ∷ [];
      response = 0;
      weight = None;
      decimals = 2;
      scale = 1;
    })

-- Bound to the metadata of its variables, in the order of the tables: only the second table has a depth of its own.
abbrev pub BindsDepths : Type 0
BindsDepths =
    bound_of (record full_job { rules = flat_job.rules }) (record {
      variables = variable (codes "A") false 0 None ∷ variable (codes "B") false 0 None
          ∷ variable (codes "V") true 0 None ∷ [];
      passed_over = 0;
    })
    ≡ Ok (record {
      spanning = 0 ∷ 1 ∷ [];
      tables = (record { variable = 0; depth = 9 } ∷ record { variable = 1; depth = 9 } ∷ [])
          ∷ (record { variable = 1; depth = 2 } ∷ []) ∷ [];
      response = 2;
      weight = None;
      decimals = 0;
      scale = 1;
    })

-- The certificate is the code list of the variable that spans the table.
abbrev pub CodeListMet : Type 0
CodeListMet =
    bound_of flat_job (record {
      variables = variable (codes "A") false 0 (Some (codes "t.cert"))
          ∷ variable (codes "V") true 0 None ∷ [];
      passed_over = 0;
    })
    ≡ Err (8, why.SameName)
