-- What is looked up behind the last line of a job (own).
use Rattle.std.specs.Prelude.{ℕ, ◌+◌, ◌-◌, Bool, false, List, [], ◌∷◌, ◌++◌, Option, None, Some, option_map, unwrap_or, find}
use Rattle.std.specs.Option.{is_some}
use Rattle.cost_rule.specs.declared.kind.CostKind.{CostKind}
use Rattle.cost_rule.specs.declared.kind.CostKind.TheVariants as kind
use Rattle.sdc_base.specs.Tokens.{number_in}
use Rattle.sdc_base.specs.declared.method.Method.{Method}
use Rattle.job_lang.specs.declared.job.DepthLine.{DepthLine}
use Rattle.job_lang.specs.declared.job.OutputLine.{OutputLine}
use Rattle.job_lang.specs.declared.job.PriorLine.{PriorLine}
use Rattle.job_lang.specs.declared.statement.Keyword.{Keyword}
use Rattle.job_lang.specs.declared.statement.Instruction.{Instruction}
use Rattle.job_lang.specs.declared.statement.Instruction.TheVariants as said
use Rattle.job_lang.specs.declared.statement.Statement.{Statement}
use Rattle.job_lang.specs.declared.looked_up.RulesLine.{RulesLine}
use Rattle.job_lang.specs.Statements.{is_by}

-- the statement by this command
abbrev pub statement_by : Keyword → List Statement → Option Statement
statement_by word all = find (λ s. is_by word s.said) all

-- an output of the table at this place, from 0
abbrev pub is_output_at : ℕ → Instruction → Bool
is_output_at place (said.Output number file) = is_some (number_in (place + 1) (place + 1) number)
is_output_at place one = false

-- the statement of that output
abbrev pub output_said : ℕ → List Statement → Option Statement
output_said place all = find (λ s. is_output_at place s.said) all

-- the file of a command that names one alone, or of an output
abbrev pub file_said : Instruction → Option (List ℕ)
file_said (said.Microdata file) = Some file
file_said (said.Metadata file) = Some file
file_said (said.Certificate file) = Some file
file_said (said.Contributors file) = Some file
file_said (said.Output number file) = Some file
file_said one = None

-- that file with its line
abbrev pub file_line : Option Statement → Option OutputLine
file_line None = None
file_line (Some s) = option_map (λ file. record { line = s.line; file = file }) (file_said s.said)

-- the rules with their line
abbrev pub rules_from : ℕ → Instruction → Option RulesLine
rules_from line (said.Safety rules) = Some (record { line = line; rules = rules })
rules_from line one = None

-- the rules of a job with their line
abbrev pub rules_line : Option Statement → Option RulesLine
rules_line None = None
rules_line (Some s) = rules_from s.line s.said

-- the method
abbrev pub method_from : Instruction → Option Method
method_from (said.Suppress method) = Some method
method_from one = None

-- the method of a job
abbrev pub method_of : Option Statement → Option Method
method_of None = None
method_of (Some s) = method_from s.said

-- the kind of cost, its value where nothing else is said
abbrev pub cost_from : Instruction → CostKind
cost_from (said.Cost cost) = cost
cost_from one = kind.Value

-- the kind of cost of a job
abbrev pub cost_of : Option Statement → CostKind
cost_of None = kind.Value
cost_of (Some s) = cost_from s.said

-- a number of steps or nodes, or else this one
abbrev pub work_from : ℕ → Instruction → ℕ
work_from other (said.Steps steps) = steps
work_from other (said.Nodes nodes) = nodes
work_from other one = other

-- the number of a job's steps or nodes, or else this one
abbrev pub work_of : ℕ → Option Statement → ℕ
work_of other None = other
work_of other (Some s) = work_from other s.said

-- the steps where a job says nothing
abbrev pub usual_steps : ℕ
usual_steps = 100000

-- the nodes where a job says nothing
abbrev pub usual_nodes : ℕ
usual_nodes = 1000000

-- the place of the table with this number, which is 1 to 8
abbrev pub table_place : List ℕ → ℕ
table_place number = unwrap_or (number_in 1 8 number) 1 - 1

-- an a priori file with its line
abbrev pub prior_in : ℕ → Instruction → List PriorLine
prior_in line (said.Prior file number separator) = record
    { line = line; file = file; table = table_place number; separator = separator } ∷ []
prior_in line one = []

-- the a priori files in the order of their lines
abbrev pub priors_in : List Statement → List PriorLine
priors_in [] = []
priors_in (s ∷ rest) = prior_in s.line s.said ++ priors_in rest

-- a depth with its line
abbrev pub depth_in : ℕ → Instruction → List DepthLine
depth_in line (said.Depth number variable depth) = record
    { line = line; table = table_place number; variable = variable; depth = depth } ∷ []
depth_in line one = []

-- the depths in the order of their lines
abbrev pub depths_in : List Statement → List DepthLine
depths_in [] = []
depths_in (s ∷ rest) = depth_in s.line s.said ++ depths_in rest
