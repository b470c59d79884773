-- The spelling of what a line of a job says (words of the tau-ARGUS user manual; the choice of one spelling own).
use Rattle.std.specs.Prelude.{ℕ, ◌+◌, true, false, decimal, codes, List, [], ◌∷◌, ◌++◌, map}
use Rattle.std.specs.Fmt.{signed_decimal}
use Rattle.cost_rule.specs.declared.kind.CostKind.{CostKind}
use Rattle.cost_rule.specs.declared.kind.CostKind.TheVariants as kind
use Rattle.sdc_base.specs.declared.method.Method.{Method}
use Rattle.sdc_base.specs.declared.method.Method.TheVariants.{Gh, Modular, Rnd}
use Rattle.sdc_base.specs.declared.rule.Rule.TheVariants.{Freq, Nk, Percent, Pq, Zero}
use Rattle.sdc_base.specs.declared.rule.Rules.{Rules}
use Rattle.job_lang.specs.declared.rule_clauses.RuleClause.{RuleClause}
use Rattle.job_lang.specs.declared.rule_clauses.RuleClause.TheVariants.{Named, Man, Weights}
use Rattle.job_lang.specs.declared.statement.Keyword.{Keyword}
use Rattle.job_lang.specs.declared.statement.Keyword.TheVariants.{OpenMicrodata, OpenMetadata, SpecifyTable, SafetyRule, ReadMicrodata, Apriori, Cost, Steps, Nodes, Suppress, WriteTable, Certificate, Contributors, Depth}
use Rattle.job_lang.specs.declared.statement.Instruction.{Instruction}
use Rattle.job_lang.specs.declared.statement.Instruction.TheVariants as said
use Rattle.job_lang.specs.Statements.{command_of}
use Rattle.sdc_base.specs.Tokens.{in_quotes}

-- ---- tokens

-- the word of a command
abbrev pub word_of : Keyword → List ℕ
word_of OpenMicrodata = codes "OPENMICRODATA"
word_of OpenMetadata = codes "OPENMETADATA"
word_of SpecifyTable = codes "SPECIFYTABLE"
word_of SafetyRule = codes "SAFETYRULE"
word_of ReadMicrodata = codes "READMICRODATA"
word_of Apriori = codes "APRIORI"
word_of Cost = codes "COST"
word_of Steps = codes "STEPS"
word_of Nodes = codes "NODES"
word_of Suppress = codes "SUPPRESS"
word_of WriteTable = codes "WRITETABLE"
word_of Certificate = codes "CERTIFICATE"
word_of Contributors = codes "CONTRIBUTORS"
word_of Depth = codes "DEPTH"

-- names between double quotes, one right behind the other
abbrev pub quoted_each : List (List ℕ) → List ℕ
quoted_each [] = []
quoted_each (name ∷ names) = in_quotes name ++ quoted_each names

-- texts with a bar between each two
abbrev pub texts_between_bars : List (List ℕ) → List ℕ
texts_between_bars [] = []
texts_between_bars (text ∷ []) = text
texts_between_bars (text ∷ next ∷ texts) = text ++ 124 ∷ texts_between_bars (next ∷ texts)

-- a number between parentheses
abbrev pub number_in_parentheses : List ℕ → List ℕ
number_in_parentheses number = 40 ∷ number ++ 41 ∷ []

-- two numbers between parentheses
abbrev pub enclosed_both : List ℕ → List ℕ → List ℕ
enclosed_both first second = 40 ∷ first ++ (44 ∷ second ++ 41 ∷ [])

-- the number of the table at this place, from 1
abbrev pub table_number : ℕ → List ℕ
table_number place = decimal (place + 1)

-- ---- arguments

-- a rule, MAN or WGT
abbrev pub clause_text : RuleClause → List ℕ
clause_text (Named (Freq n r)) = codes "FREQ" ++ enclosed_both (decimal n) (decimal r)
clause_text (Named (Nk n k)) = codes "NK" ++ enclosed_both (decimal n) (decimal k)
clause_text (Named (Percent p)) = codes "P" ++ number_in_parentheses (decimal p)
clause_text (Named (Pq p q)) = codes "PQ" ++ enclosed_both (decimal p) (decimal q)
clause_text (Named (Zero r)) = codes "ZERO" ++ number_in_parentheses (decimal r)
clause_text (Man r) = codes "MAN" ++ number_in_parentheses (decimal r)
clause_text (Weights false) = codes "WGT" ++ number_in_parentheses (decimal 0)
clause_text (Weights true) = codes "WGT" ++ number_in_parentheses (decimal 1)

-- the rules of a job, and behind them MAN and WGT
abbrev pub clauses_of : Rules → List RuleClause
clauses_of rules = map Named rules.list ++ Man rules.man ∷ Weights rules.weighted ∷ []

-- rules joined by bars
abbrev pub rules_text : Rules → List ℕ
rules_text rules = texts_between_bars (map clause_text (clauses_of rules))

-- a kind of cost
abbrev pub cost_text : CostKind → List ℕ
cost_text kind.Value = codes "VALUE"
cost_text kind.Freq = codes "FREQ"
cost_text kind.One = codes "UNIT"

-- how tables are protected
abbrev pub method_text : Method → List ℕ
method_text (Gh n) = codes "GH" ++ number_in_parentheses (decimal n)
method_text Modular = codes "MOD()"
method_text (Rnd base) = codes "RND" ++ number_in_parentheses (signed_decimal base)

-- the argument by which it is said, behind a space where there is one
abbrev pub argument_text : Instruction → List ℕ
argument_text (said.Microdata name) = 32 ∷ in_quotes name
argument_text (said.Metadata name) = 32 ∷ in_quotes name
argument_text (said.Table variables response) = 32 ∷ quoted_each variables ++ 124 ∷ in_quotes response
argument_text (said.Safety rules) = 32 ∷ rules_text rules
argument_text said.Read = []
argument_text (said.Prior file number separator) = 32 ∷ in_quotes file
    ++ (44 ∷ number ++ 44 ∷ in_quotes (separator ∷ []))
argument_text (said.Cost cost) = 32 ∷ cost_text cost
argument_text (said.Steps steps) = 32 ∷ decimal steps
argument_text (said.Nodes nodes) = 32 ∷ decimal nodes
argument_text (said.Suppress method) = 32 ∷ method_text method
argument_text (said.Output number file) = 32 ∷ 40 ∷ number ++ (44 ∷ in_quotes file ++ 41 ∷ [])
argument_text (said.Certificate name) = 32 ∷ in_quotes name
argument_text (said.Contributors name) = 32 ∷ in_quotes name
argument_text (said.Depth number variable depth) = 32 ∷ 40 ∷ number
    ++ (44 ∷ in_quotes variable ++ (44 ∷ decimal depth ++ 41 ∷ []))

-- the line by which it is said
abbrev pub said_line : Instruction → List ℕ
said_line one = 60 ∷ word_of (command_of one) ++ 62 ∷ argument_text one
