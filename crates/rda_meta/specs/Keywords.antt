-- The keywords of metadata (tau-ARGUS user manual).
use Rattle.std.specs.Prelude.{ℕ, Bool, true, false, codes, if◌then◌else◌, List, Option, None, Some}
use Rattle.std.specs.Str.{str_eq_ignore_ascii_case}
use denote.Enum.Bare.{sameb}
use Rattle.rda_meta.specs.contracts.setting.Keyword.{the_type}
use Rattle.rda_meta.specs.declared.setting.Keyword.{Keyword}
use Rattle.rda_meta.specs.declared.setting.Keyword.TheVariants.{Recodeable, Recodable, Numeric, Decimals, Weight, CodeList, Hierarchical, HierLevels, HierCodeList, HierLeadString, TotCode, Request, Holding, Distance}

-- the keyword of this spelling, in letters of any case
unfoldable pub keyword_of : List ℕ → Option Keyword
keyword_of word =
    if str_eq_ignore_ascii_case word (codes "RECODEABLE") then Some Recodeable
    else if str_eq_ignore_ascii_case word (codes "RECODABLE") then Some Recodable
    else if str_eq_ignore_ascii_case word (codes "NUMERIC") then Some Numeric
    else if str_eq_ignore_ascii_case word (codes "DECIMALS") then Some Decimals
    else if str_eq_ignore_ascii_case word (codes "WEIGHT") then Some Weight
    else if str_eq_ignore_ascii_case word (codes "CODELIST") then Some CodeList
    else if str_eq_ignore_ascii_case word (codes "HIERARCHICAL") then Some Hierarchical
    else if str_eq_ignore_ascii_case word (codes "HIERLEVELS") then Some HierLevels
    else if str_eq_ignore_ascii_case word (codes "HIERCODELIST") then Some HierCodeList
    else if str_eq_ignore_ascii_case word (codes "HIERLEADSTRING") then Some HierLeadString
    else if str_eq_ignore_ascii_case word (codes "TOTCODE") then Some TotCode
    else if str_eq_ignore_ascii_case word (codes "REQUEST") then Some Request
    else if str_eq_ignore_ascii_case word (codes "HOLDING") then Some Holding
    else if str_eq_ignore_ascii_case word (codes "DISTANCE") then Some Distance
    else None

-- the three that are passed over
abbrev pub is_passed : Keyword → Bool
is_passed Request = true
is_passed Holding = true
is_passed Distance = true
is_passed keyword = false

-- both are one keyword
abbrev pub same_keyword : Keyword → Keyword → Bool
same_keyword = sameb the_type
