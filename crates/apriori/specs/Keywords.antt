-- The keywords of a priori files, and how many fields each has (own).
use Rattle.std.specs.Prelude.{ℕ, List, codes, if◌then◌else◌, Option, None, Some}
use Rattle.std.specs.Str.{str_eq_ignore_ascii_case}
use Rattle.apriori.specs.declared.keyword.Keyword.{Keyword}
use Rattle.apriori.specs.declared.keyword.Keyword.TheVariants as keyword

-- the keyword that a word is, in letters of any case
abbrev pub keyword_of : List ℕ → Option Keyword
keyword_of word =
    if str_eq_ignore_ascii_case word (codes "u") then Some keyword.Unsafe
    else if str_eq_ignore_ascii_case word (codes "s") then Some keyword.Safe
    else if str_eq_ignore_ascii_case word (codes "p") then Some keyword.Shown
    else if str_eq_ignore_ascii_case word (codes "c") then Some keyword.Price
    else if str_eq_ignore_ascii_case word (codes "pl") then Some keyword.Levels
    else if str_eq_ignore_ascii_case word (codes "b") then Some keyword.Bounds
    else None

-- how many fields stand behind a keyword
abbrev pub field_count : Keyword → ℕ
field_count keyword.Unsafe = 0
field_count keyword.Safe = 0
field_count keyword.Shown = 0
field_count keyword.Price = 1
field_count keyword.Levels = 2
field_count keyword.Bounds = 2
