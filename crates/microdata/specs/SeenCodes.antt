-- The codes that records bring: what is wrong with one, and what the codes so far are with it (tau-ARGUS user manual,
-- codes and their levels; limits and first fault own).
use Rattle.std.specs.Prelude.{ℕ, ◌==◌, ◌||◌, nat_lt, nat_le, Bool, List, [], ◌∷◌, ◌++◌, length, sum, position, Option, None, Some, is_some, Result, Ok}
use Rattle.std.specs.BTreeSet.{insert_key}
use Rattle.std.specs.Cmp.Lexicographic.{slice_cmp}
use Rattle.std.specs.List.{list_any}
use Rattle.std.specs.Ordering.{nat_cmp}
use Rattle.std.specs.Str.{bytes_eq}
use Rattle.sdc_base.specs.Blanks.{is_blank}
use Rattle.sdc_base.specs.Steps.{◌>>=◌, or_fault, refuse}
use Rattle.sdc_base.specs.Trees.{Tree, find}
use Rattle.code_trees.specs.Children.{first_child}
use Rattle.code_trees.specs.Levels.{boundaries, prefixes, with_prefixes}
use Rattle.microdata.specs.declared.faults.RowWhy.{RowWhy}
use Rattle.microdata.specs.declared.faults.RowWhy.TheVariants.{UnknownCode, NotLeaf, TooManyCodes}
use Rattle.microdata.specs.declared.layout.Source.{Source}
use Rattle.microdata.specs.declared.layout.Source.TheVariants as source
use Rattle.microdata.specs.declared.taking.Seen.{Seen}

-- the place is the total's, or other codes stand below it
abbrev pub is_above : Tree → ℕ → Bool
is_above tree place = (place == 0) || is_some (first_child tree place)

-- the place of a code in a listed tree, where nothing stands below it
unfoldable pub listed_place : Tree → List ℕ → Result ℕ RowWhy
listed_place tree code = do
  place ← or_fault UnknownCode (find tree code)
  leaf ← refuse NotLeaf (is_above tree place)
  Ok place

-- A new code by levels: it has no blank inside, isn't longer than the widths together, isn't the total and has no
-- prefix at the end of a level that is; and with its prefixes there are at most 5,000. (Where it is the total, no
-- shorter prefix is.) Not: a prefix that ends inside a level.
unfoldable pub with_level_code : List ℕ → List ℕ → Seen → List ℕ → Result Seen RowWhy
with_level_code widths total seen code = do
  plain ← refuse UnknownCode (list_any is_blank code)
  short ← refuse UnknownCode (nat_lt (sum widths) (length code))
  leaf ← refuse NotLeaf (bytes_eq code total)
  below ← refuse UnknownCode (list_any (bytes_eq total) (prefixes (boundaries 0 widths) code))
  room ← refuse TooManyCodes (nat_lt 5000 (length (with_prefixes (boundaries 0 widths) seen.nodes code)))
  Ok (record { codes = seen.codes ++ code ∷ []; nodes = with_prefixes (boundaries 0 widths) seen.nodes code })

-- a new code without levels: it isn't the total, and is the 5,000th at most
unfoldable pub with_flat_code : List ℕ → Seen → List ℕ → Result Seen RowWhy
with_flat_code total seen code = do
  leaf ← refuse NotLeaf (bytes_eq code total)
  room ← refuse TooManyCodes (nat_le 5000 (length seen.codes))
  Ok (record { codes = seen.codes ++ code ∷ []; nodes = insert_key (slice_cmp nat_cmp) seen.nodes code })

-- a code that was there before adds nothing, and a new one stands behind the others
abbrev pub known_or_new : Seen → Option ℕ → Result Seen RowWhy → Result (Seen × ℕ) RowWhy
known_or_new seen (Some place) grown = Ok (seen, place)
known_or_new seen None grown = grown >>= λ next. Ok (next, length seen.codes)

-- The codes of a variable with one more, and where that stands: its place in a listed tree, else its number among
-- the distinct codes so far.
unfoldable pub with_code : Source → Seen → List ℕ → Result (Seen × ℕ) RowWhy
with_code (source.Listed tree) seen code = listed_place tree code >>= λ place. Ok (seen, place)
with_code (source.Levels widths total) seen code = known_or_new seen (position (bytes_eq code) seen.codes)
    (with_level_code widths total seen code)
with_code (source.Flat codes total) seen code = known_or_new seen (position (bytes_eq code) seen.codes)
    (with_flat_code total seen code)

-- before the first record: the codes of a list, and nothing else
abbrev pub seen_first : Source → Seen
seen_first (source.Listed tree) = record { codes = []; nodes = [] }
seen_first (source.Levels widths total) = record { codes = []; nodes = [] }
seen_first (source.Flat codes total) = record { codes = codes; nodes = [] }
