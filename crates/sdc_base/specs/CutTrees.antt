-- Code trees down to a depth: the codes that a table has which goes no deeper, and those right below each of them
-- (tau-ARGUS user manual, hierarchies; tables to a depth: own).
use Rattle.std.specs.Prelude.{ℕ, ◌&&◌, nat_le, nat_lt, Bool, List, [], length, filter, slice_index, if◌then◌else◌}
use Rattle.std.specs.List.{range_with_len}
use Rattle.sdc_base.specs.Trees.{Tree, children, is_child, met_in, parent_at, places_upward}

-- how many codes are above a code
abbrev pub depth_in : Tree → ℕ → ℕ
depth_in tree code = length (met_in (length tree) tree (parent_at tree code))

-- no code of a code tree is deeper, so a table to this depth has all of them
abbrev pub whole_depth : ℕ
whole_depth = 9

-- a code tree down to a depth, with the codes numbered as in the tree
pub record CutTree : Type 0 where
  pub tree : Tree
  pub depth : ℕ

-- the code is at most so deep
abbrev pub is_within : CutTree → ℕ → Bool
is_within cut code = nat_le (depth_in cut.tree code) cut.depth

-- the code is above the last level. Not: on it, where a code has children in the tree alone.
abbrev pub goes_below : CutTree → ℕ → Bool
goes_below cut code = nat_lt (depth_in cut.tree code) cut.depth

-- it is a code of the tree, and at most so deep
abbrev pub has_code : CutTree → ℕ → Bool
has_code cut code = nat_lt code (length cut.tree) && is_within cut code

-- the codes that are at most so deep, in the order of the tree
abbrev pub codes_within : CutTree → List ℕ
codes_within cut = filter (is_within cut) (range_with_len 0 (length cut.tree))

-- the children of a code: those in the tree, and none where it is on the last level
abbrev pub children_within : CutTree → ℕ → List ℕ
children_within cut above = if goes_below cut above then children cut.tree above else []

-- the test whether a code is one of these
abbrev pub is_child_within : CutTree → ℕ → ℕ → Bool
is_child_within cut above code = goes_below cut above && is_child cut.tree above code

-- the code itself where it is at most so deep, and else the code above it on the last level: the first such code that
-- is met walking parents
abbrev pub code_within : CutTree → ℕ → ℕ
code_within cut code = slice_index (filter (is_within cut) (places_upward cut.tree code)) 0
