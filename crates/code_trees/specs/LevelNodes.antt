-- What the nodes of the level form are, in the words of its rule (tau-ARGUS user manual, hierarchical codes by digits).
use Rattle.std.specs.Prelude.{ℕ, List}
use Rattle.std.specs.Cmp.Lexicographic.{slice_cmp}
use Rattle.std.specs.List.Sorted.{IsStrictlySortedBy}
use Rattle.std.specs.Ordering.{nat_cmp}
use Rattle.code_trees.specs.Among.{IsIn}
use Rattle.code_trees.specs.Levels.{prefixes}

-- it is one of the codes, or the prefix of one at a boundary
abbrev pub IsPrefixOfOne : List ℕ → List (List ℕ) → List ℕ → Type 0
IsPrefixOfOne bounds codes node = (code : List ℕ) × IsIn code codes × IsIn node (prefixes bounds code)

-- The nodes are the codes and their prefixes at the boundaries, all of them and nothing else, each once, in
-- ascending order of bytes.
pub record AreLevelNodes (bounds : List ℕ) (codes nodes : List (List ℕ)) : Type 0 where
  pub each : (node : List ℕ) → IsIn node nodes → IsPrefixOfOne bounds codes node
  pub all : (node : List ℕ) → IsPrefixOfOne bounds codes node → IsIn node nodes
  pub ascending : IsStrictlySortedBy (slice_cmp nat_cmp) nodes
