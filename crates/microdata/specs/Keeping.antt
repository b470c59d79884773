-- What is kept of the records so far is sound: it can be read on, and closed (own).
use Rattle.std.specs.Prelude.{◌≡◌, ℕ, ◌+◌, ◌≤◌, false, List, [], ◌∷◌, ◌++◌, length, sum, All, Option, None, Some}
use Rattle.std.specs.List.{IsDistinct}
use Rattle.std.specs.Str.{bytes_eq}
use Rattle.sdc_base.specs.Lines.{HasNoFeed}
use Rattle.code_trees.specs.Among.{AreAmong}
use Rattle.code_trees.specs.Levels.{boundaries, codes_with_prefixes, first_level_fault}
use Rattle.microdata.specs.Feeding.{is_too_long}
use Rattle.microdata.specs.Layouts.{IsField, AreMeasures}
use Rattle.microdata.specs.declared.faults.RowError.{RowError}
use Rattle.microdata.specs.declared.layout.Measures.{Measures}
use Rattle.microdata.specs.declared.layout.Source.{Source}
use Rattle.microdata.specs.declared.layout.Source.TheVariants as source
use Rattle.microdata.specs.declared.record.ReaderProgress.{ReaderProgress}
use Rattle.microdata.specs.declared.record.Variable.{Variable}
use Rattle.microdata.specs.declared.taking.Seen.{Seen}

-- the codes by levels make a tree, with their prefixes in order
pub record AreLevelCodes (widths total : List ℕ) (seen : Seen) : Type 0 where
  pub nodes : seen.nodes ≡ codes_with_prefixes (boundaries 0 widths) [] seen.codes
  pub no_level_fault : first_level_fault total (boundaries 0 widths) 1 [] [] seen.codes ≡ None
  pub short : All (λ code. length code ≤ sum widths) seen.codes
  pub among : AreAmong seen.codes seen.nodes
  pub at_most_5000_nodes : length seen.nodes ≤ 5000

-- the listed codes and the further ones in order make a tree
pub record AreFlatCodes (codes : List (List ℕ)) (total : List ℕ) (seen : Seen) : Type 0 where
  pub distinct : IsDistinct bytes_eq (total ∷ (codes ++ seen.nodes))
  pub among : AreAmong (codes ++ seen.nodes) seen.codes
  pub back : AreAmong seen.codes (codes ++ seen.nodes)
  pub count : length codes + length seen.nodes ≤ length seen.codes
  pub at_most_5000_codes : length seen.codes ≤ 5000

-- the codes so far of a variable
abbrev pub AreSeen : Source → Seen → Type 0
AreSeen (source.Listed tree) seen = seen.codes ≡ []
AreSeen (source.Levels widths total) seen = AreLevelCodes widths total seen
AreSeen (source.Flat codes total) seen = AreFlatCodes codes total seen

-- a variable with its codes so far
pub record IsVariable (needed : ℕ) (variable : Variable) : Type 0 where
  pub field : IsField needed variable.field
  pub seen : AreSeen variable.field.source variable.seen

-- the records so far
pub record AreSoundRecords (measures : Measures) (so_far : ReaderProgress) : Type 0 where
  pub numbers : AreMeasures measures
  pub variables : All (IsVariable measures.needed) so_far.variables
  pub at_most_8_variables : length so_far.variables ≤ 8
  pub records : so_far.number ≤ 1000000
  pub skipped : so_far.skipped ≤ so_far.number

-- before an error, the records so far are sound, and the line that has begun isn't too long
abbrev pub IsReadyReader : Option RowError → Measures → ReaderProgress → List ℕ → Type 0
IsReadyReader None measures so_far begun =
    AreSoundRecords measures so_far × HasNoFeed begun × (is_too_long begun ≡ false)
IsReadyReader (Some error) measures so_far begun = Unit {0}
