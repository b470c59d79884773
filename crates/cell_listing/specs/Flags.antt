-- What a certificate says of cells, by a flag for each (own).
use Rattle.std.specs.Prelude.{◌≡◌, ℕ, ◌||◌, Bool, false, List, [], Option, Some, replicate, if◌then◌else◌}
use Rattle.sdc_base.specs.HiddenSets.{is_hidden, hide_cells}
use Rattle.sdc_base.specs.Kinds.{is_primary}
use Rattle.sdc_base.specs.Trails.{corners_of}
use Rattle.sdc_base.specs.declared.cell.Kind.{Kind}
use Rattle.certificate.specs.declared.certificate.Certificate.{Certificate}
use Rattle.certificate.specs.declared.extra.Extra.{Extra}
use Rattle.repair.specs.HidingOrder.{hide_subjects}
use Rattle.cell_listing.specs.Outcomes.{cells_in, origin_by}
use Rattle.cell_listing.specs.declared.hidden_cells.HiddenCells.{HiddenCells}
use Rattle.cell_listing.specs.declared.outcome.Origin.TheVariants as origin
use Rattle.cell_listing.specs.declared.outcome.Outcome.{Outcome}
use Rattle.cell_listing.specs.declared.outcome.Outcome.TheVariants as outcome

-- a flag for each of so many cells, set for those with these numbers
abbrev pub flags_of : ℕ → List ℕ → List Bool
flags_of cells numbers = hide_cells (replicate cells false) numbers

-- the flags of so many cells are those of a certificate's hidden cells, of the corners of its steps, of the subjects of
-- its repairs, and of extra cells
pub record AreHiddenCells (c : Certificate) (more : Option Extra) (cells : ℕ) (flags : HiddenCells) : Type 0 where
  pub hidden : flags.hidden ≡ flags_of cells c.hidden
  pub corners : flags.corners ≡ flags_of cells (corners_of c.steps)
  pub subjects : flags.subjects ≡ hide_subjects (flags_of cells []) c.repairs
  pub extra : flags.extra ≡ flags_of cells (cells_in more)

-- what flags say of the cell with this number, of this kind
abbrev pub outcome_in : HiddenCells → ℕ → Kind → Outcome
outcome_in flags number kind =
    if is_hidden flags.hidden number
    then outcome.Hidden (origin_by (is_primary kind) (is_hidden flags.corners number) (is_hidden flags.subjects number))
    else if is_hidden flags.extra number then outcome.Hidden (Some origin.Extra)
    else outcome.Shown

-- flags say that the cell with this number is hidden, by the certificate or beside it
abbrev pub is_flagged : HiddenCells → ℕ → Bool
is_flagged flags number = is_hidden flags.hidden number || is_hidden flags.extra number
