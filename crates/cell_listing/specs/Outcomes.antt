-- What a release made of a cell, and by what it came to be hidden (own).
use Rattle.std.specs.Prelude.{ℕ, ◌==◌, ◌||◌, Bool, List, [], map, if◌then◌else◌, Option, None, Some, slice_index_or, ℤ, pos}
use Rattle.std.specs.List.{list_any}
use Rattle.std.specs.Option.{option_map_or}
use Rattle.sdc_base.specs.Kinds.{is_primary}
use Rattle.sdc_base.specs.Trails.{corners_of}
use Rattle.sdc_base.specs.declared.cell.Kind.{Kind}
use Rattle.certificate.specs.declared.certificate.Certificate.{Certificate}
use Rattle.certificate.specs.declared.extra.Extra.{Extra}
use Rattle.cert_check.specs.Methods.{rounds_cells}
use Rattle.cell_listing.specs.declared.outcome.Origin.{Origin}
use Rattle.cell_listing.specs.declared.outcome.Origin.TheVariants as origin
use Rattle.cell_listing.specs.declared.outcome.Outcome.{Outcome}
use Rattle.cell_listing.specs.declared.outcome.Outcome.TheVariants as outcome

-- the number is one of these
abbrev pub is_among : List ℕ → ℕ → Bool
is_among numbers number = list_any (λ one. one == number) numbers

-- the cells that the repairs of a certificate hide
abbrev pub subjects_of : Certificate → List ℕ
subjects_of c = map (λ repair. repair.subject) c.repairs

-- the extra cells of a release, none where its job names no file of them
abbrev pub cells_in : Option Extra → List ℕ
cells_in extra = option_map_or (λ own. own.cells) extra []

-- By what a cell of a certificate's hidden set came to be hidden: the first of these that it is, primary, a corner of a
-- step, the subject of a repair. Not: a corner that is primary, by a step.
abbrev pub origin_by : Bool → Bool → Bool → Option Origin
origin_by primary corner subject =
    if primary then Some origin.Primary
    else if corner then Some origin.Step
    else if subject then Some origin.Repair
    else None

-- the same of the cell with this number, of this kind
abbrev pub origin_of : Certificate → ℕ → Kind → Option Origin
origin_of c number kind =
    origin_by (is_primary kind) (is_among (corners_of c.steps) number) (is_among (subjects_of c) number)

-- Where cells are hidden: those that the certificate lists, and the extra cells beside them. Not: all that the plan
-- hides.
abbrev pub hidden_or_shown : Certificate → Option Extra → ℕ → Kind → Outcome
hidden_or_shown c extra number kind =
    if is_among c.hidden number then outcome.Hidden (origin_of c number kind)
    else if is_among (cells_in extra) number then outcome.Hidden (Some origin.Extra)
    else outcome.Shown

-- what a release with this certificate made of a cell; where it rounds, its tables show these amounts
abbrev pub outcome_of : Certificate → Option Extra → List ℤ → ℕ → Kind → Outcome
outcome_of c extra amounts number kind =
    if rounds_cells c.method then outcome.Rounded (slice_index_or amounts number (pos 0))
    else hidden_or_shown c extra number kind

-- the certificate or the extra cells list the cell as hidden
abbrev pub is_listed_hidden : Certificate → Option Extra → ℕ → Bool
is_listed_hidden c extra number = is_among c.hidden number || is_among (cells_in extra) number
