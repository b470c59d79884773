-- What a cell is to its protection: primary, free or fixed (handbook; fixed cells own).
use Rattle.std.specs.Prelude.{ℕ, Bool, true, false, List, slice_get}
use Rattle.std.specs.Option.{option_map_or}
use Rattle.sdc_base.specs.declared.cell.Cell.{Cell}
use Rattle.sdc_base.specs.declared.cell.Kind.{Kind}
use Rattle.sdc_base.specs.declared.cell.Kind.TheVariants.{Primary, Free, Fixed}

-- a cell of this kind discloses a contributor
abbrev pub is_primary : Kind → Bool
is_primary Primary = true
is_primary Free = false
is_primary Fixed = false

-- a cell of this kind may be hidden or shown
abbrev pub is_free : Kind → Bool
is_free Primary = false
is_free Free = true
is_free Fixed = false

-- a cell of this kind is always shown
abbrev pub is_fixed : Kind → Bool
is_fixed Primary = false
is_fixed Free = false
is_fixed Fixed = true

-- the cell with this number is primary
abbrev pub is_primary_at : List Cell → ℕ → Bool
is_primary_at cells cell = option_map_or (λ one. is_primary one.kind) (slice_get cells cell) false
