-- The reader's bounds of a cell: its truth lies within.
use Rattle.std.proofs.Common.{◌≡◌, ◌≢◌, ◌^◌, FitsSigned, ℤ, pos, ◌+ℤ◌, ◌-ℤ◌, ◌≤ℤ◌, Option, None, Some, arith, refl, sym, subst}
use Rattle.std.specs.Int.{int_min, w128}
use Rattle.std.specs.Option.{option_map_or}
use Rattle.std.proofs.lemmas.Int.{ints, int_max_is, int_min_is}
use Rattle.sdc_base.specs.declared.cell.Cell.{Cell}
use Rattle.sdc_base.specs.declared.cell.Kind.{Kind}
use Rattle.sdc_base.specs.declared.cell.Kind.TheVariants.{Primary, Free, Fixed}
use Rattle.sdc_base.specs.Roundings.{IsAdjacent}
use Rattle.rounding_audit.specs.Readers.{greatest_truth, reader_kind, reader_high, reader_low, stated_high}

-- no bound leaves 128 bits
pub least_fits : (base shown : ℤ) (cell : Cell) → pos 1 ≤ℤ base → base ≤ℤ pos (10 ^ 22) → cell.truth ≤ℤ pos (10 ^ 29) → IsAdjacent base cell.truth shown → FitsSigned w128 (shown -ℤ base) × FitsSigned w128 (shown -ℤ base +ℤ pos 1)
least_fits base shown cell some few truth is =
    (omega (arith, ints, some, few, truth, is.not_below, is.not_above, cell.low_from_zero, cell.low_within), omega (arith, ints, some, few, truth, is.not_below, is.not_above, cell.low_from_zero, cell.low_within))

pub most_fits : (base shown : ℤ) (cell : Cell) → pos 1 ≤ℤ base → base ≤ℤ pos (10 ^ 22) → cell.truth ≤ℤ pos (10 ^ 29) → IsAdjacent base cell.truth shown → FitsSigned w128 (shown +ℤ base) × FitsSigned w128 (shown +ℤ base -ℤ pos 1)
most_fits base shown cell some few truth is =
    (omega (arith, ints, some, few, truth, is.not_below, is.not_above, cell.low_from_zero, cell.low_within), omega (arith, ints, some, few, truth, is.not_below, is.not_above, cell.low_from_zero, cell.low_within))

pub low_bounds : (base shown low : ℤ) (cell : Cell) → IsAdjacent base cell.truth shown → low ≡ reader_low base shown cell → (pos 0 ≤ℤ low) × (low ≤ℤ cell.truth)
low_bounds base shown low cell is low_is =
    let most = int_max_is cell.low (shown -ℤ base +ℤ pos 1) in
    (omega (arith, ints, most, low_is, cell.low_from_zero), omega (arith, ints, most, low_is, cell.low_within, is.not_above))

stated_beyond : (cell : Cell) → cell.truth ≤ℤ pos (10 ^ 29) → cell.truth ≤ℤ stated_high cell
stated_beyond cell few = by cell.high refl
  where
    by : (high : Option ℤ) → cell.high ≡ high → cell.truth ≤ℤ option_map_or (int_min greatest_truth) high greatest_truth
    by None is = few
    by (Some high) is = omega (arith, ints, int_min_is greatest_truth high, few, cell.high_beyond high is)

pub high_beyond : (base shown high : ℤ) (cell : Cell) → cell.truth ≤ℤ pos (10 ^ 29) → IsAdjacent base cell.truth shown → high ≡ reader_high base shown cell → cell.truth ≤ℤ high
high_beyond base shown high cell few is high_is =
    omega (arith, ints, int_min_is (stated_high cell) (shown +ℤ base -ℤ pos 1), high_is, stated_beyond cell few, is.not_below)

pub high_few : (base shown : ℤ) (cell : Cell) → reader_high base shown cell ≤ℤ pos (10 ^ 29)
high_few base shown cell = omega (arith, ints, int_min_is (stated_high cell) (shown +ℤ base -ℤ pos 1), stated_few cell.high)
  where
    stated_few : (high : Option ℤ) → option_map_or (int_min greatest_truth) high greatest_truth ≤ℤ pos (10 ^ 29)
    stated_few None = omega (arith, ints)
    stated_few (Some high) = omega (arith, ints, int_min_is greatest_truth high)

-- ---- what a cell is to the reader

pub kind_primary : (kind : Kind) → reader_kind kind ≡ Primary → kind ≡ Primary
kind_primary Primary is = refl
kind_primary Free is = absurd cc
kind_primary Fixed is = absurd cc

pub kind_other : (kind : Kind) → reader_kind kind ≢ Primary → kind ≢ Primary
kind_other Primary other = λ is. other refl
kind_other Free other = λ is. absurd cc
kind_other Fixed other = λ is. absurd cc

-- what two numbers are read as
pub read_le : {x y u v : ℤ} → u ≡ x → v ≡ y → x ≤ℤ y → u ≤ℤ v
read_le {x} {y} {u} {v} is same le = subst (λ z. z ≤ℤ v) (sym is) (subst (λ z. x ≤ℤ z) (sym same) le)
