-- No amount of a cell is below 0.
use Rattle.std.proofs.Common.{◌≡◌, ◌^◌, ℤ, pos, neg_ℤ, ◌≤ℤ◌, arith, refl, subst, sym}
use Rattle.std.specs.Option.{ForSome}
use Rattle.std.proofs.lemmas.Int.{ints}
use Rattle.sdc_base.specs.declared.cell.Cell.{Cell}
use Rattle.sdc_base.specs.declared.cell.Kind.{Kind}
use Rattle.sdc_base.specs.declared.cell.Kind.TheVariants.{Primary, Free, Fixed}

-- far below every amount
far : (amount : ℤ) → pos 0 ≤ℤ amount → neg_ℤ (pos (2 ^ 120)) ≤ℤ amount
far amount h = omega (arith, ints, h)

up-from-zero : (cell : Cell) (kind : Kind) → cell.kind ≡ kind → pos 0 ≤ℤ cell.up
up-from-zero cell Primary is = omega (arith, ints, cell.primary is)
up-from-zero cell Free is = let none : cell.up ≡ pos 0 = cell.other_up (λ primary. absurd cc) in subst (λ (up : ℤ). pos 0 ≤ℤ up) (sym none) (omega (arith, ints))
up-from-zero cell Fixed is = let none : cell.up ≡ pos 0 = cell.other_up (λ primary. absurd cc) in subst (λ (up : ℤ). pos 0 ≤ℤ up) (sym none) (omega (arith, ints))

pub up_enough : (cell : Cell) → neg_ℤ (pos (2 ^ 120)) ≤ℤ cell.up
up_enough cell = far cell.up (up-from-zero cell cell.kind refl)

pub down_enough : (cell : Cell) → neg_ℤ (pos (2 ^ 120)) ≤ℤ cell.down
down_enough cell = far cell.down cell.down_from_zero

pub low_enough : (cell : Cell) → neg_ℤ (pos (2 ^ 120)) ≤ℤ cell.low
low_enough cell = far cell.low cell.low_from_zero

pub high_enough : (cell : Cell) → ForSome cell.high (λ bound. neg_ℤ (pos (2 ^ 120)) ≤ℤ bound)
high_enough cell bound is = far bound (omega (arith, ints, cell.high_beyond bound is, cell.low_within, cell.low_from_zero))
