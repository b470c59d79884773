-- Going round: numbers between the neighbours of the truths move up or down together until a cell more is a multiple
-- (own).
use Rattle.std.specs.Prelude.{◌≡◌, ℕ, ◌<◌, ◌^◌, true, List, All, length, replicate, ℤ, pos, ◌+ℤ◌, ◌-ℤ◌, ◌≤ℤ◌, int_lt, if◌then◌else◌}
use Rattle.std.specs.Int.RustNames.{int_rem}
use Rattle.sdc_base.specs.Systems.{number_at}
use Rattle.rounding.specs.Neighbours.{is_multiple, multiple_down}
use Rattle.sdc_base.specs.Truths.{IsTruth}
use Rattle.signed_network.specs.Networks.{IsNetwork}
use Rattle.signed_network.specs.Balances.{IsBalanced}
use Rattle.signed_network.specs.declared.arcs.Arc.{Arc}

-- a number on its way from a truth to one of its neighbours; a truth that is a multiple stays
pub record IsBeside (base truth number : ℤ) : Type 0 where
  pub low : multiple_down base truth ≤ℤ number
  pub high : number ≤ℤ (multiple_down base truth +ℤ base)
  pub stays : is_multiple base truth ≡ true → number ≡ truth

-- a number for each truth, beside it
pub record AreBeside (truths : List ℤ) (base : ℤ) (numbers : List ℤ) : Type 0 where
  pub from_one : pos 1 ≤ℤ base
  pub to_most : base ≤ℤ pos (10 ^ 22)
  pub within : All IsTruth truths
  pub each : length numbers ≡ length truths
  pub beside : (cell : ℕ) → cell < length truths → IsBeside base (number_at truths cell) (number_at numbers cell)

-- arcs between points, and for each point all cells whose arcs touch it
abbrev pub IsWholeNetwork : List Arc → List (List ℕ) → Type 0
IsWholeNetwork arcs touching = IsNetwork (replicate (length arcs) true) arcs touching

-- numbers beside the truths of a network's cells, as much of them coming in at each point as going out
pub record IsBalancedBeside (arcs : List Arc) (touching : List (List ℕ)) (truths : List ℤ) (base : ℤ)
    (numbers : List ℤ) : Type 0 where
  pub network : IsWholeNetwork arcs touching
  pub each : length arcs ≡ length numbers
  pub balanced : IsBalanced arcs (length touching) (number_at numbers)
  pub beside : AreBeside truths base numbers

-- what was a multiple is one
abbrev pub KeepMultiples : ℤ → List ℤ → List ℤ → Type 0
KeepMultiples base before after =
    (cell : ℕ) → cell < length before → is_multiple base (number_at before cell) ≡ true
    → is_multiple base (number_at after cell) ≡ true

-- the cells below this one are multiples
abbrev pub AreWholeBelow : ℤ → List ℤ → ℕ → Type 0
AreWholeBelow base numbers first = (cell : ℕ) → cell < first → is_multiple base (number_at numbers cell) ≡ true

-- how far a cell can go its way to the next multiple
abbrev pub room : ℤ → ℤ → ℤ → ℤ
room base number turn = if int_lt (pos 0) turn then base -ℤ int_rem number base else int_rem number base
