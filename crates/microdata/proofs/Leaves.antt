-- The places of a record's codes, one variable after another.
use Rattle.std.proofs.Common.{ℕ, List, ◌++◌, Result, Ok}
use Rattle.sdc_base.specs.Steps.{◌>>=◌}
use Rattle.microdata.specs.declared.faults.RowWhy.{RowWhy}

-- these places, and those that follow
abbrev pub with_front : List ℕ → Result (List ℕ) RowWhy → Result (List ℕ) RowWhy
with_front front read = read >>= λ rest. Ok (front ++ rest)
