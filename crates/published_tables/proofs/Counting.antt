-- How many cells a file has.
use Rattle.std.proofs.Common.{◌≡◌, ◌≤◌, ℕ, Bool, List, length, filter, map, ap, arith}
use Rattle.std.specs.List.{range_with_len}
use Rattle.std.proofs.lemmas.List.{length-map}
use Rattle.std.proofs.lemmas.List.FromFn.{length-range_with_len}
use Rattle.std.proofs.lemmas.List.Sums.{count_by-le-length, length-filter}

-- one for each number below a count that passes a test: no more than the count
pub few_listed : {X : Type 0} (number : X → ℕ) (test : ℕ → Bool) (count : ℕ) (listed : List X) → map number listed ≡ filter test (range_with_len 0 count) → length listed ≤ count
few_listed number test count listed are =
    let many = ap (λ (numbers : List ℕ). length numbers) are in
    let passed = length-filter test (range_with_len 0 count) in
    let few = count_by-le-length test (range_with_len 0 count) in
    omega (arith, many, passed, few, length-range_with_len 0 count, length-map listed number)
