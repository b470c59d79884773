use Rattle.std.proofs.Common.{◌≡◌, ℕ, List, length, drop, ap, arith}
use Rattle.std.proofs.lemmas.List.{length-drop}
use Rattle.hypercube.proofs.search.Search.shared_corners.Goals as goal

pub corners_of-requires-clause-fewer : goal.corners_of-requires-clause-fewer
corners_of-requires-clause-fewer g c =
    let codes : List ℕ = c.self.inside.codes.now in
    let few = c.self.invariant.at_most_8_codes in
    let behind : length c.codes_behind-codes.result.now ≡ length (drop c.len.result c.as_slice.result.now) = ap (λ (l : List ℕ). length l) c.codes_behind-codes.ensures in
    let all : length c.as_slice.result.now ≡ length codes = ap (λ (l : List ℕ). length l) c.as_slice.ensures in
    let less = length-drop c.len.result c.as_slice.result.now in
    omega (arith, few, behind, all, less)
