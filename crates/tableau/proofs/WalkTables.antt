-- What holds of every table of a walk.
use Rattle.std.proofs.Common.{◌≡◌, ℕ, zero, suc, ◌<◌, List, [], ◌∷◌, length, pos, ◌≤ℤ◌, arith, refl, sym, subst, ap}
use Rattle.tableau.specs.declared.problem.Problem.{Problem}
use Rattle.tableau.specs.Problems.{NamesColumns, rows_of, row_at}
use Rattle.tableau.specs.Tables.{Table}
use Rattle.tableau.specs.Walks.{IsTableOf, IsWalk, IsChain, WalkGivesTable, WalksAreShort}
use Rattle.tableau.proofs.Steps.{step_keeps}
use Rattle.tableau.proofs.Counts.{chains_are_short}
use Rattle.tableau.proofs.Beginnings.{start_is_kept}

pub walk_keeps : WalkGivesTable
walk_keeps problem zero table formed bounds walk = subst (λ (t : Table). IsTableOf problem t) (sym walk) (start_is_kept problem formed bounds)
walk_keeps problem (suc n) table formed bounds walk =
    (step_keeps problem walk.0 table walk.2.0 walk.2.1 walk.2.2 formed (walk_keeps problem n walk.0 formed bounds walk.1) walk.2.3).0

-- the tables of a walk before its last are a chain with it
chain_of : (problem : Problem) (n : ℕ) (table : Table) → NamesColumns problem → ((k : ℕ) → k < length (rows_of problem) → pos 0 ≤ℤ (row_at problem k).bound) → IsWalk problem n table → (earlier : List Table) × IsChain problem (table ∷ earlier) × (length earlier ≡ n)
chain_of problem zero table formed bounds walk = ([], walk_keeps problem zero table formed bounds walk, refl)
chain_of problem (suc n) table formed bounds walk =
    let before = chain_of problem n walk.0 formed bounds walk.1 in
    (walk.0 ∷ before.0, (walk.2, before.1), ap suc before.2)

pub walks_are_short : WalksAreShort
walks_are_short problem n table formed bounds walk =
    let chain = chain_of problem n table formed bounds walk in
    omega (arith, chains_are_short problem (table ∷ chain.0) formed chain.1, chain.2)
