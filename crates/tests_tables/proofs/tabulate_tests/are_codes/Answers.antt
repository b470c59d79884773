use Rattle.std.proofs.Common.{rules, ◌≡◌, ℕ, ◌<◌, suc, List, [], ◌∷◌, length, slice_get, slice_index, slice_index_or, None, refl, ap, arith}
use Rattle.sdc_base.specs.Trees.{Tree}
use Rattle.tests_tables.proofs.tabulate_tests.are_codes.Goals as goal

as-many : (trees : List Tree) (codes : List ℕ) → None ≡ slice_get trees (length codes) → ((variable : ℕ) → variable < length codes → slice_index codes variable < length (slice_index_or trees variable [])) → length codes ≡ length trees
as-many [] [] none inside = refl
as-many [] (code ∷ codes) none inside = absurd (omega (arith, inside 0 (omega arith)))
as-many (tree ∷ trees) [] none inside = cc
as-many (tree ∷ trees) (code ∷ codes) none inside = ap suc (as-many trees codes none (λ variable h. inside (suc variable) (omega (arith, h))))

pub returns-clause-each : goal.returns-clause-each
returns-clause-each c = λ yes.
    let none : None ≡ slice_get c.args.book.now.trees (length c.args.codes.now) = search rules in
    let inside : (variable : ℕ) → variable < length c.args.codes.now → slice_index c.args.codes.now variable < length (slice_index_or c.args.book.now.trees variable []) = search rules in
    as-many c.args.book.now.trees c.args.codes.now none inside
