-- Falling into a cell, variable by variable.
use Rattle.std.proofs.Common.{◌≡◌, zero, suc, ◌&&◌, Bool, true, false, List, [], ◌∷◌, length, arith, refl}
use Rattle.sdc_base.specs.Trees.{Tree, is_under}
use Rattle.sdc_base.specs.Records.{Name, falls_in, IsUnderInEach, FallsWhereUnderInEach}

and_first : (b c : Bool) → (b && c) ≡ true → b ≡ true
and_first true c h = refl
and_first false c h = h

and_second : (b c : Bool) → (b && c) ≡ true → c ≡ true
and_second true c h = h
and_second false c h = absurd cc

both : (b c : Bool) → b ≡ true → c ≡ true → (b && c) ≡ true
both true c h k = k
both false c h k = absurd cc

each_from_falls : (trees : List Tree) (name codes : Name) → length name ≡ length trees → length codes ≡ length trees → falls_in trees name codes ≡ true → IsUnderInEach trees name codes
each_from_falls [] name codes n c h variable within = absurd (omega arith)
each_from_falls (tree ∷ trees) [] codes n c h variable within = absurd cc
each_from_falls (tree ∷ trees) (above ∷ name) [] n c h variable within = absurd cc
each_from_falls (tree ∷ trees) (above ∷ name) (code ∷ codes) n c h zero within = and_first (is_under tree code above) (falls_in trees name codes) h
each_from_falls (tree ∷ trees) (above ∷ name) (code ∷ codes) n c h (suc variable) within =
    each_from_falls trees name codes (omega arith) (omega arith) (and_second (is_under tree code above) (falls_in trees name codes) h) variable (omega arith)

falls_from_each : (trees : List Tree) (name codes : Name) → length name ≡ length trees → length codes ≡ length trees → IsUnderInEach trees name codes → falls_in trees name codes ≡ true
falls_from_each [] name codes n c h = refl
falls_from_each (tree ∷ trees) [] codes n c h = absurd (omega arith)
falls_from_each (tree ∷ trees) (above ∷ name) [] n c h = absurd (omega arith)
falls_from_each (tree ∷ trees) (above ∷ name) (code ∷ codes) n c h =
    both (is_under tree code above) (falls_in trees name codes) (h 0 (omega arith))
    (falls_from_each trees name codes (omega arith) (omega arith) (λ variable within. h (suc variable) (omega arith)))

pub falls_where_under_in_each : FallsWhereUnderInEach
falls_where_under_in_each trees name codes n c = (each_from_falls trees name codes n c, falls_from_each trees name codes n c)
