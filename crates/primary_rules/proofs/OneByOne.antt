-- The greatest level, taken one rule after another.
use Rattle.std.proofs.Common.{◌≡◌, ℕ, true, false, List, ◌∷◌, Option, None, Some, ℤ, arith, refl, ap, sym, ◌∙◌, if◌then◌else◌, drop, ◌+◌}
use Rattle.std.proofs.lemmas.Int.{ints}
use Rattle.sdc_base.specs.RuleLevels.{Figures, greater_number, upper_of, is_sensitive_by, wanted_level, rounded_up}
use Rattle.sdc_base.specs.declared.rule.Rule.{Rule}
use Rattle.primary_rules.specs.OneRule.{up_by, greater_of}

pub greater_twice : (n m k : ℤ) → greater_number n (Some (greater_number m (Some k))) ≡ greater_number (greater_number n (Some m)) (Some k)
greater_twice n m k = grind (arith, ints)

pub greater_in_turn : (one two three : Option ℤ) → greater_of one (greater_of two three) ≡ greater_of (greater_of one two) three
greater_in_turn None two three = refl
greater_in_turn (Some n) None three = refl
greater_in_turn (Some n) (Some m) None = refl
greater_in_turn (Some n) (Some m) (Some k) = ap Some (greater_twice n m k)

pub upper_first : (one : Rule) (rules : List Rule) (cell : Figures) → upper_of (one ∷ rules) cell ≡ greater_of (up_by one cell) (upper_of rules cell)
upper_first one rules cell =
    let rest : Option ℤ = upper_of rules cell in
    let level : ℤ = rounded_up (wanted_level one cell) in
    elim (is_sensitive_by one cell) as (λ b. (if b then Some (greater_number level rest) else rest) ≡ greater_of (if b then Some level else None) rest) [ true ↦ refl | false ↦ refl ]

-- one more rule is looked at
pub one_more : (most : Option ℤ) (i : ℕ) (rules : List Rule) (one : Rule) (cell : Figures) → drop i rules ≡ one ∷ drop (i + 1) rules → greater_of (greater_of most (up_by one cell)) (upper_of (drop (i + 1) rules) cell) ≡ greater_of most (upper_of (drop i rules) cell)
one_more most i rules one cell here =
    sym (greater_in_turn most (up_by one cell) (upper_of (drop (i + 1) rules) cell))
    ∙ ap (λ rest. greater_of most rest) (sym (upper_first one (drop (i + 1) rules) cell))
    ∙ ap (λ rest. greater_of most (upper_of rest cell)) (sym here)
