-- Where rules name a cell, and that the levels are the greatest.
use Rattle.std.proofs.Common.{◌≡◌, suc, true, false, IsTrue, List, [], ◌∷◌, All, Option, None, Some, option_map, inl, inr, ℤ, ◌≤ℤ◌, int_lt, arith, rules, refl, ap, subst, if◌then◌else◌}
use Rattle.std.specs.List.{Any}
use Rattle.std.proofs.lemmas.Int.{ints}
use Rattle.std.proofs.lemmas.List.Elements.{All-head, All-tail, All-cons, All-nil}
use Rattle.sdc_base.specs.RuleLevels.{Figures, is_sensitive_by, wanted_level, rounded_up, greater_number, upper_of, levels_up_to}
use Rattle.sdc_base.specs.declared.facts.Levels.{Levels}
use Rattle.sdc_base.specs.declared.rule.Rule.{Rule}
use Rattle.sdc_base.specs.declared.rule.Rule.TheVariants as rule
use Rattle.primary_rules.specs.Naming.{NamesWhereDisclosing, IsLesser, AreGreatest, NoneWhereNoneNames, LevelsAreGreatest}

pub names_where_disclosing : NamesWhereDisclosing
names_where_disclosing (rule.Freq n r) cell = (λ h. search (arith, rules), λ h. search (arith, rules))
names_where_disclosing (rule.Nk n k) cell = (λ h. grind (arith, ints, h), λ h. grind (arith, ints, h))
names_where_disclosing (rule.Percent p) cell = (λ h. grind (arith, ints, h), λ h. grind (arith, ints, h))
names_where_disclosing (rule.Pq p q) cell = (λ h. grind (arith, ints, h), λ h. grind (arith, ints, h))
names_where_disclosing (rule.Zero r) cell = (λ h. search (arith, ints, rules), λ h. search (arith, ints, rules))

any_head : {P : Rule → Type 0} → (x : Rule) (xs : List Rule) → P x → Any P (x ∷ xs)
any_head {P} x xs here = (0, x, omega arith, refl, here)

any_tail : {P : Rule → Type 0} → (x : Rule) (xs : List Rule) → Any P xs → Any P (x ∷ xs)
any_tail {P} x xs (k, y, within, is, here) = (suc k, y, omega arith, is, here)

-- ---- none

none_up : (rules : List Rule) (cell : Figures) → upper_of rules cell ≡ None → All (λ one. is_sensitive_by one cell ≡ false) rules
none_up [] cell h = All-nil (λ one. is_sensitive_by one cell ≡ false)
none_up (one ∷ rules) cell h =
    elim (is_sensitive_by one cell) as (λ b. is_sensitive_by one cell ≡ b → (if b then Some (greater_number (rounded_up (wanted_level one cell)) (upper_of rules cell)) else upper_of rules cell) ≡ None → All (λ r. is_sensitive_by r cell ≡ false) (one ∷ rules)) [
      | true ↦ λ is some. absurd (grind (arith, some))
      | false ↦ λ is rest. All-cons (λ r. is_sensitive_by r cell ≡ false) one rules is (none_up rules cell rest)
    ] refl h

up_none : (rules : List Rule) (cell : Figures) → All (λ one. is_sensitive_by one cell ≡ false) rules → upper_of rules cell ≡ None
up_none [] cell all = refl
up_none (one ∷ rules) cell all =
    let is : is_sensitive_by one cell ≡ false = All-head (λ r. is_sensitive_by r cell ≡ false) one rules all in
    rw is (up_none rules cell (All-tail (λ r. is_sensitive_by r cell ≡ false) one rules all))

no_levels : (truth : ℤ) (up : Option ℤ) → option_map (levels_up_to truth) up ≡ None → up ≡ None
no_levels truth None h = refl
no_levels truth (Some up) h = absurd (grind (arith, h))

pub none_where_none_names : NoneWhereNoneNames
none_where_none_names rules cell =
    (λ h. none_up rules cell (no_levels cell.truth (upper_of rules cell) h), λ all. ap (λ up. option_map (levels_up_to cell.truth) up) (up_none rules cell all))

-- ---- the greatest

-- what a rule wants that names the cell is no more than this
abbrev AtMost : Figures → ℤ → Rule → Type 0
AtMost cell level one = IsTrue (is_sensitive_by one cell) → rounded_up (wanted_level one cell) ≤ℤ level

-- the rule names the cell and wants this
abbrev WantsIt : Figures → ℤ → Rule → Type 0
WantsIt cell level one = IsTrue (is_sensitive_by one cell) × (level ≡ rounded_up (wanted_level one cell))

record IsMost (rules : List Rule) (cell : Figures) (level : ℤ) : Type 0 where
  by_one : Any (WantsIt cell level) rules
  most : All (AtMost cell level) rules

-- no rule of these names the cell
all_silent : (rules : List Rule) (cell : Figures) (level : ℤ) → All (λ one. is_sensitive_by one cell ≡ false) rules → All (AtMost cell level) rules
all_silent [] cell level all = All-nil (AtMost cell level)
all_silent (one ∷ rules) cell level all =
    let is : is_sensitive_by one cell ≡ false = All-head (λ r. is_sensitive_by r cell ≡ false) one rules all in
    All-cons (AtMost cell level) one rules (λ named. absurd (grind (arith, is, named))) (all_silent rules cell level (All-tail (λ r. is_sensitive_by r cell ≡ false) one rules all))

raised : (rules : List Rule) (cell : Figures) (level more : ℤ) → level ≤ℤ more → All (AtMost cell level) rules → All (AtMost cell more) rules
raised [] cell level more h all = All-nil (AtMost cell more)
raised (one ∷ rules) cell level more h all =
    All-cons (AtMost cell more) one rules (λ named. omega (arith, ints, h, All-head (AtMost cell level) one rules all named)) (raised rules cell level more h (All-tail (AtMost cell level) one rules all))

-- one more rule, which names the cell
with_own : (one : Rule) (rules : List Rule) (cell : Figures) (rest : Option ℤ) → is_sensitive_by one cell ≡ true → upper_of rules cell ≡ rest → ((level : ℤ) → rest ≡ Some level → IsMost rules cell level) → IsMost (one ∷ rules) cell (greater_number (rounded_up (wanted_level one cell)) rest)
with_own one rules cell None is none before =
    let own : ℤ = rounded_up (wanted_level one cell) in
    let named : IsTrue (is_sensitive_by one cell) = grind (arith, is) in
    record {
      by_one = any_head {P = WantsIt cell own} one rules (named, refl);
      most = All-cons (AtMost cell own) one rules (λ _. omega (arith, ints)) (all_silent rules cell own (none_up rules cell none));
    }
with_own one rules cell (Some level) is some before =
    let own : ℤ = rounded_up (wanted_level one cell) in
    let named : IsTrue (is_sensitive_by one cell) = grind (arith, is) in
    let rest : IsMost rules cell level = before level refl in
    elim (int_lt own level) as (λ b. int_lt own level ≡ b → IsMost (one ∷ rules) cell (if b then level else own)) [
      | true ↦ λ less. record {
        by_one = any_tail {P = WantsIt cell level} one rules rest.by_one;
        most = All-cons (AtMost cell level) one rules (λ _. grind (arith, ints, less)) rest.most;
      }
      | false ↦ λ more. record {
        by_one = any_head {P = WantsIt cell own} one rules (named, refl);
        most = All-cons (AtMost cell own) one rules (λ _. omega (arith, ints)) (raised rules cell level own (grind (arith, ints, more)) rest.most);
      }
    ] refl

same_some : (a b : ℤ) → Some a ≡ Some b → a ≡ b
same_some a b h = grind (arith, h)

is_most : (rules : List Rule) (cell : Figures) (level : ℤ) → upper_of rules cell ≡ Some level → IsMost rules cell level
is_most [] cell level h = absurd (grind (arith, h))
is_most (one ∷ rules) cell level h =
    let rest : Option ℤ = upper_of rules cell in
    elim (is_sensitive_by one cell) as (λ b. is_sensitive_by one cell ≡ b → (if b then Some (greater_number (rounded_up (wanted_level one cell)) rest) else rest) ≡ Some level → IsMost (one ∷ rules) cell level) [
      | true ↦ λ is some. subst (λ n. IsMost (one ∷ rules) cell n) (same_some (greater_number (rounded_up (wanted_level one cell)) rest) level some) (with_own one rules cell rest is refl (λ n. is_most rules cell n))
      | false ↦ λ is some.
          let before : IsMost rules cell level = is_most rules cell level some in
          record {
            by_one = any_tail {P = WantsIt cell level} one rules before.by_one;
            most = All-cons (AtMost cell level) one rules (λ named. absurd (grind (arith, is, named))) before.most;
          }
    ] refl h

is_lesser : (up truth : ℤ) → IsLesser (if int_lt up truth then up else truth) up truth
is_lesser up truth =
    elim (int_lt up truth) as (λ b. int_lt up truth ≡ b → IsLesser (if b then up else truth) up truth) [
      | true ↦ λ is. (omega (arith, ints), grind (arith, ints, is), inl refl)
      | false ↦ λ is. (grind (arith, ints, is), omega (arith, ints), inr refl)
    ] refl

with_up : (rules : List Rule) (cell : Figures) (levels : Levels) (up : Option ℤ) → upper_of rules cell ≡ up → option_map (levels_up_to cell.truth) up ≡ Some levels → AreGreatest rules cell levels
with_up rules cell levels None is h = absurd (grind (arith, h))
with_up rules cell levels (Some up) is h =
    let these : levels_up_to cell.truth up ≡ levels = grind (arith, h) in
    let most : IsMost rules cell up = is_most rules cell up is in
    subst (λ l. AreGreatest rules cell l) these (record { by_one = most.by_one; most = most.most; down = is_lesser up cell.truth })

pub levels_are_greatest : LevelsAreGreatest
levels_are_greatest rules cell levels h = with_up rules cell levels (upper_of rules cell) refl h
