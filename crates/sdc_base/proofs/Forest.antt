-- Cells that point to lower ones: where they lead, and what a new link changes.
use Rattle.std.proofs.Common.{◌≡◌, ◌≢◌, ℕ, zero, suc, ◌<◌, ◌≤◌, ◌==◌, Bool, true, false, List, length, slice_index, slice_set, ◌⊎◌, inl, inr, arith, refl, ap, sym, ◌∙◌, subst}
use Rattle.std.proofs.lemmas.Bool.Decides.{Decides-eqb}
use Rattle.std.proofs.lemmas.List.{get_or-set_other, get_or-set_same, length-set, set_past}
use Rattle.sdc_base.specs.declared.relation.Relation.{Relation}
use Rattle.sdc_base.specs.Components.{AreLinked}
use Rattle.sdc_base.specs.Forests.{ascend, IsForest, LeadsTo, Meet}
use Rattle.sdc_base.proofs.Chains.{linked-same, linked-then, linked-turned}

-- ---- where steps lead

pub leads-then : (lower : List ℕ) (one two three : ℕ) → LeadsTo lower one two → LeadsTo lower two three → LeadsTo lower one three
leads-then lower one two three first second = by first.0 one first.1
  where
    by : (steps one : ℕ) → ascend lower steps one ≡ two → LeadsTo lower one three
    by zero one same = subst (λ cell. LeadsTo lower cell three) (sym same) second
    by (suc steps) one up = let rest = by steps (slice_index lower one) up in (suc rest.0, rest.1)

pub leads-step : (lower : List ℕ) (cell next : ℕ) → slice_index lower cell ≡ next → LeadsTo lower cell next
leads-step lower cell next h = (suc zero, h)

pub ends-stay : (lower : List ℕ) (root : ℕ) → slice_index lower root ≡ root → (steps : ℕ) → ascend lower steps root ≡ root
ends-stay lower root end zero = refl
ends-stay lower root end (suc steps) = ap (ascend lower steps) end ∙ ends-stay lower root end steps

-- two ways from one cell, the second to an end: what the first comes to leads there too
pub leads-on : (lower : List ℕ) (cell one root : ℕ) → slice_index lower root ≡ root → LeadsTo lower cell one → LeadsTo lower cell root → LeadsTo lower one root
leads-on lower cell one root end first second = by first.0 second.0 cell first.1 second.1
  where
    by : (steps others cell : ℕ) → ascend lower steps cell ≡ one → ascend lower others cell ≡ root → LeadsTo lower one root
    by zero others cell up other = (others, ap (ascend lower others) (sym up) ∙ other)
    by (suc steps) zero cell up other =
        let here : ascend lower (suc steps) root ≡ root = ends-stay lower root end (suc steps) in
        (zero, sym up ∙ ap (ascend lower (suc steps)) other ∙ here)
    by (suc steps) (suc others) cell up other = by steps others (slice_index lower cell) up other

less_or_same : (a b : ℕ) → a ≤ b → (a < b) ⊎ (a ≡ b)
less_or_same a b h = grind arith

-- the end that a cell leads to
abbrev End : List ℕ → ℕ → Type 0
End lower cell = (root : ℕ) × LeadsTo lower cell root × (slice_index lower root ≡ root)

end-within : (lower : List ℕ) → ((cell : ℕ) → slice_index lower cell ≤ cell) → (most cell : ℕ) → cell ≤ most → End lower cell
end-within lower falls zero cell h = let under = falls cell in let same : slice_index lower cell ≡ cell = omega (arith, h, under) in (cell, (zero, refl), same)
end-within lower falls (suc most) cell h = split (λ less. end-within lower falls most (slice_index lower cell) (omega (arith, less, h))) (less_or_same (slice_index lower cell) cell (falls cell))
  where
    split : (slice_index lower cell < cell → End lower (slice_index lower cell)) → (slice_index lower cell < cell) ⊎ (slice_index lower cell ≡ cell) → End lower cell
    split more (inl less) = let rest = more less in (rest.0, (suc rest.1.0, rest.1.1), rest.2)
    split more (inr same) = (cell, (zero, refl), same)

-- each cell leads to an end
pub leads-to_end : (lower : List ℕ) → ((cell : ℕ) → slice_index lower cell ≤ cell) → (cell : ℕ) → (root : ℕ) × LeadsTo lower cell root × (slice_index lower root ≡ root)
leads-to_end lower falls cell = end-within lower falls cell cell (omega arith)

-- ---- meeting

pub meet-turned : (lower : List ℕ) (one other : ℕ) → Meet lower one other → Meet lower other one
meet-turned lower one other h = (h.0, h.2, h.1)

pub meet-same : (lower : List ℕ) (one other : ℕ) → one ≡ other → Meet lower one other
meet-same lower one other same = (other, (zero, same), (zero, refl))

pub meet-then : (lower : List ℕ) → ((cell : ℕ) → slice_index lower cell ≤ cell) → (one two three : ℕ) → Meet lower one two → Meet lower two three → Meet lower one three
meet-then lower falls one two three first second =
    let end = leads-to_end lower falls two in
    let left = leads-on lower two first.0 end.0 end.2 first.2 end.1 in
    let right = leads-on lower two second.0 end.0 end.2 second.1 end.1 in
    (end.0, leads-then lower one first.0 end.0 first.1 left, leads-then lower three second.0 end.0 second.2 right)

-- ---- a new link, from an end to another cell

-- what steps led to, they still lead to
pub leads-kept : (lower : List ℕ) (root next : ℕ) → slice_index lower root ≡ root → (cell there : ℕ) → LeadsTo lower cell there → LeadsTo (slice_set lower root next) cell there
leads-kept lower root next end cell there h = by h.0 cell h.1
  where
    by : (steps cell : ℕ) → ascend lower steps cell ≡ there → LeadsTo (slice_set lower root next) cell there
    by zero cell same = (zero, same)
    by (suc steps) cell up =
        elim (cell == root) as (λ b. (cell == root) ≡ b → LeadsTo (slice_set lower root next) cell there) [
          | true ↦ λ is.
              let same : cell ≡ root = (Decides-eqb cell root).0 is in
              (zero, same ∙ sym (ends-stay lower root end (suc steps)) ∙ ap (ascend lower (suc steps)) (sym same) ∙ up)
          | false ↦ λ is.
              let apart : cell ≢ root = λ same. absurd (differ is ((Decides-eqb cell root).1 same)) in
              let here : slice_index (slice_set lower root next) cell ≡ slice_index lower cell = get_or-set_other lower root cell next 0 apart in
              let rest = by steps (slice_index lower cell) up in
              (suc rest.0, ap (ascend (slice_set lower root next) rest.0) here ∙ rest.1)
        ] refl
      where
        differ : {b : Bool} → b ≡ false → b ≡ true → ⊥
        differ one other = absurd cc

pub meet-kept : (lower : List ℕ) (root next : ℕ) → slice_index lower root ≡ root → (one other : ℕ) → Meet lower one other → Meet (slice_set lower root next) one other
meet-kept lower root next end one other h = (h.0, leads-kept lower root next end one h.0 h.1, leads-kept lower root next end other h.0 h.2)

-- the cells that lead to either end meet
pub meet-joined : (lower : List ℕ) (root next one other : ℕ) → root < length lower → slice_index lower root ≡ root → LeadsTo lower one root → LeadsTo lower other next → Meet (slice_set lower root next) one other
meet-joined lower root next one other inside end first second =
    let link : LeadsTo (slice_set lower root next) root next = leads-step (slice_set lower root next) root next (get_or-set_same lower root next 0 inside) in
    (next, leads-then (slice_set lower root next) one root next (leads-kept lower root next end one root first) link, leads-kept lower root next end other next second)

-- steps lead to cells that relations link
pub leads-linked : (relations : List Relation) (flags : List Bool) (cells : ℕ) (lower : List ℕ) → IsForest relations flags cells lower → (cell root : ℕ) → cell < cells → LeadsTo lower cell root → AreLinked relations flags cell root
leads-linked relations flags cells lower is cell root inside h = by h.0 cell inside h.1
  where
    by : (steps cell : ℕ) → cell < cells → ascend lower steps cell ≡ root → AreLinked relations flags cell root
    by zero cell inside same = linked-same relations flags cell root same
    by (suc steps) cell inside up =
        let under = is.falls cell in
        linked-then relations flags cell (slice_index lower cell) root (is.links cell inside) (by steps (slice_index lower cell) (omega (arith, under, inside)) up)

pub meet-linked : (relations : List Relation) (flags : List Bool) (cells : ℕ) (lower : List ℕ) → IsForest relations flags cells lower → (one other : ℕ) → one < cells → other < cells → Meet lower one other → AreLinked relations flags one other
meet-linked relations flags cells lower is one other inside within h =
    linked-then relations flags one h.0 other (leads-linked relations flags cells lower is one h.0 inside h.1) (linked-turned relations flags other h.0 (leads-linked relations flags cells lower is other h.0 within h.2))

differ : {b : Bool} → b ≡ false → b ≡ true → ⊥
differ one other = absurd cc

lt_or_le : (a b : ℕ) → (a < b) ⊎ (b ≤ a)
lt_or_le a b = grind arith

-- a cell that points to another lower one
pub falls-set : (lower : List ℕ) (root next : ℕ) → ((cell : ℕ) → slice_index lower cell ≤ cell) → next ≤ root → (cell : ℕ) → slice_index (slice_set lower root next) cell ≤ cell
falls-set lower root next falls under cell =
    elim (cell == root) as (λ b. (cell == root) ≡ b → slice_index (slice_set lower root next) cell ≤ cell) [
      | true ↦ λ is_root.
          let same : cell ≡ root = (Decides-eqb cell root).0 is_root in
          at (lt_or_le root (length lower)) cell same
      | false ↦ λ other.
          let apart : cell ≢ root = λ same. absurd (differ other ((Decides-eqb cell root).1 same)) in
          let here : slice_index (slice_set lower root next) cell ≡ slice_index lower cell = get_or-set_other lower root cell next 0 apart in
          let old = falls cell in
          omega (arith, here, old)
    ] refl
  where
    at : (root < length lower) ⊎ (length lower ≤ root) → (cell : ℕ) → cell ≡ root → slice_index (slice_set lower root next) cell ≤ cell
    at (inl inside) cell same =
        let here : slice_index (slice_set lower root next) root ≡ next = get_or-set_same lower root next 0 inside in
        let there : slice_index (slice_set lower root next) cell ≡ slice_index (slice_set lower root next) root = ap (slice_index (slice_set lower root next)) same in
        omega (arith, here, there, same, under)
    at (inr past) cell same =
        let kept : slice_index (slice_set lower root next) cell ≡ slice_index lower cell = ap (λ list. slice_index list cell) (set_past lower root next past) in
        let old = falls cell in
        omega (arith, kept, old)

-- a cell that points to another lower one, which relations link to it
pub forest-set : (relations : List Relation) (flags : List Bool) (cells : ℕ) (lower : List ℕ) (root next : ℕ) → IsForest relations flags cells lower → next ≤ root → AreLinked relations flags root next → IsForest relations flags cells (slice_set lower root next)
forest-set relations flags cells lower root next is under linked = record {
  each = length-set lower root next ∙ is.each;
  falls = falls-set lower root next is.falls under;
  links = to;
}
  where
    to : (cell : ℕ) → cell < cells → AreLinked relations flags cell (slice_index (slice_set lower root next) cell)
    to cell inside =
        elim (cell == root) as (λ b. (cell == root) ≡ b → AreLinked relations flags cell (slice_index (slice_set lower root next) cell)) [
          | true ↦ λ is_root.
              let same : cell ≡ root = (Decides-eqb cell root).0 is_root in
              let each : length lower ≡ cells = is.each in
              let here : slice_index (slice_set lower root next) root ≡ next = get_or-set_same lower root next 0 (omega (arith, same, inside, each)) in
              subst (λ one. AreLinked relations flags one (slice_index (slice_set lower root next) one)) (sym same) (subst (λ there. AreLinked relations flags root there) (sym here) linked)
          | false ↦ λ other.
              let apart : cell ≢ root = λ same. absurd (differ other ((Decides-eqb cell root).1 same)) in
              subst (λ there. AreLinked relations flags cell there) (sym (get_or-set_other lower root cell next 0 apart)) (is.links cell inside)
        ] refl

-- a cell that meets an end leads to it
pub meet-end : (lower : List ℕ) (root cell : ℕ) → slice_index lower root ≡ root → Meet lower cell root → LeadsTo lower cell root
meet-end lower root cell end h = let same : h.0 ≡ root = sym h.2.1 ∙ ends-stay lower root end h.2.0 in subst (LeadsTo lower cell) same h.1
