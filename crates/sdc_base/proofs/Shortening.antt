-- A cell that is let point past the next one.
use Rattle.std.proofs.Common.{◌≡◌, ◌≢◌, ℕ, zero, suc, ◌<◌, ◌≤◌, ◌==◌, Bool, true, false, List, length, slice_index, slice_set, ◌⊎◌, inl, inr, arith, refl, ap, sym, ◌∙◌, subst}
use Rattle.std.proofs.lemmas.Bool.Decides.{Decides-eqb}
use Rattle.std.proofs.lemmas.List.{get_or-set_other, get_or-set_same}
use Rattle.sdc_base.specs.declared.relation.Relation.{Relation}
use Rattle.sdc_base.specs.Components.{AreLinked}
use Rattle.sdc_base.specs.Forests.{ascend, IsForest, LeadsTo, Meet}
use Rattle.sdc_base.proofs.Chains.{linked-then}
use Rattle.sdc_base.proofs.Forest.{ends-stay, forest-set, leads-on, leads-then, leads-to_end}

-- a cell points to another one, which is lower, and that one to a third
pub record PointsPast (lower : List ℕ) (cell past : ℕ) : Type 0 where
  pub inside : cell < length lower
  pub lower_next : slice_index lower cell < cell
  pub then_past : slice_index lower (slice_index lower cell) ≡ past

differ : {b : Bool} → b ≡ false → b ≡ true → ⊥
differ one other = absurd cc

not-end : (lower : List ℕ) (cell past root : ℕ) → PointsPast lower cell past → slice_index lower root ≡ root → root ≢ cell
not-end lower cell past root is end same = let there : slice_index lower root ≡ slice_index lower cell = ap (slice_index lower) same in let low = is.lower_next in absurd (omega (arith, end, there, same, low))

-- ends stay ends
pub ends-past : (lower : List ℕ) (cell past root : ℕ) → PointsPast lower cell past → slice_index lower root ≡ root → slice_index (slice_set lower cell past) root ≡ root
ends-past lower cell past root is end = get_or-set_other lower cell root past 0 (not-end lower cell past root is end) ∙ end

-- what leads to the cell leads past
pub leads-past : (lower : List ℕ) (cell past from : ℕ) → PointsPast lower cell past → LeadsTo lower from cell → LeadsTo (slice_set lower cell past) from past
leads-past lower cell past from is h = by h.0 from h.1
  where
    here : LeadsTo (slice_set lower cell past) cell past
    here = (suc zero, get_or-set_same lower cell past 0 is.inside)

    by : (steps from : ℕ) → ascend lower steps from ≡ cell → LeadsTo (slice_set lower cell past) from past
    by zero from same = subst (λ one. LeadsTo (slice_set lower cell past) one past) (sym same) here
    by (suc steps) from up = split (by steps (slice_index lower from) up)
      where
        split : LeadsTo (slice_set lower cell past) (slice_index lower from) past → LeadsTo (slice_set lower cell past) from past
        split rest =
            elim (from == cell) as (λ b. (from == cell) ≡ b → LeadsTo (slice_set lower cell past) from past) [
              | true ↦ λ it_is. let same : from ≡ cell = (Decides-eqb from cell).0 it_is in subst (λ one. LeadsTo (slice_set lower cell past) one past) (sym same) here
              | false ↦ λ other.
                  let apart : from ≢ cell = λ same. absurd (differ other ((Decides-eqb from cell).1 same)) in
                  let step : slice_index (slice_set lower cell past) from ≡ slice_index lower from = get_or-set_other lower cell from past 0 apart in
                  (suc rest.0, ap (ascend (slice_set lower cell past) rest.0) step ∙ rest.1)
            ] refl

less_or_same : (a b : ℕ) → a ≤ b → (a < b) ⊎ (a ≡ b)
less_or_same a b h = grind arith

-- what led to an end leads there still
end-within : (lower : List ℕ) (cell past root : ℕ) → ((one : ℕ) → slice_index lower one ≤ one) → PointsPast lower cell past → slice_index lower root ≡ root → (most from : ℕ) → from ≤ most → LeadsTo lower from root → LeadsTo (slice_set lower cell past) from root
end-within lower cell past root falls is end zero from h leads =
    let low = falls from in
    let itself : slice_index lower from ≡ from = omega (arith, low, h) in
    (zero, sym (ends-stay lower from itself leads.0) ∙ leads.1)
end-within lower cell past root falls is end (suc most) from h leads =
    split (less_or_same (slice_index lower from) from (falls from)) (λ one under. end-within lower cell past root falls is end most one (omega (arith, under, h)))
  where
    twice : LeadsTo lower cell past
    twice = (suc (suc zero), is.then_past)

    split : (slice_index lower from < from) ⊎ (slice_index lower from ≡ from) → ((one : ℕ) → one < from → LeadsTo lower one root → LeadsTo (slice_set lower cell past) one root) → LeadsTo (slice_set lower cell past) from root
    split (inr itself) more = (zero, sym (ends-stay lower from itself leads.0) ∙ leads.1)
    split (inl less) more =
        elim (from == cell) as (λ b. (from == cell) ≡ b → LeadsTo (slice_set lower cell past) from root) [
          | true ↦ λ it_is.
              let same : from ≡ cell = (Decides-eqb from cell).0 it_is in
              let from_cell : LeadsTo lower cell root = subst (λ one. LeadsTo lower one root) same leads in
              let low = falls (slice_index lower cell) in
              let next = is.lower_next in
              let past_is = is.then_past in
              let rest = more past (omega (arith, same, low, next, past_is)) (leads-on lower cell past root end twice from_cell) in
              let here : LeadsTo (slice_set lower cell past) cell past = (suc zero, get_or-set_same lower cell past 0 is.inside) in
              subst (λ one. LeadsTo (slice_set lower cell past) one root) (sym same) (leads-then (slice_set lower cell past) cell past root here rest)
          | false ↦ λ other.
              let apart : from ≢ cell = λ same. absurd (differ other ((Decides-eqb from cell).1 same)) in
              let step : slice_index (slice_set lower cell past) from ≡ slice_index lower from = get_or-set_other lower cell from past 0 apart in
              let once : LeadsTo lower from (slice_index lower from) = (suc zero, refl) in
              let rest = more (slice_index lower from) less (leads-on lower from (slice_index lower from) root end once leads) in
              (suc rest.0, ap (ascend (slice_set lower cell past) rest.0) step ∙ rest.1)
        ] refl

-- the cells that met meet still
pub meet-past : (lower : List ℕ) (cell past : ℕ) → ((one : ℕ) → slice_index lower one ≤ one) → PointsPast lower cell past → (one other : ℕ) → Meet lower one other → Meet (slice_set lower cell past) one other
meet-past lower cell past falls is one other h =
    let end = leads-to_end lower falls h.0 in
    let first = leads-then lower one h.0 end.0 h.1 end.1 in
    let second = leads-then lower other h.0 end.0 h.2 end.1 in
    (end.0, end-within lower cell past end.0 falls is end.2 one one (omega arith) first, end-within lower cell past end.0 falls is end.2 other other (omega arith) second)

-- and each cell still points to one that relations link to it
pub forest-past : (relations : List Relation) (flags : List Bool) (cells : ℕ) (lower : List ℕ) (cell past : ℕ) → PointsPast lower cell past → IsForest relations flags cells lower → IsForest relations flags cells (slice_set lower cell past)
forest-past relations flags cells lower cell past is forest =
    let low = forest.falls (slice_index lower cell) in
    let next = is.lower_next in
    let past_is = is.then_past in
    let each = forest.each in
    let inside = is.inside in
    forest-set relations flags cells lower cell past forest (omega (arith, low, next, past_is))
    (linked-then relations flags cell (slice_index lower cell) past (forest.links cell (omega (arith, inside, each)))
    (subst (λ there. AreLinked relations flags (slice_index lower cell) there) past_is (forest.links (slice_index lower cell) (omega (arith, inside, each, next)))))
