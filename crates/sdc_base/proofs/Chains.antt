-- Chains of related cells, joined and turned round.
use Rattle.std.proofs.Common.{◌≡◌, ℕ, zero, suc, Bool, List, refl, sym, subst}
use Rattle.sdc_base.specs.declared.relation.Relation.{Relation}
use Rattle.sdc_base.specs.Components.{AreRelated, IsChain, AreLinked}

pub related-turned : (relations : List Relation) (flags : List Bool) (one other : ℕ) → AreRelated relations flags one other → AreRelated relations flags other one
related-turned relations flags one other h =
    record { one_hidden = h.other_hidden; other_hidden = h.one_hidden; number = h.number; relation = h.relation; at = h.at; names_one = h.names_other; names_other = h.names_one }

pub linked-same : (relations : List Relation) (flags : List Bool) (one other : ℕ) → one ≡ other → AreLinked relations flags one other
linked-same relations flags one other same = (zero, same)

pub linked-related : (relations : List Relation) (flags : List Bool) (one other : ℕ) → AreRelated relations flags one other → AreLinked relations flags one other
linked-related relations flags one other h = (suc zero, (other, h, refl))

chain-then : (relations : List Relation) (flags : List Bool) (steps one two three : ℕ) → IsChain relations flags steps one two → AreLinked relations flags two three → AreLinked relations flags one three
chain-then relations flags zero one two three same more = subst (λ cell. AreLinked relations flags cell three) (sym same) more
chain-then relations flags (suc steps) one two three chain more =
    let rest = chain-then relations flags steps chain.0 two three chain.2 more in (suc rest.0, (chain.0, chain.1, rest.1))

pub linked-then : (relations : List Relation) (flags : List Bool) (one two three : ℕ) → AreLinked relations flags one two → AreLinked relations flags two three → AreLinked relations flags one three
linked-then relations flags one two three first second = chain-then relations flags first.0 one two three first.1 second

chain-turned : (relations : List Relation) (flags : List Bool) (steps one other : ℕ) → IsChain relations flags steps one other → AreLinked relations flags other one
chain-turned relations flags zero one other same = linked-same relations flags other one (sym same)
chain-turned relations flags (suc steps) one other chain =
    linked-then relations flags other chain.0 one (chain-turned relations flags steps chain.0 other chain.2) (linked-related relations flags chain.0 one (related-turned relations flags one chain.0 chain.1))

pub linked-turned : (relations : List Relation) (flags : List Bool) (one other : ℕ) → AreLinked relations flags one other → AreLinked relations flags other one
linked-turned relations flags one other h = chain-turned relations flags h.0 one other h.1
