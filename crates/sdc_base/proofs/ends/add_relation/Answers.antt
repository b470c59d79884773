use Rattle.std.proofs.Common.{◌≡◌, ◌<◌, ◌≤◌, ◌==◌, ◌&&◌, not, ℕ, Bool, true, false, List, length, take, slice_get, slice_index_or, All, arith, refl, sym, subst, ◌∙◌, None, Some, ◌+◌}
use Rattle.std.proofs.lemmas.List.{take_all}
use Rattle.sdc_base.specs.Ends.{IsCounting, ends_at, with_end}
use Rattle.sdc_base.specs.Forms.{count_of}
use Rattle.sdc_base.specs.Systems.{NamesCells}
use Rattle.sdc_base.specs.declared.ends.Ends.{Ends}
use Rattle.sdc_base.specs.declared.relation.Relation.{Relation}
use Rattle.sdc_base.proofs.EndLemmas.{IsMet, last-met, last-total, met-first, met-on, own, part-refused, step-met, step-part, total-refused}
use Rattle.sdc_base.proofs.WeakDual.{All-found}
use Rattle.sdc_base.proofs.ends.add_relation.Goals as goal

whole-parts : (parts all : List ℕ) (k : ℕ) → parts ≡ all → length parts ≤ k → take k parts ≡ all
whole-parts parts all k same far = take_all k parts far ∙ same

pub parts-preserved-then-meets_total : goal.parts-preserved-then-meets_total
parts-preserved-then-meets_total c =
    let parts = c.as_slice-part-items.result.now in
    let k = c.parts.part-index in
    let r = c.args.relation.now in
    let test = sym c.meets_total.ensures ∙ c.if-meets_total.true in
    record {
      each = c.parts.invariant.each;
      counting = step-met c.args.system.now.relations c.args.number r.total k parts c.parts.ends.items c.parts.met c.parts-test.true test c.parts.invariant.counting;
      is_met = met-first c.parts.met r.total k parts c.parts-test.true test;
    }

part-known : (cells ends k : ℕ) (relations : List Relation) (number : ℕ) (r : Relation) (parts : List ℕ) → All (NamesCells cells) relations → slice_get relations number ≡ Some r → parts ≡ r.parts → k < length parts → ends ≡ cells → slice_index_or parts k 0 < ends
part-known cells ends k relations number r parts named at same inside each =
    rw (same, each) ((All-found (NamesCells cells) relations number r named at).parts_named k 0 (subst (λ (list : List ℕ). k < length list) same inside))

pub add_end-requires : goal.add_end-requires
add_end-requires c =
    let s = c.args.system.now in
    record { known = part-known s.cells (length c.parts.ends.items) c.parts.part-index s.relations c.args.number c.args.relation.now c.as_slice-part-items.result.now s.named c.requires.at c.as_slice-part-items.ensures c.parts-test.true c.parts.invariant.each }

pub returns-then-not-add_end-clause-none : goal.returns-then-not-add_end-clause-none
returns-then-not-add_end-clause-none c = λ _.
    let s = c.args.system.now in
    let r = c.args.relation.now in
    let k = c.parts.part-index in
    let same : c.as_slice-part-items.result.now ≡ r.parts = c.as_slice-part-items.ensures in
    part-refused s.relations c.args.number k r c.parts.ends.items c.parts.met c.requires.at
    (subst (λ (list : List ℕ). k < length list) same c.parts-test.true)
    (subst (λ (list : List ℕ). (not c.parts.met && (slice_index_or list k 0 == r.total)) ≡ false) same (sym c.meets_total.ensures ∙ c.if-meets_total.false))
    (subst (λ (list : List ℕ). with_end (ends_at c.parts.ends.items (slice_index_or list k 0)) (record { relation = c.args.number; plus = false }) ≡ None) same (c.if-not-add_end.ensures.none refl))
    (subst (λ (list : List ℕ). IsCounting s.relations c.args.number (own c.parts.met r.total (take k list)) c.parts.ends.items) same c.parts.invariant.counting)
    (subst (λ (list : List ℕ). IsMet c.parts.met r.total (take k list)) same c.parts.invariant.is_met)

pub parts-preserved : goal.parts-preserved
parts-preserved c =
    let s = c.args.system.now in
    let r = c.args.relation.now in
    let k = c.parts.part-index in
    let parts = c.as_slice-part-items.result.now in
    let known = part-known s.cells (length c.parts.ends.items) k s.relations c.args.number r parts s.named c.requires.at c.as_slice-part-items.ensures c.parts-test.true c.parts.invariant.each in
    let done = c.if-not-add_end.ensures.joined refl in
    record {
      each = c.if-not-add_end.ensures.each ∙ c.parts.invariant.each;
      counting = subst (λ (list : List Ends). IsCounting s.relations c.args.number (own c.parts.met r.total (take (k + 1) parts)) list) (sym done.2)
          (step-part s.relations c.args.number r.total k parts c.parts.ends.items c.parts.met done.0 c.parts-test.true known done.1 c.parts.invariant.counting);
      is_met = met-on c.parts.met r.total parts k c.parts-test.true (sym c.meets_total.ensures ∙ c.if-meets_total.false) c.parts.invariant.is_met;
    }

pub returns-then-met-clause-counting : goal.returns-then-met-clause-counting
returns-then-met-clause-counting c = λ _.
    let s = c.args.system.now in
    let r = c.args.relation.now in
    let parts = c.as_slice-part-items.result.now in
    last-met s.relations c.args.number r c.parts.ends.items
    (subst (λ (list : List ℕ). IsCounting s.relations c.args.number (own true r.total list) c.parts.ends.items) (whole-parts parts r.parts c.parts.part-index c.as_slice-part-items.ensures (omega (arith, c.parts-test.false)))
    (subst (λ (met : Bool). IsCounting s.relations c.args.number (own met r.total (take c.parts.part-index parts)) c.parts.ends.items) c.if-met.true c.parts.invariant.counting))

total-known : (cells : ℕ) (relations : List Relation) (number : ℕ) (r : Relation) → All (NamesCells cells) relations → slice_get relations number ≡ Some r → r.total < cells
total-known cells relations number r named at = (All-found (NamesCells cells) relations number r named at).total_named

pub add_end-requires-2 : goal.add_end-requires-2
add_end-requires-2 c =
    let s = c.args.system.now in
    record { known = omega (arith, total-known s.cells s.relations c.args.number c.args.relation.now s.named c.requires.at, c.parts.invariant.each) }

pub returns-clause-counting : goal.returns-clause-counting
returns-clause-counting c = λ held.
    let s = c.args.system.now in
    let r = c.args.relation.now in
    let parts = c.as_slice-part-items.result.now in
    let done = c.add_end-2.ensures.joined held in
    subst (λ (list : List Ends). IsCounting s.relations c.args.number (count_of r) list) (sym done.2)
    (last-total s.relations c.args.number r c.parts.ends.items done.0 (omega (arith, total-known s.cells s.relations c.args.number r s.named c.requires.at, c.parts.invariant.each)) done.1
    (subst (λ (list : List ℕ). IsCounting s.relations c.args.number (own false r.total list) c.parts.ends.items) (whole-parts parts r.parts c.parts.part-index c.as_slice-part-items.ensures (omega (arith, c.parts-test.false)))
    (subst (λ (met : Bool). IsCounting s.relations c.args.number (own met r.total (take c.parts.part-index parts)) c.parts.ends.items) c.if-met.false c.parts.invariant.counting)))

pub returns-clause-none : goal.returns-clause-none
returns-clause-none c = λ held.
    let s = c.args.system.now in
    let r = c.args.relation.now in
    let parts = c.as_slice-part-items.result.now in
    let whole = whole-parts parts r.parts c.parts.part-index c.as_slice-part-items.ensures (omega (arith, c.parts-test.false)) in
    total-refused s.relations c.args.number r c.parts.ends.items c.requires.at (c.add_end-2.ensures.none held)
    (subst (λ (list : List ℕ). IsCounting s.relations c.args.number (own false r.total list) c.parts.ends.items) whole
    (subst (λ (met : Bool). IsCounting s.relations c.args.number (own met r.total (take c.parts.part-index parts)) c.parts.ends.items) c.if-met.false c.parts.invariant.counting))
    (subst (λ (list : List ℕ). IsMet false r.total list) whole (subst (λ (met : Bool). IsMet met r.total (take c.parts.part-index parts)) c.if-met.false c.parts.invariant.is_met))
