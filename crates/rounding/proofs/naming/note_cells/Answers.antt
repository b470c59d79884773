use Rattle.std.proofs.Common.{◌≡◌, ◌∙◌, ℕ, [], List, get_or, arith, ap, sym, subst, inl, inr}
use Rattle.std.proofs.lemmas.Bool.{cases_lt}
use Rattle.rounding.specs.Namings.{IsNotIn}
use Rattle.rounding.proofs.NamingSteps.{noted_then, whole_noted}
use Rattle.rounding.proofs.naming.note_cells.Goals as goal

pub parts-preserved : goal.parts-preserved
parts-preserved c =
    let n = c.args.number in
    let parts = c.args.relation.now.parts in
    let more = c.in_ok-note-2.ensures.more in
    let after = c.note-in-parts.new.naming.items in
    record {
      more = noted_then n c.args.naming.now.items c.parts.naming.items after c.parts.invariant.more more;
      total = λ lacks. c.parts.invariant.total (more.stays c.args.relation.now.total n lacks);
      parts = λ k below lacks.
          elim (cases_lt k c.parts.part-index) as (λ _. ⊥) [
            | inl less ↦ c.parts.invariant.parts k less (more.stays (get_or parts k 0) n lacks)
            | inr not_less ↦
                let last : k ≡ c.parts.part-index = omega arith in
                c.in_ok-note-2.ensures.here (subst (λ (cell : ℕ). IsNotIn (get_or after cell []) n) (ap (λ (j : ℕ). get_or parts j 0) last ∙ ap (λ (ps : List ℕ). get_or ps c.parts.part-index 0) (sym c.as_slice-part-items.ensures)) lacks)
          ];
    }

pub returns-clause-all_cells_noted : goal.returns-clause-all_cells_noted
returns-clause-all_cells_noted c = whole_noted c.args.number c.args.relation.now c.as_slice-part-items.result.now c.parts.naming.items c.parts.part-index c.as_slice-part-items.ensures c.parts-test.false c.parts.invariant.total c.parts.invariant.parts
