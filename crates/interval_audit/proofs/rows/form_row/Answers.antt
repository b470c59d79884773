use Rattle.std.proofs.Common.{◌≡◌, ◌∙◌, ◌<◌, length, sym, subst, All, FitsSigned}
use Rattle.std.specs.Int.{w128}
use Rattle.std.proofs.lemmas.Int.{to_z-of_z}
use Rattle.sdc_base.specs.Forms.{Term, form_times}
use Rattle.interval_audit.specs.FormSigns.{IsFormSign}
use Rattle.interval_audit.proofs.CellSums.{form_named}
use Rattle.interval_audit.proofs.Counting.{form_ones}
use Rattle.interval_audit.proofs.rows.form_row.Goals as goal

pub entries_of-requires-clause-signs : goal.entries_of-requires-clause-signs
entries_of-requires-clause-signs c =
    let fits : FitsSigned w128 c.args.times = c.ranges.times in
    let told = simp to_z-of_z at c.in_ok-terms.ensures in
    let is : c.as_slice.result.now ≡ form_times c.args.times c.args.relation.now = c.as_slice.ensures.value ∙ told in
    subst (λ ts. All (λ (t : Term). IsFormSign t.1) ts) (sym is) (form_ones c.args.times c.args.relation.now c.requires.one)

pub entries_of-requires-clause-named : goal.entries_of-requires-clause-named
entries_of-requires-clause-named c =
    let fits : FitsSigned w128 c.args.times = c.ranges.times in
    let told = simp to_z-of_z at c.in_ok-terms.ensures in
    let is : c.as_slice.result.now ≡ form_times c.args.times c.args.relation.now = c.as_slice.ensures.value ∙ told in
    subst (λ ts. All (λ (t : Term). t.0 < length c.args.scratch.now) ts) (sym is) (form_named c.args.times c.args.relation.now (length c.args.scratch.now) c.requires.named)
