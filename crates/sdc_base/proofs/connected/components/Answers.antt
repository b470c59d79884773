use Rattle.std.proofs.Common.{◌≡◌, ◌<◌, ℕ, List, Bool, true, length, slice_index, ap, arith, sym, subst, ◌∙◌}
use Rattle.sdc_base.specs.HiddenSets.{is_hidden}
use Rattle.sdc_base.specs.Components.{AreComponents}
use Rattle.sdc_base.specs.Forests.{AreNumbered}
use Rattle.sdc_base.specs.declared.connected.Grouping.{Grouping}
use Rattle.sdc_base.proofs.Connecting.{both-Ok, components-are, hidden-inside, linked-hidden}
use Rattle.sdc_base.proofs.connected.components.Goals as goal

pub group-requires-clause-hidden : goal.group-requires-clause-hidden
group-requires-clause-hidden c = λ cell hidden.
    let s = c.args.system.now in
    let flags = c.as_slice-flags.result.now in
    let long : length flags ≡ s.cells = ap (λ (list : List Bool). length list) c.as_slice-flags.ensures ∙ c.requires.each in
    let inside : cell < s.cells = omega (arith, long, hidden-inside flags cell hidden) in
    subst (λ (lower : List ℕ). is_hidden flags (slice_index lower cell) ≡ true) (sym c.as_slice.ensures.value)
    (linked-hidden s.relations flags cell (slice_index c.in_ok-lower.lower.items cell) (c.in_ok-lower.ensures.forest.links cell inside) hidden)

pub returns : goal.returns
returns c =
    let s = c.args.system.now in
    let flags = c.as_slice-flags.result.now in
    let lower = c.in_ok-lower.lower.items in
    let long : length flags ≡ s.cells = ap (λ (list : List Bool). length list) c.as_slice-flags.ensures ∙ c.requires.each in
    both-Ok c.group.result (λ (grouping : Grouping). AreNumbered flags c.as_slice.result.now grouping.of grouping.sizes) (λ (grouping : Grouping). length grouping.of ≡ s.cells)
    (λ (grouping : Grouping). AreComponents s.relations c.args.hidden.now.flags grouping.of grouping.sizes)
    (λ grouping numbered each.
    let here : AreNumbered flags lower grouping.of grouping.sizes = subst (λ (list : List ℕ). AreNumbered flags list grouping.of grouping.sizes) c.as_slice.ensures.value numbered in
    subst (λ (list : List Bool). AreComponents s.relations list grouping.of grouping.sizes) c.as_slice-flags.ensures
    (components-are s.relations flags s.cells lower grouping.of grouping.sizes c.in_ok-lower.ensures.forest c.in_ok-lower.ensures.joined here each long))
    c.group.ensures.numbered c.group.ensures.each
