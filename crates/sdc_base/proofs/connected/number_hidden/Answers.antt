use Rattle.std.proofs.Common.{◌≡◌, ◌++◌, ◌∷◌, [], ℕ, List, None, Some, true, length, slice_index, ap, arith, subst, sym, ◌∙◌}
use Rattle.sdc_base.specs.HiddenSets.{is_hidden}
use Rattle.sdc_base.specs.Components.{component, is_of}
use Rattle.sdc_base.specs.Forests.{AreNumbered}
use Rattle.sdc_base.proofs.Numbering.{count-most, numbered-begun, numbered-joined, points-itself, some-inside}
use Rattle.sdc_base.proofs.connected.number_hidden.Goals as goal

pub returns-in_default : goal.returns-in_default
returns-in_default c =
    let flags = c.args.flags.now in
    let lower = c.args.lower.now in
    let of = c.args.of.now in
    let sizes = c.args.sizes.now.items in
    let hidden : is_hidden flags (length of) ≡ true = ap (is_hidden flags) (sym c.requires.next) ∙ c.requires.this_hidden in
    let none : component of (slice_index lower (length of)) ≡ None = ap (λ (cell : ℕ). component of (slice_index lower cell)) (sym c.requires.next) ∙ sym c.in_default.ensures in
    let itself = points-itself flags lower of sizes c.requires.numbered c.requires.falls (c.requires.hidden (length of) hidden) none in
    let begun = numbered-begun flags lower of sizes c.requires.numbered c.requires.falls hidden itself in
    let number : length sizes ≡ c.len-number.result = sym (c.len-number.ensures ∙ c.args.sizes.now.ok.0) in
    subst (λ (new : List ℕ). AreNumbered flags lower (of ++ Some c.len-number.result ∷ []) new) (sym c.in_ok-push.ensures.items)
    (subst (λ (n : ℕ). AreNumbered flags lower (of ++ Some n ∷ []) (sizes ++ 1 ∷ [])) number begun)

pub count_in-requires-clause-room : goal.count_in-requires-clause-room
count_in-requires-clause-room c =
    let of = c.args.of.now in
    omega (arith, c.requires.fewer_than_2_32, c.requires.next, c.requires.numbered.counted c.in-Some.number, count-most (is_of c.in-Some.number) of)

pub returns : goal.returns
returns c =
    let flags = c.args.flags.now in
    let lower = c.args.lower.now in
    let of = c.args.of.now in
    let sizes = c.args.sizes.now.items in
    let number = c.in-Some.number in
    let hidden : is_hidden flags (length of) ≡ true = ap (is_hidden flags) (sym c.requires.next) ∙ c.requires.this_hidden in
    let some : component of (slice_index lower (length of)) ≡ Some number = ap (λ (cell : ℕ). component of (slice_index lower cell)) (sym c.requires.next) ∙ sym c.in-Some.ensures in
    subst (λ (new : List ℕ). AreNumbered flags lower (of ++ Some number ∷ []) new) (sym c.count_in.ensures)
    (numbered-joined flags lower of sizes number c.requires.numbered c.requires.falls hidden (some-inside of (slice_index lower (length of)) number some) some)
