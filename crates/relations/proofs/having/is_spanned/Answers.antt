use Rattle.std.proofs.Common.{◌≡◌, ◌<◌, ◌+◌, ◌||◌, true, false, Bool, [], drop, length, slice_get, arith, ap, sym, refl, ◌∙◌}
use Rattle.std.specs.List.{list_any}
use Rattle.std.specs.Option.{option_map_or}
use Rattle.relations.specs.Having.{has_spanned}
use Rattle.sdc_base.proofs.GrowingLists.{any-next}
use Rattle.relations.proofs.having.is_spanned.Goals as goal

pub returns-then-has_spanned : goal.returns-then-has_spanned
returns-then-has_spanned c =
    let book = c.args.book.now in
    let test = has_spanned book.trees c.args.name.now c.args.variable in
    let inside : c.tables.t < length book.tables = omega (arith, c.tables-test.true, c.tables-t-end.ensures) in
    let here : option_map_or test (slice_get book.tables c.tables.t) false ≡ true = sym c.has_spanned.ensures ∙ c.if-has_spanned.true in
    sym (sym c.tables.invariant ∙ any-next test book.tables c.tables.t [] inside ∙ ap (λ (b : Bool). b || list_any test (drop (c.tables.t + 1) book.tables)) here)

pub tables-preserved : goal.tables-preserved
tables-preserved c =
    let book = c.args.book.now in
    let test = has_spanned book.trees c.args.name.now c.args.variable in
    let inside : c.tables.t < length book.tables = omega (arith, c.tables-test.true, c.tables-t-end.ensures) in
    let here : option_map_or test (slice_get book.tables c.tables.t) false ≡ false = sym c.has_spanned.ensures ∙ c.if-has_spanned.false in
    sym (any-next test book.tables c.tables.t [] inside ∙ ap (λ (b : Bool). b || list_any test (drop (c.tables.t + 1) book.tables)) here) ∙ c.tables.invariant
