use Rattle.std.proofs.Common.{[], ◌+◌, ◌<◌, length, List, ℕ, get_or, ap, sym, ◌∙◌, arith, rules}
use Rattle.std.specs.Prelude.{unwrap_or, slice_get}
use Rattle.sdc_base.specs.Trees.{find}
use Rattle.sdc_base.specs.declared.dimension.Dimension.{Dimension}
use Rattle.apriori.proofs.Places.{no_dimension, behind, from, place_next, place_unknown, place_short}
use Rattle.apriori.proofs.reading.place_in.Goals as goal

pub variables-preserved : goal.variables-preserved
variables-preserved c =
    let trees = c.args.book.now.trees in
    let spanned = c.args.spanned.now in
    let inside : c.variables.at < length spanned = search rules in
    let found = sym c.in_ok-found.was ∙ c.found_in.ensures ∙ ap (λ (xs : List Dimension). find (unwrap_or (slice_get trees (get_or xs c.variables.at no_dimension).variable) []) c.in_ok-code.code.now) c.as_slice.ensures in
    record {
      told =
          ap (λ (front : List ℕ). behind front (from trees spanned (c.variables.at + 1) c.next_field.new.self)) c.push.ensures.items
          ∙ place_next trees spanned c.variables.at no_dimension c.variables.place.items c.in_ok-found.found c.variables.fields c.in_ok-code.code.now c.next_field.new.self inside c.in_ok-code.ensures.field found
          ∙ c.variables.invariant.told;
      count = omega (arith, c.push.ensures.len, c.variables.invariant.count);
    }

pub returns-in_err-code : goal.returns-in_err-code
returns-in_err-code c =
    let inside : c.variables.at < length c.args.spanned.now = search rules in
    rw (c.from_residual.ensures) (place_short c.args.book.now.trees c.args.spanned.now c.variables.at c.variables.place.items c.variables.fields inside c.in_err-code.ensures.end ∙ c.variables.invariant.told)

pub returns-in_err-found : goal.returns-in_err-found
returns-in_err-found c =
    let trees = c.args.book.now.trees in
    let spanned = c.args.spanned.now in
    let inside : c.variables.at < length spanned = search rules in
    let found = sym c.in_err-found.was ∙ c.found_in.ensures ∙ ap (λ (xs : List Dimension). find (unwrap_or (slice_get trees (get_or xs c.variables.at no_dimension).variable) []) c.in_ok-code.code.now) c.as_slice.ensures in
    rw (c.from_residual-in_err-found.ensures) (place_unknown trees spanned c.variables.at no_dimension c.variables.place.items c.variables.fields c.in_ok-code.code.now c.next_field.new.self inside c.in_ok-code.ensures.field found ∙ c.variables.invariant.told)
