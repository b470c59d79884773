use Rattle.std.proofs.Common.{◌++◌, ◌∷◌, [], ℕ, List, append_assoc, ap, ◌∙◌}
use Rattle.cell_listing.proofs.interval_listing.interval_fields.Goals as goal

pub returns-clause-fields : goal.returns-clause-fields
returns-clause-fields c =
    let fields : List (List ℕ) = c.in_ok-fields.fields in
    let low : List ℕ = c.args.ends.now.low.now in
    let high : List ℕ = c.args.ends.now.high.now in
    record {
      without = fields;
      are = c.in_ok-fields.ensures.fields;
      fields_are = c.in_ok-add_word-2.ensures ∙ ap (λ (all : List (List ℕ)). all ++ high ∷ []) c.in_ok-add_word.ensures ∙ append_assoc fields (low ∷ []) (high ∷ []);
    }
