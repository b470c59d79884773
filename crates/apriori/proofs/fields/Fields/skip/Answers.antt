use Rattle.std.proofs.Common.{ap, List, ℕ, drop, ◌∙◌}
use Rattle.std.proofs.lemmas.List.{drop-drop}
use Rattle.apriori.proofs.fields.Fields.skip.Goals as goal

pub fields-preserved : goal.fields-preserved
fields-preserved c =
    c.pass.ensures ∙ ap (λ (fields : List (List ℕ)). drop 1 fields) c.fields.invariant ∙ drop-drop 1 c.fields.counter c.args.self.now
