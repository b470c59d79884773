use Rattle.std.proofs.Common.{◌≡◌, ◌∙◌, ap, ◌++◌, [], ◌∷◌, false, List, ℕ}
use Rattle.std.specs.List.{list_any}
use Rattle.std.specs.Str.{bytes_eq}
use Rattle.microdata.proofs.CodeSets.{codes_in, insert-last}
use Rattle.microdata.proofs.codes.Codes.push.Goals as goal

pub returns : goal.returns
returns c =
    let keys = c.self.inside.set.keys in
    let new : list_any (bytes_eq c.in_ok-code.code.items) (codes_in keys) ≡ false =
    ap (λ (code : List ℕ). list_any (bytes_eq code) (codes_in keys)) c.in_ok-code.ensures.items ∙ ap (list_any (bytes_eq c.args.code.now)) c.self.view_is ∙ c.requires in
    ap codes_in c.in_ok-insert.ensures.keys
    ∙ insert-last keys c.in_ok-code.code new
    ∙ ap (λ codes. codes ++ c.in_ok-code.code.items ∷ []) c.self.view_is
    ∙ ap (λ code. c.args.self.now ++ code ∷ []) c.in_ok-code.ensures.items
