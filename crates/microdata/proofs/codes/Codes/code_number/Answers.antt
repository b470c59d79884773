use Rattle.std.proofs.Common.{◌∙◌, ap, sym, position}
use Rattle.std.specs.List.{list_any}
use Rattle.std.specs.Str.{bytes_eq}
use Rattle.microdata.proofs.CodeSets.{position-in, any-in-codes, none-found}
use Rattle.microdata.proofs.codes.Codes.code_number.Goals as goal

pub returns-clause-place : goal.returns-clause-place
returns-clause-place c = c.get_index_of.ensures.index ∙ position-in (bytes_eq c.args.code.now) c.self.inside.set.keys ∙ ap (position (bytes_eq c.args.code.now)) c.self.view_is

pub returns-clause-none : goal.returns-clause-none
returns-clause-none c =
    none-found c.get_index_of.result (list_any (bytes_eq c.args.code.now) c.args.self.now)
    (c.get_index_of.ensures.found ∙ sym (any-in-codes (bytes_eq c.args.code.now) c.self.inside.set.keys) ∙ ap (list_any (bytes_eq c.args.code.now)) c.self.view_is)
