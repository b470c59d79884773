use Rattle.std.proofs.Common.{subst}
use Rattle.std.specs.List.{IsDistinct}
use Rattle.std.specs.Str.{bytes_eq}
use Rattle.microdata.proofs.CodeSets.{distinct-codes}
use Rattle.microdata.proofs.codes.Codes.len.Goals as goal

pub returns-clause-distinct : goal.returns-clause-distinct
returns-clause-distinct c = subst (IsDistinct bytes_eq) c.self.view_is (distinct-codes c.self.inside.set.keys c.len.ensures.unique)
