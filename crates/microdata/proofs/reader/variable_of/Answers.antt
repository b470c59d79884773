use Rattle.std.proofs.Common.{sym, subst}
use Rattle.std.specs.List.{IsDistinct}
use Rattle.std.specs.Str.{bytes_eq}
use Rattle.std.proofs.lemmas.Map.Keys.{IsDistinct-tail}
use Rattle.microdata.specs.Layouts.{IsSource}
use Rattle.microdata.specs.declared.layout.Source.{Source}
use Rattle.microdata.proofs.reader.variable_of.Goals as goal

pub add_all-requires-clause-distinct : goal.add_all-requires-clause-distinct
add_all-requires-clause-distinct c =
    let given = subst (λ (s : Source). IsSource s) c.in-Flat.is c.requires in
    subst (IsDistinct bytes_eq) (sym c.as_slice.ensures) (IsDistinct-tail bytes_eq c.in-Flat.total c.in-Flat.listed given.0)
