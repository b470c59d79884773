use Rattle.std.proofs.Common.{ap, sym, [], List, length}
use Rattle.sdc_base.specs.declared.dimension.Dimension.{Dimension}
use Rattle.sdc_base.proofs.GrowingLists.{read-none}
use Rattle.tests_releases.proofs.release_reading_tests.spanned.Goals as goal

pub returns-in-None-clause-size : goal.returns-in-None-clause-size
returns-in-None-clause-size c = ap (λ (table : List Dimension). length table) (sym (read-none c.args.book.now.tables c.args.t [] c.in-None.ensures))
