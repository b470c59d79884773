use Rattle.std.proofs.Common.{sym, subst}
use Rattle.std.specs.Prelude.{slice_set}
use Rattle.apriori.specs.declared.prior.Prior.{Prior}
use Rattle.apriori.specs.Priors.{ArePriors}
use Rattle.apriori.specs.Noting.{with_statement}
use Rattle.apriori.proofs.Priors.{priors_set}
use Rattle.apriori.proofs.noting.note.Goals as goal

pub returns-clause-priors : goal.returns-clause-priors
returns-clause-priors c =
    let marks = c.args.book.now.marks in
    let priors = c.args.priors.now.items in
    let said = c.args.said in
    subst (λ (p : Prior). ArePriors marks (slice_set priors said.cell p)) (sym c.with_statement.ensures)
    (subst (λ (p : Prior). ArePriors marks (slice_set priors said.cell (with_statement c.args.table p said))) (sym c.index.ensures)
    (priors_set marks priors c.args.table said c.index.result.now c.requires.priors c.requires.within c.requires.fits))
