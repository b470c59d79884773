use Rattle.std.proofs.Common.{ℕ, List, subst}
use Rattle.sdc_base.specs.Answers.{Gives}
use Rattle.release_writer.specs.ReleaseReading.{read_places}
use Rattle.release_writer.specs.Sheets.{release_fault_of, form_of, reading_of}
use Rattle.release_writer.proofs.ReadSteps.{below-all}
use Rattle.release_writer.proofs.below.read_all.Goals as goal

pub returns-clause-exact : goal.returns-clause-exact
returns-clause-exact c =
    let form = form_of c.args.sheet.now in
    subst (λ (xs : List (List ℕ)). Gives release_fault_of (λ _. reading_of c.read_below.new.progress) c.read_below.result (read_places form (reading_of c.args.progress.now) xs)) (below-all form) c.read_below.ensures.exact
