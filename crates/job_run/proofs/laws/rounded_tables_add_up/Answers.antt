use Rattle.job_run.proofs.ShownLaws.{show_adjacent, margins_add_up}
use Rattle.job_run.proofs.laws.rounded_tables_add_up.Goals as goal

pub returns-clause-adjacent : goal.returns-clause-adjacent
returns-clause-adjacent c = show_adjacent

pub returns-clause-margins : goal.returns-clause-margins
returns-clause-margins c = margins_add_up
