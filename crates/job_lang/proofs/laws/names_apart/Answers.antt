use Rattle.job_lang.proofs.NamesApart.{not_read}
use Rattle.job_lang.proofs.laws.names_apart.Goals as goal

pub returns-clause-read : goal.returns-clause-read
returns-clause-read c = not_read
