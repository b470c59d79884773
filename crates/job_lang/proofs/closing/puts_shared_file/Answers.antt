use Rattle.job_lang.proofs.closing.puts_shared_file.Goals as goal

pub returns-in-Output : goal.returns-in-Output
returns-in-Output c = rw c.in-Output.is c.is_shared.ensures
