use Rattle.plain_text.proofs.Joined.{read_again}
use Rattle.job_lang.proofs.SpelledText.{text_read, round_trip}
use Rattle.job_lang.proofs.WritableRead.{writable}
use Rattle.job_lang.proofs.laws.jobs_are_read_again.Goals as goal

pub returns-clause-text : goal.returns-clause-text
returns-clause-text c = text_read read_again

pub returns-clause-round_trip : goal.returns-clause-round_trip
returns-clause-round_trip c = round_trip read_again

pub returns-clause-writable : goal.returns-clause-writable
returns-clause-writable c = writable

pub returns-clause-again : goal.returns-clause-again
returns-clause-again c = λ bytes job h. text_read read_again job (writable bytes job h)
