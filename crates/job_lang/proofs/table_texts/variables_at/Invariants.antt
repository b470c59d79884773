use Rattle.std.proofs.Common.{◌≡◌, ◌-◌}
use Rattle.job_lang.specs.TableTexts.{most_variables, names_up_to}
use Rattle.job_lang.proofs.NameLists.{with_names}
use Rattle.job_lang.proofs.table_texts.variables_at.Given as goal

abbrev pub invariant-loop-k : goal.invariant-loop-k
invariant-loop-k l = with_names l.names (names_up_to (most_variables - l.k) l.cursor) ≡ names_up_to most_variables l.fn.cursor
