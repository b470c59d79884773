use Rattle.std.proofs.Common.{◌≡◌, ◌+◌, ◌-◌, true, false, sym, ◌∙◌, arith}
use Rattle.job_lang.specs.LineTokens.{is_next}
use Rattle.job_lang.specs.TableTexts.{most_variables}
use Rattle.job_lang.proofs.NameLists.{names_go_on, names_stop, names_end, names_full}
use Rattle.job_lang.proofs.table_texts.variables_at.Goals as goal

pub returns-then-not-is_next : goal.returns-then-not-is_next
returns-then-not-is_next c =
    let next : is_next 34 c.loop-k.cursor ≡ false = cc in
    sym c.loop-k.invariant ∙ names_end (most_variables - c.loop-k.k) (most_variables - 1 - c.loop-k.k) c.loop-k.names c.loop-k.cursor (omega arith) next

pub returns-in-Err : goal.returns-in-Err
returns-in-Err c =
    let next : is_next 34 c.loop-k.cursor ≡ true = cc in
    rw (← c.loop-k.invariant) (names_stop (most_variables - c.loop-k.k) (most_variables - 1 - c.loop-k.k) c.loop-k.names c.loop-k.cursor _ (omega arith) next c.in-Err.ensures)

pub loop-k-preserved : goal.loop-k-preserved
loop-k-preserved c =
    let next : is_next 34 c.loop-k.cursor ≡ true = cc in
    rw (c.in_ok-push.ensures.ok, c.in_ok-from_slice.ensures) (names_go_on (most_variables - c.loop-k.k) (most_variables - (c.loop-k.k + 1)) c.loop-k.names c.loop-k.cursor _ _ (omega arith) next c.in-Ok.ensures ∙ c.loop-k.invariant)

pub returns : goal.returns
returns c = sym c.loop-k.invariant ∙ names_full (most_variables - c.loop-k.k) c.loop-k.names c.loop-k.cursor (omega arith)
